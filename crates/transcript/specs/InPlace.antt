-- The session in place: what is written in it is its change, and the tables that hint at quotes stay true, after an order or a deletion and
-- after a quote.
use Rattle.std.specs.Prelude.{ℕ, ◌+◌, ◌%◌, ◌≡◌, refl, List, length, set}
use Rattle.terms.specs.Bounds.{places}
use Rattle.book.specs.declared.{Book.Book, Values.Values}
use Rattle.book.specs.Columns.{written}
use Rattle.quotes.specs.declared.{Pair.Pair}
use Rattle.quotes.specs.Quotes.{requoted, requoted_book}
use Rattle.quotes.specs.QuoteHints.{quote_hints, Hinted, sound-one-quote, hinted-plain, hinted-requoted}
use Rattle.effects.specs.declared.quoting.{QuoteChange.QuoteChange}
use Rattle.effects.specs.QuoteEffects.{TwoSides}
use Rattle.session.specs.declared.{Session.Session}
use Rattle.session.specs.Sound.{legal_price, Sound}
use Rattle.transcript.specs.Steps.{QuotesKnown}

-- of the columns of a book
abbrev pub HintedBy : Book → List ℕ → ℕ → Type 0
HintedBy b hints side = Hinted b.quoted b.member b.side hints side

abbrev pub HintedIn : Session → List ℕ → ℕ → Type 0
HintedIn s hints side = HintedBy s.book hints side

pub quotes-known : (s : Session) → Sound s → {bids asks : List ℕ} → HintedIn s bids 1 → HintedIn s asks 2
    → QuotesKnown s.book.quoted s.book.member s.book.side bids asks
quotes-known s sound h k = record { once = sound-one-quote (legal_price s) s.given s.book sound.book-sound; bids-hinted = h; asks-hinted = k }

-- a place with an order that is no side of a quote, or with none
pub still-hinted : {quoted members sides hints : List ℕ} {side : ℕ} → Hinted quoted members sides hints side → (place m s : ℕ) {quoted' members' sides' : List ℕ} {q : ℕ}
    → quoted' ≡ set quoted place q → q ≡ 0 → members' ≡ set members place m → sides' ≡ set sides place s → Hinted quoted' members' sides' hints side
still-hinted h place m s q plain n t = rw (q, plain, n, t) (hinted-plain h place m s)

-- a quote, hinted at
pub quote-hinted : {quoted members sides hints : List ℕ} {side : ℕ} → Hinted quoted members sides hints side → length members ≡ places → (old fresh : Pair) (m place : ℕ)
    {quoted' members' sides' hints' : List ℕ} {x y n b a : ℕ} → quoted' ≡ requoted 0 quoted old fresh x y → x ≡ 1 → y ≡ 1 → members' ≡ requoted 0 members old fresh m n → n ≡ m
    → sides' ≡ requoted 0 sides old fresh b a → b ≡ 1 → a ≡ 2 → hints' ≡ set hints (m % quote_hints) (place + 1) → Hinted quoted' members' sides' hints' side
quote-hinted h long old fresh m place q x y members one sides buys sells hints =
    rw (q, x, y, members, one, sides, buys, sells, hints) (hinted-requoted h long old fresh m place)

-- .. of a whole book: written at a place with values that are no side of a quote
pub written-hinted : (b : Book) {after : Book} {hints : List ℕ} {side : ℕ} → HintedBy b hints side → (words : List ℕ) (place : ℕ) (r : Values) → r.quoted ≡ 0
    → after ≡ written b words place r → HintedBy after hints side
written-hinted b h words place r plain e = rw e (still-hinted h place r.member r.side refl plain refl refl)

-- .. or with a quote in place of the old one
pub requoted-hinted : (b : Book) {after : Book} {hints hints' : List ℕ} {side : ℕ} → HintedBy b hints side → length b.member ≡ places → (c : QuoteChange) → TwoSides c → (place : ℕ)
    → after ≡ requoted_book b c.old c.fresh c.bid c.ask → hints' ≡ set hints (c.bid.member % quote_hints) (place + 1) → HintedBy after hints' side
requoted-hinted b h long c two place e hint =
    rw e (quote-hinted h long c.old c.fresh c.bid.member place refl two.bid-marked two.ask-marked refl two.one-member refl two.buys two.sells hint)
