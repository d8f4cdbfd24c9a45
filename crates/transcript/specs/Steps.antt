-- What a record does to the session that is told: an answer with nothing or with a change at a place, or a call. Its trades are few, its lines have room,
-- the session after it is sound; and what its writing promises.
use Rattle.std.specs.Prelude.{ℕ, ◌+◌, ◌*◌, ◌≤◌, ◌<◌, false, ◌≡◌, refl, List, [], length, Result, Ok, Err}
use Rattle.std.proofs.Common.{sym, ap, ◌∙◌, append-nil, arith, length-append}
use Rattle.terms.specs.Bounds.{places, max_trades, trade_list_length}
use Rattle.terms.specs.Orders.{auction_from}
use Rattle.terms.specs.declared.orders.{Auction.Auction}
use Rattle.trades.specs.declared.{Trade.Trade}
use Rattle.refusals.specs.Checks.{answered-cases}
use Rattle.book.specs.Resting.{resting, place_in}
use Rattle.book.specs.ByPlace.{resting-length}
use Rattle.queue.proofs.Part.{taking_part-length}
use Rattle.auction.specs.declared.{Outcome.Outcome, Outcome.TheVariants.Traded, Outcome.TheVariants.NoTrade, Outcome.TheVariants.NonOpening, Outcome.TheVariants.Delayed}
use Rattle.trades.proofs.TradesOf.{trades-count}
use Rattle.auction.specs.Outcome.{trades}
use Rattle.session.specs.declared.{Session.Session}
use Rattle.session.specs.Sound.{Sound}
use Rattle.entries.specs.SoundAfter.{started-sound, entered-sound, deleted-sound}
use Rattle.answers.proofs.SoundAfter.{auctioned-sound}
use Rattle.answers.specs.Auctions.{auction_checks, outcome_of, trades_now}
use Rattle.session.specs.State.{part}
use Rattle.records.specs.declared.{kinds.Record.Record}
use Rattle.records.specs.Walk.{Read, record_at}
use Rattle.records.specs.BandsRead.{BandsAt, record_in, bands-record}
use Rattle.lines.specs.Line.{line_of, trade_lines, numbered_line, done_line, quote_line}
use Rattle.lines.specs.Lengths.{line_room, trade_room, line-length, trades-room}
use Rattle.lists.specs.Put.{Wrote, put_then}
use Rattle.transcript.specs.declared.{Stepped.Stepped, Doing.Doing}
use Rattle.transcript.specs.Transcript.{Step, step, step_lines, lent, order_step, delete_step, quote_step}
use Rattle.terms.specs.declared.kinds.{Price.Price}
use Rattle.terms.specs.declared.parameters.{Start.Start, Parameters.Parameters}
use Rattle.controls.specs.declared.phases.{Phase.Phase}
use Rattle.effects.specs.declared.{Change.Change}
use Rattle.effects.specs.Effects.{order_effect, delete_effect, order-place, order-plain, delete-place, delete-plain}
use Rattle.effects.specs.declared.quoting.{QuoteChange.QuoteChange}
use Rattle.effects.specs.QuoteEffects.{quote_effect, TwoSides, two-sides}
use Rattle.entries.specs.Entry.{control_reference, entered, deleted}
use Rattle.quotation.specs.Quote.{quoted}
use Rattle.quotation.specs.QuoteCall.{requoted_in, old_pair, old_in, quote_in, quoted_by, quoted-by, quote-placed}
use Rattle.quotation.specs.QuoteSound.{quoted-sound}
use Rattle.quotes.specs.QuoteHints.{OneQuoteIn, Hinted}
use Rattle.entries.specs.Changes.{changed, order_in, delete_in, entered_by, deleted_by, entered_by_lem, deleted-by}
use Rattle.lines.specs.declared.{words.Word.Word, Line.Line}

-- the session after a step, and the lines of the record at its place from 1 written into the buffer
abbrev pub WroteStep : ℕ → List ℕ → List ℕ → ℕ → Stepped Session → Step → Type 0
WroteStep place old new at r done = (r.session ≡ done.session) × Wrote old new at r.at (step_lines place done)

-- .. of a record without trades: its answer's line is all
pub wrote-alone : (place : ℕ) (old new : List ℕ) (at : ℕ) (r : Stepped Session) (did done : Step) → did ≡ done → did.trades ≡ []
    → r.session ≡ did.session → Wrote old new at r.at (line_of place did.line) → WroteStep place old new at r done
wrote-alone place old new at r did done e none next w = rw (← e) (next, rw (none, append-nil (line_of place did.line)) w)

-- .. of one with trades: the line, and theirs behind it
pub wrote-both : (place : ℕ) (old between new : List ℕ) (at p : ℕ) (r : Stepped Session) (did done : Step) → at ≤ length old → did ≡ done → r.session ≡ did.session
    → Wrote old between at p (line_of place did.line) → Wrote between new p r.at (trade_lines did.trades) → WroteStep place old new at r done
wrote-both place old between new at p r did done room e next line lines =
    rw (← e) (next, put_then old between new at p r.at (line_of place did.line) (trade_lines did.trades) room line lines)

-- room that suffices for the lines of one record: its own, and those of 511 trades
abbrev pub record_room : ℕ
record_room = line_room + trade_room * max_trades

pub trades-few : (s : Session) (a : Auction) → length (trades_now s a) ≤ max_trades
trades-few s a = go (outcome_of s a) where
  go : (o : Outcome) → length (trades o (part s a)) ≤ max_trades
  go (Traded price quantity) = omega (arith, trades-count quantity (part s a), taking_part-length a (resting s.book), resting-length s.book places)
  go NoTrade = omega arith
  go NonOpening = omega arith
  go (Delayed price quantity) = omega arith

step-trades : (s : Session) (r : Record) → length (step s r).trades ≤ max_trades
step-trades s (Record.Start p) = omega arith
step-trades s (Record.Order e) = omega arith
step-trades s (Record.Delete d) = omega arith
step-trades s (Record.Quote e) = omega arith
step-trades s (Record.Bands p) = omega arith
step-trades s (Record.Auction which) =
    answered-cases (auction_checks s which trade_list_length) (λ n. []) (trades_now s (auction_from which)) (λ (ts : List Trade). length ts ≤ max_trades)
    (λ n h e. omega arith) (λ e. trades-few s (auction_from which))

pub step_room : (place : ℕ) (s : Session) (r : Record) → length (step_lines place (step s r)) ≤ record_room
step_room place s r =
    let done = step s r in
    omega (arith, length-append (line_of place done.line) (trade_lines done.trades), line-length place done.line, trades-room done.trades, step-trades s r)

pub step-sound : (s : Session) (r : Record) → Sound s → Sound (step s r).session
step-sound s (Record.Start p) h = started-sound s _ h
step-sound s (Record.Order e) h = entered-sound s e h
step-sound s (Record.Delete d) h = deleted-sound s d.number d.member h
step-sound s (Record.Auction which) h = auctioned-sound s which lent h
step-sound s (Record.Quote e) h = quoted-sound s e h
step-sound s (Record.Bands p) h = started-sound s p h

abbrev pub change_doing : Word → Result Change ℕ → Doing
change_doing word (Err n) = Doing.Refused word n
change_doing word (Ok c) = Doing.Done word c

abbrev pub order_doing : Result Change ℕ → Doing
order_doing = change_doing Word.Order

abbrev pub delete_doing : Result Change ℕ → Doing
delete_doing = change_doing Word.Delete

abbrev pub quote_doing : Result QuoteChange ℕ → Doing
quote_doing (Err n) = Doing.Refused Word.Quote n
quote_doing (Ok c) = Doing.Quoted c

-- one side of a quote for a member at most, and those that rest are hinted at
pub record QuotesKnown (quoted members sides bids asks : List ℕ) : Type 0 where
  pub once : OneQuoteIn quoted members sides
  pub bids-hinted : Hinted quoted members sides bids 1
  pub asks-hinted : Hinted quoted members sides asks 2

abbrev pub doing_of : Record → Phase → Parameters → Price → ℕ → List ℕ → List ℕ → List ℕ → List ℕ → List ℕ → Doing
doing_of (Record.Start p) phase parameters reference given taken numbers members quoted sides = Doing.Start p
doing_of (Record.Order e) phase parameters reference given taken numbers members quoted sides = order_doing (order_effect phase parameters reference false given taken e)
doing_of (Record.Delete d) phase parameters reference given taken numbers members quoted sides = delete_doing (delete_effect phase given taken (place_in taken numbers members d.number d.member 0 places) d.number d.member)
doing_of (Record.Auction which) phase parameters reference given taken numbers members quoted sides = Doing.Auction which
doing_of (Record.Quote e) phase parameters reference given taken numbers members quoted sides = quote_doing (quote_effect phase parameters reference false given taken (old_pair quoted members sides e.member) e)
doing_of (Record.Bands p) phase parameters reference given taken numbers members quoted sides = Doing.Bands

abbrev pub doing_in : Session → Record → Doing
doing_in s r = doing_of r s.phase s.parameters (control_reference s) s.given s.book.taken s.book.number s.book.member s.book.quoted s.book.side

-- a step without trades
abbrev pub quiet : Session → Line → Step
quiet s l = record { session = s; line = l; trades = [] }

-- by what it does
abbrev pub Does : Session → Record → Doing → Type 0
Does s r (Doing.Refused w n) = quiet s (numbered_line w n 0) ≡ step s r
Does s r (Doing.Done w c) = (quiet (changed s c) (done_line w c.given) ≡ step s r) × (c.place < places) × (c.values.quoted ≡ 0)
Does s r (Doing.Quoted c) = (quiet (requoted_in s c) (quote_line c.bid.number c.ask.number) ≡ step s r) × ((c.fresh.bid < places) × (c.fresh.ask < places)) × TwoSides c
Does s r (Doing.Start p) = r ≡ Record.Start p
Does s r (Doing.Auction which) = r ≡ Record.Auction which
Does s r Doing.Bands = (p : Start) × (r ≡ Record.Bands p)

-- what a record does is what its call answers and leaves
pub does : (s : Session) → Sound s → (r : Record) → Does s r (doing_in s r)
does s sound (Record.Start p) = refl
does s sound (Record.Order e) = go (order_in s e) (entered_by_lem s e) (λ c h. (order-place s.phase s.parameters (control_reference s) false s.given s.book.taken e h, order-plain s.phase s.parameters (control_reference s) false s.given s.book.taken e h)) where
  go : (f : Result Change ℕ) → entered_by s f ≡ entered s e → ((c : Change) → f ≡ Ok c → (c.place < places) × (c.values.quoted ≡ 0)) → Does s (Record.Order e) (order_doing f)
  go (Err n) h p = ap order_step h
  go (Ok c) h p = (ap order_step h, (p c refl).0, (p c refl).1)
does s sound (Record.Delete d) = go (delete_in s d.number d.member) (deleted-by s d.number d.member) (λ c h. (delete-place s.phase s.given s.book.taken _ d.number d.member h, delete-plain s.phase s.given s.book.taken _ d.number d.member h)) where
  go : (f : Result Change ℕ) → deleted_by s f ≡ deleted s d.number d.member → ((c : Change) → f ≡ Ok c → (c.place < places) × (c.values.quoted ≡ 0)) → Does s (Record.Delete d) (delete_doing f)
  go (Err n) h p = ap delete_step h
  go (Ok c) h p = (ap delete_step h, (p c refl).0, (p c refl).1)
does s sound (Record.Auction which) = refl
does s sound (Record.Quote e) = go (quote_in s e) (quoted-by s e sound) (λ c h. (quote-placed s e h, two-sides s.phase s.parameters (control_reference s) false s.given s.book.taken (old_in s e.member) e h)) where
  go : (f : Result QuoteChange ℕ) → quoted_by s f ≡ quoted s e → ((c : QuoteChange) → f ≡ Ok c → ((c.fresh.bid < places) × (c.fresh.ask < places)) × TwoSides c) → Does s (Record.Quote e) (quote_doing f)
  go (Err n) h p = ap quote_step h
  go (Ok c) h p = (ap quote_step h, (p c refl).0, (p c refl).1)
does s sound (Record.Bands p) = (p, refl)

-- .. found from the parts
pub does-found : (s : Session) → Sound s → (r : Record) {d : Doing} → d ≡ doing_in s r → Does s r d
does-found s sound r h = rw h (does s sound r)

-- a start by bands stands there, and is what is read there (02 K6)
pub bands-told : (bytes : List ℕ) (place next : ℕ) {r : Record} → record_at bytes place ≡ Read.Record r next → (p : Start) × (r ≡ Record.Bands p)
    → BandsAt bytes place × (r ≡ record_in bytes place)
bands-told bytes place next e w =
    let b : BandsAt bytes place = record { start = w.0; behind = next; stands = e ∙ ap (λ (r : Record). Read.Record r next) w.1 } in
    (b, w.1 ∙ sym (bands-record bytes place b))

-- a record's lines are those of the record that it is
pub wrote_as : (s : Session) (place at : ℕ) (old out : List ℕ) (done : Stepped Session) {r q : Record} → r ≡ q
    → WroteStep place old out at done (step s q) → WroteStep place old out at done (step s r)
wrote_as s place at old out done e w = rw e w
