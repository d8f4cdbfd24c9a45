-- "Who owes whom" (02 K5): after every run of calls the square is the sum worked out from the list of all trades so far (K5a), and all its cells
-- together equal the sum of the quantities of all auctions of outcome 1 (K5b).
use Rattle.std.specs.Prelude.{ℕ, ◌+◌, ◌≤◌, ◌<◌, Bool, true, false, cond, ◌&&◌, ◌⊎◌, ◌≡◌, refl, List, [], ◌∷◌, ◌++◌, map, eqb, ltb, length, get_or, set}
use Rattle.std.proofs.Common.{inl, ⊎_elim, sym, subst, ◌∙◌, append_assoc, append-nil, arith, eq-eqb, ne_eqb, eqb-true, get_or-take, get_or-set_same, get_or-set_other}
use Rattle.std.proofs.Math.Logic.{inr}
use Rattle.std.proofs.Math.Path.{ap}
use mathlib.Core.List.Memᴰ
use Rattle.std.proofs.lemmas.Bool.{eqb-false}
use Rattle.lists.specs.Tests.{tests, decided}
use Rattle.lists.specs.Sums.{◌∈◌, counted, sum-append, sum_same, sum-none, sum-map}
use Rattle.terms.specs.Bounds.{places}
use Rattle.terms.specs.Orders.{Resting, auction_number, auction_from}
use Rattle.terms.specs.declared.orders.{Side.Side, Side.TheVariants.Buy, Side.TheVariants.Sell, Auction.Auction, Entry.Entry}
use Rattle.terms.specs.declared.quote_terms.{QuoteEntry.QuoteEntry}
use Rattle.book.specs.Resting.{resting}
use Rattle.book.specs.ByPlace.{resting-elim}
use Rattle.queue.proofs.Part.{taking_part-elim}
use Rattle.queue.proofs.Reach.{resting-distinct}
use Rattle.trades.specs.declared.{Trade.Trade}
use Rattle.trades.specs.Trades.{party, volume}
use Rattle.trades.specs.Written.{trades_written}
use Rattle.squares.specs.Square.{square_members, cell_of, total, added_to, cell-le-total}
use Rattle.squares.specs.Rows.{row-holds}
use Rattle.squares.specs.Cells.{InSquare, between, cell-after, total-after, cell-handed-out}
use Rattle.auction.specs.declared.{Outcome.Outcome, Outcome.TheVariants.Traded, Outcome.TheVariants.NoTrade, Outcome.TheVariants.NonOpening, Outcome.TheVariants.Delayed}
use Rattle.auction.specs.Outcome.{trades, price_answered}
use Rattle.refusals.specs.Checks.{answered-cases}
use Rattle.session.specs.declared.{Session.Session}
use Rattle.session.specs.State.{part}
use Rattle.session.specs.Sound.{legal_price}
use Rattle.courses.specs.Answer.{answer_of}
use Rattle.answers.specs.Auctions as auctions
use Rattle.entries.specs.declared.{Entered.Entered}
use Rattle.quotation.specs.declared.{Quoted.Quoted}
use Rattle.desk.specs.declared.{Desk.Desk}
use Rattle.desk.specs.Desk.{fresh_desk, known, row_in, with_totals, entering}
use Rattle.desk.specs.Calls.{order_checks, order_refused, order_done, entered, quote_checks, quote_refused, quote_done, quoted}
use Rattle.desk.specs.EntryCalls.{known-length}
use Rattle.desk.specs.Sound.{SoundDesk}
use Rattle.desk.specs.SoundAfter.{fresh-desk-sound, started-desk-sound, entered-desk-sound, quoted-desk-sound, deleted-desk-sound}
use Rattle.desk_auction.specs.Auctions.{member_of, row_of_order, trades_listed, cleared_by, auctioned}
use Rattle.desk_auction.specs.AuctionCalls.{member_of_lem}
use Rattle.desk_auction.specs.SoundAfter.{auctioned-desk-sound}
use Rattle.demands.specs.Sequences.{Act, Call}
use Rattle.demands.specs.Outcomes.{accepted-number}
use Rattle.demands.specs.Auctioned.{TookPlace, ListWritten, list_written}
use Rattle.clearing_laws.specs.Runs.{acted, after, run, Deal, deal_of, dealt, deals_so_far, owed_by, owed, member_at, quantity_of, quantity_traded, traded_so_far}
use Rattle.clearing_laws.specs.Owed.{Between, IsEntered, Owes}

module _ (d : Desk) (sound : SoundDesk d) where
  -- a row below the count is its member's
  stands : (m : ℕ) → row_in d m < d.count → member_at d (row_in d m) ≡ m
  stands m h = sym (get_or-take d.count d.members (row_in d m) 0 h) ∙ row-holds (known d) m (omega (arith, known-length d sound))

  row-of-entered : (m : ℕ) → IsEntered d m → row_in d m < d.count
  row-of-entered m (i, h, e) = let at : row_in d m ≡ i = ap (row_in d) (sym e) ∙ sound.in_order i h in omega arith

  -- rows tell members apart
  row-tells : (m : ℕ) → row_in d m < d.count → (i : ℕ) → i < d.count → eqb (row_in d m) i ≡ eqb m (member_at d i)
  row-tells m h i k = go (eqb m (member_at d i)) refl
    where
      go : (t : Bool) → eqb m (member_at d i) ≡ t → eqb (row_in d m) i ≡ t
      go true e = eq-eqb (row_in d m) i (ap (row_in d) (eqb-true m (member_at d i) e) ∙ sound.in_order i k)
      go false e = ne_eqb (row_in d m) i (λ r. eqb-false m (member_at d i) e (sym (stands m h) ∙ ap (member_at d) r))

-- ---- the invariant: each cell has what the trades so far make, and only members that are entered traded
record Accounts (d : Desk) (deals : List Deal) : Type 0 where
  cells : (i j : ℕ) → i < d.count → j < d.count → get_or d.totals (cell_of i j) 0 ≡ owed (member_at d i) (member_at d j) deals
  others : (i j : ℕ) → i < square_members → j < square_members → (d.count ≤ i) ⊎ (d.count ≤ j) → get_or d.totals (cell_of i j) 0 ≡ 0
  dealers : (x : Deal) → x ∈ deals → IsEntered d x.buyer × IsEntered d x.seller

-- ---- a call that trades nothing: the cells stay, and so do the members and their rows, to which others may come
record Keeps (d e : Desk) : Type 0 where
  same : e.totals ≡ d.totals
  grown : d.count ≤ e.count
  kept : (i : ℕ) → i < d.count → member_at e i ≡ member_at d i

keeps-all : (d : Desk) → Keeps d d
keeps-all d = record { same = refl; grown = omega arith; kept = λ i h. refl }

entering-keeps : (d : Desk) → SoundDesk d → (m : ℕ) (s : Session) (rows : List ℕ) → Keeps d (entering d m s rows)
entering-keeps d sound m s rows = record { same = refl; grown = more (eqb (row_in d m) d.count) refl; kept = λ i h. still i h (eqb i (row_in d m)) refl }
  where
    more : (t : Bool) → eqb (row_in d m) d.count ≡ t → d.count ≤ cond t (row_in d m + 1) d.count
    more true e = omega (arith, eqb-true (row_in d m) d.count e)
    more false e = omega arith

    still : (i : ℕ) → i < d.count → (t : Bool) → eqb i (row_in d m) ≡ t → get_or (set d.members (row_in d m) m) i 0 ≡ get_or d.members i 0
    still i h true e =
        let at : i ≡ row_in d m = eqb-true i (row_in d m) e in
        rw at (get_or-set_same d.members (row_in d m) m 0 (omega (arith, sound.few, sound.members-long)) ∙ sym (stands d sound m (omega arith)))
    still i h false e = get_or-set_other d.members (row_in d m) i m 0 (eqb-false i (row_in d m) e)

ordered_keeps : (d : Desk) → SoundDesk d → (e : Entry) → Keeps d (entered d e).session
unfolding entered
ordered_keeps d sound e =
    answered-cases (order_checks d e) (order_refused d) (order_done d e) (λ (r : Entered Desk). Keeps d r.session) (λ n h i. keeps-all d) (λ i. entering-keeps d sound e.member _ _)

quoted-keeps : (d : Desk) → SoundDesk d → (e : QuoteEntry) → Keeps d (quoted d e).session
unfolding quoted
quoted-keeps d sound e =
    answered-cases (quote_checks d e) (quote_refused d) (quote_done d e) (λ (r : Quoted Desk). Keeps d r.session) (λ n h i. keeps-all d) (λ i. entering-keeps d sound e.member _ _)

nothing : (t : Bool) (n : ℕ) → counted (t && false) n ≡ 0
nothing true n = refl
nothing false n = refl

module _ (d e : Desk) (sound : SoundDesk e) (k : Keeps d e) (deals : List Deal) (so_far : Accounts d deals) where
  -- no trade so far names a member that came
  apart : (m : ℕ) → IsEntered d m → (i : ℕ) → d.count ≤ i → i < e.count → eqb m (member_at e i) ≡ false
  apart m (p, h, is) i new here =
      ne_eqb m (member_at e i) (λ same. let at : p ≡ i = sym (sound.in_order p (omega (arith, k.grown))) ∙ ap (row_in e) (k.kept p h ∙ is ∙ same) ∙ sound.in_order i here in omega arith)

  of-new : (i j : ℕ) → i < e.count → j < e.count → (d.count ≤ i) ⊎ (d.count ≤ j) → owed (member_at e i) (member_at e j) deals ≡ 0
  of-new i j hi hj new = sum-none _ deals (λ x m.
      let (b, s) = so_far.dealers x m in
      ⊎_elim (λ l. rw (apart x.buyer b i l hi)) (λ l. rw (apart x.seller s j l hj) (nothing (eqb x.buyer (member_at e i)) x.quantity)) new)

  cell-kept : (i j : ℕ) → get_or e.totals (cell_of i j) 0 ≡ get_or d.totals (cell_of i j) 0
  cell-kept i j = ap (λ (cells : List ℕ). get_or cells (cell_of i j) 0) k.same

  new-cell : (i j : ℕ) → i < e.count → j < e.count → (d.count ≤ i) ⊎ (d.count ≤ j) → get_or e.totals (cell_of i j) 0 ≡ owed (member_at e i) (member_at e j) deals
  new-cell i j hi hj new = cell-kept i j ∙ so_far.others i j (omega (arith, sound.few)) (omega (arith, sound.few)) new ∙ sym (of-new i j hi hj new)

  old-cell : (i j : ℕ) → i < d.count → j < d.count → get_or e.totals (cell_of i j) 0 ≡ owed (member_at e i) (member_at e j) deals
  old-cell i j hi hj = cell-kept i j ∙ so_far.cells i j hi hj ∙ rw (k.kept i hi, k.kept j hj)

  each-cell : (i j : ℕ) → i < e.count → j < e.count → get_or e.totals (cell_of i j) 0 ≡ owed (member_at e i) (member_at e j) deals
  each-cell i j hi hj =
      ⊎_elim
      (λ a. ⊎_elim (λ b. old-cell i j (omega tests) (omega tests)) (λ b. new-cell i j hi hj (inr (omega tests))) (decided (ltb j d.count)))
      (λ a. new-cell i j hi hj (inl (omega tests)))
      (decided (ltb i d.count))

  still-entered : (m : ℕ) → IsEntered d m → IsEntered e m
  still-entered m (i, h, is) = (i, omega (arith, k.grown), k.kept i h ∙ is)

  accounts-kept : Accounts e deals
  accounts-kept = record {
    cells = each-cell;
    others = λ i j hi hj out. cell-kept i j ∙ so_far.others i j hi hj (⊎_elim (λ l. inl (omega (arith, k.grown))) (λ l. inr (omega (arith, k.grown))) out);
    dealers = λ x m. let (b, s) = so_far.dealers x m in (still-entered x.buyer b, still-entered x.seller s);
  }

module _ (d : Desk) (sound : SoundDesk d) (ts : List Trade) (rows : Between d ts) where
  inside : InSquare (row_of_order d) ts
  inside t m = (omega (arith, rows Buy t m, sound.few), omega (arith, rows Sell t m, sound.few))

  abbrev totals : List ℕ
  totals = added_to (row_of_order d) ts d.totals

  cell-added : (i j : ℕ) → i < square_members → j < square_members → get_or totals (cell_of i j) 0 ≡ get_or d.totals (cell_of i j) 0 + between (row_of_order d) i j ts
  cell-added i j hi hj = cell-after (row_of_order d) i j hi hj ts inside d.totals sound.totals-long

  -- by rows or by members, it is as much
  by_members : (i j : ℕ) → i < d.count → j < d.count → between (row_of_order d) i j ts ≡ owed (member_at d i) (member_at d j) (map (deal_of d) ts)
  by_members i j hi hj =
      let book = resting d.session.book in
      sum_same _ _ ts (λ t m. rw (row-tells d sound (member_of book t.buy) (rows Buy t m) i hi, row-tells d sound (member_of book t.sell) (rows Sell t m) j hj))
      ∙ sym (sum-map (λ (x : Deal). counted (eqb x.buyer (member_at d i) && eqb x.seller (member_at d j)) x.quantity) (deal_of d) ts)

  of_others : (i j : ℕ) → (d.count ≤ i) ⊎ (d.count ≤ j) → between (row_of_order d) i j ts ≡ 0
  of_others i j out = sum-none _ ts (λ t m.
      ⊎_elim
      (λ l. rw (ne_eqb (row_of_order d t.buy) i (λ e. omega (arith, rows Buy t m))))
      (λ l. rw (ne_eqb (row_of_order d t.sell) j (λ e. omega (arith, rows Sell t m))) (nothing (eqb (row_of_order d t.buy) i) t.quantity))
      out)

  side-entered : (side : Side) (t : Trade) → t ∈ ts → IsEntered d (member_of (resting d.session.book) (party side t))
  side-entered side t m = (row_of_order d (party side t), rows side t m, stands d sound (member_of (resting d.session.book) (party side t)) (rows side t m))

  both-entered : (x : Deal) → x ∈ map (deal_of d) ts → IsEntered d x.buyer × IsEntered d x.seller
  both-entered x m =
      let (t, listed, is) = Memᴰ.of_map (deal_of d) ts m in
      subst (λ (y : Deal). IsEntered d y.buyer × IsEntered d y.seller) is (side-entered Buy t listed, side-entered Sell t listed)

  accounts-added : (s : Session) (deals : List Deal) → Accounts d deals → Accounts (with_totals d s totals) (deals ++ map (deal_of d) ts)
  accounts-added s deals so_far = record {
    cells = λ i j hi hj.
        let more = sum-append (owed_by (member_at d i) (member_at d j)) deals (map (deal_of d) ts) in
        let now = cell-added i j (omega (arith, sound.few)) (omega (arith, sound.few)) in
        now ∙ omega (arith, more, so_far.cells i j hi hj, by_members i j hi hj);
    others = λ i j hi hj out. cell-added i j hi hj ∙ omega (arith, so_far.others i j hi hj out, of_others i j out);
    dealers = λ x m. ⊎_elim (so_far.dealers x) (both-entered x) (Memᴰ.append_cases deals m);
  }

-- an order that rests has a member that is entered
resting-entered : (d : Desk) → SoundDesk d → (o : Resting) → o ∈ resting d.session.book → row_of_order d o.number < d.count
resting-entered d sound o rests =
    let b = d.session.book in
    let at = resting-elim b places rests in
    let (row, below) = sound.rows-known at.place at.below at.taken in
    let member = member_of_lem (resting b) (resting-distinct (legal_price d.session) d.session.given b sound.inner.book-sound) o rests in
    omega (arith, ap (row_in d) member, ap (λ (y : Resting). row_in d y.member) at.is, row, below, known-length d sound)

-- ---- what an auction lists: trades of orders in the book, of its quantity, and only with outcome 1
module _ (d : Desk) (sound : SoundDesk d) (which : ℕ) (list : List ℕ) where
  abbrev l : auctions.AuctionLeaves Session
  l = auctions.auctioned d.session which list

  -- answered 0 and 1, or nothing is listed and no quantity counts
  abbrev OneOrNone : auctions.AuctionLeaves Session → Type 0
  OneOrNone r = ((r.returned.answer ≡ 0) × (r.returned.result.outcome ≡ 1)) ⊎ ((trades_listed r ≡ []) × (quantity_of (cleared_by d r) ≡ 0))

  one-or-none : OneOrNone l
  unfolding auctions.auctioned
  one-or-none =
      answered-cases (auctions.auction_checks d.session which (length list)) (auctions.auction_refused d.session list) (auctions.auction_done d.session a list) OneOrNone
      (λ n h e. inr (refl, nothing (eqb n 0) 0)) (λ e. go (auctions.outcome_of d.session a))
    where
      a : Auction
      a = auction_from which

      leaves : Outcome → auctions.AuctionLeaves Session
      leaves o = auctions.auction_leaves (record { answer = 0; result = answer_of o (part d.session a); session = auctions.session_after d.session a (part d.session a) o })
          (trades_written (price_answered o) (trades o (part d.session a)) list)

      go : (o : Outcome) → OneOrNone (leaves o)
      go (Traded price quantity) = inl (refl, refl)
      go NoTrade = inr (refl, refl)
      go NonOpening = inr (refl, refl)
      go (Delayed price quantity) = inr (refl, refl)

  module _ (zero-answered : l.returned.answer ≡ 0) (one : l.returned.result.outcome ≡ 1) where
    abbrev asked : (a : Auction) × (which ≡ auction_number a)
    asked = accepted-number d.session which list zero-answered

    written : ListWritten d.session asked.0 list l
    written =
        subst (λ (n : ℕ). TookPlace (auctions.auctioned d.session n list) → ListWritten d.session asked.0 list (auctions.auctioned d.session n list)) (sym asked.1)
        (list_written d.session sound.inner asked.0 list) (zero-answered, inl one)

    -- each side is an order that rests, whose member is entered
    order-entered : Between d (trades_listed l)
    order-entered side t m =
        let (o, takes, accepts, named) = written.within-limits.parties side t m in
        rw named (resting-entered d sound o (taking_part-elim asked.0 (resting d.session.book) takes).0)

  between-entered : Between d (trades_listed l)
  between-entered = ⊎_elim (λ (z, one). order-entered z one) (λ (none, q). rw none (λ side t m. absurd (Memᴰ.not-nil m))) one-or-none

  listed-volume : volume (trades_listed l) ≡ quantity_of (cleared_by d l)
  listed-volume = ⊎_elim (λ (z, one). (written z one).sums ∙ rw (z, one)) (λ (none, q). rw none (sym q)) one-or-none

  auction-accounts : (deals : List Deal) → Accounts d deals → Accounts (acted d (Act.auction which list)) (deals ++ dealt d (Call.act (Act.auction which list)))
  unfolding auctioned
  auction-accounts = accounts-added d sound (trades_listed l) between-entered l.returned.session

  auction-total : total (acted d (Act.auction which list)).totals ≡ total d.totals + quantity_traded d (Call.act (Act.auction which list))
  unfolding auctioned
  auction-total = total-after (row_of_order d) (trades_listed l) (inside d sound (trades_listed l) between-entered) d.totals sound.totals-long ∙ ap (λ (n : ℕ). total d.totals + n) listed-volume

-- ---- one call, and then any run
module _ (d : Desk) (sound : SoundDesk d) where
  keeps-accounts : (e : Desk) → SoundDesk e → Keeps d e → (deals : List Deal) → Accounts d deals → Accounts e (deals ++ [])
  keeps-accounts e later k deals so_far = rw (append-nil deals) (accounts-kept d e later k deals so_far)

  one-call : (c : Call) → SoundDesk (after d c) → (deals : List Deal) → Accounts d deals → Accounts (after d c) (deals ++ dealt d c)
  one-call (Call.act (Act.start x)) later = keeps-accounts _ later (record { same = refl; grown = omega arith; kept = λ i h. refl })
  one-call (Call.act (Act.order e)) later = keeps-accounts _ later (ordered_keeps d sound e)
  one-call (Call.act (Act.delete number member)) later = keeps-accounts _ later (record { same = refl; grown = omega arith; kept = λ i h. refl })
  one-call (Call.act (Act.quote e)) later = keeps-accounts _ later (quoted-keeps d sound e)
  one-call (Call.act (Act.auction which list)) later = auction-accounts d sound which list
  one-call (Call.look l) later = keeps-accounts _ later (keeps-all d)

  kept-total : (e : Desk) → Keeps d e → total e.totals ≡ total d.totals + 0
  kept-total e k = ap total k.same ∙ omega arith

  one-total : (c : Call) → total (after d c).totals ≡ total d.totals + quantity_traded d c
  one-total (Call.act (Act.start x)) = omega arith
  one-total (Call.act (Act.order e)) = kept-total _ (ordered_keeps d sound e)
  one-total (Call.act (Act.delete number member)) = omega arith
  one-total (Call.act (Act.quote e)) = kept-total _ (quoted-keeps d sound e)
  one-total (Call.act (Act.auction which list)) = auction-total d sound which list
  one-total (Call.look l) = omega arith

owes : (d : Desk) → SoundDesk d → (deals : List Deal) → Accounts d deals → Owes d deals
owes d sound deals a = record {
  of_two = λ i j hi hj. cell-handed-out d.totals i j (omega (arith, sound.few)) (omega (arith, sound.few)) ∙ a.cells i j hi hj;
  of-no-two = λ i j hi hj out. cell-handed-out d.totals i j hi hj ∙ a.others i j hi hj out;
  traders = λ x m. let (b, s) = a.dealers x m in (row-of-entered d sound x.buyer b, row-of-entered d sound x.seller s);
}

-- A3 and A6 of a desk: a fresh one is sound and every call hands it on, so every desk that can be reached is sound.
acted-sound : (d : Desk) (c : Act) → SoundDesk d → SoundDesk (acted d c)
acted-sound d (Act.start x) sound = started-desk-sound d x sound
acted-sound d (Act.order e) sound = entered-desk-sound d e sound
acted-sound d (Act.delete number member) sound = deleted-desk-sound d number member sound
acted-sound d (Act.quote e) sound = quoted-desk-sound d e sound
acted-sound d (Act.auction which list) sound = auctioned-desk-sound d which list sound

-- K5e. .. so every call hands it on, and with it that no sum wraps (`within` of SoundDesk)
pub handed-on : (d : Desk) (c : Call) → SoundDesk d → SoundDesk (after d c)
handed-on d (Call.act c) sound = acted-sound d c sound
handed-on d (Call.look l) sound = sound

run_sound : (d : Desk) (cs : List Call) → SoundDesk d → SoundDesk (run d cs)
run_sound d [] sound = sound
run_sound d (c ∷ cs) sound = run_sound (after d c) cs (handed-on d c sound)

pub reached-is-sound : (cs : List Call) → SoundDesk (run fresh_desk cs)
reached-is-sound cs = run_sound fresh_desk cs fresh-desk-sound

run-accounts : (d : Desk) (cs : List Call) → SoundDesk d → (deals : List Deal) → Accounts d deals → Accounts (run d cs) (deals ++ deals_so_far d cs)
run-accounts d [] sound deals so_far = rw (append-nil deals) so_far
run-accounts d (c ∷ cs) sound deals so_far =
    let later = handed-on d c sound in
    subst (Accounts (run (after d c) cs)) (append_assoc deals (dealt d c) (deals_so_far (after d c) cs))
    (run-accounts (after d c) cs later (deals ++ dealt d c) (one-call d sound c later deals so_far))

no_cell : (cells : List ℕ) (cell : ℕ) → total cells ≤ 0 → get_or cells cell 0 ≡ 0
no_cell cells cell h = omega (arith, cell-le-total cell cells)

fresh-accounts : Accounts fresh_desk []
fresh-accounts = record {
  cells = λ i j hi hj. absurd (omega arith);
  others = λ i j hi hj out. no_cell fresh_desk.totals (cell_of i j) fresh-desk-sound.within;
  dealers = λ x m. absurd (Memᴰ.not-nil m);
}

-- K5a. At every moment the square equals the sum worked out from the list of all trades so far.
pub who-owes-whom : (cs : List Call) → Owes (run fresh_desk cs) (deals_so_far fresh_desk cs)
who-owes-whom cs = owes (run fresh_desk cs) (reached-is-sound cs) (deals_so_far fresh_desk cs) (run-accounts fresh_desk cs fresh-desk-sound [] fresh-accounts)

run-total : (d : Desk) (cs : List Call) → SoundDesk d → total (run d cs).totals ≡ total d.totals + traded_so_far d cs
run-total d [] sound = omega arith
run-total d (c ∷ cs) sound = run-total (after d c) cs (handed-on d c sound) ∙ omega (arith, one-total d sound c)

nothing_yet : (m n k : ℕ) → n ≤ 0 → m ≡ n + k → m ≡ k
nothing_yet m n k h e = omega arith

-- K5b. All cells together equal the sum of the quantities of all auctions of outcome 1.
pub all-cells-together : (cs : List Call) → total (run fresh_desk cs).totals ≡ traded_so_far fresh_desk cs
all-cells-together cs = nothing_yet _ (total fresh_desk.totals) _ fresh-desk-sound.within (run-total fresh_desk cs fresh-desk-sound)
