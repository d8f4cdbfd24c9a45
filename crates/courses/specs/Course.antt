-- What a call of an auction comes to, before anything changes: refused, held back by its outcome, or taking place (01 "Outcomes").
use Rattle.std.specs.Prelude.{ℕ, zero, suc, ◌+◌, ◌≤◌, Bool, true, false, ◌≢◌, ◌≡◌, List, T, take, drop, Result, Ok, Err}
use Rattle.std.proofs.Common.{refl, sym, ap, ◌∙◌, arith}
use Rattle.terms.specs.Bounds.{places}
use Rattle.terms.specs.Kinds.{is_price}
use Rattle.terms.specs.Orders.{is_auction, auction_from}
use Rattle.terms.specs.declared.kinds.{Price.Price}
use Rattle.terms.specs.declared.orders.{Side.TheVariants.Buy, Side.TheVariants.Sell, Auction.Auction}
use Rattle.auction.specs.declared.{Outcome.Outcome, Outcome.TheVariants.Traded, Outcome.TheVariants.NoTrade, Outcome.TheVariants.NonOpening, Outcome.TheVariants.Delayed}
use Rattle.auction.specs.declared.trading.{View.View}
use Rattle.auction.specs.Trading.{ranks_in, outcome_in}
use Rattle.controls.specs.declared.phases.{Phase.Phase}
use Rattle.controls.specs.Phases.{phase_after}
use Rattle.refusals.specs.Checks.{first_hit, answered_by, answered, answered-refused, answered-done, hits, passes}
use Rattle.refusals.specs.Numbers.{refusal_number, refusal-number-above}
use Rattle.refusals.specs.declared.refusal.Refusal.{Refusal}
use Rattle.refusals.specs.declared.refusal.Refusal.TheVariants.{OutOfRange}
use Rattle.refusals.specs.Rows.{auction_rows, auction_later}
use Rattle.courses.specs.declared.{AuctionAnswer.AuctionAnswer, Course.Course, Course.TheVariants.Refused, Course.TheVariants.HeldBack, Course.TheVariants.TakesPlace, Plan.Plan, Standing.Standing}
use Rattle.courses.specs.Held.{preventable, delayable}
use Rattle.courses.specs.Answer.{no_answer, answer_with}

-- outcomes 3 and 4 hold an auction back; with 1 and 2 it takes place
abbrev pub course_of : Auction → Outcome → Course
course_of a (Traded price quantity) = TakesPlace a (Traded price quantity)
course_of a NoTrade = TakesPlace a NoTrade
course_of a NonOpening = HeldBack NonOpening
course_of a (Delayed price quantity) = HeldBack (Delayed price quantity)

abbrev pub takes_place : Course → Bool
takes_place (Refused r) = false
takes_place (HeldBack o) = false
takes_place (TakesPlace a o) = true

-- .. where it is no third
pub not-taking : (course : Course) → ((a : Auction) (o : Outcome) → course ≡ TakesPlace a o → ⊥) → takes_place course ≡ false
not-taking (Refused r) k = refl
not-taking (HeldBack o) k = refl
not-taking (TakesPlace a o) k = absurd (k a o refl)

abbrev pub turned_down : Refusal → Plan
turned_down r = record { course = Refused r; bids = 0; asks = 0 }

-- the number that answers a call, and its four others
abbrev pub answer_by : Course → ℕ
answer_by (Refused r) = refusal_number r
answer_by (HeldBack o) = 0
answer_by (TakesPlace a o) = 0

abbrev pub result_by : Course → ℕ → AuctionAnswer
result_by (Refused r) count = no_answer
result_by (HeldBack o) count = answer_with o count
result_by (TakesPlace a o) count = answer_with o count

-- outcome 4 spends the delay; with outcome 1 the price becomes the reference price
abbrev pub delayed_by : Outcome → Bool → Bool
delayed_by (Traded price quantity) delayed = delayed
delayed_by NoTrade delayed = delayed
delayed_by NonOpening delayed = delayed
delayed_by (Delayed price quantity) delayed = true

abbrev pub reference_by : Outcome → Price → Price
reference_by (Traded price quantity) reference = record { 0 = price }
reference_by NoTrade reference = reference
reference_by NonOpening reference = reference
reference_by (Delayed price quantity) reference = reference

-- .. which is one
abbrev pub PricedBy : Outcome → Type 0
PricedBy (Traded price quantity) = T (is_price price)
PricedBy NoTrade = Unit {0}
PricedBy NonOpening = Unit {0}
PricedBy (Delayed price quantity) = Unit {0}

abbrev pub Priced : Course → Type 0
Priced (Refused r) = Unit {0}
Priced (HeldBack o) = Unit {0}
Priced (TakesPlace a o) = PricedBy o

-- what the session stands at afterwards: the next phase where the auction takes place
abbrev pub standing_by : Course → Standing → Standing
standing_by (Refused r) s = s
standing_by (HeldBack o) s = record { phase = s.phase; delayed = delayed_by o s.delayed; reference = s.reference }
standing_by (TakesPlace a o) s = record { phase = phase_after a; delayed = s.delayed; reference = reference_by o s.reference }

-- The first hit and the outcome decide a course: it answers the number of the first hit, and where nothing hits it is the outcome's.
pub record Decided (hit : ℕ) (a : Auction) (o : Outcome) (course : Course) : Type 0 where
  pub answer : answer_by course ≡ hit
  pub goes : hit ≡ 0 → course ≡ course_of a o

-- .. and so it takes place only where nothing hits
pub takes-place : {hit : ℕ} {a b : Auction} {o p : Outcome} (course : Course) → Decided hit a o course → course ≡ TakesPlace b p → (hit ≡ 0) × (b ≡ a) × (p ≡ o)
takes-place {hit} {a} {b} {o} {p} course decided takes = let (b, p) = go o (sym takes ∙ decided.goes none) in (none, b, p)
  where
    none : hit ≡ 0
    none = sym decided.answer ∙ ap answer_by takes

    go : (o : Outcome) → TakesPlace b p ≡ course_of a o → (b ≡ a) × (p ≡ o)
    go (Traded price quantity) e = (cc, cc)
    go NoTrade e = (cc, cc)
    go NonOpening e = absurd cc
    go (Delayed price quantity) e = absurd cc

-- Why the auction that is asked for is refused, or that nothing refuses it.
module _ (which : ℕ) (phase : Phase) (size : ℕ) where
  abbrev pub asked_or_refused : Result Auction ℕ
  asked_or_refused = answered (auction_rows phase which size) Err (Ok (auction_from which))

  pub asked-out-of-range : is_auction which ≡ false → Err 1 ≡ asked_or_refused
  asked-out-of-range h = answered-refused (auction_rows phase which size) Err (Ok (auction_from which)) (hits 1 _ (rw h)) (λ z. omega arith)

  module _ {a : Auction} (good : (is_auction which ≡ true) × (a ≡ auction_from which)) {n : ℕ} (later : n ≡ first_hit (auction_later phase a size)) where
    asked-hit : n ≡ first_hit (auction_rows phase which size)
    asked-hit = passes 1 _ (rw good.0) (rw good.1 at later)

    pub asked-turned-down : n ≢ 0 → Err n ≡ asked_or_refused
    asked-turned-down = answered-refused (auction_rows phase which size) Err (Ok (auction_from which)) asked-hit

    pub asked-good : n ≡ 0 → Ok a ≡ asked_or_refused
    asked-good z = rw good.1 (answered-done (auction_rows phase which size) Err (Ok (auction_from which)) (sym z ∙ asked-hit))

  refused-by : (m : ℕ) {n : ℕ} → ◌≡◌ {A = Result Auction ℕ} (Err n) (answered_by m Err (Ok (auction_from which))) → n ≡ m
  refused-by zero e = absurd cc
  refused-by (suc m) e = cc

  made-by : (m : ℕ) {a : Auction} → ◌≡◌ {A = Result Auction ℕ} (Ok a) (answered_by m Err (Ok (auction_from which))) → (m ≡ 0) × (a ≡ auction_from which)
  made-by zero e = (refl, cc)
  made-by (suc m) e = absurd cc

-- A plan says the course that is decided; where nothing hits, the list has the ranks of both sides.
module _ (which : ℕ) (phase : Phase) (size : ℕ) (delayed : Bool) (threshold reference : ℕ) (sides validities limits numbers lefts : List ℕ) where
  abbrev asked : Auction
  asked = auction_from which

  abbrev hit : ℕ
  hit = first_hit (auction_rows phase which size)

  abbrev found : Outcome
  found =
      outcome_in (record { preventable = preventable asked; delayable = delayable asked delayed }) threshold reference limits lefts
      (ranks_in asked sides validities limits numbers Buy) (ranks_in asked sides validities limits numbers Sell)

  pub record Planned (plan : Plan) (ranks : List ℕ) : Type 0 where
    pub course : Decided hit asked found plan.course
    pub few : plan.bids + plan.asks ≤ places
    pub buys : hit ≡ 0 → take plan.bids ranks ≡ ranks_in asked sides validities limits numbers Buy
    pub sells : hit ≡ 0 → take plan.asks (drop plan.bids ranks) ≡ ranks_in asked sides validities limits numbers Sell

  -- from what the code learns on the way
  pub plan-refused : {r : Refusal} → Err (refusal_number r) ≡ asked_or_refused which phase size → (plan : Plan) → plan ≡ turned_down r → (ranks : List ℕ) → Planned plan ranks
  plan-refused {r} e plan is ranks = rw is (record {
    course = record { answer = number; goes = λ h. absurd (refusal-number-above r (number ∙ h)) };
    few = omega arith;
    buys = λ h. absurd (refusal-number-above r (number ∙ h));
    sells = λ h. absurd (refusal-number-above r (number ∙ h));
  })
    where
      number : refusal_number r ≡ hit
      number = refused-by which phase size hit e

  pub plan-found : {a : Auction} → Ok a ≡ asked_or_refused which phase size → (prevents delays : Bool) → prevents ≡ preventable a → delays ≡ delayable a delayed → (view : View) (course : Course) (ranks : List ℕ) → course ≡ course_of a view.outcome
      → (view.outcome ≡ outcome_in (record { preventable = prevents; delayable = delays }) threshold reference limits lefts (ranks_in a sides validities limits numbers Buy) (ranks_in a sides validities limits numbers Sell))
      × (view.bids + view.asks ≤ places)
      × (take view.bids ranks ≡ ranks_in a sides validities limits numbers Buy)
      × (take view.asks (drop view.bids ranks) ≡ ranks_in a sides validities limits numbers Sell)
      → Planned (record { course = course; bids = view.bids; asks = view.asks }) ranks
  plan-found {a} e prevents delays p d view course ranks is (outcome, few, buys, sells) = record {
    course = record { answer = ap answer_by is ∙ stays view.outcome ∙ sym none; goes = λ h. is ∙ rw (outcome, p, d, good) };
    few = few;
    buys = λ h. buys ∙ rw good;
    sells = λ h. sells ∙ rw good;
  }
    where
      none : hit ≡ 0
      none = (made-by which phase size hit e).0

      good : a ≡ asked
      good = (made-by which phase size hit e).1

      stays : (o : Outcome) → answer_by (course_of a o) ≡ 0
      stays (Traded price quantity) = refl
      stays NoTrade = refl
      stays NonOpening = refl
      stays (Delayed price quantity) = refl

  -- .. from the first hit
  pub plan-out-of-range : is_auction which ≡ false → (plan : Plan) → plan ≡ turned_down OutOfRange → (ranks : List ℕ) → Planned plan ranks
  plan-out-of-range h = plan-refused (asked-out-of-range which phase size h)

  module _ {a : Auction} (good : (is_auction which ≡ true) × (a ≡ auction_from which)) where
    pub plan-turned-down : {r : Refusal} → refusal_number r ≡ first_hit (auction_later phase a size) → (plan : Plan) → plan ≡ turned_down r → (ranks : List ℕ) → Planned plan ranks
    plan-turned-down {r} later = plan-refused (asked-turned-down which phase size good later (refusal-number-above r))

    pub plan-made : {n : ℕ} → n ≡ first_hit (auction_later phase a size) → n ≡ 0 → (prevents delays : Bool) → prevents ≡ preventable a → delays ≡ delayable a delayed → (view : View) (course : Course) (ranks : List ℕ) → course ≡ course_of a view.outcome
        → (view.outcome ≡ outcome_in (record { preventable = prevents; delayable = delays }) threshold reference limits lefts (ranks_in a sides validities limits numbers Buy) (ranks_in a sides validities limits numbers Sell))
        × (view.bids + view.asks ≤ places)
        × (take view.bids ranks ≡ ranks_in a sides validities limits numbers Buy)
        × (take view.asks (drop view.bids ranks) ≡ ranks_in a sides validities limits numbers Sell)
        → Planned (record { course = course; bids = view.bids; asks = view.asks }) ranks
    plan-made later z = plan-found (asked-good which phase size good later z)
