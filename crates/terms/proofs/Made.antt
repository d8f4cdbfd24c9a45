-- Made: what a constructor's answer says of the numbers that it was given, and what is made one by one.
use Rattle.std.specs.Prelude.{ℕ, zero, suc, Bool, true, false, cond, ◌&&◌, ◌≡◌, refl, T, leb, Ok, Err}
use Rattle.std.specs.Result.{is_ok}
use Rattle.lists.specs.Tests.{tests, and_both, and_intro}
use Rattle.terms.specs.Kinds.{out_of_range, is_member, member_of, is_quantity, is_number, number_of, is_price, is_factor, is_threshold, is_order_value}
use Rattle.terms.specs.Orders.{side_number, validity_number, limit_number, is_side, side_from, side_of, is_auction, auction_from, auction_of, is_validity, validity_from, is_limit, limit_from, is_entry, order_from, order_of}
use Rattle.terms.specs.Tables.{on_step, is_table, is_reference}
use Rattle.terms.specs.Parameters.{are_parameters, is_start, parameters_from, parameters_of}
use Rattle.terms.specs.declared.kinds.{Member.Member, Number.Number}
use Rattle.terms.specs.declared.parameters.{Start.Start, Parameters.Parameters}
use Rattle.terms.specs.declared.quote_terms.{QuoteEntry.QuoteEntry, Quote.Quote}
use Rattle.terms.specs.declared.orders.{Auction.Auction, Side.Side, Order.Order, Entry.Entry}
use Rattle.terms.specs.Quotes.{is_quote, quote_from, quote_of}
use Rattle.terms.specs.Made.{FieldsHold, ParametersHold}

-- something is made where a test holds, and else refused
made : {A : Type 0} (b : Bool) {x good : A} → Ok x ≡ cond b (Ok good) (Err out_of_range) → (b ≡ true) × (x ≡ good)
made true e = (refl, cc)
made false e = absurd cc

not_made : {A : Type 0} (b : Bool) (good : A) → Err out_of_range ≡ cond b (Ok good) (Err out_of_range) → b ≡ false
not_made true good e = absurd cc
not_made false good e = refl

-- .. and it is made exactly where the test holds
ok-made : {A : Type 0} (b : Bool) (good : A) → is_ok (cond b (Ok good) (Err out_of_range)) ≡ b
ok-made true good = refl
ok-made false good = refl

pub order-ok : (e : Entry) → is_ok (order_of e) ≡ is_entry e
unfolding order_of
order-ok e = ok-made (is_entry e) _

pub quote-ok : (e : QuoteEntry) → is_ok (quote_of e) ≡ is_quote e
unfolding quote_of
quote-ok e = ok-made (is_quote e) _

pub parameters-ok : (s : Start) → is_ok (parameters_of s) ≡ is_start s
unfolding parameters_of
parameters-ok s = ok-made (is_start s) _

pub side-good : (x : ℕ) {s : Side} → Ok s ≡ side_of x → (is_side x ≡ true) × (s ≡ side_from x)
side-good x e = made (is_side x) e

pub side-refused : (x : ℕ) → Err out_of_range ≡ side_of x → is_side x ≡ false
side-refused x e = not_made (is_side x) _ e

pub auction-good : (x : ℕ) {a : Auction} → Ok a ≡ auction_of x → (is_auction x ≡ true) × (a ≡ auction_from x)
auction-good x e = made (is_auction x) e

pub auction-refused : (x : ℕ) → Err out_of_range ≡ auction_of x → is_auction x ≡ false
auction-refused x e = not_made (is_auction x) _ e

pub number-good : (x : ℕ) {n : Number} → Ok n ≡ number_of x → is_number x ≡ true
number-good x e = (made (is_number x) e).0

pub number-refused : (x : ℕ) → Err out_of_range ≡ number_of x → is_number x ≡ false
number-refused x e = not_made (is_number x) _ e

pub member-good : (x : ℕ) {m : Member} → Ok m ≡ member_of x → is_member x ≡ true
member-good x e = (made (is_member x) e).0

pub member-refused : (x : ℕ) → Err out_of_range ≡ member_of x → is_member x ≡ false
member-refused x e = not_made (is_member x) _ e

pub order-good : (e : Entry) {o : Order} → Ok o ≡ order_of e → (is_entry e ≡ true) × (o ≡ order_from e)
unfolding order_of
order-good x e = made (is_entry x) e

pub order-refused : (e : Entry) → Err out_of_range ≡ order_of e → is_entry e ≡ false
unfolding order_of
order-refused x e = not_made (is_entry x) _ e

pub quote-good : (e : QuoteEntry) {q : Quote} → Ok q ≡ quote_of e → (is_quote e ≡ true) × (q ≡ quote_from e)
unfolding quote_of
quote-good x e = made (is_quote x) e

pub quote-refused : (e : QuoteEntry) → Err out_of_range ≡ quote_of e → is_quote e ≡ false
unfolding quote_of
quote-refused x e = not_made (is_quote x) _ e

pub parameters-good : (s : Start) {p : Parameters} → Ok p ≡ parameters_of s → (is_start s ≡ true) × (p ≡ parameters_from s)
unfolding parameters_of
parameters-good x e = made (is_start x) e

pub parameters-refused : (s : Start) → Err out_of_range ≡ parameters_of s → is_start s ≡ false
unfolding parameters_of
parameters-refused x e = not_made (is_start x) _ e

pub fields-hold : (e : Entry) → T (is_entry e) → FieldsHold e
fields-hold e h =
    let (abcd, l) = and_both (is_member e.member && is_side e.side && is_validity e.validity && is_quantity e.quantity) (is_limit (limit_from e.limit)) h in
    let (abc, q) = and_both (is_member e.member && is_side e.side && is_validity e.validity) (is_quantity e.quantity) abcd in
    let (ab, v) = and_both (is_member e.member && is_side e.side) (is_validity e.validity) abc in
    let (m, s) = and_both (is_member e.member) (is_side e.side) ab in
    record { member = m; side = s; validity = v; quantity = q; limit = l }

pub parameters-hold : (p : Parameters) → T (are_parameters p) → ParametersHold p
parameters-hold p h =
    let a = is_table p.table in
    let b = is_reference p.table p.reference.0 in
    let (abcd, most) = and_both (a && b && is_factor p.factor.0 && is_threshold p.threshold.0) (is_order_value p.most.0) h in
    let (abc, threshold) = and_both (a && b && is_factor p.factor.0) (is_threshold p.threshold.0) abcd in
    let (ab, factor) = and_both (a && b) (is_factor p.factor.0) abc in
    let (table, reference) = and_both a b ab in
    let (price, on) = and_both (is_price p.reference.0) (on_step p.table p.reference.0) reference in
    record { table-holds = table; reference-price = price; reference-on-step = on; factor-in-range = factor; threshold-in-range = threshold; most-in-range = most }

pub hold-together : (p : Parameters) → ParametersHold p → T (are_parameters p)
hold-together p g =
    let a = is_table p.table in
    let b = is_reference p.table p.reference.0 in
    let factor = is_factor p.factor.0 in
    let threshold = is_threshold p.threshold.0 in
    and_intro (a && b && factor && threshold) (is_order_value p.most.0)
    (and_intro (a && b && factor) threshold
    (and_intro (a && b) factor (and_intro a b g.table-holds (and_intro (is_price p.reference.0) (on_step p.table p.reference.0) g.reference-price g.reference-on-step)) g.factor-in-range)
    g.threshold-in-range)
    g.most-in-range

-- a number in range is that of what it says; of a limit, any number is
pub side-number : (x : ℕ) → T (is_side x) → side_number (side_from x) ≡ x
side-number zero h = absurd h
side-number (suc zero) h = refl
side-number (suc (suc zero)) h = refl
side-number (suc (suc (suc n))) h = let k = (and_both (leb 1 (suc (suc (suc n)))) (leb (suc (suc (suc n))) 2) h).1 in absurd (omega tests)

pub validity-number : (x : ℕ) → T (is_validity x) → validity_number (validity_from x) ≡ x
validity-number zero h = absurd h
validity-number (suc zero) h = refl
validity-number (suc (suc zero)) h = refl
validity-number (suc (suc (suc zero))) h = refl
validity-number (suc (suc (suc (suc zero)))) h = refl
validity-number (suc (suc (suc (suc (suc n))))) h =
    let k = (and_both (leb 1 (suc (suc (suc (suc (suc n)))))) (leb (suc (suc (suc (suc (suc n))))) 4) h).1 in absurd (omega tests)

pub limit-number : (x : ℕ) → limit_number (limit_from x) ≡ x
limit-number zero = refl
limit-number (suc n) = refl
