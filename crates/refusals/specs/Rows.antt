-- Rows: the checks of each call, in the order of 01 "Refusals by number". Check 1 reads the numbers that come from outside; the later ones
-- read what those say.
use Rattle.std.specs.Prelude.{ℕ, ◌+◌, Bool, not, ◌&&◌, ◌||◌, List, [], ◌∷◌, ◌++◌, leb, ltb}
use Rattle.terms.specs.Bounds.{places, max_number, trade_list_length}
use Rattle.terms.specs.Kinds.{is_number, is_member}
use Rattle.terms.specs.Orders.{is_entry, order_from, is_side, is_auction, auction_from}
use Rattle.terms.specs.Parameters.{is_start}
use Rattle.terms.specs.Quotes.{is_quote, quote_from, quote_order, is_crossed}
use Rattle.terms.specs.declared.kinds.{Price.Price}
use Rattle.terms.specs.declared.orders.{Entry.Entry, Order.Order, Auction.Auction, Validity.Validity, Side.TheVariants.Buy, Side.TheVariants.Sell}
use Rattle.terms.specs.declared.quote_terms.{QuoteEntry.QuoteEntry, Quote.Quote}
use Rattle.terms.specs.declared.parameters.{Start.Start, Parameters.Parameters}
use Rattle.controls.specs.declared.phases.{Phase.Phase}
use Rattle.controls.specs.Phases.{has_started, allows_order, allows_auction}
use Rattle.controls.specs.Controls.{off_step, reaches_collar, reaches_most, reaches_most_at_reference}
use Rattle.refusals.specs.Checks.{check, Check}

-- Start: 1, 3.
abbrev pub start_rows : Phase → Start → List Check
start_rows phase s = check 1 (not (is_start s)) ∷ check 3 (has_started phase) ∷ []

-- Order: 1, 2, 4, 5, 6, 7, 8, 16, 9, 10; by the reference price of the controls, the last number given and whether all 512 places are taken.
-- beyond: an entry by a thirty-third member, where the square is kept; false in a plain session (02 K5).
abbrev pub order_later : Phase → Parameters → Price → Bool → ℕ → Bool → Order → List Check
order_later phase p reference beyond given full o =
    check 2 (not (has_started phase))
    ∷ check 4 (not (allows_order phase o.validity))
    ∷ check 5 (off_step p.table o.limit)
    ∷ check 6 (reaches_collar reference p.factor o.limit)
    ∷ check 7 (reaches_most p.most o.quantity o.limit)
    ∷ check 8 (reaches_most_at_reference p.most o.quantity reference)
    ∷ check 16 beyond
    ∷ check 9 (leb max_number given)
    ∷ check 10 full
    ∷ []

abbrev pub order_rows : Phase → Parameters → Price → Bool → ℕ → Bool → Entry → List Check
order_rows phase p reference beyond given full e = check 1 (not (is_entry e)) ∷ order_later phase p reference beyond given full (order_from e)

-- one of a quote's two orders hits: the bid is looked at first
abbrev pub either_side : (Order → Bool) → Quote → Bool
either_side hit q = hit (quote_order q Buy) || hit (quote_order q Sell)

-- Quote (02 K2): 1, 13, 2, 4, 5, 6, 7, 8, 16, 9, 10, those of a day order on the bid and then on the ask; by the reference price of the controls,
-- the last number given and whether fewer than two places are free once the member's old quote is gone. beyond as for an order (02 K5).
abbrev pub quote_later : Phase → Parameters → Price → Bool → ℕ → Bool → Quote → List Check
quote_later phase p reference beyond given short q =
    check 13 (is_crossed q)
    ∷ check 2 (not (has_started phase))
    ∷ check 4 (not (allows_order phase Validity.Day))
    ∷ check 5 (either_side (λ o. off_step p.table o.limit) q)
    ∷ check 6 (either_side (λ o. reaches_collar reference p.factor o.limit) q)
    ∷ check 7 (either_side (λ o. reaches_most p.most o.quantity o.limit) q)
    ∷ check 8 (either_side (λ o. reaches_most_at_reference p.most o.quantity reference) q)
    ∷ check 16 beyond
    ∷ check 9 (ltb max_number (given + 2))
    ∷ check 10 short
    ∷ []

abbrev pub quote_rows : Phase → Parameters → Price → Bool → ℕ → Bool → QuoteEntry → List Check
quote_rows phase p reference beyond given short e = check 1 (not (is_quote e)) ∷ quote_later phase p reference beyond given short (quote_from e)

-- Delete: 1, 2, 11; by whether no resting order has this number and this member.
abbrev pub delete_later : Phase → Bool → List Check
delete_later phase absent = check 2 (not (has_started phase)) ∷ check 11 absent ∷ []

abbrev pub delete_rows : Phase → ℕ → ℕ → Bool → List Check
delete_rows phase number member absent = check 1 (not (is_number number && is_member member)) ∷ delete_later phase absent

-- Theoretical answer: 1, 2, 4.
abbrev pub theoretical_later : Phase → Auction → List Check
theoretical_later phase a = check 2 (not (has_started phase)) ∷ check 4 (not (allows_auction phase a)) ∷ []

abbrev pub theoretical_rows : Phase → ℕ → List Check
theoretical_rows phase which = check 1 (not (is_auction which)) ∷ theoretical_later phase (auction_from which)

-- Auction: those, then 12; by the length of the lent list.
abbrev pub auction_later : Phase → Auction → ℕ → List Check
auction_later phase a size = theoretical_later phase a ++ (check 12 (ltb size trade_list_length) ∷ [])

abbrev pub auction_rows : Phase → ℕ → ℕ → List Check
auction_rows phase which size = check 1 (not (is_auction which)) ∷ auction_later phase (auction_from which) size

-- Ranked queue: 1, 2, 12; by the length of the lent list.
abbrev pub ranked_later : Phase → ℕ → List Check
ranked_later phase size = check 2 (not (has_started phase)) ∷ check 12 (ltb size places) ∷ []

abbrev pub ranked_rows : Phase → ℕ → ℕ → ℕ → List Check
ranked_rows phase side which size = check 1 (not (is_side side && is_auction which)) ∷ ranked_later phase size

-- Filled front: 1, where either list is longer than the book, or for another side; by the lengths of the lists.
abbrev pub front_rows : ℕ → ℕ → ℕ → List Check
front_rows buys sells side = check 1 (not (is_side side) || ltb places buys || ltb places sells) ∷ []

-- Writing a record: 1, 12; by whether every field is in range, the length of the lent buffer and the place behind the record.
abbrev pub write_rows : Bool → ℕ → ℕ → List Check
write_rows good size end = check 1 (not good) ∷ check 12 (ltb size end) ∷ []
