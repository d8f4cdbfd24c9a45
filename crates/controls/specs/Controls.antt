-- Controls 5 to 8 of 01 "Refusals by number" (004 clause 10): a limit or a value that reaches its bound is a hit.
use Rattle.std.specs.Prelude.{◌*◌, Bool, false, not, ◌||◌, leb}
use Rattle.terms.specs.Kinds.{value_of}
use Rattle.terms.specs.Tables.{on_step}
use Rattle.terms.specs.declared.kinds.{CollarFactor.CollarFactor, OrderValue.OrderValue, Price.Price, Quantity.Quantity}
use Rattle.terms.specs.declared.tables.{Table.Table}
use Rattle.terms.specs.declared.orders.{Limit.Limit, Limit.TheVariants.Unlimited, Limit.TheVariants.At}

-- 5: a limit is no multiple of the step of the row in which it falls (02 K6)
abbrev pub off_step : Table → Limit → Bool
off_step table Unlimited = false
off_step table (At p) = not (on_step table p.0)

-- 6: limit ≥ reference × factor, or limit × factor ≤ reference
abbrev pub reaches_collar : Price → CollarFactor → Limit → Bool
reaches_collar reference factor Unlimited = false
reaches_collar reference factor (At p) = leb (reference.0 * factor.0) p.0 || leb (p.0 * factor.0) reference.0

-- 7: quantity × limit ≥ maximum order value
abbrev pub reaches_most : OrderValue → Quantity → Limit → Bool
reaches_most most quantity Unlimited = false
reaches_most most quantity (At p) = leb most.0 (value_of quantity.0 p.0)

-- 8: quantity × reference ≥ maximum order value
abbrev pub reaches_most_at_reference : OrderValue → Quantity → Price → Bool
reaches_most_at_reference most quantity reference = leb most.0 (value_of quantity.0 reference.0)
