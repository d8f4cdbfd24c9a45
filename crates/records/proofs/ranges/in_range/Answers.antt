use Rattle.terms.proofs.Made.{order-ok, quote-ok, parameters-ok}
use Rattle.records.proofs.ranges.in_range.Goals as goal

pub returns-in-Start : goal.returns-in-Start
returns-in-Start c = rw (c.in-Start.is, c.is_ok.ensures.value, c.try_from.ensures, c.as_start.ensures) (parameters-ok _)

pub returns-in-Order : goal.returns-in-Order
returns-in-Order c = rw (c.in-Order.is, c.is_ok-in-Order.ensures.value, c.try_from-in-Order.ensures) (order-ok _)

pub returns-in-Quote : goal.returns-in-Quote
returns-in-Quote c = rw (c.in-Quote.is, c.is_ok-in-Quote.ensures.value, c.try_from-in-Quote.ensures) (quote-ok _)

pub returns-in-Bands : goal.returns-in-Bands
returns-in-Bands c = rw (c.in-Bands.is, c.is_ok-in-Bands.ensures.value, c.try_from-in-Bands.ensures) (parameters-ok _)
