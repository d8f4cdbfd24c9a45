use mathlib.Core.Path.{◌∙◌, sym}
use Rattle.places.specs.Words.{shl_one, clear-le}
use Rattle.places.proofs.words.without_bit.Goals as goal

-- the bit is set
pub overflow_sub-result : goal.overflow_sub-result
overflow_sub-result c = let a = c.args in
    rw (shl_one a.k c.requires) (clear-le a.k a.word (sym c.bit_of.ensures ∙ c.if-bit_of-eq1.true))
