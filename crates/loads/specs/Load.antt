-- The load of a book by a byte: `o` one limit, `w` the worst, any other mixed.
use Rattle.std.specs.Prelude.{ℕ, cond, eqb}
use Rattle.loads.specs.declared.load.Load.{Load}
use Rattle.loads.specs.declared.load.Load.TheVariants.{OneLimit, Worst, Mixed}

abbrev pub load_of : ℕ → Load
load_of byte = cond (eqb byte 111) OneLimit (cond (eqb byte 119) Worst Mixed)
