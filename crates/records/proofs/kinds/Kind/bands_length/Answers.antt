use native.Mathlib.Omega.{arith}
use Rattle.records.specs.Lengths.{bands-length}
use Rattle.records.proofs.kinds.Kind.bands_length.Goals as goal

pub returns : goal.returns
returns c = omega (arith, bands-length c.args.count)
