-- What is printed last ends within the buffer.
use Rattle.std.proofs.Common.{sym, arith, length-take-le}
use Rattle.desk_steps.specs.StepLaws.{reached-sound}
use Rattle.clearing.specs.Within.{ends-within}
use Rattle.clearing.proofs.main.Goals as goal

pub owed_lines-end-requires : goal.owed_lines-end-requires
owed_lines-end-requires c = (reached-sound _ c.walk-desk.ensures, omega arith)

pub slice_bounds-output-end : goal.slice_bounds-output-end
slice_bounds-output-end c =
    let r = c.owed_lines-end in
    omega (arith, ends-within _ _ _ _ _ r.ensures (omega arith) r.auto.out)

pub slice_bounds-print-end : goal.slice_bounds-print-end
slice_bounds-print-end c =
    let r = c.owed_lines-end in
    sym (length-take-le _ _ (omega (arith, ends-within _ _ _ _ _ r.ensures (omega arith) r.auto.out)))
