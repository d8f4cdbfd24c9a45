use Rattle.std.proofs.lemmas.Grind.{common_steps}
use Rattle.std.proofs.Common.{◌∙◌, arith, ◌≡◌, ◌+◌, map}
use Rattle.std.specs.List.{range_with_len}
use Rattle.records.specs.Fields.{number}
use Rattle.records.specs.Numbers.{bytes-two}
use Rattle.records.proofs.numbers.two.Goals as goal

pub returns : goal.returns
returns c = let a = c.args in
    let each : c.from_fn.result ≡ map (λ i. number a.bytes.now (a.at + i) 1) (range_with_len 0 2) = grind (arith, common_steps) in
    c.from_le_bytes.ensures ∙ rw each (bytes-two a.bytes.now a.at)
