-- Invariant: of the entries passed all are covered, and of the others those that what is left covers.
use Rattle.std.proofs.Common.{◌≡◌, ◌+◌, length, drop}
use Rattle.fills.specs.Front.{front}
use Rattle.fills.proofs.front.front_length.Given as goal

abbrev pub invariant-loop-i : goal.invariant-loop-i
invariant-loop-i l = length (front l.total l.entries) ≡ l.i + length (front l.rest (drop l.i l.entries))
