use Rattle.std.proofs.Common.{arith}
use Rattle.places.specs.Words.{full-word, lowest-free-found, lowest-free-none}
use Rattle.places.proofs.words.lowest_free.Goals as goal

pub returns-then-set_bits-lt-WORD_PLACES : goal.returns-then-set_bits-lt-WORD_PLACES
returns-then-set_bits-lt-WORD_PLACES c = let count = c.set_bits.ensures.0 in
    lowest-free-found c.args.taken.now c.loop-j.j c.loop-j.invariant _ c.low_clear.ensures (omega arith) (omega (arith, count))

pub loop-j-preserved : goal.loop-j-preserved
loop-j-preserved c = let count = c.set_bits.ensures.0 in
    λ k h. full-word c.args.taken.now c.loop-j.j c.loop-j.invariant (omega (arith, count)) k (omega arith)

pub returns : goal.returns
returns c = lowest-free-none c.args.taken.now (λ k h. c.loop-j.invariant k (omega arith))
