use borrow.Author.Rules.{rules}
use lib.Count.{trailing_le}
use Rattle.places.specs.Words.{low-set, low_clear}
use Rattle.places.proofs.words.low_clear.Goals as goal

pub returns : goal.returns
returns c = rw c.trailing_ones.ensures (record {
  most = trailing_le 64 _;
  below = λ k h. low-set 64 c.args.word k (search rules) h;
  clear = λ h. low_clear 64 c.args.word (search rules) h;
})
