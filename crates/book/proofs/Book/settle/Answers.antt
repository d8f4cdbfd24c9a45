use Rattle.places.specs.Words.{behind-within}
use Rattle.book.proofs.Book.settle.Goals as goal

pub settle_to-requires : goal.settle_to-requires
settle_to-requires c = rw c.behind_taken-end.ensures (behind-within _)
