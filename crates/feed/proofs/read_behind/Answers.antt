-- The bytes held moved to the front, and a read behind them.
use Rattle.std.proofs.Common.{rules, arith, length}
use Rattle.feed.specs.HeldBytes.{held_in, held-length, read_behind}
use Rattle.feed.proofs.read_behind.Goals as goal

pub returns : goal.returns
returns g c =
    let a = c.args in
    let moved = c.moved_to_front-kept in
    let read = c.read_some-got in (
      search rules,
      read_behind (length a.input.now) (held_in a.held a.input.now) moved.new.bytes read.new.bytes _ moved.result read.result (omega (arith, held-length a.held.from a.held.to a.input.now c.requires.0.0 c.requires.0.1, c.requires.1)) moved.ensures.1 (omega arith) (omega arith),
    )
