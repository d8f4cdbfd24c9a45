use mathlib.Core.Bool.{true, false}
use mathlib.Core.Path.{sym, ap, ◌∙◌}
use native.Mathlib.Omega.{arith}
use Rattle.records.specs.Reads.{read-end, read_short}
use Rattle.records.specs.Pieces.{header_piece, piece-waits, piece-ended, piece-header}
use Rattle.records.proofs.walk.piece_at.Goals as goal

pub returns-then-ended : goal.returns-then-ended
returns-then-ended c = rw c.if-ended.true (piece-ended _ _ (read-end _ _ c.if-bytes-place.true))

pub returns-else-ended : goal.returns-else-ended
returns-else-ended c = rw c.if-ended.false (piece-waits _ _ (omega arith))

pub returns-then-ended-2 : goal.returns-then-ended-2
returns-then-ended-2 c = rw c.if-ended-2.true (piece-ended _ _ (read_short _ _ (omega arith) (omega arith)))

pub returns-else-ended-2 : goal.returns-else-ended-2
returns-else-ended-2 c = rw c.if-ended-2.false (piece-waits _ _ (omega arith))

pub returns-in-Record : goal.returns-in-Record
returns-in-Record c = let header_at = c.header_at in
    let a = c.args in
    ap (header_piece a.ended) (sym c.in-Record.is ∙ header_at.ensures) ∙ piece-header _ _ a.ended (omega arith)

pub returns-then-ended-3 : goal.returns-then-ended-3
returns-then-ended-3 c = let header_at = c.header_at in
    rw c.if-ended-3.true (ap (header_piece true) (sym c.in-Cut.is ∙ header_at.ensures) ∙ piece-header _ _ true (omega arith))

pub returns-else-ended-3 : goal.returns-else-ended-3
returns-else-ended-3 c = let header_at = c.header_at in
    rw c.if-ended-3.false (ap (header_piece false) (sym c.in-Cut.is ∙ header_at.ensures) ∙ piece-header _ _ false (omega arith))

pub returns-in-Bad : goal.returns-in-Bad
returns-in-Bad c = let header_at = c.header_at in
    let a = c.args in
    ap (header_piece a.ended) (sym c.in-Bad.is ∙ header_at.ensures) ∙ piece-header _ _ a.ended (omega arith)
