-- What was written ends within the buffer.
use Rattle.std.specs.Prelude.{ℕ, ◌≤◌, ◌≡◌, List, length}
use Rattle.std.proofs.Common.{sym, ap, ◌∙◌, arith}
use Rattle.lists.specs.Put.{Wrote, put-room}

pub ends-within : (out after : List ℕ) (at end : ℕ) (text : List ℕ) → Wrote out after at end text → at ≤ length out → length after ≡ length out → end ≤ length after
ends-within out after at end text w h k = omega (arith, w.0, k, put-room out at text h (ap length (sym w.1) ∙ k))
