-- A digit, a pair, or the hundreds and a pair; all others are `put_digits`.
use Prim.Native.Nat.{◌/◌}
use mathlib.Core.List.{[], ◌∷◌}
use Rattle.text.specs.Text.{digit, pair}
use Rattle.text.specs.Decimal.{digits-small, digits-pair, hundreds-then}
use native.Mathlib.Omega.{arith}
use Rattle.text.proofs.put_decimal.Goals as goal

pub returns-then-x-lt10 : goal.returns-then-x-lt10
returns-then-x-lt10 c = rw (digits-small 19 _ c.if-x-lt10.true) c.put_digit.ensures

pub returns-then-x-lt100 : goal.returns-then-x-lt100
returns-then-x-lt100 c = rw (digits-pair 18 _ c.if-x-lt10.false c.if-x-lt100.true) c.put_pair.ensures

pub returns-then-x-lt1000 : goal.returns-then-x-lt1000
returns-then-x-lt1000 c = let q = c.args.x / 100 in
    hundreds-then _ _ _ _ _ _ c.args.x (digit q ∷ []) (omega (arith, c.requires)) c.if-x-lt100.false
    (digits-small 17 q (omega (arith, c.if-x-lt1000.true))) c.put_digit-p.ensures c.put_pair-then-x-lt1000.ensures

pub returns-then-x-lt10000 : goal.returns-then-x-lt10000
returns-then-x-lt10000 c = let q = c.args.x / 100 in
    hundreds-then _ _ _ _ _ _ c.args.x (pair q) (omega (arith, c.requires)) c.if-x-lt100.false
    (digits-pair 16 q (omega (arith, c.if-x-lt1000.false)) (omega (arith, c.if-x-lt10000.true)))
    c.put_pair-p.ensures c.put_pair-then-x-lt10000.ensures
