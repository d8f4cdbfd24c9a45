-- Pairing turn by turn: the trades done so far, and those still to come from where the two fronts are.
use Rattle.std.specs.Prelude.{ℕ, suc, ◌+◌, ◌≤◌, ◌<◌, ◌≡◌, List, get_or, set, drop}
use Rattle.trades.specs.declared.{pairing.Front.Front}
use Rattle.trades.specs.OverShares.{shares_left, numbers_left}

-- the shares from a front on
abbrev pub shares_from : List ℕ → Front → List ℕ
shares_from qs f = set (drop f.at qs) 0 f.left

-- a front f of a queue with the numbers ns and the shares qs goes to g when q of it is traded
pub record Turn (ns qs : List ℕ) (q : ℕ) (f g : Front) : Type 0 where
  pub shares : shares_from qs g ≡ shares_left q f.left (drop (suc f.at) qs)
  pub numbers : drop g.at ns ≡ numbers_left q f.left (get_or ns f.at 0) (drop (suc f.at) ns)
  pub least : f.at ≤ g.at
  pub most : g.at ≤ f.at + 1
  pub moves : f.left ≤ q → f.at < g.at
