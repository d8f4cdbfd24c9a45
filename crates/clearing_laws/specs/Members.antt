-- The rows of the square (02 K5): the members in the order of their first accepted order or quote.
use Rattle.std.specs.Prelude.{ℕ, zero, suc, List, [], ◌∷◌, ◌++◌}
use Rattle.squares.specs.Square.{joined}
use Rattle.desk.specs.declared.{Desk.Desk}
use Rattle.desk.specs.Calls.{entered, quoted}
use Rattle.demands.specs.Sequences.{Act, Call}
use Rattle.clearing_laws.specs.Runs.{after}

-- whose order or quote a call accepts, and those of a run, one after the other
abbrev pub if_accepted : ℕ → ℕ → List ℕ
if_accepted zero m = m ∷ []
if_accepted (suc answer) m = []

abbrev pub accepted_by : Desk → Act → List ℕ
accepted_by d (Act.start x) = []
accepted_by d (Act.order e) = if_accepted (entered d e).answer e.member
accepted_by d (Act.delete number member) = []
accepted_by d (Act.quote e) = if_accepted (quoted d e).answer e.member
accepted_by d (Act.auction which list) = []

abbrev pub accepted : Desk → Call → List ℕ
accepted d (Call.act c) = accepted_by d c
accepted d (Call.look l) = []

abbrev pub accepted_so_far : Desk → List Call → List ℕ
accepted_so_far d [] = []
accepted_so_far d (c ∷ cs) = accepted d c ++ accepted_so_far (after d c) cs

-- each of them once, in the order in which they first come
abbrev pub joined_all : List ℕ → List ℕ → List ℕ
joined_all ms [] = ms
joined_all ms (x ∷ xs) = joined_all (joined ms x) xs
