-- The worked example of 01 "Session file": its bytes, and every byte that is printed.
use Rattle.std.specs.Prelude.{ℕ, ◌≡◌, refl, List, [], ◌∷◌}
use Rattle.worked.specs.Computing.{computing}
use Rattle.records.specs.Fields.{number, is_length}
use Rattle.records.specs.Walk.{record_at, walk_from}
use Rattle.text.specs.Text.{digits}
use Rattle.transcript.specs.Transcript.{lines_from, printed}

-- start; buy 50 at 100,200; buy 50 at 100,400; buy 50 at 100,200; sell 80 at 100,200; opening
abbrev worked_file : List ℕ
worked_file =
    24 ∷ 0 ∷ 1 ∷ 0 ∷ 100 ∷ 0 ∷ 0 ∷ 0 ∷ 160 ∷ 134 ∷ 1 ∷ 0 ∷ 9 ∷ 0 ∷ 150 ∷ 0 ∷ 0 ∷ 16 ∷ 165 ∷ 212 ∷ 232 ∷ 0 ∷ 0 ∷ 0
    ∷ 16 ∷ 0 ∷ 2 ∷ 0 ∷ 7 ∷ 0 ∷ 1 ∷ 3 ∷ 50 ∷ 0 ∷ 0 ∷ 0 ∷ 104 ∷ 135 ∷ 1 ∷ 0
    ∷ 16 ∷ 0 ∷ 2 ∷ 0 ∷ 7 ∷ 0 ∷ 1 ∷ 3 ∷ 50 ∷ 0 ∷ 0 ∷ 0 ∷ 48 ∷ 136 ∷ 1 ∷ 0
    ∷ 16 ∷ 0 ∷ 2 ∷ 0 ∷ 7 ∷ 0 ∷ 1 ∷ 3 ∷ 50 ∷ 0 ∷ 0 ∷ 0 ∷ 104 ∷ 135 ∷ 1 ∷ 0
    ∷ 16 ∷ 0 ∷ 2 ∷ 0 ∷ 7 ∷ 0 ∷ 2 ∷ 3 ∷ 80 ∷ 0 ∷ 0 ∷ 0 ∷ 104 ∷ 135 ∷ 1 ∷ 0
    ∷ 5 ∷ 0 ∷ 4 ∷ 0 ∷ 1
    ∷ []

-- the nine lines of 01
abbrev worked_output : List ℕ
worked_output =
    49 ∷ 32 ∷ 115 ∷ 116 ∷ 97 ∷ 114 ∷ 116 ∷ 32 ∷ 48 ∷ 10
    ∷ 50 ∷ 32 ∷ 111 ∷ 114 ∷ 100 ∷ 101 ∷ 114 ∷ 32 ∷ 48 ∷ 32 ∷ 49 ∷ 10
    ∷ 51 ∷ 32 ∷ 111 ∷ 114 ∷ 100 ∷ 101 ∷ 114 ∷ 32 ∷ 48 ∷ 32 ∷ 50 ∷ 10
    ∷ 52 ∷ 32 ∷ 111 ∷ 114 ∷ 100 ∷ 101 ∷ 114 ∷ 32 ∷ 48 ∷ 32 ∷ 51 ∷ 10
    ∷ 53 ∷ 32 ∷ 111 ∷ 114 ∷ 100 ∷ 101 ∷ 114 ∷ 32 ∷ 48 ∷ 32 ∷ 52 ∷ 10
    ∷ 54 ∷ 32 ∷ 97 ∷ 117 ∷ 99 ∷ 116 ∷ 105 ∷ 111 ∷ 110 ∷ 32 ∷ 48 ∷ 32 ∷ 49 ∷ 32 ∷ 49 ∷ 48 ∷ 48 ∷ 50 ∷ 48 ∷ 48 ∷ 32 ∷ 56 ∷ 48 ∷ 32 ∷ 50 ∷ 10
    ∷ 116 ∷ 114 ∷ 97 ∷ 100 ∷ 101 ∷ 32 ∷ 50 ∷ 32 ∷ 52 ∷ 32 ∷ 53 ∷ 48 ∷ 10
    ∷ 116 ∷ 114 ∷ 97 ∷ 100 ∷ 101 ∷ 32 ∷ 49 ∷ 32 ∷ 52 ∷ 32 ∷ 51 ∷ 48 ∷ 10
    ∷ 101 ∷ 110 ∷ 100 ∷ 32 ∷ 54 ∷ 10
    ∷ []

pub worked : printed worked_file ≡ worked_output
unfolding computing number is_length record_at walk_from digits lines_from
worked = refl

-- an opening before any start, and a record that is cut: an answer, a fault at its place, and a count without it
abbrev cut_file : List ℕ
cut_file = 5 ∷ 0 ∷ 4 ∷ 0 ∷ 1 ∷ 5 ∷ 0 ∷ 4 ∷ 0 ∷ []

abbrev cut_output : List ℕ
cut_output =
    49 ∷ 32 ∷ 97 ∷ 117 ∷ 99 ∷ 116 ∷ 105 ∷ 111 ∷ 110 ∷ 32 ∷ 50 ∷ 32 ∷ 48 ∷ 32 ∷ 48 ∷ 32 ∷ 48 ∷ 32 ∷ 48 ∷ 10
    ∷ 50 ∷ 32 ∷ 102 ∷ 97 ∷ 117 ∷ 108 ∷ 116 ∷ 32 ∷ 49 ∷ 10
    ∷ 101 ∷ 110 ∷ 100 ∷ 32 ∷ 49 ∷ 10
    ∷ []

pub cut : printed cut_file ≡ cut_output
unfolding computing number is_length record_at walk_from digits lines_from
cut = refl

-- an empty file prints `end 0`
pub empty : printed [] ≡ 101 ∷ 110 ∷ 100 ∷ 32 ∷ 48 ∷ 10 ∷ []
unfolding computing number is_length record_at walk_from digits lines_from
empty = refl
