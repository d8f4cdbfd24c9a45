-- Numbers: 01 "Refusals by number". Each refusal's number, and the number that an answer has.
use Rattle.std.specs.Prelude.{ℕ, Bool, cond, Result, Ok, Err, ◌≢◌}
use Rattle.std.proofs.Common.{arith}
use Rattle.refusals.specs.declared.refusal.Refusal.{Refusal}
use Rattle.refusals.specs.declared.refusal.Refusal.TheVariants.{OutOfRange, NotStarted, Started, PhaseForbids, OffStep, ReachesCollar, ReachesMost, ReachesMostAtReference, NumbersGiven, PlacesTaken, NoSuchOrder, TooShort, Crossed, MembersEntered}

abbrev pub refusal_number : Refusal → ℕ
refusal_number OutOfRange = 1
refusal_number NotStarted = 2
refusal_number Started = 3
refusal_number PhaseForbids = 4
refusal_number OffStep = 5
refusal_number ReachesCollar = 6
refusal_number ReachesMost = 7
refusal_number ReachesMostAtReference = 8
refusal_number NumbersGiven = 9
refusal_number PlacesTaken = 10
refusal_number NoSuchOrder = 11
refusal_number TooShort = 12
refusal_number Crossed = 13
refusal_number MembersEntered = 16

-- a refusal where its rule hits
abbrev pub refused_when : Bool → Refusal → Result (Unit {0}) Refusal
refused_when hit r = cond hit (Err r) (Ok tt)

-- what is answered: the refusal's number, or 0 where all is done
abbrev pub number_answered : {A : Type 0} → Result A Refusal → ℕ
number_answered (Ok a) = 0
number_answered (Err r) = refusal_number r

-- .. what is done, or the number
abbrev pub numbered_answer : {A : Type 0} → Result A Refusal → Result A ℕ
numbered_answer (Ok a) = Ok a
numbered_answer (Err r) = Err (refusal_number r)

-- every refusal's number is above 0
pub refusal-number-above : (r : Refusal) → refusal_number r ≢ 0
refusal-number-above OutOfRange e = omega arith
refusal-number-above NotStarted e = omega arith
refusal-number-above Started e = omega arith
refusal-number-above PhaseForbids e = omega arith
refusal-number-above OffStep e = omega arith
refusal-number-above ReachesCollar e = omega arith
refusal-number-above ReachesMost e = omega arith
refusal-number-above ReachesMostAtReference e = omega arith
refusal-number-above NumbersGiven e = omega arith
refusal-number-above PlacesTaken e = omega arith
refusal-number-above NoSuchOrder e = omega arith
refusal-number-above TooShort e = omega arith
refusal-number-above Crossed e = omega arith
refusal-number-above MembersEntered e = omega arith
