-- Start from what its code learns on the way, for its promise.
use Rattle.std.specs.Prelude.{true, false, ◌≡◌, List}
use Rattle.std.proofs.Common.{arith}
use Rattle.terms.specs.Parameters.{is_start, parameters_from}
use Rattle.terms.specs.declared.parameters.{Start.Start, Parameters.Parameters}
use Rattle.controls.specs.Phases.{has_started}
use Rattle.refusals.specs.Checks.{Check, answered-refused, answered-done, hits, passes, passes-last}
use Rattle.session.specs.declared.{Session.Session}
use Rattle.session.specs.State.{begun}
use Rattle.entries.specs.Entry.{start_checks, start_refused, start_done, started}

module _ (s : Session) (x : Start) where
  abbrev checks : List Check
  checks = start_checks s x

  pub start-out-of-range : is_start x ≡ false → start_refused s 1 ≡ started s x
  unfolding started
  start-out-of-range h = answered-refused checks (start_refused s) _ (hits 1 _ (rw h)) (λ z. omega arith)

  module _ {p : Parameters} (good : (is_start x ≡ true) × (p ≡ parameters_from x)) where
    pub start-again : has_started s.phase ≡ true → start_refused s 3 ≡ started s x
    unfolding started
    start-again h = answered-refused checks (start_refused s) _ (passes 1 _ (rw good.0) (hits 3 _ h)) (λ z. omega arith)

    pub start-begun : has_started s.phase ≡ false → record { answer = 0; session = begun s p } ≡ started s x
    unfolding started
    start-begun h = rw good.1 (answered-done checks (start_refused s) (start_done s x) (passes 1 _ (rw good.0) (passes-last 3 h)))
