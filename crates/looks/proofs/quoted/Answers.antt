-- The call leaves a sound session.
use Rattle.std.proofs.Common.{sym, subst}
use Rattle.session.specs.declared.Session.{Session}
use Rattle.session.specs.Sound.{Sound}
use Rattle.quotation.specs.QuoteSound.{quoted-sound}
use Rattle.quotation.specs.declared.Quoted.{Quoted}
use Rattle.looks.proofs.quoted.Goals as goal

pub returns : goal.returns
returns c = subst (λ (r : Quoted Session). Sound r.session) (sym c.quote.ensures) (quoted-sound _ _ c.requires)
