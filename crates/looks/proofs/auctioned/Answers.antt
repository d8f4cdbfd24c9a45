-- The call leaves a sound session.
use Rattle.std.proofs.Common.{sym, subst}
use Rattle.session.specs.declared.Session.{Session}
use Rattle.session.specs.Sound.{Sound}
use Rattle.answers.specs.Auctions.{AuctionLeaves}
use Rattle.answers.proofs.SoundAfter.{auctioned-sound}
use Rattle.looks.proofs.auctioned.Goals as goal

pub returns : goal.returns
returns c = subst (λ (r : AuctionLeaves Session). Sound r.returned.session) (sym c.auction.ensures) (auctioned-sound _ _ _ c.requires)
