-- By the table that its part holds.
use mathlib.Core.Path.{◌∙◌}
use Rattle.records.specs.BandsRead.{bands-within, bands-record, bands-part}
use Rattle.transcript.proofs.steps.bands_written.Goals as goal

pub bands_from-requires : goal.bands_from-requires
bands_from-requires c = bands-within _ _ c.requires.2

pub returns : goal.returns
returns c = let stands = c.requires.2 in
    rw (bands-record _ _ stands) (rw (c.bands_from.ensures ∙ bands-part _ _ stands) at c.table_written.ensures)
