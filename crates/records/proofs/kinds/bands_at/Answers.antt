use mathlib.Core.Path.{sym, ◌∙◌}
use Rattle.records.specs.Headers.{header-bad, bands-short, bands-open, bands-misfit, bands-cut, bands-record}
use Rattle.records.proofs.kinds.bands_at.Goals as goal

pub returns-then-head-from : goal.returns-then-head-from
returns-then-head-from c = header-bad _ _ (λ i. (c.type_inv.bytes i).fits) c.requires.says (rw c.from.ensures at c.if-head-from.true) c.requires.other

pub returns-then-length-lt-COUNTED_LENGTH : goal.returns-then-length-lt-COUNTED_LENGTH
returns-then-length-lt-COUNTED_LENGTH c = bands-short _ _ (λ i. (c.type_inv.bytes i).fits) c.requires.says (c.if-head-from.false ∙ c.from.ensures) c.if-length-lt-COUNTED_LENGTH.true

pub returns-then-bytes-place-lt-COUNTED_LENGTH : goal.returns-then-bytes-place-lt-COUNTED_LENGTH
returns-then-bytes-place-lt-COUNTED_LENGTH c = bands-open _ _ (λ i. (c.type_inv.bytes i).fits) c.requires.says (c.if-head-from.false ∙ c.from.ensures) c.if-length-lt-COUNTED_LENGTH.false c.if-bytes-place-lt-COUNTED_LENGTH.true

pub returns-then-length-bands_length : goal.returns-then-length-bands_length
returns-then-length-bands_length c = bands-misfit _ _ (λ i. (c.type_inv.bytes i).fits) c.requires.says (c.if-head-from.false ∙ c.from.ensures) c.if-bytes-place-lt-COUNTED_LENGTH.false
    (λ e. c.if-length-bands_length.true (e ∙ sym (rw c.two.ensures at c.bands_length.ensures)))

pub returns-then-bytes-place : goal.returns-then-bytes-place
returns-then-bytes-place c = bands-cut _ _ (λ i. (c.type_inv.bytes i).fits) c.requires.says (c.if-head-from.false ∙ c.from.ensures)
    (c.if-length-bands_length.false ∙ rw c.two.ensures at c.bands_length.ensures) c.if-bytes-place.true

pub returns : goal.returns
returns c = bands-record _ _ (λ i. (c.type_inv.bytes i).fits) c.requires.says (c.if-head-from.false ∙ c.from.ensures)
    (c.if-length-bands_length.false ∙ rw c.two.ensures at c.bands_length.ensures) c.if-bytes-place.false c.bands_fields.ensures
