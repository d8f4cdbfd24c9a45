-- The word copied into its part of the buffer.
use Rattle.std.proofs.Common.{refl, ◌∙◌, arith, length}
use Rattle.std.proofs.lemmas.Slice.{put_mid-paste}
use Rattle.lists.specs.Put.{put-pasted}
use Rattle.text.proofs.put_bytes.Goals as goal

pub returns : goal.returns
returns c =
    let word = c.args.word.now in
    (refl, put_mid-paste _ _ c.args.out.now _ word (length word) c.copy_from_slice.ensures.after (omega arith) refl ∙ put-pasted c.args.out.now c.args.at word (length word) refl)
