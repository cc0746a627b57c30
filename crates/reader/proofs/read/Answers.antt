-- `read` reads into a blank block and copies it where the text is accepted.
use mathlib.Core.Path.{◌≡◌, refl, ◌∙◌}
use Rattle.text.specs.Format.{accepted, refused}
use Rattle.text.specs.Text.{blank, read_call}
use Rattle.text.proofs.Accepts.{accepts}
use Rattle.text.proofs.Numbered.{numbered}
use Rattle.reader.proofs.Calls.{read_long, read_other, read_whole}
use Rattle.reader.proofs.read.Goals as goal

pub returns-then-text-gt-TEXT_BYTES : goal.returns-then-text-gt-TEXT_BYTES
returns-then-text-gt-TEXT_BYTES c = rw (read_long _ _ c.if-text-gt-TEXT_BYTES.true) record { value = refl; block_after = refl; exact = accepts _; numbered = numbered _ }

pub returns-then-block-ne-BLOCK_BYTES : goal.returns-then-block-ne-BLOCK_BYTES
returns-then-block-ne-BLOCK_BYTES c =
    rw (read_other _ _ c.if-text-gt-TEXT_BYTES.false c.if-block-ne-BLOCK_BYTES.true) record { value = refl; block_after = refl; exact = accepts _; numbered = numbered _ }

pub returns-in-Ok : goal.returns-in-Ok
unfolding blank
returns-in-Ok c =
    let is : read_call c.args.text.now c.args.block.now ≡ accepted c.read_into.new.job =
    read_whole c.args.text.now c.args.block.now c.if-text-gt-TEXT_BYTES.false c.if-block-ne-BLOCK_BYTES.false ∙ c.in-Ok.ensures.text_value in
    rw is record { value = refl; block_after = c.copy_from_slice.ensures.after; exact = accepts _; numbered = numbered _ }

pub returns-in-Err : goal.returns-in-Err
unfolding blank
returns-in-Err c =
    let is : read_call c.args.text.now c.args.block.now ≡ refused _ _ =
    read_whole c.args.text.now c.args.block.now c.if-text-gt-TEXT_BYTES.false c.if-block-ne-BLOCK_BYTES.false ∙ c.in-Err.ensures.text_value in
    rw is record { value = refl; block_after = refl; exact = accepts _; numbered = numbered _ }
