-- `spelled` reads a field by its spellings and stores its byte where it may stand there.
use Rattle.text.proofs.Search.{search_inv}
use Rattle.scan.proofs.fields.spelled.Goals as goal

pub byte_of-value-requires : goal.byte_of-value-requires
byte_of-value-requires c =
    let there = rw c.in_ok-found.was at c.ok_or.ensures.ok_part in
    (search_inv _ _ _ _ _ (rw there at c.spelling_at.ensures.text_value)).0
