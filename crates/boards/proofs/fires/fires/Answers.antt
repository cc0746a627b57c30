-- `fires` compares what both words have in common with all of the first, or with nothing.
use Rattle.block.proofs.Decide as D
use Rattle.boards.proofs.Words.{most_fires, some_fires}
use Rattle.boards.proofs.fires.fires.Goals as goal

pub returns-then-most : goal.returns-then-most
returns-then-most c = let law = most_fires c.args.to c.args.won in
    rw c.if-most.true (D.same (D.equal _ _) law.0 law.1)

pub returns-else-most : goal.returns-else-most
returns-else-most c = let law = some_fires c.args.to c.args.won in
    rw c.if-most.false (D.opposite (D.equal _ _) (λ e fires. law.1 fires e) law.0)
