-- Words that stand for no rank become never. Assumes nothing.
use mathlib.Core.List.{List}
use mathlib.Core.Path.{◌≡◌, refl, ◌∙◌, ap}
use Prim.Native.Nat.{ℕ, ◌+◌, ◌≤◌, ◌<◌}
use native.Mathlib.Omega.{arith}
use Rattle.game.specs.Table.{never}
use Rattle.turns.specs.Buffers.{rank_in}
use Rattle.turns.specs.Inner.Stores.{Stored}
use Rattle.game.proofs.Numbers.Decide.{eq?}
use Rattle.stages.specs.Stages.{hold}
use Rattle.stages.specs.Solving.{Finished}

-- words below p are turned, one after another
pub finished_none : {l : List ℕ} → Finished 0 l l
finished_none = record { ranked = λ p small. absurd (omega arith); unranked = λ p small. absurd (omega arith); outside = λ p _. refl; long = refl }

pub finished_stays : {p : ℕ} {l l' : List ℕ} → Finished p l l' → rank_in l' p < hold → Finished (p + 1) l l'
finished_stays {p} {l} {l'} so_far low = record {
  ranked = λ k small is. ranked k small is (eq? k p);
  unranked = λ k small is. unranked k small is (eq? k p);
  outside = λ k from. so_far.outside k (omega arith);
  long = so_far.long;
}
  where
    ranked : (k : ℕ) → k < p + 1 → rank_in l k < hold → Dec (k ≡ p) → rank_in l' k ≡ rank_in l k
    ranked k small is (yes e) = so_far.outside k (omega arith)
    ranked k small is (no ne) = so_far.ranked k (omega arith) is

    unranked : (k : ℕ) → k < p + 1 → hold ≤ rank_in l k → Dec (k ≡ p) → rank_in l' k ≡ never
    unranked k small is (yes e) = let was = so_far.outside k (omega arith) in let at = ap (rank_in l') e in absurd (omega (arith, was, at))
    unranked k small is (no ne) = so_far.unranked k (omega arith) is

pub finished_next : {p : ℕ} {l l' l'' : List ℕ} → Finished p l l' → hold ≤ rank_in l' p → Stored rank_in l' l'' p never → Finished (p + 1) l l''
finished_next {p} {l} {l'} {l''} so_far high put = record {
  ranked = λ k small is. ranked k small is (eq? k p);
  unranked = λ k small is. unranked k small is (eq? k p);
  outside = λ k from. put.others k (λ e. omega arith) ∙ so_far.outside k (omega arith);
  long = put.kept ∙ so_far.long;
}
  where
    ranked : (k : ℕ) → k < p + 1 → rank_in l k < hold → Dec (k ≡ p) → rank_in l'' k ≡ rank_in l k
    ranked k small is (yes e) = let was = so_far.outside k (omega arith) in let at = ap (rank_in l') e in absurd (omega (arith, was, at))
    ranked k small is (no ne) = put.others k ne ∙ so_far.ranked k (omega arith) is

    unranked : (k : ℕ) → k < p + 1 → hold ≤ rank_in l k → Dec (k ≡ p) → rank_in l'' k ≡ never
    unranked k small is (yes e) = ap (rank_in l'') e ∙ put.stored
    unranked k small is (no ne) = put.others k ne ∙ so_far.unranked k (omega arith) is
