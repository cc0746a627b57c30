-- The ranks of a strategic row by its kind. Assumes nothing.
use mathlib.Core.Bool.{false}
use mathlib.Core.List.{List}
use mathlib.Core.Path.{◌≡◌, sym, ap, subst}
use Prim.Native.Nat.{ℕ}
use Rattle.block.specs.Decide.{Bit}
use Rattle.block.specs.Layout as L
use Rattle.block.specs.Layout.{Block}
use Rattle.game.specs.Position.{number}
use Rattle.game.specs.Play.{Objective, always}
use Rattle.game.specs.Inner.Facts.{RankFacts}
use Rattle.turns.specs.Buffers.{rank_in}
use Rattle.game.specs.Model.{arena_of}
use Rattle.game.specs.Inner.Words.{objective_by, Says}
use Rattle.sweeps.specs.Solving.{Solved}
use Rattle.choice.specs.Tables.{RanksOf}
use Rattle.solver.proofs.Words.{no_bits}

module _ (b : Block) (i left right : ℕ) (ranks : List ℕ) where
  told : (t : Objective) → objective_by (L.kind b i) left right ≡ t → RankFacts (arena_of b i) t (λ p. rank_in ranks (number (arena_of b i) p)) → RankFacts (arena_of b i) (objective_by (L.kind b i) left right) (λ p. rank_in ranks (number (arena_of b i) p))
  told t e = subst (λ (t : Objective). RankFacts (arena_of b i) t (λ p. rank_in ranks (number (arena_of b i) p))) (sym e)

  -- always: the opponents attack from every state, to come outside left
  pub always_ranked : L.kind b i ≡ 4 → (all fails : ℕ) → Says b all (λ s. Bit 0 s → ⊥) → Says b fails (λ s. Bit left s → ⊥) → Solved (arena_of b i) false all fails ranks → RanksOf b i left right ranks
  always_ranked e all fails everywhere outside found = record {
    facts = told (always (Bit left)) (ap (λ (k : ℕ). objective_by k left right) e) record {
      sound = record {
        bounded = found.ranked.sound.bounded;
        reached = λ p fits zero. (outside.1.1 p.state fits.0).0 (found.ranked.sound.reached p fits zero);
        goal = λ p fits misses. found.ranked.sound.goal p fits ((outside.1.1 p.state fits.0).1 misses);
        safe = λ p fits positive finite. tt;
        attack = found.ranked.sound.attack;
      };
      stable = λ p fits _. found.ranked.stable p fits ((everywhere.1.1 p.state fits.0).1 (no_bits p.state));
    };
    outside = found.outside;
  }
