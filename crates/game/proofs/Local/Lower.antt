-- Facts about a row's table hold however the lower rows are told: by their sets as well as by their truth. Assumes nothing.
use mathlib.Core.Logic.{◌⊎◌, ◌↔◌, inl, inr}
use mathlib.Core.Path.{◌≡◌}
use Prim.Native.Nat.{ℕ, ◌<◌}
use Rattle.game.specs.Position.{Arena, Position, IsPosition, Reply, Allowed, outcome}
use Rattle.game.specs.Play.{Objective, next, always, until}
use Rattle.game.specs.Table.{Table, never, rank_at, move_at}
use Rattle.game.specs.Inner.Facts.{CanForce, CanAnswer, Facts}
use Rattle.game.proofs.Bridge.Proper.{Proper}
use Rattle.game.proofs.Bridge.Plays.{outcome_fits}

-- the two tell the same of every state
abbrev pub Tells : Arena → (ℕ → Type 0) → (ℕ → Type 0) → Type 0
Tells G left left' = (q : ℕ) → q < G.structure.states → left q ↔ left' q

-- the same kind of row over lower rows that are told differently
pub data Retold (G : Arena) : Objective → Objective → Type 1 where
  same_next : {left left' : ℕ → Type 0} → Tells G left left' → Retold G (next left) (next left')
  same_always : {left left' : ℕ → Type 0} → Tells G left left' → Retold G (always left) (always left')
  same_until : {left left' right right' : ℕ → Type 0} → Tells G left left' → Tells G right right' → Retold G (until left right) (until left' right')

decided_again : {P Q : Type 0} → P ↔ Q → Dec P → Dec Q
decided_again e (yes p) = yes (e.0 p)
decided_again e (no fails) = no (λ q. fails (e.1 q))

module _ (G : Arena) (proper : Proper G.structure) (X : Table) where
  module _ (left left' right right' : ℕ → Type 0) (l : Tells G left left') (r : Tells G right right') (facts : Facts G X (until left right)) where
    until_retold : Facts G X (until left' right')
    until_retold = record {
      ranks = record {
        sound = record {
          bounded = facts.ranks.sound.bounded;
          reached = λ p fits e. (r p.state fits.0).0 (facts.ranks.sound.reached p fits e);
          goal = λ p fits h. facts.ranks.sound.goal p fits ((r p.state fits.0).1 h);
          safe = λ p fits positive finite. (l p.state fits.0).0 (facts.ranks.sound.safe p fits positive finite);
          attack = facts.ranks.sound.attack;
        };
        stable = λ p fits h. facts.ranks.stable p fits ((l p.state fits.0).1 h);
      };
      moves = λ p fits. record { lost = (facts.moves p fits).lost; met = (facts.moves p fits).met; best = (facts.moves p fits).best };
      decided = ((λ q inside. decided_again (l q inside) (facts.decided.0 q inside)), λ q inside. decided_again (r q inside) (facts.decided.1 q inside));
    }

  module _ (left left' : ℕ → Type 0) (l : Tells G left left') where
    always_retold : Facts G X (always left) → Facts G X (always left')
    always_retold facts = record {
      ranks = record {
        sound = record {
          bounded = facts.ranks.sound.bounded;
          reached = λ p fits e h. facts.ranks.sound.reached p fits e ((l p.state fits.0).1 h);
          goal = λ p fits fails. facts.ranks.sound.goal p fits (λ h. fails ((l p.state fits.0).0 h));
          safe = facts.ranks.sound.safe;
          attack = facts.ranks.sound.attack;
        };
        stable = facts.ranks.stable;
      };
      moves = λ p fits. record { lost = (facts.moves p fits).lost; met = (facts.moves p fits).met; best = (facts.moves p fits).best };
      decided = λ q inside. decided_again (l q inside) (facts.decided q inside);
    }

    next_retold : Facts G X (next left) → Facts G X (next left')
    next_retold facts = record {
      ranks = λ p fits. told p fits (facts.ranks p fits);
      moves = λ p fits. record {
        lost = (facts.moves p fits).lost;
        met = (facts.moves p fits).met;
        best = λ claim unmet.
            let (good, none) = (facts.moves p fits).best claim unmet in (
              (good.0, λ r reply. (at p fits (move_at G X p) r good.0 reply).0 (good.1 r reply)),
              λ k less (a, f). none k less (a, λ r reply. (at p fits k r a reply).1 (f r reply)),
            );
      };
      decided = λ q inside. decided_again (l q inside) (facts.decided q inside);
    }
      where
        at : (p : Position) → IsPosition G p → (m r : ℕ) → Allowed G p m → Reply G p r → left (outcome G p m r).state ↔ left' (outcome G p m r).state
        at p fits m r a reply = l (outcome G p m r).state (outcome_fits G proper p m r fits a.0 reply).0

        told : (p : Position) → IsPosition G p
            → ((rank_at G X p ≡ 1) × CanForce G p (λ x. left x.state)) ⊎ ((rank_at G X p ≡ never) × CanAnswer G p (λ x. left x.state → ⊥))
            → ((rank_at G X p ≡ 1) × CanForce G p (λ x. left' x.state)) ⊎ ((rank_at G X p ≡ never) × CanAnswer G p (λ x. left' x.state → ⊥))
        told p fits (inl (e, (m, a, f))) = inl (e, (m, a, λ r reply. (at p fits m r a reply).0 (f r reply)))
        told p fits (inr (e, f)) = inr (e, λ m a. let (r, reply, fails) = f m a in (r, reply, λ h. fails ((at p fits m r a reply).1 h)))

  pub retold : {t t' : Objective} → Retold G t t' → Facts G X t → Facts G X t'
  retold (same_next {left} {left'} l) facts = next_retold left left' l facts
  retold (same_always {left} {left'} l) facts = always_retold left left' l facts
  retold (same_until {left} {left'} {right} {right'} l r) facts = until_retold left left' right right' l r facts
