-- The two sides of a game at one position, and the laws that both orders of play have: the coalition attacks and its opponents defend
-- (until), or the other way round (always). What a position is worth to the attack is computed from its outcomes' ranks. Assumes nothing.
use Prim.Native.Nat.{ℕ, ◌^◌, ◌≤◌, ◌<◌}
use native.Mathlib.Omega.{arith}
use Rattle.game.specs.Position.{Arena, Position, IsPosition, number, Reply, outcome}
use Rattle.game.specs.Table.{never}
use Rattle.game.specs.Inner.Facts.{CanForce, CanAnswer}
use Rattle.game.proofs.Numbers.Decide.{not_not, not?}
use Rattle.game.proofs.Numbers.Values.{largest, least, largest_each, largest_some, least_each, least_some}
use Rattle.game.proofs.Bridge.Proper.{Proper}
use Rattle.game.proofs.Local.Decidable.{allowed?, reply?, some?}
use Rattle.game.proofs.Whole.Choices.{idle_allowed, idle_reply}
use Rattle.game.proofs.Whole.Bounded.{Meets, force_answer, answer_force}
use Rattle.game.proofs.Local.ByNumber.{Transfers, force_transfers, answer_transfers}
use Rattle.game.proofs.Solving.Sweeping.{Weakens, force_weakens, answer_weakens}

pub record Sides (G : Arena) : Type 1 where
  pub Attack : Position → (Position → Type 0) → Type 0
  pub Defend : Position → (Position → Type 0) → Type 0
  pub attack_weakens : Weakens G Attack
  pub defend_weakens : Weakens G Defend
  pub attack_transfers : Transfers G Attack
  pub defend_transfers : Transfers G Defend
  pub meets : Meets G Attack Defend
  -- the rank that the attack can keep to and the defence can keep up
  pub value : (ℕ → ℕ) → Position → ℕ
  pub attained : (rank : ℕ → ℕ) (p : Position) → value rank p < never → Attack p (λ x. rank (number G x) ≤ value rank p)
  pub defended : (rank : ℕ → ℕ) (p : Position) → IsPosition G p → Defend p (λ x. value rank p ≤ rank (number G x))

module _ (G : Arena) (rank : ℕ → ℕ) (p : Position) where
  -- how many joint actions may be moves
  abbrev joints : ℕ
  joints = 4 ^ G.structure.agents

  abbrev after : ℕ → ℕ → ℕ
  after m r = rank (number G (outcome G p m r))

  -- the least over the moves of the largest over the replies, and the largest over the moves of the least over the replies
  abbrev pub least_largest : ℕ
  least_largest = least (allowed? G p) (λ m. largest (reply? G p) (after m) joints) joints

  abbrev pub largest_least : ℕ
  largest_least = largest (allowed? G p) (λ m. least (reply? G p) (after m) joints) joints

  pub force_attained : least_largest < never → CanForce G p (λ x. rank (number G x) ≤ least_largest)
  force_attained finite =
      let (m, a, l) = least_some (allowed? G p) (λ m. largest (reply? G p) (after m) joints) joints least_largest (omega arith) finite in
      (m, a, λ r reply. omega (arith, l, largest_each (reply? G p) (after m) joints r reply.0 reply))

  pub answer_attained : largest_least < never → CanAnswer G p (λ x. rank (number G x) ≤ largest_least)
  answer_attained finite m a =
      least_some (reply? G p) (after m) joints largest_least (largest_each (allowed? G p) (λ m. least (reply? G p) (after m) joints) joints m a.0.0 a) finite

  module _ (proper : Proper G.structure) (fits : IsPosition G p) where
    pub answer_defended : CanAnswer G p (λ x. least_largest ≤ rank (number G x))
    answer_defended m a =
        largest_some (reply? G p) (after m) 0 (idle_reply G proper p fits) joints least_largest
        (least_each (allowed? G p) (λ m. largest (reply? G p) (after m) joints) joints m a.0.0 a)

    pub force_defended : CanForce G p (λ x. largest_least ≤ rank (number G x))
    force_defended =
        let (m, a, l) = largest_some (allowed? G p) (λ m. least (reply? G p) (after m) joints) 0 (idle_allowed G proper p fits) joints largest_least (omega arith) in
        (m, a, λ r reply. omega (arith, l, least_each (reply? G p) (after m) joints r reply.0 reply))

-- the opponents answer what the coalition cannot force
pub unforced : (G : Arena) (p : Position) (U : Position → Type 0) → ((x : Position) → Dec (U x)) → (CanForce G p U → ⊥) → CanAnswer G p (λ x. U x → ⊥)
unforced G p U U? fails m a = go (some? G p (λ x. U x → ⊥) m (λ r _. not? (U? (outcome G p m r))))
  where
    go : Dec ((r : ℕ) × Reply G p r × (U (outcome G p m r) → ⊥)) → (r : ℕ) × Reply G p r × (U (outcome G p m r) → ⊥)
    go (yes found) = found
    go (no none) = absurd (fails (m, a, λ r reply. not_not (U? (outcome G p m r)) (λ h. none (r, reply, h))))

module _ (G : Arena) (proper : Proper G.structure) where
  -- until: the coalition attacks
  abbrev pub coalition_attacks : Sides G
  coalition_attacks = record {
    Attack = CanForce G;
    Defend = CanAnswer G;
    attack_weakens = force_weakens G proper;
    defend_weakens = answer_weakens G proper;
    attack_transfers = force_transfers G;
    defend_transfers = answer_transfers G;
    meets = force_answer G proper;
    value = least_largest G;
    attained = force_attained G;
    defended = λ rank p. answer_defended G rank p proper;
  }

  -- always: the opponents attack
  abbrev pub opponents_attack : Sides G
  opponents_attack = record {
    Attack = CanAnswer G;
    Defend = CanForce G;
    attack_weakens = answer_weakens G proper;
    defend_weakens = force_weakens G proper;
    attack_transfers = answer_transfers G;
    defend_transfers = force_transfers G;
    meets = answer_force G proper;
    value = largest_least G;
    attained = answer_attained G;
    defended = λ rank p. force_defended G rank p proper;
  }
