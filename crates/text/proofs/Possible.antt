-- The counts that the lines of a state tell decide which joint actions can be done there (specs' possible and block's Available), and which
-- is the last of them (specs' last_joint).
-- Assumes nothing.
use mathlib.Core.Bool.{Bool, true, false}
use mathlib.Core.List.{List}
use mathlib.Core.Logic.{inl, inr, ⊎_elim, ◌↔◌}
use mathlib.Core.Path.{◌≡◌, refl, sym, subst₂, ◌∙◌}
use Prim.Native.Nat.{ℕ, ◌+◌, ◌*◌, ◌≤◌, ◌<◌}
use native.Mathlib.Omega.{arith}
use lib.Dec.{T, ltb, eqb, ltb→lt, lt→ltb, eqb→eq, lit<}
use lib.ListN.{get_or}
use Rattle.block.specs.Layout.{Block, max_agents, max_joint, agents, count, digit, Acts}
use Rattle.block.proofs.Digits.{each_agent}
use Rattle.text.specs.Job.{both, possible, last_joint, no_counts}
use Rattle.text.proofs.Decimals.{lt_or_ge}
use Rattle.text.specs.Inner.Fields.{counts_to}
use Rattle.text.proofs.Collecting.{collected_at, collected_past}

all_three : (x y z : Bool) → T (both x (both y z)) ↔ (T x × T y × T z)
all_three true true z = (λ t. (tt, tt, t), λ p. p.2)
all_three true false z = (λ t. absurd t, λ p. p.1)
all_three false y z = (λ t. absurd t, λ p. p.0)

-- a test of each agent
each : (test : ℕ → Bool) → T (both (test 0) (both (test 1) (test 2))) ↔ ((a : ℕ) → a < max_agents → T (test a))
each test =
    let three = all_three (test 0) (test 1) (test 2) in
    (λ t. each_agent (λ a. T (test a)) (three.0 t).0 (three.0 t).1 (three.0 t).2, λ h. three.1 (h 0 (lit< tt), h 1 (lit< tt), h 2 (lit< tt)))

module _ (b : Block) (s : ℕ) where
  abbrev counts : List ℕ
  counts = counts_to b s (agents b)

  one_each : (a : ℕ) → a < max_agents → get_or no_counts a 0 ≡ 1
  one_each = each_agent (λ a. get_or no_counts a 0 ≡ 1) refl refl refl

  acts_told : (a k : ℕ) → a < max_agents → T (ltb k (get_or counts a 0)) ↔ Acts b s a k
  acts_told a k h = ⊎_elim present absent (lt_or_ge a (agents b))
    where
      present : a < agents b → T (ltb k (get_or counts a 0)) ↔ Acts b s a k
      present l = rw (collected_at (count b s) no_counts (agents b) a l h)
          (λ t. inl (l, ltb→lt k (count b s a) t), λ x. ⊎_elim (λ y. lt→ltb k (count b s a) y.1) (λ y. absurd (omega (arith, y.0))) x)

      absent : agents b ≤ a → T (ltb k (get_or counts a 0)) ↔ Acts b s a k
      absent l = rw (collected_past (count b s) no_counts (agents b) a l ∙ one_each a h)
          (λ t. inr (l, omega (arith, ltb→lt k 1 t)), λ x. ⊎_elim (λ y. absurd (omega (arith, y.0))) (λ y. lt→ltb k 1 (omega (arith, y.1))) x)

  pub possible_acts : (joint : ℕ) → T (possible counts joint) ↔ ((a : ℕ) → a < max_agents → Acts b s a (digit joint a))
  unfolding possible
  possible_acts joint =
      let digits = each (λ a. ltb (digit joint a) (get_or counts a 0)) in
      (λ t a l. (acts_told a (digit joint a) l).0 (digits.0 t a l), λ h. digits.1 (λ a l. (acts_told a (digit joint a) l).1 (h a l)))

-- the counts as their digits are compared with them
module _ (counts : List ℕ) (joint : ℕ) where
  possible_digits : T (possible counts joint) ↔ ((a : ℕ) → a < max_agents → digit joint a < get_or counts a 0)
  unfolding possible
  possible_digits =
      let digits = each (λ a. ltb (digit joint a) (get_or counts a 0)) in
      (λ t a l. ltb→lt (digit joint a) (get_or counts a 0) (digits.0 t a l), λ h. digits.1 (λ a l. lt→ltb (digit joint a) (get_or counts a 0) (h a l)))

  last_digits : T (last_joint counts joint) → (a : ℕ) → a < max_agents → digit joint a + 1 ≡ get_or counts a 0
  unfolding last_joint
  last_digits t a l = eqb→eq (digit joint a + 1) (get_or counts a 0) ((each (λ a. eqb (digit joint a + 1) (get_or counts a 0))).0 t a l)

by_digits : (joint : ℕ) → joint < max_joint → joint ≡ digit joint 0 + 4 * digit joint 1 + 16 * digit joint 2
by_digits joint l = omega arith

digitwise : {x₀ x₁ x₂ y₀ y₁ y₂ : ℕ} → x₀ ≤ y₀ → x₁ ≤ y₁ → x₂ ≤ y₂ → x₀ + 4 * x₁ + 16 * x₂ ≤ y₀ + 4 * y₁ + 16 * y₂
digitwise h₀ h₁ h₂ = omega arith

-- the joint action of each agent's last action can be done, and no later one
pub last_possible : (counts : List ℕ) (joint : ℕ) → T (last_joint counts joint) → T (possible counts joint)
last_possible counts joint t = (possible_digits counts joint).1 (λ a l. omega (arith, last_digits counts joint t a l))

pub possible_last : (counts : List ℕ) (joint other : ℕ) → joint < max_joint → other < max_joint → T (last_joint counts joint) → T (possible counts other) → other ≤ joint
possible_last counts joint other l l' t u =
    let no-later : (a : ℕ) → a < max_agents → digit other a ≤ digit joint a = λ a h. omega (arith, last_digits counts joint t a h, (possible_digits counts other).0 u a h) in
    let below : digit other 0 + 4 * digit other 1 + 16 * digit other 2 ≤ digit joint 0 + 4 * digit joint 1 + 16 * digit joint 2 = digitwise (no-later 0 (lit< tt)) (no-later 1 (lit< tt)) (no-later 2 (lit< tt)) in
    subst₂ (λ (x y : ℕ). x ≤ y) (sym (by_digits other l')) (sym (by_digits joint l)) below
