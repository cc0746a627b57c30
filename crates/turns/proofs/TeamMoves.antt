-- A team's move is a joint action that can be done and is the team's part of itself. Assumes nothing.
use mathlib.Core.Bool.{Bool, true, false, cond}
use mathlib.Core.Logic.{inl, inr, ⊎_elim}
use mathlib.Core.Path.{◌≡◌, refl, sym, ◌∙◌, ap}
use Prim.Native.Nat.{ℕ, zero, suc, ◌+◌, ◌-◌, ◌%◌, ◌^◌, ◌≤◌, ◌<◌}
use native.Mathlib.Nat.{pow-le-pow_right, div-eq_of_lt}
use native.Mathlib.Omega.{arith}
use Rattle.block.specs.Layout as L
use Rattle.block.specs.Layout.{Block, digit, Acts, Available}
use Rattle.block.specs.Inner.Valid.{Valid}
use Rattle.block.proofs.Digits.{each_agent}
use Rattle.game.specs.Rbatl.{Coalition}
use Rattle.game.specs.Position.{ActsFor, MoveOf}
use Rattle.game.specs.Inner.Parts.{part_of}
use Rattle.game.specs.Model.{structure_of}
use Rattle.game.proofs.Numbers.Decide.{lt?}
use Rattle.parts.proofs.Tables.{cond_small}

-- a digit is that of the part for the team's agents, and 0 for the others
cond_same : (t : Bool) (d : ℕ) → (t ≡ false → d ≡ 0) → cond t d 0 ≡ d
cond_same true d h = refl
cond_same false d h = sym (h refl)

-- past the agents there are no digits
digit_beyond : (m n a : ℕ) → m < 4 ^ n → n ≤ a → digit m a ≡ 0
digit_beyond m n a small beyond = ap (◌% 4) (div-eq_of_lt (omega (arith, pow-le-pow_right {n = 4} (omega arith) beyond))) ∙ omega arith

module _ (b : Block) (valid : Valid b) (A : Coalition) (s m : ℕ) (state : s < L.states b) where
  -- for one agent: its action is one that it has, or 0 outside the team
  acts_for : (a : ℕ) → a < L.agents b → Acts b s a (digit m a) → cond (A a) (digit m a) 0 ≡ digit m a → ActsFor (structure_of b) A s a (digit m a)
  acts_for a agent acts same = go (A a) same
    where
      has : digit m a < L.count b s a
      has = ⊎_elim (λ (h : (a < L.agents b) × (digit m a < L.count b s a)). h.1) (λ (h : (L.agents b ≤ a) × (digit m a ≡ 0)). absurd (omega arith)) acts

      go : (t : Bool) → cond t (digit m a) 0 ≡ digit m a → cond t (digit m a < L.count b s a) (digit m a ≡ 0)
      go true e = has
      go false e = sym e

  for_acts : MoveOf (structure_of b) A s m → (a : ℕ) → Dec (a < L.agents b) → Acts b s a (digit m a) × (cond (A a) (digit m a) 0 ≡ digit m a)
  for_acts (small, each) a (yes agent) = go (A a) (each a agent)
    where
      go : (t : Bool) → cond t (digit m a < L.count b s a) (digit m a ≡ 0) → Acts b s a (digit m a) × (cond t (digit m a) 0 ≡ digit m a)
      go true h = (inl (agent, h), refl)
      go false h = (inl (agent, omega (arith, (valid.counted s a state agent).0)), sym h)
  for_acts (small, each) a (no absent) =
      let none : digit m a ≡ 0 = digit_beyond m (L.agents b) a small (omega arith) in
      (inr (omega arith, none), cond_same (A a) (digit m a) (λ _. none))

  -- the three digits make up the number, and so does the part of them
  pub move_part : MoveOf (structure_of b) A s m → (m < 64) × (part_of A m ≡ m) × Available b s m
  move_part move =
      let low : m < 64 = omega (arith, move.0, pow-le-pow_right {n = 4} (omega arith) valid.sized.agents_fit.1) in
      let (acts0, same0) = for_acts move 0 (lt? 0 (L.agents b)) in
      let (acts1, same1) = for_acts move 1 (lt? 1 (L.agents b)) in
      let (acts2, same2) = for_acts move 2 (lt? 2 (L.agents b)) in
      (low, omega (arith, same0, same1, same2), (low, each_agent (λ a. Acts b s a (digit m a)) acts0 acts1 acts2))

  pub part_move : m < 64 → part_of A m ≡ m → Available b s m → MoveOf (structure_of b) A s m
  part_move low is_part (_, acts) = (
    below (L.agents b) valid.sized.agents_fit.0 valid.sized.agents_fit.1 (λ a beyond few. zeros a beyond (acts a few)),
    λ a agent. acts_for a agent (acts a (omega (arith, valid.sized.agents_fit))) (same a (omega (arith, valid.sized.agents_fit))),
  )
    where
      zeros : (a : ℕ) → L.agents b ≤ a → Acts b s a (digit m a) → digit m a ≡ 0
      zeros a beyond = ⊎_elim (λ (h : (a < L.agents b) × (digit m a < L.count b s a)). absurd (omega arith)) (λ (h : (L.agents b ≤ a) × (digit m a ≡ 0)). h.1)

      below : (n : ℕ) → 1 ≤ n → n ≤ 3 → ((a : ℕ) → n ≤ a → a < 3 → digit m a ≡ 0) → m < 4 ^ n
      below zero some few none = absurd (omega arith)
      below (suc zero) some few none = omega (arith, none 1 (omega arith) (omega arith), none 2 (omega arith) (omega arith))
      below (suc (suc zero)) some few none = omega (arith, none 2 (omega arith) (omega arith))
      below (suc (suc (suc n))) some few none = let three : 3 ≤ suc (suc (suc n)) = omega arith in let big : 4 ^ 3 ≤ 4 ^ suc (suc (suc n)) = pow-le-pow_right {n = 4} (omega arith) three in omega (arith, big)

      same : (a : ℕ) → a < 3 → cond (A a) (digit m a) 0 ≡ digit m a
      same = each_agent (λ a. cond (A a) (digit m a) 0 ≡ digit m a)
          (omega (arith, is_part, cond_small (A 0) m 0, cond_small (A 1) m 1, cond_small (A 2) m 2))
          (omega (arith, is_part, cond_small (A 0) m 0, cond_small (A 1) m 1, cond_small (A 2) m 2))
          (omega (arith, is_part, cond_small (A 0) m 0, cond_small (A 1) m 1, cond_small (A 2) m 2))

  -- the digits of a move are at most those of the largest joint action
  pub move_below : MoveOf (structure_of b) A s m → m < part_of A (4 ^ L.agents b - 1) + 1
  move_below move = go (L.agents b) valid.sized.agents_fit.0 valid.sized.agents_fit.1 move.0
    where
      most : (a d : ℕ) → digit m a ≤ d → cond (A a) (digit m a) 0 ≤ cond (A a) d 0
      most a d small = at (A a)
        where
          at : (t : Bool) → cond t (digit m a) 0 ≤ cond t d 0
          at true = small
          at false = omega arith

      is_part : part_of A m ≡ m
      is_part = (move_part move).1

      go : (n : ℕ) → 1 ≤ n → n ≤ 3 → m < 4 ^ n → m < part_of A (4 ^ n - 1) + 1
      go zero some few small = absurd (omega arith)
      go (suc zero) some few small = omega (arith, is_part, most 0 3 (omega arith), most 1 0 (omega arith), most 2 0 (omega arith))
      go (suc (suc zero)) some few small = omega (arith, is_part, most 0 3 (omega arith), most 1 3 (omega arith), most 2 0 (omega arith))
      go (suc (suc (suc zero))) some few small = omega (arith, is_part, most 0 3 (omega arith), most 1 3 (omega arith), most 2 3 (omega arith))
      go (suc (suc (suc (suc n)))) some few small = absurd (omega arith)
