-- The structure and the formulas that a block holds (document 01, "The job").
use Rattle.std.specs.Prelude.{Bool, cond, ◌↔◌, ℕ, zero, suc, ◌+◌, ◌/◌, ◌%◌, ◌^◌, ◌<◌, max, eqb, ltb}
use Rattle.block.specs.Decide.{Bit}
use Rattle.block.specs.Layout as L
use Rattle.block.specs.Layout.{Block}
use Rattle.game.specs.Rbatl as R
use Rattle.game.specs.Rbatl.{Bound, limit, unlimited, Bounds, Coalition, Formula, Structure, Sat}
use Rattle.game.specs.Position.{Arena, joint, full}
use Rattle.game.specs.Play as P
use Rattle.game.specs.Play.{Objective, CoalitionWins}

-- bit i of a mask
abbrev pub bit : ℕ → ℕ → Bool
bit m i = eqb (m / 2 ^ i % 2) 1

-- how costs combine in a resource of kind k: they add up, or the largest stands for all (document 02, R-3)
abbrev pub combine_of : ℕ → ℕ → ℕ → ℕ
combine_of k x y = cond (eqb k L.sum_kind) (x + y) (max x y)

abbrev pub structure_of : Block → Structure
structure_of b = record {
  agents = L.agents b;
  resources = L.resources b;
  states = L.states b;
  holds = λ p s. bit (L.mask b s) p;
  actions = L.count b;
  cost = λ s a k r. L.taken (L.cost b s a k r);
  charge = λ s a k r. L.given (L.cost b s a k r);
  combine = λ r. combine_of (L.resource_kind b r);
  next = λ s σ. L.next b s (joint (L.agents b) σ);
}

abbrev pub bound_of : ℕ → Bound
bound_of n = cond (eqb n L.unlimited) unlimited (limit n)

-- the coalition of row i
abbrev pub coalition_of : Block → ℕ → Coalition
coalition_of b i a = bit (L.team b i) a

-- the bounds that a number for each resource stands for, and those of row i. An absent resource is unlimited, so that its stock is 0
abbrev pub bounds_by : Block → (ℕ → ℕ) → Bounds
bounds_by b x r = cond (ltb r (L.resources b)) (bound_of (x r)) unlimited

abbrev pub bounds_of : Block → ℕ → Bounds
bounds_of b i = bounds_by b (L.bound b i)

-- what stands for each kind of row
abbrev pub by_kind {ℓ} : {A : Type ℓ} → ℕ → A → A → A → A → A → A → A
by_kind k prop not or next always until =
    cond (eqb k L.prop_kind) prop
    (cond (eqb k L.not_kind) not
    (cond (eqb k L.or_kind) or
    (cond (eqb k L.next_kind) next
    (cond (eqb k L.always_kind) always until))))

-- the formula of row i with these bounds, from the formulas of lower rows; and with its own
abbrev pub formula_with : Block → ℕ → Bounds → (ℕ → Formula) → Formula
formula_with b i bounds lower =
    let left = lower (L.left b i) in
    let right = lower (L.right b i) in
    let A = coalition_of b i in
    by_kind (L.kind b i)
    (R.prop (L.left b i)) (R.not left) (R.or left right) (R.next A bounds left) (R.always A bounds left) (R.until A bounds left right)

abbrev pub row_formula : Block → ℕ → (ℕ → Formula) → Formula
row_formula b i = formula_with b i (bounds_of b i)

-- the formulas of the rows below row i. A row names lower rows only, so what stands for the others is never asked for
abbrev pub formulas_below : Block → ℕ → ℕ → Formula
formulas_below b zero j = R.prop 0
formulas_below b (suc i) j = cond (eqb j i) (row_formula b i (formulas_below b i)) (formulas_below b i j)

abbrev pub formula_of : Block → ℕ → Formula
formula_of b i = row_formula b i (formulas_below b i)

-- row i is true in state q
abbrev pub RowTrue : Block → ℕ → ℕ → Type 0
RowTrue b i q = Sat (structure_of b) (formula_of b i) q

-- the same with other bounds in the place of its own, over the same lower rows (document 02, R-4)
abbrev pub RowTrueWith : Block → ℕ → Bounds → ℕ → Type 0
RowTrueWith b i bounds q = Sat (structure_of b) (formula_with b i bounds (formulas_below b i)) q

-- the word w is row i's set: bit s for state s (document 01, "Sets are 32-bit words")
abbrev pub RowSet : Block → ℕ → ℕ → Type 0
RowSet b i w = (w < 2 ^ 32) × ((s : ℕ) → Bit w s ↔ ((s < L.states b) × RowTrue b i s))

-- where a strategic row i is played, and what it asks of a play
abbrev pub arena_of : Block → ℕ → Arena
arena_of b i = record { structure = structure_of b; coalition = coalition_of b i; bounds = bounds_of b i }

abbrev pub objective_of : Block → ℕ → Objective
objective_of b i =
    let left = RowTrue b (L.left b i) in
    let right = RowTrue b (L.right b i) in
    cond (eqb (L.kind b i) L.next_kind) (P.next left) (cond (eqb (L.kind b i) L.always_kind) (P.always left) (P.until left right))

-- w has the states whose positions at full stock the coalition of the strategic row i wins
abbrev pub WonSet : Block → ℕ → ℕ → Type 0
WonSet b i w =
    (w < 2 ^ 32) × ((s : ℕ) → Bit w s ↔ ((s < L.states b) × CoalitionWins (arena_of b i) (objective_of b i) (full (arena_of b i) s)))
