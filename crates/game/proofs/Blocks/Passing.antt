-- A block that passes holds a proper structure, and its rows have few positions. Assumes nothing.
use mathlib.Core.Logic.{inl, inr}
use mathlib.Core.Path.{◌≡◌, ◌∙◌, ap}
use Prim.Native.Nat.{ℕ, zero, suc, ◌*◌, ◌/◌, ◌^◌, ◌≤◌, ◌<◌}
use native.Mathlib.Decide.{dec_lt}
use native.Mathlib.Nat.{div-eq_of_lt, mul_assoc, mul-le-mul, pow-le-pow_right, pow-succ'}
use native.Mathlib.Omega.{arith}
use Rattle.block.specs.Layout as L
use Rattle.block.specs.Layout.{Block, digit, Acts, Strategic}
use Rattle.block.specs.Inner.Valid.{Valid, RowFits}
use Rattle.game.specs.Rbatl.{Joint, Available}
use Rattle.game.specs.Position.{Position, IsPosition, places, joint, number, positions_up_to, positions}
use Rattle.game.specs.Inner.Stocks.{stock_places_up_to}
use Rattle.game.specs.Model.{structure_of, bounds_of, arena_of}
use Rattle.game.proofs.Numbers.Decide.{eq?}
use Rattle.game.proofs.Numbers.Joint.{joint_cong, joint_below, digit_joint}
use Rattle.game.proofs.Bridge.Proper.{Proper}
use Rattle.game.proofs.Bridge.Costs.{combine_none}
use Rattle.game.proofs.Local.Same.{number_below}
use Rattle.game.proofs.Blocks.Reading.{bound_unlimited, bound_limited, bound_small}

digit_beyond : (n m a : ℕ) → m < 4 ^ n → n ≤ a → digit m a ≡ 0
digit_beyond n m a l h =
    let larger : 4 ^ n ≤ 4 ^ a = pow-le-pow_right {n = 4} (omega arith) h in
    let none : m / 4 ^ a ≡ 0 = div-eq_of_lt (omega arith) in
    omega arith

module _ (b : Block) (valid : Valid b) where
  -- document 003's joint actions are those of the block
  pub joint_available : (s : ℕ) (σ : Joint) → s < L.states b → Available (structure_of b) s σ → L.Available b s (joint (L.agents b) σ)
  joint_available s σ l available = (omega (arith, below, pow-le-pow_right {n = 4} (omega arith) valid.sized.agents_fit.1), λ a _. go a (dec_lt a (L.agents b)))
    where
      small : (a : ℕ) → a < L.agents b → σ a < 4
      small a h = omega (arith, available a h, valid.counted s a l h)

      below : joint (L.agents b) σ < 4 ^ L.agents b
      below = joint_below (L.agents b) σ small

      go : (a : ℕ) → Dec (a < L.agents b) → Acts b s a (digit (joint (L.agents b) σ) a)
      go a (yes h) = inl (h, rw (digit_joint (L.agents b) σ small a h) (available a h))
      go a (no h) = inr (omega arith, digit_beyond (L.agents b) _ a below (omega arith))

  pub valid_proper : Proper (structure_of b)
  valid_proper = record {
    few_agents = valid.sized.agents_fit.1;
    acts = λ q a l h. ((valid.counted q a l h).0, (valid.counted q a l h).1);
    idle_free = λ q a r l h lr. ap L.taken (valid.idle_free q a r l h lr);
    nothing_combined = λ r. combine_none (L.resource_kind b r);
    next_fits = λ q m l available. valid.next_fits q (joint (L.agents b) m) l (joint_available q m l available);
    next_agrees = λ q m m' same. ap (L.next b q) (joint_cong (L.agents b) m m' same);
  }

  -- a bound that passes has at most 16 stock places
  pub few_places : (i : ℕ) → RowFits b i → Strategic (L.kind b i) → (r : ℕ) → r < L.resources b → places (bounds_of b i r) ≤ 16
  few_places i row strategic r l = go (eq? (L.bound b i r) L.unlimited)
    where
      go : Dec (L.bound b i r ≡ L.unlimited) → places (bounds_of b i r) ≤ 16
      go (yes e) = omega (arith, ap places (bound_unlimited b i r l e))
      go (no ne) = omega (arith, ap places (bound_limited b i r l ne), bound_small b i r l row strategic ne)

  -- there are at most 256 stock places, and no more over the first resources
  pub few_stocks : (i : ℕ) → i < L.rows b → Strategic (L.kind b i) → (n : ℕ) → n ≤ L.resources b → stock_places_up_to (arena_of b i) n ≤ 256
  few_stocks i inside strategic n l =
      let at_most : n ≤ 2 = omega (arith, valid.sized.resources_fit.1) in
      omega (arith, upto n l, pow-le-pow_right {n = 16} (omega arith) at_most)
    where
      upto : (n : ℕ) → n ≤ L.resources b → stock_places_up_to (arena_of b i) n ≤ 16 ^ n
      upto zero l = omega arith
      upto (suc n) l =
          omega (arith, mul-le-mul (upto n (omega arith)) (few_places i (valid.row_fits i inside) strategic n (omega arith)), pow-succ' 16 n)

  -- each state has as many positions as there are stock places
  pub states_times : (i n : ℕ) → positions_up_to (arena_of b i) n ≡ L.states b * stock_places_up_to (arena_of b i) n
  states_times i zero = omega arith
  states_times i (suc n) = ap (λ (k : ℕ). k * places (bounds_of b i n)) (states_times i n) ∙ mul_assoc (L.states b) (stock_places_up_to (arena_of b i) n) (places (bounds_of b i n))

  -- there are at most 6,144 positions, and no more over the first resources
  pub few_upto : (i : ℕ) → i < L.rows b → Strategic (L.kind b i) → (n : ℕ) → n ≤ L.resources b → positions_up_to (arena_of b i) n ≤ 6144
  few_upto i inside strategic n l = omega (arith, states_times i n, mul-le-mul valid.sized.states_fit.1 (few_stocks i inside strategic n l))

  pub few_positions : (i : ℕ) → i < L.rows b → Strategic (L.kind b i) → positions (arena_of b i) ≤ 6144
  few_positions i inside strategic = few_upto i inside strategic (L.resources b) (omega arith)

  -- so the number of a position is below that
  pub number_few : (i : ℕ) → i < L.rows b → Strategic (L.kind b i) → (p : Position) → IsPosition (arena_of b i) p → number (arena_of b i) p < 6144
  number_few i inside strategic p fits = omega (arith, number_below (arena_of b i) p fits, few_positions i inside strategic)
