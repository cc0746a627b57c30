-- What the theorems ask of a block, decided by computation. Assumes nothing.
use mathlib.Core.Path.{◌≡◌, ap}
use Prim.Native.Nat.{ℕ, ◌^◌, ◌≤◌, ◌<◌}
use native.Mathlib.Omega.{arith}
use lib.Dec.{T}
use Rattle.block.specs.Layout as L
use Rattle.block.specs.Layout.{Block, Binary, Strategic}
use Rattle.block.specs.Inner.Valid.{RowFits}
use Rattle.game.specs.Position.{joint}
use Rattle.game.specs.Model.{structure_of}
use Rattle.game.proofs.Numbers.Decide.{all_below, both?, either?, eq?, from_yes, implies?, is_yes, le?, lt?}
use Rattle.game.proofs.Numbers.Joint.{joint_cong, joint_below}
use Rattle.game.proofs.Bridge.Proper.{Proper}
use Rattle.game.proofs.Bridge.Costs.{combine_none}

module _ (b : Block) where
  abbrev ActsTest : ℕ → Type 0
  ActsTest q = (a : ℕ) → a < L.agents b → (1 ≤ L.count b q a) × (L.count b q a ≤ 4)

  abbrev IdleTest : ℕ → Type 0
  IdleTest q = (a : ℕ) → a < L.agents b → (r : ℕ) → r < L.resources b → L.cost b q a 0 r ≡ 0

  abbrev NextTest : ℕ → Type 0
  NextTest q = (j : ℕ) → j < 4 ^ L.agents b → L.next b q j < L.states b

  abbrev pub ProperTests : Type 0
  ProperTests = (L.agents b ≤ 3) × ((q : ℕ) → q < L.states b → ActsTest q × (IdleTest q × NextTest q))

  abbrev pub proper? : Dec ProperTests
  proper? =
      both? (le? (L.agents b) 3) λ _.
      all_below (λ q. ActsTest q × (IdleTest q × NextTest q)) (L.states b) λ q _.
      both? (all_below (λ a. (1 ≤ L.count b q a) × (L.count b q a ≤ 4)) (L.agents b) (λ a _. both? (le? 1 (L.count b q a)) (λ _. le? (L.count b q a) 4))) λ _.
      both? (all_below (λ a. (r : ℕ) → r < L.resources b → L.cost b q a 0 r ≡ 0) (L.agents b) (λ a _. all_below (λ r. L.cost b q a 0 r ≡ 0) (L.resources b) (λ r _. eq? (L.cost b q a 0 r) 0))) λ _.
      all_below (λ j. L.next b q j < L.states b) (4 ^ L.agents b) (λ j _. lt? (L.next b q j) (L.states b))

  pub tests_proper : T (is_yes proper?) → Proper (structure_of b)
  tests_proper passes =
      let tests : ProperTests = from_yes proper? passes in
      record {
        few_agents = tests.0;
        acts = λ q a l h. (tests.1 q l).0 a h;
        idle_free = λ q a r l h lr. ap L.taken ((tests.1 q l).1.0 a h r lr);
        nothing_combined = λ r. combine_none (L.resource_kind b r);
        next_fits = λ q m l available. (tests.1 q l).1.1 (joint (L.agents b) m) (joint_below (L.agents b) m (λ a h. omega (arith, available a h, (tests.1 q l).0 a h)));
        next_agrees = λ q m m' same. ap (L.next b q) (joint_cong (L.agents b) m m' same);
      }

  abbrev pub binary? : (k : ℕ) → Dec (Binary k)
  binary? k = either? (eq? k L.or_kind) (λ _. eq? k L.until_kind)

  abbrev pub strategic? : (k : ℕ) → Dec (Strategic k)
  strategic? k = both? (le? L.next_kind k) (λ _. le? k L.until_kind)

  -- a row's fields are in range
  abbrev pub row_fits? : (i : ℕ) → Dec (RowFits b i)
  row_fits? i =
      let k = L.kind b i in
      let tests :
      Dec ((k ≤ L.until_kind)
      × ((k ≡ L.prop_kind → L.left b i < L.propositions b)
      × ((L.prop_kind < k → L.left b i < i)
      × ((Binary k → L.right b i < i)
      × (Strategic k
      → (0 < L.team b i)
      × ((L.team b i < 2 ^ L.agents b)
      × ((j : ℕ) → j < L.resources b → 15 < L.bound b i j → L.bound b i j ≡ L.unlimited))))))) =
      both? (le? k L.until_kind) λ _.
      both? (implies? (eq? k L.prop_kind) (λ _. lt? (L.left b i) (L.propositions b))) λ _.
      both? (implies? (lt? L.prop_kind k) (λ _. lt? (L.left b i) i)) λ _.
      both? (implies? (binary? k) (λ _. lt? (L.right b i) i)) λ _.
      implies? (strategic? k) λ _.
      both? (lt? 0 (L.team b i)) λ _.
      both? (lt? (L.team b i) (2 ^ L.agents b)) λ _.
      all_below (λ j. 15 < L.bound b i j → L.bound b i j ≡ L.unlimited) (L.resources b) (λ j _. implies? (lt? 15 (L.bound b i j)) (λ _. eq? (L.bound b i j) L.unlimited)) in
      elim tests [
        | yes h ↦ yes record {
          known = h.0;
          prop_fits = h.1.0;
          left_lower = h.1.1.0;
          right_lower = h.1.1.1.0;
          team_some = λ s. (h.1.1.1.1 s).0;
          team_fits = λ s. (h.1.1.1.1 s).1.0;
          bound_fits = λ s. (h.1.1.1.1 s).1.1;
        }
        | no fails ↦ no (λ r. fails (r.known, (r.prop_fits, (r.left_lower, (r.right_lower, λ s. (r.team_some s, (r.team_fits s, r.bound_fits s)))))))
      ]
