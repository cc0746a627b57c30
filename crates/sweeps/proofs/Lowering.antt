-- A rank is lowered to one more than the position's value: what a sweep keeps is kept, the sum of the ranks falls, and where nothing
-- fell the place rests. Assumes nothing.
use mathlib.Core.Bool.{Bool, true, false}
use mathlib.Core.List.{List}
use mathlib.Core.Path.{◌≡◌, refl, sym, ◌∙◌, ap, subst}
use Prim.Native.Nat.{ℕ, suc, ◌+◌, ◌*◌, ◌≤◌, ◌<◌}
use native.Mathlib.Numerals.{add-one}
use native.Mathlib.Omega.{arith}
use Rattle.block.specs.Decide.{Bit}
use Rattle.game.specs.Position.{Arena, Position, IsPosition, number, positions, outcome}
use Rattle.game.specs.Inner.Stocks.{stocks_of, stock_places}
use Rattle.game.specs.Table.{never}
use Rattle.turns.specs.Buffers.{rank_in}
use Rattle.turns.specs.Inner.Stores.{Stored, Lowered}
use Rattle.game.specs.Inner.Sweep.{count_below, Crowded, total}
use Rattle.game.proofs.Numbers.Decide.{eq?}
use Rattle.game.proofs.Numbers.Counting.{count_more, count_grows, lower_everywhere, total_falls}
use Rattle.game.proofs.Bridge.Proper.{Proper}
use Rattle.game.proofs.Local.Same.{number_below, same_number}
use Rattle.game.proofs.Local.ByNumber.{Transfers, force_transfers, answer_transfers}
use Rattle.game.proofs.Solving.Sweeping.{Weakens, force_weakens, answer_weakens, same_by_number, lower_sound}
use Rattle.game.proofs.Whole.Choices.{idle_allowed, idle_reply}
use Rattle.ways.specs.Places.{PlacedAt}
use Rattle.sweeps.specs.Values.{Attacks, Defends, Valued}
use Rattle.sweeps.specs.Sweeps.{KeptFor, RestsAt, ChangedAt, Swept}
use Rattle.ways.proofs.Placing.{place_position, placed_number}

module _ (G : Arena) (proper : Proper G.structure) where
  pub attacks_weaken : (most : Bool) → Weakens G (Attacks G most)
  attacks_weaken true = force_weakens G proper
  attacks_weaken false = answer_weakens G proper

  pub defends_weaken : (most : Bool) → Weakens G (Defends G most)
  defends_weaken true = answer_weakens G proper
  defends_weaken false = force_weakens G proper

pub attacks_transfer : (G : Arena) (most : Bool) → Transfers G (Attacks G most)
attacks_transfer G true = force_transfers G
attacks_transfer G false = answer_transfers G

pub unchanged : (G : Arena) (x : ℕ) (l : List ℕ) → ChangedAt G x l l
unchanged G x l = record { elsewhere = λ p _ _. refl; beyond = λ n _. refl; long = refl }

module _ (G : Arena) (proper : Proper G.structure) where
  -- where everything is as asked for, the defence has it
  defends_all : (most : Bool) (p : Position) → IsPosition G p → (U : Position → Type 0) → ((x : Position) → U x) → Defends G most p U
  defends_all true p fits U all = λ m a. (0, idle_reply G proper p fits, all (outcome G p m 0))
  defends_all false p fits U all = (0, idle_allowed G proper p fits, λ r reply. all (outcome G p 0 r))

  -- a rank of at most 1 rests
  pub low_rests : (most : Bool) (safe s x at : ℕ) (l : List ℕ) → at ≡ s * stock_places G + x → rank_in l at ≤ 1 → RestsAt G most safe x s l
  low_rests most safe s x at l first low p placed _ =
      let here : at ≡ number G p = first ∙ placed_number G s x p placed in
      defends_all most p placed.fits (λ y. rank_in l (number G p) ≤ suc (rank_in l (number G y))) (λ y. omega (arith, ap (rank_in l) here))

module _ (G : Arena) (proper : Proper G.structure) (most : Bool) (safe s x at v : ℕ) (l : List ℕ) (state : s < G.structure.states) (place : x < stock_places G) (in-safe : Bit safe s) (first : at ≡ s * stock_places G + x)
    (valued : (p : Position) → PlacedAt G s x p → Valued G most (rank_in l) p v) where
  here : (p : Position) → PlacedAt G s x p → at ≡ number G p
  here p placed = first ∙ placed_number G s x p placed

  -- a rank that falls
  module _ (p : Position) (placed : PlacedAt G s x p) (l' : List ℕ) (stored : Stored rank_in l l' at (v + 1)) (less : v + 1 < rank_in l at) where
    inside : number G p < positions G
    inside = number_below G p placed.fits

    now : rank_in l' (number G p) ≡ suc v
    now = ap (rank_in l') (sym (here p placed)) ∙ stored.stored ∙ add-one v

    below : v + 1 < rank_in l (number G p)
    below = omega (arith, ap (rank_in l) (here p placed))

    lower : rank_in l' (number G p) < rank_in l (number G p)
    lower = omega (arith, now, below)

    others : (j : ℕ) → (j ≡ number G p → ⊥) → rank_in l' j ≡ rank_in l j
    others j ne = stored.others j (λ e. ne (e ∙ here p placed))

    lowers : (j : ℕ) → rank_in l' j ≤ rank_in l j
    lowers = lower_everywhere (positions G) (rank_in l) (rank_in l') (number G p) inside others lower

    falls : total (rank_in l') (positions G) < total (rank_in l) (positions G)
    falls = total_falls (positions G) (rank_in l) (rank_in l') (number G p) inside others lower (positions G) inside

    changed : ChangedAt G x l l'
    changed = record {
      elsewhere = λ q fits apart. others (number G q) (λ e. apart (ap (λ (k : ℕ). k) (same_number G (stocks_of G q) (stocks_of G p) (refl, (same_by_number G q p fits placed.fits e).1) ∙ placed.place)));
      beyond = λ n outside. others n (λ e. omega (arith, inside));
      long = stored.kept;
    }

    module _ (goal : ℕ) (kept : KeptFor G most safe goal l) where
      -- as many ranks are below the new one
      enough : suc v ≤ count_below (rank_in l') (positions G) (suc v)
      enough =
          let (y, fits, e) = (valued p placed).met below in
          let finite : v < never = omega (arith, kept.sound.bounded p placed.fits, below) in
          let old : v ≤ count_below (rank_in l) (positions G) v =
          subst (λ (z : ℕ). z ≤ count_below (rank_in l) (positions G) z) e (kept.crowded (number G y) (number_below G y fits) (omega (arith, e, finite))) in
          let grown : count_below (rank_in l) (positions G) v < count_below (rank_in l) (positions G) (suc v) =
          subst (λ (z : ℕ). count_below (rank_in l) (positions G) z < count_below (rank_in l) (positions G) (suc z)) e (count_grows (rank_in l) (positions G) (number G y) (number_below G y fits)) in
          omega (arith, old, grown, count_more (rank_in l) (rank_in l') (positions G) (suc v) (suc v) (λ j _. lowers j) (omega arith))

      crowded : Crowded (positions G) (rank_in l')
      crowded j small low = go (eq? j (number G p))
        where
          go : Dec (j ≡ number G p) → rank_in l' j ≤ count_below (rank_in l') (positions G) (rank_in l' j)
          go (yes e) = subst (λ (z : ℕ). z ≤ count_below (rank_in l') (positions G) z) (sym (ap (rank_in l') e ∙ now)) enough
          go (no ne) =
              subst (λ (z : ℕ). z ≤ count_below (rank_in l') (positions G) z) (sym (others j ne))
              (omega (arith, kept.crowded j small (omega (arith, others j ne)), count_more (rank_in l) (rank_in l') (positions G) (rank_in l j) (rank_in l j) (λ i _. lowers i) (omega arith)))

      lower_kept : KeptFor G most safe goal l'
      lower_kept = record {
        sound = lower_sound G (Bit safe) (Bit goal) (Attacks G most) (attacks_weaken G proper most) (attacks_transfer G most) (rank_in l) (rank_in l') p placed.fits others
            (omega (arith, now)) lower (subst (Bit safe) (sym placed.state) in-safe)
            (attacks_weaken G proper most p placed.fits (λ y. rank_in l (number G y) ≤ v) (λ y. rank_in l (number G y) < rank_in l' (number G p))
            (λ y _ h. omega (arith, now)) ((valued p placed).attack below)) kept.sound;
        crowded = crowded;
      }

  -- where it did not fall the place rests
  rests : rank_in l at ≤ v + 1 → RestsAt G most safe x s l
  rests low p placed _ =
      defends_weaken G proper most p placed.fits (λ y. v ≤ rank_in l (number G y)) (λ y. rank_in l (number G p) ≤ suc (rank_in l (number G y)))
      (λ y _ h. omega (arith, low, ap (rank_in l) (here p placed))) (valued p placed).defend

  pub place_swept : (did : Bool) (l' : List ℕ) → Lowered did l l' at (v + 1) → Swept G most safe x (RestsAt G most safe x s) did l l'
  place_swept true l' (stored, less) =
      let (p, placed) = place_position G s x state place in
      record {
        kept = λ goal kept. lower_kept p placed l' stored less goal kept;
        falls = λ _. falls p placed l' stored less;
        quiet = λ e. let z : ◌≡◌ {A = ℕ} 0 1 = cc in absurd (omega arith);
        changed = changed p placed l' stored less;
      }
  place_swept false l' (same, low) = record {
    kept = λ goal kept. subst (KeptFor G most safe goal) (sym same) kept;
    falls = λ e. let z : ◌≡◌ {A = ℕ} 0 1 = cc in absurd (omega arith);
    quiet = λ _. (same, rests low);
    changed = subst (ChangedAt G x l) (sym same) (unchanged G x l);
  }
