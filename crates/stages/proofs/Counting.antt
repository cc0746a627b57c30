-- What is left to do: the positions without a rank, which a stage that gives one makes fewer. Assumes nothing.
use mathlib.Core.Bool.{Bool, cond}
use mathlib.Core.List.{List}
use mathlib.Core.Path.{◌≡◌, sym, ap, subst}
use Prim.Native.Nat.{ℕ, zero, suc, ◌+◌, ◌*◌, ◌/◌, ◌%◌, ◌≤◌, ◌<◌}
use native.Mathlib.Nat.{div-add-mod', mod-lt, div-lt_iff_lt-mul}
use native.Mathlib.Omega.{arith}
use lib.Dec.{ltb}
use borrow.Author.Tests.{lt-ltb, le-ltb}
use Rattle.block.specs.Layout as L
use Rattle.block.specs.Layout.{Block}
use Rattle.game.specs.Inner.Sweep.{total}
use Rattle.game.proofs.Numbers.Decide.{eq?, lt?}
use Rattle.turns.specs.Buffers.{rank_in}
use Rattle.ways.specs.declared.rows.Row.{Row}
use Rattle.stages.specs.Stages.{hold, rank_of, Evolved}
use Rattle.stages.proofs.Evolving.{was_unranked}

-- 1 for a word that stands for no rank
abbrev one : List ℕ → ℕ → ℕ
one ranks p = cond {A = ℕ} (ltb (rank_in ranks p) hold) 0 1

abbrev pub unranked : List ℕ → ℕ → ℕ
unranked ranks n = total (one ranks) n

one_high : (ranks : List ℕ) (p : ℕ) → hold ≤ rank_in ranks p → one ranks p ≡ 1
one_high ranks p high = ap (λ (t : Bool). cond {A = ℕ} t 0 1) (le-ltb (rank_in ranks p) hold high)

one_low : (ranks : List ℕ) (p : ℕ) → rank_in ranks p < hold → one ranks p ≡ 0
one_low ranks p low = ap (λ (t : Bool). cond {A = ℕ} t 0 1) (lt-ltb (rank_in ranks p) hold low)

-- there are no more than positions
pub unranked_few : (ranks : List ℕ) (n : ℕ) → unranked ranks n ≤ n
unranked_few ranks zero = omega arith
unranked_few ranks (suc n) = go (lt? (rank_in ranks n) hold) (unranked_few ranks n)
  where
    go : Dec (rank_in ranks n < hold) → unranked ranks n ≤ n → unranked ranks (suc n) ≤ suc n
    go (yes low) before = omega (arith, one_low ranks n low)
    go (no ne) before = omega (arith, one_high ranks n (omega arith))

module _ (ranks ranks' : List ℕ) (all : ℕ) (was : (p : ℕ) → p < all → hold ≤ rank_in ranks' p → hold ≤ rank_in ranks p) where
  one_less : (p : ℕ) → p < all → one ranks' p ≤ one ranks p
  one_less p inside = go (lt? (rank_in ranks' p) hold)
    where
      go : Dec (rank_in ranks' p < hold) → one ranks' p ≤ one ranks p
      go (yes low) = omega (arith, one_low ranks' p low)
      go (no ne) = omega (arith, one_high ranks' p (omega arith), one_high ranks p (was p inside (omega arith)))

  no_more : (n : ℕ) → n ≤ all → unranked ranks' n ≤ unranked ranks n
  no_more zero l = omega arith
  no_more (suc n) l = omega (arith, no_more n (omega arith), one_less n (omega arith))

  fewer : (p : ℕ) → hold ≤ rank_in ranks p → rank_in ranks' p < hold → (n : ℕ) → n ≤ all → p < n → unranked ranks' n < unranked ranks n
  fewer p high low zero l inside = absurd (omega arith)
  fewer p high low (suc n) l inside = go (eq? p n) (fewer p high low n (omega arith))
    where
      go : Dec (p ≡ n) → (p < n → unranked ranks' n < unranked ranks n) → unranked ranks' (suc n) < unranked ranks (suc n)
      go (yes e) _ =
          let (high-n, low-n) = subst (λ (j : ℕ). (hold ≤ rank_in ranks j) × (rank_in ranks' j < hold)) e (high, low) in
          omega (arith, no_more n (omega arith), one_high ranks n high-n, one_low ranks' n low-n)
      go (no ne) before = omega (arith, before (omega arith), one_less n (omega arith))

module _ (b : Block) (row : Row) (ways board : List ℕ) (most : Bool) (safe n : ℕ) (small : n < hold) {ranks flags ranks' flags' : List ℕ} (moved : Evolved b row ways board most safe n ranks flags ranks' flags') where
  positive : (p : ℕ) → p < L.states b * row.places → Dec (row.places ≡ 0) → 0 < row.places
  positive p inside (yes e) = absurd (omega (arith, ap (λ (c : ℕ). L.states b * c) e))
  positive p inside (no ne) = omega arith

  -- each position is that of a state and a place
  stays_unranked : (p : ℕ) → p < L.states b * row.places → hold ≤ rank_in ranks' p → hold ≤ rank_in ranks p
  stays_unranked p inside high =
      let some = positive p inside (eq? row.places 0) in
      let split : p / row.places * row.places + p % row.places ≡ p = div-add-mod' p row.places in
      subst (λ (j : ℕ). hold ≤ rank_in ranks j) split
      (was_unranked b row ways board most safe n small moved (p / row.places) (p % row.places) ((div-lt_iff_lt-mul some).1 inside) (mod-lt p some)
      (subst (λ (j : ℕ). hold ≤ rank_in ranks' j) (sym split) high))

  -- a stage leaves no more unranked, and fewer where it gave a rank
  pub stage_no_more : unranked ranks' (L.states b * row.places) ≤ unranked ranks (L.states b * row.places)
  stage_no_more = no_more ranks ranks' (L.states b * row.places) stays_unranked (L.states b * row.places) (omega arith)

  pub stage_fewer : (s x : ℕ) → s * row.places + x < L.states b * row.places → hold ≤ rank_of row ranks s x → rank_of row ranks' s x < hold → unranked ranks' (L.states b * row.places) < unranked ranks (L.states b * row.places)
  stage_fewer s x inside high low = fewer ranks ranks' (L.states b * row.places) stays_unranked (s * row.places + x) high low (L.states b * row.places) (omega arith) inside
