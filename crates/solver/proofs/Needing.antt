-- The rows that a row needs, gathered in a word from the row downwards; and the rows of a word, labelled one after another. Assumes nothing.
use mathlib.Core.List.{List}
use mathlib.Core.Logic.{◌⊎◌, ◌↔◌, inl, inr, ⊎_elim}
use mathlib.Core.Path.{◌≡◌, sym, ◌∙◌, ap, subst}
use Prim.Native.Nat.{ℕ, suc, ◌+◌, ◌*◌, ◌-◌, ◌/◌, ◌^◌, ◌≤◌, ◌<◌}
use native.Mathlib.Nat.{pow-succ'}
use native.Mathlib.Omega.{arith}
use lib.Pow.{pow_pos, ones_lt, ones_split, high}
use Rattle.block.specs.Decide.{Bit}
use Rattle.block.specs.Layout as L
use Rattle.block.specs.Layout.{Block}
use Rattle.block.specs.Inner.Valid.{Valid}
use Rattle.turns.specs.Buffers.{word_in}
use Rattle.game.specs.Model.{RowSet}
use Rattle.game.proofs.Numbers.Decide.{eq?}
use Rattle.solver.specs.Inner.Labels.{LowerSets, NamedSets, InWord, Closed, RowsLabelled, RowLabelled}
use Rattle.solver.specs.Inner.Needs.{Names, Needs, directly, through}
use Rattle.solver.proofs.Words.{no_bits}
use Rattle.solver.proofs.Labelling.{set_more}

-- the word 2 ^ n - 1 has every bit below n
pub all_ones : (n j : ℕ) → j < n → Bit (2 ^ n - 1) j
all_ones n j l =
    let split : n ≡ suc (n - suc j) + j = omega arith in
    let ones : 2 ^ n - 1 ≡ (2 ^ suc (n - suc j) - 1) * 2 ^ j + (2 ^ j - 1) = ap (λ (k : ℕ). 2 ^ k - 1) split ∙ ones_split (suc (n - suc j)) j in
    let top : (2 ^ n - 1) / 2 ^ j ≡ 2 ^ suc (n - suc j) - 1 = ap (λ (k : ℕ). k / 2 ^ j) ones ∙ high (2 ^ suc (n - suc j) - 1) j (ones_lt j) in
    omega (arith, top, pow-succ' 2 (n - suc j), pow_pos (n - suc j))

-- of the rows that row i needs the word has those that it names itself and those that rows from n on name
pub record NeedsFrom (b : Block) (i n w : ℕ) : Type 0 where
  pub few : n ≤ i
  pub small : w < 2 ^ 32
  pub sound : (x : ℕ) → Bit w x → Needs b i x
  pub own : (x : ℕ) → Names b i x → Bit w x
  pub added : (k x : ℕ) → n ≤ k → Bit w k → Names b k x → Bit w x

-- r is w with the rows that row j names
abbrev pub WithNamed : Block → ℕ → ℕ → ℕ → Type 0
WithNamed b j w r = (r < 2 ^ 32) × ((x : ℕ) → Bit r x ↔ (Bit w x ⊎ Names b j x))

module _ (b : Block) (valid : Valid b) where
  pub names_lower : {i j : ℕ} → i < L.rows b → Names b i j → j < i
  names_lower {i} inside (inl (uses, e)) = omega (arith, e, (valid.row_fits i inside).left_lower uses)
  names_lower {i} inside (inr (uses, e)) = omega (arith, e, (valid.row_fits i inside).right_lower uses)

  -- where all lower rows have their sets, so do those that a row names
  pub lower_named : (i : ℕ) (sets : List ℕ) → i < L.rows b → LowerSets b i sets → NamedSets b i sets
  lower_named i sets inside lower j named = lower j (names_lower inside named)

  pub all_closed : (n : ℕ) → n ≤ L.rows b → Closed b n (2 ^ 32 - 1)
  all_closed n few i j (l, _) named = all_ones 32 j (omega (arith, names_lower {i = i} (omega arith) named, valid.sized.rows_fit))

  module _ (i : ℕ) (inside : i < L.rows b) where
    pub needs_lower : {j : ℕ} → Needs b i j → j < i
    needs_lower (directly named) = names_lower inside named
    needs_lower (through {k} so_far named) = let l = needs_lower so_far in omega (arith, names_lower {i = k} (omega arith) named)

    pub needs_first : {r : ℕ} → WithNamed b i 0 r → NeedsFrom b i i r
    needs_first {r} (small, bits) = record {
      few = omega arith;
      small = small;
      sound = λ x one. directly (only x one);
      own = λ x named. (bits x).1 (inr named);
      added = λ k x l one _. absurd (omega (arith, names_lower inside (only k one)));
    }
      where
        only : (x : ℕ) → Bit r x → Names b i x
        only x one = ⊎_elim (λ h. absurd (no_bits x h)) (λ named. named) ((bits x).0 one)

    module _ {n w : ℕ} (so_far : NeedsFrom b i n w) (j : ℕ) (next : n ≡ j + 1) where
      pub needs_with : {r : ℕ} → Bit w j → WithNamed b j w r → NeedsFrom b i j r
      needs_with {r} needed (small, bits) = record {
        few = omega (arith, so_far.few);
        small = small;
        sound = λ x one. ⊎_elim (λ h. so_far.sound x h) (λ named. through (so_far.sound j needed) named) ((bits x).0 one);
        own = λ x named. (bits x).1 (inl (so_far.own x named));
        added = λ k x l one named. (bits x).1 (from k x l named (eq? k j) ((bits k).0 one));
      }
        where
          from : (k x : ℕ) → j ≤ k → Names b k x → Dec (k ≡ j) → Bit w k ⊎ Names b j k → Bit w x ⊎ Names b j x
          from k x l named (yes e) _ = inr (subst (λ (y : ℕ). Names b y x) e named)
          from k x l named (no ne) (inl one) = inl (so_far.added k x (omega arith) one named)
          from k x l named (no ne) (inr lower) = absurd (omega (arith, so_far.few, names_lower {i = j} (omega (arith, so_far.few)) lower))

      pub needs_skip : (Bit w j → ⊥) → NeedsFrom b i j w
      needs_skip idle = record {
        few = omega (arith, so_far.few);
        small = so_far.small;
        sound = so_far.sound;
        own = so_far.own;
        added = λ k x l one named. from k x l one named (eq? k j);
      }
        where
          from : (k x : ℕ) → j ≤ k → Bit w k → Names b k x → Dec (k ≡ j) → Bit w x
          from k x l one named (yes e) = absurd (idle (subst (Bit w) e one))
          from k x l one named (no ne) = so_far.added k x (omega arith) one named

    pub needs_all : {w : ℕ} → NeedsFrom b i 0 w → (x : ℕ) → Bit w x ↔ Needs b i x
    needs_all {w} all x = (all.sound x, complete)
      where
        complete : {y : ℕ} → Needs b i y → Bit w y
        complete {y} (directly named) = all.own y named
        complete {y} (through {k} so_far named) = all.added k y (omega arith) (complete so_far) named

    -- a word of the rows that are needed is closed, and its rows are those
    pub needed_closed : (w : ℕ) → ((x : ℕ) → Bit w x ↔ Needs b i x) → Closed b i w
    needed_closed w bits k j (_, one) named = (bits j).1 (through ((bits k).0 one) named)

    pub needed_labelled : (w : ℕ) {l l' : List ℕ} → ((x : ℕ) → Bit w x ↔ Needs b i x) → RowsLabelled b (InWord i w) l l' → RowsLabelled b (Needs b i) l l'
    needed_labelled w bits done = record {
      each = λ j needed. done.each j (needs_lower needed, (bits j).1 needed);
      others = λ j idle. done.others j (λ (_, one). idle ((bits j).0 one));
      long = done.long;
    }

-- one more row of the word
module _ (b : Block) (w i : ℕ) {l l' : List ℕ} (so_far : RowsLabelled b (InWord i w) l l') where
  pub labelled_with : {l'' : List ℕ} → RowLabelled b i l' l'' → Bit w i → RowsLabelled b (InWord (i + 1) w) l l''
  labelled_with one has = record {
    each = λ j (small, bit). set_more b i (Bit w) (λ k less h. so_far.each k (less, h)) one j small bit;
    others = λ j idle. one.others j (λ e. idle (omega arith, subst (Bit w) (sym e) has)) ∙ so_far.others j (λ (small, bit). idle (omega arith, bit));
    long = one.long ∙ so_far.long;
  }

  pub labelled_skip : (Bit w i → ⊥) → RowsLabelled b (InWord (i + 1) w) l l'
  labelled_skip idle = record {
    each = λ j (small, bit). each j small bit (eq? j i);
    others = λ j other. so_far.others j (λ (small, bit). other (omega arith, bit));
    long = so_far.long;
  }
    where
      each : (j : ℕ) → j < i + 1 → Bit w j → Dec (j ≡ i) → RowSet b j (word_in l' j)
      each j small bit (yes e) = absurd (idle (subst (Bit w) e bit))
      each j small bit (no ne) = so_far.each j (omega arith, bit)
