-- Turning a place over, and one place after another. Assumes nothing.
use mathlib.Core.Bool.{Bool, true, false}
use mathlib.Core.List.{List}
use mathlib.Core.Logic.{◌⊎◌, ⊎_elim}
use mathlib.Core.Path.{◌≡◌, refl, sym, ◌∙◌, ap, subst}
use Prim.Native.Nat.{ℕ, ◌+◌, ◌<◌}
use native.Mathlib.Omega.{arith}
use lib.ListN.{length, set, length-set}
use lib.Seq.{get_or-set_same, get_or-set_other}
use Rattle.game.proofs.Numbers.Decide.{eq?}
use Rattle.turns.specs.Buffers.{narrow_in}
use Rattle.turns.specs.Inner.Stores.{Stored}
use Rattle.ways.proofs.Filling.{apart}
use Rattle.boards.specs.Boards.{nexts_words, won_in, RankedWithin}
use Rattle.stages.specs.Stages.{due_at, marked_at, Turned, TurnedTo}

-- the flags with the mark of place x taken as its due
abbrev pub moved : List ℕ → ℕ → List ℕ
moved flags x = set (set flags (256 + x) 0) x (marked_at flags x)

module _ (flags : List ℕ) (x : ℕ) (place : x < 256) (long : length flags ≡ 512) where
  moved_due : due_at (moved flags x) x ≡ marked_at flags x
  moved_due = get_or-set_same (set flags (256 + x) 0) x _ 0 (omega (arith, length-set flags (256 + x) 0))

  moved_cleared : marked_at (moved flags x) x ≡ 0
  moved_cleared = get_or-set_other (set flags (256 + x) 0) x (256 + x) _ 0 (λ e. omega arith) ∙ get_or-set_same flags (256 + x) 0 0 (omega arith)

  moved_others : (y : ℕ) → (y ≡ x → ⊥) → y < 256 → (due_at (moved flags x) y ≡ due_at flags y) × (marked_at (moved flags x) y ≡ marked_at flags y)
  moved_others y ne small = (
    get_or-set_other (set flags (256 + x) 0) x y _ 0 ne ∙ get_or-set_other flags (256 + x) y 0 0 (λ e. omega arith),
    get_or-set_other (set flags (256 + x) 0) x (256 + y) _ 0 (λ e. omega arith) ∙ get_or-set_other flags (256 + x) (256 + y) 0 0 (λ e. ne (omega arith)),
  )

  moved_long : length (moved flags x) ≡ length flags
  moved_long = length-set (set flags (256 + x) 0) x _ ∙ length-set flags (256 + x) 0

  module _ (states c : ℕ) (ranks : List ℕ) (n : ℕ) (board : List ℕ) where
    -- a place that is not marked keeps its set
    pub turned_quiet : (marked_at flags x ≡ 1 → ⊥) → Turned states c ranks n x false board flags board (moved flags x)
    turned_quiet quiet = record {
      set = λ marked. absurd (quiet marked);
      kept = λ _. refl;
      due = moved_due;
      cleared = moved_cleared;
      told = ((λ e. absurd (apart false e refl)), λ marked. absurd (quiet marked));
      words = λ i _. refl;
      others = moved_others;
      board_long = refl;
      flags_long = moved_long;
    }

    -- one that is gets it anew
    pub turned_set : {board' : List ℕ} {w : ℕ} → marked_at flags x ≡ 1 → RankedWithin states c ranks x 0 n w → Stored narrow_in board board' (nexts_words + x) w → Turned states c ranks n x true board flags board' (moved flags x)
    turned_set {board'} {w} marked below put = record {
      set = λ _. subst (RankedWithin states c ranks x 0 n) (sym put.stored) below;
      kept = λ quiet. absurd (quiet marked);
      due = moved_due;
      cleared = moved_cleared;
      told = ((λ _. marked), λ _. refl);
      words = put.others;
      others = moved_others;
      board_long = put.kept;
      flags_long = moved_long;
    }

module _ (states c : ℕ) (ranks : List ℕ) (n : ℕ) where
  pub turned_none : (board flags : List ℕ) → TurnedTo states c ranks n 0 false board flags board flags
  turned_none board flags = record {
    set = λ x small. absurd (omega arith);
    kept = λ x small. absurd (omega arith);
    due = λ x small. absurd (omega arith);
    cleared = λ x small. absurd (omega arith);
    some = λ e. absurd (apart false e refl);
    none = λ _ x small. absurd (omega arith);
    words = λ i _. refl;
    above = λ x _ _. (refl, refl, refl);
    board_long = refl;
    flags_long = refl;
  }

  -- one place more; `both` tells of it and of those before
  pub turned_next : {m : ℕ} {did here both : Bool} {board flags board' flags' board'' flags'' : List ℕ} → m < 256
      → TurnedTo states c ranks n m did board flags board' flags' → Turned states c ranks n m here board' flags' board'' flags''
      → (both ≡ true → (did ≡ true) ⊎ (here ≡ true)) → (both ≡ false → (did ≡ false) × (here ≡ false)) → TurnedTo states c ranks n (m + 1) both board flags board'' flags''
  turned_next {m} {did} {here} {both} {board} {flags} {board'} {flags'} {board''} {flags''} place so_far next either neither = record {
    set = λ x small. set x small (eq? x m);
    kept = λ x small. kept x small (eq? x m);
    due = λ x small. due x small (eq? x m);
    cleared = λ x small. cleared x small (eq? x m);
    some = λ e. ⊎_elim (λ Did-so. let (x, small, marked) = so_far.some Did-so in (x, omega arith, marked)) (λ Did-so. (m, omega arith, sym was_marked ∙ next.told.0 Did-so)) (either e);
    none = λ e x small. none (neither e) x small (eq? x m);
    words = λ i apart. next.words i (λ e. ⊎_elim (λ low. omega arith) (λ high. omega arith) apart) ∙ so_far.words i apart;
    above = λ x from small.
        let (due-was, marked-was, won-was) = so_far.above x (omega arith) small in
        let (due-is, marked-is) = next.others x (λ e. omega arith) small in
        (due-is ∙ due-was, marked-is ∙ marked-was, won_still x (λ e. omega arith) ∙ won-was);
    board_long = next.board_long ∙ so_far.board_long;
    flags_long = next.flags_long ∙ so_far.flags_long;
  }
    where
      was_marked : marked_at flags' m ≡ marked_at flags m
      was_marked = (so_far.above m (omega arith) place).1

      was_won : won_in board' m ≡ won_in board m
      was_won = (so_far.above m (omega arith) place).2

      won_still : (x : ℕ) → (x ≡ m → ⊥) → won_in board'' x ≡ won_in board' x
      won_still x ne = next.words (nexts_words + x) (λ e. ne (omega arith))

      set : (x : ℕ) → x < m + 1 → Dec (x ≡ m) → marked_at flags x ≡ 1 → RankedWithin states c ranks x 0 n (won_in board'' x)
      set x small (yes e) marked = subst (λ (y : ℕ). RankedWithin states c ranks y 0 n (won_in board'' y)) (sym e) (next.set (was_marked ∙ ap (marked_at flags) (sym e) ∙ marked))
      set x small (no ne) marked = subst (RankedWithin states c ranks x 0 n) (sym (won_still x ne)) (so_far.set x (omega arith) marked)

      kept : (x : ℕ) → x < m + 1 → Dec (x ≡ m) → (marked_at flags x ≡ 1 → ⊥) → won_in board'' x ≡ won_in board x
      kept x small (yes e) quiet = subst (λ (y : ℕ). won_in board'' y ≡ won_in board y) (sym e) (next.kept (λ marked. quiet (ap (marked_at flags) e ∙ sym was_marked ∙ marked)) ∙ was_won)
      kept x small (no ne) quiet = won_still x ne ∙ so_far.kept x (omega arith) quiet

      due : (x : ℕ) → x < m + 1 → Dec (x ≡ m) → due_at flags'' x ≡ marked_at flags x
      due x small (yes e) = subst (λ (y : ℕ). due_at flags'' y ≡ marked_at flags y) (sym e) (next.due ∙ was_marked)
      due x small (no ne) = (next.others x ne (omega arith)).0 ∙ so_far.due x (omega arith)

      cleared : (x : ℕ) → x < m + 1 → Dec (x ≡ m) → marked_at flags'' x ≡ 0
      cleared x small (yes e) = ap (marked_at flags'') e ∙ next.cleared
      cleared x small (no ne) = (next.others x ne (omega arith)).1 ∙ so_far.cleared x (omega arith)

      none : (did ≡ false) × (here ≡ false) → (x : ℕ) → x < m + 1 → Dec (x ≡ m) → marked_at flags x ≡ 1 → ⊥
      none (_, not-here) x small (yes e) marked = apart here (next.told.1 (was_marked ∙ ap (marked_at flags) (sym e) ∙ marked)) not-here
      none (not-before, _) x small (no ne) marked = so_far.none not-before x (omega arith) marked
