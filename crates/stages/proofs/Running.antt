-- The stages of a row, one after another: what holds before each, that they end, and what holds then. Assumes nothing.
use mathlib.Core.Bool.{Bool, true, false, cond}
use mathlib.Core.List.{List}
use mathlib.Core.Logic.{⊎_elim}
use mathlib.Core.Path.{◌≡◌, refl, sym, ◌∙◌, subst}
use Prim.Native.Nat.{ℕ, suc, ◌+◌, ◌*◌, ◌-◌, ◌≤◌, ◌<◌}
use native.Mathlib.Nat.{mul-le-mul}
use native.Mathlib.Omega.{arith}
use lib.ListN.{length}
use Rattle.block.specs.Layout as L
use Rattle.block.specs.Layout.{Block}
use Rattle.block.specs.Inner.Valid.{Valid}
use Rattle.game.specs.Model.{arena_of}
use Rattle.game.specs.Position.{positions}
use Rattle.turns.specs.Buffers.{rank_in}
use Rattle.turns.specs.Sizes.{room_bytes, max_positions}
use Rattle.ways.specs.declared.rows.Row.{Row}
use Rattle.ways.proofs.Leading.{few}
use Rattle.boards.specs.Boards.{RankedWithin}
use Rattle.stages.specs.Stages.{hold, flags_bytes, due_at, marked_at, Prepared, rank_of, Evolved, Lent, PlaceDone, TurnedTo}
use Rattle.ways.specs.First.{FirstRank}
use Rattle.stages.specs.Solving.{Staged, Found}
use Rattle.stages.proofs.Counting.{unranked, unranked_few, stage_no_more, stage_fewer}
use Rattle.stages.proofs.Opening.{all_positions, position_inside, ready_first, staged_first}
use Rattle.stages.proofs.Staging.{ready_next, staged_next}

-- before stage n, where more tells whether anything is due
pub record Running (b : Block) (row : Row) (ways : List ℕ) (most : Bool) (safe goal : ℕ) (first board ranks flags : List ℕ) (n : ℕ) (more : Bool) : Type 0 where
  pub ready : Prepared b row ways board
  pub staged : Staged b row ways board most safe goal n ranks flags
  pub positive : 0 < n
  pub left : more ≡ true → n + unranked ranks (L.states b * row.places) ≤ L.states b * row.places + 1
  pub none : more ≡ false → (s x : ℕ) → s < L.states b → x < row.places → suc (rank_of row ranks s x) ≡ n → ⊥
  pub beyond : (p : ℕ) → positions (arena_of b row.index) ≤ p → rank_in ranks p ≡ rank_in first p
  pub long : length ranks ≡ length first
  pub flags_long : length flags ≡ flags_bytes

-- what is left to do
abbrev pub left_to_do : Block → Row → List ℕ → Bool → ℕ
left_to_do b row ranks more = unranked ranks (L.states b * row.places) + cond {A = ℕ} more 1 0

module _ (b : Block) (valid : Valid b) (row : Row) (ways : List ℕ) (most : Bool) (safe goal : ℕ) (first : List ℕ) where
  pub running_first : (board flags board' flags' : List ℕ) (did : Bool) → Prepared b row ways board
      → ((n : ℕ) → n < max_positions → FirstRank hold goal row.places (positions (arena_of b row.index)) n (rank_in first n))
      → ((x : ℕ) → x < row.places → marked_at flags x ≡ 1) → length flags ≡ flags_bytes
      → TurnedTo (L.states b) row.places first 1 row.places did board flags board' flags'
      → Running b row ways most safe goal first board' first flags' 1 did
  running_first board flags board' flags' did ready start ones long turned = record {
    ready = ready_first b valid row ways board ready most safe goal first flags board' flags' did start ones turned;
    staged = staged_first b valid row ways board ready most safe goal first flags board' flags' did start ones turned;
    positive = omega arith;
    left = λ _. omega (arith, unranked_few first (L.states b * row.places));
    none = λ nothing s x state place e. turned.none nothing x place (ones x place);
    beyond = λ p _. refl;
    long = refl;
    flags_long = turned.flags_long ∙ long;
  }

  module _ (board ranks flags : List ℕ) (n : ℕ) (running : Running b row ways most safe goal first board ranks flags n true) where
    -- stages are few
    pub stage_small : n ≤ 6145
    stage_small =
        let whole : L.states b * row.places ≤ 24 * 256 = mul-le-mul valid.sized.states_fit.1 (few b valid row running.ready.playable) in
        omega (arith, running.left refl, whole)

    pub stage_lent : length first ≡ room_bytes → Lent b row ways board most n ranks flags
    stage_lent long = record { small = omega (arith, stage_small); held = running.staged.held; ranks_long = running.long ∙ long; flags_long = running.flags_long }

    module _ (ranks' flags' board' flags'' : List ℕ) (did : Bool) (moved : Evolved b row ways board most safe n ranks flags ranks' flags')
        (done : (y : ℕ) → y < row.places → due_at flags y ≡ 1 → (fresh : ℕ) × RankedWithin (L.states b) row.places ranks y (n - 1) n fresh × PlaceDone b row ways board most safe ranks' y fresh)
        (turned : TurnedTo (L.states b) row.places ranks' (n + 1) row.places did board flags' board' flags'') where
      staged' : Staged b row ways board' most safe goal (n + 1) ranks' flags''
      staged' = staged_next b valid row ways board running.ready most safe goal n running.positive (omega (arith, stage_small)) ranks flags ranks' flags' board' flags'' did running.staged moved done turned

      -- where a place is marked a rank was given
      fewer : did ≡ true → unranked ranks' (L.states b * row.places) < unranked ranks (L.states b * row.places)
      fewer is =
          let (x, place, marked) = turned.some is in
          ⊎_elim (λ was. absurd (omega (arith, running.staged.clear x place)))
          (λ (s, state, high, low). stage_fewer b row ways board most safe n (omega (arith, stage_small)) moved s x
          (omega (arith, position_inside b valid row running.ready.playable s x state place, all_positions b valid row running.ready.playable)) high low)
          (moved.only x place marked)

      pub running_next : Running b row ways most safe goal first board' ranks' flags'' (n + 1) did
      running_next = record {
        ready = ready_next b valid row ways board running.ready most safe goal n running.positive (omega (arith, stage_small)) ranks flags ranks' flags' board' flags'' did running.staged moved done turned;
        staged = staged';
        positive = omega arith;
        left = λ is. omega (arith, fewer is, running.left refl);
        none = λ nothing s x state place e. turned.none nothing x place (sym (turned.due x place) ∙ staged'.due s x state place e);
        beyond = λ p l. moved.beyond p l ∙ running.beyond p l;
        long = moved.ranks_long ∙ running.long;
        flags_long = turned.flags_long ∙ moved.flags_long ∙ running.flags_long;
      }

      pub running_less : (more : Bool) → more ≡ true → left_to_do b row ranks' did < left_to_do b row ranks more
      running_less more is = subst (λ (t : Bool). left_to_do b row ranks' did < left_to_do b row ranks t) (sym is) (go did fewer)
        where
          go : (t : Bool) → (t ≡ true → unranked ranks' (L.states b * row.places) < unranked ranks (L.states b * row.places)) → left_to_do b row ranks' t < left_to_do b row ranks true
          go true less = omega (arith, less refl)
          go false less = omega (arith, stage_no_more b row ways board most safe n (omega (arith, stage_small)) moved)

  pub running_found : (board ranks flags : List ℕ) (n : ℕ) → Running b row ways most safe goal first board ranks flags n false → Found b row ways most safe goal first ranks
  running_found board ranks flags n running = record {
    board = board;
    flags = flags;
    stage = n;
    nexts = running.ready;
    staged = running.staged;
    none = running.none refl;
    beyond = running.beyond;
    long = running.long;
  }
