-- Before the first stage, and what is left to do in all. Assumes nothing.
use mathlib.Core.Bool.{Bool, true, false}
use mathlib.Core.List.{List}
use mathlib.Core.Logic.{inl, inr}
use mathlib.Core.Path.{◌≡◌, sym, ◌∙◌, ap, subst}
use Prim.Native.Nat.{ℕ, suc, ◌+◌, ◌*◌, ◌/◌, ◌%◌, ◌^◌, ◌≤◌, ◌<◌}
use native.Mathlib.Nat.{mul-add-div_right, div-eq_of_lt, mul-le-mul_right, suc-mul}
use native.Mathlib.Omega.{arith}
use Rattle.block.specs.Decide.{Bit}
use Rattle.block.specs.Layout as L
use Rattle.block.specs.Layout.{Block}
use Rattle.block.specs.Inner.Valid.{Valid}
use Rattle.game.specs.Model.{arena_of}
use Rattle.game.specs.Position.{positions}
use Rattle.game.proofs.Blocks.Passing.{states_times}
use Rattle.game.proofs.Numbers.Decide.{eq?}
use Rattle.turns.specs.Buffers.{rank_in}
use Rattle.turns.specs.Sizes.{max_positions, max_stock_places}
use Rattle.ways.specs.Lines.{count_in, number_in}
use Rattle.ways.specs.Rows.{Playable}
use Rattle.ways.specs.declared.rows.Row.{Row}
use Rattle.ways.proofs.Leading.{listed_small, number_inside}
use Rattle.boards.specs.Boards.{nexts_words, to_in, Nexts}
use Rattle.stages.specs.Stages.{hold, marked_at, Prepared, rank_of, Waits, TurnedTo}
use Rattle.ways.specs.First.{FirstRank, FirstIn}
use Rattle.stages.specs.Solving.{Rests, Staged}
use Rattle.stages.proofs.Paths.{idle_to, next_some}

-- the state that a number stands for, with c numbers for each
pub quotient : (c s x : ℕ) → x < c → (s * c + x) / c ≡ s
quotient c s x small = mul-add-div_right (omega arith) s x ∙ ap (s +◌) (div-eq_of_lt small) ∙ omega arith

-- the positions are those of each state
pub all_positions : (b : Block) → Valid b → (row : Row) → Playable b row → positions (arena_of b row.index) ≡ L.states b * row.places
all_positions b valid row playable = states_times b valid row.index (L.resources b) ∙ ap (λ (c : ℕ). L.states b * c) (sym playable.places_are)

-- and a position's number is one of them
pub position_inside : (b : Block) → Valid b → (row : Row) → Playable b row → (s x : ℕ) → s < L.states b → x < row.places → s * row.places + x < positions (arena_of b row.index)
position_inside b valid row playable s x state place =
    let last : suc s * row.places ≤ L.states b * row.places = mul-le-mul_right row.places state in
    omega (arith, last, suc-mul s row.places, all_positions b valid row playable)

module _ (b : Block) (valid : Valid b) (row : Row) (ways board : List ℕ) (ready : Prepared b row ways board) (most : Bool) (safe goal : ℕ) (ranks flags board' flags' : List ℕ) (did : Bool)
    (first : (n : ℕ) → n < max_positions → FirstRank hold goal row.places (positions (arena_of b row.index)) n (rank_in ranks n))
    (ones : (x : ℕ) → x < row.places → marked_at flags x ≡ 1)
    (turned : TurnedTo (L.states b) row.places ranks 1 row.places did board flags board' flags') where
  bit? : (w s : ℕ) → Dec (Bit w s)
  bit? w s = eq? (w / 2 ^ s % 2) 1

  to_same : (s k : ℕ) → s < L.states b → k < count_in ways s true → to_in board' s k ≡ to_in board s k
  to_same s k state low = let (a, c) = listed_small b valid row ways ready.listed s k state low in turned.words (64 * s + k) (inl (omega arith))

  pub ready_first : Prepared b row ways board'
  ready_first = record {
    playable = ready.playable;
    listed = ready.listed;
    all = ready.all;
    nexts = λ s k state low. subst (Nexts b row s (number_in ways s true k)) (sym (to_same s k state low)) (ready.nexts s k state low);
    reaches = λ s k q state low bit.
        subst (λ (w : ℕ). Bit w q) (sym (turned.words (nexts_words + max_stock_places + s) (inr (omega arith)))) (ready.reaches s k q state low (subst (λ (w : ℕ). Bit w q) (to_same s k state low) bit));
    long = turned.board_long ∙ ready.long;
  }

  module _ (s x : ℕ) (state : s < L.states b) (place : x < row.places) where
    word : FirstIn hold goal s (rank_of row ranks s x)
    word =
        let is = (first (s * row.places + x) (number_inside b valid row ready.playable s x state place)).within (position_inside b valid row ready.playable s x state place) in
        subst (λ (q : ℕ). FirstIn hold goal q (rank_of row ranks s x)) (quotient row.places s x place) is

    -- 0 at a goal, and hold elsewhere
    only_zero : rank_of row ranks s x < hold → rank_of row ranks s x ≡ 0
    only_zero low = go (bit? goal s)
      where
        go : Dec (Bit goal s) → rank_of row ranks s x ≡ 0
        go (yes g) = word.0 g
        go (no ng) = absurd (omega (arith, word.1 ng))

    only_hold : hold ≤ rank_of row ranks s x → rank_of row ranks s x ≡ hold
    only_hold high = go (bit? goal s)
      where
        go : Dec (Bit goal s) → rank_of row ranks s x ≡ hold
        go (yes g) = absurd (omega (arith, word.0 g))
        go (no ng) = word.1 ng

    reached : rank_of row ranks s x ≡ 0 → Bit goal s
    reached e = go (bit? goal s)
      where
        go : Dec (Bit goal s) → Bit goal s
        go (yes g) = g
        go (no ng) = absurd (omega (arith, word.1 ng))

    waits : Waits b row ways board' s x 0
    waits = let (some, (y, to)) = idle_to b valid row ways board ready s state x place in record { place = y; to = to; below = λ j z less. absurd (omega arith) }

    rests : (side : Bool) → hold ≤ rank_of row ranks s x → Rests b row ways board' most ranks side 1 s x
    rests true high = λ k y to. let (q, bit) = next_some b valid row ways board' ready_first s state k to.0 in (q, bit, omega arith)
    rests false high = (0, only_hold high ∙ omega arith, waits, λ q bit. omega arith)

  pub staged_first : Staged b row ways board' most safe goal 1 ranks flags'
  staged_first = record {
    words = λ y q place state. let now = (turned.set y place (ones y place)).each q state in (λ bit. (now.0 bit).1, λ low. now.1 (omega arith, low));
    below = λ s x state place low. omega (arith, only_zero s x state place low);
    due = λ s x state place e. turned.due x place ∙ ones x place;
    clear = turned.cleared;
    reached = reached;
    goals = λ s x state place g. (word s x state place).0 g;
    attacked = λ s x state place positive low. absurd (omega (arith, only_zero s x state place low));
    defended = λ s x state place positive low. absurd (omega (arith, only_zero s x state place low));
    held = λ side s x state place high. (0, only_hold s x state place high ∙ omega arith, waits s x state place);
    rests = λ s x state place safely high. rests s x state place most high;
  }
