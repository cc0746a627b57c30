-- `store_state` stores one word after another.
use mathlib.Core.Bool.{true}
use mathlib.Core.List.{List}
use mathlib.Core.Path.{refl, sym, ◌∙◌, subst}
use Prim.Native.Nat.{ℕ, ◌+◌, ◌*◌, ◌<◌}
use native.Mathlib.Omega.{arith}
use Rattle.turns.proofs.Bytes.{one_more}
use Rattle.ways.specs.Lines.{number_in}
use Rattle.boards.specs.Boards.{to_in, Nexts}
use Rattle.boards.proofs.board.store_state.Goals as goal
use Rattle.boards.proofs.board.store_state.Lts as lts
use Rattle.boards.proofs.board.store_state.Reads as reads
use Rattle.boards.proofs.board.store_state.Tie as tie

abbrev At-In-loop-k : Type 0
At-In-loop-k = lts.In-loop tie.the-claims reads.Pre reads.Post goal.the-invariant-loop-k goal.the-decreases-loop-k tie.handed_clauses

pub count-n-requires : goal.count-n-requires
count-n-requires c = (c.requires.playable.1.long, omega (arith, c.requires.s_bound.0, c.requires.valid.sized.states_fit))

pub loop-k-init : goal.loop-k-init
loop-k-init c = (omega arith, (λ i small. absurd (omega arith)), (λ t i _ _. refl), refl)

pub next_states-w-requires : goal.next_states-w-requires
next_states-w-requires c = record { valid = c.requires.valid; playable = c.requires.playable; s_bound = (c.requires.s_bound.0, omega (arith, c.loop-k-test.true, c.count-n.ensures)) }

within : (c : At-In-loop-k) → c.loop-k.k < 64
within c =
    omega (arith, c.loop-k-test.true, c.count-n.ensures, ((c.requires.playable.1.states c.args.s c.requires.s_bound.0).lines true).few)

pub overflow_mul-s : goal.overflow_mul-s
overflow_mul-s c = record { fits = omega (arith, c.requires.s_bound.0, c.requires.valid.sized.states_fit) }

pub overflow_add-s : goal.overflow_add-s
overflow_add-s c = record { fits = omega (arith, c.requires.s_bound.0, c.requires.valid.sized.states_fit, within c.before.before.before) }

pub set_narrow-requires : goal.set_narrow-requires
set_narrow-requires c = (omega (arith, c.requires.s_bound.0, c.requires.valid.sized.states_fit, within c.before.before.before, c.loop-k.invariant.3, c.requires.s_bound.1), c.next_states-w.ensures.1)

pub overflow_step-k : goal.overflow_step-k
overflow_step-k c = omega (arith, c.loop-k-test.true)

pub loop-k-smaller : goal.loop-k-smaller
loop-k-smaller c = omega (arith, c.loop-k-test.true)

pub loop-k-preserved : goal.loop-k-preserved
loop-k-preserved c = (
  omega (arith, c.loop-k-test.true),
  one_more (λ (l : List ℕ) (i : ℕ). to_in l c.args.s i) (λ (i w : ℕ). Nexts c.args.block.now c.args.row c.args.s (number_in c.args.ways.now c.args.s true i) w) c.loop-k.board c.set_narrow.new.sets
      (λ i ne. c.set_narrow.ensures.others (64 * c.args.s + i) (λ e. ne (omega arith)))
      (subst (Nexts c.args.block.now c.args.row c.args.s (number_in c.args.ways.now c.args.s true c.loop-k.k)) (sym c.set_narrow.ensures.stored) c.next_states-w.ensures.0)
      c.loop-k.invariant.1,
  (λ t i less small. c.set_narrow.ensures.others (64 * t + i) (λ e. omega arith) ∙ c.loop-k.invariant.2 t i less small),
  c.set_narrow.ensures.kept ∙ c.loop-k.invariant.3,
)

pub shape_of-board : goal.shape_of-board
shape_of-board c = c.loop-k.invariant.3

pub returns : goal.returns
returns c = record { by_index = (λ k small. c.loop-k.invariant.1 k (omega (arith, c.loop-k-test.false, c.count-n.ensures))); by_index_2 = (c.loop-k.invariant.2, c.loop-k.invariant.3) }
