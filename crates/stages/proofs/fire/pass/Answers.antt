-- `pass` stores what is waited for next, or ranks the position.
use mathlib.Core.Bool.{Bool, true}
use mathlib.Core.Path.{sym, subst}
use Prim.Native.Nat.{◌+◌, ◌≤◌}
use native.Mathlib.Omega.{arith}
use Rattle.ways.proofs.Leading.{number_inside, listed_small}
use Rattle.stages.specs.Stages.{hold, rank_of, Earned, passed}
use Rattle.stages.proofs.Touching.{marked_not, evolved_one, waits_at, next_waits, all_earned}
use Rattle.stages.proofs.fire.pass.Goals as goal

pub overflow_add-fire : goal.overflow_add-fire
overflow_add-fire c = omega (arith, (listed_small c.args.block.now c.requires.valid.0 c.args.fire.row c.args.ways.now c.requires.valid.1.listed c.args.fire.state c.args.fire.index c.requires.state_bound.0 c.requires.state_bound.3.0).1)

pub first_staying-requires : goal.first_staying-requires
first_staying-requires c = record { valid = c.requires.valid.0; playable = (c.requires.valid.1.playable, c.requires.valid.1.listed, c.requires.valid.1.long); state_bound = (c.requires.state_bound.0, c.requires.state_bound.1, omega (arith, c.requires.state_bound.3.0)) }

pub overflow_mul-fire : goal.overflow_mul-fire
overflow_mul-fire c = omega (arith, number_inside c.args.block.now c.requires.valid.0 c.args.fire.row c.requires.valid.1.playable c.args.fire.state c.args.x c.requires.state_bound.0 c.requires.state_bound.1)

pub overflow_add-fire-in-Some : goal.overflow_add-fire-in-Some
overflow_add-fire-in-Some c = omega (arith, number_inside c.args.block.now c.requires.valid.0 c.args.fire.row c.requires.valid.1.playable c.args.fire.state c.args.x c.requires.state_bound.0 c.requires.state_bound.1)

pub overflow_add-next : goal.overflow_add-next
overflow_add-next c = omega (arith, ((c.requires.valid.1.listed.states c.args.fire.state c.requires.state_bound.0).lines true).few, c.in-Some.ensures.1)

pub set_rank-requires : goal.set_rank-requires
set_rank-requires c = (
  omega (arith, number_inside c.args.block.now c.requires.valid.0 c.args.fire.row c.requires.valid.1.playable c.args.fire.state c.args.x c.requires.state_bound.0 c.requires.state_bound.1, c.requires.lent.0.ranks_long),
  omega (arith, ((c.requires.valid.1.listed.states c.args.fire.state c.requires.state_bound.0).lines true).few, c.in-Some.ensures.1),
)

pub returns-in-Some : goal.returns-in-Some
returns-in-Some c =
    let waits = waits_at c.args.block.now c.requires.valid.0 c.args.fire.row c.requires.valid.1.playable c.args.ways.now c.args.board.now c.args.fire.most c.args.ranks.now c.requires.lent.0.held c.requires.lent.1 c.args.fire.state c.args.x c.args.fire.index c.requires.state_bound.0 c.requires.state_bound.1 c.requires.x_value in
    let (from, _, stays, before) = c.in-Some.ensures in
    let waits_next = next_waits c.args.block.now c.requires.valid.0 c.args.fire.row c.requires.valid.1.playable c.args.ways.now c.args.board.now c.args.fire.state c.args.x c.args.fire.index c.args.fire.place c.in-Some.next c.requires.state_bound.0 c.requires.state_bound.1 waits c.requires.state_bound.3 c.requires.state_bound.4 before stays in
    let high : hold ≤ rank_of c.args.fire.row c.args.ranks.now c.args.fire.state c.args.x = omega (arith, c.requires.x_value) in (
      evolved_one c.args.block.now c.requires.valid.0 c.args.fire.row c.requires.valid.1.playable c.args.ways.now c.args.board.now c.args.fire.most c.args.fire.safe c.args.fire.stage c.args.fire.state c.args.x (hold + c.in-Some.next) c.requires.state_bound.0 c.requires.state_bound.1 c.requires.state_bound.2 c.set_rank.ensures
          (passed c.in-Some.next c.requires.lent.1 high waits_next stays) (marked_not c.args.x c.args.flags.now (λ (_, low). omega arith)),
      λ e. omega (arith, c.set_rank.ensures.stored, from),
    )

pub give-requires : goal.give-requires
give-requires c =
    let waits = waits_at c.args.block.now c.requires.valid.0 c.args.fire.row c.requires.valid.1.playable c.args.ways.now c.args.board.now c.args.fire.most c.args.ranks.now c.requires.lent.0.held c.requires.lent.1 c.args.fire.state c.args.x c.args.fire.index c.requires.state_bound.0 c.requires.state_bound.1 c.requires.x_value in
    let earned = all_earned c.args.block.now c.requires.valid.0 c.args.fire.row c.requires.valid.1.playable c.args.ways.now c.args.board.now c.args.fire.state c.args.x c.args.fire.index c.args.fire.place _ c.requires.state_bound.0 c.requires.state_bound.1 waits c.requires.state_bound.3 c.requires.state_bound.4 c.in-None.ensures (omega arith) in
    record { valid = c.requires.valid; lent = c.requires.lent.0; state_bound = (c.requires.state_bound.0, c.requires.state_bound.1, c.requires.state_bound.2, omega (arith, c.requires.x_value), subst (λ (t : Bool). Earned c.args.block.now c.args.fire.row c.args.ways.now c.args.board.now t c.args.fire.state c.args.x) (sym c.requires.lent.1) earned) }

pub returns-in-None : goal.returns-in-None
returns-in-None c = (c.give.ensures.0, λ e. omega (arith, c.give.ensures.1, c.requires.lent.0.small))
