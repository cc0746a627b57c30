-- `reply_to` looks for a reply unless the row has failed already.
use native.Mathlib.Omega.{arith}
use Rattle.block.proofs.Decide as D
use Rattle.rankings.specs.Kinds.{kind_of}
use Rattle.choice.proofs.Replying.{reply_failed, reply_found}
use Rattle.choice.proofs.replies.reply_to.Goals as goal

pub goal_of-goal-requires : goal.goal_of-goal-requires
goal_of-goal-requires c = record { block_len = c.requires.valid.sized.bytes; i_lt_max_rows = omega (arith, c.requires.playable.0.inside, c.requires.valid.sized.rows_fit); strategic = c.requires.playable.0.strategic }

pub failed-requires : goal.failed-requires
failed-requires c = omega (arith, c.requires.made.0.0, c.requires.valid.sized.states_fit)

pub returns-then-failed : goal.returns-then-failed
returns-then-failed c = (
  λ p fits is_state leaves allowed own_is. reply_failed c.args.block.now c.requires.valid c.args.row c.requires.playable.0 c.args.ranks.now (kind_of c.goal_of-goal.result) c.args.own c.args.step.state c.args.step.number c.args.step.place c.requires.made.0 p is_state leaves
      fits c.goal_of-goal.ensures own_is c.args.right c.requires.made.1 c.requires.fact allowed (D.truth c.failed.ensures c.if-failed.true),
  omega arith,
)

pub find_reply-requires : goal.find_reply-requires
find_reply-requires c = record { valid = c.requires.valid; playable = c.requires.playable; made = c.requires.made.0 }

pub returns : goal.returns
returns c = (
  λ p fits is_state leaves allowed own_is. reply_found c.args.block.now c.requires.valid c.args.row c.requires.playable.0 c.args.ranks.now (kind_of c.goal_of-goal.result) c.args.own c.args.step.state c.args.step.number c.args.step.place c.requires.made.0 p is_state leaves
      fits c.goal_of-goal.ensures own_is c.args.right c.requires.made.1 c.requires.fact allowed (D.falsity c.failed.ensures c.if-failed.false) c.find_reply.result (c.find_reply.ensures.0 p fits is_state leaves),
  c.find_reply.ensures.1,
)
