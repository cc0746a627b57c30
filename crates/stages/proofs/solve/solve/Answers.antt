-- `solve` starts from the first words, goes through the stages, and ends with never where no rank was given.
use mathlib.Core.Bool.{true}
use mathlib.Core.Path.{refl, sym, ◌∙◌, subst}
use Prim.Native.Nat.{ℕ, ◌+◌, ◌*◌, ◌≤◌}
use native.Mathlib.Nat.{mul-le-mul}
use native.Mathlib.Omega.{arith}
use Rattle.ways.specs.Lines.{number_in}
use Rattle.ways.proofs.Leading.{few, listed_small}
use Rattle.boards.specs.Boards.{Nexts}
use Rattle.stages.specs.Solving.{Finished}
use Rattle.stages.proofs.Closing.{found_ranked}
use Rattle.stages.proofs.Opening.{all_positions}
use Rattle.stages.proofs.solve.solve.Goals as goal
use Rattle.stages.proofs.solve.solve.Lts as lts
use Rattle.stages.proofs.solve.solve.Reads as reads
use Rattle.stages.proofs.solve.solve.Tie as tie

abbrev At-After-states : Type 0
At-After-states = lts.After-states tie.the-claims reads.Pre reads.Post tie.handed_clauses

pub first_ranks-requires : goal.first_ranks-requires
first_ranks-requires c = record { valid = c.requires.valid; playable = (c.requires.playable.0, c.requires.playable.2); other_lt_rank_end = omega arith }

pub store_nexts-requires : goal.store_nexts-requires
store_nexts-requires c = record { valid = c.requires.valid; playable = (c.requires.playable.0, c.requires.playable.1, refl) }

pub store_reaches-requires : goal.store_reaches-requires
store_reaches-requires c = record { valid = c.requires.valid; playable = (c.requires.playable.0, c.requires.playable.1, c.store_nexts.ensures.board_len_unchanged) }

pub run-requires : goal.run-requires
run-requires c = record {
  valid = (
    c.requires.valid,
    record {
      playable = c.requires.playable.0;
      listed = c.requires.playable.1;
      all = c.requires.into_value;
      nexts = λ s k state low.
          let (a, b) = listed_small c.args.block.now c.requires.valid c.args.row c.args.ways.now c.requires.playable.1 s k state low in
          subst (Nexts c.args.block.now c.args.row s (number_in c.args.ways.now s true k)) (sym (c.store_reaches.ensures.by_index_2.0 (64 * s + k) (omega arith))) (c.store_nexts.ensures.by_index s k state low);
      reaches = c.store_reaches.ensures.by_index;
      long = c.store_reaches.ensures.by_index_2.1 ∙ c.store_nexts.ensures.board_len_unchanged;
    },
  );
  ranks_len = c.first_ranks.ensures.ranks_len_unchanged ∙ c.requires.playable.2;
  by_index = c.first_ranks.ensures.by_index;
}

pub states-requires : goal.states-requires
states-requires c = c.requires.valid.sized.bytes

-- all positions are within the buffer
module _ (c : At-After-states) where
  all : c.states.result * c.args.row.places ≤ 6144
  all =
      let most : c.states.result ≤ 24 = omega (arith, c.states.ensures, c.requires.valid.sized.states_fit) in
      omega (arith, mul-le-mul most (few c.args.block.now c.requires.valid c.args.row c.requires.playable.0))

pub overflow_mul-states : goal.overflow_mul-states
overflow_mul-states c = record { fits = omega (arith, all c.before.before) }

pub finish-requires : goal.finish-requires
finish-requires c = omega (arith, all c.before.before, c.run.ensures.long, c.first_ranks.ensures.ranks_len_unchanged, c.requires.playable.2)

pub shape_of-ranks : goal.shape_of-ranks
shape_of-ranks c = c.finish.ensures.long ∙ c.run.ensures.long ∙ c.first_ranks.ensures.ranks_len_unchanged

pub returns : goal.returns
returns c = let finished = subst (λ (n : ℕ). Finished (n * c.args.row.places) c.run.new.ranks c.finish.new.ranks) c.states.ensures c.finish.ensures in (
  record {
    ranked = found_ranked c.args.block.now c.requires.valid c.args.row c.args.ways.now c.args.side.most c.args.side.safe c.args.goal _ _ _ c.run.ensures finished;
    outside = λ n beyond small. finished.outside n (omega (arith, all_positions c.args.block.now c.requires.valid c.args.row c.requires.playable.0)) ∙ c.run.ensures.beyond n beyond ∙ (c.first_ranks.ensures.by_index n small).outside beyond;
  },
  finished.long ∙ c.run.ensures.long ∙ c.first_ranks.ensures.ranks_len_unchanged,
)
