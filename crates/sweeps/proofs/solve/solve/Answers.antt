-- `solve` starts from the first ranks and settles them.
use mathlib.Core.Path.{◌∙◌, subst}
use Prim.Native.Nat.{ℕ, ◌<◌}
use native.Mathlib.Omega.{arith}
use Rattle.game.specs.Position.{positions}
use Rattle.turns.specs.Buffers.{rank_in}
use Rattle.game.specs.Model.{arena_of}
use Rattle.game.proofs.Blocks.Passing.{few_positions}
use Rattle.ways.specs.First.{FirstRank}
use Rattle.game.specs.Table.{never}
use Rattle.sweeps.proofs.Starting.{first_kept}
use Rattle.sweeps.proofs.solve.solve.Goals as goal

pub first_ranks-requires : goal.first_ranks-requires
first_ranks-requires c = record { valid = c.requires.valid; playable = (c.requires.playable.0, c.requires.playable.2); other_lt_rank_end = omega arith }

pub settle_places-requires : goal.settle_places-requires
settle_places-requires c = record {
  valid = c.requires.valid;
  playable = (
    c.requires.playable.0,
    c.requires.playable.1,
    omega (arith, c.requires.playable.2, c.first_ranks.ensures.ranks_len_unchanged),
  );
  into_value = c.requires.into_value;
}

pub shape_of-ranks : goal.shape_of-ranks
shape_of-ranks c = c.settle_places.ensures.long ∙ c.first_ranks.ensures.ranks_len_unchanged

pub returns : goal.returns
returns c = let G = arena_of c.args.block.now c.args.row.index in
    let ranks = subst (λ (places : ℕ). (n : ℕ) → n < 6144 → FirstRank never c.args.goal places (positions G) n (rank_in c.first_ranks.new.ranks n)) c.requires.playable.0.places_are
    c.first_ranks.ensures.by_index in
    let few = few_positions c.args.block.now c.requires.valid c.args.row.index c.requires.playable.0.inside c.requires.playable.0.strategic in (
      record {
        ranked = c.settle_places.ensures.ranked c.args.goal (first_kept G c.args.side.most c.args.side.safe c.args.goal c.first_ranks.new.ranks few ranks);
        outside = λ n beyond small. c.settle_places.ensures.beyond n beyond ∙ (ranks n small).outside beyond;
      },
      c.settle_places.ensures.long ∙ c.first_ranks.ensures.ranks_len_unchanged,
    )
