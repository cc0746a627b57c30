-- `list_state` lists the replies, then the moves and what they take.
use mathlib.Core.Path.{◌≡◌, sym, ◌∙◌}
use Prim.Native.Nat.{ℕ, ◌<◌}
use native.Mathlib.Omega.{arith}
use lib.ListN.{length}
use Rattle.ways.specs.Lines.{ways_bytes, field_place}
use Rattle.ways.proofs.Filling.{set_long, replies_counted, moves_counted, state_whole}
use Rattle.ways.proofs.listing.list_state.Goals as goal
use Rattle.ways.proofs.listing.list_state.Lts as lts
use Rattle.ways.proofs.listing.list_state.Reads as reads
use Rattle.ways.proofs.listing.list_state.Tie as tie

abbrev At-After-list_line-moves : Type 0
At-After-list_line-moves = lts.After-list_line2 tie.the-claims reads.Pre reads.Post tie.handed_clauses

abbrev At-After-set_count : Type 0
At-After-set_count = lts.After-set_count tie.the-claims reads.Pre reads.Post tie.handed_clauses

abbrev At-After-set_count-2 : Type 0
At-After-set_count-2 = lts.After-set_count2 tie.the-claims reads.Pre reads.Post tie.handed_clauses

abbrev At-Start : Type 0
At-Start = lts.Start tie.the-claims reads.Pre reads.Post tie.handed_clauses

pub list_line-replies-requires : goal.list_line-replies-requires
list_line-replies-requires c = record { valid = c.requires.valid; playable = c.requires.playable; line_of = (λ ours. let z : ◌≡◌ {A = ℕ} 0 1 = cc in absurd (omega arith)); parts_table = c.requires.parts_table }

state_small : (start : At-Start) → start.args.s < 24
state_small start = omega (arith, start.requires.playable.1, start.requires.valid.sized.states_fit)

pub set_count-requires : goal.set_count-requires
set_count-requires c = (c.list_line-replies.ensures.same_outside.long ∙ c.requires.playable.2, state_small c.before.before.before.before.before.before.before.before, c.list_line-replies.ensures.line_of_2.few)

-- the buffer after the count of replies
long₂ : (c : At-After-set_count) → length c.set_count.new.ways ≡ ways_bytes
long₂ c = set_long c.list_line-replies.new.ways c.set_count.new.ways (field_place c.args.s 1) c.list_line-replies.result c.set_count.ensures ∙ c.list_line-replies.ensures.same_outside.long ∙ c.requires.playable.2

pub list_line-moves-requires : goal.list_line-moves-requires
list_line-moves-requires c = record { valid = c.requires.valid; playable = (c.requires.playable.0, c.requires.playable.1, long₂ c.before.before.before.before); line_of = (λ ours. replies_counted c.args.block.now c.args.row c.args.s c.list_line-replies.result (state_small c.before.before.before.before.before.before.before.before.before.before.before.before) c.args.ways.now c.list_line-replies.new.ways c.set_count.new.ways c.requires.playable.2 c.list_line-replies.ensures.same_outside c.list_line-replies.ensures.line_of_2 c.set_count.ensures); parts_table = c.requires.parts_table }

-- after the moves, and after their count
long₃ : (c : At-After-list_line-moves) → length c.list_line-moves.new.ways ≡ ways_bytes
long₃ c = c.list_line-moves.ensures.same_outside.long ∙ long₂ c.before.before.before.before

pub set_count-requires-2 : goal.set_count-requires-2
set_count-requires-2 c = (long₃ c.before.before.before.before, state_small c.before.before.before.before.before.before.before.before.before.before.before.before.before.before.before.before, c.list_line-moves.ensures.line_of_2.few)

long₄ : (c : At-After-set_count-2) → length c.set_count-2.new.ways ≡ ways_bytes
long₄ c = set_long c.list_line-moves.new.ways c.set_count-2.new.ways (field_place c.args.s 0) c.list_line-moves.result c.set_count-2.ensures ∙ long₃ c.before.before.before.before

pub list_effects-requires : goal.list_effects-requires
list_effects-requires c = record { valid = c.requires.valid; playable = (c.requires.playable.0, c.requires.playable.1, long₄ c.before.before.before.before); line_of = moves_counted c.args.block.now c.args.row c.args.s c.list_line-replies.result (state_small c.before.before.before.before.before.before.before.before.before.before.before.before.before.before.before.before.before.before.before.before) c.args.ways.now c.list_line-replies.new.ways c.set_count.new.ways c.requires.playable.2 c.list_line-replies.ensures.same_outside c.list_line-replies.ensures.line_of_2 c.set_count.ensures c.list_line-moves.result c.list_line-moves.new.ways c.set_count-2.new.ways c.list_line-moves.ensures.same_outside c.list_line-moves.ensures.line_of_2 c.set_count-2.ensures }

pub shape_of-ways : goal.shape_of-ways
shape_of-ways c = c.list_effects.ensures.same_outside.long ∙ long₄ c.before.before.before.before.before.before.before ∙ sym c.requires.playable.2

pub returns : goal.returns
returns c =
    let (listed, same) = state_whole c.args.block.now c.args.row c.args.s c.list_line-replies.result (state_small c.before.before.before.before.before.before.before.before.before.before.before.before.before.before.before.before.before.before.before.before.before.before.before) c.args.ways.now c.list_line-replies.new.ways c.set_count.new.ways c.requires.playable.2 c.list_line-replies.ensures.same_outside c.list_line-replies.ensures.line_of_2 c.set_count.ensures c.list_line-moves.result c.list_line-moves.new.ways c.set_count-2.new.ways c.list_line-moves.ensures.same_outside c.list_line-moves.ensures.line_of_2 c.set_count-2.ensures
    c.list_effects.new.ways c.list_effects.ensures.same_outside c.list_effects.ensures.effects_of in
    record { state_listed = listed; same_outside = same }
