-- `fill_places` stores one move after another.
use mathlib.Core.Path.{refl, ◌∙◌}
use Prim.Native.Nat.{◌+◌, ◌*◌, ◌<◌}
use native.Mathlib.Omega.{arith}
use Rattle.ways.proofs.Leading.{number_inside}
use Rattle.choice.proofs.Filling.{byte_stored, places_first, places_next, places_all}
use Rattle.choice.proofs.tables.fill_places.Goals as goal
use Rattle.choice.proofs.tables.fill_places.Lts as lts
use Rattle.choice.proofs.tables.fill_places.Reads as reads
use Rattle.choice.proofs.tables.fill_places.Tie as tie

abbrev At-In-loop-x : Type 0
At-In-loop-x = lts.In-loop tie.the-claims reads.Pre reads.Post goal.the-invariant-loop-x goal.the-decreases-loop-x tie.handed_clauses

pub loop-x-init : goal.loop-x-init
loop-x-init c = (omega arith, places_first c.args.s c.args.row.places c.requires.s_bound.1, refl)

pub move_of-requires : goal.move_of-requires
move_of-requires c = record { valid = c.requires.valid; sought = (c.requires.sought.0, c.requires.sought.1, c.requires.sought.2); state_bound = (c.requires.s_bound.0, c.loop-x-test.true) }

-- the position is within the buffer
inside : (c : At-In-loop-x) → c.args.s * c.args.row.places + c.loop-x.x < 6144
inside c =
    number_inside c.args.block.now c.requires.valid c.args.row c.requires.sought.0.playable c.args.s c.loop-x.x c.requires.s_bound.0 c.loop-x-test.true

pub overflow_mul-moves : goal.overflow_mul-moves
overflow_mul-moves c = record { fits = omega (arith, inside c.before.before) }

pub overflow_add-moves : goal.overflow_add-moves
overflow_add-moves c = record { fits = omega (arith, inside c.before.before) }

pub bounds-moves-s : goal.bounds-moves-s
bounds-moves-s c = omega (arith, inside c.before.before, c.loop-x.invariant.2, c.requires.sought.3)

pub overflow_step-x : goal.overflow_step-x
overflow_step-x c = omega (arith, c.loop-x-test.true)

pub loop-x-smaller : goal.loop-x-smaller
loop-x-smaller c = omega (arith, c.loop-x-test.true)

pub loop-x-preserved : goal.loop-x-preserved
loop-x-preserved c = let put = byte_stored c.loop-x.moves (c.args.s * c.args.row.places + c.loop-x.x) c.move_of.result (omega (arith, inside c.before.before, c.loop-x.invariant.2, c.requires.sought.3)) in
    (omega (arith, c.loop-x-test.true), places_next c.args.s c.args.row.places c.loop-x.x c.move_of.result c.loop-x.invariant.1 put c.move_of.ensures, put.kept ∙ c.loop-x.invariant.2)

pub shape_of-moves : goal.shape_of-moves
shape_of-moves c = c.loop-x.invariant.2

pub returns : goal.returns
returns c = record { filled_to = places_all c.args.s c.args.row.places c.loop-x.x (omega (arith, c.loop-x-test.false, c.loop-x.invariant.0)) c.loop-x.invariant.1; moves_len_unchanged = c.loop-x.invariant.2 }
