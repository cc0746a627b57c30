-- `list_line` tries every number.
use mathlib.Core.Bool.{Bool, true, false}
use mathlib.Core.List.{List}
use mathlib.Core.Path.{◌≡◌, sym, ◌∙◌, subst, subst₂}
use Prim.Native.Nat.{ℕ, ◌+◌, ◌≤◌, ◌<◌}
use native.Mathlib.Omega.{arith}
use lib.ListN.{length, set}
use Rattle.block.proofs.Decide as D
use Rattle.game.specs.Position.{MoveOf}
use Rattle.game.specs.Model.{structure_of, coalition_of}
use Rattle.game.proofs.Numbers.Decide.{eq?}
use Rattle.turns.specs.Inner.Rules.{ReplyTo, SideMove}
use Rattle.ways.specs.Lines.{field_place, line_at, number_in}
use Rattle.ways.specs.Listing.{Eligible, Ends, Listable, SameOutside}
use Rattle.ways.proofs.Filling.{LineBelow, line_none, line_skip, line_all, outside_none, replies_kept, line_stored}
use Rattle.ways.proofs.Leading.{listable, eligible, eligible_move, eligible_ends, ends_eligible, listed_below}
use Rattle.ways.proofs.listing.list_line.Goals as goal
use Rattle.ways.proofs.listing.list_line.Goals.{then-is_eligible+else-ends_line, else-is_eligible}
use Rattle.ways.proofs.listing.list_line.Lts as lts
use Rattle.ways.proofs.listing.list_line.Reads as reads
use Rattle.ways.proofs.listing.list_line.Tie as tie

abbrev At-After-is_eligible : Type 0
At-After-is_eligible = lts.After-is_eligible tie.the-claims reads.Pre reads.Post goal.the-invariant-loop-m goal.the-decreases-loop-m tie.handed_clauses

abbrev At-In-loop-m : Type 0
At-In-loop-m = lts.In-loop tie.the-claims reads.Pre reads.Post goal.the-invariant-loop-m goal.the-decreases-loop-m tie.handed_clauses

abbrev At-Start : Type 0
At-Start = lts.Start tie.the-claims reads.Pre reads.Post goal.the-invariant-loop-m goal.the-decreases-loop-m tie.handed_clauses

pub numbers-limit-requires : goal.numbers-limit-requires
numbers-limit-requires c = record { valid = c.requires.valid; i_bound = (c.requires.playable.0.inside, c.requires.playable.0.strategic); parts_table = c.requires.parts_table }

pub loop-m-init : goal.loop-m-init
loop-m-init c = (omega arith, line_none (Listable c.args.block.now c.args.row c.args.s c.args.ours) (number_in c.args.ways.now c.args.s c.args.ours), outside_none (field_place c.args.s (line_at c.args.ours)) (field_place c.args.s (line_at c.args.ours) + 64) c.args.ways.now, λ k less. absurd (omega arith))

long : (c : At-In-loop-m) → length c.loop-m.ways ≡ 6704
long c = c.loop-m.invariant.2.long ∙ c.requires.playable.2

state_small : (start : At-Start) → start.args.s < 24
state_small start = omega (arith, start.requires.playable.1, start.requires.valid.sized.states_fit)

pub is_eligible-requires : goal.is_eligible-requires
is_eligible-requires c = record { valid = c.requires.valid; playable = (c.requires.playable.0, c.requires.playable.1, long c.before); line_of = (λ ours. replies_kept (ReplyTo c.args.block.now c.args.row.index c.args.s) c.args.s c.args.ours c.args.ways.now c.loop-m.ways ours c.loop-m.invariant.2 (c.requires.line_of ours)); parts_table = c.requires.parts_table }

next_small : (c : At-In-loop-m) → (c.loop-m.n < 64) × (c.loop-m.m < 64)
next_small c = (omega (arith, c.loop-m.invariant.1.few, c.loop-m-test.true, c.numbers-limit.ensures.0), omega (arith, c.loop-m-test.true, c.numbers-limit.ensures.0))

pub set_number-requires : goal.set_number-requires
set_number-requires c = (long c.before.before.before.before, state_small c.before.before.before.before.before.before.before.before.before, (next_small c.before.before.before.before).0, (next_small c.before.before.before.before).1)

pub overflow_add-n : goal.overflow_add-n
overflow_add-n c = record { fits = omega (arith, (next_small c.before.before.before.before.before.before.before).0) }

-- what is eligible is listed, since nothing below it ends the line
module _ (c : At-After-is_eligible) where
  abbrev P : ℕ → Type 0
  P = Listable c.args.block.now c.args.row c.args.s c.args.ours

  abbrev after : List ℕ → ℕ → Type 0
  after l n =
      LineBelow P (c.loop-m.m + 1) (number_in l c.args.s c.args.ours) n
      × SameOutside (field_place c.args.s (line_at c.args.ours)) (field_place c.args.s (line_at c.args.ours) + 64) c.args.ways.now l

  eligible_here : c.is_eligible.result ≡ true → Eligible c.args.block.now c.args.row c.args.s c.args.ours c.loop-m.m
  eligible_here = D.truth c.is_eligible.ensures

  more : c.is_eligible.result ≡ true → (l : List ℕ) → l ≡ set c.loop-m.ways (field_place c.args.s (line_at c.args.ours + c.loop-m.n)) c.loop-m.m → after l (c.loop-m.n + 1)
  more is l put =
      line_stored P c.args.s c.args.ours c.loop-m.m c.loop-m.n c.args.ways.now c.loop-m.ways l (state_small c.before.before.before.before.before.before) (next_small c.before).0 (long c.before) put c.loop-m.invariant.1
      (listable c.args.block.now c.requires.valid c.args.row c.requires.playable.0 c.args.s c.args.ours c.loop-m.m (eligible_here is) c.loop-m.invariant.3)
      c.loop-m.invariant.2

  skip : c.is_eligible.result ≡ false → after c.loop-m.ways c.loop-m.n
  skip is-not =
      (line_skip P c.loop-m.m c.loop-m.n (number_in c.loop-m.ways c.args.s c.args.ours) c.loop-m.invariant.1 (λ listed. D.falsity c.is_eligible.ensures is-not (eligible c.args.block.now c.requires.valid c.args.row c.requires.playable.0 c.args.s c.args.ours c.loop-m.m listed)), c.loop-m.invariant.2)

  -- and the number does not end the line either
  open_still : (Ends c.args.block.now c.args.row c.args.s c.args.ours c.loop-m.m → ⊥) → (k : ℕ) → k < c.loop-m.m + 1 → Ends c.args.block.now c.args.row c.args.s c.args.ours k → ⊥
  open_still here k less ends = go (eq? k c.loop-m.m)
    where
      go : Dec (k ≡ c.loop-m.m) → ⊥
      go (yes e) = here (subst (Ends c.args.block.now c.args.row c.args.s c.args.ours) e ends)
      go (no ne) = c.loop-m.invariant.3 k (omega arith) ends

pub ends_line-requires : goal.ends_line-requires
ends_line-requires c = record { valid = c.requires.valid; playable = (c.requires.playable.0, c.requires.playable.1); move_of = ours_move }
  where
    ours_move : c.args.ours ≡ true → MoveOf (structure_of c.args.block.now) (coalition_of c.args.block.now c.args.row.index) c.args.s c.loop-m.m
    ours_move ours =
        subst (λ (t : Bool). SideMove c.args.block.now c.args.row.index t c.args.s c.loop-m.m) ours
        (eligible_move c.args.block.now c.requires.valid c.args.row c.requires.playable.0 c.args.s c.args.ours c.loop-m.m (eligible_here c.before.before.before.before.before.before c.if-is_eligible.true))

pub shape_of-ways-then-ends_line : goal.shape_of-ways-then-ends_line
shape_of-ways-then-ends_line c = (more c.before.before.before.before.before.before.before.before c.if-is_eligible.true c.set_number.new.ways c.set_number.ensures).1.long

pub returns-then-ends_line : goal.returns-then-ends_line
returns-then-ends_line c = let is = eligible_here c.before.before.before.before.before.before.before.before c.if-is_eligible.true in
    let ends = eligible_ends c.args.block.now c.requires.valid c.args.row c.requires.playable.0 c.args.s c.args.ours c.loop-m.m is (D.truth c.ends_line.ensures c.if-ends_line.true) in
    let (line, same) = more c.before.before.before.before.before.before.before.before c.if-is_eligible.true c.set_number.new.ways c.set_number.ensures in record {
      line_of_2 = line_all (Listable c.args.block.now c.args.row c.args.s c.args.ours) (c.loop-m.m + 1) (c.loop-m.n + 1) (number_in c.set_number.new.ways c.args.s c.args.ours) (omega (arith, (next_small c.before.before.before.before.before.before.before.before.before).1))
          (listed_below c.args.block.now c.requires.valid c.args.row c.requires.playable.0 c.args.s c.args.ours c.loop-m.m ends) line;
      same_outside = same;
    }

pub overflow_step-m : goal.overflow_step-m
overflow_step-m c = omega (arith, c.loop-m-test.true)

pub loop-m-smaller : goal.loop-m-smaller
loop-m-smaller c = omega (arith, c.loop-m-test.true)

pub loop-m-preserved : goal.loop-m-preserved
loop-m-preserved c = let small : c.loop-m.m + 1 ≤ c.numbers-limit.result = omega (arith, c.loop-m-test.true) in
    let Open : Type 0 = (k : ℕ) → k < c.loop-m.m + 1 → Ends c.args.block.now c.args.row c.args.s c.args.ours k → ⊥ in
    let After : List ℕ → ℕ → Type 0 = λ l n.
    (c.loop-m.m + 1 ≤ c.numbers-limit.result) × LineBelow (Listable c.args.block.now c.args.row c.args.s c.args.ours) (c.loop-m.m + 1) (number_in l c.args.s c.args.ours) n
    × SameOutside (field_place c.args.s (line_at c.args.ours)) (field_place c.args.s (line_at c.args.ours) + 64) c.args.ways.now l × Open in
    elim c.if-is_eligible.branch [
      | then-is_eligible+else-ends_line w ↦
          let (line, same) = more c.before.before w.if-is_eligible.true w.set_number.new.ways w.set_number.ensures in
          subst₂ After (sym w.ways-is) (sym w.n-is) (small, line, same, open_still c.before.before (λ ends. D.falsity w.ends_line.ensures w.if-ends_line.false (ends.0, ends.1, ends.2.2)))
      | else-is_eligible w ↦
          let (line, same) = skip c.before.before w.if-is_eligible.false in
          subst₂ After (sym w.ways-is) (sym w.n-is)
          (small, line, same, open_still c.before.before (λ ends. D.falsity c.is_eligible.ensures w.if-is_eligible.false (ends_eligible c.args.block.now c.requires.valid c.args.row c.requires.playable.0 c.args.s c.args.ours c.loop-m.m ends)))
    ]

pub shape_of-ways : goal.shape_of-ways
shape_of-ways c = c.loop-m.invariant.2.long

pub returns : goal.returns
returns c = record {
  line_of_2 = line_all (Listable c.args.block.now c.args.row c.args.s c.args.ours) c.loop-m.m c.loop-m.n (number_in c.loop-m.ways c.args.s c.args.ours) (omega (arith, c.loop-m.invariant.0, c.numbers-limit.ensures.0))
      (λ m listed. omega (arith, c.numbers-limit.ensures.1 c.args.s m c.requires.playable.1 (eligible_move c.args.block.now c.requires.valid c.args.row c.requires.playable.0 c.args.s c.args.ours m (eligible c.args.block.now c.requires.valid c.args.row c.requires.playable.0 c.args.s c.args.ours m listed)), c.loop-m-test.false)) c.loop-m.invariant.1;
  same_outside = c.loop-m.invariant.2;
}
