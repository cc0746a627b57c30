-- `label_row` ranks a strategic row and stores the word of the states in which the row is true.
use mathlib.Core.Logic.{inl, inr}
use mathlib.Core.Path.{◌≡◌, refl, sym, ◌∙◌, ap, subst}
use Prim.Native.Nat.{ℕ, ◌<◌}
use native.Mathlib.Omega.{arith}
use lib.ListN.{length}
use Rattle.block.specs.Layout as L
use Rattle.game.specs.Model.{RowSet}
use Rattle.choice.specs.Tables.{RanksOf}
use Rattle.solver.specs.Inner.Labels.{Prepared}
use Rattle.solver.proofs.Labelling.{row_labelled}
use Rattle.solver.proofs.label.label_row.Goals as goal
use Rattle.solver.proofs.label.label_row.Goals.{then-kind-ge-NEXT_KIND, else-kind-ge-NEXT_KIND}
use Rattle.solver.proofs.label.label_row.Lts as lts
use Rattle.solver.proofs.label.label_row.Reads as reads
use Rattle.solver.proofs.label.label_row.Tie as tie

abbrev At-Joined-kind-ge-NEXT_KIND : Type 0
At-Joined-kind-ge-NEXT_KIND = lts.Joined1 tie.the-claims reads.Pre reads.Post tie.handed_clauses

pub rank_row-requires : goal.rank_row-requires
rank_row-requires c = record { valid = c.requires.valid; i_bound = (c.requires.i_bound.0, (omega (arith, c.kind.ensures, c.if-kind-ge-NEXT_KIND.true), (c.requires.valid.row_fits c.args.i c.requires.i_bound.0).known), c.requires.i_bound.2, c.requires.i_bound.3) }

-- the ranks keep their length
long : (c : At-Joined-kind-ge-NEXT_KIND) → length c.if-kind-ge-NEXT_KIND.ranks ≡ length c.args.ranks.now
long c = elim c.if-kind-ge-NEXT_KIND.branch [
  | then-kind-ge-NEXT_KIND w ↦
      ap length w.ranks-is ∙ w.rank_row.ensures.ranks_len_unchanged
  | else-kind-ge-NEXT_KIND w ↦
      ap length w.ranks-is
]

ways_long : (c : At-Joined-kind-ge-NEXT_KIND) → length c.if-kind-ge-NEXT_KIND.ways ≡ length c.args.ways.now
ways_long c = elim c.if-kind-ge-NEXT_KIND.branch [
  | then-kind-ge-NEXT_KIND w ↦
      ap length w.ways-is ∙ w.rank_row.ensures.row_ranked.listed.long ∙ sym c.requires.i_bound.2
  | else-kind-ge-NEXT_KIND w ↦
      ap length w.ways-is
]

pub row_word-w-requires : goal.row_word-w-requires
row_word-w-requires c = record { valid = c.requires.valid; i_bound = (c.requires.i_bound.0, omega (arith, long c.before, c.requires.i_bound.3)) }

pub shape_of-ways : goal.shape_of-ways
shape_of-ways c = ways_long c.before.before.before.before.before.before

pub shape_of-ranks : goal.shape_of-ranks
shape_of-ranks c = long c.before.before.before.before.before.before

-- a strategic row has its ranks
ranked : (c : At-Joined-kind-ge-NEXT_KIND) → L.Strategic (L.kind c.args.block.now c.args.i) → RanksOf c.args.block.now c.args.i c.left_set-left.result c.right_set-right.result c.if-kind-ge-NEXT_KIND.ranks
ranked c strategic =
    elim c.if-kind-ge-NEXT_KIND.branch [
      | then-kind-ge-NEXT_KIND w ↦
          subst (RanksOf c.args.block.now c.args.i c.left_set-left.result c.right_set-right.result) (sym w.ranks-is) w.rank_row.ensures.row_ranked.ranks_of
      | else-kind-ge-NEXT_KIND w ↦
          absurd (omega (arith, c.kind.ensures, w.if-kind-ge-NEXT_KIND.false, strategic))
    ]

-- the words that the row names, as sets
left_told : (c : At-Joined-kind-ge-NEXT_KIND) → L.prop_kind < L.kind c.args.block.now c.args.i → RowSet c.args.block.now (L.left c.args.block.now c.args.i) c.left_set-left.result
left_told c uses =
    subst (RowSet c.args.block.now (L.left c.args.block.now c.args.i)) (sym (c.left_set-left.ensures.value uses)) (c.requires.named_sets (L.left c.args.block.now c.args.i) (inl (uses, refl)))

right_told : (c : At-Joined-kind-ge-NEXT_KIND) → L.Binary (L.kind c.args.block.now c.args.i) → RowSet c.args.block.now (L.right c.args.block.now c.args.i) c.right_set-right.result
right_told c uses =
    subst (RowSet c.args.block.now (L.right c.args.block.now c.args.i)) (sym (c.right_set-right.ensures.value uses)) (c.requires.named_sets (L.right c.args.block.now c.args.i) (inr (uses, refl)))

-- the ranks of any other row stay
plain : (c : At-Joined-kind-ge-NEXT_KIND) → (L.Strategic (L.kind c.args.block.now c.args.i) → ⊥) → c.if-kind-ge-NEXT_KIND.ranks ≡ c.args.ranks.now
plain c other =
    elim c.if-kind-ge-NEXT_KIND.branch [
      | then-kind-ge-NEXT_KIND w ↦
          absurd (other (omega (arith, c.kind.ensures, w.if-kind-ge-NEXT_KIND.true), (c.requires.valid.row_fits c.args.i c.requires.i_bound.0).known))
      | else-kind-ge-NEXT_KIND w ↦
          w.ranks-is
    ]

pub returns : goal.returns
returns c = let set : RowSet c.args.block.now c.args.i c.row_word-w.result = row_labelled c.args.block.now c.requires.valid c.args.i c.requires.i_bound.0 c.left_set-left.result c.right_set-right.result (left_told c.before.before.before.before.before.before) (right_told c.before.before.before.before.before.before) c.if-kind-ge-NEXT_KIND.ranks c.row_word-w.result c.row_word-w.ensures (ranked c.before.before.before.before.before.before) in record {
  row_labelled = record { set = subst (RowSet c.args.block.now c.args.i) (sym c.set_word.ensures.stored) set; others = c.set_word.ensures.others; long = c.set_word.ensures.kept };
  ranked = λ strategic.
      let uses : L.prop_kind < L.kind c.args.block.now c.args.i = omega (arith, strategic.0) in
      let lower = (c.requires.valid.row_fits c.args.i c.requires.i_bound.0).left_lower uses in
      let same = c.left_set-left.ensures.value uses ∙ sym (c.set_word.ensures.others (L.left c.args.block.now c.args.i) (λ e. omega arith)) in
      (c.right_set-right.result, subst (λ (w : ℕ). Prepared c.args.block.now c.args.i w c.right_set-right.result c.if-kind-ge-NEXT_KIND.ranks) same (record { left_set = left_told c.before.before.before.before.before.before; right_set = right_told c.before.before.before.before.before.before; ranks_of = ranked c.before.before.before.before.before.before strategic }));
  ranks_unchanged = plain c.before.before.before.before.before.before;
  ways_len_unchanged = (ways_long c.before.before.before.before.before.before, long c.before.before.before.before.before.before);
}
