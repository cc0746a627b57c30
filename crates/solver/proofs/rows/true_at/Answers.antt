-- `true_at` goes by the kind of the row.
use mathlib.Core.List.{List}
use mathlib.Core.Logic.{◌⊎◌, inl, inr, ⊎_elim}
use mathlib.Core.Path.{◌≡◌, sym, ◌∙◌, ap, transport}
use Prim.Native.Nat.{ℕ}
use native.Mathlib.Omega.{arith}
use Rattle.block.specs.Decide.{Bit}
use Rattle.block.specs.Layout as L
use Rattle.block.specs.Layout.{Block}
use Rattle.block.proofs.Decide as D
use Rattle.game.specs.Position.{number, full}
use Rattle.turns.specs.Buffers.{rank_in}
use Rattle.game.specs.Model.{by_kind, arena_of}
use Rattle.game.proofs.Bridge.Truth.{full_fits}
use Rattle.game.proofs.Blocks.Passing.{number_few}
use Rattle.rankings.specs.Kinds.{ClaimsBy}
use Rattle.solver.specs.Inner.Rows.{TrueBy}
use Rattle.solver.proofs.rows.true_at.Goals as goal

-- what the row's kind asks for
module _ (b : Block) (i left right : ℕ) (ranks : List ℕ) (s : ℕ) where
  abbrev Claimed : Type 0
  Claimed = ClaimsBy (L.kind b i) (rank_in ranks (number (arena_of b i) (full (arena_of b i) s)))

  abbrev stands : ℕ → Type 0
  stands k = by_kind k (Bit (L.mask b s) (L.left b i)) (Bit left s → ⊥) (Bit left s ⊎ Bit right s) Claimed Claimed Claimed

  not_is : L.kind b i ≡ 1 → TrueBy b i left right ranks s ≡ (Bit left s → ⊥)
  not_is e = ap stands e

  or_is : L.kind b i ≡ 2 → TrueBy b i left right ranks s ≡ (Bit left s ⊎ Bit right s)
  or_is e = ap stands e

pub returns-in-1 : goal.returns-in-1
returns-in-1 c = let path = not_is c.args.block.now c.args.i c.args.left c.args.right c.args.ranks.now c.args.s (sym c.kind.ensures ∙ c.in-1.is) in
    D.opposite c.has_bit-in-1.ensures (λ h q. transport path q h) (λ fails. transport (sym path) fails)

pub returns-then-has_bit : goal.returns-then-has_bit
returns-then-has_bit c = let path = or_is c.args.block.now c.args.i c.args.left c.args.right c.args.ranks.now c.args.s (sym c.kind.ensures ∙ c.in-2.is) in
    D.same c.has_bit-in-2.ensures (λ h. transport (sym path) (inl h)) (λ _. D.truth c.has_bit-in-2.ensures c.if-has_bit.true)

pub returns-else-has_bit : goal.returns-else-has_bit
returns-else-has_bit c = let path = or_is c.args.block.now c.args.i c.args.left c.args.right c.args.ranks.now c.args.s (sym c.kind.ensures ∙ c.in-2.is) in
    D.same c.has_bit-else-has_bit.ensures (λ h. transport (sym path) (inr h))
    (λ q. ⊎_elim (λ h. absurd (D.falsity c.has_bit-in-2.ensures c.if-has_bit.false h)) (λ h. h) (transport path q))

pub rank_at-rank-requires : goal.rank_at-rank-requires
rank_at-rank-requires c = let G = arena_of c.args.block.now c.args.i in
    let strategic : L.Strategic (L.kind c.args.block.now c.args.i) = (omega (arith, c.kind.ensures), (c.requires.valid.row_fits c.args.i c.requires.i_bound.0).known) in
    omega (
      arith,
      c.full.ensures,
      c.requires.i_bound.2,
      number_few c.args.block.now c.requires.valid c.args.i c.requires.i_bound.0 strategic (full G c.args.s) (full_fits G c.args.s c.requires.i_bound.1),
    )
