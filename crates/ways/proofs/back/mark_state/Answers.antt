-- `mark_state` goes over the listed moves of the state.
use mathlib.Core.Bool.{true}
use mathlib.Core.Logic.{◌⊎◌, inl, inr}
use mathlib.Core.Path.{◌≡◌, sym, ◌∙◌, subst}
use Prim.Native.Nat.{ℕ, ◌+◌, ◌<◌}
use native.Mathlib.Omega.{arith}
use Rattle.game.specs.Model.{arena_of}
use Rattle.game.proofs.Numbers.Decide.{eq?}
use Rattle.ways.specs.Back.{Leads}
use Rattle.ways.specs.Lines.{number_in}
use Rattle.ways.specs.Listing.{Useful}
use Rattle.ways.proofs.Marking.{marked_none, marked_both, marked_narrow}
use Rattle.ways.proofs.back.mark_state.Goals as goal

pub count-n-requires : goal.count-n-requires
count-n-requires c = (c.requires.playable.1.long, omega (arith, c.requires.s_bound.0, c.requires.valid.sized.states_fit))

pub loop-k-init : goal.loop-k-init
loop-k-init c = (omega arith, marked_none _ (λ z (j, l, _). omega arith))

pub mark_move-requires : goal.mark_move-requires
mark_move-requires c = record { valid = c.requires.valid; playable = (c.requires.playable.0, c.requires.playable.1, c.loop-k.invariant.1.long ∙ c.requires.playable.2); s_bound = (c.requires.s_bound.0, omega (arith, c.count-n.ensures, c.loop-k-test.true), c.requires.s_bound.1) }

pub overflow_step-k : goal.overflow_step-k
overflow_step-k c = omega (arith, c.loop-k-test.true)

pub loop-k-smaller : goal.loop-k-smaller
loop-k-smaller c = omega (arith, c.loop-k-test.true)

pub loop-k-preserved : goal.loop-k-preserved
loop-k-preserved c = (omega (arith, c.loop-k-test.true), marked_both (λ z (j, l, led). split z j l led (eq? j c.loop-k.k)) c.loop-k.invariant.1 c.mark_move.ensures)
  where
    Here : ℕ → ℕ → Type 0
    Here z j = Leads (arena_of c.args.block.now c.args.row.index) c.args.s z (number_in c.args.ways.now c.args.s true j) c.args.x

    split : (z j : ℕ) → j < c.loop-k.k + 1 → Here z j → Dec (j ≡ c.loop-k.k) → ((j' : ℕ) × (j' < c.loop-k.k) × Here z j') ⊎ Here z c.loop-k.k
    split z j l led (yes e) = inr (subst (Here z) e led)
    split z j l led (no ne) = inl (j, omega arith, led)

pub shape_of-flags : goal.shape_of-flags
shape_of-flags c = c.loop-k.invariant.1.long

pub returns : goal.returns
returns c = marked_narrow (λ z (m, useful, led). listed z m useful led) c.loop-k.invariant.1
  where
    listed : (z m : ℕ) → Useful c.args.block.now c.args.row c.args.s m → Leads (arena_of c.args.block.now c.args.row.index) c.args.s z m c.args.x → (j : ℕ) × (j < c.loop-k.k) × Leads (arena_of c.args.block.now c.args.row.index) c.args.s z (number_in c.args.ways.now c.args.s true j) c.args.x
    listed z m useful led =
        let (j, l, e) = ((c.requires.playable.1.states c.args.s c.requires.s_bound.0).lines true).each m useful in
        (j, omega (arith, c.count-n.ensures, c.loop-k-test.false), subst (λ (y : ℕ). Leads (arena_of c.args.block.now c.args.row.index) c.args.s z y c.args.x) (sym e) led)
