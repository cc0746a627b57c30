-- `leads_into` asks of each listed reply where it leads.
use mathlib.Core.Bool.{false}
use mathlib.Core.Path.{refl, subst}
use Prim.Native.Nat.{ℕ, ◌+◌, ◌<◌}
use native.Mathlib.Omega.{arith}
use Rattle.std.proofs.Common.{rules}
use Rattle.std.proofs.lemmas.Iterator.{serves_from_Range}
use Rattle.block.specs.Decide.{Bit}
use Rattle.block.specs.Layout as L
use Rattle.block.proofs.Chains.{all_below}
use Rattle.block.proofs.Decide as D
use Rattle.ways.specs.Lines.{count_in}
use Rattle.ways.proofs.listing.leads_into.Goals as goal

pub count-n-requires : goal.count-n-requires
count-n-requires c = (c.requires.playable.2, omega (arith, c.requires.playable.1, c.requires.valid.sized.states_fit))

pub all-requires-clause-callable : goal.all-requires-clause-callable
all-requires-clause-callable c = serves_from_Range (λ x q k. search rules) (λ k _ below.
    let small : k < count_in c.args.ways.now c.args.s false = omega (arith, c.count-n.ensures) in
    search rules)

pub returns : goal.returns
returns c = D.same (all_below (λ x b q h k. search rules) c.all.ensures.ran refl c.count-n.ensures)
    (λ all r reply. let (k, small, e) = c.requires.line_of.each r reply in subst (λ (x : ℕ). Bit c.args.row.set (L.next c.args.block.now c.args.s (c.args.m + x))) e (all k small))
    (λ all k small. all _ (c.requires.line_of.only k small))
