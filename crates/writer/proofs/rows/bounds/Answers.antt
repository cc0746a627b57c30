-- `bounds` writes the bounds of a row, resource by resource.
use mathlib.Core.Path.{refl}
use Prim.Native.Nat.{◌+◌}
use native.Mathlib.Omega.{arith}
use Rattle.block.specs.Layout.{place_of}
use Rattle.block.specs.declared.layout.Place.TheVariants.{Field}
use Rattle.text.specs.Format.{write}
use Rattle.text.proofs.JobLoops.{each_loop}
use Rattle.writer.proofs.Writing.{looped_none, looped_more, looped_all}
use Rattle.writer.proofs.rows.bounds.Goals as goal

pub loop-j-init : goal.loop-j-init
loop-j-init c = (omega arith, ((omega arith, (refl, refl)), looped_none))

pub bound-requires-in-loop-j : goal.bound-requires-in-loop-j
bound-requires-in-loop-j c = omega (arith, c.shared_slice_known-1.given (place_of (Field c.args.i (4 + c.loop-j.j))))

pub loop-j-preserved : goal.loop-j-preserved
loop-j-preserved c = (omega arith, ((omega arith, (cc, cc)), looped_more (each_loop _ _) c.loop-j.invariant.1.1 (omega arith) (λ f. rw c.bound.ensures at (c.bound-in-loop-j.ensures.adds (write f c.args.block.now)))))

pub returns-clause-past : goal.returns-clause-past
returns-clause-past c = looped_all (each_loop _ _) (rw c.resources-resources.ensures at c.loop-j.invariant.1.1) (omega arith)
