-- `available` tells whether a joint action can be done: all agents have the actions of its digits.
use mathlib.Core.Path.{refl}
use Rattle.std.proofs.Common.{rules}
use Rattle.block.specs.Layout.{Acts, digit}
use Rattle.block.proofs.Chains.{all_below}
use Rattle.block.proofs.Decide as D
use Rattle.block.proofs.joint.available.Goals as goal

pub returns : goal.returns
returns c = D.same (all_below {P = λ a. Acts c.args.block.now c.args.s a (digit c.args.joint a)} (λ x b q h k. search rules) c.all.ensures.ran refl refl) (λ h. (c.requires.s_lt_max_states.1, h)) (λ x. x.1)
