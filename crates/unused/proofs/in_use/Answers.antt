-- `in_use` tells whether the job uses a place, by the place's kind.
use Rattle.block.specs.Inner.Tests.{holds}
use Rattle.block.proofs.Decide as D
use borrow.Author.Rules.{rules}
use Rattle.unused.proofs.in_use.Goals as goal

pub next_in_use-requires : goal.next_in_use-requires
next_in_use-requires c = let place = rw c.in-Next.is at c.requires.in_layout in
    record { sized = search rules; joint_lt_max_joint = place.1 }

pub returns-in-Header : goal.returns-in-Header
returns-in-Header c = rw c.in-Header.is (holds (rw c.in-Header.is at c.requires.in_layout))

pub returns-in-Mask : goal.returns-in-Mask
returns-in-Mask c = rw c.in-Mask.is (rw (← c.states.ensures) (D.less _ _))

pub returns-in-Count : goal.returns-in-Count
returns-in-Count c = rw c.in-Count.is c.agent_in_use.ensures

pub returns-in-Cost : goal.returns-in-Cost
returns-in-Cost c = rw c.in-Cost.is c.cost_in_use.ensures

pub returns-in-Next : goal.returns-in-Next
returns-in-Next c = rw c.in-Next.is c.next_in_use.ensures

pub returns-in-Field : goal.returns-in-Field
returns-in-Field c = rw c.in-Field.is c.field_in_use.ensures

pub returns-in-ResourceKind : goal.returns-in-ResourceKind
returns-in-ResourceKind c = rw c.in-ResourceKind.is (rw (← c.resources.ensures) (D.less _ _))
