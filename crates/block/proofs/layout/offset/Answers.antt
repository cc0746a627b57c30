-- `offset` gives a place its number, kind by kind.
use mathlib.Core.Path.{refl}
use native.Mathlib.Omega.{arith}
use Rattle.block.proofs.layout.offset.Goals as goal

pub mask_place-requires : goal.mask_place-requires
mask_place-requires c = rw c.in-Mask.is at c.requires

pub count_place-requires : goal.count_place-requires
count_place-requires c = rw c.in-Count.is at c.requires

pub cost_place-requires : goal.cost_place-requires
cost_place-requires c = rw c.in-Cost.is at c.requires

pub next_place-requires : goal.next_place-requires
next_place-requires c = rw c.in-Next.is at c.requires

pub field_place-requires : goal.field_place-requires
field_place-requires c = rw c.in-Field.is at c.requires

pub resource_kind_place-requires : goal.resource_kind_place-requires
resource_kind_place-requires c = rw c.in-ResourceKind.is at c.requires

pub returns-in-Header : goal.returns-in-Header
returns-in-Header c = let low = rw c.in-Header.is at c.requires in
    rw c.in-Header.is (refl, omega arith)

pub returns-in-Mask : goal.returns-in-Mask
returns-in-Mask c = rw c.in-Mask.is c.mask_place.ensures

pub returns-in-Count : goal.returns-in-Count
returns-in-Count c = rw c.in-Count.is c.count_place.ensures

pub returns-in-Cost : goal.returns-in-Cost
returns-in-Cost c = rw c.in-Cost.is c.cost_place.ensures

pub returns-in-Next : goal.returns-in-Next
returns-in-Next c = rw c.in-Next.is c.next_place.ensures

pub returns-in-Field : goal.returns-in-Field
returns-in-Field c = rw c.in-Field.is c.field_place.ensures

pub returns-in-ResourceKind : goal.returns-in-ResourceKind
returns-in-ResourceKind c = rw c.in-ResourceKind.is c.resource_kind_place.ensures
