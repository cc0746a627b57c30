-- `value_at` goes by whether a listed move may give: one that gives nothing lands where it leaves the place.
use mathlib.Core.Path.{refl}
use Rattle.std.proofs.Common.{rules}
use Rattle.ways.specs.Landing.{Remains}
use Rattle.ways.specs.Lines.{taken_in}
use Rattle.ways.proofs.Leading.{gives_none, spends_lands}
use Rattle.sweeps.proofs.value.value_at.Goals as goal

pub value_by-requires-2-clause-landed : goal.value_by-requires-2-clause-landed
value_by-requires-2-clause-landed c k to small call =
    let remains : Remains c.args.ways.now c.args.spot.place (taken_in c.args.ways.now c.args.spot.state k) to = search rules in
    spends_lands c.args.block.now c.requires.valid c.args.row c.requires.playable.0 c.args.ways.now c.requires.playable.1 c.args.spot.state c.args.spot.place k _
    c.requires.into_value.1 c.requires.into_value.2 small refl (gives_none c.requires.playable.1 c.if-row.false c.requires.into_value.1 small) to remains
