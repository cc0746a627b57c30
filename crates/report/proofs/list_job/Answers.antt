-- `list_job` fills the rest of its buffers with zeros.
use mathlib.Core.Path.{refl, ◌∙◌}
use lib.ListN.{take}
use Rattle.turns.specs.Sizes.{room_bytes, moves_bytes}
use Rattle.turns.proofs.Bytes.{cleared}
use Rattle.report.specs.Call.{listing_bytes}
use Rattle.report.proofs.Printing.{filled}
use Rattle.report.proofs.list_job.Goals as goal

pub returns : goal.returns
returns c = record { listing_in = (take c.job_lines-n.result c.job_lines-n.new.out, (c.job_lines-n.ensures.listed.0, filled (take c.job_lines-n.result c.job_lines-n.new.out) c.job_lines-n.new.out c.zeros.new.buffer listing_bytes c.job_lines-n.result refl c.job_lines-n.ensures.listed.1 (c.job_lines-n.auto.out ∙ c.requires.out_len.0) c.zeros.ensures)); ranks_after = (cleared c.job_lines-n.new.ranks c.zeros-2.new.buffer room_bytes c.zeros-2.ensures c.job_lines-n.ensures.ranks_len.0, cleared c.job_lines-n.new.moves c.zeros-3.new.buffer moves_bytes c.zeros-3.ensures c.job_lines-n.ensures.ranks_len.1) }
