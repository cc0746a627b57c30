-- `needed` adds, from row i downwards, what each needed row names.
use Rattle.solver.proofs.Needing.{NeedsFrom}
use Rattle.solver.proofs.needs.needed.Given as goal

abbrev pub invariant-loop-j : goal.invariant-loop-j
invariant-loop-j l = NeedsFrom l.block l.i l.j l.w
