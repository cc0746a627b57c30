-- `go_state` goes past the beginning of a state's line in edition 2.
use mathlib.Core.Path.{refl}
use Rattle.text.specs.Job as J
use Rattle.reader.proofs.gos.go_state.Goals as goal

pub returns-in-First-clause-b_value : goal.returns-in-First-clause-b_value
unfolding J.go_state
returns-in-First-clause-b_value c = rw c.in-First.is (λ f b. refl)

pub returns-in-Second-clause-b_value : goal.returns-in-Second-clause-b_value
unfolding J.go_state
returns-in-Second-clause-b_value c = rw c.in-Second.is c.go_word.ensures.b_value
