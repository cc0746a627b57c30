-- What the steps of the reader come to, as reading goes on from there.
use Rattle.std.specs.Prelude.{List, ℕ, ◌≤◌, ◌<◌, Result, Ok, Err, length, drop}
use Rattle.text.specs.Numeral.{numbers}
use Rattle.text.specs.Format.{Outcome, accepted, refused}
use Rattle.block.specs.Layout.{Block, max_agents, max_resources, max_states, max_propositions, max_rows}
use Rattle.text.specs.declared.sizes.Sizes.{Sizes}
use Rattle.scan.specs.declared.step.Stop.{Stop}
use Rattle.scan.specs.declared.step.Valued.{Valued}

-- reading goes on with the text from the next place, or ends at a field
abbrev pub resume : List ℕ → Result ℕ Stop → (List ℕ → Outcome) → Outcome
resume t (Ok next) f = f (drop next t)
resume t (Err stop) f = refused stop.refusal (drop stop.at t)

abbrev pub resume_with : {A : Type 0} → List ℕ → Result (Valued A) Stop → (A → List ℕ → Outcome) → Outcome
resume_with t (Ok v) f = f v.value (drop v.next t)
resume_with t (Err stop) f = refused stop.refusal (drop stop.at t)

-- what the last step comes to
abbrev pub outcome_at : List ℕ → Result ℕ Stop → Block → Outcome
outcome_at t (Ok next) b = accepted b
outcome_at t (Err stop) b = refused stop.refusal (drop stop.at t)

-- the step past a value
abbrev pub past_value : {A : Type 0} → Result (Valued A) Stop → Result ℕ Stop
past_value (Ok v) = Ok v.next
past_value (Err stop) = Err stop

-- a value, or another where there is none
abbrev pub value_or : {A : Type 0} → A → Result (Valued A) Stop → A
value_or d (Ok v) = v.value
value_or d (Err stop) = d

-- a value, where there is one, is from low to below limit
abbrev pub Ranged : ℕ → ℕ → Result (Valued ℕ) Stop → Type 0
Ranged low limit (Ok v) = (low ≤ v.value) × (v.value < limit)
Ranged low limit (Err stop) = Unit {0}

-- the next place, or that of the field where reading ended, lies within the text
abbrev pub Inside : List ℕ → Result ℕ Stop → Type 0
Inside t (Ok next) = next ≤ length t
Inside t (Err stop) = stop.at ≤ length t

abbrev pub InsideWith : List ℕ → Result (Valued ℕ) Stop → Type 0
InsideWith t (Ok v) = (v.value < numbers) × (v.next ≤ length t)
InsideWith t (Err stop) = stop.at ≤ length t

-- the sizes are in range
pub record Fitting (z : Sizes) : Type 0 where
  pub agents_fit : (1 ≤ z.agents) × (z.agents ≤ max_agents)
  pub resources_fit : (1 ≤ z.resources) × (z.resources ≤ max_resources)
  pub states_fit : (1 ≤ z.states) × (z.states ≤ max_states)
  pub propositions_fit : (1 ≤ z.propositions) × (z.propositions ≤ max_propositions)
  pub rows_fit : (1 ≤ z.rows) × (z.rows ≤ max_rows)
