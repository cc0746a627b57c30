-- What the contracts of the reader's and the writer's parts say of fields.
use Rattle.std.specs.Prelude.{List, ℕ, zero, suc, ◌<◌, set}
use Rattle.block.specs.Layout.{Block, agents, resources, states, propositions, rows, count, resource_kind}
use Rattle.text.specs.declared.sizes.Edition.{Edition}
use Rattle.text.specs.declared.sizes.Sizes.{Sizes}
use Rattle.text.specs.Numeral.{numeral}
use Rattle.text.specs.Job.{no_counts, no_kinds}

-- a byte that can end a number: it is below the digits
abbrev pub Ends : ℕ → Type 0
Ends sep = (0 < sep) × (sep < numeral 0)

-- the list that the first n parts of several tell, each its value
abbrev pub collected : (ℕ → ℕ) → List ℕ → ℕ → List ℕ
collected value none zero = none
collected value none (suc n) = set (collected value none n) n (value n)

-- how many actions each agent has in state s, as far as the first n agents tell, and the kinds, as far as the first n resources tell
abbrev pub counts_to : Block → ℕ → ℕ → List ℕ
counts_to b s = collected (count b s) no_counts

abbrev pub kinds_to : Block → ℕ → List ℕ
kinds_to b = collected (resource_kind b) no_kinds

-- what the first line of a block's text tells in an edition
abbrev pub sizes_of : Edition → Block → Sizes
sizes_of e b = record {
  edition = e;
  agents = agents b;
  resources = resources b;
  states = states b;
  propositions = propositions b;
  rows = rows b;
  kinds = kinds_to b (resources b);
}
