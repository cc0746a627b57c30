-- The places of the layout.
use Rattle.std.specs.Prelude.{◌<◌}
use Rattle.block.specs.Layout.{header_bytes, max_agents, max_resources, max_states, max_rows, max_actions, max_joint, row_bytes}
use Rattle.block.specs.declared.layout.Place.{Place}
use Rattle.block.specs.declared.layout.Place.TheVariants.{Header, Mask, Count, Cost, Next, Field, ResourceKind}

-- the places of the layout: each number below block_bytes is one of these, and of one only
abbrev pub InLayout : Place → Type 0
InLayout (Header f) = f < header_bytes
InLayout (Mask s) = s < max_states
InLayout (Count s a) = (s < max_states) × (a < max_agents)
InLayout (Cost s a k j) = (s < max_states) × (a < max_agents) × (k < max_actions) × (j < max_resources)
InLayout (Next s joint) = (s < max_states) × (joint < max_joint)
InLayout (Field i f) = (i < max_rows) × (f < row_bytes)
InLayout (ResourceKind j) = j < max_resources
