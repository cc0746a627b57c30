-- The fields of a job's text stand at different places: their places come in rising turn, line kind by line kind (Formats' Proper).
-- In each law, n is a turn that has not passed, and what follows the lines is proper from the turn after theirs.
-- Assumes nothing.
use mathlib.Core.Bool.{Bool, true, false, cond}
use mathlib.Core.List.{List}
use mathlib.Core.Path.{◌≡◌}
use Prim.Native.Nat.{ℕ, zero, suc, ◌+◌, ◌*◌, ◌≤◌, ◌<◌}
use native.Mathlib.Omega.{arith}
use lib.Dec.{lit<}
use lib.ListN.{get_or, set}
use Rattle.block.specs.Layout.{max_joint, max_agents, max_resources, max_states, max_propositions, max_rows, max_actions, header_bytes, bound_byte, row_bytes, action_costs, sum_kind}
use Rattle.block.specs.Inner.Places.{InLayout}
use Rattle.block.specs.declared.layout.Place.{Place}
use Rattle.block.specs.declared.layout.Place.TheVariants.{Cost, Field, ResourceKind}
use Rattle.block.specs.declared.refusal.Refusal.{Refusal}
use Rattle.text.specs.declared.sizes.Edition.{Edition}
use Rattle.text.specs.declared.sizes.Edition.TheVariants.{First, Second}
use Rattle.text.specs.declared.sizes.Sizes.{Sizes}
use Rattle.text.specs.Numeral.{comma, line_end}
use Rattle.text.specs.Format.{Spelling, Format, exactly, value}
use Rattle.text.specs.Job.{number, bound, index, state_line, cost_spelling, each_resource, actions, acts_line, collect, agent_lines, possible, joint_fields, by_edition, last_joint, go_word, go_actions, go_state, next_field, next_fields, no_counts, state_lines, states, strategic, binary, team_fields, operand_fields, row_line, row_lines, size, resource_spelling, no_kinds, sizes_end, header_line, job}
use Rattle.text.proofs.Spellings.{Fits, Clear, number_range, number_clear, bound_clear, kind_clear, resource_clear}
use Rattle.text.proofs.Costs.{cost_clear}
use Rattle.text.proofs.Formats.{agent_turns, next_turn, state_turns, state_turn, row_turn, turn, Proper, done, word, field, sooner}

-- the sizes of a job are in range
pub record Small (z : Sizes) : Type 0 where
  pub agents_small : z.agents ≤ max_agents
  pub resources_small : z.resources ≤ max_resources
  pub states_small : z.states ≤ max_states
  pub rows_small : z.rows ≤ max_rows

-- what follows a field that is a number may count on its range
number_field : {n sep low limit : ℕ} {r : Refusal} {p : Place} {k : ℕ → Format} → sep < 48 → n ≤ turn p → InLayout p →
    ((v : ℕ) → low ≤ v → v < limit → Proper (suc (turn p)) (k v)) → Proper n (value (number sep low limit r) p k)
number_field {sep = sep} {low = low} {limit = limit} {r = r} h l i f =
    field l i (number_clear low limit sep r h) (λ v x. let g = number_range low limit x in f v g.0 g.1)

-- Proper's constructors as functions: their arguments are then known where omega stands in them
past : {n : ℕ} {w : List ℕ} {f : Format} → Proper n f → Proper n (exactly w f)
past h = word h

clear_field : {n : ℕ} {x : Spelling} {p : Place} {k : ℕ → Format} → Clear x → n ≤ turn p → InLayout p →
    ((v : ℕ) → Fits x v → Proper (suc (turn p)) (k v)) → Proper n (value x p k)
clear_field c l i f = field l i c f

sep_small : (t : Bool) → (sep sep' : ℕ) → sep < 48 → sep' < 48 → cond t sep sep' < 48
sep_small true sep sep' h h' = h
sep_small false sep sep' h h' = h'

either_proper : {n : ℕ} (t : Bool) {f g : Format} → Proper n f → Proper n g → Proper n (cond t f g)
either_proper true h h' = h
either_proper false h h' = h'

-- a field for each resource, the first of which has turn base
each_proper : {n : ℕ} (base : ℕ) (spelling : ℕ → ℕ → Spelling) (place : ℕ → Place) → ((j : ℕ) → j < max_resources → InLayout (place j) × (turn (place j) ≡ base + j)) → ((j m : ℕ) → Clear (spelling j m)) →
    (left j : ℕ) {f : Format} → j + left ≤ max_resources → n ≤ base + j → Proper (base + max_resources) f → Proper n (each_resource spelling place left j f)
unfolding each_resource
each_proper base spelling place at clear zero j hj l h = sooner (omega arith) h
each_proper {n = n} base spelling place at clear (suc left) j {f = f} hj l h =
    let (in_layout, turns) = at j (omega arith) in
    clear_field (clear j left) (omega arith) in_layout (λ v _. each_proper {n = suc (turn (place j))} base spelling place at clear left (suc j) {f = f} (omega arith) (omega arith) h)

-- parts that each tell a number, the part j from turn turns j on
collect_proper : {n : ℕ} (part : ℕ → ℕ → (ℕ → Format) → Format) (turns : ℕ → ℕ) (most : ℕ) → ((j : ℕ) → j ≤ most → turns j ≤ turns most) →
    ((m left j : ℕ) (f : ℕ → Format) → j < most → m ≤ turns j → ((v : ℕ) → Proper (turns (suc j)) (f v)) → Proper m (part left j f)) →
    (left j : ℕ) (told : List ℕ) {f : List ℕ → Format} → j + left ≤ most → n ≤ turns j → ((l : List ℕ) → Proper (turns most) (f l)) → Proper n (collect part left j told f)
unfolding collect
collect_proper part turns most rises body zero j told hj l h = sooner (omega (arith, l, rises j (omega arith))) (h told)
collect_proper part turns most rises body (suc left) j told hj l h =
    body _ left j _ (omega arith) l (λ v. collect_proper part turns most rises body left (suc j) (set told j v) (omega arith) (omega arith) h)

by_edition_lem : {n : ℕ} (e : Edition) {f g : Format} → Proper n f → Proper n g → Proper n (by_edition e f g)
by_edition_lem First h h' = h
by_edition_lem Second h h' = h'

-- a line's end, or another byte that may stand after a number
end_small : (e : Edition) {sep : ℕ} → sep < 48 → by_edition e line_end sep < 48
end_small First h = lit< tt
end_small Second h = h

module _ (z : Sizes) (small : Small z) (s : ℕ) (hs : s < max_states) where
  actions_proper : {n : ℕ} (a left k : ℕ) {f : Format} → a < max_agents → k + left ≤ max_actions → n ≤ state_turn s + (2 + agent_turns * a + action_costs * k) →
      Proper (state_turn s + (1 + agent_turns + agent_turns * a)) f → Proper n (actions z s a left k f)
  unfolding actions
  actions_proper a zero k ha hk l h = sooner (omega arith) h
  actions_proper {n} a (suc left) k {f} ha hk l h =
      each_proper (state_turn s + (2 + agent_turns * a + action_costs * k)) (λ j m. cost_spelling z.edition (get_or z.kinds j sum_kind) k (left + m)) (Cost s a k) (λ j hj. (omega arith, omega arith)) (λ j m. cost_clear z.edition (get_or z.kinds j sum_kind) k (left + m)) z.resources 0 (omega arith) (omega arith)
      (actions_proper {n = state_turn s + (2 + agent_turns * a + action_costs * k) + max_resources} a left (suc k) ha (omega arith) (omega arith) h)

  acts_proper : {n : ℕ} (a : ℕ) {f : ℕ → Format} → a < max_agents → n ≤ state_turn s + (1 + agent_turns * a) →
      ((c : ℕ) → Proper (state_turn s + (1 + agent_turns + agent_turns * a)) (f c)) → Proper n (acts_line z s a f)
  unfolding acts_line index
  acts_proper a ha l h =
      past (past (past (number_field (lit< tt) l (omega arith) (λ c _ g. actions_proper a c 0 ha (omega arith) (omega arith) (h c)))))

  -- the turn of an agent's line
  abbrev agent_turn : ℕ → ℕ
  agent_turn a = state_turn s + (1 + agent_turns * a)

  agents_proper : {n : ℕ} {f : List ℕ → Format} → n ≤ state_turn s + 1 → ((counts : List ℕ) → Proper (state_turn s + next_turn) (f counts)) → Proper n (agent_lines z s z.agents 0 no_counts f)
  agents_proper l h =
      collect_proper (λ left a. acts_line z s a) agent_turn max_agents (λ a ha. omega arith)
      (λ m left a f ha l g. acts_proper a ha l (λ c. sooner (omega arith) (g c))) z.agents 0 no_counts (omega arith) (omega arith) (λ counts. sooner (omega arith) (h counts))

  joint_proper : {n : ℕ} (joint left a : ℕ) {f : Format} → Proper n f → Proper n (joint_fields joint left a f)
  unfolding joint_fields index
  joint_proper joint zero a h = h
  joint_proper joint (suc left) a h = past (joint_proper joint left (suc a) h)

  go_actions_lem : {n : ℕ} (joint : ℕ) {f : Format} → Proper n f → Proper n (go_actions z s joint f)
  unfolding go_actions go_word index
  go_actions_lem joint h = by_edition_lem z.edition (past (past (joint_proper joint z.agents 0 h))) h

  go_state_lem : {n : ℕ} {f : Format} → Proper n f → Proper n (go_state z s f)
  unfolding go_state go_word index
  go_state_lem h = by_edition_lem z.edition h (past (past h))

  next_proper : {n : ℕ} (joint : ℕ) (counts : List ℕ) {f : Format} → joint < max_joint → n ≤ state_turn s + (next_turn + joint) →
      Proper (state_turn s + (1 + next_turn + joint)) f → Proper n (next_field z s counts joint f)
  unfolding next_field
  next_proper joint counts hj l h =
      go_actions_lem joint (number_field (end_small z.edition (sep_small (last_joint counts joint) line_end comma (lit< tt) (lit< tt))) l (omega arith) (λ q _ _. sooner (omega arith) h))

  nexts_proper : {n : ℕ} (left joint : ℕ) (counts : List ℕ) {f : Format} → joint + left ≤ max_joint → n ≤ state_turn s + (next_turn + joint) →
      Proper (state_turn s + state_turns) f → Proper n (next_fields z s counts left joint f)
  unfolding next_fields
  nexts_proper zero joint counts hj l h = sooner (omega arith) h
  nexts_proper {n = n} (suc left) joint counts {f = f} hj l h =
      either_proper (possible counts joint)
      (next_proper joint counts (omega arith) l (nexts_proper {n = state_turn s + (1 + next_turn + joint)} left (suc joint) counts (omega arith) (omega arith) h))
      (nexts_proper {n = n} left (suc joint) counts (omega arith) (omega arith) h)

  state_proper : {n : ℕ} {f : Format} → n ≤ state_turn s → Proper (state_turn s + state_turns) f → Proper n (state_lines z s f)
  unfolding state_lines state_line index
  state_proper l h =
      past (past (number_field (lit< tt) l hs
      (λ m _ _. agents_proper (omega arith) (λ counts. go_state_lem (nexts_proper max_joint 0 counts (omega arith) (omega arith) h)))))

module _ (z : Sizes) (small : Small z) where
  states_proper : {n : ℕ} (left s : ℕ) {f : Format} → s + left ≤ max_states → n ≤ state_turn s → Proper (row_turn 0) f → Proper n (states z left s f)
  unfolding states
  states_proper zero s hs l h = sooner (omega arith) h
  states_proper {n} (suc left) s {f} hs l h =
      state_proper z small s (omega arith) l (states_proper {n = state_turn s + state_turns} left (suc s) (omega arith) (omega arith) h)

  team_proper : {n : ℕ} (i k : ℕ) {f : Format} → i < max_rows → n ≤ row_turn i + 1 → Proper (row_turn i + (2 + max_resources)) f → Proper n (team_fields z i k f)
  unfolding team_fields
  team_proper i k hi l h =
      either_proper (strategic k)
      (number_field (lit< tt) (omega arith) (omega arith) (λ t _ _. each_proper (row_turn i + 2) (λ j m. bound) (λ j. Field i (bound_byte + j)) (λ j hj. (omega arith, omega arith)) (λ j m. bound_clear) z.resources 0 (omega arith) (omega arith) (sooner (omega arith) h)))
      (sooner (omega arith) h)

  operands_proper : {n : ℕ} (i k : ℕ) {f : Format} → i < max_rows → n ≤ row_turn i + (2 + max_resources) → Proper (row_turn i + row_bytes) f → Proper n (operand_fields z i k f)
  unfolding operand_fields
  operands_proper i k hi l h =
      number_field (sep_small (binary k) comma line_end (lit< tt) (lit< tt)) (omega arith) (omega arith)
      (λ v _ _. either_proper (binary k)
      (number_field (lit< tt) (omega arith) (omega arith) (λ w _ _. sooner (omega arith) h))
      (sooner (omega arith) h))

  rows_proper : {n : ℕ} (left i : ℕ) {f : Format} → i + left ≤ max_rows → n ≤ row_turn i → Proper (row_turn max_rows) f → Proper n (row_lines z left i f)
  unfolding row_lines row_line
  rows_proper zero i hi l h = sooner (omega arith) h
  rows_proper {n} (suc left) i {f} hi l h =
      clear_field kind_clear (omega arith) (omega arith)
      (λ k _. team_proper i k (omega arith) (omega arith)
      (operands_proper i k (omega arith) (omega arith) (rows_proper {n = row_turn i + row_bytes} left (suc i) (omega arith) (omega arith) h)))

size_proper : {n : ℕ} (sep f high : ℕ) {k : ℕ → Format} → sep < 48 → n ≤ f → f < header_bytes → ((v : ℕ) → v ≤ high → Proper (suc f) (k v)) → Proper n (size sep f high k)
unfolding size
size_proper sep f high hs l h g = number_field hs l h (λ v _ m. g v (omega arith))

header_proper : (e : Edition) {f : Sizes → Format} → ((z : Sizes) → Small z → Proper (state_turn 0) (f z)) → Proper 0 (header_line e f)
unfolding header_line
header_proper e h =
    past
    (size_proper comma 0 max_agents (lit< tt) (omega arith) (omega arith) λ n hn.
    size_proper comma 1 max_resources (lit< tt) (omega arith) (omega arith) λ r hr.
    size_proper comma 2 max_states (lit< tt) (omega arith) (omega arith) λ m hm.
    size_proper comma 3 max_propositions (lit< tt) (omega arith) (omega arith) λ p hp.
    size_proper (sizes_end e) 4 max_rows (end_small e (lit< tt)) (omega arith) (omega arith) λ w hw.
    collect_proper (λ left j. value (resource_spelling e left) (ResourceKind j)) (λ j. header_bytes + j) max_resources (λ j hj. omega arith)
    (λ m left j f hj l g. clear_field (resource_clear e left) l (omega arith) (λ v _. sooner (omega arith) (g v))) r 0 no_kinds (omega arith) (omega arith)
    (λ kinds. h _ (record { agents_small = hn; resources_small = hr; states_small = hm; rows_small = hw })))

pub job_proper : (e : Edition) → Proper 0 (job e)
unfolding job
job_proper e = header_proper e λ z small.
    states_proper z small z.states 0 (omega arith) (omega arith) (rows_proper z small z.rows 0 (omega arith) (omega arith) done)
