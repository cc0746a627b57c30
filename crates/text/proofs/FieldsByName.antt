-- The fields of a block's text, line kind by line kind: what holds of every field of the format (Formats' Every) holds of each by its name, and the other way round.
-- Assumes nothing.
use mathlib.Core.Bool.{Bool, true, false, cond}
use mathlib.Core.List.{List}
use mathlib.Core.Logic.Iff
use mathlib.Core.Logic.{⊎_elim, ◌↔◌}
use mathlib.Core.Path.{◌≡◌, refl, subst}
use Prim.Native.Nat.{ℕ, zero, suc, ◌+◌, ◌-◌, ◌≤◌, ◌<◌}
use native.Mathlib.Nat.{eq-or-lt_of_le}
use native.Mathlib.Omega.{arith}
use lib.Dec.{T}
use lib.ListN.{get_or}
use Rattle.block.specs.Layout.{Block, max_joint, max_agents, max_resources, max_states, max_propositions, max_rows, bound_byte, sum_kind, agents, resources, states, propositions, rows, count, kind, resource_kind}
use Rattle.block.specs.declared.layout.Place.{Place}
use Rattle.block.specs.declared.layout.Place.TheVariants.{Header, Mask, Count, Cost, Next, Field, ResourceKind}
use Rattle.text.specs.declared.sizes.Edition.{Edition}
use Rattle.text.specs.declared.sizes.Edition.TheVariants.{First, Second}
use Rattle.text.specs.declared.sizes.Sizes.{Sizes}
use Rattle.text.specs.Inner.Fields.{collected, counts_to, kinds_to, sizes_of}
use Rattle.text.specs.Numeral.{comma}
use Rattle.text.specs.Format.{Spelling, Format, end, value}
use Rattle.text.specs.Job.{bound, kind_spelling, index, mask_spelling, state_line, cost_spelling, each_resource, actions, count_spelling, acts_line, collect, agent_lines, possible, joint_fields, by_edition, next_spelling, go_word, go_actions, go_state, next_field, next_fields, no_counts, state_lines, states as allStates, strategic, binary, team_spelling, team_fields, left_spelling, right_spelling, operand_fields, row_line, row_lines, size_spelling, size, resource_spelling, resource_fields, no_kinds, sizes_end, header_line, job}
use Rattle.text.proofs.Formats.{Every}

-- Q holds of each number from j to below e
abbrev pub Between : ℕ → ℕ → (ℕ → Type 0) → Type 0
Between j e Q = (i : ℕ) → j ≤ i → i < e → Q i

loop_end : {j e : ℕ} {Q : ℕ → Type 0} {R : Type 0} → e ≤ j → R ↔ (Between j e Q × R)
loop_end l = (λ r. (λ i h g. absurd (omega arith), r), λ p. p.1)

loop_step : {j e : ℕ} {Q : ℕ → Type 0} {X B R : Type 0} → j < e → X ↔ (Q j × B) → B ↔ (Between (suc j) e Q × R) → X ↔ (Between j e Q × R)
loop_step {j} {e} {Q} {X} {R = R} l body rest = (there, back)
  where
    there : X → Between j e Q × R
    there x =
        let (q, b) = body.0 x in
        let (f, r) = rest.0 b in
        (λ i h g. ⊎_elim (λ s. subst Q s q) (λ s. f i s g) (eq-or-lt_of_le h), r)

    back : Between j e Q × R → X
    back p = body.1 (p.0 j (omega arith) l, rest.1 (λ i h g. p.0 i (omega arith) g, p.1))

module _ (P : Spelling → Place → Type 0) (b : Block) where
  -- the field of resource j, where resources up to r follow
  abbrev ResourceField : (ℕ → ℕ → Spelling) → (ℕ → Place) → ℕ → ℕ → Type 0
  ResourceField spelling place r j = P (spelling j (r - suc j)) (place j)

  each_every : (spelling : ℕ → ℕ → Spelling) (place : ℕ → Place) (r left j : ℕ) (f : Format) → j + left ≡ r → Every P (each_resource spelling place left j f) b ↔ (Between j r (ResourceField spelling place r) × Every P f b)
  unfolding each_resource
  each_every spelling place r zero j f e = loop_end (omega arith)
  each_every spelling place r (suc left) j f e =
      let last : left ≡ r - suc j = omega arith in
      loop_step (omega arith) (rw last Iff.rfl) (each_every spelling place r left (suc j) f (omega arith))

  -- parts that each tell a number, the value of which their block has
  collect_every : (part : ℕ → ℕ → (ℕ → Format) → Format) (number : ℕ → ℕ) (none : List ℕ) (n : ℕ) {Q : ℕ → Type 0} →
      ((left j : ℕ) (f : ℕ → Format) → left ≡ n - suc j → Every P (part left j f) b ↔ (Q j × Every P (f (number j)) b)) →
      (left j : ℕ) (f : List ℕ → Format) → j + left ≡ n → Every P (collect part left j (collected number none j) f) b ↔ (Between j n Q × Every P (f (collected number none n)) b)
  unfolding collect
  collect_every part number none n body zero j f e = let all : j ≡ n = omega arith in rw all (loop_end (omega arith))
  collect_every part number none n body (suc left) j f e =
      loop_step (omega arith) (body left j _ (omega arith)) (collect_every part number none n body left (suc j) f (omega arith))

  -- the cost of action k in resource j, where left further actions and the other resources follow
  abbrev CostField : Sizes → ℕ → ℕ → ℕ → ℕ → ℕ → Type 0
  CostField z s a left k = ResourceField (λ j m. cost_spelling z.edition (get_or z.kinds j sum_kind) k (left + m)) (Cost s a k) z.resources

  abbrev CountFields : Sizes → ℕ → ℕ → Type 0
  CountFields z s a =
      P count_spelling (Count s a) × Between 0 (count b s a) (λ k. Between 0 z.resources (CostField z s a (count b s a - suc k) k))

  actions_every : (z : Sizes) (s a c left k : ℕ) (f : Format) → k + left ≡ c →
      Every P (actions z s a left k f) b ↔ (Between k c (λ i. Between 0 z.resources (CostField z s a (c - suc i) i)) × Every P f b)
  unfolding actions
  actions_every z s a c zero k f e = loop_end (omega arith)
  actions_every z s a c (suc left) k f e =
      let last : left ≡ c - suc k = omega arith in
      loop_step (omega arith)
      (rw last (each_every (λ j m. cost_spelling z.edition (get_or z.kinds j sum_kind) k (c - suc k + m)) (Cost s a k) z.resources z.resources 0 _ (omega arith)))
      (actions_every z s a c left (suc k) f (omega arith))

  acts_every : (z : Sizes) (s a : ℕ) (f : ℕ → Format) → Every P (acts_line z s a f) b ↔ (CountFields z s a × Every P (f (count b s a)) b)
  unfolding acts_line index
  acts_every z s a f =
      let acts = actions_every z s a (count b s a) (count b s a) 0 (f (count b s a)) (omega arith) in
      (λ x. ((x.0, (acts.0 x.1).0), (acts.0 x.1).1), λ y. (y.0.0, acts.1 (y.0.1, y.1)))

  agents_every : (z : Sizes) (s n : ℕ) (f : List ℕ → Format) →
      Every P (agent_lines z s n 0 no_counts f) b ↔ (Between 0 n (CountFields z s) × Every P (f (counts_to b s n)) b)
  agents_every z s n f = collect_every (λ left a. acts_line z s a) (count b s) no_counts n (λ left a g e. acts_every z s a g) n 0 f (omega arith)

  abbrev KindField : Edition → ℕ → ℕ → Type 0
  KindField e r j = P (resource_spelling e (r - suc j)) (ResourceKind j)

  kinds_every : (e : Edition) (r : ℕ) (f : List ℕ → Format) → Every P (resource_fields e r 0 no_kinds f) b ↔ (Between 0 r (KindField e r) × Every P (f (kinds_to b r)) b)
  kinds_every e r f =
      collect_every (λ left j. value (resource_spelling e left) (ResourceKind j)) (resource_kind b) no_kinds r (λ left j g e. rw e Iff.rfl) r 0 f (omega arith)

  joint_every : (joint left a : ℕ) (f : Format) → Every P (joint_fields joint left a f) b ↔ Every P f b
  unfolding joint_fields index
  joint_every joint zero a f = Iff.rfl
  joint_every joint (suc left) a f = joint_every joint left (suc a) f

  -- the next state, where the joint action can be done with the counts
  abbrev NextField : Sizes → List ℕ → ℕ → ℕ → Type 0
  NextField z counts s joint = T (possible counts joint) → P (next_spelling z counts joint) (Next s joint)

  -- what stands there only where a test holds
  test_every : (t : Bool) (f g : Format) {Q : Type 0} → Every P f b ↔ (Q × Every P g b) → Every P (cond t f g) b ↔ ((T t → Q) × Every P g b)
  test_every true f g h = (λ x. (λ _. (h.0 x).0, (h.0 x).1), λ y. h.1 (y.0 tt, y.1))
  test_every false f g h = (λ x. (λ q. absurd q, x), λ y. y.1)

  -- the words before the next states
  by_edition_lem : (e : Edition) (f g h : Format) → Every P f b ↔ Every P h b → Every P g b ↔ Every P h b → Every P (by_edition e f g) b ↔ Every P h b
  by_edition_lem First f g h x y = x
  by_edition_lem Second f g h x y = y

  actions_named : (z : Sizes) (s joint : ℕ) (f : Format) → Every P (go_actions z s joint f) b ↔ Every P f b
  unfolding go_actions go_word index
  actions_named z s joint f = by_edition_lem z.edition _ f f (joint_every joint z.agents 0 f) Iff.rfl

  state_named : (z : Sizes) (s : ℕ) (f : Format) → Every P (go_state z s f) b ↔ Every P f b
  unfolding go_state go_word index
  state_named z s f = by_edition_lem z.edition f _ f Iff.rfl Iff.rfl

  next_every : (z : Sizes) (s : ℕ) (counts : List ℕ) (joint : ℕ) (f : Format) →
      Every P (next_field z s counts joint f) b ↔ (P (next_spelling z counts joint) (Next s joint) × Every P f b)
  unfolding next_field
  next_every z s counts joint f = actions_named z s joint (value (next_spelling z counts joint) (Next s joint) (λ q. f))

  nexts_every : (z : Sizes) (s : ℕ) (counts : List ℕ) (n left joint : ℕ) (f : Format) → joint + left ≡ n →
      Every P (next_fields z s counts left joint f) b ↔ (Between joint n (NextField z counts s) × Every P f b)
  unfolding next_fields
  nexts_every z s counts n zero joint f e = loop_end (omega arith)
  nexts_every z s counts n (suc left) joint f e =
      let rest = next_fields z s counts left (suc joint) f in
      loop_step (omega arith) (test_every (possible counts joint) (next_field z s counts joint rest) rest (next_every z s counts joint rest)) (nexts_every z s counts n left (suc joint) f (omega arith))

  abbrev StateFields : Sizes → ℕ → Type 0
  StateFields z s =
      P (mask_spelling z) (Mask s)
      × Between 0 z.agents (CountFields z s)
      × Between 0 max_joint (NextField z (counts_to b s z.agents) s)

  state_every : (z : Sizes) (s : ℕ) (f : Format) → Every P (state_lines z s f) b ↔ (StateFields z s × Every P f b)
  unfolding state_lines state_line index
  state_every z s f =
      let acts = agents_every z s z.agents (λ counts. go_state z s (next_fields z s counts max_joint 0 f)) in
      let counts = counts_to b s z.agents in
      let line = state_named z s (next_fields z s counts max_joint 0 f) in
      let nexts = nexts_every z s counts max_joint max_joint 0 f refl in (
        λ x. let (h, g) = acts.0 x.1 in let (n, r) = nexts.0 (line.0 g) in ((x.0, h, n), r),
        λ y. (y.0.0, acts.1 (y.0.1, line.1 (nexts.1 (y.0.2, y.1)))),
      )

  states_every : (z : Sizes) (n left s : ℕ) (f : Format) → s + left ≡ n → Every P (allStates z left s f) b ↔ (Between s n (StateFields z) × Every P f b)
  unfolding allStates
  states_every z n zero s f e = loop_end (omega arith)
  states_every z n (suc left) s f e = loop_step (omega arith) (state_every z s _) (states_every z n left (suc s) f (omega arith))

  abbrev TeamFields : Sizes → ℕ → Type 0
  TeamFields z i = P (team_spelling z) (Field i 3) × Between 0 z.resources (λ j. P bound (Field i (bound_byte + j)))

  team_every : (z : Sizes) (i k : ℕ) (f : Format) → Every P (team_fields z i k f) b ↔ ((T (strategic k) → TeamFields z i) × Every P f b)
  unfolding team_fields
  team_every z i k f =
      let bounds = each_every (λ j m. bound) (λ j. Field i (bound_byte + j)) z.resources z.resources 0 f (omega arith) in
      test_every (strategic k) _ f (λ x. ((x.0, (bounds.0 x.1).0), (bounds.0 x.1).1), λ y. (y.0.0, bounds.1 (y.0.1, y.1)))

  abbrev LeftField : Sizes → ℕ → ℕ → Type 0
  LeftField z i k = P (left_spelling z i k) (Field i 1)

  abbrev RightField : ℕ → Type 0
  RightField i = P (right_spelling i) (Field i 2)

  operands_every : (z : Sizes) (i k : ℕ) (f : Format) →
      Every P (operand_fields z i k f) b ↔ (LeftField z i k × (T (binary k) → RightField i) × Every P f b)
  unfolding operand_fields
  operands_every z i k f =
      let right = test_every (binary k) (value (right_spelling i) (Field i 2) (λ r. f)) f {Q = RightField i} Iff.rfl in
      (λ x. (x.0, (right.0 x.1).0, (right.0 x.1).1), λ y. (y.0, right.1 (y.1, y.2)))

  abbrev RowFields : Sizes → ℕ → Type 0
  RowFields z i =
      P kind_spelling (Field i 0)
      × (T (strategic (kind b i)) → TeamFields z i)
      × LeftField z i (kind b i)
      × (T (binary (kind b i)) → RightField i)

  rows_every : (z : Sizes) (n left i : ℕ) (f : Format) → i + left ≡ n → Every P (row_lines z left i f) b ↔ (Between i n (RowFields z) × Every P f b)
  unfolding row_lines row_line
  rows_every z n zero i f e = loop_end (omega arith)
  rows_every z n (suc left) i f e =
      let k = kind b i in
      let rest = row_lines z left (suc i) f in
      let team = team_every z i k (operand_fields z i k rest) in
      let operands = operands_every z i k rest in
      loop_step (omega arith) (
        λ x. let (t, o) = team.0 x.1 in let (l, r, g) = operands.0 o in ((x.0, t, l, r), g),
        λ y. (y.0.0, team.1 (y.0.1, operands.1 (y.0.2, y.0.3, y.1))),
      )
      (rows_every z n left (suc i) f (omega arith))

  abbrev SizeField : ℕ → ℕ → ℕ → Type 0
  SizeField sep f high = P (size_spelling sep high) (Header f)

  -- what holds of each field of a block's text in an edition
  pub record Everywhere (e : Edition) : Type 0 where
    pub agents_field : SizeField comma 0 max_agents
    pub resources_field : SizeField comma 1 max_resources
    pub states_field : SizeField comma 2 max_states
    pub propositions_field : SizeField comma 3 max_propositions
    pub rows_field : SizeField (sizes_end e) 4 max_rows
    pub resource_fields_lem : Between 0 (resources b) (KindField e (resources b))
    pub state_fields : Between 0 (states b) (StateFields (sizes_of e b))
    pub row_fields : Between 0 (rows b) (RowFields (sizes_of e b))

  pub job_every : (e : Edition) → Every P (job e) b ↔ Everywhere e
  unfolding job header_line size
  job_every e =
      let z = sizes_of e b in
      let kinds = kinds_every e (resources b) (λ k. let z : Sizes = record { edition = e; agents = agents b; resources = resources b; states = states b; propositions = propositions b; rows = rows b; kinds = k } in allStates z (states b) 0 (row_lines z (rows b) 0 end)) in
      let body = states_every z (states b) (states b) 0 (row_lines z (rows b) 0 end) (omega arith) in
      let lines = rows_every z (rows b) (rows b) 0 end (omega arith) in (
        λ x. let (k, h) = kinds.0 x.1.1.1.1.1 in let (s, g) = body.0 h in record {
          agents_field = x.0;
          resources_field = x.1.0;
          states_field = x.1.1.0;
          propositions_field = x.1.1.1.0;
          rows_field = x.1.1.1.1.0;
          resource_fields_lem = k;
          state_fields = s;
          row_fields = (lines.0 g).0;
        },
        λ y. (y.agents_field, (y.resources_field, (y.states_field, (y.propositions_field, (y.rows_field, kinds.1 (y.resource_fields_lem, body.1 (y.state_fields, lines.1 (y.row_fields, tt)))))))),
      )
