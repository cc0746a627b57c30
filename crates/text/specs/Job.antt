-- The text of a job (document 01, "The text"; document 02, R-3 and R-7), line kind by line kind. Each line is described once, for the writer and
-- the reader, and for both editions; where they differ, by_edition shows it.
use Rattle.std.specs.Prelude.{Bool, true, false, cond, not, List, [], ◌∷◌, ◌++◌, ℕ, zero, suc, ◌+◌, ◌-◌, ◌^◌, ltb, leb, eqb, get_or, set, replicate}
use Rattle.block.specs.Layout.{max_agents, max_resources, max_states, max_propositions, max_rows, max_actions, max_units, max_joint, agents_byte, resources_byte, states_byte, propositions_byte, rows_byte, kind_byte, left_byte, right_byte, team_byte, bound_byte, unlimited, byte_values, charge_byte, sum_kind, max_kind, prop_kind, or_kind, next_kind, until_kind, kinds, digit}
use Rattle.block.specs.declared.layout.Place.{Place}
use Rattle.block.specs.declared.layout.Place.TheVariants.{Header, Mask, Count, Cost, Next, Field, ResourceKind}
use Rattle.block.specs.declared.refusal.Refusal.{Refusal}
use Rattle.block.specs.declared.refusal.Refusal.TheVariants as refusal
use Rattle.text.specs.declared.sizes.Edition.{Edition}
use Rattle.text.specs.declared.sizes.Edition.TheVariants.{First, Second}
use Rattle.text.specs.declared.sizes.Sizes.{Sizes}
use Rattle.text.specs.Numeral.{ascii, comma, line_end, minus, numbers, decimal}
use Rattle.text.specs.Format.{Spelling, Format, end, exactly, value}

abbrev pub both : Bool → Bool → Bool
both a b = cond a b false

abbrev pub either : Bool → Bool → Bool
either a b = cond a true b

-- what stands in edition 1, and in edition 2
abbrev pub by_edition : {A : Type 0} → Edition → A → A → A
by_edition First x y = x
by_edition Second x y = y

-- a number, 0 to 255 by its form, that must be from low to below limit
abbrev pub number : ℕ → ℕ → ℕ → Refusal → Spelling
number sep low limit r = record {
  options = numbers;
  spell = λ n. decimal n ++ sep ∷ [];
  byte = λ n. n;
  allowed = λ n. both (leb low n) (ltb n limit);
  refusal = λ n. r;
  chosen = λ v. v;
}

-- the spellings of a bound: the numbers, then inf, then nothing
abbrev pub inf_bound : ℕ
inf_bound = numbers

abbrev pub empty_bound : ℕ
empty_bound = suc inf_bound

abbrev pub bound_spellings : ℕ
bound_spellings = suc empty_bound

-- one of three, as a spelling is a number, inf or nothing
abbrev pub bound_case : {A : Type 0} → A → A → A → ℕ → A
bound_case number inf nothing o = cond (ltb o numbers) number (cond (eqb o inf_bound) inf nothing)

unfoldable pub bound_field : ℕ → List ℕ
bound_field o = bound_case (decimal o) (ascii "inf") [] o

-- a bound: a number from 0 to 15, inf for unlimited, or nothing for 0 (document 02, R-2)
abbrev pub bound : Spelling
bound = record {
  options = bound_spellings;
  spell = λ o. bound_field o ++ comma ∷ [];
  byte = λ o. bound_case o unlimited 0 o;
  allowed = λ o. either (ltb o (suc max_units)) (leb inf_bound o);
  refusal = λ o. refusal.Row;
  chosen = λ v. cond (eqb v unlimited) inf_bound v;
}

-- the words of the rows, in the order of their kinds
unfoldable pub kind_word : ℕ → List ℕ
kind_word k = get_or (ascii "prop," ∷ ascii "not," ∷ ascii "or," ∷ ascii "next," ∷ ascii "always," ∷ ascii "until," ∷ []) k []

abbrev pub kind_spelling : Spelling
kind_spelling = record {
  options = kinds;
  spell = kind_word;
  byte = λ k. k;
  allowed = λ k. true;
  refusal = λ k. refusal.Row;
  chosen = λ v. v;
}

-- a number that is known: a state, an agent, an action
unfoldable pub index : ℕ → Format → Format
index n f = exactly (decimal n ++ comma ∷ []) f

-- a mask has no bit at or above P
abbrev pub mask_spelling : Sizes → Spelling
mask_spelling z = number line_end 0 (2 ^ z.propositions) refusal.State

-- state,s,mask
unfoldable pub state_line : Sizes → ℕ → Format → Format
state_line z s f = exactly (ascii "state,") (index s (value (mask_spelling z) (Mask s) (λ m. f)))

-- a field of a list with left further ones: the last is followed by the line's end
abbrev pub list_end : ℕ → ℕ
list_end left = cond (eqb left 0) line_end comma

-- the spellings of a cost: the numbers, and after them in edition 2 the charges, each a minus before a number that is not 0 (document 02, R-7)
abbrev pub last_number : ℕ
last_number = numbers - 1

abbrev pub cost_spellings : Edition → ℕ
cost_spellings e = by_edition e numbers (numbers + last_number)

-- the number after the minus
abbrev pub charge : ℕ → ℕ
charge o = o - last_number

-- one of two, as a spelling is a number or a charge
abbrev pub cost_case : {A : Type 0} → A → A → ℕ → A
cost_case number charge o = cond (ltb o numbers) number charge

unfoldable pub cost_field : ℕ → List ℕ
cost_field o = cost_case (decimal o) (minus ∷ decimal (charge o)) o

-- the units that a cost takes or gives
abbrev pub cost_units : ℕ → ℕ
cost_units o = cost_case o (charge o) o

-- they are 0 to 15, and idle's are 0
abbrev pub cost_limit : ℕ → ℕ
cost_limit k = cond (eqb k 0) 1 (suc max_units)

-- a cost of action k in a resource of a kind, with left further costs on its line. Units out of range are number 3, and a charge on a max
-- resource that is in range is number 13
abbrev pub cost_spelling : Edition → ℕ → ℕ → ℕ → Spelling
cost_spelling e kind k left = record {
  options = cost_spellings e;
  spell = λ o. cost_field o ++ list_end left ∷ [];
  byte = λ o. cost_case o (byte_values - charge o) o;
  allowed = λ o. both (ltb (cost_units o) (cost_limit k)) (cost_case true (not (eqb kind max_kind)) o);
  refusal = λ o. cond (ltb (cost_units o) (cost_limit k)) refusal.Charge refusal.State;
  chosen = λ v. cond (ltb v charge_byte) v (last_number + (byte_values - v));
}

-- a field for each of n resources from resource j on, each spelled by its resource and by how many follow it
unfoldable pub each_resource : (ℕ → ℕ → Spelling) → (ℕ → Place) → ℕ → ℕ → Format → Format
each_resource spelling place zero j f = f
each_resource spelling place (suc n) j f = value (spelling j n) (place j) (λ v. each_resource spelling place n (suc j) f)

-- the costs of action k from resource j on: m of them, and then n further actions
abbrev pub costs : Sizes → ℕ → ℕ → ℕ → ℕ → ℕ → ℕ → Format → Format
costs z s a n k = each_resource (λ j m. cost_spelling z.edition (get_or z.kinds j sum_kind) k (n + m)) (Cost s a k)

-- n actions from action k on
unfoldable pub actions : Sizes → ℕ → ℕ → ℕ → ℕ → Format → Format
actions z s a zero k f = f
actions z s a (suc n) k f = costs z s a n k z.resources 0 (actions z s a n (suc k) f)

-- a count is 1 to 4
abbrev pub count_spelling : Spelling
count_spelling = number comma 1 (suc max_actions) refusal.State

-- acts,s,a,count, and the costs, action by action, resource by resource
unfoldable pub acts_line : Sizes → ℕ → ℕ → (ℕ → Format) → Format
acts_line z s a f =
    exactly (ascii "acts,") (index s (index a (value count_spelling (Count s a) (λ c. actions z s a c 0 (f c)))))

-- n parts from part j on, each given how many follow it; each tells a number, and what comes after depends on the list of these numbers
unfoldable pub collect : (ℕ → ℕ → (ℕ → Format) → Format) → ℕ → ℕ → List ℕ → (List ℕ → Format) → Format
collect part zero j told f = f told
collect part (suc n) j told f = part n j (λ v. collect part n (suc j) (set told j v) f)

-- n agents from agent a on; counts are how many actions each agent has
abbrev pub agent_lines : Sizes → ℕ → ℕ → ℕ → List ℕ → (List ℕ → Format) → Format
agent_lines z s = collect (λ left a. acts_line z s a)

-- the joint action can be done with these counts
unfoldable pub possible : List ℕ → ℕ → Bool
possible counts joint = both (ltb (digit joint 0) (get_or counts 0 0)) (both (ltb (digit joint 1) (get_or counts 1 0)) (ltb (digit joint 2) (get_or counts 2 0)))

-- the actions of n agents from agent a on
unfoldable pub joint_fields : ℕ → ℕ → ℕ → Format → Format
joint_fields joint zero a f = f
joint_fields joint (suc n) a f = index (digit joint a) (joint_fields joint n (suc a) f)

-- each agent does its last action: no later joint action can be done
unfoldable pub last_joint : List ℕ → ℕ → Bool
last_joint counts joint =
    both (eqb (digit joint 0 + 1) (get_or counts 0 0)) (both (eqb (digit joint 1 + 1) (get_or counts 1 0)) (eqb (digit joint 2 + 1) (get_or counts 2 0)))

-- the byte after a next state: edition 1 has a line for each, edition 2 one for all of a state
abbrev pub next_end : Edition → List ℕ → ℕ → ℕ
next_end e counts joint = by_edition e line_end (cond (last_joint counts joint) line_end comma)

-- a next state is one of the job's
abbrev pub next_spelling : Sizes → List ℕ → ℕ → Spelling
next_spelling z counts joint = number (next_end z.edition counts joint) 0 z.states refusal.Next

-- go,s,
unfoldable pub go_word : ℕ → Format → Format
go_word s f = exactly (ascii "go,") (index s f)

-- go,s, and one action per agent, where the line is that of one joint action
unfoldable pub go_actions : Sizes → ℕ → ℕ → Format → Format
go_actions z s joint f = by_edition z.edition (go_word s (joint_fields joint z.agents 0 f)) f

-- go,s, where the line is that of the state
unfoldable pub go_state : Sizes → ℕ → Format → Format
go_state z s f = by_edition z.edition f (go_word s f)

-- the next state of a joint action, and those of the n joint actions from joint on that can be done
unfoldable pub next_field : Sizes → ℕ → List ℕ → ℕ → Format → Format
next_field z s counts joint f = go_actions z s joint (value (next_spelling z counts joint) (Next s joint) (λ q. f))

unfoldable pub next_fields : Sizes → ℕ → List ℕ → ℕ → ℕ → Format → Format
next_fields z s counts zero joint f = f
next_fields z s counts (suc n) joint f =
    cond (possible counts joint) (next_field z s counts joint (next_fields z s counts n (suc joint) f)) (next_fields z s counts n (suc joint) f)

-- an agent that does not exist can only do 0
abbrev pub no_counts : List ℕ
no_counts = 1 ∷ 1 ∷ 1 ∷ []

-- the lines of a state, and of n states from s on
unfoldable pub state_lines : Sizes → ℕ → Format → Format
state_lines z s f = state_line z s (agent_lines z s z.agents 0 no_counts (λ counts. go_state z s (next_fields z s counts max_joint 0 f)))

unfoldable pub states : Sizes → ℕ → ℕ → Format → Format
states z zero s f = f
states z (suc n) s f = state_lines z s (states z n (suc s) f)

abbrev pub strategic : ℕ → Bool
strategic k = both (leb next_kind k) (leb k until_kind)

abbrev pub binary : ℕ → Bool
binary k = either (eqb k or_kind) (eqb k until_kind)

-- n bounds from resource j on
abbrev pub bound_fields : ℕ → ℕ → ℕ → Format → Format
bound_fields i = each_resource (λ j m. bound) (λ j. Field i (bound_byte + j))

-- a team is a mask of agents, never 0
abbrev pub team_spelling : Sizes → Spelling
team_spelling z = number comma 1 (2 ^ z.agents) refusal.Row

-- the team and the bounds of a strategic row
unfoldable pub team_fields : Sizes → ℕ → ℕ → Format → Format
team_fields z i k f =
    cond (strategic k) (value (team_spelling z) (Field i team_byte) (λ t. bound_fields i z.resources 0 f)) f

-- left and right of row i, of kind k: a proposition, or lower rows
abbrev pub left_spelling : Sizes → ℕ → ℕ → Spelling
left_spelling z i k = number (cond (binary k) comma line_end) 0 (cond (eqb k prop_kind) z.propositions i) refusal.Row

abbrev pub right_spelling : ℕ → Spelling
right_spelling i = number line_end 0 i refusal.Row

-- the proposition or lower row, and the right row where the kind has one
unfoldable pub operand_fields : Sizes → ℕ → ℕ → Format → Format
operand_fields z i k f =
    value (left_spelling z i k) (Field i left_byte) (λ l. cond (binary k) (value (right_spelling i) (Field i right_byte) (λ r. f)) f)

-- a row: its word, team and bounds, operands; and n rows from row i on
unfoldable pub row_line : Sizes → ℕ → Format → Format
row_line z i f = value kind_spelling (Field i kind_byte) (λ k. team_fields z i k (operand_fields z i k f))

unfoldable pub row_lines : Sizes → ℕ → ℕ → Format → Format
row_lines z zero i f = f
row_lines z (suc n) i f = row_line z i (row_lines z n (suc i) f)

-- a size, 1 to high
abbrev pub size_spelling : ℕ → ℕ → Spelling
size_spelling sep high = number sep 1 (suc high) refusal.Sizes

unfoldable pub size : ℕ → ℕ → ℕ → (ℕ → Format) → Format
size sep f high k = value (size_spelling sep high) (Header f) k

-- the words of the resources, in the order of their kinds
unfoldable pub resource_word : ℕ → List ℕ
resource_word k = get_or (ascii "sum" ∷ ascii "max" ∷ []) k []

-- the kind of a resource, before left further ones. Edition 1 has no word for it, and each is sum
abbrev pub resource_spelling : Edition → ℕ → Spelling
resource_spelling e left = record {
  options = by_edition e (suc sum_kind) (suc max_kind);
  spell = λ k. by_edition e [] (resource_word k ++ list_end left ∷ []);
  byte = λ k. k;
  allowed = λ k. true;
  refusal = λ k. refusal.Sizes;
  chosen = λ v. v;
}

-- the kinds of n resources from resource j on
abbrev pub resource_fields : Edition → ℕ → ℕ → List ℕ → (List ℕ → Format) → Format
resource_fields e = collect (λ left j. value (resource_spelling e left) (ResourceKind j))

-- the kinds before any is told
abbrev pub no_kinds : List ℕ
no_kinds = replicate max_resources sum_kind

-- the first word, and the byte after F, which the kinds follow in edition 2
abbrev pub job_word : Edition → List ℕ
job_word e = by_edition e (ascii "job,") (ascii "job2,")

abbrev pub sizes_end : Edition → ℕ
sizes_end e = by_edition e line_end comma

-- job,N,R,M,P,F and the kinds, then the states and the rows
unfoldable pub header_line : Edition → (Sizes → Format) → Format
header_line e f =
    exactly (job_word e)
    (size comma agents_byte max_agents λ n.
    size comma resources_byte max_resources λ r.
    size comma states_byte max_states λ m.
    size comma propositions_byte max_propositions λ p.
    size (sizes_end e) rows_byte max_rows λ w.
    resource_fields e r 0 no_kinds λ kinds.
    f (record { edition = e; agents = n; resources = r; states = m; propositions = p; rows = w; kinds = kinds }))

unfoldable pub job : Edition → Format
job e = header_line e (λ z. states z z.states 0 (row_lines z z.rows 0 end))
