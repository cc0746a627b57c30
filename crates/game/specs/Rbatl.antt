-- RB-ATL: document 003, sections 2.1 to 2.3, over any structure, with the costs of document 001, which may also give (document 02, R-7). Agents,
-- resources, states, propositions and actions are numbered from 0.
use Rattle.std.specs.Prelude.{Bool, cond, List, [], ◌∷◌, ◌⊎◌, ◌≡◌, ℕ, zero, suc, ◌+◌, ◌-◌, ◌≤◌, ◌<◌, min, T}

-- section 2: a resource bound is a number or infinite
pub data Bound : Type 0 where
  limit : ℕ → Bound
  unlimited : Bound

-- n ≤ b, where every number is at most the infinite bound
abbrev pub Fits : ℕ → Bound → Type 0
Fits n (limit b) = n ≤ b
Fits n unlimited = Unit {0}

-- the largest stock, which a bound grants; that of an unlimited resource is 0
abbrev pub full_stock : Bound → ℕ
full_stock (limit n) = n
full_stock unlimited = 0

-- a stock s pays a move that takes c and gives g: its cost, c less g, is at most s. An unlimited resource binds nothing
abbrev pub Pays : Bound → ℕ → ℕ → ℕ → Type 0
Pays (limit n) s c g = c ≤ s + g
Pays unlimited s c g = Unit {0}

-- the stock afterwards: less the cost, but never above the bound
abbrev pub remaining : Bound → ℕ → ℕ → ℕ → ℕ
remaining (limit n) s c g = min n (s + g - c)
remaining unlimited s c g = 0

abbrev pub Coalition : Type 0
Coalition = ℕ → Bool

-- a bound for each resource
abbrev pub Bounds : Type 0
Bounds = ℕ → Bound

-- section 2.1
pub data Formula : Type 0 where
  prop : ℕ → Formula
  not : Formula → Formula
  or : Formula → Formula → Formula
  next always : Coalition → Bounds → Formula → Formula
  until : Coalition → Bounds → Formula → Formula → Formula

-- one action for each agent
abbrev pub Joint : Type 0
Joint = ℕ → ℕ

-- definition 1: a resource-bounded concurrent game structure
pub record Structure : Type 0 where
  pub agents : ℕ
  pub resources : ℕ
  pub states : ℕ
  -- a proposition holds in a state
  pub holds : ℕ → ℕ → Bool
  -- how many actions an agent has in a state
  pub actions : ℕ → ℕ → ℕ
  -- in a state, what an agent's action takes of a resource, and what it gives (document 001's production; a charge, in document 02). Its cost is
  -- the one less the other
  pub cost : ℕ → ℕ → ℕ → ℕ → ℕ
  pub charge : ℕ → ℕ → ℕ → ℕ → ℕ
  -- in a resource, what the costs of two agents of a coalition come to in one move; document 003 adds them. Charges are always added
  pub combine : ℕ → ℕ → ℕ → ℕ
  -- the next state, when each agent does its action
  pub next : ℕ → Joint → ℕ

-- a finite computation, its latest state first
abbrev pub History : Type 0
History = List ℕ

abbrev pub Computation : Type 0
Computation = ℕ → ℕ

-- the first n + 1 states of a computation
abbrev pub prefix : Computation → ℕ → History
prefix λs zero = λs zero ∷ []
prefix λs (suc n) = λs (suc n) ∷ prefix λs n

abbrev pub Strategy : Type 0
Strategy = History → Joint

module _ (S : Structure) where
  -- definition 1, D(q): each agent's action is one that it has
  abbrev pub Available : ℕ → Joint → Type 0
  Available q m = (a : ℕ) → a < S.agents → m a < S.actions q a

  -- no action gives anything, as in document 003
  abbrev pub Uncharged : Type 0
  Uncharged = (q a k r : ℕ) → q < S.states → a < S.agents → k < S.actions q a → r < S.resources → S.charge q a k r ≡ 0

  module _ (A : Coalition) where
    -- definition 2: a move of A, which is what a joint action has for A's agents
    abbrev pub IsMove : ℕ → Joint → Type 0
    IsMove q σ = (a : ℕ) → a < S.agents → T (A a) → σ a < S.actions q a

    -- m is σ for A's agents
    abbrev pub Agree : Joint → Joint → Type 0
    Agree m σ = (a : ℕ) → a < S.agents → T (A a) → m a ≡ σ a

    -- q' is in out(q, σ)
    abbrev pub Outcome : ℕ → Joint → ℕ → Type 0
    Outcome q σ q' = (m : Joint) × Available q m × Agree m σ × (S.next q m ≡ q')

    -- the cost of a move: the costs of A's agents combined, here of those among the first n
    abbrev pub cost_up_to : ℕ → ℕ → Joint → ℕ → ℕ
    cost_up_to zero q σ r = 0
    cost_up_to (suc n) q σ r = cond (A n) (S.combine r (cost_up_to n q σ r) (S.cost q n (σ n) r)) (cost_up_to n q σ r)

    abbrev pub move_cost : ℕ → Joint → ℕ → ℕ
    move_cost q σ r = cost_up_to S.agents q σ r

    -- a sum over A's agents, here over those among the first n
    abbrev pub sum_up_to : ℕ → (ℕ → ℕ) → ℕ
    sum_up_to zero f = 0
    sum_up_to (suc n) f = sum_up_to n f + cond (A n) (f n) 0

    -- definition 2's own cost, the sum over A's agents: move_cost where the structure adds (proofs/Bridge/Costs, `sum_cost_lem`)
    abbrev pub sum_cost : ℕ → Joint → ℕ → ℕ
    sum_cost q σ r = sum_up_to S.agents (λ a. S.cost q a (σ a) r)

    -- what a move gives: the charges of A's agents
    abbrev pub move_charge : ℕ → Joint → ℕ → ℕ
    move_charge q σ r = sum_up_to S.agents (λ a. S.charge q a (σ a) r)

    -- definition 3: a move of A for each sequence that ends in q
    abbrev pub IsStrategy : Strategy → Type 0
    IsStrategy F = (q : ℕ) (h : History) → q < S.states → IsMove q (F (q ∷ h))

    abbrev pub Consistent : Strategy → Computation → Type 0
    Consistent F λs = (i : ℕ) → Outcome (λs i) (F (prefix λs i)) (λs (suc i))

    -- what is left of a resource after the first n moves of F, from a stock that is at first `start` and never above b
    abbrev pub stock_after : Bounds → (ℕ → ℕ) → Strategy → Computation → ℕ → ℕ → ℕ
    stock_after b start F λs zero r = start r
    stock_after b start F λs (suc n) r =
        remaining (b r) (stock_after b start F λs n r) (move_cost (λs n) (F (prefix λs n)) r) (move_charge (λs n) (F (prefix λs n)) r)

    -- F keeps within the stock `start` under the bound b: along every computation that it allows, from every state, each of its moves is
    -- affordable from the stock then left
    abbrev pub KeepsFrom : Bounds → (ℕ → ℕ) → Strategy → Type 0
    KeepsFrom b start F =
        (λs : Computation) → λs 0 < S.states → Consistent F λs → (n r : ℕ) → r < S.resources
        → Pays (b r) (stock_after b start F λs n r) (move_cost (λs n) (F (prefix λs n)) r) (move_charge (λs n) (F (prefix λs n)) r)

    -- and within the bound itself, at which the stock starts
    abbrev pub Within : Bounds → Strategy → Type 0
    Within b = KeepsFrom b (λ r. full_stock (b r))

    -- the cost of F over the first n moves of a computation
    abbrev pub spent : Strategy → Computation → ℕ → ℕ → ℕ
    spent F λs zero r = 0
    spent F λs (suc n) r = spent F λs n r + move_cost (λs n) (F (prefix λs n)) r

    -- definition 4: F is a b-strategy. Every prefix of every computation, from every state, costs at most b. Where no action gives anything this is
    -- Within (proofs/Bridge/Uncharged, `uncharged_within`)
    abbrev pub SpendsWithin : Bounds → Strategy → Type 0
    SpendsWithin b F = (λs : Computation) → λs 0 < S.states → Consistent F λs → (n r : ℕ) → r < S.resources → Fits (spent F λs n r) (b r)

    -- some strategy of A that keeps within b makes the property true of every computation from q
    abbrev pub CanBy : (Bounds → Strategy → Type 0) → Bounds → (Computation → Type 0) → ℕ → Type 0
    CanBy Keeps b property q = (F : Strategy) × IsStrategy F × Keeps b F × ((λs : Computation) → λs 0 ≡ q → Consistent F λs → property λs)

    abbrev pub Can : Bounds → (Computation → Type 0) → ℕ → Type 0
    Can = CanBy Within

-- section 2.3: the second state; every state; some state with all earlier ones
abbrev pub NextOn : (ℕ → Type 0) → Computation → Type 0
NextOn left λs = left (λs 1)

abbrev pub AlwaysOn : (ℕ → Type 0) → Computation → Type 0
AlwaysOn left λs = (i : ℕ) → left (λs i)

abbrev pub UntilOn : (ℕ → Type 0) → (ℕ → Type 0) → Computation → Type 0
UntilOn left right λs = (i : ℕ) × right (λs i) × ((j : ℕ) → j < i → left (λs j))

-- section 2.3, by what it is to keep within a bound. Its second wording of next leaves the cost out; the first stands here, and its strategy
-- is within b
abbrev pub SatBy : (Structure → Coalition → Bounds → Strategy → Type 0) → Structure → Formula → ℕ → Type 0
SatBy Keeps S (prop p) q = T (S.holds p q)
SatBy Keeps S (not φ) q = SatBy Keeps S φ q → ⊥
SatBy Keeps S (or φ ψ) q = SatBy Keeps S φ q ⊎ SatBy Keeps S ψ q
SatBy Keeps S (next A b φ) q = CanBy S A (Keeps S A) b (NextOn (SatBy Keeps S φ)) q
SatBy Keeps S (always A b φ) q = CanBy S A (Keeps S A) b (AlwaysOn (SatBy Keeps S φ)) q
SatBy Keeps S (until A b φ ψ) q = CanBy S A (Keeps S A) b (UntilOn (SatBy Keeps S φ) (SatBy Keeps S ψ)) q

abbrev pub Sat : Structure → Formula → ℕ → Type 0
Sat = SatBy Within

-- document 003's own truth, by its definition 4. Where no action gives anything this is Sat (proofs/Bridge/Uncharged, `uncharged_sat`)
abbrev pub SpendingSat : Structure → Formula → ℕ → Type 0
SpendingSat = SatBy SpendsWithin
