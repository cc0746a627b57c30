-- Positions of a strategic row, its moves and replies, what they cost and where they lead (document 01, "The job" and "When a row is true"; document 02,
-- R-7).
-- Over any structure and any number of resources.
use Rattle.std.specs.Prelude.{cond, not, List, ◌≡◌, ℕ, zero, suc, ◌+◌, ◌*◌, ◌^◌, ◌<◌, get_or}
use Rattle.block.specs.Layout.{digit}
use Rattle.game.specs.Rbatl.{Bound, limit, unlimited, full_stock, Pays, remaining, Coalition, Bounds, Joint, Structure, move_cost, move_charge}

-- where a strategic row is played: by whom and with what bound
pub record Arena : Type 0 where
  pub structure : Structure
  pub coalition : Coalition
  pub bounds : Bounds

-- a state, and for each resource what is left of it
pub record Position : Type 0 where
  pub state : ℕ
  pub stock : ℕ → ℕ

-- a state with the stocks of a list, resource 0 first, and no other stock
abbrev pub position : ℕ → List ℕ → Position
position q stocks = record { state = q; stock = λ r. get_or stocks r 0 }

-- the stock places of a resource: a stock is 0 to its bound, and 0 where unlimited
abbrev pub places : Bound → ℕ
places (limit n) = suc n
places unlimited = 1

-- the number a0 + 4·a1 + 16·a2 of a joint action of n agents
abbrev pub joint : ℕ → Joint → ℕ
joint zero σ = 0
joint (suc n) σ = σ 0 + 4 * joint n (λ a. σ (suc a))

-- A's part of a joint action: 0 for the agents outside A
abbrev pub part : Coalition → Joint → Joint
part A σ a = cond (A a) (σ a) 0

abbrev pub opponents : Coalition → Coalition
opponents A a = not (A a)

-- an action of agent a for an agent of A, and 0 for another
abbrev pub ActsFor : Structure → Coalition → ℕ → ℕ → ℕ → Type 0
ActsFor S A q a k = cond (A a) (k < S.actions q a) (k ≡ 0)

-- m is the number of a move of A in state q
abbrev pub MoveOf : Structure → Coalition → ℕ → ℕ → Type 0
MoveOf S A q m = (m < 4 ^ S.agents) × ((a : ℕ) → a < S.agents → ActsFor S A q a (digit m a))

module _ (G : Arena) where
  abbrev pub IsPosition : Position → Type 0
  IsPosition p = (p.state < G.structure.states) × ((r : ℕ) → r < G.structure.resources → p.stock r < places (G.bounds r))

  -- (state·c0 + stock 0)·c1 + stock 1, here over the first n resources
  abbrev pub number_up_to : ℕ → Position → ℕ
  number_up_to zero p = p.state
  number_up_to (suc n) p = number_up_to n p * places (G.bounds n) + p.stock n

  abbrev pub number : Position → ℕ
  number p = number_up_to G.structure.resources p

  -- how many positions there are
  abbrev pub positions_up_to : ℕ → ℕ
  positions_up_to zero = G.structure.states
  positions_up_to (suc n) = positions_up_to n * places (G.bounds n)

  abbrev pub positions : ℕ
  positions = positions_up_to G.structure.resources

  -- state q at full stock
  abbrev pub full : ℕ → Position
  full q = record { state = q; stock = λ r. full_stock (G.bounds r) }

  -- a move of the coalition, and a reply of all others
  abbrev pub Move : Position → ℕ → Type 0
  Move p m = MoveOf G.structure G.coalition p.state m

  abbrev pub Reply : Position → ℕ → Type 0
  Reply p r = MoveOf G.structure (opponents G.coalition) p.state r

  -- what a move of the coalition takes of a resource, and what it gives: the costs and charges of its own agents alone
  abbrev pub cost : Position → ℕ → ℕ → ℕ
  cost p m r = move_cost G.structure G.coalition p.state (digit m) r

  abbrev pub charge : Position → ℕ → ℕ → ℕ
  charge p m r = move_charge G.structure G.coalition p.state (digit m) r

  abbrev pub Affordable : Position → ℕ → Type 0
  Affordable p m = (r : ℕ) → r < G.structure.resources → Pays (G.bounds r) (p.stock r) (cost p m r) (charge p m r)

  abbrev pub Allowed : Position → ℕ → Type 0
  Allowed p m = Move p m × Affordable p m

  -- where a move and a reply lead; the row's bound stays the ceiling, from whatever stock
  abbrev pub outcome : Position → ℕ → ℕ → Position
  outcome p m r = record {
    state = G.structure.next p.state (digit (m + r));
    stock = λ j. remaining (G.bounds j) (p.stock j) (cost p m j) (charge p m j);
  }
