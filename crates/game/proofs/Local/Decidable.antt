-- Positions, moves and what they can do are decidable, since each looks at finitely many numbers. Each decision stops as soon as it can,
-- so that the checker can compute with it. Assumes nothing.
use mathlib.Core.Bool.{Bool, true, false, cond}
use mathlib.Core.Path.{◌≡◌}
use Prim.Native.Nat.{ℕ, ◌+◌, ◌^◌, ◌<◌}
use Rattle.block.specs.Layout.{digit}
use Rattle.game.specs.Rbatl.{Bound, limit, unlimited, Pays, Coalition, Structure}
use Rattle.game.specs.Position.{Arena, Position, places, opponents, MoveOf, IsPosition, Reply, cost, charge, Allowed, outcome}
use Rattle.game.specs.Play.{Objective, next, always, until}
use Rattle.game.specs.Table.{Table, never, rank_at}
use Rattle.game.specs.Inner.Facts.{Claims}
use Rattle.game.proofs.Numbers.Decide.{all_below, both?, eq?, implies?, le?, lt?, some_below}

abbrev pub pays? : (b : Bound) (s c g : ℕ) → Dec (Pays b s c g)
pays? (limit k) s c g = le? c (s + g)
pays? unlimited s c g = yes tt

-- an action of a coalition's agent, or 0 for another agent
abbrev pub acts? : (t : Bool) (k n : ℕ) → Dec (cond t (k < n) (k ≡ 0))
acts? true k n = lt? k n
acts? false k n = eq? k 0

abbrev pub move? : (S : Structure) (A : Coalition) (q m : ℕ) → Dec (MoveOf S A q m)
move? S A q m =
    both? (lt? m (4 ^ S.agents)) λ _.
    all_below (λ a. cond (A a) (digit m a < S.actions q a) (digit m a ≡ 0)) S.agents (λ a _. acts? (A a) (digit m a) (S.actions q a))

module _ (G : Arena) where
  abbrev pub position? : (p : Position) → Dec (IsPosition G p)
  position? p =
      both? (lt? p.state G.structure.states) λ _.
      all_below (λ r. p.stock r < places (G.bounds r)) G.structure.resources (λ r _. lt? (p.stock r) (places (G.bounds r)))

  abbrev pub allowed? : (p : Position) (m : ℕ) → Dec (Allowed G p m)
  allowed? p m =
      both? (move? G.structure G.coalition p.state m) λ _.
      all_below (λ r. Pays (G.bounds r) (p.stock r) (cost G p m r) (charge G p m r)) G.structure.resources (λ r _. pays? (G.bounds r) (p.stock r) (cost G p m r) (charge G p m r))

  abbrev pub reply? : (p : Position) (r : ℕ) → Dec (Reply G p r)
  reply? p r = move? G.structure (opponents G.coalition) p.state r

  module _ (p : Position) (Y : Position → Type 0) where
    -- every outcome of a move, and some outcome of a move
    abbrev pub every? : (m : ℕ) → ((r : ℕ) → Reply G p r → Dec (Y (outcome G p m r))) → Dec ((r : ℕ) → Reply G p r → Y (outcome G p m r))
    every? m Y? =
        elim (all_below (λ r. Reply G p r → Y (outcome G p m r)) (4 ^ G.structure.agents) (λ r _. implies? (reply? p r) (Y? r))) [
          | yes all ↦ yes (λ r reply. all r reply.0 reply)
          | no fails ↦ no (λ f. fails (λ r _. f r))
        ]

    abbrev pub some? : (m : ℕ) → ((r : ℕ) → Reply G p r → Dec (Y (outcome G p m r))) → Dec ((r : ℕ) × Reply G p r × Y (outcome G p m r))
    some? m Y? =
        elim (some_below (λ r. Reply G p r × Y (outcome G p m r)) (4 ^ G.structure.agents) (λ r. both? (reply? p r) (Y? r))) [
          | yes found ↦ yes (found.0, found.2.0, found.2.1)
          | no none ↦ no (λ (r, reply, y). none (r, reply.0, (reply, y)))
        ]

  -- what a table claims
  abbrev pub claims? : (X : Table) (t : Objective) (p : Position) → Dec (Claims G X t p)
  claims? X (until left right) p = lt? (rank_at G X p) never
  claims? X (always left) p = eq? (rank_at G X p) never
  claims? X (next left) p = eq? (rank_at G X p) 1
