-- What is done after some moves, states and places of a stage, and after one more. Assumes nothing.
use mathlib.Core.Bool.{Bool, false}
use mathlib.Core.List.{List}
use mathlib.Core.Logic.{◌↔◌, ⊎_elim}
use mathlib.Core.Path.{◌≡◌, sym, ◌∙◌, subst}
use Prim.Native.Nat.{ℕ, ◌+◌, ◌-◌, ◌≤◌, ◌<◌}
use native.Mathlib.Omega.{arith}
use Rattle.block.specs.Layout as L
use Rattle.block.specs.Layout.{Block}
use Rattle.block.specs.Decide.{Bit}
use Rattle.game.proofs.Numbers.Decide.{eq?, lt?}
use Rattle.turns.specs.Sizes.{max_stock_places}
use Rattle.ways.specs.Rows.{Playable}
use Rattle.ways.specs.declared.rows.Row.{Row}
use Rattle.boards.specs.Boards.{to_in, won_in, reach_in, RankedWithin, Fires, Newly}
use Rattle.stages.specs.Stages.{hold, due_at, Prepared, rank_of, Evolved, DoneWith, StateDone, PlaceDone}
use Rattle.stages.proofs.Evolving.{step_ranked, step_unranked, done_still}

-- what holds below n goes on to hold, and with n's it holds below n + 1
one_more : (P Q : ℕ → Type 0) (n : ℕ) → ((k : ℕ) → k < n → P k → Q k) → ((k : ℕ) → k < n → P k) → Q n → (k : ℕ) → k < n + 1 → Q k
one_more P Q n still so_far last k small = go (eq? k n)
  where
    go : Dec (k ≡ n) → Q k
    go (yes e) = subst Q (sym e) last
    go (no ne) = still k (omega arith) (so_far k (omega arith))

module _ (b : Block) (row : Row) (ways board : List ℕ) (most : Bool) where
  -- a state is done where it leads to nothing fresh
  pub state_quiet : Prepared b row ways board → (ranks : List ℕ) (y fresh s : ℕ) → s < L.states b → (Fires false (reach_in board s) fresh → ⊥) → StateDone b row ways board most ranks y fresh s
  state_quiet ready ranks y fresh s state quiet k low (_, (q, bit, new)) = absurd (quiet (q, ready.reaches s k q state low bit, new))

  -- the moves of state s below k that serve newly at y are done with
  abbrev pub StateTo : List ℕ → ℕ → ℕ → ℕ → ℕ → Type 0
  StateTo ranks y fresh s k = (j : ℕ) → j < k → Newly most (to_in board s j) (won_in board y) fresh → DoneWith b row ways board most ranks s j y

  -- and those of the safe states below m
  abbrev pub PlaceTo : ℕ → List ℕ → ℕ → ℕ → ℕ → Type 0
  PlaceTo safe ranks y fresh m = (s : ℕ) → s < m → Bit safe s → StateDone b row ways board most ranks y fresh s

  -- place y is done, by the older states of the ranks at first
  abbrev pub DoneAt : ℕ → ℕ → List ℕ → List ℕ → ℕ → Type 0
  DoneAt safe n first ranks y = (fresh : ℕ) × RankedWithin (L.states b) row.places first y (n - 1) n fresh × PlaceDone b row ways board most safe ranks y fresh

  -- and the due places below m
  abbrev pub StageTo : ℕ → ℕ → List ℕ → List ℕ → List ℕ → ℕ → Type 0
  StageTo safe n first flags ranks m = (y : ℕ) → y < m → due_at flags y ≡ 1 → DoneAt safe n first ranks y

  module _ (safe n : ℕ) (small : n < hold) {ranks flags ranks' flags' : List ℕ} (step : Evolved b row ways board most safe n ranks flags ranks' flags') where
    -- a word is below m, at most the stage, exactly if it was
    pub below_same : (s x m : ℕ) → s < L.states b → x < row.places → m ≤ n → (rank_of row ranks' s x < m) ↔ (rank_of row ranks s x < m)
    below_same s x m state place up = (before, after)
      where
        before : rank_of row ranks' s x < m → rank_of row ranks s x < m
        before low = ⊎_elim (λ e. omega arith) (λ e. absurd (omega arith)) (step_unranked b row ways board most n small s x (step.steps s x state place) (omega arith))

        after : rank_of row ranks s x < m → rank_of row ranks' s x < m
        after low = omega (arith, step_ranked b row ways board most n small s x (step.steps s x state place) (omega arith))

    -- so the fresh words are those before
    pub ranked_before : (x w : ℕ) → x < row.places → RankedWithin (L.states b) row.places ranks' x (n - 1) n w → RankedWithin (L.states b) row.places ranks x (n - 1) n w
    ranked_before x w place set = record {
      each = λ q state. (
        (λ bit. let (low, high) = (set.each q state).0 bit in (least q state (rank_of row ranks' q x) (λ r. (below_same q x (n - 1) state place (omega arith)).1 r) low, (below_same q x n state place (omega arith)).0 high)),
        λ (low, high). (set.each q state).1 (least q state (rank_of row ranks q x) (λ r. (below_same q x (n - 1) state place (omega arith)).0 r) low, (below_same q x n state place (omega arith)).1 high),
      );
      only = set.only;
    }
      where
        least : (q : ℕ) → q < L.states b → (r : ℕ) {r' : ℕ} → (r' < n - 1 → r < n - 1) → n - 1 ≤ r → n - 1 ≤ r'
        least q state r {r'} back low = go (lt? r' (n - 1))
          where
            go : Dec (r' < n - 1) → n - 1 ≤ r'
            go (yes less) = absurd (omega (arith, back less))
            go (no ne) = omega arith

    -- what is done stays so
    module _ (playable : Playable b row) where
      pub state_still : (y fresh s : ℕ) → s < L.states b → StateDone b row ways board most ranks y fresh s → StateDone b row ways board most ranks' y fresh s
      state_still y fresh s state done k l new = done_still b row ways board most safe n small step playable s k y state new.0 (done k l new)

      -- one move more, one state more
      pub state_more : (y fresh s k : ℕ) → s < L.states b → StateTo ranks y fresh s k
          → (Newly most (to_in board s k) (won_in board y) fresh → DoneWith b row ways board most ranks' s k y) → StateTo ranks' y fresh s (k + 1)
      state_more y fresh s k state done last =
          one_more
          (λ j. Newly most (to_in board s j) (won_in board y) fresh → DoneWith b row ways board most ranks s j y)
          (λ j. Newly most (to_in board s j) (won_in board y) fresh → DoneWith b row ways board most ranks' s j y)
          k (λ j _ had new. done_still b row ways board most safe n small step playable s j y state new.0 (had new)) done last

      pub place_more : (y fresh m : ℕ) → m < L.states b → PlaceTo safe ranks y fresh m → (Bit safe m → StateDone b row ways board most ranks' y fresh m) → PlaceTo safe ranks' y fresh (m + 1)
      place_more y fresh m state done last =
          one_more
          (λ s. Bit safe s → StateDone b row ways board most ranks y fresh s)
          (λ s. Bit safe s → StateDone b row ways board most ranks' y fresh s)
          m (λ s l had bit. state_still y fresh s (omega arith) (had bit)) done last

      pub place_still : (y fresh : ℕ) → PlaceDone b row ways board most safe ranks y fresh → PlaceDone b row ways board most safe ranks' y fresh
      place_still y fresh done s state bit = state_still y fresh s state (done s state bit)

  -- one place more
  pub stage_more : (safe n : ℕ) → n < hold → Playable b row → row.places ≤ max_stock_places
      → {ranks₀ flags₀ ranks flags ranks' flags' : List ℕ} → Evolved b row ways board most safe n ranks₀ flags₀ ranks flags → Evolved b row ways board most safe n ranks flags ranks' flags'
      → (m : ℕ) → m < row.places → StageTo safe n ranks₀ flags₀ ranks m → (due_at flags m ≡ 1 → DoneAt safe n ranks ranks' m) → StageTo safe n ranks₀ flags₀ ranks' (m + 1)
  stage_more safe n small playable narrow {ranks₀} {flags₀} {ranks} {flags} {ranks'} first step m place done last =
      one_more
      (λ y. due_at flags₀ y ≡ 1 → DoneAt safe n ranks₀ ranks y)
      (λ y. due_at flags₀ y ≡ 1 → DoneAt safe n ranks₀ ranks' y)
      m
      (λ y _ had due. let (fresh, set, all) = had due in (fresh, set, place_still safe n small step playable y fresh all))
      done
      (λ due. let (fresh, set, all) = last (first.due m (omega arith) ∙ due) in (fresh, ranked_before safe n small first m fresh place set, all))
