-- A move carried back to some places, part by part; and the places from which it lands at one lie in a box of spans. Assumes nothing.
use mathlib.Core.Bool.{Bool, true}
use mathlib.Core.List.{List}
use mathlib.Core.Logic.{◌⊎◌, ⊎_elim}
use mathlib.Core.Path.{◌≡◌, refl, sym, ◌∙◌, ap, subst}
use Prim.Native.Nat.{ℕ, suc, ◌+◌, ◌*◌, ◌-◌, ◌/◌, ◌%◌, ◌<◌}
use native.Mathlib.Omega.{arith}
use Rattle.block.specs.Layout as L
use Rattle.block.specs.Layout.{Block}
use Rattle.block.specs.Inner.Valid.{Valid}
use Rattle.game.specs.Model.{arena_of}
use Rattle.ways.specs.Back.{Leads, Comes, InSpan, InBox}
use Rattle.ways.specs.Lines.{packed_in, count_in, number_in, taken_in, given_in}
use Rattle.ways.specs.Listing.{Listed}
use Rattle.ways.specs.Packed.{pack_base, Covers}
use Rattle.ways.specs.Rows.{Playable}
use Rattle.ways.specs.declared.rows.Row.{Row}
use Rattle.ways.specs.declared.back.Span.{Span}
use Rattle.ways.proofs.Coming.{leads_comes}
use Rattle.ways.proofs.Leading.{taken_below, lands_at}
use Rattle.ways.proofs.Packing.{pays_covers}
use Rattle.ways.proofs.Placing.{place_position}
use Rattle.stages.specs.Stages.{hold, rank_of, To, FiresAt, Past, Evolved}
use Rattle.stages.proofs.Evolving.{to_one, step_past, evolved_none, evolved_then}

-- a move leads there from each place from which it lands there
pub to_leads : (b : Block) (row : Row) → Playable b row → (ways board : List ℕ) (s x k y : ℕ) → s < L.states b → x < row.places → To b row ways board s x k y → Leads (arena_of b row.index) s x (number_in ways s true k) y
to_leads b row playable ways board s x k y state place to =
    let (p, placed) = place_position (arena_of b row.index) s x state (omega (arith, playable.places_are)) in
    let (paid, leaves) = to.1.1 p placed in
    (p, placed, paid, leaves)

-- so these places lie in the box of two spans that have all stocks which come there
pub to_boxed : (b : Block) → Valid b → (row : Row) → Playable b row → (ways : List ℕ) → Listed b row ways → (board : List ℕ) (s k y : ℕ) → s < L.states b → k < count_in ways s true → (low high : Span) (width : ℕ)
    → let full = packed_in ways (row.places - 1) in let left = packed_in ways y in let takes = packed_in ways (taken_in ways s k) in let gives = packed_in ways (given_in ways s k) in
    ((z : ℕ) → Comes (full % pack_base) (left % pack_base) (takes % pack_base) (gives % pack_base) z → InSpan low z)
    → ((z : ℕ) → Comes (full / pack_base) (left / pack_base) (takes / pack_base) (gives / pack_base) z → InSpan high z)
    → width ≡ suc (full / pack_base)
    → (x : ℕ) → x < row.places → To b row ways board s x k y → InBox low high width x
to_boxed b valid row playable ways listed board s k y state small low high width in-low in-high wide x place to =
    let (l, h, e, low_comes, high-comes) = leads_comes b valid row playable ways listed s k state small x y (to_leads b row playable ways board s x k y state place to) in
    (l, h, e ∙ ap (λ (w : ℕ). l * w + h) (sym wide), in-low l low_comes, in-high h high-comes)

module _ (b : Block) (row : Row) (ways board : List ℕ) (most : Bool) (safe n s k y : ℕ) where
  -- part of stage n, by which every place of which Q holds, and from which the k-th move of state s lands at y, is past that move
  pub record Carried (Q : ℕ → Type 0) (ranks flags ranks' flags' : List ℕ) : Type 0 where
    pub evolved : Evolved b row ways board most safe n ranks flags ranks' flags'
    pub past : (x : ℕ) → x < row.places → Q x → To b row ways board s x k y → Past b row ways board most k (rank_of row ranks' s x)

  pub carried_none : {Q : ℕ → Type 0} (ranks flags : List ℕ) → ((x : ℕ) → x < row.places → Q x → ⊥) → Carried Q ranks flags ranks flags
  carried_none ranks flags none = record { evolved = evolved_none b row ways board most safe n ranks flags; past = λ x place q. absurd (none x place q) }

  -- one place
  pub carried_one : (x : ℕ) {ranks flags ranks' flags' : List ℕ} → Evolved b row ways board most safe n ranks flags ranks' flags' → (To b row ways board s x k y → Past b row ways board most k (rank_of row ranks' s x)) → Carried (λ z. z ≡ x) ranks flags ranks' flags'
  carried_one x {ranks' = ranks'} evolved past = record {
    evolved = evolved;
    past = λ z place e to. subst (λ (i : ℕ). Past b row ways board most k (rank_of row ranks' s i)) (sym e) (past (subst (λ (i : ℕ). To b row ways board s i k y) e to));
  }

  -- one part after another, and what follows from what was done
  pub carried_both : Playable b row → n < hold → s < L.states b → FiresAt b row ways board most s k y → {Q R W : ℕ → Type 0} {ranks flags ranks' flags' ranks'' flags'' : List ℕ} → ((x : ℕ) → x < row.places → W x → Q x ⊎ R x)
      → Carried Q ranks flags ranks' flags' → Carried R ranks' flags' ranks'' flags'' → Carried W ranks flags ranks'' flags''
  carried_both playable small state fires {Q} {R} split first next = record {
    evolved = evolved_then b row ways board most safe n small first.evolved next.evolved;
    past = λ x place w to.
        ⊎_elim
        (λ (q : Q x). step_past b row ways board playable most n small s x k y state place to fires (next.evolved.steps s x state place) (first.past x place q to))
        (λ (r : R x). next.past x place r to)
        (split x place w);
  }

  pub carried_narrow : {Q R : ℕ → Type 0} {ranks flags ranks' flags' : List ℕ} → ((x : ℕ) → x < row.places → R x → Q x) → Carried Q ranks flags ranks' flags' → Carried R ranks flags ranks' flags'
  carried_narrow less done = record { evolved = done.evolved; past = λ x place r. done.past x place (less x place r) }

-- a move that gives nothing lands where the stocks are left that it takes of
pub to_spent : (b : Block) (valid : Valid b) (row : Row) (playable : Playable b row) (ways : List ℕ) (listed : Listed b row ways) (board : List ℕ) (s k y : ℕ) → s < L.states b → given_in ways s k ≡ 0
    → (x : ℕ) → x < row.places → To b row ways board s x k y → x ≡ y + taken_in ways s k
to_spent b valid row playable ways listed board s k y state none x place (small, lands) =
    let (p, placed) = place_position (arena_of b row.index) s x state (omega (arith, playable.places_are)) in
    let way = ((listed.states s state).lines true).only k small in
    let takes = ((listed.states s state).effects k small).0 in
    let covers = subst (Covers ways x) (sym takes) (pays_covers b valid row.index playable.inside playable.strategic ways listed.packed s x (number_in ways s true k) way.0.1 p placed (lands.1 p placed).0) in
    let below = taken_below b valid row playable ways listed s x k _ state place small refl covers in
    let there = lands_at b valid row playable ways listed s x k _ state place small refl covers none in
    omega (arith, to_one b row ways board playable s x k y (x - taken_in ways s k) state place (small, lands) (small, there))
