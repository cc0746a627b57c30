-- Sets of states as words, gathered bit by bit. Assumes nothing.
use mathlib.Core.Bool.{true, false}
use mathlib.Core.List.{List}
use mathlib.Core.Logic.{◌⊎◌, ◌↔◌, inl, inr}
use mathlib.Core.Path.{◌≡◌, sym, ◌∙◌, ap, subst}
use Prim.Native.Nat.{ℕ, ◌≤◌, ◌+◌, ◌*◌, ◌%◌, ◌^◌, ◌<◌}
use native.Mathlib.Nat.{zero-div}
use native.Mathlib.Omega.{arith}
use Rattle.block.specs.Decide.{Bit}
use Rattle.block.specs.Layout as L
use Rattle.block.specs.Layout.{Block}
use Rattle.block.specs.Inner.Valid.{Valid}
use Rattle.game.specs.Position.{MoveOf}
use Rattle.game.specs.Model.{structure_of, coalition_of}
use Rattle.game.proofs.Numbers.Decide.{eq?}
use Rattle.turns.specs.Buffers.{rank_in, narrow_in}
use Rattle.turns.specs.Inner.Stores.{Stored}
use Rattle.turns.specs.Sizes.{max_stock_places}
use Rattle.turns.proofs.Opponents.{joint_small, next_state}
use Rattle.ways.specs.Lines.{count_in, number_in}
use Rattle.ways.specs.Listing.{Listed}
use Rattle.ways.specs.Rows.{Playable}
use Rattle.ways.specs.declared.rows.Row.{Row}
use Rattle.ways.proofs.Leading.{listed_small}
use Rattle.boards.specs.Boards.{nexts_words, to_in, reach_in, Nexts, RankedWithin}

-- the word has the bits of which P holds, and no others
pub record Gathers (P : ℕ → Type 0) (w : ℕ) : Type 0 where
  pub short : w < 2 ^ 24
  pub each : (x : ℕ) → P x → Bit w x
  pub only : (x : ℕ) → Bit w x → P x

-- r is the word w with bit s besides
abbrev pub Besides : ℕ → ℕ → ℕ → Type 0
Besides w s r = ((n : ℕ) → s < n → w < 2 ^ n → r < 2 ^ n) × ((x : ℕ) → Bit r x ↔ (Bit w x ⊎ (x ≡ s)))

gathers_none : (P : ℕ → Type 0) → ((x : ℕ) → P x → ⊥) → Gathers P 0
gathers_none P none = record {
  short = omega arith;
  each = λ x p. absurd (none x p);
  only = λ x h. absurd (omega (arith, h, ap (λ (y : ℕ). y % 2) (zero-div (2 ^ x))));
}

gathers_with : (P Q : ℕ → Type 0) {w s r : ℕ} → Gathers P w → s < 24 → Besides w s r → ((x : ℕ) → Q x → P x ⊎ (x ≡ s)) → ((x : ℕ) → P x → Q x) → Q s → Gathers Q r
gathers_with P Q {w} {s} {r} so_far small (short, bits) from to here = record { short = short 24 small so_far.short; each = λ x q. (bits x).1 (kept x (from x q)); only = λ x h. only x ((bits x).0 h) }
  where
    kept : (x : ℕ) → P x ⊎ (x ≡ s) → Bit w x ⊎ (x ≡ s)
    kept x (inl p) = inl (so_far.each x p)
    kept x (inr e) = inr e

    only : (x : ℕ) → Bit w x ⊎ (x ≡ s) → Q x
    only x (inl h) = to x (so_far.only x h)
    only x (inr e) = subst Q (sym e) here

-- the states that are named by the first n numbers
abbrev pub NamedBy : (ℕ → ℕ) → ℕ → ℕ → Type 0
NamedBy at n q = (i : ℕ) × (i < n) × (at i ≡ q)

pub named_none : (at : ℕ → ℕ) → Gathers (NamedBy at 0) 0
named_none at = gathers_none (NamedBy at 0) (λ q (i, small, _). omega arith)

pub named_next : (at : ℕ → ℕ) {j w q r : ℕ} → Gathers (NamedBy at j) w → q < 24 → at j ≡ q → Besides w q r → Gathers (NamedBy at (j + 1)) r
named_next at {j} {w} {q} {r} so_far small is with = gathers_with (NamedBy at j) (NamedBy at (j + 1)) so_far small with (λ x (i, less, e). go x i less e (eq? i j)) (λ x (i, less, e). (i, omega arith, e)) (j, omega arith, is)
  where
    go : (x i : ℕ) → i < j + 1 → at i ≡ x → Dec (i ≡ j) → NamedBy at j x ⊎ (x ≡ q)
    go x i less e (yes same) = inr (sym e ∙ ap at same ∙ is)
    go x i less e (no ne) = inl (i, omega arith, e)

-- the states below n of which P holds
abbrev pub Below : (ℕ → Type 0) → ℕ → ℕ → Type 0
Below P n q = (q < n) × P q

pub below_none : (P : ℕ → Type 0) → Gathers (Below P 0) 0
below_none P = gathers_none (Below P 0) (λ q (small, _). omega arith)

pub below_with : (P : ℕ → Type 0) {s w r : ℕ} → Gathers (Below P s) w → s < 24 → P s → Besides w s r → Gathers (Below P (s + 1)) r
below_with P {s} {w} {r} so_far small here with = gathers_with (Below P s) (Below P (s + 1)) so_far small with (λ x (less, p). go x less p (eq? x s)) (λ x (less, p). (omega arith, p)) (omega arith, here)
  where
    go : (x : ℕ) → x < s + 1 → P x → Dec (x ≡ s) → Below P s x ⊎ (x ≡ s)
    go x less p (yes e) = inr e
    go x less p (no ne) = inl (omega arith, p)

pub below_skip : (P : ℕ → Type 0) {s w : ℕ} → Gathers (Below P s) w → (P s → ⊥) → Gathers (Below P (s + 1)) w
below_skip P {s} {w} so_far fails = record { short = so_far.short; each = λ x (less, p). so_far.each x (other x less p (eq? x s), p); only = λ x h. let (less, p) = so_far.only x h in (omega arith, p) }
  where
    other : (x : ℕ) → x < s + 1 → P x → Dec (x ≡ s) → x < s
    other x less p (yes e) = absurd (fails (subst P e p))
    other x less p (no ne) = omega arith

-- those whose rank at place x is from low to below end
abbrev pub Within : ℕ → List ℕ → ℕ → ℕ → ℕ → ℕ → Type 0
Within c ranks x low end q = (low ≤ rank_in ranks (q * c + x)) × (rank_in ranks (q * c + x) < end)

pub below_ranked : (states c : ℕ) (ranks : List ℕ) (x low end w : ℕ) → Gathers (Below (Within c ranks x low end) states) w → RankedWithin states c ranks x low end w × (w < 2 ^ 24)
below_ranked states c ranks x low end w all = (record { each = λ q state. ((λ h. (all.only q h).1), λ p. all.each q (state, p)); only = λ q h. (all.only q h).0 }, all.short)

-- where the i-th listed reply to the move m of state s leads
abbrev pub reply_next : Block → List ℕ → ℕ → ℕ → ℕ → ℕ
reply_next b ways s m i = L.next b s (m + number_in ways s false i)

module _ (b : Block) (row : Row) (ways : List ℕ) (listed : Listed b row ways) (s : ℕ) (state : s < L.states b) where
  pub named_nexts : (m w : ℕ) → Gathers (NamedBy (reply_next b ways s m) (count_in ways s false)) w → Nexts b row s m w × (w < 2 ^ 24)
  named_nexts m w all = (
    record {
      each = λ r reply. let (i, small, e) = ((listed.states s state).lines false).each r reply in all.each (L.next b s (m + r)) (i, small, ap (λ (n : ℕ). L.next b s (m + n)) e);
      only = λ q h. let (i, small, e) = all.only q h in (number_in ways s false i, ((listed.states s state).lines false).only i small, e);
    },
    all.short,
  )

  -- a listed move and a listed reply to it make a joint action, and lead to a state
  module _ (valid : Valid b) (playable : Playable b row) (k i : ℕ) (move : k < count_in ways s true) (reply : i < count_in ways s false) where
    made : MoveOf (structure_of b) (coalition_of b row.index) s (number_in ways s true k)
    made = (((listed.states s state).lines true).only k move).0.0

    pub listed_joint : number_in ways s true k + number_in ways s false i < 64
    listed_joint = joint_small b valid row.index playable.inside playable.strategic s _ _ state made (((listed.states s state).lines false).only i reply)

    pub listed_next : reply_next b ways s (number_in ways s true k) i < L.states b
    listed_next = next_state b valid row.index playable.inside playable.strategic s _ _ state made (((listed.states s state).lines false).only i reply)

-- the words of the states before n are stored
abbrev pub NextsTo : Block → Row → List ℕ → ℕ → List ℕ → Type 0
NextsTo b row ways n board = (s k : ℕ) → s < n → k < count_in ways s true → Nexts b row s (number_in ways s true k) (to_in board s k)

-- and those of one state more
pub nexts_next : (b : Block) (row : Row) (ways : List ℕ) → Listed b row ways → (s : ℕ) → s < L.states b → (l l' : List ℕ)
    → ((k : ℕ) → k < count_in ways s true → Nexts b row s (number_in ways s true k) (to_in l' s k)) → ((t k : ℕ) → t < s → k < 64 → to_in l' t k ≡ to_in l t k)
    → NextsTo b row ways s l → NextsTo b row ways (s + 1) l'
nexts_next b row ways listed s state l l' here same so_far t k less small = go (eq? t s)
  where
    go : Dec (t ≡ s) → Nexts b row t (number_in ways t true k) (to_in l' t k)
    go (yes e) = subst (λ (q : ℕ). k < count_in ways q true → Nexts b row q (number_in ways q true k) (to_in l' q k)) (sym e) (here k) small
    go (no ne) =
        let before : t < s = omega arith in
        let listing : t < L.states b = omega arith in
        let few = ((listed.states t listing).lines true).few in
        subst (Nexts b row t (number_in ways t true k)) (sym (same t k before (omega arith))) (so_far t k before small)

-- what the states before n lead to is stored
abbrev pub ReachesTo : List ℕ → ℕ → List ℕ → Type 0
ReachesTo ways n board = (s k q : ℕ) → s < n → k < count_in ways s true → Bit (to_in board s k) q → Bit (reach_in board s) q

-- and of one state more
pub reaches_next : (b : Block) → Valid b → (row : Row) (ways : List ℕ) → Listed b row ways → (s : ℕ) → s < L.states b → (l l' : List ℕ) (w : ℕ)
    → ((k q : ℕ) → k < count_in ways s true → Bit (to_in l s k) q → Bit w q) → Stored narrow_in l l' (nexts_words + max_stock_places + s) w
    → ReachesTo ways s l → ReachesTo ways (s + 1) l'
reaches_next b valid row ways listed s state l l' w here put so_far t k q less small bit = go (eq? t s)
  where
    before : Bit (to_in l t k) q
    before =
        let (a, c) = listed_small b valid row ways listed t k (omega arith) small in
        subst (λ (v : ℕ). Bit v q) (put.others (64 * t + k) (λ e. omega arith)) bit

    go : Dec (t ≡ s) → Bit (reach_in l' t) q
    go (yes e) =
        subst (λ (v : ℕ). Bit v q) (sym put.stored ∙ ap (reach_in l') (sym e))
        (subst (λ (i : ℕ). k < count_in ways i true → Bit (to_in l i k) q → Bit w q) (sym e) (here k q) small before)
    go (no ne) = subst (λ (v : ℕ). Bit v q) (sym (put.others (nexts_words + max_stock_places + t) (λ e. ne (omega arith)))) (so_far t k q (omega arith) small before)
