-- Reading and writing by a format (specs' read, write and Spells), for every format whose fields stand at different places.
--     Every P f b       P holds of each field of b's text: of its spelling and its place
--     Proper n f        along every text of f the fields' places come in rising turn, from n on, each is one of the layout, and each spelling is clear
--     sound             what is accepted is spelled by the text, and every other byte is as it was
--     complete          a text of b is accepted as b, where every other byte of b stands there already
--     written           the text that is written for b is one of its texts
-- Assumes nothing.
use mathlib.Core.Bool.{Bool, true, false, cond}
use mathlib.Core.List.{List, [], ◌∷◌}
use mathlib.Core.Logic.{⊎_elim}
use mathlib.Core.Path.{◌≡◌, refl, sym, ap, subst, ◌∙◌}
use Prim.Native.Nat.{ℕ, suc, ◌+◌, ◌-◌, ◌*◌, ◌%◌, ◌≤◌, ◌<◌}
use native.Mathlib.Nat.{le_trans}
use native.Mathlib.Omega.{arith}
use lib.Dec.{T, eqb}
use lib.ListN.{length, length-set}
use lib.Seq.{get_or-set_same, get_or-set_other, ext_get_or}
use borrow.Author.Tests.{eqb-true, eqb-false}
use Rattle.block.specs.Layout.{Block, max_agents, max_resources, max_states, max_joint, header_bytes, bound_byte, row_bytes, action_costs, agent_costs, block_bytes, place_of, byte_at, at}
use Rattle.block.specs.Inner.Places.{InLayout}
use Rattle.block.specs.declared.layout.Place.{Place}
use Rattle.block.specs.declared.layout.Place.TheVariants.{Header, Mask, Count, Cost, Next, Field, ResourceKind}
use Rattle.block.specs.declared.refusal.Refusal.{Refusal}
use Rattle.block.specs.declared.refusal.Refusal.TheVariants.{Form}
use Rattle.block.proofs.Places.{one_place}
use Rattle.text.specs.Numeral.{Starts, Found, found, missing, search}
use Rattle.text.specs.Format.{Spelling, Format, end, exactly, value, write, Spells, accepted, refused, store, on_found, read}
use Rattle.text.proofs.Search.{starts, after_found, after_other, search_found, search_inv}
use Rattle.text.proofs.Spellings.{Fits, Clear}

-- how many turns the line of an agent has, from its count on; the turn of a state's first next state; the turns of a state
abbrev pub agent_turns : ℕ
agent_turns = 1 + agent_costs

abbrev pub next_turn : ℕ
next_turn = 1 + max_agents * agent_turns

abbrev pub state_turns : ℕ
state_turns = next_turn + max_joint

-- the turns of state s and of row i
abbrev pub state_turn : ℕ → ℕ
state_turn s = header_bytes + max_resources + state_turns * s

abbrev pub row_turn : ℕ → ℕ
row_turn i = header_bytes + max_resources + state_turns * max_states + row_bytes * i

-- when a place's turn comes in the text: the sizes and the kinds of the resources, then state by state, then row by row, where the kind, the team and the bounds come before
-- what the row names
abbrev pub turn : Place → ℕ
turn (Header f) = f
turn (ResourceKind j) = header_bytes + j
turn (Mask s) = state_turn s
turn (Count s a) = state_turn s + (1 + agent_turns * a)
turn (Cost s a k j) = state_turn s + (2 + agent_turns * a + action_costs * k + j)
turn (Next s joint) = state_turn s + (next_turn + joint)
turn (Field i f) = row_turn i + (1 + (f + (1 + max_resources)) % (bound_byte + max_resources) - (2 + max_resources) * (1 - f))

abbrev pub Every : (Spelling → Place → Type 0) → Format → Block → Type 0
Every P end b = Unit {0}
Every P (exactly w f) b = Every P f b
Every P (value x p k) b = P x p × Every P (k (at b p)) b

-- each field's byte may stand there
abbrev pub Good : Format → Block → Type 0
Good f b = Every (λ x p. Fits x (at b p)) f b

-- no field's place has this number
abbrev pub Avoids : ℕ → Format → Block → Type 0
Avoids n f b = Every (λ x p. place_of p ≡ n → ⊥) f b

pub data Proper : ℕ → Format → Type 0 where
  done : {n : ℕ} → Proper n end
  word : {n : ℕ} {w : List ℕ} {f : Format} → Proper n f → Proper n (exactly w f)
  field : {n : ℕ} {x : Spelling} {p : Place} {k : ℕ → Format} → n ≤ turn p → InLayout p → Clear x → ((v : ℕ) → Fits x v → Proper (suc (turn p)) (k v)) → Proper n (value x p k)

pub sooner : {m n : ℕ} {f : Format} → m ≤ n → Proper n f → Proper m f
sooner l done = done
sooner l (word h) = word (sooner l h)
sooner l (field a i c h) = field (le_trans l a) i c h

-- a place is a byte of the block
inside : (p : Place) → InLayout p → place_of p < block_bytes
inside (Header f) h = omega arith
inside (ResourceKind j) h = omega arith
inside (Mask s) h = omega arith
inside (Count s a) h = omega arith
inside (Cost s a k j) h = omega arith
inside (Next s joint) h = omega arith
inside (Field i f) h = omega arith

-- a place whose turn has passed does not come again
passed : (p : Place) → InLayout p → {n : ℕ} (f : Format) (b : Block) → Proper n f → turn p < n → Good f b → Avoids (place_of p) f b
passed p i end b done l g = tt
passed p i (exactly w f) b (word h) l g = passed p i f b h l g
passed p i {n = n} (value x q k) b (field a i' c h) l g = (
  λ e. let same : turn q ≡ turn p = ap turn (one_place q p i' i e) in omega arith,
  passed p i {n = suc (turn q)} (k (at b q)) b (h (at b q) g.0) (omega arith) g.1,
)

pub spells_good : (f : Format) (b : Block) (t : List ℕ) → Spells f b t → Good f b
spells_good end b t s = tt
spells_good (exactly w f) b t s = spells_good f b s.0 s.2
spells_good (value x p k) b t s = ((s.0, s.1, s.2, s.3), spells_good (k (at b p)) b s.4 s.6)

pub written : {n : ℕ} (f : Format) (b : Block) → Proper n f → Good f b → Spells f b (write f b)
written end b done g = refl
written (exactly w f) b (word h) g = (write f b, refl, written f b h g)
written {n = n} (value x p k) b (field a i c h) g =
    let m = c.meant (at b p) g.0 in
    (x.chosen (at b p), m.0, m.1, m.2, write (k (at b p)) b, refl, written {n = suc (turn p)} (k (at b p)) b (h (at b p) g.0) g.1)

-- what a reading that is accepted shows
abbrev Shown : Format → Block → Block → List ℕ → Type 0
Shown f b₀ b t = Spells f b t × (length b ≡ block_bytes) × ((n : ℕ) → Avoids n f b → byte_at b n ≡ byte_at b₀ n)

pub never : {A : Type 0} (r : Refusal) {t : List ℕ} (b : Block) → refused r t ≡ accepted b → A
never r b e = let z : ◌≡◌ {A = ℕ} 0 1 = cc in absurd (omega arith)

pub stored : (b : Block) (p : Place) (v : ℕ) → length b ≡ block_bytes → InLayout p → at (store b p v) p ≡ v
stored b p v l i = get_or-set_same b (place_of p) v 0 (omega (arith, inside p i))

-- an accepted reading of a field: the spelling found, allowed, and the reading that goes on
sound_value : (x : Spelling) (p : Place) (k : ℕ → Format) (b₀ b : Block) (t : List ℕ) → InLayout p → ((v : ℕ) → Fits x v → Proper (suc (turn p)) (k v)) →
    length b₀ ≡ block_bytes →
    ((v : ℕ) (b₁ : Block) (rest : List ℕ) → Proper (suc (turn p)) (k v) → length b₁ ≡ block_bytes → read (k v) b₁ rest ≡ accepted b → Shown (k v) b₁ b rest) →
    read (value x p k) b₀ t ≡ accepted b → Shown (value x p k) b₀ b t
sound_value x p k b₀ b t i h l ih = on (search x.spell x.options t) refl
  where
    goes : (o : ℕ) (rest : List ℕ) (a : Bool) → x.allowed o ≡ a → search x.spell x.options t ≡ found o rest →
        cond a (read (k (x.byte o)) (store b₀ p (x.byte o)) rest) (refused (x.refusal o) t) ≡ accepted b → Shown (value x p k) b₀ b t
    goes o rest false q s e = never (x.refusal o) b e
    goes o rest true q s e =
        let is = search_inv x.spell t x.options o rest s in
        let v = x.byte o in
        let may : T (x.allowed o) = rw q tt in
        let proper : Proper (suc (turn p)) (k v) = h v (o, is.0, may, refl) in
        let size : length (store b₀ p v) ≡ block_bytes = length-set b₀ (place_of p) v ∙ l in
        let shown = ih v (store b₀ p v) rest proper size e in
        let kept : at b p ≡ at (store b₀ p v) p = shown.2 (place_of p) (passed p i (k v) b proper (omega arith) (spells_good (k v) b rest shown.0)) in
        let here : v ≡ at b p = sym (kept ∙ stored b₀ p v l i) in
        let spells : Spells (k (at b p)) b rest = subst (λ (u : ℕ). Spells (k u) b rest) here shown.0 in (
          (o, is.0, may, here, rest, is.1, spells),
          shown.1,
          λ n a. shown.2 n (subst (λ (u : ℕ). Avoids n (k u) b) (sym here) a.1) ∙ get_or-set_other b₀ (place_of p) n v 0 (λ q. a.0 (sym q)),
        )

    on : (r : Found) → search x.spell x.options t ≡ r →
        on_found r t (λ o rest. cond (x.allowed o) (read (k (x.byte o)) (store b₀ p (x.byte o)) rest) (refused (x.refusal o) t)) ≡ accepted b → Shown (value x p k) b₀ b t
    on (found o rest) s e = goes o rest (x.allowed o) refl s e
    on missing s e = never Form b e

pub sound : {n : ℕ} (f : Format) (b₀ b : Block) (t : List ℕ) → Proper n f → length b₀ ≡ block_bytes → read f b₀ t ≡ accepted b → Shown f b₀ b t
sound end b₀ b [] done l e = let same : b₀ ≡ b = cc in (refl, rw (← same) l, λ n a. rw same)
sound end b₀ b (x ∷ t) done l e = never Form b e
sound (exactly w f) b₀ b t (word h) l e = ⊎_elim (here (λ r. sound f b₀ b r h l)) there (starts w t)
  where
    here : ((r : List ℕ) → read f b₀ r ≡ accepted b → Shown f b₀ b r) → Starts w t → Shown (exactly w f) b₀ b t
    here ih s =
        let shown = ih s.0 (rw (after_found 0 w t s.0 missing s.1) at e) in
        ((s.0, s.1, shown.0), shown.1, shown.2)

    there : (Starts w t → ⊥) → Shown (exactly w f) b₀ b t
    there q = never Form b (rw (after_other 0 w t missing q) at e)
sound {n} (value x p k) b₀ b t (field a i c h) l e = sound_value x p k b₀ b t i h l (λ v b₁ rest. sound {n = suc (turn p)} (k v) b₁ b rest) e

-- the bytes of b that the format's fields do not name stand in b₀
abbrev Ready : Format → Block → Block → Type 0
Ready f b₀ b = (length b₀ ≡ block_bytes) × ((n : ℕ) → n < block_bytes → Avoids n f b → byte_at b n ≡ byte_at b₀ n)

ready_on : (x : Spelling) (p : Place) (k : ℕ → Format) (b₀ b : Block) → InLayout p → Ready (value x p k) b₀ b → Ready (k (at b p)) (store b₀ p (at b p)) b
ready_on x p k b₀ b i r = (length-set b₀ (place_of p) (at b p) ∙ r.0, λ n l a. go n l a (eqb n (place_of p)) refl)
  where
    go : (n : ℕ) → n < block_bytes → Avoids n (k (at b p)) b → (t : Bool) → eqb n (place_of p) ≡ t → byte_at b n ≡ byte_at (store b₀ p (at b p)) n
    go n l a true e = rw (eqb-true n (place_of p) e) (sym (stored b₀ p (at b p) r.0 i))
    go n l a false e =
        let other : n ≡ place_of p → ⊥ = eqb-false n (place_of p) e in
        r.1 n l (λ q. other (sym q), a) ∙ sym (get_or-set_other b₀ (place_of p) n (at b p) 0 other)

is_true : (t : Bool) → T t → t ≡ true
is_true true h = refl
is_true false h = absurd h

pub complete : {n : ℕ} (f : Format) (b₀ b : Block) (t : List ℕ) → Proper n f → length b ≡ block_bytes → Ready f b₀ b → Spells f b t → read f b₀ t ≡ accepted b
complete end b₀ b t done l r s = rw s (ap accepted (ext_get_or 0 b₀ b (r.0 ∙ sym l) (λ i k. sym (r.1 i (omega arith) tt))))
complete (exactly w f) b₀ b t (word h) l r s = rw (after_found 0 w t s.0 missing s.1) (complete f b₀ b s.0 h l r s.2)
complete {n = n} (value x p k) b₀ b t (field a i c h) l r s =
    let o = s.0 in
    let rest = s.4 in
    let only : (m : ℕ) → m < x.options → Starts (x.spell m) t → m ≡ o = λ m q w. c.only t m o q s.1 w (rest, s.5) in
    rw (search_found x.spell t x.options o rest s.1 s.5 only, is_true (x.allowed o) s.2, s.3)
    (complete {n = suc (turn p)} (k (at b p)) (store b₀ p (at b p)) b rest (h (at b p) (o, s.1, s.2, s.3)) l (ready_on x p k b₀ b i r) s.6)
