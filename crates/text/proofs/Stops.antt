-- Where reading by a format stops at a value (specs' stop), for every format whose fields stand at different places.
--     Along b x p f     x at p is a field of b's text by f
--     Halted            what is known where reading stops: the spelling that may not stand there, and that it is a field of the block read so far
--     halted            so it is wherever reading stops at a value
--     misread           elsewhere a text is refused for its form only
-- Assumes nothing.
use mathlib.Core.Bool.{Bool, true, false, cond}
use mathlib.Core.List.{List, [], ◌∷◌}
use mathlib.Core.Path.{◌≡◌, refl, sym, ap, subst, ◌∙◌}
use Prim.Native.Nat.{ℕ, suc, ◌≤◌, ◌<◌}
use native.Mathlib.Omega.{arith}
use lib.Dec.{T}
use lib.ListN.{length, length-set}
use lib.Seq.{get_or-set_other}
use Rattle.block.specs.Layout.{Block, block_bytes, place_of, at}
use Rattle.block.specs.Inner.Places.{InLayout}
use Rattle.block.specs.declared.layout.Place.{Place}
use Rattle.block.specs.declared.refusal.Refusal.{Refusal}
use Rattle.block.specs.declared.refusal.Refusal.TheVariants.{Form}
use Rattle.block.proofs.Places.{one_place}
use Rattle.text.specs.Numeral.{Starts, Found, found, missing, after, search}
use Rattle.text.specs.Format.{Spelling, Format, end, exactly, value, Outcome, refused, store, on_found, read, nowhere, stopped, stop_found, stop}
use Rattle.text.proofs.Search.{search_inv}
use Rattle.text.proofs.Spellings.{Fits}
use Rattle.text.proofs.Formats.{turn, Every, Proper, done, word, field, never, stored}

pub data Along (b : Block) (x : Spelling) (p : Place) : Format → Type 0 where
  here : {k : ℕ → Format} → Along b x p (value x p k)
  past_word : {w : List ℕ} {f : Format} → Along b x p f → Along b x p (exactly w f)
  past : {y : Spelling} {q : Place} {k : ℕ → Format} → Along b x p (k (at b q)) → Along b x p (value y q k)

-- what holds of each field holds of one
pub along_every : (P : Spelling → Place → Type 0) {b : Block} {x : Spelling} {p : Place} {f : Format} → Along b x p f → Every P f b → P x p
along_every P here e = e.0
along_every P (past_word a) e = along_every P a e
along_every P (past a) e = along_every P a e.1

-- a spelling of the byte v that may not stand there, with which the text t begins
pub record Barred (x : Spelling) (v : ℕ) (t : List ℕ) : Type 0 where
  pub option : ℕ
  pub few : option < x.options
  pub meant : x.byte option ≡ v
  pub not_allowed : x.allowed option ≡ false
  pub begins : Starts (x.spell option) t

pub record Halted (n : ℕ) (f : Format) (b₀ : Block) (p : Place) (b : Block) (t : List ℕ) (out : Outcome) : Type 0 where
  pub spelling : Spelling
  pub in_layout : InLayout p
  pub barred : Barred spelling (at b p) t
  pub refuses : out ≡ refused (spelling.refusal barred.option) t
  pub along : Along b spelling p f
  -- a place whose turn has passed keeps its byte
  pub kept : (q : Place) → InLayout q → turn q < n → at b q ≡ at b₀ q

-- a store at p leaves the places of other turns
other_turn : (b : Block) (p q : Place) (v : ℕ) → InLayout p → InLayout q → turn q < turn p → at (store b p v) q ≡ at b q
other_turn b p q v i j l =
    get_or-set_other b (place_of p) (place_of q) v 0 (λ e. let same : turn q ≡ turn p = ap turn (one_place q p j i e) in omega arith)

nowhere_stopped : {A : Type 0} (p : Place) (b : Block) (t : List ℕ) → nowhere ≡ stopped p b t → A
nowhere_stopped p b t e = let z : ◌≡◌ {A = ℕ} 0 1 = cc in absurd (omega arith)

module _ {n : ℕ} (x : Spelling) (q : Place) (k : ℕ → Format) (b₀ : Block) (t₀ : List ℕ) (p : Place) (b : Block) (t : List ℕ) (l : n ≤ turn q) (i : InLayout q)
    (s : length b₀ ≡ block_bytes) where
  -- reading stops at this field
  at_field : (o : ℕ) → o < x.options → Starts (x.spell o) t₀ → x.allowed o ≡ false → stopped q (store b₀ q (x.byte o)) t₀ ≡ stopped p b t →
      Halted n (value x q k) b₀ p b t (refused (x.refusal o) t₀)
  at_field o few begins bar e =
      let place : q ≡ p = cc in
      let block : store b₀ q (x.byte o) ≡ b = cc in
      let text : t₀ ≡ t = cc in
      rw (← place, ← block, ← text) (record {
        spelling = x;
        in_layout = i;
        barred = record { option = o; few = few; meant = sym (stored b₀ q (x.byte o) s i); not_allowed = bar; begins = begins };
        refuses = refl;
        along = here;
        kept = λ r j m. other_turn b₀ q r (x.byte o) i j (omega arith);
      })

  -- reading goes on past this field
  past_field : (o : ℕ) → {out : Outcome} →
      Halted (suc (turn q)) (k (x.byte o)) (store b₀ q (x.byte o)) p b t out → Halted n (value x q k) b₀ p b t out
  past_field o h =
      record {
        spelling = h.spelling;
        in_layout = h.in_layout;
        barred = h.barred;
        refuses = h.refuses;
        along = on h.spelling p h.along;
        kept = λ r j m. h.kept r j (omega arith) ∙ other_turn b₀ q r (x.byte o) i j (omega arith);
      }
    where
      on : (y : Spelling) (r : Place) → Along b y r (k (x.byte o)) → Along b y r (value x q k)
      on y r a = past (subst (λ (v : ℕ). Along b y r (k v)) (sym (h.kept q i (omega arith) ∙ stored b₀ q (x.byte o) s i)) a)

  halted_value : ((v : ℕ) → Fits x v → Proper (suc (turn q)) (k v)) →
      ((v : ℕ) (b₁ : Block) (rest : List ℕ) → Proper (suc (turn q)) (k v) → length b₁ ≡ block_bytes → stop (k v) b₁ rest ≡ stopped p b t → Halted (suc (turn q)) (k v) b₁ p b t (read (k v) b₁ rest)) →
      stop (value x q k) b₀ t₀ ≡ stopped p b t → Halted n (value x q k) b₀ p b t (read (value x q k) b₀ t₀)
  halted_value proper ih = on (search x.spell x.options t₀) refl
    where
      goes : (o : ℕ) (rest : List ℕ) (a : Bool) → x.allowed o ≡ a → search x.spell x.options t₀ ≡ found o rest →
          cond a (stop (k (x.byte o)) (store b₀ q (x.byte o)) rest) (stopped q (store b₀ q (x.byte o)) t₀) ≡ stopped p b t →
          Halted n (value x q k) b₀ p b t (cond a (read (k (x.byte o)) (store b₀ q (x.byte o)) rest) (refused (x.refusal o) t₀))
      goes o rest true a f e =
          let is = search_inv x.spell t₀ x.options o rest f in
          let may : T (x.allowed o) = rw a tt in
          past_field o
          (ih (x.byte o) (store b₀ q (x.byte o)) rest (proper (x.byte o) (o, is.0, may, refl)) (length-set b₀ (place_of q) (x.byte o) ∙ s) e)
      goes o rest false a f e =
          let is = search_inv x.spell t₀ x.options o rest f in
          at_field o is.0 (rest, is.1) a e

      on : (r : Found) → search x.spell x.options t₀ ≡ r →
          stop_found r (λ o rest. cond (x.allowed o) (stop (k (x.byte o)) (store b₀ q (x.byte o)) rest) (stopped q (store b₀ q (x.byte o)) t₀)) ≡ stopped p b t →
          Halted n (value x q k) b₀ p b t (on_found r t₀ (λ o rest. cond (x.allowed o) (read (k (x.byte o)) (store b₀ q (x.byte o)) rest) (refused (x.refusal o) t₀)))
      on (found o rest) f e = goes o rest (x.allowed o) refl f e
      on missing f e = nowhere_stopped p b t e

pub halted : {n : ℕ} (f : Format) (b₀ : Block) (t₀ : List ℕ) (p : Place) (b : Block) (t : List ℕ) → Proper n f → length b₀ ≡ block_bytes →
    stop f b₀ t₀ ≡ stopped p b t → Halted n f b₀ p b t (read f b₀ t₀)
halted end b₀ t₀ p b t done s e = nowhere_stopped p b t e
halted {n} (exactly w f) b₀ t₀ p b t (word h) s e = on (λ rest. halted f b₀ rest p b t h s) (after 0 w t₀ missing) e
  where
    past_this : {out : Outcome} → Halted n f b₀ p b t out → Halted n (exactly w f) b₀ p b t out
    past_this g = record {
      spelling = g.spelling;
      in_layout = g.in_layout;
      barred = g.barred;
      refuses = g.refuses;
      along = past_word g.along;
      kept = g.kept;
    }

    on : ((rest : List ℕ) → stop f b₀ rest ≡ stopped p b t → Halted n f b₀ p b t (read f b₀ rest)) →
        (r : Found) → stop_found r (λ o rest. stop f b₀ rest) ≡ stopped p b t → Halted n (exactly w f) b₀ p b t (on_found r t₀ (λ o rest. read f b₀ rest))
    on ih (found o rest) e = past_this (ih rest e)
    on ih missing e = nowhere_stopped p b t e
halted {n} (value x q k) b₀ t₀ p b t (field l i c h) s e =
    halted_value x q k b₀ t₀ p b t l i s h (λ v b₁ rest. halted {n = suc (turn q)} (k v) b₁ rest p b t) e

-- a text that is refused, and not at a value, is refused for its form
pub misread : (f : Format) (b : Block) (t : List ℕ) (r : Refusal) (u : List ℕ) → stop f b t ≡ nowhere → read f b t ≡ refused r u → r ≡ Form
misread end b [] r u e h = never r b (sym h)
misread end b (x ∷ t) r u e h = cc
misread (exactly w f) b t r u e h = on (λ rest. misread f b rest r u) (after 0 w t missing) e h
  where
    on : ((rest : List ℕ) → stop f b rest ≡ nowhere → read f b rest ≡ refused r u → r ≡ Form) →
        (x : Found) → stop_found x (λ o rest. stop f b rest) ≡ nowhere → on_found x t (λ o rest. read f b rest) ≡ refused r u → r ≡ Form
    on ih (found o rest) e h = ih rest e h
    on ih missing e h = cc
misread (value x p k) b t r u e h = on (λ v b₁ rest. misread (k v) b₁ rest r u) (search x.spell x.options t) e h
  where
    goes : ((v : ℕ) (b₁ : Block) (rest : List ℕ) → stop (k v) b₁ rest ≡ nowhere → read (k v) b₁ rest ≡ refused r u → r ≡ Form) →
        (o : ℕ) (rest : List ℕ) (a : Bool) →
        cond a (stop (k (x.byte o)) (store b p (x.byte o)) rest) (stopped p (store b p (x.byte o)) t) ≡ nowhere →
        cond a (read (k (x.byte o)) (store b p (x.byte o)) rest) (refused (x.refusal o) t) ≡ refused r u → r ≡ Form
    goes ih o rest true e h = ih (x.byte o) (store b p (x.byte o)) rest e h
    goes ih o rest false e h = nowhere_stopped p (store b p (x.byte o)) t (sym e)

    on : ((v : ℕ) (b₁ : Block) (rest : List ℕ) → stop (k v) b₁ rest ≡ nowhere → read (k v) b₁ rest ≡ refused r u → r ≡ Form) →
        (y : Found) → stop_found y (λ o rest. cond (x.allowed o) (stop (k (x.byte o)) (store b p (x.byte o)) rest) (stopped p (store b p (x.byte o)) t)) ≡ nowhere →
        on_found y t (λ o rest. cond (x.allowed o) (read (k (x.byte o)) (store b p (x.byte o)) rest) (refused (x.refusal o) t)) ≡ refused r u → r ≡ Form
    on ih (found o rest) e h = goes ih o rest (x.allowed o) e h
    on ih missing e h = cc
