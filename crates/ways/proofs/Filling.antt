-- A line of a listing, filled by going through the numbers, and the parts of the buffer that a store leaves alone. Assumes nothing.
use mathlib.Core.Bool.{Bool, true, false}
use mathlib.Core.List.{List}
use mathlib.Core.Logic.{◌⊎◌, inl, inr, ⊎_elim}
use mathlib.Core.Path.{◌≡◌, refl, sym, ◌∙◌, ap, subst}
use Prim.Native.Nat.{ℕ, ◌+◌, ◌≤◌, ◌<◌}
use native.Mathlib.Omega.{arith}
use lib.ListN.{get_or, length, set, length-set}
use lib.Seq.{get_or-set_same, get_or-set_other}
use Rattle.block.specs.Layout.{Block}
use Rattle.game.specs.Position.{full}
use Rattle.game.specs.Inner.Stocks.{offset, refill}
use Rattle.game.specs.Model.{arena_of}
use Rattle.game.proofs.Numbers.Decide.{eq?}
use Rattle.ways.specs.Lines.{ways_bytes, field_place, field_in, count_at, line_at, takes_at, gives_at, count_in, number_in, taken_in, given_in}
use Rattle.ways.specs.Listing.{Listable, LineOf, EffectsOf, StateListed, SameOutside}
use Rattle.ways.specs.declared.rows.Row.{Row}

-- a test has one value
pub apart : (t : Bool) → t ≡ true → t ≡ false → ⊥
apart t is not = let z : ◌≡◌ {A = ℕ} 0 1 = cc in omega arith

-- the first n of the numbers `at` are those below j of which P holds, rising
pub record LineBelow (P : ℕ → Type 0) (j : ℕ) (at : ℕ → ℕ) (n : ℕ) : Type 0 where
  pub each : (m : ℕ) → m < j → P m → (k : ℕ) × (k < n) × (at k ≡ m)
  pub only : (k : ℕ) → k < n → P (at k) × (at k < j)
  pub rising : (i k : ℕ) → i < k → k < n → at i < at k
  pub few : n ≤ j

module _ (P : ℕ → Type 0) where
  pub line_none : (at : ℕ → ℕ) → LineBelow P 0 at 0
  line_none at = record {
    each = λ m small. absurd (omega arith);
    only = λ k small. absurd (omega arith);
    rising = λ i k less small. absurd (omega arith);
    few = omega arith;
  }

  pub line_skip : (j n : ℕ) (at : ℕ → ℕ) → LineBelow P j at n → (P j → ⊥) → LineBelow P (j + 1) at n
  line_skip j n at so_far none = record {
    each = λ m small h. so_far.each m (other m small h (eq? m j)) h;
    only = λ k small. let (h, l) = so_far.only k small in (h, omega arith);
    rising = so_far.rising;
    few = omega (arith, so_far.few);
  }
    where
      other : (m : ℕ) → m < j + 1 → P m → Dec (m ≡ j) → m < j
      other m small h (yes e) = absurd (none (subst P e h))
      other m small h (no ne) = omega arith

  -- the next place has j, and those before it what they had
  pub line_more : (j n : ℕ) (at at' : ℕ → ℕ) → at' n ≡ j → ((k : ℕ) → k < n → at' k ≡ at k) → LineBelow P j at n → P j → LineBelow P (j + 1) at' (n + 1)
  line_more j n at at' here before so_far holds = record {
    each = λ m small h. found m small h (eq? m j);
    only = λ k small. from k small (eq? k n);
    rising = λ i k less small. goes i k less small (eq? k n);
    few = omega (arith, so_far.few);
  }
    where
      found : (m : ℕ) → m < j + 1 → P m → Dec (m ≡ j) → (k : ℕ) × (k < n + 1) × (at' k ≡ m)
      found m small h (yes e) = (n, omega arith, here ∙ sym e)
      found m small h (no ne) = let (k, l, e) = so_far.each m (omega arith) h in (k, omega arith, before k l ∙ e)

      from : (k : ℕ) → k < n + 1 → Dec (k ≡ n) → P (at' k) × (at' k < j + 1)
      from k small (yes e) = let same : at' k ≡ j = ap at' e ∙ here in (subst P (sym same) holds, omega arith)
      from k small (no ne) =
          let below : k < n = omega arith in
          let (h, l) = so_far.only k below in
          (subst P (sym (before k below)) h, omega (arith, before k below))

      goes : (i k : ℕ) → i < k → k < n + 1 → Dec (k ≡ n) → at' i < at' k
      goes i k less small (yes e) = let (_, l) = so_far.only i (omega arith) in omega (arith, before i (omega arith), ap at' e, here)
      goes i k less small (no ne) = omega (arith, so_far.rising i k less (omega arith), before i (omega arith), before k (omega arith))

  pub line_all : (j n : ℕ) (at : ℕ → ℕ) → j ≤ 64 → ((m : ℕ) → P m → m < j) → LineBelow P j at n → LineOf P at n
  line_all j n at small below so_far = record {
    each = λ m h. so_far.each m (below m h) h;
    only = λ k small. (so_far.only k small).0;
    rising = so_far.rising;
    few = omega (arith, so_far.few);
  }

  pub line_same : (n : ℕ) (at at' : ℕ → ℕ) → ((k : ℕ) → k < n → at' k ≡ at k) → LineOf P at n → LineOf P at' n
  line_same n at at' same line = record {
    each = λ m h. let (k, l, e) = line.each m h in (k, l, same k l ∙ e);
    only = λ k l. subst P (sym (same k l)) (line.only k l);
    rising = λ i k less l. omega (arith, line.rising i k less l, same i (omega arith), same k l);
    few = line.few;
  }

-- a store in the places from `first` to before `end` leaves the others alone
pub set_outside : (first end p v : ℕ) (l : List ℕ) → first ≤ p → p < end → SameOutside first end l (set l p v)
set_outside first end p v l low high = record {
  same = λ q out. get_or-set_other l p q v 0 (λ e. ⊎_elim (λ (h : q < first). omega arith) (λ (h : end ≤ q). omega arith) out);
  long = length-set l p v;
}

pub outside_none : (first end : ℕ) (l : List ℕ) → SameOutside first end l l
outside_none first end l = record { same = λ p out. refl; long = refl }

pub outside_both : {first end : ℕ} {l l' l'' : List ℕ} → SameOutside first end l l' → SameOutside first end l' l'' → SameOutside first end l l''
outside_both a b = record { same = λ p out. b.same p out ∙ a.same p out; long = b.long ∙ a.long }

pub outside_wider : (first end first' end' : ℕ) {l l' : List ℕ} → first' ≤ first → end ≤ end' → SameOutside first end l l' → SameOutside first' end' l l'
outside_wider first end first' end' low high s = record {
  same = λ p out. s.same p (⊎_elim (λ (h : p < first'). inl (omega arith)) (λ (h : end' ≤ p). inr (omega arith)) out);
  long = s.long;
}

-- a line stands in any buffer with the same count and numbers
pub line_moved : (P : ℕ → Type 0) (s : ℕ) (ours : Bool) (l l' : List ℕ) → count_in l' s ours ≡ count_in l s ours → ((k : ℕ) → k < 64 → number_in l' s ours k ≡ number_in l s ours k)
    → LineOf P (number_in l s ours) (count_in l s ours) → LineOf P (number_in l' s ours) (count_in l' s ours)
line_moved P s ours l l' count numbers line =
    subst (LineOf P (number_in l' s ours)) (sym count) (line_same P (count_in l s ours) (number_in l s ours) (number_in l' s ours) (λ k small. numbers k (omega (arith, line.few))) line)

-- a state is listed in any buffer with the same fields
module _ (b : Block) (row : Row) (s : ℕ) (l l' : List ℕ) (same : (f : ℕ) → f < 258 → get_or l' (field_place s f) 0 ≡ get_or l (field_place s f) 0) where
  counts_same : (ours : Bool) → count_in l' s ours ≡ count_in l s ours
  counts_same true = same 0 (omega arith)
  counts_same false = same 1 (omega arith)

  numbers_same : (ours : Bool) (k : ℕ) → k < 64 → number_in l' s ours k ≡ number_in l s ours k
  numbers_same true k small = same (2 + k) (omega arith)
  numbers_same false k small = same (66 + k) (omega arith)

  pub state_same : StateListed b row s l → StateListed b row s l'
  state_same listed = record {
    lines = λ ours. line_moved (Listable b row s ours) s ours l l' (counts_same ours) (numbers_same ours) (listed.lines ours);
    effects = λ k small.
        let small' : k < count_in l s true = omega (arith, counts_same true) in
        let few : k < 64 = omega (arith, (listed.lines true).few) in
        let (takes, gives) = listed.effects k small' in (
          same (130 + k) (omega arith) ∙ takes ∙ ap (offset (arena_of b row.index) (full (arena_of b row.index) s)) (sym (numbers_same true k few)),
          same (194 + k) (omega arith) ∙ gives ∙ ap (refill (arena_of b row.index) (full (arena_of b row.index) s)) (sym (numbers_same true k few)),
        );
  }

-- the fields of a line are fields of a state
pub count_at_small : (ours : Bool) → count_at ours < 2
count_at_small true = omega arith
count_at_small false = omega arith

pub line_at_small : (ours : Bool) → (2 ≤ line_at ours) × (line_at ours ≤ 66)
line_at_small true = (omega arith, omega arith)
line_at_small false = (omega arith, omega arith)

-- one more move has what it takes and gives beside it
module _ (s k u v : ℕ) (l : List ℕ) (state : s < 24) (small : k < 64) (long : length l ≡ ways_bytes) where
  abbrev with_takes : List ℕ
  with_takes = set l (field_place s (takes_at + k)) u

  abbrev pub with_effect : List ℕ
  with_effect = set with_takes (field_place s (gives_at + k)) v

  pub effects_more : (f g : ℕ → ℕ) → ((j : ℕ) → j < k → (taken_in l s j ≡ f j) × (given_in l s j ≡ g j)) → u ≡ f k → v ≡ g k
      → (j : ℕ) → j < k + 1 → (taken_in with_effect s j ≡ f j) × (given_in with_effect s j ≡ g j)
  effects_more f g so_far is is' j below = go (eq? j k)
    where
      other_gives : (h : ℕ) → h < 64 → taken_in with_effect s h ≡ taken_in with_takes s h
      other_gives h few = get_or-set_other with_takes (field_place s (gives_at + k)) (field_place s (takes_at + h)) v 0 (λ e. omega arith)

      go : Dec (j ≡ k) → (taken_in with_effect s j ≡ f j) × (given_in with_effect s j ≡ g j)
      go (yes e) = (
        ap (taken_in with_effect s) e ∙ other_gives k small ∙ get_or-set_same l (field_place s (takes_at + k)) u 0 (omega arith) ∙ is ∙ ap f (sym e),
        ap (given_in with_effect s) e ∙ get_or-set_same with_takes (field_place s (gives_at + k)) v 0 (omega (arith, length-set l (field_place s (takes_at + k)) u)) ∙ is' ∙ ap g (sym e),
      )
      go (no ne) =
          let less : j < k = omega arith in (
            other_gives j (omega arith) ∙ get_or-set_other l (field_place s (takes_at + k)) (field_place s (takes_at + j)) u 0 (λ e. ne (omega arith)) ∙ (so_far j less).0,
            get_or-set_other with_takes (field_place s (gives_at + k)) (field_place s (gives_at + j)) v 0 (λ e. ne (omega arith))
                ∙ get_or-set_other l (field_place s (takes_at + k)) (field_place s (gives_at + j)) u 0 (λ e. omega arith)
                ∙ (so_far j less).1,
          )

  pub effect_outside : SameOutside (field_place s takes_at) (field_place (s + 1) 0) l with_effect
  effect_outside =
      outside_both (set_outside (field_place s takes_at) (field_place (s + 1) 0) (field_place s (takes_at + k)) u l (omega arith) (omega arith))
      (set_outside (field_place s takes_at) (field_place (s + 1) 0) (field_place s (gives_at + k)) v with_takes (omega arith) (omega arith))

-- while the moves of a state are listed, its replies stay
pub replies_kept : (P : ℕ → Type 0) (s : ℕ) (ours : Bool) (l l' : List ℕ) → ours ≡ true → SameOutside (field_place s (line_at ours)) (field_place s (line_at ours) + 64) l l'
    → LineOf P (number_in l s false) (count_in l s false) → LineOf P (number_in l' s false) (count_in l' s false)
replies_kept P s true l l' e same line = line_moved P s false l l' (same.same (field_place s 1) (inl (omega arith))) (λ k small. same.same (field_place s (66 + k)) (inr (omega arith))) line
replies_kept P s false l l' e same line = absurd (apart false e refl)

-- what is stored in the next place of a line
pub number_put : (s n v : ℕ) (ours : Bool) (l : List ℕ) → field_place s (line_at ours + n) < length l → number_in (set l (field_place s (line_at ours + n)) v) s ours n ≡ v
number_put s n v ours l inside = get_or-set_same l (field_place s (line_at ours + n)) v 0 inside

pub number_before : (s n v : ℕ) (ours : Bool) (l : List ℕ) (k : ℕ) → k < n → number_in (set l (field_place s (line_at ours + n)) v) s ours k ≡ number_in l s ours k
number_before s n v ours l k less = get_or-set_other l (field_place s (line_at ours + n)) (field_place s (line_at ours + k)) v 0 (λ e. omega arith)

-- one more number is stored at the end of a line
pub line_stored : (P : ℕ → Type 0) (s : ℕ) (ours : Bool) (m n : ℕ) (l₀ l l' : List ℕ) → s < 24 → n < 64 → length l ≡ ways_bytes → l' ≡ set l (field_place s (line_at ours + n)) m
    → LineBelow P m (number_in l s ours) n → P m → SameOutside (field_place s (line_at ours)) (field_place s (line_at ours) + 64) l₀ l
    → LineBelow P (m + 1) (number_in l' s ours) (n + 1) × SameOutside (field_place s (line_at ours)) (field_place s (line_at ours) + 64) l₀ l'
line_stored P s ours m n l₀ l l' state small long put line here same =
    let place = field_place s (line_at ours + n) in
    let there : place < length l = omega (arith, line_at_small ours) in
    subst (λ (x : List ℕ). LineBelow P (m + 1) (number_in x s ours) (n + 1) × SameOutside (field_place s (line_at ours)) (field_place s (line_at ours) + 64) l₀ x) (sym put) (
      line_more P m n (number_in l s ours) (number_in (set l place m) s ours) (number_put s n m ours l there) (number_before s n m ours l) line here,
      outside_both same (set_outside (field_place s (line_at ours)) (field_place s (line_at ours) + 64) place m l (omega arith) (omega arith)),
    )

-- a line whose count is stored
pub line_counted : (P : ℕ → Type 0) (s n : ℕ) (ours : Bool) (l : List ℕ) → field_place s (count_at ours) < length l → LineOf P (number_in l s ours) n
    → LineOf P (number_in (set l (field_place s (count_at ours)) n) s ours) (count_in (set l (field_place s (count_at ours)) n) s ours)
line_counted P s n ours l inside line =
    let l' = set l (field_place s (count_at ours)) n in
    let count : count_in l' s ours ≡ n = get_or-set_same l (field_place s (count_at ours)) n 0 inside in
    subst (LineOf P (number_in l' s ours)) (sym count)
    (line_same P n (number_in l s ours) (number_in l' s ours) (λ k small. get_or-set_other l (field_place s (count_at ours)) (field_place s (line_at ours + k)) n 0 (λ e. omega (arith, count_at_small ours, line_at_small ours))) line)

-- the parts of a state, one after another: replies, their count, moves, their count, and what the moves take and give
module _ (b : Block) (row : Row) (s n : ℕ) (state : s < 24) (l₀ l₁ l₂ : List ℕ) (long : length l₀ ≡ ways_bytes)
    (same₁ : SameOutside (field_place s 66) (field_place s 66 + 64) l₀ l₁) (replies : LineOf (Listable b row s false) (number_in l₁ s false) n) (put₂ : l₂ ≡ set l₁ (field_place s 1) n) where
  pub replies_counted : LineOf (Listable b row s false) (number_in l₂ s false) (count_in l₂ s false)
  replies_counted = subst (λ (l : List ℕ). LineOf (Listable b row s false) (number_in l s false) (count_in l s false)) (sym put₂) (line_counted (Listable b row s false) s n false l₁ (omega (arith, same₁.long)) replies)

  long₂ : length l₂ ≡ length l₁
  long₂ = ap length put₂ ∙ length-set l₁ (field_place s 1) n

  module _ (m : ℕ) (l₃ l₄ : List ℕ) (same₃ : SameOutside (field_place s 2) (field_place s 2 + 64) l₂ l₃) (moves : LineOf (Listable b row s true) (number_in l₃ s true) m) (put₄ : l₄ ≡ set l₃ (field_place s 0) m) where
    pub moves_counted : LineOf (Listable b row s true) (number_in l₄ s true) (count_in l₄ s true)
    moves_counted = subst (λ (l : List ℕ). LineOf (Listable b row s true) (number_in l s true) (count_in l s true)) (sym put₄) (line_counted (Listable b row s true) s m true l₃ (omega (arith, same₁.long, same₃.long, long₂)) moves)

    within : (first end : ℕ) {l l' : List ℕ} → field_place s 0 ≤ first → end ≤ field_place (s + 1) 0 → SameOutside first end l l' → SameOutside (field_place s 0) (field_place (s + 1) 0) l l'
    within first end = outside_wider first end (field_place s 0) (field_place (s + 1) 0)

    set_within : (f v : ℕ) (l l' : List ℕ) → f < 258 → l' ≡ set l (field_place s f) v → SameOutside (field_place s 0) (field_place (s + 1) 0) l l'
    set_within f v l l' small put = subst (SameOutside (field_place s 0) (field_place (s + 1) 0) l) (sym put) (set_outside (field_place s 0) (field_place (s + 1) 0) (field_place s f) v l (omega arith) (omega arith))

    pub state_whole : (l₅ : List ℕ) → SameOutside (field_place s 130) (field_place (s + 1) 0) l₄ l₅ → EffectsOf b row s l₅ → StateListed b row s l₅ × SameOutside (field_place s 0) (field_place (s + 1) 0) l₀ l₅
    state_whole l₅ same₅ effects = (
      record { lines = lines; effects = effects },
      outside_both (within (field_place s 66) (field_place s 66 + 64) (omega arith) (omega arith) same₁)
          (outside_both (set_within 1 n l₁ l₂ (omega arith) put₂)
          (outside_both (within (field_place s 2) (field_place s 2 + 64) (omega arith) (omega arith) same₃)
          (outside_both (set_within 0 m l₃ l₄ (omega arith) put₄) (within (field_place s 130) (field_place (s + 1) 0) (omega arith) (omega arith) same₅)))),
    )
      where
        last : (f : ℕ) → f < 130 → field_in l₅ s f ≡ field_in l₄ s f
        last f small = same₅.same (field_place s f) (inl (omega arith))

        -- the replies' fields were not touched after their count was stored
        kept : (f : ℕ) → (f ≡ 1) ⊎ ((66 ≤ f) × (f < 130)) → field_in l₅ s f ≡ field_in l₂ s f
        kept f field =
            let small : f < 130 = ⊎_elim (λ (e : f ≡ 1). omega arith) (λ (h : (66 ≤ f) × (f < 130)). h.1) field in
            last f small ∙ ap (λ (l : List ℕ). field_in l s f) put₄
            ∙ get_or-set_other l₃ (field_place s 0) (field_place s f) m 0 (λ same. ⊎_elim (λ (e : f ≡ 1). omega arith) (λ (h : (66 ≤ f) × (f < 130)). omega arith) field)
            ∙ same₃.same (field_place s f) (⊎_elim (λ (e : f ≡ 1). inl (omega arith)) (λ (h : (66 ≤ f) × (f < 130)). inr (omega arith)) field)

        lines : (ours : Bool) → LineOf (Listable b row s ours) (number_in l₅ s ours) (count_in l₅ s ours)
        lines true = line_moved (Listable b row s true) s true l₄ l₅ (last 0 (omega arith)) (λ k small. last (2 + k) (omega arith)) moves_counted
        lines false = line_moved (Listable b row s false) s false l₂ l₅ (kept 1 (inl refl)) (λ k small. kept (66 + k) (inr (omega arith, omega arith))) replies_counted

pub set_long : (l l' : List ℕ) (p v : ℕ) → l' ≡ set l p v → length l' ≡ length l
set_long l l' p v put = ap length put ∙ length-set l p v
