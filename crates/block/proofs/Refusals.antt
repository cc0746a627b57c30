-- The first refusal of a list whose condition holds: rule by rule, of a list that another follows, and what an answer tells. Assumes nothing.
use mathlib.Core.List.{List, [], ◌∷◌, ◌++◌}
use mathlib.Core.Logic.{inl, inr}
use mathlib.Core.Path.{◌≡◌, refl, sym, ◌∙◌, ap}
use Prim.Native.Nat.{ℕ, ◌<◌}
use native.Mathlib.Omega.{arith}
use lib.ListN.{length, replicate}
use Rattle.block.specs.Refusal.{Answer, Rule, ◌when◌, number_of, Tried, First, Gives, value, Answers, Meets, Kept, RoomAfter}
use Rattle.block.specs.declared.refusal.Refusal.{Refusal}
use Rattle.block.specs.declared.refusal.Refusal.TheVariants.{Length}
use Rattle.std.specs.Prelude.{Ok, Err}
use Rattle.std.specs.Result.{IsErrAnd}
use Rattle.std.proofs.lemmas.Result.{err_from_is_err_and}

-- the first rule's condition holds
pub turned_down : {r : Refusal} {P : Type 0} {rules : List Rule} {Rest : Answer → Type 0} → P → First ((r when P) ∷ rules) Rest (Err r)
turned_down h = record { tried = inl (h, refl) }

-- or fails, and the rest of the list decides
pub past : {r : Refusal} {P : Type 0} {rules : List Rule} {Rest : Answer → Type 0} {a : Answer} → (P → ⊥) → First rules Rest a → First ((r when P) ∷ rules) Rest a
past h w = record { tried = inr (h, w.tried) }

pub answered : {Right : ℕ → Type 0} {n : ℕ} → Right n → Answers [] Right (Ok n)
answered h = record { tried = value h }

-- a value is no refusal
pub no_refusal : {A : Type 0} {n : ℕ} {r : Refusal} → Ok n ≡ Err r → A
no_refusal e = let z : ◌≡◌ {A = ℕ} 0 1 = cc in absurd (omega arith)

-- a refusal of a list is that of a list which goes on
pub refused : {rules : List Rule} {Right : ℕ → Type 0} {r : Refusal} (more : List Rule) {Rest : Answer → Type 0} → Answers rules Right (Err r) → First (rules ++ more) Rest (Err r)
refused {rules} {Right} {r} more {Rest} w = record { tried = go rules w.tried }
  where
    go : (rules : List Rule) → Tried rules (Gives Right) (Err r) → Tried (rules ++ more) Rest (Err r)
    go [] x' = elim x' [ ]
    go ((q when P) ∷ rules) (inl h) = inl h
    go ((q when P) ∷ rules) (inr (h, w)) = inr (h, go rules w)

-- and where the answer hands it on
pub handed_on : {rules : List Rule} {Right : ℕ → Type 0} {r : Refusal} {a : Answer} (more : List Rule) {Rest : Answer → Type 0} → IsErrAnd a (λ e. e ≡ r) → Answers rules Right (Err r) → First (rules ++ more) Rest a
handed_on {a = a} more exit w = let p = err_from_is_err_and a exit in rw (p.1, p.2) (refused more w)

-- none of the conditions holds
abbrev pub Fails : List Rule → Type 0
Fails [] = Unit {0}
Fails ((r when P) ∷ rules) = (P → ⊥) × Fails rules

pub none_holds : {rules : List Rule} {Rest : Answer → Type 0} {n : ℕ} → First rules Rest (Ok n) → Fails rules
none_holds {rules} {Rest} {n} w = go rules w.tried
  where
    go : (rules : List Rule) → Tried rules Rest (Ok n) → Fails rules
    go [] w = tt
    go ((r when P) ∷ rules) (inl h) = no_refusal h.1
    go ((r when P) ∷ rules) (inr (h, w)) = (h, go rules w)

-- where a list's conditions all fail, what follows it decides
pub after : (rules : List Rule) {more : List Rule} {Rest : Answer → Type 0} {a : Answer} → Fails rules → First more Rest a → First (rules ++ more) Rest a
after rules {more} {Rest} {a} fails next = record { tried = go rules fails }
  where
    go : (rules : List Rule) → Fails rules → Tried (rules ++ more) Rest a
    go [] fails = next.tried
    go ((r when P) ∷ rules) (h, fails) = inr (h, go rules fails)

-- or where the list gives a value
pub passed : {rules more : List Rule} {P Q : Answer → Type 0} {n : ℕ} {a : Answer} → First rules P (Ok n) → First more Q a → First (rules ++ more) Q a
passed {rules} w next = after rules (none_holds w) next

pub unmet : (rules : List Rule) → Fails rules → (r : Refusal) → Meets rules r → ⊥
unmet [] _ r x3 = elim x3 [ ]
unmet ((q when P) ∷ rules) (h, fails) r (inl (e, holds)) = h holds
unmet ((q when P) ∷ rules) (h, fails) r (inr later) = unmet rules fails r later

pub apart : (rules more : List Rule) → Fails (rules ++ more) → Fails rules × Fails more
apart [] more fails = (tt, fails)
apart ((r when P) ∷ rules) more (h, fails) = let (front, rest) = apart rules more fails in ((h, front), rest)

-- a value is as the rest says, and right
pub rest : {rules : List Rule} {Rest : Answer → Type 0} {n : ℕ} → First rules Rest (Ok n) → Rest (Ok n)
rest {rules} {Rest} {n} w = go rules w.tried
  where
    go : (rules : List Rule) → Tried rules Rest (Ok n) → Rest (Ok n)
    go [] h = h
    go ((r when P) ∷ rules) (inl h) = no_refusal h.1
    go ((r when P) ∷ rules) (inr (h, w)) = go rules w

pub right : {rules : List Rule} {Right : ℕ → Type 0} {n : ℕ} → Answers rules Right (Ok n) → Right n
right {rules} {Right} {n} w = go (rest w)
  where
    go : Gives Right (Ok n) → Right n
    go (value h) = h

-- a list gives one answer only, where one value only is right
pub one_answer : {rules : List Rule} {Right : ℕ → Type 0} {a a' : Answer} → Answers rules Right a → Answers rules Right a' → (Fails rules → (m n : ℕ) → Right m → Right n → m ≡ n) → a ≡ a'
one_answer {rules} {Right} {a} {a'} w w' = go a a' rules w.tried w'.tried
  where
    go : (a a' : Answer) (rules : List Rule) → Tried rules (Gives Right) a → Tried rules (Gives Right) a' → (Fails rules → (m n : ℕ) → Right m → Right n → m ≡ n) → a ≡ a'
    go a a' [] (value h) (value h') one = ap Ok (one tt _ _ h h')
    go a a' ((r when P) ∷ rules) (inl (_, e)) (inl (_, e')) one = e ∙ sym e'
    go a a' ((r when P) ∷ rules) (inl (h, _)) (inr (not, _)) one = absurd (not h)
    go a a' ((r when P) ∷ rules) (inr (not, _)) (inl (h, _)) one = absurd (not h)
    go a a' ((r when P) ∷ rules) (inr (not, w)) (inr (_, w')) one = go a a' rules w w' (λ fails. one (not, fails))

-- working room under 1, and under any other answer
pub room_left : {t : List ℕ} → RoomAfter t t (Err Length)
room_left = record { left = λ _. refl; cleared = λ other. absurd (other refl) }

pub room_cleared : {t u : List ℕ} {a : Answer} → (a ≡ Err Length → ⊥) → u ≡ replicate (length t) 0 → RoomAfter t u a
room_cleared other zeros = record { left = λ e. absurd (other e); cleared = λ _. zeros }

-- a buffer that was left alone is kept, whatever is answered
pub untouched : (t : List ℕ) (a : Answer) → Kept t t a
untouched t (Ok n) = tt
untouched t (Err r) = refl

-- the list has no rule for number 1
abbrev NoLength : List Rule → Type 0
NoLength [] = Unit {0}
NoLength ((r when P) ∷ rules) = (1 < number_of r) × NoLength rules

-- so it does not answer that
pub not_length : {rules : List Rule} {Right : ℕ → Type 0} {a : Answer} → Answers rules Right a → NoLength rules → a ≡ Err Length → ⊥
not_length {rules} {Right} {a} w = go a rules w.tried
  where
    go : (a : Answer) (rules : List Rule) → Tried rules (Gives Right) a → NoLength rules → a ≡ Err Length → ⊥
    go a [] (value h) others one = no_refusal one
    go a ((r when P) ∷ rules) (inl (_, e)) (other, others) one = let same : r ≡ Length = cc in omega (arith, ap number_of same)
    go a ((r when P) ∷ rules) (inr (_, w)) (other, others) one = go a rules w others one
