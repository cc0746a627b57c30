-- A word at a place of a text, by the bytes there.
-- Assumes nothing.
use mathlib.Core.Bool.{Bool, true, false, cond}
use mathlib.Core.List.{List, [], ◌∷◌}
use mathlib.Core.Path.{◌≡◌, refl, sym, ap, subst, ◌∙◌}
use Prim.Native.Nat.{ℕ, ◌+◌, ◌-◌, ◌≤◌}
use native.Mathlib.Omega.{arith}
use lib.ListN.{length, drop, length-append, length-drop}
use lib.Seq.{drop-append_seam, drop-drop}
use lib.Dec.{eqb}
use Rattle.std.specs.Prelude.{Option, Some, None}
use Rattle.std.specs.Option.{option_or}
use Rattle.text.specs.Numeral.{Starts, Found, found, missing, after}
use Rattle.tokens.specs.declared.numeral.Found as place
use Rattle.tokens.specs.Inner.Found.{found_at, InsideFound}

module _ (w text : List ℕ) (at : ℕ) where
  pub room_for : Starts w (drop at text) → length w ≤ length text - at
  room_for s =
      let e : length text - at ≡ length w + length s.0 = sym (length-drop at text) ∙ ap length s.1 ∙ length-append w s.0 in
      omega arith

  pub rest_is : (s : Starts w (drop at text)) → s.0 ≡ drop (at + length w) text
  rest_is s = sym (drop-append_seam w s.0) ∙ sym (ap (drop (length w)) s.1) ∙ drop-drop (length w) at text

-- a word is tried, and where it does not stand there the other
or_other : Found → Found → Found
or_other (found n rest) other = found n rest
or_other missing other = other

or_test : (t : Bool) (there other : Found) → (there' : Found) → there ≡ or_other there' other → cond t there other ≡ or_other (cond t there' missing) other
unfolding or_other
or_test true there other there' e = e
or_test false there other there' e = refl

after_or : (k : ℕ) (w u : List ℕ) (other : Found) → after k w u other ≡ or_other (after k w u missing) other
unfolding after or_other
after_or k [] u other = refl
after_or k (x ∷ w) [] other = refl
after_or k (x ∷ w) (y ∷ u) other = or_test (eqb x y) (after k w u other) other (after k w u missing) (after_or k w u other)

pub found_or : (t : List ℕ) (a b : Option place.Found) (k : ℕ) (w u : List ℕ) → found_at t a ≡ after k w u missing → found_at t (option_or a b) ≡ after k w u (found_at t b)
unfolding or_other
found_or t (Some x) b k w u e = ap (λ (f : Found). or_other f (found_at t b)) e ∙ sym (after_or k w u (found_at t b))
found_or t None b k w u e = ap (λ (f : Found). or_other f (found_at t b)) e ∙ sym (after_or k w u (found_at t b))

-- and the place after what is found so lies within the text
pub inside_or : (t : List ℕ) (a b r : Option place.Found) → r ≡ option_or a b → InsideFound t a → InsideFound t b → InsideFound t r
inside_or t (Some x) b r e h k = subst (InsideFound t) (sym e) h
inside_or t None b r e h k = subst (InsideFound t) (sym e) k
