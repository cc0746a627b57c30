-- From one turn of a rehearsal to the next, and to its end. Assumes nothing.
use mathlib.Core.List.{List}
use mathlib.Core.Logic.{inl, inr}
use mathlib.Core.Path.{◌≡◌, refl, sym, ◌∙◌, ap, subst}
use Prim.Native.Nat.{ℕ, suc, ◌+◌, ◌≤◌, ◌<◌}
use native.Mathlib.Numerals.{add-one}
use native.Mathlib.Omega.{arith}
use lib.ListN.{get_or, length}
use borrow.Author.Count.{below_more}
use Rattle.game.specs.Position.{Arena, Position, IsPosition, outcome}
use Rattle.game.specs.Play.{Objective, next, always, until, Play, states, CoalitionWins}
use Rattle.game.specs.Table.{Table}
use Rattle.game.specs.Demand.{IsTable}
use Rattle.game.proofs.Bridge.Proper.{Proper}
use Rattle.game.proofs.Bridge.Plays.{at_fits}
use Rattle.game.proofs.Numbers.Decide.{eq?, lt?}
use Rattle.game.proofs.Whole.Demand.{one_move}
use Rattle.game.proofs.Whole.Onward.{GoesOn, onward, script_play}
use Rattle.ways.specs.Places.{PlacedAt}
use Rattle.ways.specs.declared.rows.Spot.{Spot}
use Rattle.rehearsal.specs.Rehearsal.{Finished, Scripted, Unavailable, Ends}
use Rattle.rehearsal.specs.Inner.Turns.{Turned, Stands}
use Rattle.std.specs.Prelude.{None, Some}

module _ (G : Arena) (proper : Proper G.structure) (t : Objective) (script : List ℕ) (p : Position) where
  -- at first
  pub stands_first : (X : Table) → IsTable G t X → IsPosition G p → CoalitionWins G t p → (s x : ℕ) → PlacedAt G s x p → Stands G t script p 0 s x
  stands_first X decided fits wins s x placed =
      let (P, from, moves, obeys) = script_play G proper t X decided script p fits wins in
      record {
        play = P;
        scripted = record { from = from; by_moves = moves; replies = λ k less. absurd (omega arith); unfinished = λ k less. absurd (omega arith) };
        obeys = obeys;
        placed = subst (PlacedAt G s x) (sym from) placed;
        wins = λ _. subst (CoalitionWins G t) (sym from) wins;
      }

  module _ (n s x : ℕ) (stands : Stands G t script p n s x) (goes_on : Finished t (length script) (states G stands.play) n → ⊥) where
    abbrev P : Play G
    P = stands.play

    abbrev here : Position
    here = P.at n

    -- and after one more turn
    module _ (spot : Spot) (turned : Turned G t here (get_or script n 0) (Some spot)) where
      replied : P.reply n ≡ get_or script n 0
      replied = stands.obeys n turned.0

      moved : P.move n ≡ turned.1.0
      moved = one_move G proper t here (at_fits G proper P n) (P.move n) turned.1.0 ((stands.scripted.by_moves n).0 (stands.wins goes_on)) turned.1.1

      led : P.at (suc n) ≡ outcome G here turned.1.0 (get_or script n 0)
      led = P.step n ∙ ap (λ (m : ℕ). outcome G here m (P.reply n)) moved ∙ ap (outcome G here turned.1.0) replied

      scripted_more : Scripted G t script p P (n + 1)
      scripted_more = record {
        from = stands.scripted.from;
        by_moves = stands.scripted.by_moves;
        replies = λ k less. below_more (λ j. P.reply j ≡ get_or script j 0) n stands.scripted.replies replied k less;
        unfinished = λ k less. below_more (λ j. Finished t (length script) (states G P) j → ⊥) n stands.scripted.unfinished goes_on k less;
      }

      -- an unfinished row goes on, but for next, which is finished after one move
      still_won : (Finished t (length script) (states G P) (n + 1) → ⊥) → CoalitionWins G t (P.at (n + 1))
      still_won later = rw (add-one n) (rw led (onward G proper here (at_fits G proper P n) (get_or script n 0) turned.0 t (on t goes_on later stands.scripted.unfinished) turned.1.0 turned.1.1))
        where
          on : (t : Objective) → (Finished t (length script) (states G P) n → ⊥) → (Finished t (length script) (states G P) (n + 1) → ⊥)
              → ((k : ℕ) → k < n → Finished t (length script) (states G P) k → ⊥) → GoesOn t here.state
          on (until left right) now later before = now
          on (always left) now later before = tt
          on (next left) now later before = go (lt? 1 n)
            where
              go : Dec (1 < n) → ⊥
              go (yes more) = before 1 more refl
              go (no few) = short (eq? n 1)
                where
                  short : Dec (n ≡ 1) → ⊥
                  short (yes e) = now e
                  short (no ne) = later (omega arith)

      pub stands_next : Stands G t script p (n + 1) spot.state spot.place
      stands_next = record {
        play = P;
        scripted = scripted_more;
        obeys = stands.obeys;
        placed = rw (add-one n) (rw led turned.1.2);
        wins = still_won;
      }

    -- a byte that is no reply
    pub stands_stuck : n < length script → Turned G t here (get_or script n 0) None → Unavailable G t script p
    stands_stuck inside none = record { play = P; turn = n; inside = inside; scripted = stands.scripted; goes_on = goes_on; none = none }

    -- the script is used up
    pub stands_out : n ≡ length script → Ends G t script p P n 0
    stands_out out = record { scripted = stands.scripted; inside = omega arith; status = inr (refl, goes_on, out) }

  -- the row is finished
  pub stands_done : (n s x : ℕ) (stands : Stands G t script p n s x) → n ≤ length script → Finished t (length script) (states G stands.play) n → Ends G t script p stands.play n 1
  stands_done n s x stands inside done = record { scripted = stands.scripted; inside = inside; status = inl (refl, done) }
