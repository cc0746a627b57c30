-- What can be forced or answered at each position, along whole plays: by one strategy within the stock, or by one counter-strategy.
-- Assumes nothing.
use mathlib.Core.Path.{◌≡◌, sym, ◌∙◌, ap, subst}
use Prim.Native.Nat.{ℕ, suc}
use Rattle.game.specs.Rbatl.{Strategy}
use Rattle.game.specs.Position.{Arena, Position, IsPosition, Allowed, outcome}
use Rattle.game.specs.Play.{Play, CounterStrategy, From, Follows, Answers, IsCounterStrategy, Afforded, KeepsWithin}
use Rattle.game.specs.Inner.Facts.{CanForce, CanAnswer}
use Rattle.game.proofs.Bridge.Proper.{Proper}
use Rattle.game.proofs.Bridge.Plays.{at_fits}
use Rattle.game.proofs.Bridge.Strategies.{as_strategy, keeps, picks}
use Rattle.game.proofs.Whole.Choices.{choose, answer}

module _ (G : Arena) (proper : Proper G.structure) (Region : Position → Type 0) (region? : (p : Position) → IsPosition G p → Dec (Region p)) (Result : Position → Position → Type 0) where
  pub forced_along : ((p : Position) → IsPosition G p → Region p → CanForce G p (Result p)) → (p : Position) → IsPosition G p
      → (F : Strategy) × KeepsWithin G p F × ((P : Play G) → From G p P → Follows G F P → (i : ℕ) → Region (P.at i) → Result (P.at i) (P.at (suc i)))
  forced_along force p fits = (as_strategy G proper pick allowed p.stock, keeps G proper pick allowed p.stock p.state fits, along)
    where
      pick : Position → ℕ
      pick x = (choose G proper Region region? Result force x).pick

      allowed : (x : Position) → IsPosition G x → Allowed G x (pick x)
      allowed x = (choose G proper Region region? Result force x).allowed

      along : (P : Play G) → From G p P → Follows G (as_strategy G proper pick allowed p.stock) P → (i : ℕ) → Region (P.at i) → Result (P.at i) (P.at (suc i))
      along P from follows i region =
          let chosen : P.move i ≡ pick (P.at i) = picks G proper pick allowed p.stock fits.1 P (ap (λ (x : Position). x.stock) from) follows i in
          subst (Result (P.at i))
          (ap (λ (m : ℕ). outcome G (P.at i) m (P.reply i)) (sym chosen) ∙ sym (P.step i))
          ((choose G proper Region region? Result force (P.at i)).forced (at_fits G proper P i) region (P.reply i) (P.replied i))

  pub answered_along : ((p : Position) → IsPosition G p → Region p → CanAnswer G p (Result p))
      → (ρ : CounterStrategy) × IsCounterStrategy G ρ
      × ((P : Play G) → Answers G ρ P → Afforded G P → (i : ℕ) → Region (P.at i) → Result (P.at i) (P.at (suc i)))
  answered_along can = (ρ, λ p m fits _. (answer G proper Region region? Result can p m).available fits, along)
    where
      ρ : CounterStrategy
      ρ p m = (answer G proper Region region? Result can p m).reply

      along : (P : Play G) → Answers G ρ P → Afforded G P → (i : ℕ) → Region (P.at i) → Result (P.at i) (P.at (suc i))
      along P answers paid i region =
          subst (Result (P.at i))
          (ap (outcome G (P.at i) (P.move i)) (sym (answers i)) ∙ sym (P.step i))
          ((answer G proper Region region? Result can (P.at i) (P.move i)).answered (at_fits G proper P i) region (P.moved i, paid i))
