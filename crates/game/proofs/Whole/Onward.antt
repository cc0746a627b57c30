-- Plays by the coalition's moves, turn by turn: where they lead, that it goes on winning, and one whose replies are a script's. Assumes nothing.
use mathlib.Core.List.{List}
use mathlib.Core.Logic.{◌⊎◌, inl, inr}
use mathlib.Core.Path.{◌≡◌, refl, sym, ◌∙◌, ap, subst}
use Prim.Native.Nat.{ℕ, zero, suc, ◌≤◌, ◌<◌}
use native.Mathlib.Omega.{arith}
use lib.ListN.{get_or, length}
use Rattle.game.specs.Position.{Arena, Position, IsPosition, Reply, outcome}
use Rattle.game.specs.Play.{Objective, next, always, until, Play, RecallCounter, states, From, past, IsRecallCounter, CoalitionWins, OpponentsWin, ForcesWithin}
use Rattle.game.specs.Table.{Table, never, shown, rank_at, move_at, RankIs, Good, Met}
use Rattle.game.specs.Demand.{IsTable, CoalitionMove, ByMoves}
use Rattle.game.proofs.Bridge.Proper.{Proper}
use Rattle.game.proofs.Bridge.Plays.{outcome_fits}
use Rattle.game.proofs.Local.Decidable.{reply?}
use Rattle.game.proofs.Whole.Choices.{idle_reply}
use Rattle.game.proofs.Whole.Winning.{won_true}
use Rattle.game.proofs.Whole.Demand.{moves_table, moves_win}

-- a row that is not done with in state q, so that its next position has to be won too
abbrev pub GoesOn : Objective → ℕ → Type 0
GoesOn (until left right) q = right q → ⊥
GoesOn (always left) q = Unit {0}
GoesOn (next left) q = ⊥

module _ (G : Arena) (proper : Proper G.structure) where
  -- from a position that the coalition wins its move leads, whatever the reply, to one that it wins
  module _ (y : Position) (inside : IsPosition G y) (r : ℕ) (reply : Reply G y r) where
    -- the table's move is aimed at the outcome
    aimed : (t : Objective) (X : Table) → IsTable G t X → CoalitionWins G t y → (Met G X t y → ⊥) → Good G X t y (move_at G X y)
    aimed t X decided wins unmet = ((decided y inside).move_is.best wins unmet).0

    lands : (t : Objective) (X : Table) → Good G X t y (move_at G X y) → IsPosition G (outcome G y (move_at G X y) r)
    lands t X good = outcome_fits G proper y (move_at G X y) r inside good.0.0 reply

    -- rank 0 of until is met
    zero_met : (left right : ℕ → Type 0) (X : Table) → IsTable G (until left right) X → CoalitionWins G (until left right) y → rank_at G X y ≡ 0 → right y.state
    zero_met left right X decided wins e =
        let (P, from, by, _) = (decided y inside).table_plays (λ _ _ _. 0) (λ _ x _ fits _. idle_reply G proper x fits) in
        let (k, l, here, _) = ((decided y inside).by_table wins P from by).1 in
        let first : k ≡ 0 = omega arith in
        subst (λ (x : Position). right x.state) (ap P.at first ∙ from) here

    until_onward : (left right : ℕ → Type 0) (X : Table) → IsTable G (until left right) X → CoalitionWins G (until left right) y → (right y.state → ⊥)
        → CoalitionWins G (until left right) (outcome G y (move_at G X y) r)
    until_onward left right X decided wins on = go (decided x (lands t X good)).rank_is
      where
        t : Objective
        t = until left right

        good : Good G X t y (move_at G X y)
        good = aimed t X decided wins (λ e. on (zero_met left right X decided wins e))

        x : Position
        x = outcome G y (move_at G X y) r

        finite : rank_at G X y ≤ never
        finite = bounded (decided y inside).rank_is
          where
            bounded : RankIs G t y (rank_at G X y) → rank_at G X y ≤ never
            bounded (inl (less, _)) = omega arith
            bounded (inr (e, _)) = omega arith

        go : RankIs G t x (rank_at G X x) → CoalitionWins G t x
        go (inl (_, ((F, keeps, met), _))) = (F, keeps, λ P from follows. won_true t (rank_at G X x) (states G P) (met P from follows))
        go (inr (e, _)) = absurd (omega (arith, good.1 r reply, finite))

    always_onward : (left : ℕ → Type 0) (X : Table) → IsTable G (always left) X → CoalitionWins G (always left) y → CoalitionWins G (always left) (outcome G y (move_at G X y) r)
    always_onward left X decided wins = go (decided x fits).one_side (decided x fits).rank_is
      where
        t : Objective
        t = always left

        good : Good G X t y (move_at G X y)
        good = aimed t X decided wins (λ e. e)

        x : Position
        x = outcome G y (move_at G X y) r

        fits : IsPosition G x
        fits = lands t X good

        forces : OpponentsWin G t x → ForcesWithin G left x (rank_at G X x)
        forces others =
            let (ρ, counter, rule) = (decided x fits).some_replies in
            (ρ, counter, λ F keeps P from follows answers. ((decided x fits).strategies_lose others ρ rule F keeps P from follows answers).0)

        go : CoalitionWins G t x ⊎ OpponentsWin G t x → RankIs G t x (rank_at G X x) → CoalitionWins G t x
        go (inl here) _ = here
        go (inr others) (inl (less, _)) = absurd (omega (arith, good.1 r reply))
        go (inr others) (inr (_, none)) = absurd (none (rank_at G X x) (forces others))

    pub onward : (t : Objective) → GoesOn t y.state → (m : ℕ) → CoalitionMove G t y m → CoalitionWins G t (outcome G y m r)
    onward t on m asked = subst (λ (k : ℕ). CoalitionWins G t (outcome G y k r)) (sym asked.move) (go t on asked.table asked.is_table asked.wins)
      where
        go : (t : Objective) → GoesOn t y.state → (X : Table) → IsTable G t X → CoalitionWins G t y → CoalitionWins G t (outcome G y (move_at G X y) r)
        go (until left right) on X decided wins = until_onward left right X decided wins on
        go (always left) on X decided wins = always_onward left X decided wins
        go (next left) on X decided wins = absurd on

  module _ (t : Objective) (X : Table) (decided : IsTable G t X) where
    -- two plays by the moves whose replies are the same so far are the same so far
    pub same_so_far : (P Q : Play G) → P.at 0 ≡ Q.at 0 → ByMoves G t P → ByMoves G t Q → (n : ℕ) → ((k : ℕ) → k < n → P.reply k ≡ Q.reply k) → P.at n ≡ Q.at n
    same_so_far P Q from moves moves' zero same = from
    same_so_far P Q from moves moves' (suc n) same =
        let here : P.at n ≡ Q.at n = same_so_far P Q from moves moves' n (λ k less. same k (omega arith)) in
        let move : P.move n ≡ Q.move n =
        moves_table G proper t X decided P moves n ∙ ap (λ (x : Position). shown (move_at G X x)) here ∙ sym (moves_table G proper t X decided Q moves' n) in
        P.step n
        ∙ ap (λ (x : Position). outcome G x (P.move n) (P.reply n)) here
        ∙ ap (λ (m : ℕ). outcome G (Q.at n) m (P.reply n)) move
        ∙ ap (outcome G (Q.at n) (Q.move n)) (same n (omega arith))
        ∙ sym (Q.step n)

    -- a play by the moves whose replies are the script's, wherever these are available
    module _ (script : List ℕ) where
      pick : {A : Type 0} → Dec A → ℕ → ℕ
      pick (yes _) r = r
      pick (no _) r = 0

      picked : {A : Type 0} (d : Dec A) (r : ℕ) → A → pick d r ≡ r
      unfolding pick
      picked (yes _) r _ = refl
      picked (no none) r h = absurd (none h)

      by_script : RecallCounter
      by_script h x m = let r = get_or script (length h) 0 in pick (reply? G x r) r

      script_counter : IsRecallCounter G by_script
      unfolding pick by_script
      script_counter h x m inside _ = go (get_or script (length h) 0) (reply? G x (get_or script (length h) 0))
        where
          go : (r : ℕ) (d : Dec (Reply G x r)) → Reply G x (pick d r)
          go r (yes reply) = reply
          go r (no _) = idle_reply G proper x inside

      turns : (P : Play G) (n : ℕ) → length (past G P n) ≡ n
      turns P zero = refl
      turns P (suc n) = ap suc (turns P n)

      pub script_play : (p : Position) → IsPosition G p → CoalitionWins G t p
          → (P : Play G) × From G p P × ByMoves G t P × ((k : ℕ) → Reply G (P.at k) (get_or script k 0) → P.reply k ≡ get_or script k 0)
      unfolding by_script
      script_play p inside wins =
          let (P, from, moves, answers) = (moves_win G proper t X decided p inside wins).plays by_script script_counter in (
            P,
            from,
            moves,
            λ k reply.
                answers k
                ∙ ap (λ (n : ℕ). pick (reply? G (P.at k) (get_or script n 0)) (get_or script n 0)) (turns P k)
                ∙ picked (reply? G (P.at k) (get_or script k 0)) (get_or script k 0) reply,
          )
