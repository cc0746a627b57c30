-- The coalition's side: from the winning facts of a table, every play by the table from a position that it claims is paid and won.
-- Assumes nothing of the rest of the table.
use mathlib.Core.Bool.{Bool, true, false, cond}
use mathlib.Core.Path.{◌≡◌, refl, sym, ◌∙◌, ap, subst}
use Prim.Native.Nat.{ℕ, zero, suc, ◌<◌}
use native.Mathlib.Decide.{ℕ_discrete}
use native.Mathlib.Nat.{pow-le-pow_right}
use native.Mathlib.Omega.{arith}
use lib.Dec.{T, eqb, eqb→eq}
use Rattle.game.specs.Rbatl.{Computation, Strategy, Coalition, Structure}
use Rattle.game.specs.Position.{Arena, Position, MoveOf, IsPosition, Allowed, outcome}
use Rattle.game.specs.Play.{Objective, next, always, until, True, Settled, Play, RecallCounter, states, From, Follows, AnswersRecall, IsRecallCounter, Afforded, Paid, KeepsWithin, Enforces}
use Rattle.game.specs.Table.{Table, never, no_move, shown, rank_at, move_at, Aim, Good, ByTable, WonOn}
use Rattle.game.specs.Inner.Facts.{Claims, Backed, WinningFacts}
use Rattle.game.proofs.Bridge.Proper.{Proper}
use Rattle.game.proofs.Numbers.Ranks.{reaches, unranked_reached}
use Rattle.game.proofs.Whole.Settled.{met_settled, next_true_settled}
use Rattle.game.proofs.Bridge.Plays.{at_fits, within_along, recall_play}
use Rattle.game.proofs.Bridge.Strategies.{as_strategy, keeps, picks}
use Rattle.game.proofs.Local.Decidable.{claims?}
use Rattle.game.proofs.Whole.Choices.{idle_allowed}

-- a move or a reply is a small number, and a small number is shown as it is
pub move_small : (S : Structure) → Proper S → (A : Coalition) (q m : ℕ) → MoveOf S A q m → m < 64
move_small S proper A q m move = omega (arith, move.0, pow-le-pow_right {n = 4} (omega arith) proper.few_agents)

pub shown_small : (m : ℕ) → m < 64 → shown m ≡ m
shown_small m l = go (eqb m no_move) (eqb→eq m no_move)
  where
    go : (t : Bool) → (T t → m ≡ no_move) → cond t 0 m ≡ m
    go true e = absurd (omega (arith, e tt))
    go false e = refl

pub won_true : (t : Objective) (n : ℕ) (λs : Computation) → WonOn t n λs → True t λs
won_true (until left right) n λs (k, _, r, before) = (k, r, before)
won_true (always left) n λs w = w
won_true (next left) n λs w = w

module _ (G : Arena) (X : Table) where
  module _ (proper : Proper G.structure) where
    shown_good : (t : Objective) (p : Position) → Good G X t p (move_at G X p) → shown (move_at G X p) ≡ move_at G X p
    shown_good t p good = shown_small (move_at G X p) (move_small G.structure proper G.coalition p.state _ good.0.0)

    -- a good move is aimed at the next position of a play by the table
    aimed : (t : Objective) (P : Play G) → ByTable G X P → (i : ℕ) → Good G X t (P.at i) (move_at G X (P.at i)) → Aim G X t (P.at i) (P.at (suc i))
    aimed t P by i good =
        subst (Aim G X t (P.at i))
        (ap (λ (m : ℕ). outcome G (P.at i) m (P.reply i)) (sym (by i ∙ shown_good t (P.at i) good)) ∙ sym (P.step i))
        (good.1 (P.reply i) (P.replied i))

    module _ (left right : ℕ → Type 0) (facts : WinningFacts G X (until left right)) (P : Play G) where
      until_reached : (i : ℕ) → rank_at G X (P.at i) ≡ 0 → right (states G P i)
      until_reached i e = ((facts.claimed (P.at i) (at_fits G proper P i) (omega arith)).0 e).0

      until_falls : ByTable G X P → (i : ℕ) → 0 < rank_at G X (P.at i) → rank_at G X (P.at i) < never → left (states G P i) × (rank_at G X (P.at (suc i)) < rank_at G X (P.at i))
      until_falls by i positive finite =
          let b = (facts.claimed (P.at i) (at_fits G proper P i) finite).1 positive in
          (b.0, aimed (until left right) P by i b.1)

    always_left : (left : ℕ → Type 0) → WinningFacts G X (always left) → (P : Play G) → ByTable G X P → rank_at G X (P.at 0) ≡ never → (i : ℕ) → (rank_at G X (P.at i) ≡ never) × left (states G P i)
    always_left left facts P by claim zero = (claim, (facts.claimed (P.at 0) P.start claim).0)
    always_left left facts P by claim (suc i) =
        let e : rank_at G X (P.at i) ≡ never = (always_left left facts P by claim i).0 in
        let e' : rank_at G X (P.at (suc i)) ≡ never = aimed (always left) P by i (facts.claimed (P.at i) (at_fits G proper P i) e).1 in
        (e', (facts.claimed (P.at (suc i)) (at_fits G proper P (suc i)) e').0)

    module _ (t : Objective) (facts : WinningFacts G X t) where
      -- what the table shows can always be paid
      pub shown_allowed : (p : Position) → IsPosition G p → Allowed G p (shown (move_at G X p))
      shown_allowed p fits = go (claims? G X t p)
        where
          backed : (t : Objective) → Backed G X t p → Allowed G p (shown (move_at G X p))
          backed (until left right) b = at_rank (ℕ_discrete (rank_at G X p) 0)
            where
              at_rank : Dec (rank_at G X p ≡ 0) → Allowed G p (shown (move_at G X p))
              at_rank (yes e) = rw (b.0 e).1 (idle_allowed G proper p fits)
              at_rank (no e) = let good = (b.1 (omega arith)).1 in rw (shown_good (until left right) p good) good.0
          backed (always left) b = rw (shown_good (always left) p b.1) b.1.0
          backed (next left) b = rw (shown_good (next left) p b) b.0

          go : Dec (Claims G X t p) → Allowed G p (shown (move_at G X p))
          go (yes c) = backed t (facts.claimed p fits c)
          go (no c) = rw (facts.unclaimed p fits c) (idle_allowed G proper p fits)

      pub table_paid : (P : Play G) → ByTable G X P → Paid G P
      table_paid P by = (paid, within_along G proper P paid)
        where
          paid : Afforded G P
          paid i = rw (by i) (shown_allowed (P.at i) (at_fits G proper P i)).1

    -- every play by the table from a claimed position is won
    pub table_won : (t : Objective) → WinningFacts G X t → (P : Play G) → ByTable G X P → Claims G X t (P.at 0) → WonOn t (rank_at G X (P.at 0)) (states G P)
    table_won (until left right) facts P by claim = reaches never _ _ (λ i. rank_at G X (P.at i)) (until_reached left right facts P) (until_falls left right facts P by) claim
    table_won (always left) facts P by claim = λ i. (always_left left facts P by claim i).1
    table_won (next left) facts P by claim = aimed (next left) P by 0 (facts.claimed (P.at 0) P.start claim)

    -- the table shows no move only where it claims nothing
    no_move_unclaimed : (t : Objective) → WinningFacts G X t → (p : Position) → IsPosition G p → move_at G X p ≡ no_move → Claims G X t p → ⊥
    no_move_unclaimed t facts p fits none claim = go t (facts.claimed p fits claim)
      where
        good_shows : (t : Objective) → Good G X t p (move_at G X p) → ⊥
        good_shows t good = omega (arith, move_small G.structure proper G.coalition p.state _ good.0.0)

        go : (t : Objective) → Backed G X t p → ⊥
        go (until left right) b = at_rank (ℕ_discrete (rank_at G X p) 0)
          where
            at_rank : Dec (rank_at G X p ≡ 0) → ⊥
            at_rank (yes e) = omega (arith, (b.0 e).1)
            at_rank (no e) = good_shows (until left right) (b.1 (omega arith)).1
        go (always left) b = good_shows (always left) b.1
        go (next left) b = good_shows (next left) b

    pub table_idles_settled : (t : Objective) → WinningFacts G X t → (P : Play G) → ByTable G X P → Claims G X t (P.at 0) → (n : ℕ) → move_at G X (P.at n) ≡ no_move → Settled t (states G P) n
    table_idles_settled (until left right) facts P by claim n none =
        met_settled left (states G P) n right
        (unranked_reached never _ _ (λ i. rank_at G X (P.at i)) (until_reached left right facts P) (until_falls left right facts P by) claim n
        (no_move_unclaimed (until left right) facts (P.at n) (at_fits G proper P n) none))
    table_idles_settled (always left) facts P by claim n none =
        absurd (no_move_unclaimed (always left) facts (P.at n) (at_fits G proper P n) none (always_left left facts P by claim n).0)
    table_idles_settled (next left) facts P by claim zero none = absurd (no_move_unclaimed (next left) facts (P.at 0) P.start none claim)
    table_idles_settled (next left) facts P by claim (suc n) none = next_true_settled left (states G P) n (table_won (next left) facts P by claim)

    -- the table read as a strategy, and its play whatever the replies
    module _ (t : Objective) (facts : WinningFacts G X t) (p : Position) (fits : IsPosition G p) where
      table_strategy : Strategy
      table_strategy = as_strategy G proper (λ x. shown (move_at G X x)) (shown_allowed t facts) p.stock

      table_keeps : KeepsWithin G p table_strategy
      unfolding table_strategy
      table_keeps = keeps G proper (λ x. shown (move_at G X x)) (shown_allowed t facts) p.stock p.state fits

      table_follows : (P : Play G) → From G p P → Follows G table_strategy P → ByTable G X P
      unfolding table_strategy
      table_follows P from follows = picks G proper (λ x. shown (move_at G X x)) (shown_allowed t facts) p.stock fits.1 P (ap (λ (x : Position). x.stock) from) follows

      pub table_against : (ρ : RecallCounter) → IsRecallCounter G ρ → (P : Play G) × From G p P × ByTable G X P × AnswersRecall G ρ P
      table_against ρ counter = recall_play G proper (λ _ x. shown (move_at G X x)) (λ _ x inside. (shown_allowed t facts x inside).0) ρ counter p fits

      -- a claimed position is won by the table's moves, and an until row within the rank that it shows
      pub claimed_won : Claims G X t p → Enforces G p (WonOn t (rank_at G X p))
      claimed_won claim = (
        table_strategy,
        table_keeps,
        λ P from follows.
            subst (λ (x : Position). WonOn t (rank_at G X x) (states G P)) from
            (table_won t facts P (table_follows P from follows) (subst (Claims G X t) (sym from) claim)),
      )
