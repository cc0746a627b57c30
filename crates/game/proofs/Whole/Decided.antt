-- Demand 3: from the local facts of a table, every position is decided, about whole plays without end. Assumes nothing: who wins is
-- read off the rank.
use mathlib.Core.Logic.{◌⊎◌, inl, inr}
use mathlib.Core.Path.{◌≡◌, sym, subst}
use Prim.Native.Nat.{ℕ, ◌<◌}
use native.Mathlib.Decide.{dec_lt, ℕ_discrete}
use native.Mathlib.Omega.{arith}
use Rattle.game.specs.Rbatl.{Computation, Strategy}
use Rattle.game.specs.Position.{Arena, Position, IsPosition, Reply, Allowed, outcome}
use Rattle.game.specs.Play.{Objective, next, always, until, True, MetWithin, FalseWithin, Settled, Play, CounterStrategy, states, From, Answers, IsCounterStrategy, Afforded, KeepsWithin, Enforces, Forces, CoalitionWins, OpponentsWin}
use Rattle.game.specs.Table.{Table, never, rank_at, move_at, RankIs, RankBelow, MoveIs, Failed, CounterAim, ReplyIs, ReplyRule, WonOn, LostOn, Decided}
use Rattle.game.specs.Inner.Facts.{CanForce, CanAnswer, RankFacts, Claims, Backed, WinningFacts, Facts}
use Rattle.game.proofs.Bridge.Proper.{Proper}
use Rattle.game.proofs.Bridge.Plays.{outcome_fits, strategy_paid, play_against}
use Rattle.game.proofs.Bridge.Strategies.{as_strategy, keeps}
use Rattle.game.proofs.Whole.Choices.{idle_allowed, idle_reply}
use Rattle.game.proofs.Whole.Bounded.{force_answer, answer_force, rank_below}
use Rattle.game.proofs.Whole.Winning.{won_true, table_won, table_paid, table_idles_settled, table_against, claimed_won}
use Rattle.game.proofs.Local.Decidable.{position?, allowed?, claims?}
use Rattle.game.proofs.Local.Aims.{failed?}
use Rattle.game.proofs.Local.Exist.{reply_exists}
use Rattle.game.proofs.Whole.Losing.{forces_strategies, unclaimed_lost, no_sooner}
use Rattle.game.proofs.Whole.Replies.{replies_win, replies_against, replies_recall}

-- a strategy and a counter-strategy have a play, so their claims cannot contradict each other
pub clash : (G : Arena) → Proper G.structure → (p : Position) → IsPosition G p → (U W : Computation → Type 0) → ((λs : Computation) → U λs → W λs → ⊥) → Enforces G p U → Forces G p W → ⊥
clash G proper p fits U W apart (F, keeps, u) (ρ, counter, w) =
    let (P, from, follows, answers) = play_against G proper F keeps.0 ρ counter p fits in
    apart (states G P) (u P from follows) (w F keeps P from follows answers)

-- what the losing side gets makes the row false
pub lost_false : (t : Objective) (n : ℕ) (λs : Computation) → LostOn t n λs → True t λs → ⊥
lost_false (until left right) n λs lost = lost
lost_false (always left) n λs (k, _, fails) = λ all. fails (all k)
lost_false (next left) n λs lost = lost

module _ (G : Arena) (proper : Proper G.structure) (X : Table) where
  -- the winning half of the facts
  pub facts_winning : (t : Objective) → Facts G X t → WinningFacts G X t
  facts_winning t facts = record { claimed = λ p fits claim. back t facts p fits claim; unclaimed = λ p fits unclaimed. (facts.moves p fits).lost unclaimed }
    where
      back : (t : Objective) → Facts G X t → (p : Position) → IsPosition G p → Claims G X t p → Backed G X t p
      back (until left right) facts p fits claim = (
        (λ e. (facts.ranks.sound.reached p fits e, (facts.moves p fits).met claim e)),
        λ positive. (facts.ranks.sound.safe p fits positive claim, ((facts.moves p fits).best claim (λ e. omega arith)).0),
      )
      back (always left) facts p fits claim = (holds (facts.decided p.state fits.0), ((facts.moves p fits).best claim (λ e. e)).0)
        where
          holds : Dec (left p.state) → left p.state
          holds (yes h) = h
          holds (no fails) = absurd (omega (arith, facts.ranks.sound.goal p fits fails))
      back (next left) facts p fits claim = ((facts.moves p fits).best claim (λ e. e)).0

  module _ (t : Objective) (facts : Facts G X t) where
    pub claims_win : (p : Position) → IsPosition G p → Claims G X t p → CoalitionWins G t p
    claims_win p fits claim =
        let (F, keeps, won) = claimed_won G X proper t (facts_winning t facts) p fits claim in
        (F, keeps, λ P from follows. won_true t (rank_at G X p) (states G P) (won P from follows))

    pub unclaimed_opponents : (p : Position) → IsPosition G p → (Claims G X t p → ⊥) → OpponentsWin G t p
    unclaimed_opponents p fits unclaimed =
        let (ρ, counter, lost) = unclaimed_lost G proper X t facts.ranks facts.decided p fits unclaimed in
        forces_strategies G proper p (λ λs. True t λs → ⊥) (ρ, counter, λ P from paid answers. lost_false t (rank_at G X p) (states G P) (lost P from paid answers))

    pub not_both_win : (p : Position) → IsPosition G p → CoalitionWins G t p → OpponentsWin G t p → ⊥
    not_both_win p fits = clash G proper p fits (True t) (λ λs. True t λs → ⊥) (λ λs h fails. fails h)

    -- the coalition wins exactly where the table claims it
    pub wins_claimed : (p : Position) → IsPosition G p → CoalitionWins G t p → Claims G X t p
    wins_claimed p fits wins = go (claims? G X t p)
      where
        go : Dec (Claims G X t p) → Claims G X t p
        go (yes claim) = claim
        go (no unclaimed) = absurd (not_both_win p fits wins (unclaimed_opponents p fits unclaimed))

  -- the rank is what plays say
  until_rank : (left right : ℕ → Type 0) → Facts G X (until left right) → (p : Position) → IsPosition G p → RankIs G (until left right) p (rank_at G X p)
  until_rank left right facts p fits = go (dec_lt (rank_at G X p) never)
    where
      t : Objective
      t = until left right

      go : Dec (rank_at G X p < never) → RankIs G (until left right) p (rank_at G X p)
      go (yes finite) =
          inl (
            finite,
            (
              claimed_won G X proper t (facts_winning t facts) p fits finite,
              λ k less (F, keeps, met).
                  let (P, from, follows, slow) = (no_sooner G proper X t facts.ranks facts.decided p fits).0 F keeps in
                  slow k less (met P from follows),
            ),
          )
      go (no unclaimed) =
          inr (
            omega (arith, facts.ranks.sound.bounded p fits),
            λ k enforces.
                clash G proper p fits (λ λs. MetWithin left right λs k) (LostOn t (rank_at G X p)) (λ λs (j, _, r, before) lost. lost (j, r, before)) enforces
                (forces_strategies G proper p (LostOn t (rank_at G X p)) (unclaimed_lost G proper X t facts.ranks facts.decided p fits unclaimed)),
          )

  always_rank : (left : ℕ → Type 0) → Facts G X (always left) → (p : Position) → IsPosition G p → RankIs G (always left) p (rank_at G X p)
  always_rank left facts p fits = go (ℕ_discrete (rank_at G X p) never)
    where
      t : Objective
      t = always left

      go : Dec (rank_at G X p ≡ never) → RankIs G (always left) p (rank_at G X p)
      go (yes claim) =
          inr (
            claim,
            λ k forces.
                clash G proper p fits (True t) (λ λs. FalseWithin left λs k) (λ λs all (j, _, fails). fails (all j))
                (claimed_won G X proper t (facts_winning t facts) p fits claim) forces,
          )
      go (no unclaimed) =
          inl (
            omega (arith, facts.ranks.sound.bounded p fits),
            (
              forces_strategies G proper p (LostOn t (rank_at G X p)) (unclaimed_lost G proper X t facts.ranks facts.decided p fits unclaimed),
              λ k less forces.
                  clash G proper p fits (λ λs. (j : ℕ) → j < rank_at G X p → left (λs j)) (λ λs. FalseWithin left λs k) (λ λs slow (j, l, fails). fails (slow j (omega arith)))
                  (no_sooner G proper X t facts.ranks facts.decided p fits) forces,
            ),
          )

  next_rank_lem : (left : ℕ → Type 0) → Facts G X (next left) → (p : Position) → IsPosition G p → RankIs G (next left) p (rank_at G X p)
  next_rank_lem left facts p fits = go (facts.ranks p fits)
    where
      go : ((rank_at G X p ≡ 1) × CanForce G p (λ x. left x.state)) ⊎ ((rank_at G X p ≡ never) × CanAnswer G p (λ x. left x.state → ⊥)) → RankIs G (next left) p (rank_at G X p)
      go (inl (e, _)) = inl (e, claims_win (next left) facts p fits e)
      go (inr (e, _)) = inr (e, λ wins. omega (arith, wins_claimed (next left) facts p fits wins))

  pub rank_by_plays : (t : Objective) → Facts G X t → (p : Position) → IsPosition G p → RankIs G t p (rank_at G X p)
  rank_by_plays (until left right) = until_rank left right
  rank_by_plays (always left) = always_rank left
  rank_by_plays (next left) = next_rank_lem left

  -- a finite rank is below the number of positions
  pub rank_small : (t : Objective) → RankFacts G t (rank_at G X) → (p : Position) → IsPosition G p → RankBelow G X t p
  rank_small (until left right) ranks p fits = rank_below G (CanForce G) (CanAnswer G) (force_answer G proper) left right X.rank ranks p fits
  rank_small (always left) ranks p fits = rank_below G (CanAnswer G) (CanForce G) (answer_force G proper) (λ q. Unit {0}) (λ q. left q → ⊥) X.rank ranks p fits
  rank_small (next left) ranks p fits = tt

  module _ (t : Objective) (facts : Facts G X t) where
    move_by_plays : (p : Position) → IsPosition G p → MoveIs G X t (CoalitionWins G t) p (move_at G X p)
    move_by_plays p fits = record {
      lost = λ loses. (facts.moves p fits).lost (λ claim. loses (claims_win t facts p fits claim));
      met = λ wins. (facts.moves p fits).met (wins_claimed t facts p fits wins);
      best = λ wins. (facts.moves p fits).best (wins_claimed t facts p fits wins);
    }

    -- a reply by the ranks is a reply by plays
    pub reply_by_plays : (p : Position) → IsPosition G p → (m r : ℕ) → Allowed G p m → ReplyIs G X t (Claims G X t) p m r → ReplyIs G X t (CoalitionWins G t) p m r
    reply_by_plays p fits m r a at = record {
      won = λ wins. at.won (wins_claimed t facts p fits wins);
      failed = at.failed;
      best = λ loses unsettled.
          let (best, none) = at.best (λ claim. loses (claims_win t facts p fits claim)) unsettled in
          ((best.0, aim t (wins_claimed t facts) r best.0 best.1), λ k less (reply, aims). none k less (reply, back t (claims_win t facts) k reply aims));
    }
      where
        lands : (k : ℕ) → Reply G p k → IsPosition G (outcome G p m k)
        lands k reply = outcome_fits G proper p m k fits a.0 reply

        aim : (t : Objective) → ((x : Position) → IsPosition G x → CoalitionWins G t x → Claims G X t x) → (k : ℕ) → Reply G p k → CounterAim G X t (Claims G X t) p (outcome G p m k) → CounterAim G X t (CoalitionWins G t) p (outcome G p m k)
        aim (until left right) claimed k reply loses = λ wins. loses (claimed (outcome G p m k) (lands k reply) wins)
        aim (always left) claimed k reply lower = lower
        aim (next left) claimed k reply fails = fails

        back : (t : Objective) → ((x : Position) → IsPosition G x → Claims G X t x → CoalitionWins G t x) → (k : ℕ) → Reply G p k → CounterAim G X t (CoalitionWins G t) p (outcome G p m k) → CounterAim G X t (Claims G X t) p (outcome G p m k)
        back (until left right) wins k reply loses = λ claim. loses (wins (outcome G p m k) (lands k reply) claim)
        back (always left) wins k reply lower = lower
        back (next left) wins k reply fails = fails

    side : (p : Position) → IsPosition G p → CoalitionWins G t p ⊎ OpponentsWin G t p
    side p fits = go (claims? G X t p)
      where
        go : Dec (Claims G X t p) → CoalitionWins G t p ⊎ OpponentsWin G t p
        go (yes claim) = inl (claims_win t facts p fits claim)
        go (no unclaimed) = inr (unclaimed_opponents t facts p fits unclaimed)

    -- so there is a reply rule, and it is a counter-strategy
    reply_rule : (ρ : CounterStrategy) × IsCounterStrategy G ρ × ReplyRule G X t (CoalitionWins G t) ρ
    reply_rule = (ρ, counter, rule)
      where
        answered : (p : Position) (m : ℕ) → Dec (IsPosition G p) → Dec (Allowed G p m) → ℕ
        answered p m (yes fits) (yes a) = (reply_exists G X proper t facts p fits m a).0
        answered p m (yes fits) (no _) = 0
        answered p m (no _) d = 0

        ρ : CounterStrategy
        ρ p m = answered p m (position? G p) (allowed? G p m)

        counter : IsCounterStrategy G ρ
        counter p m fits _ = go (position? G p) (allowed? G p m)
          where
            go : (d : Dec (IsPosition G p)) (e : Dec (Allowed G p m)) → Reply G p (answered p m d e)
            go (yes fits') (yes a) = (reply_exists G X proper t facts p fits' m a).1
            go (yes _) (no _) = idle_reply G proper p fits
            go (no _) e = idle_reply G proper p fits

        rule : ReplyRule G X t (CoalitionWins G t) ρ
        rule p m fits a = go (position? G p) (allowed? G p m)
          where
            go : (d : Dec (IsPosition G p)) (e : Dec (Allowed G p m)) → ReplyIs G X t (CoalitionWins G t) p m (answered p m d e)
            go (yes fits') (yes a') =
                let (r, _, at) = reply_exists G X proper t facts p fits' m a' in
                reply_by_plays p fits m r a at
            go (yes _) (no fails) = absurd (fails a)
            go (no fails) e = absurd (fails fits)

    -- to idle keeps within every stock
    idle_strategy : (p : Position) → IsPosition G p → (F : Strategy) × KeepsWithin G p F
    idle_strategy p fits =
        let allowed = idle_allowed G proper in
        (as_strategy G proper (λ _. 0) allowed p.stock, keeps G proper (λ _. 0) allowed p.stock p.state fits)

    -- against the rule, every play whose moves are affordable is lost
    replies_beat : (p : Position) → IsPosition G p → OpponentsWin G t p → (ρ : CounterStrategy) → ReplyRule G X t (CoalitionWins G t) ρ → (P : Play G) → From G p P → Afforded G P → Answers G ρ P
        → LostOn t (rank_at G X p) (states G P) × ((n : ℕ) → CoalitionWins G t (P.at n) → Settled t (states G P) n)
    replies_beat p fits loses ρ rule P from paid answers =
        let (lost, settled) = replies_win G proper X (CoalitionWins G t) ρ P answers paid t facts.ranks facts.decided rule (wins_claimed t facts) (claims_win t facts)
        (λ claim. not_both_win t facts p fits (claims_win t facts p fits (subst (Claims G X t) from claim)) loses) in
        (subst (λ (x : Position). LostOn t (rank_at G X x) (states G P)) from lost, settled)

    -- demand 3
    pub decided : (p : Position) → IsPosition G p → Decided G X t p
    decided p fits = record {
      one_side = side p fits;
      not_both = not_both_win t facts p fits;
      rank_is = rank_by_plays t facts p fits;
      rank_below = rank_small t facts.ranks p fits;
      no_sooner = no_sooner G proper X t facts.ranks facts.decided p fits;
      move_is = move_by_plays p fits;
      some_replies = reply_rule;
      some_strategy = idle_strategy p fits;
      table_plays = table_against G X proper t (facts_winning t facts) p fits;
      reply_plays = λ ρ rule. replies_against G proper X t (CoalitionWins G t) ρ rule wins? over? p fits;
      recall_plays = λ ρ rule. replies_recall G proper X t (CoalitionWins G t) ρ rule wins? over? p fits;
      by_table = λ wins P from by. (
        table_paid G X proper t (facts_winning t facts) P by,
        subst (λ (x : Position). WonOn t (rank_at G X x) (states G P)) from (table_won G X proper t (facts_winning t facts) P by (claimed P from wins)),
      );
      idles_settled = λ wins P from by. table_idles_settled G X proper t (facts_winning t facts) P by (claimed P from wins);
      by_replies = replies_beat p fits;
      strategies_lose = λ loses ρ rule F keeps P from follows. replies_beat p fits loses ρ rule P from (strategy_paid G proper p F keeps P from follows);
    }
      where
        wins? : (x : Position) → IsPosition G x → Dec (CoalitionWins G t x)
        wins? x inside = go (claims? G X t x)
          where
            go : Dec (Claims G X t x) → Dec (CoalitionWins G t x)
            go (yes claim) = yes (claims_win t facts x inside claim)
            go (no unclaimed) = no (λ wins. unclaimed (wins_claimed t facts x inside wins))

        over? : (x : Position) → IsPosition G x → Dec (Failed G X t x)
        over? x inside = failed? G proper X x inside t facts.decided

        claimed : (P : Play G) → From G p P → CoalitionWins G t p → Claims G X t (P.at 0)
        claimed P from wins = subst (Claims G X t) (sym from) (wins_claimed t facts p fits wins)
