-- Play against the reply rule: from a position that the coalition does not win, the row comes out false, an always row within the rank,
-- and a position that the coalition wins comes only after the row is settled. Assumes nothing.
use mathlib.Core.Path.{◌≡◌, refl, sym, ◌∙◌, ap, subst}
use Prim.Native.Nat.{ℕ, zero, suc, ◌<◌}
use native.Mathlib.Decide.{dec_lt}
use native.Mathlib.Omega.{arith}
use Rattle.game.specs.Rbatl.{Strategy}
use Rattle.game.specs.Position.{Arena, Position, IsPosition, Reply, Allowed, outcome}
use Rattle.game.specs.Play.{Objective, next, always, until, Settled, Play, CounterStrategy, RecallStrategy, states, From, Follows, Answers, IsCounterStrategy, past, FollowsRecall, IsRecallStrategy, Afforded, KeepsWithin}
use Rattle.game.specs.Table.{Table, never, rank_at, Failed, CounterAim, ReplyRule, LostOn}
use Rattle.game.specs.Inner.Facts.{Claims, RankFacts, RowsDecided}
use Rattle.game.proofs.Bridge.Proper.{Proper}
use Rattle.game.proofs.Numbers.Ranks.{reaches, unranked_reached, never_reaches, ranked_spoilt}
use Rattle.game.proofs.Whole.Settled.{spoilt_settled, false_settled, next_false_settled}
use Rattle.game.proofs.Bridge.Plays.{at_fits, strategy_paid, recall_play, play_against}
use Rattle.game.proofs.Local.Decidable.{allowed?}
use Rattle.game.proofs.Whole.Choices.{idle_reply}

module _ (G : Arena) (proper : Proper G.structure) (X : Table) (Won : Position → Type 0) (ρ : CounterStrategy) (P : Play G) (answers : Answers G ρ P) (paid : Afforded G P) where
  abbrev rank_of : ℕ → ℕ
  rank_of i = rank_at G X (P.at i)

  counter_aimed : (t : Objective) → ReplyRule G X t Won ρ → (i : ℕ) → (Won (P.at i) → ⊥) → (Failed G X t (P.at i) → ⊥) → CounterAim G X t Won (P.at i) (P.at (suc i))
  counter_aimed t rule i lost unsettled =
      subst (CounterAim G X t Won (P.at i))
      (ap (outcome G (P.at i) (P.move i)) (sym (answers i)) ∙ sym (P.step i))
      ((rule (P.at i) (P.move i) (at_fits G proper P i) (P.moved i, paid i)).best lost unsettled).0.1

  module _ (left right : ℕ → Type 0) (ranks : RankFacts G (until left right) (rank_at G X)) (rule : ReplyRule G X (until left right) Won ρ)
      (won-claims : (x : Position) → IsPosition G x → Won x → Claims G X (until left right) x) (claims-won : (x : Position) → IsPosition G x → Claims G X (until left right) x → Won x)
      (unclaimed : Claims G X (until left right) (P.at 0) → ⊥) where
    start : rank_of 0 ≡ never
    start = omega (arith, ranks.sound.bounded (P.at 0) P.start)

    goal : (i : ℕ) → right (states G P i) → rank_of i ≡ 0
    goal i r = ranks.sound.goal (P.at i) (at_fits G proper P i) r

    stays : (i : ℕ) → left (states G P i) → rank_of i ≡ never → rank_of (suc i) ≡ never
    stays i l e = go (dec_lt (rank_of (suc i)) never)
      where
        still : Won (P.at (suc i)) → ⊥
        still = counter_aimed (until left right) rule i (λ w. omega (arith, won-claims (P.at i) (at_fits G proper P i) w)) (λ f. f.0 l)

        go : Dec (rank_of (suc i) < never) → rank_of (suc i) ≡ never
        go (yes h) = absurd (still (claims-won (P.at (suc i)) (at_fits G proper P (suc i)) h))
        go (no h) = omega (arith, ranks.sound.bounded (P.at (suc i)) (at_fits G proper P (suc i)))

    until_replies : RowsDecided G (until left right) → LostOn (until left right) (rank_of 0) (states G P) × ((n : ℕ) → Won (P.at n) → Settled (until left right) (states G P) n)
    until_replies rows = (
      (λ (k, r, before). never_reaches never (λ i. left (states G P i)) (λ i. right (states G P i)) rank_of goal (omega arith) start stays k (k, omega arith, r, before)),
      λ n w. spoilt_settled left (states G P) n right
          (ranked_spoilt never (λ i. left (states G P i)) (λ i. right (states G P i)) rank_of goal (omega arith) start stays
          (λ i. rows.0 (states G P i) (at_fits G proper P i).0) n (won-claims (P.at n) (at_fits G proper P n) w)),
    )

  module _ (left : ℕ → Type 0) (ranks : RankFacts G (always left) (rank_at G X)) (rule : ReplyRule G X (always left) Won ρ)
      (won-claims : (x : Position) → IsPosition G x → Won x → Claims G X (always left) x)
      (unclaimed : Claims G X (always left) (P.at 0) → ⊥) where
    reached : (i : ℕ) → rank_of i ≡ 0 → left (states G P i) → ⊥
    reached i e = ranks.sound.reached (P.at i) (at_fits G proper P i) e

    falls : (i : ℕ) → 0 < rank_of i → rank_of i < never → Unit {0} × (rank_of (suc i) < rank_of i)
    falls i positive finite =
        (tt, counter_aimed (always left) rule i (λ w. omega (arith, won-claims (P.at i) (at_fits G proper P i) w)) (λ f. omega arith))

    finite : rank_of 0 < never
    finite = omega (arith, ranks.sound.bounded (P.at 0) P.start)

    always_replies : LostOn (always left) (rank_of 0) (states G P) × ((n : ℕ) → Won (P.at n) → Settled (always left) (states G P) n)
    always_replies =
        let found = reaches never (λ _. Unit {0}) (λ i. left (states G P i) → ⊥) rank_of reached falls finite in (
          (found.0, found.1, found.2),
          λ n w.
              let early = unranked_reached never (λ _. Unit {0}) (λ i. left (states G P i) → ⊥) rank_of reached falls finite n (λ h. omega (arith, won-claims (P.at n) (at_fits G proper P n) w)) in
              false_settled left (states G P) n (early.0, early.1, early.2),
        )

  module _ (left : ℕ → Type 0) (rule : ReplyRule G X (next left) Won ρ)
      (won-claims : (x : Position) → IsPosition G x → Won x → Claims G X (next left) x)
      (unclaimed : Claims G X (next left) (P.at 0) → ⊥) where
    fails : left (states G P 1) → ⊥
    fails = counter_aimed (next left) rule 0 (λ w. unclaimed (won-claims (P.at 0) P.start w)) (λ f. f)

    next_settled : (n : ℕ) → Won (P.at n) → Settled (next left) (states G P) n
    next_settled zero w = absurd (unclaimed (won-claims (P.at 0) P.start w))
    next_settled (suc n) w = next_false_settled left (states G P) n fails

  pub replies_win : (t : Objective) → RankFacts G t (rank_at G X) → RowsDecided G t → ReplyRule G X t Won ρ
      → ((x : Position) → IsPosition G x → Won x → Claims G X t x) → ((x : Position) → IsPosition G x → Claims G X t x → Won x)
      → (Claims G X t (P.at 0) → ⊥)
      → LostOn t (rank_of 0) (states G P) × ((n : ℕ) → Won (P.at n) → Settled t (states G P) n)
  replies_win (until left right) ranks rows rule won-claims claims-won unclaimed = until_replies left right ranks rule won-claims claims-won unclaimed rows
  replies_win (always left) ranks rows rule won-claims claims-won unclaimed = always_replies left ranks rule won-claims unclaimed
  replies_win (next left) ranks rows rule won-claims claims-won unclaimed = (fails left rule won-claims unclaimed, next_settled left rule won-claims unclaimed)

-- the reply rule has a play against every strategy within the stock, and against affordable moves however they are chosen
module _ (G : Arena) (proper : Proper G.structure) (X : Table) (t : Objective) (Won : Position → Type 0) (ρ : CounterStrategy) (rule : ReplyRule G X t Won ρ)
    (won? : (p : Position) → IsPosition G p → Dec (Won p)) (failed? : (p : Position) → IsPosition G p → Dec (Failed G X t p)) where
  reply_available : (p : Position) (m : ℕ) → IsPosition G p → Allowed G p m → Reply G p (ρ p m)
  reply_available p m fits a = go (won? p fits) (failed? p fits)
    where
      go : Dec (Won p) → Dec (Failed G X t p) → Reply G p (ρ p m)
      go (yes wins) d = rw ((rule p m fits a).won wins) (idle_reply G proper p fits)
      go (no loses) (yes over) = rw ((rule p m fits a).failed over) (idle_reply G proper p fits)
      go (no loses) (no unsettled) = ((rule p m fits a).best loses unsettled).0.0

  -- as the rule at affordable moves, and idle elsewhere
  patched_at : (p : Position) (m : ℕ) → Dec (Allowed G p m) → ℕ
  patched_at p m (yes _) = ρ p m
  patched_at p m (no _) = 0

  patched : CounterStrategy
  patched p m = patched_at p m (allowed? G p m)

  patched_counter : IsCounterStrategy G patched
  unfolding patched patched_at
  patched_counter p m fits _ = go (allowed? G p m)
    where
      go : (d : Dec (Allowed G p m)) → Reply G p (patched_at p m d)
      go (yes a) = reply_available p m fits a
      go (no _) = idle_reply G proper p fits

  patched_is : (p : Position) (m : ℕ) → Allowed G p m → patched p m ≡ ρ p m
  unfolding patched patched_at
  patched_is p m a = go (allowed? G p m)
    where
      go : (d : Dec (Allowed G p m)) → patched_at p m d ≡ ρ p m
      go (yes _) = refl
      go (no fails) = absurd (fails a)

  -- replies as patched are the rule's on a play whose moves are affordable
  rule_answers : (P : Play G) → Answers G patched P → Afforded G P → Answers G ρ P
  rule_answers P answers paid i = answers i ∙ patched_is (P.at i) (P.move i) (P.moved i, paid i)

  pub replies_against : (p : Position) → IsPosition G p → (F : Strategy) → KeepsWithin G p F → (P : Play G) × From G p P × Follows G F P × Answers G ρ P
  replies_against p fits F keeps =
      let (P, from, follows, answers) = play_against G proper F keeps.0 patched patched_counter p fits in
      (P, from, follows, rule_answers P answers (strategy_paid G proper p F keeps P from follows))

  -- and against affordable moves, however they are chosen
  pub replies_recall : (p : Position) → IsPosition G p → (μ : RecallStrategy) → IsRecallStrategy G μ → (P : Play G) × From G p P × FollowsRecall G μ P × Answers G ρ P
  replies_recall p fits μ allowed =
      let (P, from, follows, answers) = recall_play G proper μ (λ h x inside. (allowed h x inside).0) (λ _. patched) (λ _. patched_counter) p fits in
      (P, from, follows, rule_answers P answers (λ i. rw (follows i) (allowed (past G P i) (P.at i) (at_fits G proper P i)).1))
