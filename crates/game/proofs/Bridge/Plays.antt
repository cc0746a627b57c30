-- Plays on positions against the computations of document 003: each is the other with or without its stocks, which are those that a strategy
-- leaves. Assumes nothing.
use mathlib.Core.Bool.{Bool, true, false, cond}
use mathlib.Core.List.{List, [], ◌∷◌}
use mathlib.Core.Path.{◌≡◌, refl, sym, ◌∙◌, ap, ap₂, subst, subst₂, fun_ext}
use Prim.Native.Nat.{ℕ, zero, suc, ◌+◌, ◌<◌}
use native.Mathlib.Omega.{arith}
use lib.Dec.{T}
use Rattle.block.specs.Layout.{digit}
use Rattle.game.specs.Rbatl.{Pays, remaining, Joint, Coalition, Structure, Strategy, Computation, prefix, IsMove, IsStrategy, Agree, Consistent, move_cost, move_charge, stock_after}
use Rattle.game.specs.Position.{Arena, Position, joint, opponents, MoveOf, IsPosition, Move, Reply, cost, charge, outcome, part}
use Rattle.game.specs.Play.{Play, CounterStrategy, Turn, RecallStrategy, RecallCounter, states, spent_on, charged_on, From, Follows, Answers, IsCounterStrategy, past, FollowsRecall, AnswersRecall, IsRecallCounter, Afforded, KeepsWithin}
use Rattle.game.proofs.Numbers.Joint.{joint_cong, joint_parts, digit_joint}
use Rattle.game.proofs.Bridge.Proper.{Proper}
use Rattle.game.proofs.Bridge.Moves.{together_digit, together_available, number_move, number_agrees, number_cost, number_charge}
use Rattle.game.proofs.Numbers.Stocks.{Ledger, affordable_within, remaining_fits}

-- a strategy's move at the end of a prefix
pub moves : (S : Structure) (A : Coalition) (F : Strategy) → IsStrategy S A F → (λs : Computation) (i : ℕ) → λs i < S.states → IsMove S A (λs i) (F (prefix λs i))
moves S A F strategy λs zero l = strategy (λs 0) [] l
moves S A F strategy λs (suc i) l = strategy (λs (suc i)) (prefix λs i) l

-- a computation of a strategy stays among the states
pub stays_inside : (S : Structure) → Proper S → (A : Coalition) (F : Strategy) (λs : Computation) → λs 0 < S.states → Consistent S A F λs → (i : ℕ) → λs i < S.states
stays_inside S proper A F λs starts consistent zero = starts
stays_inside S proper A F λs starts consistent (suc i) =
    rw (← (consistent i).3) (proper.next_fits (λs i) (consistent i).0 (stays_inside S proper A F λs starts consistent i) (consistent i).1)

module _ (G : Arena) (proper : Proper G.structure) where
  -- the number of the coalition's move at a history
  abbrev pub move_by : Strategy → List ℕ → ℕ
  move_by F h = joint G.structure.agents (part G.coalition (F h))

  -- what the n-th move of a strategy takes along a computation, and what it gives
  abbrev pub takes_at : Strategy → Computation → ℕ → ℕ → ℕ
  takes_at F λs n r = move_cost G.structure G.coalition (λs n) (F (prefix λs n)) r

  abbrev pub gives_at : Strategy → Computation → ℕ → ℕ → ℕ
  gives_at F λs n r = move_charge G.structure G.coalition (λs n) (F (prefix λs n)) r

  pub outcome_fits : (p : Position) (m r : ℕ) → IsPosition G p → Move G p m → Reply G p r → IsPosition G (outcome G p m r)
  outcome_fits p m r fits move reply = (
    proper.next_fits p.state (digit (m + r)) fits.0 (together_available G.structure proper G.coalition p.state m r move reply),
    λ j l. remaining_fits (G.bounds j) (p.stock j) (cost G p m j) (charge G p m j) (fits.1 j l),
  )

  pub at_fits : (P : Play G) (i : ℕ) → IsPosition G (P.at i)
  at_fits P zero = P.start
  at_fits P (suc i) = rw (P.step i) (outcome_fits (P.at i) (P.move i) (P.reply i) (at_fits P i) (P.moved i) (P.replied i))

  -- the states of a play that follows F are a computation of F
  pub play_consistent : (F : Strategy) → IsStrategy G.structure G.coalition F → (P : Play G) → Follows G F P → Consistent G.structure G.coalition F (states G P)
  play_consistent F strategy P follows i = (digit (m + r), together_available S proper A q m r move reply, agrees, sym (ap (λ (x : Position). x.state) (P.step i)))
    where
      S : Structure
      S = G.structure

      A : Coalition
      A = G.coalition

      q : ℕ
      q = (P.at i).state

      m : ℕ
      m = P.move i

      r : ℕ
      r = P.reply i

      move : MoveOf S A q m
      move = P.moved i

      reply : MoveOf S (opponents A) q r
      reply = P.replied i

      σ : Joint
      σ = F (prefix (states G P) i)

      inside : q < S.states
      inside = (at_fits P i).0

      first : (t : Bool) (k l : ℕ) → T t → cond t k l ≡ k
      first true k l _ = refl
      first false k l h = absurd h

      agrees : Agree S A (digit (m + r)) σ
      agrees a l t =
          together_digit S proper A q m r move reply a l
          ∙ first (A a) (digit m a) (digit r a) t
          ∙ ap (λ (x : ℕ). digit x a) (follows i)
          ∙ number_agrees S proper A q inside σ (moves S A F strategy (states G P) i inside) a l t

  -- what the moves of a play take and give is what F's take and give, and so are the stocks
  module _ (F : Strategy) (strategy : IsStrategy G.structure G.coalition F) (P : Play G) (follows : Follows G F P) where
    inside_at : (n : ℕ) → (P.at n).state < G.structure.states
    inside_at n = (at_fits P n).0

    move_at : (n : ℕ) → IsMove G.structure G.coalition (P.at n).state (F (prefix (states G P) n))
    move_at n = moves G.structure G.coalition F strategy (states G P) n (inside_at n)

    pub same_cost : (n r : ℕ) → takes_at F (states G P) n r ≡ cost G (P.at n) (P.move n) r
    same_cost n r =
        sym (number_cost G.structure proper G.coalition (P.at n).state (inside_at n) (F (prefix (states G P) n)) (move_at n) r)
        ∙ ap (λ (m : ℕ). cost G (P.at n) m r) (sym (follows n))

    pub same_charge : (n r : ℕ) → gives_at F (states G P) n r ≡ charge G (P.at n) (P.move n) r
    same_charge n r =
        sym (number_charge G.structure proper G.coalition (P.at n).state (inside_at n) (F (prefix (states G P) n)) (move_at n) r)
        ∙ ap (λ (m : ℕ). charge G (P.at n) m r) (sym (follows n))

    pub same_stock : (n r : ℕ) → stock_after G.structure G.coalition G.bounds (P.at 0).stock F (states G P) n r ≡ (P.at n).stock r
    same_stock zero r = refl
    same_stock (suc n) r =
        ap (λ (s : ℕ). remaining (G.bounds r) s (takes_at F (states G P) n r) (gives_at F (states G P) n r)) (same_stock n r)
        ∙ ap₂ (remaining (G.bounds r) ((P.at n).stock r)) (same_cost n r) (same_charge n r)
        ∙ sym (ap (λ (x : Position). x.stock r) (P.step n))

  ledger : (P : Play G) (r : ℕ) → Ledger (G.bounds r) (λ i. (P.at i).stock r) (λ i. cost G (P.at i) (P.move i) r) (λ i. charge G (P.at i) (P.move i) r) (λ n. spent_on G P n r) (λ n. charged_on G P n r)
  ledger P r = record { left = λ i. ap (λ (x : Position). x.stock r) (P.step i); none = refl; adds = λ i. refl; nothing = refl; gives = λ i. refl }

  -- where every move is affordable when its turn comes, each beginning stays within the first stock and what was given
  pub within_along : (P : Play G) → Afforded G P → (n r : ℕ) → r < G.structure.resources → Pays (G.bounds r) ((P.at 0).stock r) (spent_on G P n r) (charged_on G P n r)
  within_along P paid n r l = affordable_within _ _ _ _ _ (G.bounds r) (ledger P r) (λ i. paid i r l) n

  -- a strategy within the stock pays for every move of its plays
  pub strategy_paid : (p : Position) (F : Strategy) → KeepsWithin G p F → (P : Play G) → From G p P → Follows G F P → Afforded G P
  strategy_paid p F keeps P from follows i r l =
      let paid = keeps.1 (states G P) (at_fits P 0).0 (play_consistent F keeps.0 P follows) i r l in
      let stock = ap (λ (x : Position). stock_after G.structure G.coalition G.bounds x.stock F (states G P) i r) (sym from) ∙ same_stock F keeps.0 P follows i r in
      subst₂ (λ (c g : ℕ). Pays (G.bounds r) ((P.at i).stock r) c g) (same_cost F keeps.0 P follows i r) (same_charge F keeps.0 P follows i r)
      (subst (λ (s : ℕ). Pays (G.bounds r) s (takes_at F (states G P) i r) (gives_at F (states G P) i r)) stock paid)

  -- a computation of F from a position's state is the states of a play that follows F
  module _ (F : Strategy) (strategy : IsStrategy G.structure G.coalition F) (λs : Computation) (consistent : Consistent G.structure G.coalition F λs) (p : Position) (fits : IsPosition G p) (starts : p.state ≡ λs 0) where
    reply_at : ℕ → ℕ
    reply_at i = joint G.structure.agents (part (opponents G.coalition) (consistent i).0)

    position_at : ℕ → Position
    position_at zero = p
    position_at (suc i) = outcome G (position_at i) (move_by F (prefix λs i)) (reply_at i)

    inside : (i : ℕ) → λs i < G.structure.states
    inside = stays_inside G.structure proper G.coalition F λs (rw (← starts) fits.0) consistent

    move_at_move : (i : ℕ) → MoveOf G.structure G.coalition (λs i) (move_by F (prefix λs i))
    move_at_move i = number_move G.structure proper G.coalition (λs i) (inside i) (F (prefix λs i)) (moves G.structure G.coalition F strategy λs i (inside i))

    reply_at_reply : (i : ℕ) → MoveOf G.structure (opponents G.coalition) (λs i) (reply_at i)
    unfolding reply_at
    reply_at_reply i = number_move G.structure proper (opponents G.coalition) (λs i) (inside i) (consistent i).0 (λ a l _. (consistent i).1 a l)

    -- the two numbers together are the joint action of the computation
    whole : (i : ℕ) → move_by F (prefix λs i) + reply_at i ≡ joint G.structure.agents (consistent i).0
    unfolding reply_at
    whole i =
        let n = G.structure.agents in
        let m = (consistent i).0 in
        let mine : move_by F (prefix λs i) ≡ joint n (part G.coalition m) =
        joint_cong n _ (part G.coalition m) (λ a l. same a (G.coalition a) ((consistent i).2 a l)) in
        omega (arith, joint_parts n G.coalition m)
      where
        same : (a : ℕ) (t : Bool) → (T t → (consistent i).0 a ≡ F (prefix λs i) a) → cond t (F (prefix λs i) a) 0 ≡ cond t ((consistent i).0 a) 0
        same a true h = sym (h tt)
        same a false h = refl

    state_is : (i : ℕ) → (position_at i).state ≡ λs i
    unfolding position_at
    state_is zero = starts
    state_is (suc i) =
        ap (λ (q : ℕ). G.structure.next q (digit (move_by F (prefix λs i) + reply_at i))) (state_is i)
        ∙ proper.next_agrees (λs i) _ (consistent i).0 digits
        ∙ (consistent i).3
      where
        digits : (a : ℕ) → a < G.structure.agents → digit (move_by F (prefix λs i) + reply_at i) a ≡ (consistent i).0 a
        digits a l =
            ap (λ (k : ℕ). digit k a) (whole i)
            ∙ digit_joint G.structure.agents (consistent i).0 (λ c h. omega (arith, (consistent i).1 c h, proper.acts (λs i) c (inside i) h)) a l

    pub computation_play : (P : Play G) × From G p P × Follows G F P × (states G P ≡ λs)
    unfolding position_at
    computation_play = (P, refl, follows, same)
      where
        P : Play G
        P = record {
          at = position_at;
          move = λ i. move_by F (prefix λs i);
          reply = reply_at;
          start = fits;
          moved = λ i. rw (state_is i) (move_at_move i);
          replied = λ i. rw (state_is i) (reply_at_reply i);
          step = λ i. refl;
        }

        same : states G P ≡ λs
        same = fun_ext state_is

        follows : Follows G F P
        follows i = ap (λ (μs : Computation). move_by F (prefix μs i)) (sym same)

  -- the play of moves and replies that are chosen from the whole play so far
  module _ (μ : RecallStrategy) (legal : (h : List Turn) (x : Position) → IsPosition G x → Move G x (μ h x)) (ρ : RecallCounter) (counter : IsRecallCounter G ρ) (p : Position) (fits : IsPosition G p) where
    -- the position and the turns so far
    stage : ℕ → Position × List Turn
    stage zero = (p, [])
    stage (suc i) =
        let (x, h) = stage i in
        let r = ρ h x (μ h x) in
        (outcome G x (μ h x) r, record { at = x; move = μ h x; reply = r } ∷ h)

    stage_fits : (i : ℕ) → IsPosition G (stage i).0
    unfolding stage
    stage_fits zero = fits
    stage_fits (suc i) =
        let (x, h) = stage i in
        let move = legal h x (stage_fits i) in
        outcome_fits x (μ h x) (ρ h x (μ h x)) (stage_fits i) move (counter h x (μ h x) (stage_fits i) move)

    pub recall_play : (P : Play G) × From G p P × FollowsRecall G μ P × AnswersRecall G ρ P
    unfolding stage
    recall_play = (P, refl, λ i. ap (λ (h : List Turn). μ h (P.at i)) (turns i), λ i. ap (λ (h : List Turn). ρ h (P.at i) (P.move i)) (turns i))
      where
        P : Play G
        P = record {
          at = λ i. (stage i).0;
          move = λ i. μ (stage i).1 (stage i).0;
          reply = λ i. ρ (stage i).1 (stage i).0 (μ (stage i).1 (stage i).0);
          start = fits;
          moved = λ i. legal (stage i).1 (stage i).0 (stage_fits i);
          replied = λ i. counter (stage i).1 (stage i).0 _ (stage_fits i) (legal (stage i).1 (stage i).0 (stage_fits i));
          step = λ i. refl;
        }

        turns : (i : ℕ) → (stage i).1 ≡ past G P i
        turns zero = refl
        turns (suc i) = ap (λ (h : List Turn). record { at = P.at i; move = P.move i; reply = P.reply i } ∷ h) (turns i)

  -- the states of the turns so far
  state_history : List Turn → List ℕ
  state_history [] = []
  state_history (turn ∷ h) = turn.at.state ∷ state_history h

  past_states : (P : Play G) (i : ℕ) → (P.at i).state ∷ state_history (past G P i) ≡ prefix (states G P) i
  unfolding state_history
  past_states P zero = refl
  past_states P (suc i) = ap (λ (h : List ℕ). (P.at (suc i)).state ∷ h) (past_states P i)

  -- the play of a strategy against a counter-strategy
  pub play_against : (F : Strategy) → IsStrategy G.structure G.coalition F → (ρ : CounterStrategy) → IsCounterStrategy G ρ → (p : Position) → IsPosition G p → (P : Play G) × From G p P × Follows G F P × Answers G ρ P
  play_against F strategy ρ counter p fits =
      let (P, from, follows, answers) = recall_play (λ h x. move_by F (x.state ∷ state_history h)) legal (λ _. ρ) (λ _. counter) p fits in
      (P, from, λ i. follows i ∙ ap (move_by F) (past_states P i), answers)
    where
      legal : (h : List Turn) (x : Position) → IsPosition G x → Move G x (move_by F (x.state ∷ state_history h))
      legal h x inside =
          number_move G.structure proper G.coalition x.state inside.0 (F (x.state ∷ state_history h)) (strategy x.state (state_history h) inside.0)
