-- Demand 3 from a table that is decided at every position: plays by the row's moves and replies are plays by the table, whichever such
-- table a move or a reply is read off. Assumes nothing.
use mathlib.Core.Bool.{Bool, cond}
use mathlib.Core.Logic.{◌⊎◌, inl, inr}
use mathlib.Core.Path.{◌≡◌, refl, sym, ◌∙◌, ap}
use Prim.Native.Nat.{ℕ, ◌<◌}
use native.Mathlib.Omega.{arith}
use borrow.Author.Tests.{eq-eqb}
use Rattle.game.specs.Position.{Arena, Position, opponents, IsPosition, Allowed}
use Rattle.game.specs.Play.{Objective, Play, CounterStrategy, states, IsCounterStrategy, CoalitionWins, OpponentsWin}
use Rattle.game.specs.Table.{Table, rank_at, move_at, shown, no_move, Met, ReplyIs, ReplyRule, ByTable, Decided}
use Rattle.game.specs.Demand.{IsTable, CoalitionMove, ByMoves, ByReplies, MovesWin, RepliesWin, Demanded}
use Rattle.game.proofs.Bridge.Proper.{Proper}
use Rattle.game.proofs.Bridge.Plays.{at_fits}
use Rattle.game.proofs.Local.Aims.{met?}
use Rattle.game.proofs.Whole.Choices.{idle_reply}
use Rattle.game.proofs.Whole.Winning.{move_small, shown_small, won_true}
use Rattle.game.proofs.Whole.Decided.{lost_false}
use Rattle.game.proofs.Whole.Unique.{rank_unique, failed_agree, counter_agree, ranks_agree, moves_agree}

-- a reply that is right by one table is right by another
module _ (G : Arena) (proper : Proper G.structure) (t : Objective) (X X' : Table) (decided : IsTable G t X) (decided' : IsTable G t X') where
  same : (y : Position) → IsPosition G y → rank_at G X y ≡ rank_at G X' y
  same = ranks_agree G proper t X X' decided decided'

  same' : (y : Position) → IsPosition G y → rank_at G X' y ≡ rank_at G X y
  same' y fits = sym (same y fits)

  by_other : (p : Position) → IsPosition G p → (m : ℕ) → Allowed G p m → (r : ℕ) → ReplyIs G X' t (CoalitionWins G t) p m r → ReplyIs G X t (CoalitionWins G t) p m r
  by_other p fits m a r at = record {
    won = at.won;
    failed = λ over. at.failed (failed_agree G proper X X' same t p fits over);
    best = λ loses unfailed.
        let (found, none) = at.best loses (λ over. unfailed (failed_agree G proper X' X same' t p fits over)) in (
          (found.0, counter_agree G proper X' X same' t (CoalitionWins G t) p fits m a r found.0 found.1),
          λ k less (reply, aim). none k less (reply, counter_agree G proper X X' same t (CoalitionWins G t) p fits m a k reply aim),
        );
  }

module _ (G : Arena) (proper : Proper G.structure) (t : Objective) (X : Table) (decided : IsTable G t X) where
  loses : (y : Position) → IsPosition G y → OpponentsWin G t y → CoalitionWins G t y → ⊥
  loses y inside others wins = (decided y inside).not_both wins others

  -- where the coalition loses, the table shows no move, and it idles
  idles : (y : Position) → IsPosition G y → (CoalitionWins G t y → ⊥) → shown (move_at G X y) ≡ 0
  idles y inside lost = ap shown ((decided y inside).move_is.lost lost) ∙ ap (λ (u : Bool). cond u 0 no_move) (eq-eqb no_move no_move refl)

  won_small : (y : Position) → IsPosition G y → CoalitionWins G t y → move_at G X y < 64
  won_small y inside wins = go (met? G proper X t y)
    where
      go : Dec (Met G X t y) → move_at G X y < 64
      go (yes met) = omega (arith, (decided y inside).move_is.met wins met)
      go (no unmet) = move_small G.structure proper G.coalition y.state (move_at G X y) ((decided y inside).move_is.best wins unmet).0.0.0

  -- the coalition's move is the one that the table shows
  table_move : (y : Position) → IsPosition G y → (m : ℕ) → CoalitionMove G t y m → m ≡ move_at G X y
  table_move y inside m asked = asked.move ∙ sym (moves_agree G proper t X asked.table decided asked.is_table y inside)

  -- plays by the row's moves are plays by the table, and back
  pub moves_table : (P : Play G) → ByMoves G t P → ByTable G X P
  moves_table P moves n = go (decided (P.at n) inside).one_side
    where
      inside : IsPosition G (P.at n)
      inside = at_fits G proper P n

      go : CoalitionWins G t (P.at n) ⊎ OpponentsWin G t (P.at n) → P.move n ≡ shown (move_at G X (P.at n))
      go (inl here) =
          let asked = (moves n).0 here in
          sym (shown_small (P.move n) asked.small)
          ∙ ap shown (table_move (P.at n) inside (P.move n) asked)
      go (inr others) = let lost = loses (P.at n) inside others in (moves n).1 lost ∙ sym (idles (P.at n) inside lost)

  table_moves : (P : Play G) → ByTable G X P → ByMoves G t P
  table_moves P by n = (asked, λ lost. by n ∙ idles (P.at n) inside lost)
    where
      inside : IsPosition G (P.at n)
      inside = at_fits G proper P n

      asked : CoalitionWins G t (P.at n) → CoalitionMove G t (P.at n) (P.move n)
      asked here =
          let few = won_small (P.at n) inside here in
          let same_move : P.move n ≡ move_at G X (P.at n) = by n ∙ shown_small (move_at G X (P.at n)) few in
          record { table = X; is_table = decided; wins = here; move = same_move; small = omega arith }

  -- the row's replies are replies by the table, and the table's are
  replies_rule : (ρ : CounterStrategy) → ByReplies G t ρ → ReplyRule G X t (CoalitionWins G t) ρ
  replies_rule ρ replies y m inside a = go (decided y inside).one_side
    where
      go : CoalitionWins G t y ⊎ OpponentsWin G t y → ReplyIs G X t (CoalitionWins G t) y m (ρ y m)
      go (inl wins) = let zero = (replies y m inside a).1 wins in record { won = λ _. zero; failed = λ _. zero; best = λ lost. absurd (lost wins) }
      go (inr others) =
          let asked = (replies y m inside a).0 others in
          by_other G proper t X asked.table decided asked.is_table y inside m a (ρ y m) asked.reply

  rule_replies : (ρ : CounterStrategy) → IsCounterStrategy G ρ → ReplyRule G X t (CoalitionWins G t) ρ → ByReplies G t ρ
  rule_replies ρ counter rule y m inside a = (
    λ others. record {
      table = X;
      is_table = decided;
      loses = others;
      reply = rule y m inside a;
      small = move_small G.structure proper (opponents G.coalition) y.state (ρ y m) (counter y m inside a.0);
    },
    λ wins. (rule y m inside a).won wins,
  )

  module _ (p : Position) (fits : IsPosition G p) where
    pub moves_win : CoalitionWins G t p → MovesWin G t p (rank_at G X p)
    moves_win wins = record {
      some_replies = ((λ _ _ _. 0), λ _ y m inside _. idle_reply G proper y inside);
      plays = λ ρ counter. let (P, from, by, answers) = at.table_plays ρ counter in (P, from, table_moves P by, answers);
      won = λ P from moves.
          let (paid, won) = at.by_table wins P from (moves_table P moves) in
          (paid, won_true t (rank_at G X p) (states G P) won, won);
      settled = λ P from moves k lost.
          at.idles_settled wins P from (moves_table P moves) k ((decided (P.at k) (at_fits G proper P k)).move_is.lost lost);
    }
      where
        at : Decided G X t p
        at = decided p fits

    replies_win : OpponentsWin G t p → RepliesWin G t p (rank_at G X p)
    replies_win others = record {
      some_replies = let (ρ, counter, rule) = at.some_replies in (ρ, counter, rule_replies ρ counter rule);
      some_strategy = at.some_strategy;
      plays = λ ρ replies. at.reply_plays ρ (replies_rule ρ replies);
      recall_plays = λ ρ replies. at.recall_plays ρ (replies_rule ρ replies);
      lost = λ ρ replies P from paid answers.
          let lost = (at.by_replies others ρ (replies_rule ρ replies) P from paid answers).0 in
          (lost_false t (rank_at G X p) (states G P) lost, lost);
      settled = λ ρ replies P from paid answers. (at.by_replies others ρ (replies_rule ρ replies) P from paid answers).1;
    }
      where
        at : Decided G X t p
        at = decided p fits

    pub demanded : Demanded G t p
    demanded = record {
      rank = rank_at G X p;
      rank_is = at.rank_is;
      rank_only = λ n rank. rank_unique G t p n (rank_at G X p) rank at.rank_is;
      no_sooner = at.no_sooner;
      sides = go at.one_side;
    }
      where
        at : Decided G X t p
        at = decided p fits

        go : CoalitionWins G t p ⊎ OpponentsWin G t p
            → (CoalitionWins G t p × (OpponentsWin G t p → ⊥) × MovesWin G t p (rank_at G X p)) ⊎ (OpponentsWin G t p × (CoalitionWins G t p → ⊥) × RepliesWin G t p (rank_at G X p))
        go (inl wins) = inl (wins, at.not_both wins, moves_win wins)
        go (inr others) = inr (others, loses p fits others, replies_win others)

-- a position has one move of the coalition
pub one_move : (G : Arena) → Proper G.structure → (t : Objective) (y : Position) → IsPosition G y → (m n : ℕ) → CoalitionMove G t y m → CoalitionMove G t y n → m ≡ n
one_move G proper t y inside m n found other = found.move ∙ sym (table_move G proper t found.table found.is_table y inside n other)
