-- A script has one rehearsal from a position that the coalition wins, and what holds on the plays that begin with it. Assumes nothing.
use mathlib.Core.List.{List}
use mathlib.Core.Logic.{inl, inr}
use mathlib.Core.Path.{◌≡◌, sym, ◌∙◌, ap, subst}
use Prim.Native.Nat.{ℕ, ◌≤◌, ◌<◌}
use native.Mathlib.Omega.{arith}
use lib.ListN.{get_or, length}
use Rattle.game.specs.Rbatl.{Computation}
use Rattle.game.specs.Position.{Arena, Position, IsPosition, Reply, number}
use Rattle.game.specs.Play.{Objective, next, always, until, True, Play, states, CoalitionWins}
use Rattle.game.specs.Table.{Table, rank_at, RankIs, WonOn}
use Rattle.game.specs.Demand.{IsTable, MovesWin}
use Rattle.game.proofs.Bridge.Proper.{Proper}
use Rattle.game.proofs.Numbers.Decide.{lt?}
use Rattle.game.proofs.Whole.Demand.{moves_win}
use Rattle.game.proofs.Whole.Onward.{same_so_far}
use Rattle.game.proofs.Whole.Unique.{rank_unique}
use Rattle.rehearsal.specs.Rehearsal.{Finished, Shows, WithinRank, Scripted, Unavailable, Status, Ends, Reports, moves_in, finished_in, last_in, report_bytes}

-- whether a row is finished goes by the state alone
pub finished_same : (t : Objective) (bytes : ℕ) (λs μs : Computation) (n : ℕ) → λs n ≡ μs n → Finished t bytes λs n → Finished t bytes μs n
finished_same (next left) bytes λs μs n e h = h
finished_same (until left right) bytes λs μs n e h = subst right e h
finished_same (always left) bytes λs μs n e h = h

module _ (G : Arena) (proper : Proper G.structure) (t : Objective) (X : Table) (decided : IsTable G t X) (script : List ℕ) (p : Position) where
  -- two plays by the script are the same as far as both go
  agree : (P Q : Play G) (m n : ℕ) → Scripted G t script p P m → Scripted G t script p Q n → (k : ℕ) → k ≤ m → k ≤ n → P.at k ≡ Q.at k
  agree P Q m n one other k l l' =
      same_so_far G proper t X decided P Q (one.from ∙ sym other.from) one.by_moves other.by_moves k
      (λ j less. one.replies j (omega arith) ∙ sym (other.replies j (omega arith)))

  done_too : (P Q : Play G) (m n : ℕ) → Scripted G t script p P m → Scripted G t script p Q n → (k : ℕ) → k ≤ m → k ≤ n
      → Finished t (length script) (states G P) k → Finished t (length script) (states G Q) k
  done_too P Q m n one other k l l' = finished_same t (length script) (states G P) (states G Q) k (ap (λ (x : Position). x.state) (agree P Q m n one other k l l'))

  -- where one rehearsal has ended, none goes on
  no_further : (P Q : Play G) (m f n : ℕ) → Ends G t script p P m f → Scripted G t script p Q n → n ≤ length script → m < n → ⊥
  no_further P Q m f n end other inside less = go end.status
    where
      go : Status G t script p P m f → ⊥
      go (inl (_, done)) = other.unfinished m less (done_too P Q m n end.scripted other m (omega arith) (omega arith) done)
      go (inr (_, _, out)) = omega arith

  pub same_length : (P Q : Play G) (m f n g : ℕ) → Ends G t script p P m f → Ends G t script p Q n g → m ≡ n
  same_length P Q m f n g one other = go (lt? m n) (lt? n m)
    where
      go : Dec (m < n) → Dec (n < m) → m ≡ n
      go (yes less) _ = absurd (no_further P Q m f n one other.scripted other.inside less)
      go (no _) (yes less) = absurd (no_further Q P n g m other one.scripted one.inside less)
      go (no a) (no b) = omega arith

  pub one_end : (P Q : Play G) (m f n g : ℕ) → Ends G t script p P m f → Ends G t script p Q n g → (m ≡ n) × (f ≡ g) × (P.at m ≡ Q.at m)
  one_end P Q m f n g one other = (same, same_status one.status other.status, agree P Q m n one.scripted other.scripted m (omega arith) (omega (arith, same)))
    where
      same : m ≡ n
      same = same_length P Q m f n g one other

      done : Finished t (length script) (states G P) m → Finished t (length script) (states G Q) n
      done h = subst (Finished t (length script) (states G Q)) same (done_too P Q m n one.scripted other.scripted m (omega arith) (omega (arith, same)) h)

      done' : Finished t (length script) (states G Q) n → Finished t (length script) (states G P) m
      done' h = subst (Finished t (length script) (states G P)) (sym same) (done_too Q P n m other.scripted one.scripted n (omega arith) (omega (arith, same)) h)

      same_status : Status G t script p P m f → Status G t script p Q n g → f ≡ g
      same_status (inl (e, _)) (inl (e', _)) = e ∙ sym e'
      same_status (inl (_, h)) (inr (_, not_done, _)) = absurd (not_done (done h))
      same_status (inr (_, not_done, _)) (inl (_, h)) = absurd (not_done (done' h))
      same_status (inr (e, _, _)) (inr (e', _, _)) = e ∙ sym e'

  -- every byte was available when its turn came
  pub all_available : (P : Play G) (n f : ℕ) → Ends G t script p P n f → Unavailable G t script p → ⊥
  all_available P n f end bad = go (lt? bad.turn n) (lt? n bad.turn)
    where
      Q : Play G
      Q = bad.play

      k : ℕ
      k = bad.turn

      go : Dec (k < n) → Dec (n < k) → ⊥
      go (yes less) _ =
          bad.none (subst (λ (x : Position). Reply G x (get_or script k 0)) (agree P Q n k end.scripted bad.scripted k (omega arith) (omega arith))
          (subst (Reply G (P.at k)) (end.scripted.replies k less) (P.replied k)))
      go (no _) (yes less) = no_further P Q n f k end bad.scripted (omega (arith, bad.inside)) less
      go (no a) (no b) = last end.status
        where
          same : n ≡ k
          same = omega arith

          last : Status G t script p P n f → ⊥
          last (inl (_, done)) = bad.goes_on (subst (Finished t (length script) (states G Q)) same (done_too P Q n k end.scripted bad.scripted n (omega arith) (omega arith) done))
          last (inr (_, _, out)) = omega (arith, bad.inside)

  -- bytes past the end play no part
  unread : (P : Play G) (n f : ℕ) → Ends G t script p P n f → (other : List ℕ) → length other ≡ length script → ((k : ℕ) → k < n → get_or other k 0 ≡ get_or script k 0) → Ends G t other p P n f
  unread P n f end other long same = record {
    scripted = record {
      from = end.scripted.from;
      by_moves = end.scripted.by_moves;
      replies = λ k less. end.scripted.replies k less ∙ sym (same k less);
      unfinished = λ k less. rw long (end.scripted.unfinished k less);
    };
    inside = rw long end.inside;
    status = rw long end.status;
  }

  -- what the coalition's moves bring
  module _ (fits : IsPosition G p) (wins : CoalitionWins G t p) where
    brought : MovesWin G t p (rank_at G X p)
    brought = moves_win G proper t X decided p fits wins

    pub within_rank : (P : Play G) (n : ℕ) → Scripted G t script p P n → WithinRank G t p n
    within_rank P n scripted = go t scripted.unfinished (decided p fits).rank_is (brought.won P scripted.from scripted.by_moves).2
      where
        go : (t : Objective) → ((k : ℕ) → k < n → Finished t (length script) (states G P) k → ⊥) → RankIs G t p (rank_at G X p) → WonOn t (rank_at G X p) (states G P) → WithinRank G t p n
        go (until left right) unfinished rank_is (k, l, here, _) = λ rank other. at_least (lt? k n) rank (rank_unique G (until left right) p (rank_at G X p) rank rank_is other)
          where
            at_least : Dec (k < n) → (rank : ℕ) → rank_at G X p ≡ rank → n ≤ rank
            at_least (yes less) rank e = absurd (unfinished k less here)
            at_least (no more) rank e = omega arith
        go (always left) _ _ _ = tt
        go (next left) _ _ _ = tt

    pub shown : (P : Play G) (n : ℕ) → Scripted G t script p P n → Shows t (states G P) n
    shown P n scripted = go t (brought.won P scripted.from scripted.by_moves).1
      where
        go : (t : Objective) → True t (states G P) → Shows t (states G P) n
        go (until left right) h = h
        go (always left) h = λ k _. h k
        go (next left) h = h

    -- the report of a rehearsal
    pub reported : (P : Play G) (n f : ℕ) → Ends G t script p P n f → (report : List ℕ) → moves_in report ≡ n → finished_in report ≡ f → last_in report ≡ number G (P.at n) → length report ≡ report_bytes → Reports G t script p report
    reported P n f end report moves finished last long = record {
      play = P;
      ends = rw moves (rw finished end);
      last = rw moves last;
      only = λ Q m g other. rw moves (rw finished (one_end Q P m g n f other end));
      unread = rw moves (rw finished (unread P n f end));
      within_rank = rw moves (within_rank P n end.scripted);
      paid = λ Q scripted. (brought.won Q scripted.from scripted.by_moves).0;
      shows = λ _ Q scripted. shown Q (moves_in report) scripted;
      long = long;
    }
