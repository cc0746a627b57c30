-- A solver over lists of ranks, which the checker can compute with: it sweeps through the positions and lowers each rank to one more than
-- the value of the position, until the sum of the ranks stays. Its ranks have the facts. Assumes nothing.
use mathlib.Core.List.{List}
use mathlib.Core.Logic.{◌⊎◌, inl, inr}
use mathlib.Core.Path.{◌≡◌, refl, sym, ◌∙◌, subst}
use Prim.Native.Nat.{ℕ, zero, suc, ◌≤◌, ◌<◌}
use native.Mathlib.Omega.{arith}
use lib.ListN.{length, length-set, get_or, set}
use lib.Seq.{get_or-set_same, get_or-set_other}
use Rattle.game.specs.Position.{Arena, Position, IsPosition, number, positions}
use Rattle.game.specs.Table.{never}
use Rattle.game.specs.Inner.Facts.{Ranked}
use Rattle.game.specs.Inner.Sweep.{Kept, total}
use Rattle.game.proofs.Numbers.Decide.{both?, le?, lt?}
use Rattle.game.proofs.Numbers.Ranks.{below_suc}
use Rattle.game.proofs.Numbers.Values.{values, values_length, value_at}
use Rattle.game.proofs.Numbers.Counting.{lower_crowded, total_falls}
use Rattle.game.proofs.Local.Same.{Same, same_sym, same_number, position_of, position_same, position_fits, number_below}
use Rattle.game.proofs.Solving.Sweeping.{first_sound, lower_sound, at_rest}
use Rattle.game.proofs.Solving.Sides.{Sides}

-- the rank that stands in a list for a number
abbrev pub rank_of : List ℕ → ℕ → ℕ
rank_of l n = get_or l n 0

-- what is decided in every state, asked of any number
abbrev within? : (n : ℕ) (P : ℕ → Type 0) → ((q : ℕ) → q < n → Dec (P q)) → (q : ℕ) → Dec ((q < n) × P q)
within? n P P? q = both? (lt? q n) (P? q)

abbrev start_rank : {Q : Type 0} → Dec Q → ℕ
start_rank (yes _) = 0
start_rank (no _) = never

abbrev stored : {Q : Type 0} → Dec Q → List ℕ → ℕ → ℕ → List ℕ
stored (yes _) l k v = set l k v
stored (no _) l k v = l

-- v is 0 at the goal, never elsewhere
abbrev pub Starts : (ℕ → Type 0) → ℕ → ℕ → Type 0
Starts Goal q v = (Goal q × (v ≡ 0)) ⊎ ((Goal q → ⊥) × (v ≡ never))

module _ (G : Arena) (Goal : ℕ → Type 0) (goal? : (q : ℕ) → q < G.structure.states → Dec (Goal q)) where
  abbrev start_at : ℕ → ℕ
  start_at n = start_rank (within? G.structure.states Goal goal? (position_of G n).state)

  abbrev pub first_ranks : List ℕ
  first_ranks = values start_at (positions G)

  first_starts : (n : ℕ) → n < positions G → Starts Goal (position_of G n).state (rank_of first_ranks n)
  first_starts n l = subst (Starts Goal q) (sym (value_at start_at (positions G) n l)) (go (within? G.structure.states Goal goal? q))
    where
      q : ℕ
      q = (position_of G n).state

      go : (d : Dec ((q < G.structure.states) × Goal q)) → Starts Goal q (start_rank d)
      go (yes (_, g)) = inl (g, refl)
      go (no fails) = inr ((λ g. fails ((position_fits G n l).0, g)), refl)

  pub starts_at : (p : Position) → IsPosition G p → Starts Goal p.state (rank_of first_ranks (number G p))
  starts_at p fits = subst (λ (q : ℕ). Starts Goal q (rank_of first_ranks (number G p))) (sym (position_same G p fits).0) (first_starts (number G p) (number_below G p fits))

module _ (G : Arena) (D : Sides G) (Safe : ℕ → Type 0) (safe? : (q : ℕ) → q < G.structure.states → Dec (Safe q)) where
  -- a rank that is one more than the value
  abbrev better : List ℕ → Position → List ℕ
  better l p = set l (number G p) (suc (D.value (rank_of l) p))

  -- lowered to it, where it is lower; the value is bound, so that it is computed once
  abbrev lower_at : List ℕ → Position → List ℕ
  lower_at l p =
      let v = D.value (rank_of l) p in
      stored (both? (within? G.structure.states Safe safe? p.state) (λ _. lt? (suc v) (rank_of l (number G p)))) l (number G p) (suc v)

  -- at the numbers below n, one after another
  abbrev sweep : ℕ → List ℕ → List ℕ
  sweep zero l = l
  sweep (suc n) l = lower_at (sweep n l) (position_of G n)

  abbrev sum_of : List ℕ → ℕ
  sum_of l = total (rank_of l) (positions G)

  -- the fuel is a large number, so this is shut and computes only where it is asked to
  unfoldable pub lowering : ℕ → List ℕ → List ℕ
  lowering zero l = l
  lowering (suc fuel) l =
      let l' = sweep (positions G) l in
      elim (lt? (sum_of l') (sum_of l)) [ yes _ ↦ lowering fuel l' | no _ ↦ l ]

  abbrev pub lowered : List ℕ → List ℕ
  lowered l = lowering (sum_of l) l

  module _ (few : positions G < never) (Goal : ℕ → Type 0) where
    -- ranks on the way
    record Ranks (l : List ℕ) : Type 0 where
      sized : length l ≡ positions G
      kept : Kept G Safe Goal D.Attack (rank_of l)

    RightRanks : List ℕ → Type 0
    RightRanks l = Ranked G Safe Goal (λ x. rank_of l (number G x)) D.Attack D.Defend

    -- no rank to lower
    Rest : List ℕ → Position → Type 0
    Rest l p = Safe p.state → rank_of l (number G p) ≤ suc (D.value (rank_of l) p)

    -- the sum falls, or nothing changed and Q holds
    FallsOr : Type 0 → List ℕ → List ℕ → Type 0
    FallsOr Q l l' = (sum_of l' < sum_of l) ⊎ ((l' ≡ l) × Q)

    module _ (l : List ℕ) (ranks : Ranks l) (p : Position) (fits : IsPosition G p) where
      improved : Safe p.state → suc (D.value (rank_of l) p) < rank_of l (number G p) → Ranks (better l p) × (sum_of (better l p) < sum_of l)
      improved safe less = (
        record {
          sized = length-set l k (suc v) ∙ ranks.sized;
          kept = record {
            sound = lower_sound G Safe Goal D.Attack D.attack_weakens D.attack_transfers (rank_of l) (rank_of (better l p)) p fits others (omega (arith, here)) falls safe
                (D.attack_weakens p fits _ _ (λ x _ h. omega (arith, h, here)) attack) ranks.kept.sound;
            crowded = lower_crowded (positions G) (rank_of l) (rank_of (better l p)) k inside others falls (number G at.0) (number_below G at.0 at.1) (omega (arith, here, at.2, at.3)) ranks.kept.crowded;
          };
        },
        total_falls (positions G) (rank_of l) (rank_of (better l p)) k inside others falls (positions G) inside,
      )
        where
          k : ℕ
          k = number G p

          v : ℕ
          v = D.value (rank_of l) p

          inside : k < positions G
          inside = number_below G p fits

          here : rank_of (better l p) k ≡ suc v
          here = get_or-set_same l k (suc v) 0 (omega (arith, ranks.sized, inside))

          others : (i : ℕ) → (i ≡ k → ⊥) → rank_of (better l p) i ≡ rank_of l i
          others i ne = get_or-set_other l k i (suc v) 0 ne

          falls : rank_of (better l p) k < rank_of l k
          falls = omega (arith, here, less)

          attack : D.Attack p (λ x. rank_of l (number G x) ≤ v)
          attack = D.attained (rank_of l) p (omega (arith, ranks.kept.sound.bounded p fits, less))

          -- an outcome whose rank is the value
          at : (x : Position) × IsPosition G x × (rank_of l (number G x) ≤ v) × (v ≤ rank_of l (number G x))
          at = D.meets p fits _ _ attack (D.defended (rank_of l) p fits)

      lower_step : Ranks (lower_at l p) × FallsOr (Rest l p) l (lower_at l p)
      unfolding Rest FallsOr
      lower_step = go (both? (within? G.structure.states Safe safe? p.state) (λ _. lt? (suc v) (rank_of l k)))
        where
          k : ℕ
          k = number G p

          v : ℕ
          v = D.value (rank_of l) p

          go : (d : Dec (((p.state < G.structure.states) × Safe p.state) × (suc v < rank_of l k))) → Ranks (stored d l k (suc v)) × FallsOr (Rest l p) l (stored d l k (suc v))
          go (yes ((_, safe), less)) = let (ranks', falls) = improved safe less in (ranks', inl falls)
          go (no fails) = (ranks, inr (refl, λ safe. rests safe (le? (rank_of l k) (suc v))))
            where
              rests : Safe p.state → Dec (rank_of l k ≤ suc v) → rank_of l k ≤ suc v
              rests safe (yes h) = h
              rests safe (no h) = absurd (fails ((fits.0, safe), omega arith))

    sweep_step : (n : ℕ) → n ≤ positions G → (l : List ℕ) → Ranks l → Ranks (sweep n l) × FallsOr ((i : ℕ) → i < n → Rest l (position_of G i)) l (sweep n l)
    unfolding FallsOr
    sweep_step zero small l ranks = (ranks, inr (refl, λ i h. absurd (omega arith)))
    sweep_step (suc n) small l ranks = go (sweep n l) (sweep_step n (omega arith) l ranks)
      where
        p : Position
        p = position_of G n

        both : (l' l'' : List ℕ) → FallsOr ((i : ℕ) → i < n → Rest l (position_of G i)) l l' → FallsOr (Rest l' p) l' l'' → FallsOr ((i : ℕ) → i < suc n → Rest l (position_of G i)) l l''
        both l' l'' (inl less) (inl less') = inl (omega arith)
        both l' l'' (inl less) (inr (same, _)) = inl (subst (λ (x : List ℕ). sum_of x < sum_of l) (sym same) less)
        both l' l'' (inr (same, _)) (inl less) = inl (subst (λ (x : List ℕ). sum_of l'' < sum_of x) same less)
        both l' l'' (inr (same, rests)) (inr (same', rest)) = inr (same' ∙ same, below_suc {P = λ i. Rest l (position_of G i)} n rests (subst (λ (x : List ℕ). Rest x p) same rest))

        go : (l' : List ℕ) → Ranks l' × FallsOr ((i : ℕ) → i < n → Rest l (position_of G i)) l l' → Ranks (lower_at l' p) × FallsOr ((i : ℕ) → i < suc n → Rest l (position_of G i)) l (lower_at l' p)
        go l' (ranks', before) =
            let (ranks'', here) = lower_step l' ranks' p (position_fits G n small) in
            (ranks'', both l' (lower_at l' p) before here)

    -- at rest everywhere
    rested : (l : List ℕ) → Ranks l → ((n : ℕ) → n < positions G → Rest l (position_of G n)) → RightRanks l
    unfolding Rest RightRanks
    rested l ranks all = at_rest G Safe Goal D.Attack D.Defend D.defend_weakens (rank_of l) few ranks.kept.crowded ranks.kept.sound λ p fits safe _. held p fits safe
      where
        held : (p : Position) → IsPosition G p → Safe p.state → D.Defend p (λ y. rank_of l (number G p) ≤ suc (rank_of l (number G y)))
        held p fits safe =
            D.defend_transfers (λ n _. rank_of l (number G p) ≤ suc (rank_of l n)) x p s
            (D.defend_weakens x inside _ _ (λ y _ h. omega (arith, h, low)) (D.defended (rank_of l) x inside))
          where
            x : Position
            x = position_of G (number G p)

            inside : IsPosition G x
            inside = position_fits G (number G p) (number_below G p fits)

            s : Same G x p
            s = same_sym G p x (position_same G p fits)

            low : rank_of l (number G p) ≤ suc (D.value (rank_of l) x)
            low = subst (λ (n : ℕ). rank_of l n ≤ suc (D.value (rank_of l) x)) (same_number G x p s) (all (number G p) (number_below G p fits) (subst Safe (sym s.0) safe))

    -- a sweep that does not lower the sum leaves right ranks
    swept : (l : List ℕ) → Ranks l → (sum_of (sweep (positions G) l) < sum_of l → ⊥) → RightRanks l
    unfolding FallsOr
    swept l ranks stays = go (sweep_step (positions G) (omega arith) l ranks).1
      where
        go : FallsOr ((n : ℕ) → n < positions G → Rest l (position_of G n)) l (sweep (positions G) l) → RightRanks l
        go (inl less) = absurd (stays less)
        go (inr (_, all)) = rested l ranks all

    lowering_right : (fuel : ℕ) (l : List ℕ) → sum_of l ≤ fuel → Ranks l → RightRanks (lowering fuel l)
    unfolding lowering
    lowering_right zero l enough ranks = swept l ranks (λ less. omega arith)
    lowering_right (suc fuel) l enough ranks = go (lt? (sum_of l') (sum_of l)) (lowering_right fuel l')
      where
        l' : List ℕ
        l' = sweep (positions G) l

        go : (d : Dec (sum_of l' < sum_of l)) → (sum_of l' ≤ fuel → Ranks l' → RightRanks (lowering fuel l')) → RightRanks (elim d [ yes _ ↦ lowering fuel l' | no _ ↦ l ])
        go (yes less) again = again (omega arith) (sweep_step (positions G) (omega arith) l ranks).0
        go (no stays) again = swept l ranks stays

    module _ (goal? : (q : ℕ) → q < G.structure.states → Dec (Goal q)) where
      first_ranks_lem : Ranks (first_ranks G Goal goal?)
      first_ranks_lem = record {
        sized = values_length _ 0 (positions G);
        kept = record {
          sound = first_sound G Safe Goal D.Attack (λ x. rank_of (first_ranks G Goal goal?) (number G x))
              (λ p fits g. at_goal g (starts_at G Goal goal? p fits)) (λ p fits ng. elsewhere ng (starts_at G Goal goal? p fits)) (λ p fits. goal? p.state fits.0);
          crowded = λ i l finite. omega (arith, zero_first finite (first_starts G Goal goal? i l));
        };
      }
        where
          at_goal : {q v : ℕ} → Goal q → Starts Goal q v → v ≡ 0
          at_goal g (inl (_, e)) = e
          at_goal g (inr (ng, _)) = absurd (ng g)

          elsewhere : {q v : ℕ} → (Goal q → ⊥) → Starts Goal q v → v ≡ never
          elsewhere ng (inl (g, _)) = absurd (ng g)
          elsewhere ng (inr (_, e)) = e

          zero_first : {q v : ℕ} → v < never → Starts Goal q v → v ≡ 0
          zero_first finite (inl (_, e)) = e
          zero_first finite (inr (_, e)) = absurd (omega arith)

      pub solved : Ranked G Safe Goal (λ x. rank_of (lowered (first_ranks G Goal goal?)) (number G x)) D.Attack D.Defend
      unfolding RightRanks
      solved = lowering_right (sum_of (first_ranks G Goal goal?)) (first_ranks G Goal goal?) (omega arith) first_ranks_lem
