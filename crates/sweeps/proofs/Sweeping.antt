-- Parts of a sweep one after another, sweeps until one does nothing, and one stock place after another. Assumes nothing.
use mathlib.Core.Bool.{Bool, true, false, cond}
use mathlib.Core.List.{List}
use mathlib.Core.Path.{◌≡◌, refl, sym, ◌∙◌, ap, subst}
use Prim.Native.Nat.{ℕ, suc, ◌+◌, ◌*◌, ◌≤◌, ◌<◌}
use native.Mathlib.Omega.{arith}
use lib.ListN.{length}
use Rattle.block.specs.Decide.{Bit}
use Rattle.game.specs.Position.{Arena, Position, IsPosition, number, positions, Allowed, Reply, outcome}
use Rattle.game.specs.Inner.Stocks.{stocks_of, stock_places, refill}
use Rattle.game.specs.Table.{never}
use Rattle.turns.specs.Buffers.{rank_in}
use Rattle.game.specs.Inner.Sweep.{total}
use Rattle.game.proofs.Numbers.Decide.{eq?}
use Rattle.game.proofs.Bridge.Proper.{Proper}
use Rattle.game.proofs.Bridge.Plays.{outcome_fits}
use Rattle.ways.proofs.Offsets.{remains_number}
use Rattle.game.proofs.Solving.Sweeping.{at_rest}
use Rattle.ways.specs.Places.{PlacedAt}
use Rattle.sweeps.specs.Values.{Attacks, Defends}
use Rattle.sweeps.specs.Sweeps.{KeptFor, RestsAt, RestsBelow, visit, ChangedAt, Swept, PlaceSettled, Settled}
use Rattle.ways.proofs.Placing.{stocks_below}
use Rattle.sweeps.proofs.Lowering.{unchanged, defends_weaken}

-- both orders of the states are their own inverses
pub visits : (back : Bool) (n s : ℕ) → s < n → (visit back n s < n) × (visit back n (visit back n s) ≡ s)
visits true n s l = (omega arith, omega arith)
visits false n s l = (l, refl)

module _ (G : Arena) (x : ℕ) (l l' l'' : List ℕ) where
  changed_both : ChangedAt G x l l' → ChangedAt G x l' l'' → ChangedAt G x l l''
  changed_both one two = record {
    elsewhere = λ p fits apart. two.elsewhere p fits apart ∙ one.elsewhere p fits apart;
    beyond = λ n outside. two.beyond n outside ∙ one.beyond n outside;
    long = two.long ∙ one.long;
  }

module _ (G : Arena) (most : Bool) (safe x : ℕ) where
  -- the sum of the ranks
  abbrev sum : List ℕ → ℕ
  sum l = total (rank_in l) (positions G)

  -- nothing was done, and nothing needed to be
  pub swept_nothing : (Rests : List ℕ → Type 0) (l : List ℕ) → Rests l → Swept G most safe x Rests false l l
  swept_nothing Rests l rests = record {
    kept = λ goal kept. kept;
    falls = λ e. let z : ◌≡◌ {A = ℕ} 0 1 = cc in absurd (omega arith);
    quiet = λ _. (refl, rests);
    changed = unchanged G x l;
  }

  -- the first k states in an order
  abbrev pub RestsFirst : (ℕ → ℕ) → ℕ → List ℕ → Type 0
  RestsFirst order k l = (j : ℕ) → j < k → RestsAt G most safe x (order j) l

  pub swept_next : (order : ℕ → ℕ) (k : ℕ) {did t : Bool} {l l' l'' : List ℕ} → Swept G most safe x (RestsFirst order k) did l l' → Swept G most safe x (RestsAt G most safe x (order k)) t l' l'' → Swept G most safe x (RestsFirst order (k + 1)) (cond t true did) l l''
  swept_next order k {did} {t} {l} {l'} {l''} before one = record {
    kept = λ goal kept. one.kept goal (before.kept goal kept);
    falls = falls did t before one;
    quiet = quiet did t before one;
    changed = changed_both G x l l' l'' before.changed one.changed;
  }
    where
      falls : (did t : Bool) → Swept G most safe x (RestsFirst order k) did l l' → Swept G most safe x (RestsAt G most safe x (order k)) t l' l'' → cond t true did ≡ true → sum l'' < sum l
      falls true true before one e = omega (arith, before.falls refl, one.falls refl)
      falls false true before one e = omega (arith, one.falls refl, ap sum (before.quiet refl).0)
      falls true false before one e = omega (arith, before.falls refl, ap sum (one.quiet refl).0)
      falls false false before one e = let z : ◌≡◌ {A = ℕ} 0 1 = cc in absurd (omega arith)

      here : (y : List ℕ) → RestsFirst order k y → RestsAt G most safe x (order k) y → (j : ℕ) → j < k + 1 → Dec (j ≡ k) → RestsAt G most safe x (order j) y
      here y earlier now j small (yes e) = subst (λ (q : ℕ). RestsAt G most safe x (order q) y) (sym e) now
      here y earlier now j small (no ne) = earlier j (omega arith)

      quiet : (did t : Bool) → Swept G most safe x (RestsFirst order k) did l l' → Swept G most safe x (RestsAt G most safe x (order k)) t l' l'' → cond t true did ≡ false → (l'' ≡ l) × RestsFirst order (k + 1) l
      quiet did true before one e = let z : ◌≡◌ {A = ℕ} 0 1 = cc in absurd (omega arith)
      quiet did false before one e =
          let (same, earlier) = before.quiet e in
          let (same', now) = one.quiet refl in
          (same' ∙ same, λ j small. here l earlier (subst (RestsAt G most safe x (order k)) same now) j small (eq? j k))

  -- an order in which each of the n states has its place
  pub swept_all : (order place : ℕ → ℕ) (n : ℕ) → ((s : ℕ) → s < n → (place s < n) × (order (place s) ≡ s)) → {did : Bool} {l l' : List ℕ} → Swept G most safe x (RestsFirst order n) did l l' → Swept G most safe x (RestsBelow G most safe x n) did l l'
  swept_all order place n there {l = l} all = record {
    kept = all.kept;
    falls = all.falls;
    quiet = λ e. let (same, rests) = all.quiet e in (same, λ s small. let (inside, is) = there s small in subst (λ (y : ℕ). RestsAt G most safe x y l) is (rests (place s) inside));
    changed = all.changed;
  }

  -- on the way: whether a rank fell, and whether another sweep is needed
  pub record Sweeping (fell more : Bool) (l l' : List ℕ) : Type 0 where
    pub kept : (goal : ℕ) → KeptFor G most safe goal l → KeptFor G most safe goal l'
    pub rests : more ≡ false → RestsBelow G most safe x G.structure.states l'
    pub changed : ChangedAt G x l l'
    pub falls : fell ≡ true → sum l' < sum l
    pub quiet : fell ≡ false → l' ≡ l

  abbrev SweptAll : Bool → List ℕ → List ℕ → Type 0
  SweptAll = Swept G most safe x (RestsBelow G most safe x G.structure.states)

  rests_after : (did : Bool) (l l' : List ℕ) → SweptAll did l l' → did ≡ false → RestsBelow G most safe x G.structure.states l'
  rests_after did l l' one e = let (same, rest) = one.quiet e in subst (RestsBelow G most safe x G.structure.states) (sym same) rest

  pub sweeping_none : (l : List ℕ) → Sweeping false true l l
  sweeping_none l = record {
    kept = λ goal kept. kept;
    rests = λ e. let z : ◌≡◌ {A = ℕ} 0 1 = cc in absurd (omega arith);
    changed = unchanged G x l;
    falls = λ e. let z : ◌≡◌ {A = ℕ} 0 1 = cc in absurd (omega arith);
    quiet = λ _. refl;
  }

  pub sweeping_next : (fell more did : Bool) (l l' l'' : List ℕ) → Sweeping fell more l l' → SweptAll did l' l'' → Sweeping (cond did true fell) did l l''
  sweeping_next fell more did l l' l'' before one = record {
    kept = λ goal kept. one.kept goal (before.kept goal kept);
    rests = rests_after did l' l'' one;
    changed = changed_both G x l l' l'' before.changed one.changed;
    falls = falls fell did before one;
    quiet = quiet did one;
  }
    where
      falls : (fell did : Bool) → Sweeping fell more l l' → SweptAll did l' l'' → cond did true fell ≡ true → sum l'' < sum l
      falls true true before one e = omega (arith, before.falls refl, one.falls refl)
      falls false true before one e = omega (arith, one.falls refl, ap sum (before.quiet refl))
      falls true false before one e = omega (arith, before.falls refl, ap sum (one.quiet refl).0)
      falls false false before one e = let z : ◌≡◌ {A = ℕ} 0 1 = cc in absurd (omega arith)

      quiet : (did : Bool) → SweptAll did l' l'' → cond did true fell ≡ false → l'' ≡ l
      quiet true one e = let z : ◌≡◌ {A = ℕ} 0 1 = cc in absurd (omega arith)
      quiet false one e = (one.quiet refl).0 ∙ before.quiet e

  pub sweeping_done : (fell : Bool) (l l' : List ℕ) → Sweeping fell false l l' → PlaceSettled G most safe x fell l l'
  sweeping_done fell l l' done = record {
    kept = done.kept;
    rests = done.rests refl;
    changed = done.changed;
    falls = done.falls;
    quiet = done.quiet;
  }

  -- a sweep that did something lowered the sum; one that did nothing is the last
  abbrev pub left_to_do : Bool → List ℕ → ℕ
  left_to_do more l = 2 * sum l + cond more 1 0

  pub sweep_less : (did : Bool) (l l' : List ℕ) → Swept G most safe x (RestsBelow G most safe x G.structure.states) did l l' → left_to_do did l' < left_to_do true l
  sweep_less true l l' one = omega (arith, one.falls refl)
  sweep_less false l l' one = omega (arith, ap sum (one.quiet refl).0)

-- a defence needs to know of the outcomes only
defends_outcomes : (G : Arena) (most : Bool) (p : Position) (U W : Position → Type 0) → ((m r : ℕ) → Allowed G p m → Reply G p r → U (outcome G p m r) → W (outcome G p m r)) → Defends G most p U → Defends G most p W
defends_outcomes G true p U W weaker f = λ m a. let (r, reply, u) = f m a in (r, reply, weaker m r a reply u)
defends_outcomes G false p U W weaker (m, a, f) = (m, a, λ r reply. weaker m r a reply (f r reply))

-- no allowed move gives anything
abbrev pub Spends : Arena → Type 0
Spends G = (p : Position) (m : ℕ) → IsPosition G p → Allowed G p m → refill G p m ≡ 0

module _ (G : Arena) (proper : Proper G.structure) (most : Bool) (safe : ℕ) where
  -- a place that does not lead to x rests whatever becomes of x
  pub rests_still : (x y s : ℕ) (l l' : List ℕ) → (y ≡ x → ⊥) → ChangedAt G x l l' → ((p : Position) → PlacedAt G s y p → (m r : ℕ) → Allowed G p m → number G (stocks_of G (outcome G p m r)) ≡ x → ⊥)
      → RestsAt G most safe y s l → RestsAt G most safe y s l'
  rests_still x y s l l' other changed apart rests p placed in-safe = defends_outcomes G most p _ _ still (rests p placed in-safe)
    where
      still : (m r : ℕ) → Allowed G p m → Reply G p r → rank_in l (number G p) ≤ suc (rank_in l (number G (outcome G p m r))) → rank_in l' (number G p) ≤ suc (rank_in l' (number G (outcome G p m r)))
      still m r a reply h = omega (
        arith,
        changed.elsewhere p placed.fits (λ e. other (sym placed.place ∙ e)),
        changed.elsewhere (outcome G p m r) (outcome_fits G proper p m r placed.fits a.0 reply) (apart p placed m r a),
      )

  -- where stock is only spent, no move leads to a place above
  rests_above : Spends G → (x y s : ℕ) (l l' : List ℕ) → y < x → ChangedAt G x l l' → RestsAt G most safe y s l → RestsAt G most safe y s l'
  rests_above spends x y s l l' below changed =
      rests_still x y s l l' (λ e. omega arith) changed (λ p placed m r a e. omega (arith, placed.place, remains_number G p m placed.fits a.1 (spends p m placed.fits a) r))

  -- the first x places are settled
  pub record SettledBelow (x : ℕ) (l l' : List ℕ) : Type 0 where
    pub kept : (goal : ℕ) → KeptFor G most safe goal l → KeptFor G most safe goal l'
    pub rests : (y : ℕ) → y < x → RestsBelow G most safe y G.structure.states l'
    pub beyond : (n : ℕ) → positions G ≤ n → rank_in l' n ≡ rank_in l n
    pub long : length l' ≡ length l

  pub settled_none : (l : List ℕ) → SettledBelow 0 l l
  settled_none l = record { kept = λ goal kept. kept; rests = λ y small. absurd (omega arith); beyond = λ n _. refl; long = refl }

  pub settled_next : Spends G → (x : ℕ) (did : Bool) (l l' l'' : List ℕ) → SettledBelow x l l' → PlaceSettled G most safe x did l' l'' → SettledBelow (x + 1) l l''
  settled_next spends x did l l' l'' before one = record {
    kept = λ goal kept. one.kept goal (before.kept goal kept);
    rests = λ y small. rests y small (eq? y x);
    beyond = λ n outside. one.changed.beyond n outside ∙ before.beyond n outside;
    long = one.changed.long ∙ before.long;
  }
    where
      rests : (y : ℕ) → y < x + 1 → Dec (y ≡ x) → RestsBelow G most safe y G.structure.states l''
      rests y small (yes e) = subst (λ (z : ℕ). RestsBelow G most safe z G.structure.states l'') (sym e) one.rests
      rests y small (no ne) = λ s inside. rests_above spends x y s l' l'' (omega arith) one.changed (before.rests y (omega arith) s inside)

  pub settled_all : positions G < never → (l l' : List ℕ) → SettledBelow (stock_places G) l l' → Settled G most safe l l'
  settled_all few l l' done = record {
    ranked = λ goal kept.
        let now = done.kept goal kept in
        at_rest G (Bit safe) (Bit goal) (Attacks G most) (Defends G most) (defends_weaken G proper most) (rank_in l') few now.crowded now.sound
        (λ p fits safe-here _. done.rests (number G (stocks_of G p)) (stocks_below G p fits) p.state fits.0 p (record { fits = fits; state = refl; place = refl }) safe-here);
    beyond = done.beyond;
    long = done.long;
  }
