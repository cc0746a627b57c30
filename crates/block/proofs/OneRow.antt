-- Two blocks that differ in some fields of one row alone: every other field is the same, and where the row still fits the block is still valid.
-- Assumes nothing.
use mathlib.Core.Logic.{◌⊎◌, inl, inr}
use mathlib.Core.Path.{◌≡◌, sym, ◌∙◌, subst}
use Prim.Native.Nat.{ℕ, ◌+◌, ◌≤◌, ◌<◌}
use native.Mathlib.Decide.{ℕ_discrete}
use native.Mathlib.Omega.{arith}
use Rattle.block.specs.Layout as L
use Rattle.block.specs.Layout.{Block, row_base, resource_kind_base, max_joint, header_bytes, row_bytes, bound_byte, place_of, byte_at, at, digit, Acts, UsesField, InUse, Strategic}
use Rattle.block.specs.Inner.Valid.{Sized, RowFits, Valid}
use Rattle.block.specs.Inner.OneRow.{OnlyFields, IsBound, SameAim}
use Rattle.block.specs.declared.layout.Place.{Place}
use Rattle.block.specs.declared.layout.Place.TheVariants.{Header, Mask, Count, Cost, Next, Field, ResourceKind}

module _ {i : ℕ} {Changed : ℕ → Type 0} {b b' : Block} (valid : Valid b) (inside : i < L.rows b) (only : OnlyFields i Changed b b') where
  -- the bytes outside the rows
  outside : (p : ℕ) → (p < row_base) ⊎ (resource_kind_base ≤ p) → byte_at b' p ≡ byte_at b p
  outside p (inl h) = only.same p (λ f c e. omega arith)
  outside p (inr h) = only.same p (λ f c e. omega (arith, only.fields f c, valid.sized.rows_fit))

  -- the sizes
  size : (f : ℕ) → f < header_bytes → at b' (Header f) ≡ at b (Header f)
  size f h = outside f (inl (omega arith))

  pub same_agents : L.agents b' ≡ L.agents b
  same_agents = size L.agents_byte (omega arith)

  pub same_resources : L.resources b' ≡ L.resources b
  same_resources = size L.resources_byte (omega arith)

  pub same_states : L.states b' ≡ L.states b
  same_states = size L.states_byte (omega arith)

  same_propositions : L.propositions b' ≡ L.propositions b
  same_propositions = size L.propositions_byte (omega arith)

  pub same_rows : L.rows b' ≡ L.rows b
  same_rows = size L.rows_byte (omega arith)

  -- what is there of states, agents, actions and resources
  pub same_mask : (s : ℕ) → s < L.states b → L.mask b' s ≡ L.mask b s
  same_mask s l = outside (place_of (Mask s)) (inl (omega (arith, valid.sized.states_fit)))

  pub same_count : (s a : ℕ) → s < L.states b → a < L.agents b → L.count b' s a ≡ L.count b s a
  same_count s a l la = outside (place_of (Count s a)) (inl (omega (arith, valid.sized.states_fit, valid.sized.agents_fit)))

  pub same_cost : (s a k j : ℕ) → s < L.states b → a < L.agents b → k < L.count b s a → j < L.resources b → L.cost b' s a k j ≡ L.cost b s a k j
  same_cost s a k j l la lk lj =
      outside (place_of (Cost s a k j)) (inl (omega (arith, valid.sized.states_fit, valid.sized.agents_fit, valid.counted s a l la, valid.sized.resources_fit)))

  pub same_next : (s joint : ℕ) → s < L.states b → joint < max_joint → L.next b' s joint ≡ L.next b s joint
  same_next s joint l small = outside (place_of (Next s joint)) (inl (omega (arith, valid.sized.states_fit)))

  pub same_kind : (j : ℕ) → L.resource_kind b' j ≡ L.resource_kind b j
  same_kind j = outside (place_of (ResourceKind j)) (inr (omega arith))

  -- the fields of rows that may not change
  pub same_field : (k f : ℕ) → f < row_bytes → (k ≡ i → Changed f → ⊥) → at b' (Field k f) ≡ at b (Field k f)
  same_field k f small kept = only.same (place_of (Field k f)) λ g c e.
      let near = only.fields g c in
      let row : k ≡ i = omega arith in
      let field : g ≡ f = omega arith in
      kept row (subst Changed field c)

  aims : (k : ℕ) → ((f : ℕ) → f < bound_byte → k ≡ i → Changed f → ⊥) → SameAim k b b'
  aims k kept = record { kind = field L.kind_byte (omega arith); left = field L.left_byte (omega arith); right = field L.right_byte (omega arith); team = field L.team_byte (omega arith) }
    where
      field : (f : ℕ) → f < bound_byte → at b' (Field k f) ≡ at b (Field k f)
      field f small = same_field k f (omega arith) (kept f small)

  -- another row
  pub other_aim : (k : ℕ) → (k ≡ i → ⊥) → SameAim k b b'
  other_aim k other = aims k (λ f _ e _. other e)

  pub other_bound : (k : ℕ) → (k ≡ i → ⊥) → (j : ℕ) → j < L.resources b → L.bound b' k j ≡ L.bound b k j
  other_bound k other j l = same_field k (bound_byte + j) (omega (arith, valid.sized.resources_fit)) (λ e _. other e)

  sized : Sized b'
  sized = record {
    bytes = only.long ∙ valid.sized.bytes;
    agents_fit = omega (arith, same_agents, valid.sized.agents_fit);
    resources_fit = omega (arith, same_resources, valid.sized.resources_fit);
    states_fit = omega (arith, same_states, valid.sized.states_fit);
    propositions_fit = omega (arith, same_propositions, valid.sized.propositions_fit);
    rows_fit = omega (arith, same_rows, valid.sized.rows_fit);
    kinds_fit = λ j l. omega (arith, same_kind j, valid.sized.kinds_fit j (omega (arith, same_resources)));
  }

  acts_back : (s a k : ℕ) → s < L.states b → Acts b' s a k → Acts b s a k
  acts_back s a k l (inl (la, lk)) = let h : a < L.agents b = omega (arith, same_agents) in inl (h, omega (arith, same_count s a l h))
  acts_back s a k l (inr (la, e)) = inr (omega (arith, same_agents), e)

  acts_on : (s a k : ℕ) → s < L.states b → Acts b s a k → Acts b' s a k
  acts_on s a k l (inl (la, lk)) = inl (omega (arith, same_agents), omega (arith, same_count s a l la))
  acts_on s a k l (inr (la, e)) = inr (omega (arith, same_agents), e)

  -- a row with the same aim whose bounds fit
  pub row_same : (k : ℕ) → SameAim k b b' → (Strategic (L.kind b k) → (j : ℕ) → j < L.resources b → L.max_units < L.bound b' k j → L.bound b' k j ≡ L.unlimited) → RowFits b k → RowFits b' k
  row_same k aim bounds fits = record {
    known = rw aim.kind fits.known;
    prop_fits = rw (aim.kind, aim.left, same_propositions) fits.prop_fits;
    left_lower = rw (aim.kind, aim.left) fits.left_lower;
    right_lower = rw (aim.kind, aim.right) fits.right_lower;
    team_some = rw (aim.kind, aim.team) fits.team_some;
    team_fits = rw (aim.kind, aim.team, same_agents) fits.team_fits;
    bound_fits = rw (aim.kind, same_resources) bounds;
  }

  other_fits : (k : ℕ) → k < L.rows b → (k ≡ i → ⊥) → RowFits b' k
  other_fits k l other = row_same k (other_aim k other)
      (λ strategic j lj high. let same = other_bound k other j lj in same ∙ (valid.row_fits k l).bound_fits strategic j lj (omega arith))
      (valid.row_fits k l)

  module _ (kind-same : L.kind b' i ≡ L.kind b i) where
    -- a place in use stays so
    kinds : (k : ℕ) → L.kind b' k ≡ L.kind b k
    kinds k = go (ℕ_discrete k i)
      where
        go : Dec (k ≡ i) → L.kind b' k ≡ L.kind b k
        go (yes e) = rw e kind-same
        go (no other) = (other_aim k other).kind

    uses : (k f : ℕ) → UsesField b k f → UsesField b' k f
    uses k f = rw same_resources (λ h. h)

    in_use : (x : Place) → InUse b x → InUse b' x
    in_use (Header f) h = h
    in_use (Mask s) h = omega (arith, same_states)
    in_use (Count s a) (hs, ha) = (omega (arith, same_states), omega (arith, same_agents))
    in_use (Cost s a k j) (hs, ha, hk, hj) = (omega (arith, same_states), omega (arith, same_agents), omega (arith, same_count s a hs ha), omega (arith, same_resources))
    in_use (Next s joint) (hs, (small, acts)) = (omega (arith, same_states), (small, λ a l. acts_on s a (digit joint a) hs (acts a l)))
    in_use (Field k f) (hk, h) = (omega (arith, same_rows), rw (kinds k) (uses (L.kind b k) f h))
    in_use (ResourceKind j) h = omega (arith, same_resources)

    -- in a state, of an agent and of a resource that are there
    state : (s : ℕ) → s < L.states b' → s < L.states b
    state s l = omega (arith, same_states)

    agent : (a : ℕ) → a < L.agents b' → a < L.agents b
    agent a l = omega (arith, same_agents)

    resource : (j : ℕ) → j < L.resources b' → j < L.resources b
    resource j l = omega (arith, same_resources)

    pub valid_same : RowFits b' i → ((f : ℕ) → Changed f → UsesField b (L.kind b i) f) → Valid b'
    valid_same fits used = record {
      sized = sized;
      counted = λ s a l la. omega (arith, same_count s a (state s l) (agent a la), valid.counted s a (state s l) (agent a la));
      mask_fits = λ s l. rw (same_mask s (state s l), same_propositions) (valid.mask_fits s (state s l));
      cost_fits = λ s a k j l la lk lj more.
          let few : k < L.count b s a = omega (arith, same_count s a (state s l) (agent a la)) in
          omega (arith, same_cost s a k j (state s l) (agent a la) few (resource j lj), valid.cost_fits s a k j (state s l) (agent a la) few (resource j lj) (omega (arith, same_cost s a k j (state s l) (agent a la) few (resource j lj))));
      charge_sums = λ s a k j l la lk lj charge kind.
          let few : k < L.count b s a = omega (arith, same_count s a (state s l) (agent a la)) in
          valid.charge_sums s a k j (state s l) (agent a la) few (resource j lj) (omega (arith, same_cost s a k j (state s l) (agent a la) few (resource j lj))) (sym (same_kind j) ∙ kind);
      idle_free = λ s a j l la lj.
          let some : 0 < L.count b s a = omega (arith, valid.counted s a (state s l) (agent a la)) in
          same_cost s a 0 j (state s l) (agent a la) some (resource j lj) ∙ valid.idle_free s a j (state s l) (agent a la) (resource j lj);
      next_fits = λ s joint l (small, acts).
          let next = valid.next_fits s joint (state s l) (small, λ a h. acts_back s a (digit joint a) (state s l) (acts a h)) in
          omega (arith, same_next s joint (state s l) small, same_states);
      row_fits = λ k l. rows k (omega (arith, same_rows)) (ℕ_discrete k i);
      unused_zero = λ p l unused.
          only.same p (λ f c e. unused (Field i f, sym e, (omega (arith, same_rows), rw kind-same (uses (L.kind b i) f (used f c)))))
          ∙ valid.unused_zero p l (λ (x, e, held). unused (x, e, in_use x held));
    }
      where
        rows : (k : ℕ) → k < L.rows b → Dec (k ≡ i) → RowFits b' k
        rows k l (yes e) = subst (RowFits b') (sym e) fits
        rows k l (no other) = other_fits k l other

-- where bounds alone differ, the row itself has the same aim
pub own_aim : {i : ℕ} {b b' : Block} → Valid b → i < L.rows b → OnlyFields i (IsBound b) b b' → SameAim i b b'
own_aim {i} valid inside only = aims valid inside only i (λ f small _ bound. omega (arith, bound))
