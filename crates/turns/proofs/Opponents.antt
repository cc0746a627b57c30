-- The replies to a row's team: they are the moves of the other agents, and each leads to a state. Assumes nothing.
use mathlib.Core.Bool.{Bool, cond, not}
use mathlib.Core.Logic.{◌↔◌}
use mathlib.Core.Path.{◌≡◌, sym, ◌∙◌, ap, subst}
use Prim.Native.Nat.{ℕ, zero, suc, ◌+◌, ◌-◌, ◌/◌, ◌%◌, ◌^◌, ◌≤◌, ◌<◌}
use native.Mathlib.Nat.{pow-le-pow_right}
use native.Mathlib.Omega.{arith}
use lib.Pow.{pow_mono}
use borrow.Author.Tests.{eq-eqb, ne_eqb}
use Rattle.block.specs.Layout as L
use Rattle.block.specs.Layout.{Block, digit}
use Rattle.block.specs.Inner.Valid.{Valid}
use Rattle.game.specs.Position.{full, MoveOf}
use Rattle.game.specs.Model.{bit, structure_of, coalition_of, arena_of}
use Rattle.turns.specs.Inner.Rules.{ReplyTo}
use Rattle.game.proofs.Numbers.Decide.{eq?}
use Rattle.game.proofs.Bridge.Plays.{outcome_fits}
use Rattle.game.proofs.Bridge.Truth.{full_fits}
use Rattle.game.proofs.Blocks.Passing.{valid_proper}
use Rattle.game.proofs.Blocks.Reading.{sum_small, outcome_state}

-- the other agents' bits
other_bits : (team a : ℕ) → team ≤ 7 → a < 3 → (7 - team) / 2 ^ a % 2 + team / 2 ^ a % 2 ≡ 1
other_bits team zero l h = omega arith
other_bits team (suc zero) l h = omega arith
other_bits team (suc (suc zero)) l h = omega arith
other_bits team (suc (suc (suc a))) l h = absurd (omega arith)

complement : (team a : ℕ) → team ≤ 7 → a < 3 → bit (7 - team) a ≡ not (bit team a)
complement team a l h = go (eq? (team / 2 ^ a % 2) 1)
  where
    go : Dec (team / 2 ^ a % 2 ≡ 1) → bit (7 - team) a ≡ not (bit team a)
    go (yes e) = ne_eqb ((7 - team) / 2 ^ a % 2) 1 (λ e'. omega (arith, other_bits team a l h)) ∙ sym (ap not (eq-eqb (team / 2 ^ a % 2) 1 e))
    go (no ne) =
        let one : team / 2 ^ a % 2 < 2 = omega arith in
        eq-eqb ((7 - team) / 2 ^ a % 2) 1 (omega (arith, other_bits team a l h)) ∙ sym (ap not (ne_eqb (team / 2 ^ a % 2) 1 ne))

module _ (b : Block) (valid : Valid b) (i : ℕ) (row : i < L.rows b) (strategic : L.Strategic (L.kind b i)) where
  pub team_small : L.team b i ≤ 7
  team_small = omega (arith, (valid.row_fits i row).team_fits strategic, pow_mono {j = 3} valid.sized.agents_fit.1)

  -- the replies are the moves of the other agents' team
  pub others_reply : (s r : ℕ) → MoveOf (structure_of b) (bit (7 - L.team b i)) s r ↔ ReplyTo b i s r
  others_reply s r = (
    λ (small, acts). (small, λ a l. subst (λ (t : Bool). cond t (digit r a < L.count b s a) (digit r a ≡ 0)) (complement (L.team b i) a team_small (agent a l)) (acts a l)),
    λ (small, acts). (small, λ a l. subst (λ (t : Bool). cond t (digit r a < L.count b s a) (digit r a ≡ 0)) (sym (complement (L.team b i) a team_small (agent a l))) (acts a l)),
  )
    where
      agent : (a : ℕ) → a < L.agents b → a < 3
      agent a l = omega (arith, valid.sized.agents_fit)

  pub reply_small : (s r : ℕ) → ReplyTo b i s r → r < 64
  reply_small s r reply = omega (arith, reply.0, pow-le-pow_right {n = 4} (omega arith) valid.sized.agents_fit.1)

  module _ (s m r : ℕ) (state : s < L.states b) (move : MoveOf (structure_of b) (coalition_of b i) s m) (reply : ReplyTo b i s r) where
    pub joint_small : m + r < 64
    joint_small = sum_small b (valid_proper b valid) i (full (arena_of b i) s) m r move reply

    pub next_state : L.next b s (m + r) < L.states b
    next_state =
        subst (λ (q : ℕ). q < L.states b) (outcome_state b (valid_proper b valid) i (full (arena_of b i) s) m r move reply)
        (outcome_fits (arena_of b i) (valid_proper b valid) (full (arena_of b i) s) m r (full_fits (arena_of b i) s state) move reply).0

    pub next_small : L.next b s (m + r) < 24
    next_small = omega (arith, next_state, valid.sized.states_fit)
