-- `bad` decides number 2: the five sizes are tried one after the other, and then the kinds.
use Rattle.std.proofs.Common.{◌≤◌, ◌<◌, rules}
use Rattle.block.specs.Decide.{Some, Outside}
use Rattle.block.specs.Layout.{Block, max_agents, max_resources, max_states, max_propositions, max_rows, agents, resources, states, propositions, rows, resource_kind, max_kind}
use Rattle.block.specs.Check.{BadSizes, agents_range, resources_range, states_range, propositions_range, rows_range, kinds_range}
use Rattle.block.proofs.Decide as D
use Rattle.block.proofs.Passing.{inside}
use Rattle.conditions.proofs.sizes.bad.Goals.{then-outside, else-outside, then-outside-2, else-outside-2, then-outside-3, else-outside-3, then-outside-4, else-outside-4}
use Rattle.conditions.proofs.sizes.bad.Goals as goal

-- where the sizes are right, a kind is at fault
last : {b : Block} → (Outside 1 max_agents (agents b) → ⊥) → (Outside 1 max_resources (resources b) → ⊥) → (Outside 1 max_states (states b) → ⊥) → (Outside 1 max_propositions (propositions b) → ⊥) → (Outside 1 max_rows (rows b) → ⊥) → BadSizes b → Some (resources b) (λ j. max_kind < resource_kind b j)
last a r s p w (agents_range h) = absurd (a h)
last a r s p w (resources_range h) = absurd (r h)
last a r s p w (states_range h) = absurd (s h)
last a r s p w (propositions_range h) = absurd (p h)
last a r s p w (rows_range h) = absurd (w h)
last a r s p w (kinds_range h) = h

pub returns-then-outside-5 : goal.returns-then-outside-5
returns-then-outside-5 c = D.yes c.if-outside-5.true
    (elim c.if-outside-4.branch [
      | else-outside-4 w ↦ rows_range (D.truth (rw w.rows.ensures at w.outside-else-outside-4.ensures) cc)
      | then-outside-4 v ↦ elim c.if-outside-3.branch [
        | else-outside-3 w ↦ propositions_range (D.truth (rw w.propositions.ensures at w.outside-else-outside-3.ensures) cc)
        | then-outside-3 v ↦ elim c.if-outside-2.branch [
          | else-outside-2 w ↦ states_range (D.truth (rw w.states.ensures at w.outside-else-outside-2.ensures) cc)
          | then-outside-2 v ↦ elim c.if-outside.branch [
            | else-outside w ↦ resources_range (D.truth (rw w.resources.ensures at w.outside-else-outside.ensures) cc)
            | then-outside w ↦ agents_range (D.truth (rw c.agents.ensures at c.outside.ensures) cc)
          ]
        ]
      ]
    ])

pub kinds_bad-requires : goal.kinds_bad-requires
kinds_bad-requires c =
    let few : resources c.args.block.now ≤ max_resources =
    elim c.if-outside-4.branch [
      | then-outside-4 v ↦ absurd cc
      | else-outside-4 v ↦ elim c.if-outside-3.branch [
        | then-outside-3 w ↦ absurd cc
        | else-outside-3 w ↦ elim c.if-outside-2.branch [
          | then-outside-2 u ↦ absurd cc
          | else-outside-2 u ↦ elim c.if-outside.branch [
            | then-outside z ↦ absurd cc
            | else-outside z ↦ (inside _ _ _ (D.falsity (rw z.resources.ensures at z.outside-else-outside.ensures) cc)).1
          ]
        ]
      ]
    ] in
    (search rules, few)

pub returns-else-outside-5 : goal.returns-else-outside-5
returns-else-outside-5 c = D.same c.kinds_bad.ensures kinds_range
    (elim c.if-outside-4.branch [
      | then-outside-4 v ↦ absurd cc
      | else-outside-4 v ↦ elim c.if-outside-3.branch [
        | then-outside-3 w ↦ absurd cc
        | else-outside-3 w ↦ elim c.if-outside-2.branch [
          | then-outside-2 u ↦ absurd cc
          | else-outside-2 u ↦ elim c.if-outside.branch [
            | then-outside z ↦ absurd cc
            | else-outside z ↦ last
                (D.falsity (rw c.agents.ensures at c.outside.ensures) cc)
                (D.falsity (rw z.resources.ensures at z.outside-else-outside.ensures) cc)
                (D.falsity (rw u.states.ensures at u.outside-else-outside-2.ensures) cc)
                (D.falsity (rw w.propositions.ensures at w.outside-else-outside-3.ensures) cc)
                (D.falsity (rw v.rows.ensures at v.outside-else-outside-4.ensures) cc)
          ]
        ]
      ]
    ])
