-- The repeated parts of a job's text (specs' Job), each as a loop and its body.
-- Assumes nothing.
use mathlib.Core.Bool.{cond}
use mathlib.Core.List.{List}
use mathlib.Core.Path.{refl}
use Prim.Native.Nat.{ℕ}
use Rattle.block.specs.Layout.{digit}
use Rattle.block.specs.declared.layout.Place.{Place}
use Rattle.text.specs.declared.sizes.Sizes.{Sizes}
use Rattle.text.specs.Format.{Spelling, value}
use Rattle.text.specs.Job.{index, each_resource, costs, actions, possible, joint_fields, next_field, next_fields, state_lines, states, row_line, row_lines}
use Rattle.text.proofs.Loops.{Loop}

pub each_loop : (spelling : ℕ → ℕ → Spelling) (place : ℕ → Place) → Loop (each_resource spelling place) (λ left j f. value (spelling j left) (place j) (λ v. f))
unfolding each_resource
each_loop spelling place = record { done = λ j f. refl; more = λ m j f. refl }

pub actions_loop : (z : Sizes) (s a : ℕ) → Loop (actions z s a) (λ left k f. costs z s a left k z.resources 0 f)
unfolding actions
actions_loop z s a = record { done = λ j f. refl; more = λ m j f. refl }

pub joint_loop : (joint : ℕ) → Loop (joint_fields joint) (λ left a f. index (digit joint a) f)
unfolding joint_fields
joint_loop joint = record { done = λ j f. refl; more = λ m j f. refl }

pub nexts_loop : (z : Sizes) (s : ℕ) (counts : List ℕ) → Loop (next_fields z s counts) (λ left joint f. cond (possible counts joint) (next_field z s counts joint f) f)
unfolding next_fields
nexts_loop z s counts = record { done = λ j f. refl; more = λ m j f. refl }

pub states_loop : (z : Sizes) → Loop (states z) (λ left s f. state_lines z s f)
unfolding states
states_loop z = record { done = λ j f. refl; more = λ m j f. refl }

pub rows_loop : (z : Sizes) → Loop (row_lines z) (λ left i f. row_line z i f)
unfolding row_lines
rows_loop z = record { done = λ j f. refl; more = λ m j f. refl }
