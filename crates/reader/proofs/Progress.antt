-- How far the reader's loops have come: what is left of a repeated part of the format (text's Loops).
-- Assumes nothing.
use mathlib.Core.List.{List}
use mathlib.Core.Path.{◌≡◌, ap, ◌∙◌}
use Prim.Native.Nat.{ℕ, ◌+◌, ◌-◌, ◌≤◌, ◌<◌}
use native.Mathlib.Nat.{sub-zero}
use lib.ListN.{drop, set}
use Rattle.block.specs.Layout.{Block}
use Rattle.text.specs.Format.{Outcome, Format, read}
use Rattle.text.specs.Job.{collect}
use Rattle.text.proofs.Loops.{Loop, turn, finish}
use Rattle.text.proofs.Collecting.{collect_turn, collect_done}

-- the reader's loop has read j turns: it stands at next with the block b, and what is left is the rest of the turns
pub record Reached (loop : ℕ → ℕ → Format → Format) (text : List ℕ) (count at : ℕ) (b₀ : Block) (next : ℕ) (b : Block) (j : ℕ) : Type 0 where
  pub so : (f : Format) → read (loop count 0 f) b₀ (drop at text) ≡ read (loop (count - j) j f) b (drop next text)

pub reached_none : {loop : ℕ → ℕ → Format → Format} {text : List ℕ} {count at : ℕ} {b₀ : Block} → Reached loop text count at b₀ at b₀ 0
reached_none = record { so = λ f. rw sub-zero }

module _ {loop body : ℕ → ℕ → Format → Format} {text : List ℕ} {count j at next : ℕ} {b₀ b : Block} (l : Loop loop body) (r : Reached loop text count at b₀ next b j) where
  -- what one turn comes to, the loop comes to, as far as it has come
  one_more : (after : Format → Outcome) → j < count → ((f : Format) → read (body (count - (j + 1)) j f) b (drop next text) ≡ after f) →
      (f : Format) → read (loop count 0 f) b₀ (drop at text) ≡ after (loop (count - (j + 1)) (j + 1) f)
  one_more after h turn_read f =
      r.so f
      ∙ ap (λ (g : Format). read g b (drop next text)) (turn l count j f h)
      ∙ turn_read (loop (count - (j + 1)) (j + 1) f)

  pub reached_more : {after : ℕ} {b' : Block} → j < count → ((f : Format) → read (body (count - (j + 1)) j f) b (drop next text) ≡ read f b' (drop after text)) →
      Reached loop text count at b₀ after b' (j + 1)
  reached_more {after} {b'} h turn_read = record { so = one_more (λ f. read f b' (drop after text)) h turn_read }

  -- a turn that ends reading ends it for the loop
  pub reached_stop : {end : Outcome} → j < count → ((f : Format) → read (body (count - (j + 1)) j f) b (drop next text) ≡ end) →
      (f : Format) → read (loop count 0 f) b₀ (drop at text) ≡ end
  reached_stop {end} h turn_read = one_more (λ f. end) h turn_read

  pub reached_all : count ≤ j → (f : Format) → read (loop count 0 f) b₀ (drop at text) ≡ read f b (drop next text)
  reached_all h f = r.so f ∙ ap (λ (g : Format). read g b (drop next text)) (finish l count j f h)

-- the same of parts that each tell a number: told is the list of them so far
pub record Collected (part : ℕ → ℕ → (ℕ → Format) → Format) (text : List ℕ) (count : ℕ) (none : List ℕ) (at : ℕ) (b₀ : Block) (next : ℕ) (b : Block) (told : List ℕ) (j : ℕ) : Type 0 where
  pub so : (f : List ℕ → Format) → read (collect part count 0 none f) b₀ (drop at text) ≡ read (collect part (count - j) j told f) b (drop next text)

pub collected_none : {part : ℕ → ℕ → (ℕ → Format) → Format} {text : List ℕ} {count : ℕ} {none : List ℕ} {at : ℕ} {b₀ : Block} → Collected part text count none at b₀ at b₀ none 0
collected_none = record { so = λ f. rw sub-zero }

module _ {part : ℕ → ℕ → (ℕ → Format) → Format} {text none told : List ℕ} {count j at next : ℕ} {b₀ b : Block} (r : Collected part text count none at b₀ next b told j) where
  one_more_told : (after : (ℕ → Format) → Outcome) → j < count → ((f : ℕ → Format) → read (part (count - (j + 1)) j f) b (drop next text) ≡ after f) →
      (f : List ℕ → Format) → read (collect part count 0 none f) b₀ (drop at text) ≡ after (λ n. collect part (count - (j + 1)) (j + 1) (set told j n) f)
  one_more_told after h turn_read f =
      r.so f
      ∙ ap (λ (g : Format). read g b (drop next text)) (collect_turn part count j told f h)
      ∙ turn_read (λ n. collect part (count - (j + 1)) (j + 1) (set told j n) f)

  pub collected_more : {after : ℕ} {b' : Block} (n : ℕ) → j < count → ((f : ℕ → Format) → read (part (count - (j + 1)) j f) b (drop next text) ≡ read (f n) b' (drop after text)) →
      Collected part text count none at b₀ after b' (set told j n) (j + 1)
  collected_more {after} {b'} n h turn_read = record { so = one_more_told (λ f. read (f n) b' (drop after text)) h turn_read }

  pub collected_stop : {end : Outcome} → j < count → ((f : ℕ → Format) → read (part (count - (j + 1)) j f) b (drop next text) ≡ end) →
      (f : List ℕ → Format) → read (collect part count 0 none f) b₀ (drop at text) ≡ end
  collected_stop {end} h turn_read = one_more_told (λ f. end) h turn_read

  pub collected_all : count ≤ j → (f : List ℕ → Format) → read (collect part count 0 none f) b₀ (drop at text) ≡ read (f told) b (drop next text)
  collected_all h f = r.so f ∙ ap (λ (g : Format). read g b (drop next text)) (collect_done part count j told f h)
