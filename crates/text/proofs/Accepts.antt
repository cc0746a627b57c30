-- Reading accepts exactly the texts of the blocks that pass, and what is written for such a block is read as the same block (specs' Exact and RoundTrip).
-- Assumes nothing.
use mathlib.Core.List.{List}
use mathlib.Core.Path.{◌≡◌, sym, ap, ◌∙◌}
use Prim.Native.Nat.{ℕ, ◌<◌}
use native.Mathlib.Omega.{arith}
use lib.ListN.{length, get_or, length-replicate, get_or-replicate}
use Rattle.block.specs.Layout.{Block, block_bytes, byte_values, byte_at, agents, resources, states, count, cost, resource_kind, sum_kind, charge_byte, Used}
use Rattle.block.specs.Check.{Passes}
use Rattle.block.specs.Inner.Valid.{Valid}
use Rattle.block.proofs.Passing.{passing}
use Rattle.text.specs.declared.sizes.Edition.{Edition}
use Rattle.text.specs.declared.sizes.Edition.TheVariants.{First, Second}
use Rattle.text.specs.Numeral.{Starts, missing}
use Rattle.text.specs.Format.{Spells, accepted, read}
use Rattle.text.specs.Job.{job_word, header_line, job}
use Rattle.text.specs.Text.{text_in, blank, told_by, edition_of, read_text, Exact, RoundTrip}
use Rattle.text.proofs.Search.{after_found, after_other}
use Rattle.text.proofs.Formats.{spells_good, written, sound, complete}
use Rattle.text.proofs.DistinctPlaces.{job_proper}
use Rattle.text.proofs.FieldsByName.{job_every}
use Rattle.text.proofs.ValidPasses.{valid_passes}
use Rattle.text.proofs.Fitting.{Tellable, all_tellable, fits_tellable, fits_valid, valid_fits, used_avoided, unused_avoided}

pub blank_length : length blank ≡ block_bytes
unfolding blank
blank_length = length-replicate {A = ℕ} block_bytes 0

pub blank_zero : (n : ℕ) → n < block_bytes → byte_at blank n ≡ 0
unfolding blank
blank_zero n h = get_or-replicate block_bytes n 0 0 h

-- a text of a block in an edition is told to be one by its first word
edition_told : (e : Edition) (b : Block) (t : List ℕ) → Spells (job e) b t → edition_of t ≡ e
unfolding job header_line
edition_told Second b t s = ap told_by (after_found 0 (job_word Second) t s.0 missing s.1)
edition_told First b t s = ap told_by (after_other 0 (job_word Second) t missing other)
  where
    other : Starts (job_word Second) t → ⊥
    other r =
        let here : get_or t 3 0 ≡ 44 = rw s.1 in
        let there : get_or t 3 0 ≡ 50 = rw r.1 in
        omega arith

reads : (e : Edition) (t : List ℕ) (b : Block) → read (job e) blank t ≡ accepted b → Passes b × Spells (job e) b t
reads e t b r =
    let (spells, bytes, kept) = sound (job e) blank b t (job_proper e) blank_length r in
    let fits = (job_every _ b e).0 (spells_good (job e) b t spells) in
    let zero : (n : ℕ) → n < block_bytes → (Used b n → ⊥) → byte_at b n ≡ 0 = λ n h u. kept n ((job_every _ b e).1 (unused_avoided e b n fits u)) ∙ blank_zero n h in
    (valid_passes b (fits_valid e b fits bytes zero), spells)

valid_reads : (e : Edition) (t : List ℕ) (b : Block) → Valid b → Spells (job e) b t → read_text t ≡ accepted b
valid_reads e t b v s =
    rw (edition_told e b t s)
    (complete (job e) blank b t (job_proper e) v.sized.bytes (blank_length, λ n h a. v.unused_zero n h (used_avoided e b n ((job_every _ b e).0 a)) ∙ sym (blank_zero n h)) s)

pub accepts : (t : List ℕ) → Exact t
accepts t b = (
  λ r. let (passes, spells) = reads (edition_of t) t b r in (passes, (edition_of t, spells)),
  λ p. valid_reads p.1.0 t b (passing p.0) p.1.1,
)

-- a block with a max resource or a charge is the meaning of no edition 1 text
first_tells : (b : Block) (t : List ℕ) → Spells (job First) b t → Tellable First b
first_tells b t s = fits_tellable First b ((job_every _ b First).0 (spells_good (job First) b t s))

pub first_sums : (b : Block) (t : List ℕ) → Spells (job First) b t → (j : ℕ) → j < resources b → resource_kind b j ≡ sum_kind
first_sums b t s j hj = omega (arith, (first_tells b t s).kinds j hj)

pub first_takes : (b : Block) (t : List ℕ) → Spells (job First) b t → (s a k j : ℕ) → s < states b → a < agents b → k < count b s a → j < resources b → cost b s a k j < charge_byte
first_takes b t s = (first_tells b t s).costs

-- what is written in an edition that can tell the block is read as the same block
pub read_back : (e : Edition) (b : Block) → Valid b → Tellable e b → read_text (text_in e b) ≡ accepted b
read_back e b v told = valid_reads e (text_in e b) b v (written (job e) b (job_proper e) ((job_every _ b e).1 (valid_fits e b v told)))

pub round_trip : (b : Block) → Valid b → ((p : ℕ) → byte_at b p < byte_values) → RoundTrip b
round_trip b v bytes = read_back Second b v (all_tellable b v bytes)
