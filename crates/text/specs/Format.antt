-- A description of texts, what a block's text is by it, and how a text is read by it.
-- Reading goes field by field from the left: each field is tried for its form, with the comma or line end after it, and then for its value.
use Rattle.std.specs.Prelude.{Bool, cond, List, [], ◌∷◌, ◌++◌, ◌≡◌, ℕ, ◌<◌, T, set}
use Rattle.block.specs.Layout.{Block, place_of, at}
use Rattle.block.specs.declared.layout.Place.{Place}
use Rattle.block.specs.declared.refusal.Refusal.{Refusal}
use Rattle.block.specs.declared.refusal.Refusal.TheVariants.{Form}
use Rattle.text.specs.Numeral.{Found, found, missing, after, search}

-- how a byte of the block stands in the text
pub record Spelling : Type 0 where
  -- how many spellings there are, and the bytes of each, with the comma or line end
  pub options : ℕ
  pub spell : ℕ → List ℕ
  -- the byte that a spelling stands for, whether it may stand there, and what refuses it where it may not
  pub byte : ℕ → ℕ
  pub allowed : ℕ → Bool
  pub refusal : ℕ → Refusal
  -- the spelling that the writer uses for a byte
  pub chosen : ℕ → ℕ

-- fixed bytes; a byte of the block, on which what follows may depend
pub data Format : Type 0 where
  end : Format
  exactly : List ℕ → Format → Format
  value : Spelling → Place → (ℕ → Format) → Format

-- the text of a block
abbrev pub write : Format → Block → List ℕ
write end b = []
write (exactly w f) b = w ++ write f b
write (value x p k) b = x.spell (x.chosen (at b p)) ++ write (k (at b p)) b

-- every text of a block: each of its bytes in any spelling that may stand there
abbrev pub Spells : Format → Block → List ℕ → Type 0
Spells end b t = t ≡ []
Spells (exactly w f) b t = (rest : List ℕ) × (t ≡ w ++ rest) × Spells f b rest
Spells (value x p k) b t =
    (o : ℕ) × (o < x.options) × T (x.allowed o) × (x.byte o ≡ at b p) × (rest : List ℕ) × (t ≡ x.spell o ++ rest) × Spells (k (at b p)) b rest

-- what reading a text comes to; a refusal has the text from the field on at which reading stops
pub data Outcome : Type 0 where
  accepted : Block → Outcome
  refused : Refusal → List ℕ → Outcome

abbrev pub store : Block → Place → ℕ → Block
store b p v = set b (place_of p) v

-- how reading goes on from what was found in a text; one that does not have the form is refused
abbrev pub on_found : Found → List ℕ → (ℕ → List ℕ → Outcome) → Outcome
on_found (found o rest) t f = f o rest
on_found missing t f = refused Form t

-- reading a text into a block
abbrev pub read : Format → Block → List ℕ → Outcome
read end b [] = accepted b
read end b (x ∷ t) = refused Form (x ∷ t)
read (exactly w f) b t = on_found (after 0 w t missing) t (λ o rest. read f b rest)
read (value x p k) b t =
    on_found (search x.spell x.options t) t
    (λ o rest. cond (x.allowed o) (read (k (x.byte o)) (store b p (x.byte o)) rest) (refused (x.refusal o) t))

-- where reading comes to a value that may not stand there: its place, the block read so far with the value's byte, and the text from the value on
pub data Stop : Type 0 where
  nowhere : Stop
  stopped : Place → Block → List ℕ → Stop

abbrev pub stop_found : Found → (ℕ → List ℕ → Stop) → Stop
stop_found (found o t) f = f o t
stop_found missing f = nowhere

abbrev pub stop : Format → Block → List ℕ → Stop
stop end b t = nowhere
stop (exactly w f) b t = stop_found (after 0 w t missing) (λ o rest. stop f b rest)
stop (value x p k) b t =
    stop_found (search x.spell x.options t)
    (λ o rest. cond (x.allowed o) (stop (k (x.byte o)) (store b p (x.byte o)) rest) (stopped p (store b p (x.byte o)) t))
