-- Bytes of the text: words, numbers, and what follows a word.
use Rattle.std.specs.Prelude.{cond, List, [], ◌∷◌, ◌++◌, ◌≡◌, ℕ, zero, suc, ◌+◌, ◌/◌, ◌%◌, ltb, eqb}
use Prim.Native.Char.{code}
use Prim.Native.String.{String}

-- the bytes of a quoted word
abbrev pub ascii : String → List ℕ
ascii String.[] = []
ascii (String.◌∷◌ c s) = code c ∷ ascii s

abbrev pub comma : ℕ
comma = 44

abbrev pub line_end : ℕ
line_end = 10

abbrev pub minus : ℕ
minus = 45

-- the byte of a digit 0 to 9
abbrev pub numeral : ℕ → ℕ
numeral d = 48 + d

-- a number of a text is below this: it is that of a byte
abbrev pub numbers : ℕ
numbers = 256

-- a number in base ten, without leading zeros; k bounds how many digits follow the first
unfoldable pub decimal_to : ℕ → ℕ → List ℕ
decimal_to zero n = numeral n ∷ []
decimal_to (suc k) n = cond (ltb n 10) (numeral n ∷ []) (decimal_to k (n / 10) ++ numeral (n % 10) ∷ [])

abbrev pub decimal : ℕ → List ℕ
decimal n = decimal_to n n

-- a number and the byte after it
abbrev pub field : ℕ → ℕ → List ℕ
field n sep = decimal n ++ sep ∷ []

-- the text t begins with the word w
abbrev pub Starts : List ℕ → List ℕ → Type 0
Starts w t = (rest : List ℕ) × (t ≡ w ++ rest)

-- what a search in a text found: which of several spellings it begins with, and what follows
pub data Found : Type 0 where
  found : ℕ → List ℕ → Found
  missing : Found

-- spelling n, where the text begins with the word w; else the other
unfoldable pub after : ℕ → List ℕ → List ℕ → Found → Found
after n [] t other = found n t
after n (x ∷ w) [] other = other
after n (x ∷ w) (y ∷ t) other = cond (eqb x y) (after n w t other) other

-- the spelling below n that the text begins with
unfoldable pub search : (ℕ → List ℕ) → ℕ → List ℕ → Found
search spell zero t = missing
search spell (suc n) t = after n (spell n) t (search spell n t)
