-- What a step of writing does: it adds to the end of a text, and what the text has stays.
use Rattle.std.specs.Prelude.{List, ◌++◌, ◌≡◌, ℕ, ◌+◌, ◌≤◌, take, drop, length}
use Rattle.text.specs.declared.output.Output.{Output}

-- what is written
abbrev pub front : Output → List ℕ
front t = take t.len t.text.now

-- there is room for n bytes more
abbrev pub HasRoom : ℕ → Output → Type 0
HasRoom n t = t.len + n ≤ length t.text.now

-- from the buffer t up to a place, to the buffer u up to the next place: the word has been added
abbrev pub AddsAt : List ℕ → List ℕ → ℕ → List ℕ → ℕ → Type 0
AddsAt w t at u next = (rest : List ℕ) → take next u ++ rest ≡ take at t ++ (w ++ rest)

-- from a place on the buffer u is as the buffer t was
abbrev pub UntouchedAt : List ℕ → List ℕ → ℕ → Type 0
UntouchedAt t u at = drop at u ≡ drop at t

-- from the text t to the text u: the word has been added
abbrev pub Adds : List ℕ → Output → Output → Type 0
Adds w t u = AddsAt w t.text.now t.len u.text.now u.len

-- behind the text u the buffer is as it was
abbrev pub Untouched : Output → Output → Type 0
Untouched t u = UntouchedAt t.text.now u.text.now u.len

-- both are in the same buffer
abbrev pub SameBuffer : Output → Output → Type 0
SameBuffer t u = (u.text.ghost_name ≡ t.text.ghost_name) × (length u.text.now ≡ length t.text.now)

-- .. and the text u has at most n bytes more
abbrev pub Within : ℕ → Output → Output → Type 0
Within n t u = (u.len ≤ t.len + n) × SameBuffer t u
