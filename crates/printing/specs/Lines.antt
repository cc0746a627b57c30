-- The lines of a listing (document 01, "The job Catch"), and the line of a refused text.
use Rattle.std.specs.Prelude.{List, ◌++◌, ℕ}
use Rattle.std.specs.Int.Count.{ones}
use Rattle.text.specs.Numeral.{ascii, comma, line_end, field}

abbrev pub list_line : ℕ → List ℕ
list_line rows = ascii "list," ++ field rows line_end

-- the row, the count of states in its word, and the word
abbrev pub set_line : ℕ → ℕ → List ℕ
set_line i w = ascii "set," ++ (field i comma ++ (field (ones w) comma ++ field w line_end))

-- row, state, rank and move
abbrev pub plan_line : ℕ → ℕ → ℕ → ℕ → List ℕ
plan_line i s rank move = ascii "plan," ++ (field i comma ++ (field s comma ++ (field rank comma ++ field move line_end)))

abbrev pub refused_line : ℕ → List ℕ
refused_line n = ascii "refused," ++ field n line_end
