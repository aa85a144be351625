-- The lines of a sheet (document 02, Req 01), as the code writes them.
use Rattle.std.specs.Prelude.{List, [], ◌∷◌, ◌++◌, ℕ, zero, suc, ◌*◌, ◌≤◌, ◌<◌, ℤ, length}
use Rattle.calendar.specs.Limits.{heading_length}
use Rattle.calendar.specs.Meaning.{Row}
use Rattle.conversion.specs.Shows.{end_at, row_at}
use Rattle.table_text.specs.Words.{space, line}
use Rattle.table_text.specs.SheetWords.{cell_word, row_words, refusal_words}

-- the cells of a row, each with a space before it
abbrev pub spaced_cells : List ℤ → List ℕ
spaced_cells [] = []
spaced_cells (z ∷ l) = space ∷ (cell_word z ++ spaced_cells l)

-- "period, distance, then the cells"
abbrev pub row_line : Row → List ℕ
row_line r = line (row_words r)

-- the lines of the first n headings
abbrev pub row_lines : List ℕ → List ℤ → ℕ → List ℕ
row_lines headings pool zero = []
row_lines headings pool (suc i) = row_lines headings pool i ++ row_line (row_at headings pool i)

-- n headings are there, and their rows stand in the pool
pub record RowsThere (headings : List ℕ) (pool : List ℤ) (n : ℕ) : Type 0 where
  pub headings-there : heading_length * n ≤ length headings
  pub rows-there : (i : ℕ) → i < n → end_at headings i ≤ length pool

-- "A refusal prints one such line only, 'refused 8 at 1'."
abbrev pub refusal_line : ℕ → ℕ → List ℕ
refusal_line n k = line (refusal_words n k)
