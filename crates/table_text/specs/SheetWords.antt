-- The words of a sheet's lines (document 02, Req 01).
use Rattle.std.specs.Prelude.{cond, List, [], ◌∷◌, map, ℕ, ℤ}
use Rattle.calendar.specs.Meaning.{Row, is_empty}
use Rattle.table_text.specs.Numerals.{numeral, decimal}

-- a cell: its label, "'.' for none"
unfoldable pub cell_word : ℤ → List ℕ
unfolding numeral
cell_word z = cond (is_empty z) (46 ∷ []) (numeral z)

-- "period, distance, then the cells"
unfoldable pub row_words : Row → List (List ℕ)
unfolding decimal cell_word
row_words r = decimal r.period ∷ decimal r.distance ∷ map cell_word r.cells

-- the words "refused" and "at"
abbrev pub refused_word : List ℕ
refused_word = 114 ∷ 101 ∷ 102 ∷ 117 ∷ 115 ∷ 101 ∷ 100 ∷ []

abbrev pub at_word : List ℕ
at_word = 97 ∷ 116 ∷ []

-- "A refusal prints one such line only, 'refused 8 at 1'."
abbrev pub refusal_words : ℕ → ℕ → List (List ℕ)
refusal_words n k = refused_word ∷ decimal n ∷ at_word ∷ decimal k ∷ []
