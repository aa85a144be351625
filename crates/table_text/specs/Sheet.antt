-- What is printed for a table's text (document 02, Req 01), as it is computed.
use Rattle.std.specs.Prelude.{List, [], ◌∷◌, map, ℕ}
use Rattle.calendar.specs.Limits.{entry_limit}
use Rattle.calendar.specs.Outcome.{Outcome, outcome}
use Rattle.calendar.specs.Outcome.Outcome.{refused_at, rows}
use Rattle.table_text.specs.Numerals.{decimal}
use Rattle.table_text.specs.Words.{lines}
use Rattle.table_text.specs.Text.{bad_text, sheet_pool}
use Rattle.table_text.specs.Parse.{parse}
use Rattle.table_text.specs.Parse.Reading.{bad, table}
use Rattle.table_text.specs.SheetWords.{row_words, refusal_words}

-- what converting the text's table comes to: "the new refusal 19, with the number of the first bad line .. it comes before refusal 1"
unfoldable pub text_outcome : List ℕ → Outcome
unfolding parse outcome
text_outcome s = elim (parse s) [ bad k ↦ refused_at bad_text k | table t ↦ outcome t entry_limit sheet_pool ]

-- the words of each line: "a line for each entry"; "A refusal prints one such line only"
unfoldable pub sheet_lines : Outcome → List (List (List ℕ))
unfolding decimal row_words
sheet_lines (refused_at n k) = refusal_words n k ∷ []
sheet_lines (rows l) = map row_words l

unfoldable pub printed : Outcome → List ℕ
unfolding sheet_lines
printed o = lines (sheet_lines o)

-- what the program prints for what it reads
unfoldable pub sheet : List ℕ → List ℕ
unfolding text_outcome printed
sheet s = printed (text_outcome s)
