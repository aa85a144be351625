-- Document 02's examples of Req 01, and a text for each of its sentences on refusals, by computation.
use mathlib.Core.Path.{◌≡◌, refl}
use mathlib.Core.List.{List, [], ◌∷◌, ◌++◌}
use Prim.Native.Nat.{ℕ, zero, suc}
use Rattle.calendar.specs.Outcome.Outcome.{refused_at}
use Rattle.table_text.specs.Sheet.{text_outcome, printed, sheet}

-- "0 0 0 0 0 0"
abbrev pub days : List ℕ
days = 48 ∷ 32 ∷ 48 ∷ 32 ∷ 48 ∷ 32 ∷ 48 ∷ 32 ∷ 48 ∷ 32 ∷ 48 ∷ 10 ∷ []

-- "1 0 0 7 0 0"
abbrev pub weeks : List ℕ
weeks = 49 ∷ 32 ∷ 48 ∷ 32 ∷ 48 ∷ 32 ∷ 55 ∷ 32 ∷ 48 ∷ 32 ∷ 48 ∷ 10 ∷ []

-- "The lines .. print exactly '1 1 0' and '7 1 0 1 1 1 1 1 1', each with its line feed, and nothing else."
pub days-and-weeks : sheet (days ++ weeks) ≡ 49 ∷ 32 ∷ 49 ∷ 32 ∷ 48 ∷ 10 ∷ 55 ∷ 32 ∷ 49 ∷ 32 ∷ 48 ∷ 32 ∷ 49 ∷ 32 ∷ 49 ∷ 32 ∷ 49 ∷ 32 ∷ 49 ∷ 32 ∷ 49 ∷ 32 ∷ 49 ∷ 10 ∷ []
unfolding sheet
days-and-weeks = refl

-- "A refusal prints one such line only, 'refused 8 at 1'."
pub refused-eight : printed (refused_at 8 1) ≡ 114 ∷ 101 ∷ 102 ∷ 117 ∷ 115 ∷ 101 ∷ 100 ∷ 32 ∷ 56 ∷ 32 ∷ 97 ∷ 116 ∷ 32 ∷ 49 ∷ 10 ∷ []
unfolding printed
refused-eight = refl

-- "1 0 0 8000 0 0" behind days: the pool has 4,096 cells
pub too_long : text_outcome (days ++ (49 ∷ 32 ∷ 48 ∷ 32 ∷ 48 ∷ 32 ∷ 56 ∷ 48 ∷ 48 ∷ 48 ∷ 32 ∷ 48 ∷ 32 ∷ 48 ∷ 10 ∷ [])) ≡ refused_at 8 1
unfolding text_outcome
too_long = refl

-- "Empty input is refusal 1 at 0."
pub nothing-typed : text_outcome [] ≡ refused_at 1 0
unfolding text_outcome
nothing-typed = refl

-- "A last line without its line feed is bad."
pub left_open : text_outcome (days ++ (48 ∷ [])) ≡ refused_at 19 1
unfolding text_outcome
left_open = refl

-- days, n times
abbrev pub many : ℕ → List ℕ → List ℕ
many zero more = more
many (suc n) more = days ++ many n more

-- 19 "comes before refusal 1": a bad line behind more entries than a table may have, and these entries without it
pub bad-before-many : text_outcome (many 65 (10 ∷ [])) ≡ refused_at 19 65
unfolding text_outcome
bad-before-many = refl

pub too_many : text_outcome (many 65 []) ≡ refused_at 1 0
unfolding text_outcome
too_many = refl
