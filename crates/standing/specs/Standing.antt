-- Rows that stand in lent lists: read by their headings, and the test that the lists hold such rows and nothing else.
use Rattle.std.specs.Prelude.{◌≡◌, Bool, true, false, ◌&&◌, ℕ, zero, suc, eqb, ℤ, length}
use mathlib.Core.List.{List, [], ◌∷◌, ◌++◌, Memᴰ}
use Rattle.calendar.specs.Meaning.{Row, empty}
use Rattle.calendar.specs.Lists.{equal, filled}
use Rattle.calendar.specs.Granules.{granules}
use Rattle.calendar.specs.Sound.{sound}
use Rattle.calendar.specs.Least.{least}
use Rattle.calendar.specs.Stored.{headings_from, joined}
use Rattle.conversion.specs.Shows.{row_at}

-- two lists have the same members in the same order
abbrev pub alike : {A : Type 0} → (A → A → Bool) → List A → List A → Bool
alike f [] [] = true
alike f [] (y ∷ m) = false
alike f (x ∷ l) [] = false
alike f (x ∷ l) (y ∷ m) = f x y && alike f l m

-- the rows of the first n headings
abbrev pub rows_at : List ℕ → List ℤ → ℕ → List Row
rows_at headings pool zero = []
rows_at headings pool (suc n) = rows_at headings pool n ++ (row_at headings pool n ∷ [])

-- ---- the test

-- the row passes rule 13, and its period is the least
unfoldable pub is_least : Row → Bool
unfolding sound least
is_least r = sound r && eqb (least r).period r.period

abbrev pub all_least : List Row → Bool
all_least [] = true
all_least (r ∷ l) = is_least r && all_least l

-- the lists hold the rows l one behind the other, each with its heading, and nothing behind them
unfoldable pub holds : List Row → List ℕ → List ℤ → Bool
unfolding granules
holds l headings pool =
    alike eqb headings (filled (length headings) 0 (headings_from 0 l)) && alike equal pool (filled (length pool) empty (joined l))

-- Req 09: "the stored headings and rows lie one behind the other, pass 13's rule and have each its least period, all behind them
-- being empty", for k entries. Rule 13 is Req 07's, with the fourth number of the heading: `holds` compares it with the granules
-- that are counted in the row.
unfoldable pub standing : ℕ → List ℕ → List ℤ → Bool
unfolding is_least holds
standing k headings pool = let l = rows_at headings pool k in all_least l && holds l headings pool

-- ---- what it decides

-- the lists hold the rows l, each of them least, and nothing else
pub record Standing (l : List Row) (headings : List ℕ) (pool : List ℤ) : Type 0 where
  pub numbers : headings ≡ filled (length headings) 0 (headings_from 0 l)
  pub cells : pool ≡ filled (length pool) empty (joined l)
  pub all_sound : (r : Row) → Memᴰ r l → sound r ≡ true
  pub all-least : (r : Row) → Memᴰ r l → (least r).period ≡ r.period
