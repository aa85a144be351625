-- A text laid into a lent list from its start: as much of it as fits, and behind it what stood there.
use Rattle.std.specs.Prelude.{◌≡◌, List, ◌++◌, ℕ, ◌+◌, min, length, take, drop}

abbrev pub laid : List ℕ → List ℕ → List ℕ
laid text out = take (length out) text ++ drop (length text) out

-- the list `now`, which was `out`, holds the text, and the next byte goes to `at`: behind the list's end, and not at it, where the text does not fit
pub record Laid (text out : List ℕ) (at : ℕ) (now : List ℕ) : Type 0 where
  pub place : at ≡ min (length text) (length out + 1)
  pub holds : now ≡ laid text out

-- what stands behind any text, from `at` on, is made `text` longer: the list is `now` then, and the next byte goes to `next`
abbrev pub Adds : List ℕ → ℕ → List ℕ → ℕ → List ℕ → Type 0
Adds text at before next now = (t out : List ℕ) → Laid t out at before → Laid (t ++ text) out next now
