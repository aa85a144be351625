-- Calls one after the other.
use Rattle.std.specs.Prelude.{◌≡◌, ℕ, suc, ◌*◌, ℤ, length, take, drop}
use mathlib.Core.List.{List, [], ◌∷◌, ◌++◌, Memᴰ}
use Rattle.walks.specs.Walk.{Walk, Left, start, call}

-- ---- lists that the caller left alone, but perhaps the table

-- one call for each table, as the table stood then, each over the lists that the call before left
unfoldable pub calls : Left → List (List ℤ) → Left
unfolding call
calls s [] = s
calls s (t ∷ ts) = calls (call s.walk t s.headings s.pool) ts

-- "If the caller changes the table between calls, what counts is each entry as it stood at its own step": the table of these entries, the first one
-- being the entry k of the first table
abbrev pub assembled : ℕ → List (List ℤ) → List ℤ
assembled k [] = []
assembled k (t ∷ ts) = take 6 (drop (6 * k) t) ++ assembled (suc k) ts

-- each table has n numbers
abbrev pub AllOf : ℕ → List (List ℤ) → Type 0
AllOf n ts = (t : List ℤ) → Memᴰ t ts → length t ≡ n

-- ---- lists that the caller may have changed

-- the three lists as they stand at a call
pub record Lent : Type 0 where
  pub table : List ℤ
  pub headings : List ℕ
  pub pool : List ℤ

unfoldable pub call_on : Walk → Lent → Left
unfolding call
call_on w l = call w l.table l.headings l.pool

-- the state once each of these was the lists at a call
unfoldable pub through : Walk → List Lent → Walk
unfolding call_on
through w [] = w
through w (l ∷ ls) = through (call_on w l).walk ls

-- a state that the start or a call gave
pub data Reached : Walk → Type 0 where
  started : (l : Lent) → Reached (start l.table l.headings l.pool).walk
  called : {w : Walk} → Reached w → (l : Lent) → Reached (call_on w l).walk
