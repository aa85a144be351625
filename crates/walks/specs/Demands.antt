-- What demands 2 and 3 read of a walk whose lists the caller may have changed between the calls.
use Rattle.std.specs.Prelude.{◌≡◌, List, ◌∷◌, ◌++◌, map, [], ℕ, suc, ◌-◌, length, get_or}
use Rattle.calendar.specs.Meaning.{Row, meant}
use Rattle.calendar.specs.Size.{turn}
use Rattle.calendar.specs.Reply.Reply.{refused, answer}
use Rattle.calendar.specs.Table.{entry_at}
use Rattle.calendar.specs.Stored.{joined}
use Rattle.algebra.specs.TableMeaning.{Meant, EntryJudged}
use Rattle.algebra.specs.Represents.{Represents, CountsLabels}
use Rattle.conversion.specs.Shows.{row_at, distance_at, granules_at}
use Rattle.standing.specs.Standing.{Standing}
use Rattle.walks.specs.Walk.{Progress, Walk, Left, lengths_of, entries_of, Empty, start}
use Rattle.walks.specs.Walk.Progress.{due, done, refused_at}
use Rattle.walks.specs.Runs.{Lent, call_on, through}

-- ---- demand 2

-- "a changed row that passes the test counts as that calendar"
abbrev pub meaning_of : Row → Meant
meaning_of r = record { calendar = meant r; turn = turn r }

-- the step that took the entry k with the lists l, and left s: "demand 2 reads each entry's operation over the rows as they stood at its own step, and the
-- entry's own row as that step left it", and the entry's numbers as they stood then
pub record Took (k : ℕ) (l : Lent) (s : Left) : Type 0 where
  pub before : List Row
  pub number : length before ≡ k
  pub stood : Standing before l.headings l.pool
  pub meaning : Meant
  pub judged : EntryJudged (map meaning_of before) (length l.pool - length (joined before)) (entry_at l.table k) (answer meaning)
  pub row : Row
  pub represents : Represents meaning row
  pub stands : Standing (before ++ (row ∷ [])) s.headings s.pool
  -- what its heading shows is that row, and the fourth number counts the labels of its calendar
  pub shown : row_at s.headings s.pool k ≡ row
  pub counts : CountsLabels meaning.calendar (distance_at s.headings k) (granules_at s.headings k)

-- the step that refused the entry k under the number m, other than 13
pub record Declined (k m : ℕ) (l : Lent) (s : Left) : Type 0 where
  pub before : List Row
  pub number : length before ≡ k
  pub stood : Standing before l.headings l.pool
  pub judged : EntryJudged (map meaning_of before) (length l.pool - length (joined before)) (entry_at l.table k) (refused m)
  pub empties : Empty s.headings s.pool

-- what a step may have come to, by the progress behind it
abbrev pub Judged : ℕ → Lent → Left → Progress → Type 0
Judged k l s (due e) = Took k l s × (e ≡ suc k)
Judged k l s done = Took k l s × (suc k ≡ entries_of s.walk.lengths)
Judged k l s (refused_at m e) = Declined k m l s × (e ≡ k)

-- the state with the entry k due, in a walk over lists of these lengths
abbrev pub due_at : Lent → ℕ → Walk
due_at l k = record { lengths = lengths_of l.table l.headings l.pool; progress = due k }

-- a walk that is done: the lists at its start, and at each of its calls, one for each entry
pub record Finished : Type 0 where
  pub begun : Lent
  pub steps : List Lent
  pub number : length steps ≡ entries_of (lengths_of begun.table begun.headings begun.pool)
  pub ends : (through (start begun.table begun.headings begun.pool).walk steps).progress ≡ done

-- the lists at the step of the entry k, and what that step left
abbrev pub step_of : Finished → ℕ → Lent
step_of x k = get_or x.steps k x.begun

abbrev pub left_by : Finished → ℕ → Left
left_by x k = call_on (due_at x.begun k) (step_of x k)

-- ---- demand 3

-- the row of the entry k "as the last step left" it
abbrev pub row_of : Finished → ℕ → Row
row_of x k = let s = left_by x (length x.steps - 1) in row_at s.headings s.pool k

-- the fourth number of its heading
abbrev pub granules_of : Finished → ℕ → ℕ
granules_of x k = granules_at (left_by x (length x.steps - 1)).headings k
