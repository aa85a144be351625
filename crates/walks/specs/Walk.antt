-- A walk: the state of a conversion in steps, its start and a call (document 02, Req 09).
use Rattle.std.specs.Prelude.{Bool, false, ◌&&◌, cond, List, [], ℕ, ◌-◌, ◌/◌, eqb, ltb, ℤ, length}
use Rattle.calendar.specs.Reply.{Reply}
use Rattle.calendar.specs.Reply.Reply.{refused, answer}
use Rattle.calendar.specs.Limits.{heading_length}
use Rattle.calendar.specs.Table.{admitted}
use Rattle.calendar.specs.Outcome.{Outcome, entries, outcome}
use Rattle.calendar.specs.Outcome.Outcome.{rows}
use Rattle.calendar.specs.Stored.{headings_after, pool_after, joined}
use Rattle.conversion.specs.Tables.{Cleared}
use Rattle.standing.specs.Standing.{rows_at, standing}

-- ---- the state

-- how far the walk is: the entry due at the next call; the end; or a refusal, by its number and its entry. It is the answer of a call too:
-- `due` is "more".
pub data Progress : Type 0 where
  due : ℕ → Progress
  done : Progress
  refused_at : ℕ → ℕ → Progress

-- the lengths of the three lists: numbers of the table, numbers of headings, cells
pub record Lengths : Type 0 where
  pub table : ℕ
  pub headings : ℕ
  pub pool : ℕ

-- the state: the lengths at the start, and how far it is
pub record Walk : Type 0 where
  pub lengths : Lengths
  pub progress : Progress

-- the state that `start` or a call gives, and the lists as it leaves them
pub record Left : Type 0 where
  pub walk : Walk
  pub headings : List ℕ
  pub pool : List ℤ

abbrev pub lengths_of : List ℤ → List ℕ → List ℤ → Lengths
lengths_of t headings pool = record { table = length t; headings = length headings; pool = length pool }

abbrev pub same_lengths : Lengths → Lengths → Bool
same_lengths l m = eqb l.table m.table && (eqb l.headings m.headings && eqb l.pool m.pool)

-- how many entries a table of that length has
abbrev pub entries_of : Lengths → ℕ
entries_of l = l.table / 6

-- checks 1, 2 and 3 of lists as they are lent, and what a whole conversion comes to in them
abbrev pub admits : List ℤ → List ℕ → List ℤ → Reply ℕ
admits t headings pool = admitted t (length headings / heading_length) (length pool)

abbrev pub converts : List ℤ → List ℕ → List ℤ → Outcome
converts t headings pool = outcome t (length headings / heading_length) (length pool)

-- both lists hold nothing
abbrev pub Empty : List ℕ → List ℤ → Type 0
Empty headings pool = Cleared (length headings) (length pool) headings pool

-- ---- what an outcome leaves

-- of n entries these rows stand: "A table of n entries is done after n calls, no more and no fewer, and the n-th is the first to say done."
abbrev pub progress_after : ℕ → Outcome → Progress
progress_after n (Outcome.refused_at m k) = refused_at m k
progress_after n (rows l) = cond (eqb (length l) n) done (due (length l))

-- state and lists of the present lengths `now`, once the outcome so far is o, in a walk that began with these lengths. "A refusal empties both lists
-- as in 01 and ends the walk".
unfoldable pub left : Lengths → Lengths → Outcome → Left
unfolding headings_after pool_after
left began now o =
    record {
      walk = record { lengths = began; progress = progress_after (entries_of began) o };
      headings = headings_after now.headings o;
      pool = pool_after now.pool o;
    }

-- ---- the start

-- "This form begins with the checks 1 to 3": a refusal, or no row yet. Either way both lists are emptied.
abbrev pub begun : Reply ℕ → Outcome
begun (refused m) = Outcome.refused_at m 0
begun (answer n) = rows []

unfoldable pub start : List ℤ → List ℕ → List ℤ → Left
unfolding left
start t headings pool =
    let l = lengths_of t headings pool in
    left l l (begun (admits t headings pool))

-- ---- a call

-- k is one of the entries that checks 1 to 3 admit
abbrev pub is_entry : ℕ → Reply ℕ → Bool
is_entry k (refused m) = false
is_entry k (answer n) = ltb k n

-- "Each call that takes an entry first tests that all three lists have the lengths they had at the start and that the stored headings and rows lie one
-- behind the other, pass 13's rule and have each its least period, all behind them being empty." That k is an entry of an admitted table follows from
-- the lengths in every state that the start or a call gave; it is what any other state is tested for besides.
unfoldable pub ready : Lengths → ℕ → List ℤ → List ℕ → List ℤ → Bool
unfolding standing
ready began k t headings pool =
    same_lengths (lengths_of t headings pool) began
    && (is_entry k (admits t headings pool)
    && standing k headings pool)

-- the entry k behind the rows that stand in the lists, as the conversion judges it
unfoldable pub entered : ℕ → List ℤ → List ℕ → List ℤ → Outcome
unfolding entries
entered k t headings pool = let l = rows_at headings pool k in entries t 1 k l (length pool - length (joined l))

-- "If not, it is refusal 13 at the entry due"
unfoldable pub stepped : Lengths → ℕ → List ℤ → List ℕ → List ℤ → Outcome
unfolding ready entered
stepped began k t headings pool = cond (ready began k t headings pool) (entered k t headings pool) (Outcome.refused_at 13 k)

-- one call in the state w. "later calls repeat that refusal and change nothing. Calls after the end change nothing and say done."
unfoldable pub call : Walk → List ℤ → List ℕ → List ℤ → Left
unfolding left stepped
call w t headings pool =
    elim w.progress [
      | due k ↦ left w.lengths (lengths_of t headings pool) (stepped w.lengths k t headings pool)
      | done ↦ record { walk = w; headings = headings; pool = pool }
      | refused_at m k ↦ record { walk = w; headings = headings; pool = pool }
    ]
