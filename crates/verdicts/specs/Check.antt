-- The verdict on finished headings and rows, as it is computed.
use Rattle.std.specs.Prelude.{Bool, ◌&&◌, cond, List, [], ◌∷◌, ◌++◌, ℕ, zero, suc, ◌-◌, ◌*◌, ◌/◌, eqb, ℤ, length, take, drop}
use Rattle.calendar.specs.Limits.{heading_length}
use Rattle.calendar.specs.Meaning.{Row}
use Rattle.calendar.specs.Lists.{equal}
use Rattle.calendar.specs.Granules.{granules}
use Rattle.calendar.specs.Reply.Reply.{refused, answer}
use Rattle.calendar.specs.Table.{entry_at, admitted}
use Rattle.calendar.specs.Outcome.{judged}
use Rattle.calendar.specs.Stored.{headings_from, joined}
use Rattle.standing.specs.Standing.{alike, holds}
use Rattle.verdicts.specs.declared.Verdict.{Verdict}
use Rattle.verdicts.specs.declared.Verdict.TheVariants.{Accepted, Refused, Wrong}

-- heading and row of the entry k are those of the row r from the cell `start` on
unfoldable pub stands : List ℕ → List ℤ → ℕ → ℕ → Row → Bool
unfolding granules
stands headings pool k start r =
    alike eqb (take heading_length (drop (heading_length * k) headings)) (headings_from start (r ∷ []))
    && alike equal (take r.period (drop start pool)) r.cells

-- the n entries from k on, behind the rows of those before, which stand. "it goes entry by entry and stops at the first one that our conversion would
-- refuse or whose heading or row isn't right: a refusal .. comes before a wrong heading or row at the same entry; else the entry is named as wrong. If
-- only the rest is wrong it names the number of entries."
unfoldable pub check_entries : List ℤ → List ℕ → List ℤ → ℕ → ℕ → List Row → Verdict
unfolding judged stands holds
check_entries t headings pool zero k before = cond (holds before headings pool) Accepted (Wrong k)
check_entries t headings pool (suc n) k before =
    let used = length (joined before) in
    elim (judged before (length pool - used) (entry_at t k)) [
      | refused m ↦ Refused m k
      | answer r ↦ cond (stands headings pool k used r) (check_entries t headings pool n (suc k) (before ++ (r ∷ []))) (Wrong k)
    ]

-- "Checks 1 to 3 come first."
unfoldable pub check : List ℤ → List ℕ → List ℤ → Verdict
unfolding check_entries
check t headings pool =
    elim (admitted t (length headings / heading_length) (length pool)) [ refused m ↦ Refused m 0 | answer n ↦ check_entries t headings pool n 0 [] ]
