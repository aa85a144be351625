-- A table entry by entry, as the definitions compute it: by the reply to each step.
use mathlib.Core.Path.{◌≡◌, refl}
use mathlib.Core.List.{List, [], ◌∷◌, ◌++◌}
use Prim.Native.Nat.{ℕ, zero, suc, ◌-◌}
use lib.IntN.{ℤ}
use lib.ListN.{length}
use Rattle.calendar.specs.Meaning.{Row}
use Rattle.calendar.specs.Reply.{Reply, and_then}
use Rattle.calendar.specs.Reply.Reply.{refused, answer}
use Rattle.calendar.specs.Table.{Entry, entry_at, named, admitted}
use Rattle.calendar.specs.Outcome.{converted, judged, at_rows, entries, outcome, Outcome}
use Rattle.calendar.specs.Outcome.Outcome.{refused_at, rows}

-- an entry
pub judged-is : (before : List Row) (room : ℕ) (e : Entry) → judged before room e ≡ and_then (named (length before) e) (λ o. converted (at_rows before o) room)
unfolding judged
judged-is before room e = refl

-- what follows the reply to the entry k, with n entries behind it
abbrev pub after_entry : List ℤ → ℕ → ℕ → List Row → ℕ → Reply Row → Outcome
after_entry t n k before room x = elim x [ refused m ↦ refused_at m k | answer r ↦ entries t n (suc k) (before ++ (r ∷ [])) (room - r.period) ]

pub entries-zero : (t : List ℤ) (k : ℕ) (before : List Row) (room : ℕ) → entries t zero k before room ≡ rows before
unfolding entries
entries-zero t k before room = refl

pub entries-suc : (t : List ℤ) (n k : ℕ) (before : List Row) (room : ℕ) → entries t (suc n) k before room ≡ after_entry t n k before room (judged before room (entry_at t k))
unfolding entries
entries-suc t n k before room = refl

-- what follows checks 1, 2 and 3
abbrev pub after_table : List ℤ → ℕ → Reply ℕ → Outcome
after_table t pool x = elim x [ refused m ↦ refused_at m 0 | answer n ↦ entries t n 0 [] pool ]

pub outcome-is : (t : List ℤ) (headings pool : ℕ) → outcome t headings pool ≡ after_table t pool (admitted t headings pool)
unfolding outcome
outcome-is t headings pool = refl
