-- What is read of headings that are lent as records.
use Rattle.std.specs.Prelude.{◌≡◌, Bool, true, false, ◌&&◌, cond, List, ℕ, zero, suc, ◌+◌, ◌*◌, eqb, ltb, length, get_or, take, drop, set, replicate}
use Rattle.calendar.specs.Limits.{entry_limit, heading_length}
use Rattle.headings.specs.declared.Heading.{Heading}
use Rattle.headings.specs.Records.{no_heading, numbers_of}
use Rattle.standing.specs.Tests.{all_zero}
use Rattle.verdicts.specs.declared.Verdict.{Verdict}
use Rattle.verdicts.specs.declared.Verdict.TheVariants.{Accepted, Refused, Wrong}
use Rattle.heading_records.specs.declared.Read.{Read}

-- the heading is zero
abbrev pub is_zero : Heading → Bool
is_zero h = eqb h.start 0 && (eqb h.period 0 && (eqb h.distance 0 && eqb h.granules 0))

-- ---- one heading after the other

abbrev pub none_read : Read
none_read = record { numbers = replicate (heading_length * entry_limit) 0; zero = true }

-- the numbers of a heading are stored from `at` on
abbrev pub stored : List ℕ → ℕ → Heading → List ℕ
stored l at h = set (set (set (set l at h.start) (at + 1) h.period) (at + 2) h.distance) (at + 3) h.granules

-- the heading i is read behind those before it
abbrev pub read_next : Read → ℕ → Heading → Read
read_next r i h =
    cond (ltb i entry_limit) (record { numbers = stored r.numbers (heading_length * i) h; zero = r.zero }) (record { numbers = r.numbers; zero = r.zero && is_zero h })

-- the first n headings are read
abbrev pub read_upto : List Heading → ℕ → Read
read_upto hs zero = none_read
read_upto hs (suc i) = read_next (read_upto hs i) i (get_or hs i no_heading)

-- ---- all headings

-- of n headings no more than a table may have entries
abbrev pub at_most : ℕ → ℕ
at_most n = cond (ltb n entry_limit) n entry_limit

-- the numbers of the first headings, and whether all further ones are zero
pub record ReadsAll (hs : List Heading) (r : Read) : Type 0 where
  pub numbers : take (heading_length * at_most (length hs)) r.numbers ≡ take (heading_length * entry_limit) (numbers_of hs)
  pub zero : r.zero ≡ all_zero (drop (heading_length * entry_limit) (numbers_of hs))

-- ---- the verdict

-- the verdict on a table of n entries, by that on its first headings and by whether all further ones are zero: "If only the rest is wrong it names the number of entries."
abbrev pub beyond : Bool → ℕ → Verdict → Verdict
beyond true n v = v
beyond false n Accepted = Wrong n
beyond false n (Refused m k) = Refused m k
beyond false n (Wrong k) = Wrong k
