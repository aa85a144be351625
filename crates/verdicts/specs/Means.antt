-- The verdict on finished headings and rows, by what the table means.
use Rattle.std.specs.Prelude.{◌≡◌, List, [], ◌∷◌, ◌++◌, ℕ, suc, ◌/◌, ◌<◌, ℤ, length, get_or}
use Rattle.calendar.specs.Limits.{heading_length}
use Rattle.calendar.specs.Reply.Reply.{answer}
use Rattle.calendar.specs.Table.{admitted}
use Rattle.algebra.specs.TableMeaning.{Meant, nothing, Entries, TableMeans}
use Rattle.algebra.specs.TableMeaning.TableReply.{refused_at, means}
use Rattle.algebra.specs.Represents.{Represents, CountsLabels}
use Rattle.conversion.specs.Conversion.{Converted}
use Rattle.conversion.specs.Shows.{start_at, distance_at, granules_at, end_at, row_at, ShowsRows}
use Rattle.verdicts.specs.declared.Verdict.{Verdict}
use Rattle.verdicts.specs.declared.Verdict.TheVariants.{Accepted, Refused, Wrong}

-- the headings and rows of the first entries, which mean ms, are right, as `ShowsRows` says it of all; what stands behind them is left open
pub record ShowsFirst (ms : List Meant) (headings : List ℕ) (pool : List ℤ) : Type 0 where
  pub rows : (k : ℕ) → k < length ms → Represents (get_or ms k nothing) (row_at headings pool k)
  pub granules : (k : ℕ) → k < length ms → CountsLabels (get_or ms k nothing).calendar (distance_at headings k) (granules_at headings k)
  pub first : 0 < length ms → start_at headings 0 ≡ 0
  pub next : (k : ℕ) → suc k < length ms → start_at headings (suc k) ≡ end_at headings k

module _ (t : List ℤ) (headings : List ℕ) (pool : List ℤ) where
  -- "our conversion answers the table and they are what it would leave in a pool of that length, cells behind the last row included"
  abbrev pub ShowsAll : List Meant → Type 0
  ShowsAll ms = ShowsRows ms (length headings) (length pool) Converted headings pool

  pub data VerdictMeans : Verdict → Type 0 where
    -- "A checker shall accept them, whoever made them, exactly when .."
    accepted : {ms : List Meant} → TableMeans t (length headings / heading_length) (length pool) (means ms) → ShowsAll ms → VerdictMeans Accepted
    -- "a refusal is answered with its number and entry", where no heading or row before it is wrong
    refused : {m k : ℕ} {ms : List Meant} → TableMeans t (length headings / heading_length) (length pool) (refused_at m k)
        → Entries t k 0 [] (length pool) (means ms) → ShowsFirst ms headings pool → VerdictMeans (Refused m k)
    -- "else the entry is named as wrong": the first one that is not right, none up to it being refused
    wrong : {n : ℕ} (ms : List Meant) (m : Meant) → admitted t (length headings / heading_length) (length pool) ≡ answer n → length ms < n
        → Entries t (suc (length ms)) 0 [] (length pool) (means (ms ++ (m ∷ []))) → ShowsFirst ms headings pool → ¬ (ShowsFirst (ms ++ (m ∷ [])) headings pool)
        → VerdictMeans (Wrong (length ms))
    -- "If only the rest is wrong it names the number of entries."
    rest : (ms : List Meant) → TableMeans t (length headings / heading_length) (length pool) (means ms) → ShowsFirst ms headings pool → ¬ (ShowsAll ms)
        → VerdictMeans (Wrong (length ms))
