-- What the lists of a conversion show to a reader, as document 01 reads them: rows by their headings.
use Rattle.std.specs.Prelude.{◌≡◌, List, ℕ, suc, ◌+◌, ◌*◌, ◌≤◌, ◌<◌, ℤ, length, get_or, take, drop, replicate}
use Rattle.conversion.specs.Conversion.{Conversion, Refused, Converted}
use Rattle.calendar.specs.Limits.{heading_length}
use Rattle.calendar.specs.Meaning.{Row, empty}
use Rattle.algebra.specs.TableMeaning.{Meant, nothing, TableReply}
use Rattle.algebra.specs.TableMeaning.TableReply.{refused_at, means}
use Rattle.algebra.specs.Represents.{Represents, CountsLabels}

-- ---- headings and rows

-- "one record for each entry: start, period, distance", and "a fourth number, the slots per period of the least form": those of entry k
abbrev pub start_at : List ℕ → ℕ → ℕ
start_at headings k = get_or headings (heading_length * k) 0

abbrev pub period_at : List ℕ → ℕ → ℕ
period_at headings k = get_or headings (heading_length * k + 1) 0

abbrev pub distance_at : List ℕ → ℕ → ℕ
distance_at headings k = get_or headings (heading_length * k + 2) 0

abbrev pub granules_at : List ℕ → ℕ → ℕ
granules_at headings k = get_or headings (heading_length * k + 3) 0

-- the cell behind its row
abbrev pub end_at : List ℕ → ℕ → ℕ
end_at headings k = start_at headings k + period_at headings k

-- "Its row is then the period and distance in its heading and that many cells as the period says, from its start on"
abbrev pub row_at : List ℕ → List ℤ → ℕ → Row
row_at headings pool k = record {
  period = period_at headings k;
  distance = distance_at headings k;
  cells = take (period_at headings k) (drop (start_at headings k) pool);
}

-- ---- what the lists are to show, by what the table means

-- "The answer holds the number and the entry .. After any of 1 to 12 every pool cell is '.' and every heading zero."
pub record ShowsRefusal (n k h p : ℕ) (c : Conversion) (headings : List ℕ) (pool : List ℤ) : Type 0 where
  pub answer : c ≡ Refused n k
  pub numbers : headings ≡ replicate h 0
  pub cells : pool ≡ replicate p empty

-- the entries mean ms, one by one, and their rows stand in the lists
pub record ShowsRows (ms : List Meant) (h p : ℕ) (c : Conversion) (headings : List ℕ) (pool : List ℤ) : Type 0 where
  pub answer : c ≡ Converted
  pub lengths : (length headings ≡ h) × (length pool ≡ p)
  -- "The calendar it means is the one that the thirteen kinds give it", in the least form
  pub rows : (k : ℕ) → k < length ms → Represents (get_or ms k nothing) (row_at headings pool k)
  -- "Demands 2 and 3 read the fourth number from then on": the labels of that calendar among as many whole numbers in a row as the distance says
  pub granules : (k : ℕ) → k < length ms → CountsLabels (get_or ms k nothing).calendar (distance_at headings k) (granules_at headings k)
  -- "Rows stand in it one behind the other from cell 0"
  pub first : start_at headings 0 ≡ 0
  pub next : (k : ℕ) → suc k < length ms → start_at headings (suc k) ≡ end_at headings k
  -- "and cells behind the last row are '.'"
  pub behind : (i : ℕ) → ((k : ℕ) → k < length ms → end_at headings k ≤ i) → get_or pool i empty ≡ empty
  -- "Headings beyond the last entry are zero", and numbers left over "are no heading and end as zero"
  pub beyond : (i : ℕ) → heading_length * length ms ≤ i → get_or headings i 0 ≡ 0

-- the answer and the lists, lent with h numbers and p cells, show what the table means
abbrev pub Shows : TableReply → ℕ → ℕ → Conversion → List ℕ → List ℤ → Type 0
Shows (refused_at n k) = ShowsRefusal n k
Shows (means ms) = ShowsRows ms
