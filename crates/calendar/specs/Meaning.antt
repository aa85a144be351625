-- What a calendar and its row are (document 01, "A calendar and its row"). A calendar is a labelled granularity of the
-- literature, and document 01's slot is a granule.
use Rattle.std.specs.Prelude.{◌≡◌, Bool, false, cond, List, [], ◌∷◌, ℕ, ◌≤◌, eqb, ℤ, pos, negsuc, ◌+ℤ◌, ◌*ℤ◌, ◌≤ℤ◌, length, get_or}
use Rattle.std.proofs.Math.Option.{Option, none, some, map}
use Rattle.integers.specs.Floor.{floor_div, floor_mod}

-- "Instants are all whole numbers. A calendar gives some instants a label, a whole number."
abbrev pub Calendar : Type 0
Calendar = ℤ → Option ℤ

-- "Two calendars are the same when every instant has the same label in both or none in both."
abbrev pub Same : Calendar → Calendar → Type 0
Same c d = (t : ℤ) → c t ≡ d t

-- j is a label of c
abbrev pub Has : Calendar → ℤ → Type 0
Has c j = (t : ℤ) × (c t ≡ some j)

-- "A calendar is full if every whole number is a label."
abbrev pub Full : Calendar → Type 0
Full c = (j : ℤ) → Has c j

-- the label plus n, or none
abbrev pub raise : ℤ → Option ℤ → Option ℤ
raise n = map (λ j. j +ℤ n)

-- "Instant t + P has the label of t plus N, or none where t has none."
abbrev pub Repeats : ℕ → ℕ → Calendar → Type 0
Repeats P N c = (t : ℤ) → c (t +ℤ pos P) ≡ raise (pos N) (c t)

-- "Labels never fall as time goes on."
abbrev pub Ordered : Calendar → Type 0
Ordered c = (s t i j : ℤ) → s ≤ℤ t → c s ≡ some i → c t ≡ some j → i ≤ℤ j

-- "There is a period P ≥ 1 and a distance N ≥ 1 .. At least one instant is labelled."
pub record IsCalendar (c : Calendar) : Type 0 where
  pub ordered : Ordered c
  pub period : ℕ
  pub distance : ℕ
  pub positive : (1 ≤ period) × (1 ≤ distance)
  pub repeats : Repeats period distance c
  pub label : ℤ
  pub labelled : Has c label

-- the whole granule k of b lies in the granule i of a
abbrev pub Inside : Calendar → ℤ → Calendar → ℤ → Type 0
Inside b k a i = (u : ℤ) → b u ≡ some k → a u ≡ some i

-- the granule k of a and the granule i of b share an instant
abbrev pub Meets : Calendar → ℤ → Calendar → ℤ → Type 0
Meets a k b i = (u : ℤ) × (a u ≡ some k) × (b u ≡ some i)

-- ---- rows

-- "The cell −2,147,483,648 means 'no label'", written "." in document 01
abbrev pub empty : ℤ
empty = negsuc 2147483647

abbrev pub is_empty : ℤ → Bool
is_empty (pos n) = false
is_empty (negsuc n) = eqb n 2147483647

abbrev pub label_of : ℤ → Option ℤ
label_of z = cond (is_empty z) none (some z)

-- "A row is the labels of instants 0 to P−1."
pub record Row : Type 0 where
  pub period : ℕ
  pub distance : ℕ
  pub cells : List ℤ

-- "Instant t has the label in cell (t mod P) plus N × floor(t/P), with mod and floor rounding down."
unfoldable pub meant : Row → Calendar
unfolding floor_div floor_mod
meant r t = raise (pos r.distance *ℤ floor_div t r.period) (label_of (get_or r.cells (floor_mod t r.period) empty))

-- "Bottom stands ready with period 1, distance 1 and row [0]."
abbrev pub bottom_row : Row
bottom_row = record { period = 1; distance = 1; cells = pos 0 ∷ [] }

-- "The least form uses the smallest P for which any N exists."
pub record LeastRow (c : Calendar) (r : Row) : Type 0 where
  pub whole : length r.cells ≡ r.period
  pub positive : (1 ≤ r.period) × (1 ≤ r.distance)
  pub means : Same (meant r) c
  pub least : (P N : ℕ) → 1 ≤ P → 1 ≤ N → Repeats P N c → r.period ≤ P
