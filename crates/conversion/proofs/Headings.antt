-- Rows and headings as they stand in the lists, read by the headings.
-- Assumes nothing.
use mathlib.Core.Path.{◌≡◌, refl, sym, ◌∙◌, ap, ap₂}
use mathlib.Core.List.{List, [], ◌∷◌, ◌++◌, append_assoc, Memᴰ}
use Prim.Native.Nat.{ℕ, zero, suc, ◌+◌, ◌-◌, ◌*◌, ◌≤◌, ◌<◌}
use native.Mathlib.Omega.{arith}
use lib.IntN.{ℤ}
use lib.ListN.{length, get_or, take, replicate, length-append, length-replicate}
use lib.Seq.{drop-append_seam, take_at, get_or-append-add}
use Rattle.calendar.specs.Limits.{heading_length}
use Rattle.calendar.specs.Meaning.{Row, empty, bottom_row}
use Rattle.calendar.specs.Granules.{granules}
use Rattle.calendar.specs.Stored.{joined, headings_from}
use Rattle.calendar.specs.Lists.{filled}
use Rattle.granules.proofs.Equal.{row-ext}
use Rattle.row_entry.proofs.Cells.{start-suc, number-suc}
use Rattle.conversion.specs.Shows.{start_at, granules_at, end_at, row_at}

-- ---- lists that are filled up

pub filled-length : {A : Type 0} (n : ℕ) (d : A) (l : List A) → length l ≤ n → length (filled n d l) ≡ n
filled-length n d l h = simp (length-append, length-replicate) (omega arith)

-- n times d, read with d as the default
get_or-same : {A : Type 0} (n i : ℕ) (d : A) → get_or (replicate n d) i d ≡ d
get_or-same zero i d = refl
get_or-same (suc n) zero d = refl
get_or-same (suc n) (suc i) d = get_or-same n i d

pub filled-behind : {A : Type 0} (n : ℕ) (d : A) (l : List A) (i : ℕ) → length l ≤ i → get_or (filled n d l) i d ≡ d
filled-behind n d l i h =
    let e : i ≡ length l + (i - length l) = omega arith in
    ap (λ (j : ℕ). get_or (filled n d l) j d) e ∙ get_or-append-add l (replicate (n - length l) d) (i - length l) d ∙ get_or-same (n - length l) (i - length l) d

-- ---- headings

-- each row has as many cells as its period says
abbrev pub Whole : List Row → Type 0
Whole l = (r : Row) → Memᴰ r l → length r.cells ≡ r.period

whole-tail : (r : Row) (l : List Row) → Whole (r ∷ l) → Whole l
whole-tail r l w s m = w s (Memᴰ.tail m)

pub headings-length : (s : ℕ) (l : List Row) → length (headings_from s l) ≡ heading_length * length l
headings-length s [] = refl
headings-length s (r ∷ l) = omega (arith, headings-length (s + r.period) l)

-- what the heading k + 1 says is what the heading k says where the first is taken away
end-suc : (a b c d : ℕ) (l : List ℕ) (k : ℕ) → end_at (a ∷ b ∷ c ∷ d ∷ l) (suc k) ≡ end_at l k
end-suc a b c d l k = ap₂ (λ (m n : ℕ). m + n) (start-suc a b c d l k) (number-suc a b c d l k 1)

row-suc : (a b c d : ℕ) (l : List ℕ) (pool : List ℤ) (k : ℕ) → row_at (a ∷ b ∷ c ∷ d ∷ l) pool (suc k) ≡ row_at l pool k
row-suc a b c d l pool k =
    let s = start-suc a b c d l k in
    let p = number-suc a b c d l k 1 in
    row-ext (row_at (a ∷ b ∷ c ∷ d ∷ l) pool (suc k)) (row_at l pool k) p (number-suc a b c d l k 2) (cc)

-- ---- rows by their headings

-- the rows l stand behind the cells `before`
row_from : (l : List Row) → Whole l → (before cells : List ℤ) (numbers : List ℕ) (k : ℕ) → k < length l
    → row_at (headings_from (length before) l ++ numbers) (before ++ (joined l ++ cells)) k ≡ get_or l k bottom_row
row_from [] w before cells numbers k h = absurd (omega arith)
row_from (r ∷ l) w before cells numbers zero h =
    row-ext (row_at (headings_from (length before) (r ∷ l) ++ numbers) (before ++ (joined (r ∷ l) ++ cells)) 0) r refl refl
    (ap (take r.period) (drop-append_seam before (r.cells ++ joined l ++ cells) ∙ append_assoc r.cells (joined l) cells)
    ∙ take_at r.cells (joined l ++ cells) r.period (w r (Memᴰ.head refl)))
row_from (r ∷ l) w before cells numbers (suc k) h =
    let next : List ℕ = headings_from (length before + r.period) l ++ numbers in
    let start : length before + r.period ≡ length (before ++ r.cells) = simp length-append (omega (arith, w r (Memᴰ.head refl))) in
    let pools : before ++ (r.cells ++ joined l ++ cells) ≡ before ++ r.cells ++ (joined l ++ cells) = simp append_assoc in
    row-suc (length before) r.period r.distance (granules r) next (before ++ (r.cells ++ joined l ++ cells)) k
    ∙ ap₂ (λ (n : ℕ) (pool : List ℤ). row_at (headings_from n l ++ numbers) pool k) start pools
    ∙ row_from l (whole-tail r l w) (before ++ r.cells) cells numbers k (omega arith)

granules-from : (l : List Row) (s : ℕ) (numbers : List ℕ) (k : ℕ) → k < length l → granules_at (headings_from s l ++ numbers) k ≡ granules (get_or l k bottom_row)
granules-from [] s numbers k h = absurd (omega arith)
granules-from (r ∷ l) s numbers zero h = refl
granules-from (r ∷ l) s numbers (suc k) h =
    number-suc s r.period r.distance (granules r) (headings_from (s + r.period) l ++ numbers) k 3
    ∙ granules-from l (s + r.period) numbers k (omega arith)

next-from : (l : List Row) (s : ℕ) (numbers : List ℕ) (k : ℕ) → suc k < length l
    → start_at (headings_from s l ++ numbers) (suc k) ≡ end_at (headings_from s l ++ numbers) k
next-from [] s numbers k h = absurd (omega arith)
next-from (r ∷ []) s numbers k h = absurd (omega arith)
next-from (r ∷ q ∷ l) s numbers zero h = refl
next-from (r ∷ q ∷ l) s numbers (suc k) h =
    let next : List ℕ = headings_from (s + r.period) (q ∷ l) ++ numbers in
    start-suc s r.period r.distance (granules r) next (suc k)
    ∙ next-from (q ∷ l) (s + r.period) numbers k (omega arith)
    ∙ sym (end-suc s r.period r.distance (granules r) next k)

-- what lies behind each row lies behind all
behind-from : (l : List Row) → Whole l → (s : ℕ) (numbers : List ℕ) (i : ℕ) → s ≤ i
    → ((k : ℕ) → k < length l → end_at (headings_from s l ++ numbers) k ≤ i) → s + length (joined l) ≤ i
behind-from [] w s numbers i low h = omega arith
behind-from (r ∷ l) w s numbers i low h =
    let next : List ℕ = headings_from (s + r.period) l ++ numbers in
    let rest : (k : ℕ) → k < length l → end_at next k ≤ i = λ k b. omega (arith, h (suc k) (omega arith), end-suc s r.period r.distance (granules r) next k) in
    let ih = behind-from l (whole-tail r l w) (s + r.period) numbers i (h 0 (omega arith)) rest in
    simp length-append (omega (arith, w r (Memᴰ.head refl)))

-- ---- the lists that a conversion leaves, with the rows l in them

abbrev numbers_of : ℕ → List Row → List ℕ
numbers_of h l = filled h 0 (headings_from 0 l)

abbrev cells_of : ℕ → List Row → List ℤ
cells_of p l = filled p empty (joined l)

pub first-left : (l : List Row) (h : ℕ) → start_at (numbers_of h l) 0 ≡ 0
first-left [] h = filled-behind h 0 [] 0 (omega arith)
first-left (r ∷ l) h = refl

module _ (l : List Row) (whole : Whole l) (h p : ℕ) where
  abbrev zeros : List ℕ
  zeros = replicate (h - length (headings_from 0 l)) 0

  -- the row that is read by the heading k is the row k
  pub row-left : (k : ℕ) → k < length l → row_at (numbers_of h l) (cells_of p l) k ≡ get_or l k bottom_row
  row-left = row_from l whole [] (replicate (p - length (joined l)) empty) zeros

  -- the fourth number of the heading k is R of that row
  pub granules-left : (k : ℕ) → k < length l → granules_at (numbers_of h l) k ≡ granules (row_at (numbers_of h l) (cells_of p l) k)
  granules-left k b = granules-from l 0 zeros k b ∙ ap granules (sym (row-left k b))

  pub next-left : (k : ℕ) → suc k < length l → start_at (numbers_of h l) (suc k) ≡ end_at (numbers_of h l) k
  next-left = next-from l 0 zeros

  pub behind-left : (i : ℕ) → ((k : ℕ) → k < length l → end_at (numbers_of h l) k ≤ i) → get_or (cells_of p l) i empty ≡ empty
  behind-left i b = filled-behind p empty (joined l) i (omega (arith, behind-from l whole 0 zeros i (omega arith) b))

  pub beyond-left : (i : ℕ) → heading_length * length l ≤ i → get_or (numbers_of h l) i 0 ≡ 0
  beyond-left i b = filled-behind h 0 (headings_from 0 l) i (omega (arith, headings-length 0 l))
