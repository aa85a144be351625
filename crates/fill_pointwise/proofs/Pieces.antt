-- A set operation over a piece of both rows: its labels, and the cells and counts of labels that are written one after the other.
-- Assumes nothing.
use mathlib.Core.Path.{◌≡◌, refl, sym, ◌∙◌, ap, ap₂}
use mathlib.Core.Option.{Option, none, some}
use mathlib.Core.Bool.{Bool, true, false, cond}
use mathlib.Core.List.{List}
use Prim.Native.Nat.{ℕ, zero, suc, ◌+◌, ◌≤◌, ◌<◌}
use native.Mathlib.Numerals.{add-one}
use native.Mathlib.Omega.{arith}
use lib.IntN.{ℤ}
use lib.ListN.{length, get_or, set, take, length-set}
use lib.Seq.{get_or-set_other, take-set-le}
use Rattle.calendar.specs.Meaning.{label_of, is_empty, empty}
use Rattle.calendar.specs.Lists.{only}
use Rattle.calendar.specs.Compute.{cell_of}
use Rattle.pieces.specs.declared.Place.{Place}
use Rattle.pieces.proofs.Cells.{label-cell}
use Rattle.kinds.specs.declared.SetOperation.{SetOperation}
use Rattle.kinds.specs.declared.SetOperation.TheVariants.{Union, Intersection, Difference}
use Rattle.fill_pointwise.specs.Decided.{set_label}
use Rattle.fill_pointwise.specs.Beside.{keeps_shared, keeps_first, keeps_second}
use Rattle.fill_pointwise.specs.Pieces.{chosen_cell, label_cells, label_count, place_label, piece_label}

-- ---- the label of an instant, by what is kept

abbrev pub chosen_label : Bool → Bool → Bool → Option ℤ → Option ℤ → Option ℤ
chosen_label first shared second none y = cond second y none
chosen_label first shared second (some j) none = only j first
chosen_label first shared second (some j) (some k) = only j shared

pub chosen-label : (first shared second : Bool) (x y : ℤ)
    → label_of (chosen_cell first shared second x y) ≡ chosen_label first shared second (label_of x) (label_of y)
chosen-label first shared second x y = by (is_empty x) (is_empty y) refl refl
  where
    other : (b : Bool) → label_of (cond b y empty) ≡ cond b (label_of y) none
    other true = refl
    other false = refl

    own : (b : Bool) → is_empty x ≡ false → label_of (cond b x empty) ≡ only x b
    own true p = rw p
    own false p = refl

    by : (b d : Bool) → is_empty x ≡ b → is_empty y ≡ d
        → label_of (chosen_cell first shared second x y) ≡ chosen_label first shared second (label_of x) (label_of y)
    by true d p q = rw p (other second)
    by false true p q = rw (p, q) (own first p)
    by false false p q = rw (p, q) (own shared p)

chosen-set : (s : SetOperation) (x y : Option ℤ) → chosen_label (keeps_first s) (keeps_shared s) (keeps_second s) x y ≡ set_label s x y
chosen-set Union none y = refl
chosen-set Union (some j) none = refl
chosen-set Union (some j) (some k) = refl
chosen-set Intersection none none = refl
chosen-set Intersection none (some k) = refl
chosen-set Intersection (some j) none = refl
chosen-set Intersection (some j) (some k) = refl
chosen-set Difference none none = refl
chosen-set Difference none (some k) = refl
chosen-set Difference (some j) none = refl
chosen-set Difference (some j) (some k) = refl

-- the labels of a piece
abbrev pub kept_label : Bool → Bool → Bool → Place → Place → List ℤ → ℕ → Option ℤ
kept_label first shared second a b pool i = chosen_label first shared second (place_label a pool i) (place_label b pool i)

pub kept-as : (s : SetOperation) (a b : Place) (pool : List ℤ) {f g h : Bool} {x y : ℤ} → f ≡ keeps_first s → g ≡ keeps_shared s → h ≡ keeps_second s → x ≡ a.rise → y ≡ b.rise
    → kept_label f g h (record { cell = a.cell; rise = x }) (record { cell = b.cell; rise = y }) pool ≡ piece_label s a b pool
kept-as s a b pool e f g p q = rw (e, f, g, p, q) (λ k i. chosen-set s (place_label a pool i) (place_label b pool i) k)

-- ---- labels that are written and counted

module _ (l : ℕ → Option ℤ) (to : ℕ) (pool : List ℤ) where
  pub cells-length : (n : ℕ) → length (label_cells l to n pool) ≡ length pool
  cells-length zero = refl
  cells-length (suc n) = length-set (label_cells l to n pool) (to + n) _ ∙ cells-length n

  -- the cells before stay
  pub cells-below : (n i : ℕ) (d : ℤ) → i < to → get_or (label_cells l to n pool) i d ≡ get_or pool i d
  cells-below zero i d h = refl
  cells-below (suc n) i d h = get_or-set_other (label_cells l to n pool) (to + n) i _ d (λ e. omega arith) ∙ cells-below n i d h

  pub cells-take : (n : ℕ) → take to (label_cells l to n pool) ≡ take to pool
  cells-take zero = refl
  cells-take (suc n) = take-set-le to (label_cells l to n pool) (to + n) _ (omega arith) ∙ cells-take n

  -- a cell more
  pub cells-more : (n : ℕ) (new : List ℤ) → new ≡ label_cells l to n pool → (z : ℤ) → label_of z ≡ l n → set new (to + n) z ≡ label_cells l to (n + 1) pool
  cells-more n new e z f =
      ap₂ (λ (q : List ℤ) (y : ℤ). set q (to + n) y) e (sym (label-cell z) ∙ ap cell_of f)
      ∙ ap (λ (m : ℕ). label_cells l to m pool) (sym (add-one n))

module _ (f : Option ℤ → Bool) (l : ℕ → Option ℤ) where
  pub count-few : (n : ℕ) → label_count f l n ≤ n
  count-few zero = omega arith
  count-few (suc n) = by (f (l n)) (label_count f l n) (count-few n)
    where
      by : (b : Bool) (m : ℕ) → m ≤ n → m + cond b 1 0 ≤ suc n
      by true m h = omega arith
      by false m h = omega arith

  -- a label more
  pub count-more : (n m k : ℕ) (y : Option ℤ) → m ≡ label_count f l n → y ≡ l n → k ≡ cond (f y) 1 0 → m + k ≡ label_count f l (n + 1)
  count-more n m k y e g h =
      ap₂ (λ (i j : ℕ). i + j) e (h ∙ ap (λ (o : Option ℤ). cond {A = ℕ} (f o) 1 0) g) ∙ ap (label_count f l) (sym (add-one n))
