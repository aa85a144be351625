-- What the test of the rows that stand decides.
-- Assumes nothing.
use mathlib.Core.Path.{◌≡◌, refl, sym, ◌∙◌, ap, ap₂, subst}
use mathlib.Core.Logic.{◌↔◌, ⊎_elim}
use mathlib.Core.Bool.{true, ◌&&◌}
use mathlib.Core.List.Memᴰ
use mathlib.Core.List.{List, [], ◌∷◌, ◌++◌, Memᴰ}
use Prim.Native.Nat.{ℕ, zero, suc, ◌≤◌, ◌<◌}
use native.Mathlib.Omega.{arith}
use lib.Dec.{eqb}
use lib.IntN.{ℤ}
use lib.ListN.{length, get_or, take, length-append}
use lib.Seq.{take-suc, take-length}
use Rattle.calendar.specs.Meaning.{Row, empty, bottom_row}
use Rattle.calendar.specs.Lists.{equal, filled}
use Rattle.calendar.specs.Sound.{sound}
use Rattle.calendar.specs.Least.{least}
use Rattle.calendar.specs.Stored.{joined, headings_from}
use Rattle.granules.proofs.Tests.{and-iff, both_iff, eqb-iff, equal-iff}
use Rattle.granules.proofs.Sound.{sound-valid}
use Rattle.conversion.specs.Shows.{row_at}
use Rattle.conversion.proofs.Headings.{Whole, row-left}
use Rattle.standing.specs.Standing.{rows_at, is_least, all_least, holds, standing, Standing}
use Rattle.standing.proofs.Alike.{alike-iff}

-- ---- rows by their headings

pub rows-length : (headings : List ℕ) (pool : List ℤ) (n : ℕ) → length (rows_at headings pool n) ≡ n
rows-length headings pool zero = refl
rows-length headings pool (suc n) = omega (arith, rows-length headings pool n, length-append (rows_at headings pool n) (row_at headings pool n ∷ []))

rows_take : (headings : List ℕ) (pool : List ℤ) (l : List Row) (n : ℕ) → n ≤ length l
    → ((k : ℕ) → k < length l → row_at headings pool k ≡ get_or l k bottom_row) → rows_at headings pool n ≡ take n l
rows_take headings pool l zero b h = refl
rows_take headings pool l (suc n) b h =
    ap₂ (λ (m : List Row) (r : Row). m ++ (r ∷ [])) (rows_take headings pool l n (omega arith) h) (h n (omega arith))
    ∙ sym (take-suc l n bottom_row (omega arith))

-- the rows that are read are those that stand there
pub rows_left : (l : List Row) → Whole l → (h p : ℕ) → rows_at (filled h 0 (headings_from 0 l)) (filled p empty (joined l)) (length l) ≡ l
rows_left l w h p =
    rows_take (filled h 0 (headings_from 0 l)) (filled p empty (joined l)) l (length l) (omega arith) (row-left l w h p) ∙ take-length l

-- ---- least rows

-- it passes rule 13, and its period is the least
abbrev pub Least : Row → Type 0
Least r = (sound r ≡ true) × ((least r).period ≡ r.period)

abbrev pub AllLeast : List Row → Type 0
AllLeast l = (r : Row) → Memᴰ r l → Least r

pub least_iff : (r : Row) → (is_least r ≡ true) ↔ Least r
unfolding is_least
least_iff r =
    let a = and-iff (sound r) (eqb (least r).period r.period) in
    let b = eqb-iff (least r).period r.period in
    (λ e. ((a.0 e).0, b.0 (a.0 e).1), λ h. a.1 (h.0, b.1 h.1))

pub all-least-iff : (l : List Row) → (all_least l ≡ true) ↔ AllLeast l
all-least-iff [] = (λ e r m. absurd (Memᴰ.not-nil m), λ h. refl)
all-least-iff (r ∷ l) =
    let a = both_iff (least_iff r) (all-least-iff l) in (
      λ e s m. ⊎_elim (λ p. subst Least (sym p) (a.0 e).0) ((a.0 e).1 s) (Memᴰ.cases_cons m),
      λ h. a.1 (h r (Memᴰ.head refl), λ s m. h s (Memᴰ.tail m)),
    )

pub whole_of : (l : List Row) → AllLeast l → Whole l
whole_of l h r m = (sound-valid r (h r m).0).whole

-- ---- the lists

pub holds-iff : (l : List Row) (headings : List ℕ) (pool : List ℤ)
    → (holds l headings pool ≡ true) ↔ ((headings ≡ filled (length headings) 0 (headings_from 0 l)) × (pool ≡ filled (length pool) empty (joined l)))
unfolding holds
holds-iff l headings pool =
    both_iff (alike-iff eqb eqb-iff headings (filled (length headings) 0 (headings_from 0 l)))
    (alike-iff equal equal-iff pool (filled (length pool) empty (joined l)))

pub all-least : {l : List Row} {headings : List ℕ} {pool : List ℤ} → Standing l headings pool → AllLeast l
all-least s r m = (s.all_sound r m, s.all-least r m)

-- rows that stand are the ones that the headings show
pub standing-shown : (l : List Row) (headings : List ℕ) (pool : List ℤ) → Standing l headings pool → rows_at headings pool (length l) ≡ l
standing-shown l headings pool s =
    ap₂ (λ (h : List ℕ) (p : List ℤ). rows_at h p (length l)) s.numbers s.cells
    ∙ rows_left l (whole_of l (all-least s)) (length headings) (length pool)

pub standing-is : (k : ℕ) (headings : List ℕ) (pool : List ℤ)
    → standing k headings pool ≡ all_least (rows_at headings pool k) && holds (rows_at headings pool k) headings pool
unfolding standing
standing-is k headings pool = refl

-- where the test passes, the rows that the headings show stand
pub standing-rows : (k : ℕ) (headings : List ℕ) (pool : List ℤ) → standing k headings pool ≡ true → Standing (rows_at headings pool k) headings pool
standing-rows k headings pool e =
    let l = rows_at headings pool k in
    let a = (both_iff (all-least-iff l) (holds-iff l headings pool)).0 (sym (standing-is k headings pool) ∙ e) in
    record { numbers = a.1.0; cells = a.1.1; all_sound = λ r i. (a.0 r i).0; all-least = λ r i. (a.0 r i).1 }

pub standing-passes : (l : List Row) (headings : List ℕ) (pool : List ℤ) → Standing l headings pool → standing (length l) headings pool ≡ true
standing-passes l headings pool s =
    standing-is (length l) headings pool
    ∙ ap (λ (m : List Row). all_least m && holds m headings pool) (standing-shown l headings pool s)
    ∙ (both_iff (all-least-iff l) (holds-iff l headings pool)).1 (all-least s, (s.numbers, s.cells))

-- the test passes exactly if the lists hold k least rows and nothing else
pub standing-decides : (k : ℕ) (headings : List ℕ) (pool : List ℤ)
    → (standing k headings pool ≡ true) ↔ ((l : List Row) × (length l ≡ k) × Standing l headings pool)
standing-decides k headings pool = (
  λ e. (rows_at headings pool k, rows-length headings pool k, standing-rows k headings pool e),
  λ h. subst (λ (n : ℕ). standing n headings pool ≡ true) h.1 (standing-passes h.0 headings pool h.2),
)
