-- Lists whose first headings and rows are right.
use mathlib.Core.Path.{◌≡◌, refl, sym, ◌∙◌, ap}
use mathlib.Core.Logic.{◌↔◌}
use mathlib.Core.Bool.{true, ◌&&◌}
use mathlib.Core.List.Memᴰ
use mathlib.Core.List.{List, [], ◌∷◌, ◌++◌, append_assoc, append-nil}
use Prim.Native.Nat.{ℕ, ◌+◌, ◌-◌, ◌*◌, ◌≤◌}
use native.Mathlib.Omega.{arith}
use lib.Dec.{eqb}
use lib.IntN.{ℤ}
use lib.ListN.{length, take, drop, replicate, length-append}
use lib.Seq.{take-take, take_at, take-add, take-append_seam, drop-append_seam}
use Rattle.calendar.specs.Meaning.{Row, empty}
use Rattle.calendar.specs.Lists.{equal}
use Rattle.calendar.specs.Granules.{granules}
use Rattle.calendar.specs.Limits.{heading_length}
use Rattle.calendar.specs.Stored.{headings_from, joined}
use Rattle.granules.proofs.Tests.{and-iff, eqb-iff, equal-iff}
use Rattle.standing.specs.Standing.{alike, holds}
use Rattle.verdicts.specs.Check.{stands}
use Rattle.verdicts.specs.Begins.{Begins}
use Rattle.standing.proofs.Alike.{alike-iff}
use Rattle.conversion.proofs.Headings.{Whole, headings-length}
use Rattle.standing.proofs.Decides.{holds-iff}

-- ---- headings and cells of rows behind others

-- the periods together
abbrev total : List Row → ℕ
total [] = 0
total (r ∷ l) = r.period + total l

total-joined : (l : List Row) → Whole l → total l ≡ length (joined l)
total-joined [] w = refl
total-joined (r ∷ l) w = let ih = total-joined l (λ s m. w s (Memᴰ.tail m)) in simp length-append (omega (arith, w r (Memᴰ.head refl)))

headings-append : (s : ℕ) (a b : List Row) → headings_from s (a ++ b) ≡ headings_from s a ++ headings_from (s + total a) b
headings-append s [] b = ap (λ (i : ℕ). headings_from i b) (omega arith)
headings-append s (r ∷ a) b =
    ap (λ (l : List ℕ). s ∷ r.period ∷ r.distance ∷ granules r ∷ l)
    (headings-append (s + r.period) a b ∙ ap (λ (i : ℕ). headings_from (s + r.period) a ++ headings_from i b) (omega arith))

joined-append : (a b : List Row) → joined (a ++ b) ≡ joined a ++ joined b
joined-append [] b = refl
joined-append (r ∷ a) b = ap (λ (l : List ℤ). r.cells ++ l) (joined-append a b) ∙ sym (append_assoc r.cells (joined a) (joined b))

-- ---- the first rows

-- where the first rows are right, so are fewer
pub begins-prefix : (a b : List Row) (headings : List ℕ) (pool : List ℤ) → Begins (a ++ b) headings pool → Begins a headings pool
begins-prefix a b headings pool h =
    let x = headings_from (0 + total a) b in
    let m : heading_length * length a ≤ heading_length * length (a ++ b) = omega (arith, length-append a b) in
    let c : length (joined a) ≤ length (joined (a ++ b)) = omega (arith, ap (λ (l : List ℤ). length l) (joined-append a b), length-append (joined a) (joined b)) in
    record {
      numbers =
          sym (take-take (heading_length * length a) (heading_length * length (a ++ b)) headings m)
          ∙ ap (take (heading_length * length a)) (h.numbers ∙ headings-append 0 a b)
          ∙ take_at (headings_from 0 a) x (heading_length * length a) (headings-length 0 a);
      cells =
          sym (take-take (length (joined a)) (length (joined (a ++ b))) pool c)
          ∙ ap (take (length (joined a))) (h.cells ∙ joined-append a b)
          ∙ take-append_seam (joined a) (joined b);
    }

pub begins-none : (headings : List ℕ) (pool : List ℤ) → Begins [] headings pool
begins-none headings pool = record { numbers = refl; cells = refl }

-- one row more
module _ (l : List Row) (w : Whole l) (headings : List ℕ) (pool : List ℤ) (b : Begins l headings pool) (r : Row) (whole : length r.cells ≡ r.period) where
  abbrev k : ℕ
  k = length l

  abbrev used : ℕ
  used = length (joined l)

  abbrev number : List ℕ
  number = take heading_length (drop (heading_length * k) headings)

  abbrev row : List ℤ
  row = take r.period (drop used pool)

  numbers-split : take (heading_length * length (l ++ (r ∷ []))) headings ≡ headings_from 0 l ++ number
  numbers-split =
      let e : heading_length * length (l ++ (r ∷ [])) ≡ heading_length * k + heading_length = omega (arith, length-append l (r ∷ [])) in
      ap (λ (i : ℕ). take i headings) e ∙ take-add (heading_length * k) heading_length headings ∙ ap (λ (x : List ℕ). x ++ number) b.numbers

  cells-split : take (length (joined (l ++ (r ∷ [])))) pool ≡ joined l ++ row
  cells-split =
      let e : length (joined (l ++ (r ∷ []))) ≡ used + r.period =
      ap (λ (x : List ℤ). length x) (joined-append l (r ∷ [])) ∙ length-append (joined l) (r.cells ++ []) ∙ simp length-append (omega (arith, whole)) in
      ap (λ (i : ℕ). take i pool) e ∙ take-add used r.period pool ∙ ap (λ (x : List ℤ). x ++ row) b.cells

  headings-are : headings_from 0 (l ++ (r ∷ [])) ≡ headings_from 0 l ++ headings_from used (r ∷ [])
  headings-are = headings-append 0 l (r ∷ []) ∙ ap (λ (i : ℕ). headings_from 0 l ++ headings_from i (r ∷ [])) (omega (arith, total-joined l w))

  cells_are : joined (l ++ (r ∷ [])) ≡ joined l ++ r.cells
  cells_are = joined-append l (r ∷ []) ∙ ap (λ (x : List ℤ). joined l ++ x) (append-nil r.cells)

  cancel : {A : Type 0} (x y z : List A) → x ++ y ≡ x ++ z → y ≡ z
  cancel x y z e = sym (drop-append_seam x y) ∙ ap (drop (length x)) e ∙ drop-append_seam x z

  stands-is : stands headings pool k used r ≡ alike eqb number (headings_from used (r ∷ [])) && alike equal row r.cells
  unfolding stands
  stands-is = refl

  pub stands-iff : (stands headings pool k used r ≡ true) ↔ Begins (l ++ (r ∷ [])) headings pool
  stands-iff =
      let a = and-iff (alike eqb number (headings_from used (r ∷ []))) (alike equal row r.cells) in
      let x = alike-iff eqb eqb-iff number (headings_from used (r ∷ [])) in
      let y = alike-iff equal equal-iff row r.cells in (
        λ e.
            let q = a.0 (sym stands-is ∙ e) in
            record {
              numbers = numbers-split ∙ ap (λ (z : List ℕ). headings_from 0 l ++ z) (x.0 q.0) ∙ sym headings-are;
              cells = cells-split ∙ ap (λ (z : List ℤ). joined l ++ z) (y.0 q.1) ∙ sym cells_are;
            },
        λ h.
            stands-is
            ∙ a.1 (
              x.1 (cancel (headings_from 0 l) number (headings_from used (r ∷ [])) (sym numbers-split ∙ h.numbers ∙ headings-are)),
              y.1 (cancel (joined l) row r.cells (sym cells-split ∙ h.cells ∙ cells_are)),
            ),
      )

-- lists that hold the rows begin with them
pub begins-held : (l : List Row) (headings : List ℕ) (pool : List ℤ) → holds l headings pool ≡ true → Begins l headings pool
begins-held l headings pool e =
    let h = (holds-iff l headings pool).0 e in
    record {
      numbers =
          ap (take (heading_length * length l)) h.0
          ∙ take_at (headings_from 0 l) (replicate (length headings - length (headings_from 0 l)) 0) (heading_length * length l) (headings-length 0 l);
      cells = ap (take (length (joined l))) h.1 ∙ take-append_seam (joined l) (replicate (length pool - length (joined l)) empty);
    }
