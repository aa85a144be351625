-- The first headings and rows are right exactly if they show the calendars of their entries.
-- Assumes nothing.
use mathlib.Core.Path.{◌≡◌, sym, ◌∙◌, ap, subst}
use mathlib.Core.Bool.{true}
use mathlib.Core.List.Memᴰ
use mathlib.Core.List.{List, [], ◌∷◌, Memᴰ}
use mathlib.Core.Logic.{⊎_elim}
use Prim.Native.Nat.{ℕ, zero, suc, ◌+◌, ◌*◌, ◌≤◌, ◌<◌}
use native.Mathlib.Omega.{arith}
use lib.IntN.{ℤ, pos}
use lib.ListN.{length, get_or, take}
use lib.Seq.{take-suc, take-length, length-take-le}
use Rattle.calendar.specs.Limits.{heading_length}
use Rattle.calendar.specs.Meaning.{Row, bottom_row}
use Rattle.calendar.specs.Granules.{granules}
use Rattle.calendar.specs.Stored.{joined}
use Rattle.granules.proofs.Equal.{least-row-unique}
use Rattle.algebra.specs.TableMeaning.{Meant, nothing}
use Rattle.algebra.specs.Represents.{Represents, CountsLabels}
use Rattle.algebra.specs.Agrees.{RepresentsAll}
use Rattle.algebra.proofs.Demand2.{represents-length, represents-at}
use Rattle.algebra.proofs.Stored.{get_or-mem, joined_length}
use Rattle.conversion.specs.Shows.{start_at, period_at, distance_at, granules_at, row_at}
use Rattle.conversion.proofs.Headings.{first-left, next-left}
use Rattle.conversion.proofs.LeftRows.{counts-labels, labels-counted}
use Rattle.kinds.specs.declared.Operand.{Operand}
use Rattle.kinds.specs.Stands.{end, row_in, Counted}
use Rattle.row_entry.specs.Entering.{operand_of}
use Rattle.row_entry.proofs.Standing.{operand_row, operand-counted}
use Rattle.verdicts.specs.Check.{stands}
use Rattle.verdicts.specs.Begins.{Begins}
use Rattle.verdicts.specs.Means.{ShowsFirst}
use Rattle.verdicts.proofs.Begun.{begins-none, stands-iff}
use Rattle.verdicts.proofs.Firsts.{AllSound, whole_of}
use Rattle.verdicts.proofs.LeftBy.{left_by, operand-among, left-stores, left-operand}
use Rattle.verdicts.proofs.Numbers.{stands-numbers}

-- a member of the first ones is a member
take-mem : (k : ℕ) (l : List Row) (r : Row) → Memᴰ r (take k l) → Memᴰ r l
take-mem zero l r m = absurd (Memᴰ.not-nil m)
take-mem (suc k) [] r m = m
take-mem (suc k) (x ∷ l) r m = ⊎_elim (λ e. Memᴰ.head e) (λ i. Memᴰ.tail (take-mem k l r i)) (Memᴰ.cases_cons m)

module _ (ms : List Meant) (l : List Row) (rep : RepresentsAll ms l) (sounds : AllSound l) (headings : List ℕ) (pool : List ℤ)
    (b : heading_length * length l ≤ length headings) where
  same_length : length ms ≡ length l
  same_length = represents-length ms l rep

  -- ---- they show them

  module _ (fits : length (joined l) ≤ length pool) (begins : Begins l headings pool) where
    -- the operand of a heading
    operand-is : (k : ℕ) → k < length l → operand_of headings k ≡ operand_of (left_by l headings) k
    operand-is k h = operand-among headings (length l) k h ∙ left-operand l headings pool begins sounds b fits k

    row_is : (k : ℕ) → k < length l → row_at headings pool k ≡ get_or l k bottom_row
    row_is k h = ap (row_in pool) (operand-is k h) ∙ operand_row (left-stores l headings pool begins sounds b fits) k h

    count-is : (k : ℕ) → k < length l → granules (row_at headings pool k) ≡ granules_at headings k
    count-is k h =
        let c : Counted pool (operand_of headings k) = subst (Counted pool) (sym (operand-is k h)) (operand-counted (left-stores l headings pool begins sounds b fits) k h) in
        let e : pos (granules_at headings k) ≡ pos (granules (row_at headings pool k)) = c.granules in
        cc e

    shown : (k : ℕ) → k < length ms → Represents (get_or ms k nothing) (row_at headings pool k)
    shown k h = subst (Represents (get_or ms k nothing)) (sym (row_is k (omega (arith, same_length)))) (represents-at ms l rep k (omega (arith, same_length)))

    pub begins-shows : ShowsFirst ms headings pool
    begins-shows = record {
      rows = shown;
      granules = λ k h. subst (CountsLabels (get_or ms k nothing).calendar (distance_at headings k)) (count-is k (omega (arith, same_length)))
          (counts-labels (get_or ms k nothing) (row_at headings pool k) (shown k h));
      first = λ h. ap (λ (a : Operand). a.start) (operand-is 0 (omega (arith, same_length))) ∙ first-left l (length headings);
      next = λ k h.
          ap (λ (a : Operand). a.start) (operand-is (suc k) (omega (arith, same_length)))
          ∙ next-left l (whole_of l sounds) (length headings) (length pool) k (omega (arith, same_length))
          ∙ sym (ap end (operand-is k (omega (arith, same_length))));
    }

  -- ---- and only they do

  module _ (s : ShowsFirst ms headings pool) where
    same_row : (k : ℕ) → k < length l → row_at headings pool k ≡ get_or l k bottom_row
    same_row k h =
        let r = s.rows k (omega (arith, same_length)) in
        least-row-unique (get_or ms k nothing).calendar (row_at headings pool k) (get_or l k bottom_row) r.calendar r.least (represents-at ms l rep k h).least

    same_count : (k : ℕ) → k < length l → granules_at headings k ≡ granules (get_or l k bottom_row)
    same_count k h =
        labels-counted (get_or ms k nothing) (row_at headings pool k) (s.rows k (omega (arith, same_length))) (granules_at headings k) (s.granules k (omega (arith, same_length)))
        ∙ ap granules (same_row k h)

    whole : (k : ℕ) → k < length l → length (get_or l k bottom_row).cells ≡ (get_or l k bottom_row).period
    whole k h = whole_of l sounds (get_or l k bottom_row) (get_or-mem l bottom_row k h)

    joined-more : (k : ℕ) → k < length l → length (joined (take (suc k) l)) ≡ length (joined (take k l)) + (get_or l k bottom_row).period
    joined-more k h =
        ap (λ (x : List Row). length (joined x)) (take-suc l k bottom_row h)
        ∙ joined_length (take k l) (get_or l k bottom_row)
        ∙ ap (λ (n : ℕ). length (joined (take k l)) + n) (whole k h)

    start_is : (k : ℕ) → k < length l → start_at headings k ≡ length (joined (take k l))
    start_is zero h = s.first (omega (arith, same_length))
    start_is (suc k) h =
        let p : period_at headings k ≡ (get_or l k bottom_row).period = ap (λ (r : Row). r.period) (same_row k (omega arith)) in
        omega (arith, s.next k (omega (arith, same_length)), start_is k (omega arith), joined-more k (omega arith))

    sounds-take : (k : ℕ) → AllSound (take k l)
    sounds-take k r m = sounds r (take-mem k l r m)

    begins-take : (k : ℕ) → k ≤ length l → Begins (take k l) headings pool
    begins-take zero h = begins-none headings pool
    begins-take (suc k) h =
        let n : length (take k l) ≡ k = length-take-le k l (omega arith) in
        let q : heading_length * k + heading_length ≤ length headings = omega arith in
        let here : stands headings pool k (length (joined (take k l))) (get_or l k bottom_row) ≡ true =
        (stands-numbers headings pool k (length (joined (take k l))) q (get_or l k bottom_row)).1 (start_is k (omega arith), same_row k (omega arith), same_count k (omega arith)) in
        subst (λ (x : List Row). Begins x headings pool) (sym (take-suc l k bottom_row (omega arith)))
        ((stands-iff (take k l) (whole_of (take k l) (sounds-take k)) headings pool (begins-take k (omega arith)) (get_or l k bottom_row) (whole k (omega arith))).0
        (ap (λ (i : ℕ). stands headings pool i (length (joined (take k l))) (get_or l k bottom_row)) n ∙ here))

    pub shows-begins : Begins l headings pool
    shows-begins = subst (λ (x : List Row). Begins x headings pool) (take-length l) (begins-take (length l) (omega arith))
