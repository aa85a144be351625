-- The rows that a conversion leaves, as their lines.
-- Assumes nothing.
use Rattle.std.specs.Prelude.{Ok, Err}
use mathlib.Core.Path.{◌≡◌, refl, sym, ◌∙◌, ap, ap₂, subst}
use mathlib.Core.List.{List, [], ◌∷◌, ◌++◌, map, append_assoc, append-nil}
use Prim.Native.Nat.{ℕ, zero, suc, ◌+◌, ◌/◌, ◌≤◌, ◌<◌}
use native.Mathlib.Omega.{arith}
use lib.IntN.{ℤ}
use lib.ListN.{length, get_or, take, drop, length-take, length-drop}
use lib.Seq.{take-suc, take_all}
use Rattle.calendar.specs.Limits.{heading_length}
use Rattle.calendar.specs.Meaning.{Row, bottom_row}
use Rattle.calendar.specs.Outcome.{Outcome, outcome}
use Rattle.calendar.specs.Outcome.Outcome.{refused_at, rows}
use Rattle.calendar.specs.Stored.{headings_from, pool_after, headings_after}
use Rattle.granules.proofs.Sound.{sound-valid}
use Rattle.algebra.specs.Agrees.{Agrees}
use Rattle.algebra.specs.TableMeaning.TableReply.{means}
use Rattle.algebra.proofs.Demand2.{demand-2-only, represents-length, stored-sound}
use Rattle.algebra.proofs.Stored.{get_or-mem}
use Rattle.laws.proofs.Answered.{stored-means}
use Rattle.conversion.specs.Conversion.{Conversion, Refused, Converted}
use Rattle.conversion.specs.Answers.{answered}
use Rattle.conversion.specs.Left.{Left}
use Rattle.conversion.specs.Shows.{start_at, period_at, row_at}
use Rattle.conversion.proofs.Headings.{Whole, filled-length, headings-length, row-left}
use Rattle.conversion.proofs.LeftRows.{means-length}
use Rattle.table_text.specs.Words.{lines}
use Rattle.table_text.specs.SheetWords.{row_words}
use Rattle.table_text.specs.Sheet.{printed}
use Rattle.table_text.proofs.Printed.{refusal-lines, row-lines, printed-lines}
use Rattle.sheet_lines.specs.RowLines.{row_line, row_lines, RowsThere, refusal_line}

-- the line of a refusal is what is printed for it
pub refused-line : (n k : ℕ) → refusal_line n k ≡ printed (refused_at n k)
refused-line n k = sym (printed-lines (refused_at n k) ∙ ap lines (refusal-lines n k) ∙ append-nil (refusal_line n k))

lines_snoc : (l : List Row) (r : Row) → lines (map row_words (l ++ (r ∷ []))) ≡ lines (map row_words l) ++ row_line r
lines_snoc [] r = append-nil (row_line r)
lines_snoc (s ∷ l) r = ap (λ (t : List ℕ). row_line s ++ t) (lines_snoc l r) ∙ sym (append_assoc (row_line s) (lines (map row_words l)) (row_line r))

module _ (t : List ℤ) (h p : ℕ) (l : List Row) (stores : outcome t (h / heading_length) p ≡ rows l) where
  -- there is a row for each entry, and a heading for each row
  pub count : (length l ≡ length t / 6) × (length l ≤ h / heading_length)
  count =
      let (ms, m) = stored-means t (h / heading_length) p l stores in
      let a = subst (Agrees (means ms)) stores (demand-2-only t (h / heading_length) p (means ms) m) in
      let e = represents-length ms l a in
      let n = means-length m in
      (omega arith, omega arith)

  whole : Whole l
  whole r m = (sound-valid r (stored-sound t (h / heading_length) p l stores r m)).whole

  module _ (headings : List ℕ) (pool : List ℤ) (e : headings ≡ headings_after h (rows l)) (f : pool ≡ pool_after p (rows l)) where
    row_is : (k : ℕ) → k < length l → row_at headings pool k ≡ get_or l k bottom_row
    unfolding headings_after pool_after
    row_is k b = rw (e, f) (row-left l whole h p k b)

    headings-length-is : length headings ≡ h
    unfolding headings_after
    headings-length-is = ap length e ∙ filled-length h 0 (headings_from 0 l) (omega (arith, headings-length 0 l, count.1))

    row_fits : (k : ℕ) → k < length l → start_at headings k + period_at headings k ≤ length pool
    row_fits k b =
        let r = row_is k b in
        let v = sound-valid (get_or l k bottom_row) (stored-sound t (h / heading_length) p l stores (get_or l k bottom_row) (get_or-mem l bottom_row k b)) in
        let period : period_at headings k ≡ (get_or l k bottom_row).period = ap (λ (s : Row). s.period) r in
        let cells : length (take (period_at headings k) (drop (start_at headings k) pool)) ≡ (get_or l k bottom_row).period = ap (λ (s : Row). length s.cells) r ∙ v.whole in
        let positive = v.positive in
        omega (arith, length-take (period_at headings k) (drop (start_at headings k) pool), length-drop (start_at headings k) pool)

    pub there : RowsThere headings pool (length t / 6)
    there = record {
      headings-there = omega (arith, count, headings-length-is);
      rows-there = λ i b. row_fits i (omega (arith, count.0));
    }

    lines_are : (i : ℕ) → i ≤ length l → row_lines headings pool i ≡ lines (map row_words (take i l))
    lines_are zero b = refl
    lines_are (suc i) b =
        ap₂ (λ (x y : List ℕ). x ++ y) (lines_are i (omega arith)) (ap row_line (row_is i (omega arith)))
        ∙ sym (ap (λ (m : List Row). lines (map row_words m)) (take-suc l i bottom_row (omega arith)) ∙ lines_snoc (take i l) (get_or l i bottom_row))

    pub printed-so : row_lines headings pool (length t / 6) ≡ printed (rows l)
    printed-so =
        ap (row_lines headings pool) (sym count.0)
        ∙ lines_are (length l) (omega arith)
        ∙ ap (λ (m : List Row). lines (map row_words m)) (take_all (length l) l (omega arith))
        ∙ sym (printed-lines (rows l) ∙ ap lines (row-lines l))

-- ---- by what the conversion answers

module _ (t : List ℤ) (h p : ℕ) (headings : List ℕ) (pool : List ℤ) where
  abbrev comes : Outcome
  comes = outcome t (h / heading_length) p

  pub printed-refusal : (n k : ℕ) → Left t h p (Refused n k) headings pool → refusal_line n k ≡ printed comes
  printed-refusal n k left = by comes refl left.answer
    where
      by : (o : Outcome) → comes ≡ o → Refused n k ≡ answered o → refusal_line n k ≡ printed comes
      by (refused_at m j) q e =
          let number : n ≡ m = ap (λ (c : Conversion). elim c [ Err x ↦ x.number | Ok _ ↦ n ]) e in
          let entry : k ≡ j = ap (λ (c : Conversion). elim c [ Err x ↦ x.entry | Ok _ ↦ k ]) e in
          ap₂ refusal_line number entry ∙ refused-line m j ∙ ap printed (sym q)
      by (rows l) q e = let z : ◌≡◌ {A = ℕ} 0 1 = cc in absurd (omega arith)

  converted-rows : Converted ≡ answered comes → (l : List Row) × (comes ≡ rows l)
  converted-rows = by comes
    where
      by : (o : Outcome) → Converted ≡ answered o → (l : List Row) × (o ≡ rows l)
      by (refused_at m j) e = let z : ◌≡◌ {A = ℕ} 0 1 = cc in absurd (omega arith)
      by (rows l) e = (l, refl)

  module _ (left : Left t h p Converted headings pool) where
    pub rows-there : RowsThere headings pool (length t / 6)
    rows-there =
        let (l, e) = converted-rows left.answer in
        there t h p l e headings pool (left.numbers ∙ ap (headings_after h) e) (left.cells ∙ ap (pool_after p) e)

    pub printed-rows : row_lines headings pool (length t / 6) ≡ printed comes
    printed-rows =
        let (l, e) = converted-rows left.answer in
        printed-so t h p l e headings pool (left.numbers ∙ ap (headings_after h) e) (left.cells ∙ ap (pool_after p) e) ∙ ap printed (sym e)
