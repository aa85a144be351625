-- A pass over the cells of a row that counts its labels above the last one before the instant 0 and below x.
-- Assumes nothing.
use mathlib.Core.Path.{◌≡◌, sym, ◌∙◌, ap, subst}
use mathlib.Core.Option.{some}
use mathlib.Core.List.{List}
use Prim.Native.Nat.{ℕ, ◌+◌, ◌≤◌, ◌<◌}
use native.Mathlib.Omega.{arith}
use lib.IntN.{ℤ, pos, negsuc, ◌+ℤ◌, ◌-ℤ◌}
use lib.Signed.{◌≤ℤ◌, ◌<ℤ◌}
use lib.ListN.{length, get_or}
use Rattle.integers.proofs.Linear.{ints, ◌∴◌}
use Rattle.calendar.specs.Limits.{pool_limit}
use Rattle.calendar.specs.Meaning.{Row, meant, label_of, empty}
use Rattle.calendar.specs.Granules.{has}
use Rattle.calendar.specs.Compute.{count, anchored}
use Rattle.calendar.specs.Questions.{given}
use Rattle.granules.specs.Valid.{Valid}
use Rattle.granules.proofs.Rows.{meant-cell, label_is}
use Rattle.algebra.proofs.Totals.{total}
use Rattle.cursors.specs.Found.{Sound}
use Rattle.cursors.proofs.Numbers.{Numbers, numbers, valid}
use Rattle.cursors.proofs.Cells.{label-full}
use Rattle.fill_unary.proofs.Numbers.{count-total, label-next}
use Rattle.fill_unary.proofs.Latest.{Latest, last-latest, latest-here, latest-stays, latest-bound, none_between, next-label, turn-above}

-- what the pass is over: a row, its last label before the instant 0, and a number x above that by a turn at most
pub record Over (x last period distance : ℤ) (cells : List ℤ) : Type 0 where
  pub sound : Sound period distance cells
  pub is_last : last ≡ anchored (given period distance cells) (negsuc 0)
  pub low : last <ℤ x
  pub high : x ≤ℤ (last +ℤ distance)

-- the cells before the i-th are passed: p is the greatest label so far, and n are those above `last`
pub record Passed (r : Row) (last x p : ℤ) (n i : ℕ) : Type 0 where
  pub latest : Latest r (pos i) p
  pub below : p <ℤ x
  pub counted : total (has r) (p +ℤ pos 1) ≡ total (has r) (last +ℤ pos 1) +ℤ pos n

module _ {x last period distance : ℤ} {cells : List ℤ} (o : Over x last period distance cells) where
  abbrev row : Row
  row = given period distance cells

  v : Valid row
  v = valid period distance cells o.sound

  b : Numbers period distance cells
  b = numbers period distance cells o.sound

  last-is : Latest row (pos 0) last
  last-is = subst (Latest row (pos 0)) (sym o.is_last) (last-latest row v (pos 0))

  pub passed_none : Passed row last x last 0 0
  passed_none = record { latest = last-is; below = o.low; counted = simp ints (omega arith) }

  module _ {p : ℤ} {n i : ℕ} (d : Passed row last x p n i) where
    -- all are counted, once no label from here on is below x
    all-counted : ((u j : ℤ) → pos i ≤ℤ u → meant row u ≡ some j → x ≤ℤ j) → pos n ≡ pos (count row (last +ℤ pos 1) (x -ℤ pos 1))
    all-counted h =
        let e : x -ℤ pos 1 +ℤ pos 1 ≡ x = simp ints (omega arith) in
        count-total row v (last +ℤ pos 1) (x -ℤ pos 1) (o.low ∴ simp ints (omega arith))
        ∴ ap (total (has row)) e
        ∴ none_between row v (pos i) p d.latest x d.below h
        ∴ d.counted
        ∴ simp ints (omega arith)

    -- behind the last cell
    pub passed-all : length cells ≤ i → pos n ≡ pos (count row (last +ℤ pos 1) (x -ℤ pos 1))
    passed-all h =
        all-counted
        (λ u j k e.
        turn-above row v last last-is u j (k ∴ h ∴ b.whole ∴ simp ints (omega arith)) e
        ∴ o.high
        ∴ b.distance_is
        ∴ simp ints (omega arith))

    module _ (here : i < length cells) where
      abbrev z : ℤ
      z = get_or cells i empty

      cell-is : meant row (pos i) ≡ label_of z
      cell-is = meant-cell row i (omega (arith, b.whole))

      -- a cell above p has a label
      cell-label : p <ℤ z → meant row (pos i) ≡ some z
      cell-label h =
          let near : i ≤ pool_limit = omega (arith, b.whole, b.high) in
          let w = latest-bound period distance cells o.sound (pos i) p d.latest (simp ints (omega arith)) (near ∴ simp ints (omega arith)) in
          cell-is ∙ label-full z (λ e. e ∴ h ∴ w ∴ simp ints (omega arith))

      pub passed-enough : x ≤ℤ z → pos n ≡ pos (count row (last +ℤ pos 1) (x -ℤ pos 1))
      passed-enough h =
          let e = cell-label (h ∴ d.below ∴ simp ints (omega arith)) in
          all-counted (λ u j k f. v.ordered (pos i) u z j k e f ∴ h ∴ simp ints (omega arith))

      pub passed-more : p <ℤ z → z <ℤ x → Passed row last x z (n + 1) (i + 1)
      passed-more h k =
          let e = cell-label h in
          record {
            latest = latest-here row v (pos i) z e;
            below = k;
            counted = label-next row v z (pos i, e) ∴ next-label row v (pos i) p d.latest z e h ∴ d.counted ∴ simp ints (omega arith);
          }

      pub passed-same : z ≤ℤ p → Passed row last x p n (i + 1)
      passed-same h = record {
        latest = latest-stays row v (pos i) p d.latest (λ j e. label_is z j (sym cell-is ∙ e) ∴ h ∴ simp ints (omega arith));
        below = d.below;
        counted = d.counted;
      }
