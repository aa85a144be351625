-- `one_cell::others` meets its contract: the loop counts the cells that it has passed with another label.
-- Assumes nothing.
use mathlib.Core.Path.{◌≡◌, sym, ◌∙◌, ap}
use mathlib.Core.List.{List}
use borrow.Author.Count.{below_more}
use borrow.Author.Rules.{sfits_of}
use Prim.Native.Nat.{ℕ, ◌+◌, ◌≤◌}
use native.Mathlib.Omega.{arith}
use lib.IntN.{ℤ, pos, ◌+ℤ◌}
use lib.ListN.{get_or}
use mir.Facts.{of_z-to_z, to_z-of_z}
use mir.Syntax.{w32}
use mir.Val.{SFits, to_z, of_z}
use Rattle.integers.proofs.Linear.{ints, ◌∴◌}
use Rattle.integers.proofs.Machine.{plain, test-eq}
use Rattle.calendar.specs.Limits.{pool_limit}
use Rattle.cursors.specs.Found.{Within}
use Rattle.calendar.specs.Meaning.{label_of, empty}
use Rattle.granules.proofs.Tests.{none≢some}
use Rattle.granules.proofs.Rows.{label_is, label-index}
use Rattle.cursors.proofs.Cells.{get_d_any, label-empty, label-full, empty-iff, bits-empty}
use Rattle.one_cell.proofs.others.Invariants.{At, Inv}
use Rattle.one_cell.proofs.others.Goals as goal
use Rattle.one_cell.proofs.others.Goals.{then-z-label+then-z, else-z-label, else-z-label-via-then-z-label+else-z, else-z-label-via-else-z-label}

-- the labels of a pool along a row of one cell fit
fits : (c : ℤ) (i : ℕ) → Within 1000000000 c → i ≤ pool_limit → SFits w32 (c +ℤ pos i)
fits c i w h = w.0 ∴ w.1 ∴ h ∴ simp ints (omega arith)

-- a cell more, with the label that follows
module _ (c : ℤ) (cells : List ℤ) (count : ℕ) (label : ℤ) (i : ℕ) (v : Inv c cells count label i) (f : SFits w32 (c +ℤ pos (i + 1))) where
  abbrev after : ℤ
  after = to_z w32 (of_z w32 (label +ℤ pos 1))

  label_after : after ≡ c +ℤ pos (i + 1)
  label_after =
      let e : label +ℤ pos 1 ≡ c +ℤ pos (i + 1) = ap (λ (z : ℤ). z +ℤ pos 1) v.next ∙ simp ints (omega arith) in
      ap (λ (z : ℤ). to_z w32 (of_z w32 z)) e ∙ to_z-of_z f

  stays : (n : ℕ) → n ≡ count → At c cells i → Inv c cells n after (i + 1)
  stays n e h = record {
    few = omega (arith, v.few);
    next = label_after;
    none = λ z. below_more _ i (v.none (sym e ∙ z)) h;
    along = λ a. e ∙ v.along a;
  }

  grows : (n : ℕ) → n ≡ count + 1 → ¬ (At c cells i) → Inv c cells n after (i + 1)
  grows n e f = record {
    few = omega (arith, v.few);
    next = label_after;
    none = λ z. absurd (omega arith);
    along = λ a. absurd (f (a i));
  }

pub loop-z-preserved : goal.loop-z-preserved
loop-z-preserved c =
    let k = c.loop-z in
    let i = k.z-index in
    let cells = c.args.cells.now in
    let first = to_z w32 (of_z w32 c.args.first) in
    let label = to_z w32 k.label-bits in
    let z = get_or cells i (pos 0) in
    let near : Within 1000000000 first = rw (to_z-of_z c.ranges.first) c.requires.within in
    let l : i + 1 ≤ pool_limit = omega (arith, c.requires.cells_len_bound) in
    let f = fits first (i + 1) near l in
    let g = sfits_of c.z-1.given in
    let same : z ≡ get_or cells i empty = get_d_any cells i (pos 0) empty c.loop-z-test.true in
    let full : label_of (get_or cells i empty) ≡ label_of z = ap label_of (sym same) in
    let is : k.label-bits ≡ of_z w32 (first +ℤ pos i) = sym (of_z-to_z k.auto.label-fits) ∙ ap (of_z w32) k.invariant.next in
    elim c.if-z-label.branch [
      | then-z-label+then-z w ↦ grows first cells k.count label i k.invariant f _ w.count-is (λ h. w.if-z-label.true (ap (of_z w32) (h z (full ∙ label-full z (λ e. w.if-z.true (ap (of_z w32) e)))) ∙ sym is))
      | else-z-label w ↦ stays first cells k.count label i k.invariant f _ w.count-is (elim w.else-z-label.branch [
        | else-z-label-via-then-z-label+else-z v ↦ λ j e. absurd (none≢some (sym (full ∙ label-empty z ((empty-iff z).0 (bits-empty z g v.if-z.false))) ∙ e))
        | else-z-label-via-else-z-label v ↦ λ j e. sym (label_is z j (sym full ∙ e)) ∙ (test-eq w32 z (first +ℤ pos i) g (fits first i near (omega arith))).0 (v.if-z-label.false ∙ is)
      ])
    ]

pub returns-clause-none : goal.returns-clause-none
returns-clause-none c z i j e =
    let f = c.ranges.first in
    let v = simp plain at c.loop-z.invariant in
    v.none z i (omega (arith, label-index c.args.cells.now i j e)) j e
