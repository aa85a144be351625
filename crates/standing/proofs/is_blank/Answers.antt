-- `standing::is_blank` meets its contract. The loop's invariant: what is left decides.
-- Assumes nothing.
use mathlib.Core.Path.{◌≡◌, sym, ◌∙◌, ap}
use mathlib.Core.Bool.{Bool, ◌&&◌}
use mathlib.Core.List.{List}
use Prim.Native.Nat.{ℕ, suc, ◌+◌, ◌<◌}
use native.Mathlib.Omega.{arith}
use borrow.Author.Rules.{rules}
use lib.IntN.{ℤ, pos}
use lib.ListN.{length, get_or, drop}
use lib.Seq.{drop-cons}
use mir.Syntax.{w32}
use mir.Val.{of_z}
use Rattle.calendar.specs.Meaning.{empty}
use Rattle.calendar.specs.Lists.{equal}
use Rattle.granules.proofs.Tests.{false-iff, equal-iff}
use Rattle.cursors.proofs.Cells.{bits-empty, empty-iff}
use Rattle.standing.specs.Tests.{all_empty}
use Rattle.standing.proofs.is_blank.Goals as goal

-- the cell at i, and those behind it
next : (l : List ℤ) (i : ℕ) → i < length l → all_empty (drop i l) ≡ equal (get_or l i (pos 0)) empty && all_empty (drop (suc i) l)
next l i h = ap all_empty (drop-cons l i (pos 0) h)

pub returns-then-pool-i : goal.returns-then-pool-i
returns-then-pool-i c =
    let l = c.args.pool.now in
    let i = c.loop-i.i in
    let z = get_or l i (pos 0) in
    sym (c.loop-i.invariant ∙ next l i c.loop-i-test.true
    ∙ ap (λ (b : Bool). b && all_empty (drop (suc i) l)) ((false-iff (equal-iff z empty)).1 (λ e. c.if-pool-i.true (ap (of_z w32) e))))

pub loop-i-preserved : goal.loop-i-preserved
loop-i-preserved c =
    let l = c.args.pool.now in
    let i = c.loop-i.i in
    let z = get_or l i (pos 0) in
    let n : suc i ≡ i + 1 = omega arith in
    c.loop-i.invariant ∙ next l i c.loop-i-test.true
    ∙ ap (λ (b : Bool). b && all_empty (drop (suc i) l)) ((equal-iff z empty).1 ((empty-iff z).0 (bits-empty z (search rules) c.if-pool-i.false)))
    ∙ ap (λ (j : ℕ). all_empty (drop j l)) n
