-- `bitmaps::ones_between` meets its contract: the set cells below c, from the first word of a on, less those below a.
-- Assumes nothing.
use native.Mathlib.Omega.{arith}
use mathlib.Core.Path.{◌≡◌, ap}
use mathlib.Core.List.{List}
use Prim.Native.Nat.{ℕ, ◌+◌, ◌*◌, ◌/◌, ◌%◌}
use lib.ListN.{get_or}
use Rattle.words.specs.Bits.{bit, cell, tally}
use Rattle.words.proofs.Tally.{tally-le, tally-mono}
use Rattle.bitmaps.proofs.Words.{tally-word, cell-le}
use Rattle.bitmaps.proofs.ones_between.Goals as goal
use Rattle.bitmaps.proofs.ones_between.Goals.{After-ones_below, After-ones_below-2, Start}

-- the set cells before n, by its word, which is w
by_word : (words : List ℕ) (n w r : ℕ) → w ≡ get_or words (n / 64) 0 → r ≡ tally (bit w) (n % 64)
    → tally (cell words) (64 * (n / 64)) + r ≡ tally (cell words) n
by_word words n w r e f =
    let s : 64 * (n / 64) + n % 64 ≡ n = omega arith in
    let b = ap (λ (v : ℕ). tally (bit v) (n % 64)) e in
    omega (arith, tally-word words (n / 64) (n % 64) (omega arith), ap (tally (cell words)) s)

-- all cells below c that are counted
whole : (c : After-ones_below)
    → let s = (goal.at.After-ones_below c).Start in
    let l = s.args.words.now in
    tally (cell l) (64 * (s.args.a / 64)) + (c.ones_in.result + c.ones_below.result) ≡ tally (cell l) s.args.c
whole c =
    let s = (goal.at.After-ones_below c).Start in
    let l = s.args.words.now in
    let h = by_word l s.args.c c.word_at-w.result c.ones_below.result c.word_at-w.ensures c.ones_below.ensures in
    omega (arith, c.ones_in.ensures, h)

pub overflow_add-result : goal.overflow_add-result
overflow_add-result c =
    let s = (goal.at.overflow_add-result c).Start in
    let l = s.args.words.now in
    omega (arith, whole c, tally-le (cell l) s.args.c (cell-le l))

-- and those of them below a
below : (c : After-ones_below-2)
    → let s = (goal.at.After-ones_below-2 c).Start in
    let l = s.args.words.now in
    tally (cell l) (64 * (s.args.a / 64)) + c.ones_below-2.result ≡ tally (cell l) s.args.a
below c =
    let s = (goal.at.After-ones_below-2 c).Start in
    let w = c.word_at-v in
    by_word s.args.words.now s.args.a w.result c.ones_below-2.result w.ensures c.ones_below-2.ensures

pub overflow_sub-result : goal.overflow_sub-result
overflow_sub-result c =
    let s = (goal.at.overflow_sub-result c).Start in
    omega (arith, whole (goal.at.overflow_sub-result c).After-ones_below, below c, tally-mono (cell s.args.words.now) s.args.a s.args.c (omega arith))

pub returns : goal.returns
returns c =
    let s = (goal.at.returns c).Start in
    omega (arith, whole (goal.at.returns c).After-ones_below, below c, tally-mono (cell s.args.words.now) s.args.a s.args.c (omega arith))
