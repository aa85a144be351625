-- `open_steps::upward::nth_from` meets its contract: in the word of c, or from the word behind it on.
-- Assumes nothing.
use mathlib.Core.Path.{◌≡◌, ap}
use Prim.Native.Nat.{◌+◌, ◌*◌, ◌/◌, ◌%◌}
use native.Mathlib.Omega.{arith}
use lib.ListN.{get_or}
use Rattle.words.specs.Bits.{bit, cell, tally}
use Rattle.words.proofs.Tally.{tally-le}
use Rattle.words.proofs.Ones.{bit_le}
use Rattle.bitmaps.proofs.Words.{tally-word, tally-whole}
use Rattle.open_steps.proofs.Selected.{nth_in, from-moved}
use Rattle.open_steps.proofs.upward.nth_from.Goals as goal
use Rattle.open_steps.proofs.upward.nth_from.Goals.{After-ones_below, Start}

abbrev start : After-ones_below → Start
start c = (goal.at.After-ones_below c).Start

pub overflow_add-sought : goal.overflow_add-sought
overflow_add-sought c =
    let s = start c in
    let w = get_or s.args.words.now (s.args.c / 64) 0 in
    omega (arith, c.ones_below.ensures, tally-le (bit w) (s.args.c % 64) (bit_le w))

-- the set cells before c, by its word
before : (c : After-ones_below) → let s = start c in let l = s.args.words.now in
    tally (cell l) (64 * (s.args.c / 64)) + c.ones_below.result ≡ tally (cell l) s.args.c
before c =
    let s = start c in
    let l = s.args.words.now in
    let e : 64 * (s.args.c / 64) + s.args.c % 64 ≡ s.args.c = omega arith in
    omega (arith, c.ones_below.ensures, tally-word l (s.args.c / 64) (s.args.c % 64) (omega arith), ap (tally (cell l)) e)

pub returns-then-sought-n : goal.returns-then-sought-n
returns-then-sought-n c =
    let b = (goal.at.returns-then-sought-n c).After-ones_below in
    let s = start b in
    nth_in s.args.words.now (s.args.c / 64) _ c.place_of.result _ c.place_of.ensures.0 (omega (arith, before b)) c.place_of.ensures.1

pub returns : goal.returns
returns c =
    let p = c.blocks-passed in
    let b = (goal.at.returns c).After-ones_below in
    let s = start b in
    let l = s.args.words.now in
    from-moved l (64 * p.result.word) s.args.c p.result.left s.args.k
    (omega (arith, p.ensures.same, before b, b.ones_of-n.ensures, tally-whole l (s.args.c / 64))) c.by_words.result c.by_words.ensures
