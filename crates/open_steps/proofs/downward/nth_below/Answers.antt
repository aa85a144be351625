-- `open_steps::downward::nth_below` meets its contract: in the word of c, or before that word.
-- Assumes nothing.
use mathlib.Core.Path.{◌≡◌, ap, subst}
use Prim.Native.Nat.{ℕ, ◌+◌, ◌*◌, ◌-◌, ◌/◌, ◌%◌}
use native.Mathlib.Omega.{arith}
use Rattle.words.specs.Bits.{bit, cell, tally}
use Rattle.words.proofs.Tally.{tally-mono}
use Rattle.bitmaps.proofs.Words.{tally-word}
use Rattle.open_steps.specs.Ranked.{Nth}
use Rattle.open_steps.proofs.Selected.{below_in, below-moved}
use Rattle.open_steps.proofs.downward.nth_below.Goals as goal
use Rattle.open_steps.proofs.downward.nth_below.Goals.{After-ones_below-n, Start}

abbrev start : After-ones_below-n → Start
start c = (goal.at.After-ones_below-n c).Start

-- the set cells before c, by its word
before : (c : After-ones_below-n) → let s = start c in let l = s.args.words.now in
    tally (cell l) (64 * (s.args.c / 64)) + c.ones_below-n.result ≡ tally (cell l) s.args.c
before c =
    let s = start c in
    let l = s.args.words.now in
    let e : 64 * (s.args.c / 64) + s.args.c % 64 ≡ s.args.c = omega arith in
    let w = ap (λ (v : ℕ). tally (bit v) (s.args.c % 64)) c.word_at-w.ensures in
    omega (arith, c.ones_below-n.ensures, w, tally-word l (s.args.c / 64) (s.args.c % 64) (omega arith), ap (tally (cell l)) e)

pub place_of-requires : goal.place_of-requires
place_of-requires c =
    let b = (goal.at.place_of-requires c).After-ones_below-n in
    let s = start b in
    omega (arith, b.ones_below-n.ensures, tally-mono (bit b.word_at-w.result) (s.args.c % 64) 64 (omega arith))

pub returns-then-k-n : goal.returns-then-k-n
returns-then-k-n c =
    let b = (goal.at.returns-then-k-n c).After-ones_below-n in
    let s = start b in
    let l = s.args.words.now in
    let m = b.ones_below-n.result - 1 - s.args.k in
    below_in l s.args.c (s.args.c / 64) s.args.k c.place_of.result m c.place_of.ensures.0 (omega (arith, before b))
    (subst (λ (v : ℕ). Nth (bit v) m c.place_of.result) b.word_at-w.ensures c.place_of.ensures.1)

pub returns : goal.returns
returns c =
    let p = c.blocks-passed in
    let b = (goal.at.returns c).After-ones_below-n in
    let s = start b in
    below-moved s.args.words.now (64 * p.result.word) s.args.c p.result.left s.args.k
    (omega (arith, p.ensures.same, before b)) c.by_words.result c.by_words.ensures
