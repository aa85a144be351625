-- `bitmaps::last_below` meets its contract: the word of c below it, then the last earlier word that is not zero.
-- Assumes nothing.
use native.Mathlib.Omega.{arith}
use mathlib.Core.Path.{sym, ◌∙◌, subst}
use Prim.Native.Nat.{ℕ}
use Rattle.words.specs.Bits.{bit}
use Rattle.words.specs.Places.{Greatest}
use Rattle.bitmaps.proofs.Search.{last-here, last-earlier, last-nowhere}
use Rattle.bitmaps.proofs.last_below.Goals as goal
use Rattle.bitmaps.proofs.last_below.Goals.{After-low_bits-low, After-nonzero_below-n, After-word_at-w, Start}

pub returns-then-low-ne0 : goal.returns-then-low-ne0
returns-then-low-ne0 c =
    let b = (goal.at.returns-then-low-ne0 c).After-low_bits-low in
    let a = (goal.at.After-low_bits-low b).After-word_at-w in
    let s = (goal.at.After-word_at-w a).Start in
    last-here s.args.words.now s.args.c a.word_at-w.result a.word_at-w.ensures c.highest.result
    (subst (λ (v : ℕ). Greatest (bit v) 64 c.highest.result) b.low_bits-low.ensures c.highest.ensures)

pub returns-then-n-eq0 : goal.returns-then-n-eq0
returns-then-n-eq0 c =
    let f = (goal.at.returns-then-n-eq0 c).After-nonzero_below-n in
    let b = (goal.at.After-nonzero_below-n f).After-low_bits-low in
    let a = (goal.at.After-low_bits-low b).After-word_at-w in
    let s = (goal.at.After-word_at-w a).Start in
    last-nowhere s.args.words.now s.args.c a.word_at-w.result a.word_at-w.ensures (sym b.low_bits-low.ensures ∙ f.if-low-ne0.false) f.nonzero_below-n.result
    f.nonzero_below-n.ensures c.if-n-eq0.true

pub highest-requires-2 : goal.highest-requires-2
highest-requires-2 c = c.nonzero_below-n.ensures.here (omega arith)

pub returns : goal.returns
returns c =
    let f = (goal.at.returns c).After-nonzero_below-n in
    let b = (goal.at.After-nonzero_below-n f).After-low_bits-low in
    let a = (goal.at.After-low_bits-low b).After-word_at-w in
    let s = (goal.at.After-word_at-w a).Start in
    last-earlier s.args.words.now s.args.c a.word_at-w.result a.word_at-w.ensures (sym b.low_bits-low.ensures ∙ f.if-low-ne0.false) f.nonzero_below-n.result
    f.nonzero_below-n.ensures c.highest-2.result (omega arith) c.highest-2.ensures
