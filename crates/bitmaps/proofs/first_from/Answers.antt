-- `bitmaps::first_from` meets its contract: the rest of the word of c, then the first later word that is not zero.
-- Assumes nothing.
use native.Mathlib.Omega.{arith}
use Rattle.bitmaps.proofs.Search.{clear-past, first-here, first-later, first-nowhere}
use Rattle.bitmaps.proofs.first_from.Goals as goal
use Rattle.bitmaps.proofs.first_from.Goals.{After-nonzero_from-j, After-word_at, Start}

pub returns-then-rest-ne0 : goal.returns-then-rest-ne0
returns-then-rest-ne0 c =
    let a = (goal.at.returns-then-rest-ne0 c).After-word_at in
    let s = (goal.at.After-word_at a).Start in
    first-here s.args.words.now s.args.c a.word_at.result a.word_at.ensures c.lowest.result a.word_at.type_inv c.lowest.ensures.1

pub returns-then-words-i : goal.returns-then-words-i
returns-then-words-i c = λ i h. clear-past c.args.words.now _ i c.if-words-i.true (omega arith)

pub returns-then-words-j : goal.returns-then-words-j
returns-then-words-j c =
    let a = (goal.at.returns-then-words-j c).After-word_at in
    let s = (goal.at.After-word_at a).Start in
    first-nowhere s.args.words.now s.args.c a.word_at.result a.word_at.ensures c.if-rest-ne0.false c.nonzero_from-j.result
    c.nonzero_from-j.ensures c.if-words-j.true

pub lowest-requires-2 : goal.lowest-requires-2
lowest-requires-2 c = c.nonzero_from-j.ensures.here c.if-words-j.false

pub returns : goal.returns
returns c =
    let f = (goal.at.returns c).After-nonzero_from-j in
    let a = (goal.at.After-nonzero_from-j f).After-word_at in
    let s = (goal.at.After-word_at a).Start in
    first-later s.args.words.now s.args.c a.word_at.result a.word_at.ensures f.if-rest-ne0.false f.nonzero_from-j.result
    f.nonzero_from-j.ensures c.lowest-2.result c.lowest-2.ensures.0 c.lowest-2.ensures.1
