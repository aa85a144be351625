-- `counts::joined` meets its contract, test by test.
-- Assumes nothing.
use mathlib.Core.Path.{refl}
use borrow.Author.Rules.{sfits_of}
use borrow.Author.Tests.{eqb-true}
use mir.Syntax.{w32}
use Rattle.integers.proofs.Machine.{test-eq}
use Rattle.granules.proofs.Tests.{true≢false}
use Rattle.counts.proofs.joined.Goals as goal
use Rattle.counts.proofs.joined.Goals.{Else-tops-b, Else-tops-c, Start}

pub returns-then-tops-b : goal.returns-then-tops-b
returns-then-tops-b c = λ e. absurd (true≢false e refl)

pub returns-then-tops-c : goal.returns-then-tops-c
returns-then-tops-c c = λ e. absurd (true≢false e refl)

pub returns : goal.returns
returns c e =
    let second = (goal.at.returns c).Else-tops-c in
    let first = (goal.at.Else-tops-c second).Else-tops-b in
    let s = (goal.at.Else-tops-b first).Start in
    let g = first.struct_told-1.given.1 in (
      (test-eq w32 s.args.tops.a s.args.b (sfits_of g.0.1) s.ranges.b).0 first.if-tops-b.false,
      (test-eq w32 s.args.tops.b s.args.c (sfits_of g.1.0.1) s.ranges.c).0 second.if-tops-c.false,
      (test-eq w32 s.args.tops.c s.args.d (sfits_of g.1.1.0.1) s.ranges.d).0 (eqb-true _ _ e),
    )
