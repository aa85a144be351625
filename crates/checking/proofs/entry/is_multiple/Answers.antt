-- `checking::entry::is_multiple` meets its contract: neither product is above the period.
-- Assumes nothing.
use mathlib.Core.Path.{refl}
use native.Mathlib.Omega.{arith}
use Rattle.granules.proofs.Tests.{true≢false, eqb-iff}
use Rattle.checking.proofs.Multiples.{product-fits, other_fits, multiple-of, multiple-period, multiple-distance}
use Rattle.checking.proofs.entry.is_multiple.Goals as goal
use Rattle.checking.proofs.entry.is_multiple.Goals.{Start}

pub overflow_mul-times : goal.overflow_mul-times
overflow_mul-times c = let a = c.args in record { fits = omega (arith, product-fits a.period a.distance a.p a.n c.requires.0 c.requires.1, c.ranges.period.fits) }

pub returns-then-times-p : goal.returns-then-times-p
returns-then-times-p c =
    let s = (goal.at.returns-then-times-p c).Start in
    let a = s.args in (
      λ e. absurd (true≢false e refl),
      λ m. absurd (c.if-times-p.true (multiple-period a.period a.distance a.p a.n s.requires.0 s.requires.1 m)),
    )

pub overflow_mul-result : goal.overflow_mul-result
overflow_mul-result c =
    let s = (goal.at.overflow_mul-result c).Start in
    let a = s.args in
    record { fits = omega (arith, other_fits a.period a.distance a.p a.n s.requires.0 s.requires.1, s.ranges.period.fits) }

pub returns : goal.returns
returns c =
    let s = (goal.at.returns c).Start in
    let a = s.args in
    let e = c.if-times-p.false in (
      λ f. multiple-of a.period a.distance a.p a.n s.requires.0 s.requires.1 e ((eqb-iff _ _).0 f),
      λ m. (eqb-iff _ _).1 (multiple-distance a.period a.distance a.p a.n s.requires.0 s.requires.1 m),
    )
