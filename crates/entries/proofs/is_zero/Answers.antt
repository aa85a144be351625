-- `entries::is_zero` meets its contract: the bits are 0 exactly where the number is.
-- Assumes nothing.
use mathlib.Core.Path.{sym}
use lib.IntN.{pos}
use mir.Syntax.{w32}
use mir.Facts.{sfits_lit}
use Rattle.integers.proofs.Machine.{test-eq}
use Rattle.granules.proofs.Tests.{test-ext, eqb-iff, equal-iff}
use Rattle.entries.proofs.is_zero.Goals as goal

pub returns : goal.returns
returns c =
    let z = c.args.z in
    let e = test-eq w32 z (pos 0) c.ranges.z (sfits_lit tt) in
    test-ext (λ p. (equal-iff (pos 0) z).1 (sym (e.0 ((eqb-iff _ _).0 p)))) (λ p. (eqb-iff _ _).1 (e.1 (sym ((equal-iff (pos 0) z).0 p))))
