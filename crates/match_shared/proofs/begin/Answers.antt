-- `match_shared::begin` meets its contract: nothing is seen, and the cursor is that of the instant 0.
-- Assumes nothing.
use native.Mathlib.Omega.{arith}
use lib.IntN.{pos}
use mathlib.Core.Path.{refl}
use Rattle.integers.proofs.Linear.{ints}
use Rattle.cursors.proofs.Cursors.{cursor-of}
use Rattle.match_shared.proofs.Seen.{seen_none}
use Rattle.match_shared.proofs.begin.Goals as goal

pub returns : goal.returns
returns c o r h = record {
  cursor = cursor-of r (pos 0) (pos 0) (pos 0) (pos 0) 0 (simp ints (omega arith)) (omega arith) refl (simp ints (omega arith));
  seen = seen_none o r;
}
