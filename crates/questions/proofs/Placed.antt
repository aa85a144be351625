-- Up from an instant: the place that is answered is at most the row's limit.
-- Assumes nothing.
use mathlib.Core.Path.{◌≡◌, sym}
use mathlib.Core.Option.{some}
use Prim.Native.Nat.{◌≤◌}
use native.Mathlib.Omega.{arith}
use lib.IntN.{ℤ}
use Rattle.calendar.specs.Meaning.{Row}
use Rattle.calendar.specs.Limits.{pool_limit}
use Rattle.calendar.specs.Reply.Reply.{answer}
use Rattle.calendar.specs.Questions.{Placed, up_from_instant}
use Rattle.granules.proofs.Sound.{sound-valid, sound-limits}
use Rattle.granules.proofs.Questions.{place-at-most, length-at-most}
use Rattle.granules.proofs.Asked.{up-instant-placed}

-- no more than a period has instants
pub placed-within : (r : Row) (t : ℤ) (p : Placed) → answer (some p) ≡ up_from_instant r t → p.place ≤ pool_limit
placed-within r t p e =
    let (s, l, m, k) = (up-instant-placed r t p).0 (sym e) in
    omega (arith, k, place-at-most r p.label t, length-at-most r (sound-valid r s) p.label (t, m), (sound-limits r s).1)
