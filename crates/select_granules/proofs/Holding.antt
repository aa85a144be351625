-- A granule of a holds a whole granule of b exactly if the tally of those inside it finds one.
-- Assumes nothing.
use mathlib.Core.Path.{◌≡◌}
use mathlib.Core.Bool.{true}
use lib.IntN.{ℤ, pos}
use lib.Signed.{le_z}
use Rattle.integers.proofs.Machine.{test-le}
use Rattle.calendar.specs.Meaning.{Row}
use Rattle.calendar.specs.Operation.Selection.{select-up}
use Rattle.calendar.specs.Granules.{inside, meeting}
use Rattle.calendar.specs.Compute.{selects}
use Rattle.granules.specs.Valid.{Valid}
use Rattle.granules.proofs.Tests.{test-ext}
use Rattle.granules.proofs.Lists.{any-iff}
use Rattle.granules.proofs.Inside.{meeting-lists}
use Rattle.candidates.specs.Tallies.{candidates, tally_of}
use Rattle.candidates.proofs.Positions.{first_taken}
use Rattle.candidates.proofs.Candidates.{candidates-lists}

pub holds-is : (a b : Row) → Valid a → Valid b → (j : ℤ) → let t = tally_of (pos 1) (pos 1) (candidates true b a j) in le_z t.low t.high ≡ selects select-up a b j
unfolding tally_of
holds-is a b v w j =
    let l = candidates-lists true b a w v j in
    let m = meeting-lists b a w v j in
    let f = first_taken (candidates true b a j) l.rising in
    let some = any-iff (λ k. inside b k a j) (meeting b a j) in
    test-ext
    (λ e. let k = f.0 ((test-le _ _).0 e) in let h = (l.member k.0).1 k.1 in some.1 (k.0, (m.member k.0).0 h.0, h.1))
    (λ e. let k = some.0 e in (test-le _ _).1 (f.1 (k.0, (l.member k.0).0 ((m.member k.0).1 k.1, k.2))))
