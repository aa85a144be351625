-- gcd(P, N, R) of a row, whose divisors are tried.
-- Assumes nothing.
use mathlib.Core.Path.{◌≡◌, refl}
use Prim.Native.Nat.{ℕ, ◌≤◌, ◌∣◌}
use native.Mathlib.Nat.{le_of_dvd, dvd_refl, dvd_trans}
use Rattle.integers.specs.Gcd.{gcd}
use Rattle.integers.proofs.Divisors.{gcd-dvd, gcd-greatest, gcd-pos}
use Rattle.calendar.specs.Meaning.{Row}
use Rattle.calendar.specs.Granules.{granules}
use Rattle.calendar.specs.Tries.{common}
use Rattle.granules.specs.Valid.{Valid}

pub common-is : (r : Row) → common r ≡ gcd (gcd r.period r.distance) (granules r)
unfolding common
common-is r = refl

pub common-dvd : (r : Row) (m : ℕ) → m ∣ common r → (m ∣ r.period) × (m ∣ r.distance)
common-dvd r m h =
    let both = gcd-dvd r.period r.distance in
    let d = dvd_trans m (rw common-is at h) (gcd-dvd (gcd r.period r.distance) (granules r)).0 in
    (dvd_trans m d both.0, dvd_trans m d both.1)

pub common-greatest : (r : Row) (m : ℕ) → m ∣ r.period → m ∣ r.distance → m ∣ granules r → m ∣ common r
common-greatest r m p n g =
    rw common-is
    (gcd-greatest m (gcd r.period r.distance) (granules r) (gcd-greatest m r.period r.distance p n) g)

module _ (r : Row) (v : Valid r) where
  pub common-pos : 1 ≤ common r
  common-pos =
      rw common-is
      (gcd-pos (gcd r.period r.distance) (granules r) (gcd-pos r.period r.distance v.positive.0))

  pub common-at-most : common r ≤ r.period
  common-at-most = le_of_dvd v.positive.0 (common-dvd r (common r) (dvd_refl (common r))).0
