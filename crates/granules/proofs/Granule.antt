-- `granule` has exactly the granule's instants, rising.
use mathlib.Core.Path.{◌≡◌, refl}
use mathlib.Core.Option.{Option, none, some}
use mathlib.Core.Bool.{Bool}
use mathlib.Core.List.Memᴰ
use mathlib.Core.List.{[]}
use Prim.Native.Nat.{◌-◌, ◌*◌}
use native.Mathlib.Omega.{arith}
use lib.IntN.{ℤ, pos, ◌+ℤ◌, ◌-ℤ◌}
use Rattle.integers.proofs.Linear.{ints, ◌∴◌}
use Rattle.calendar.specs.Meaning.{Row, meant}
use Rattle.calendar.specs.Algebra.{Lists}
use Rattle.calendar.specs.Lists.{from, is}
use Rattle.calendar.specs.Granules.{instant_of, granule_at, granule}
use Rattle.granules.specs.Valid.{Valid}
use Rattle.granules.proofs.Tests.{is-iff}
use Rattle.granules.proofs.Lists.{mem-from, mem-keep, rising-from, rising-keep}
use Rattle.granules.proofs.Calendars.{granule-near}
use Rattle.granules.proofs.Rows.{meant-repeats}
use Rattle.granules.proofs.Instants.{instant_of-labelled, instant_of-none}

pub granule_at-lists : (r : Row) → Valid r → (j t : ℤ) → meant r t ≡ some j → Lists (λ u. meant r u ≡ some j) (granule_at r j t)
unfolding granule_at
granule_at-lists r v j t e =
    let f : ℤ → Bool = λ u. is j (meant r u) in
    let s = t -ℤ pos r.period +ℤ pos 1 in
    let n = 2 * r.period - 1 in
    let near = granule-near (meant r) r.period r.distance (meant-repeats r v.positive.0) v.positive.1 v.ordered in
    record {
      rising = rising-keep f (from s n) (rising-from s n);
      member = λ u. (
        λ h. (mem-keep f u (from s n)).1 ((mem-from u s n).1 (v.positive.0 ∴ near u t j h e ∴ near t u j e h ∴ simp ints (omega arith)), (is-iff j (meant r u)).1 h),
        λ m. (is-iff j (meant r u)).0 ((mem-keep f u (from s n)).0 m).1,
      );
    }

pub granule-lists : (r : Row) → Valid r → (j : ℤ) → Lists (λ u. meant r u ≡ some j) (granule r j)
unfolding granule
granule-lists r v j = by (instant_of r j) refl
  where
    by : (o : Option ℤ) → instant_of r j ≡ o → Lists (λ u. meant r u ≡ some j) (elim o [ none ↦ [] | some t ↦ granule_at r j t ])
    by none q = record { rising = tt; member = λ u. (λ e. absurd (instant_of-none r v j q (u, e)), λ m. absurd (Memᴰ.not-nil m)) }
    by (some t) q = granule_at-lists r v j t (instant_of-labelled r v j t q)
