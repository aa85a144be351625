-- Anchor and combine of a calendar with itself.
use mathlib.Core.Path.{◌∙◌, ap}
use mathlib.Core.Option.{Option, some}
use native.Mathlib.Omega.{arith}
use lib.IntN.{ℤ}
use lib.Signed.{◌≤ℤ◌}
use Rattle.integers.proofs.Linear.{ints}
use Rattle.integers.proofs.Order.{≤ℤ-antisym}
use Rattle.calendar.specs.Meaning.{Calendar, Same}
use Rattle.calendar.specs.Operation.Binary.{anchor, combine}
use Rattle.calendar.specs.Operation.Operation.{binary}
use Rattle.calendar.specs.Algebra.{Result}
use Rattle.granules.proofs.Tests.{label-ext}

≤ℤ_refl : (j : ℤ) → j ≤ℤ j
≤ℤ_refl j = simp ints (omega arith)

pub anchor-self : (a x : Calendar) → Result (binary anchor a a) x → Same x a
anchor-self a x X t = label-ext λ i. (
  λ e. let h = (X t i).0 e in
      h.1 ∙ ap {B = Option ℤ} some (≤ℤ-antisym (h.4 h.0 (t, h.1) (≤ℤ_refl h.0)) h.3),
  λ e. (X t i).1 (i, e, (t, e), ≤ℤ_refl i, λ k h l. l),
)

pub combine-self : (a x : Calendar) → Result (binary combine a a) x → Same x a
combine-self a x X t = label-ext λ i. (
  λ e. let h = (X t i).0 e in h.2 t h.1,
  λ e. (X t i).1 (i, e, λ u p. p),
)
