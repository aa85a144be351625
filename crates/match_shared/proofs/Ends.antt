-- Check 11 by the ends of the working row.
-- Assumes nothing.
use mathlib.Core.Path.{◌≡◌, refl, sym, ◌∙◌, ap}
use mathlib.Core.Option.{Option, none, some}
use mathlib.Core.Logic.{◌↔◌}
use mathlib.Core.Bool.{true}
use Prim.Native.Nat.{ℕ}
use native.Mathlib.Omega.{arith}
use lib.IntN.{ℤ, pos, ◌+ℤ◌, ◌-ℤ◌}
use lib.Signed.{◌≤ℤ◌, ◌<ℤ◌}
use Rattle.integers.proofs.Linear.{ints, ◌∴◌}
use Rattle.calendar.specs.Meaning.{Row, raise}
use Rattle.calendar.specs.Operation.{Operation}
use Rattle.calendar.specs.Distance.{size}
use Rattle.calendar.specs.Compute.{result}
use Rattle.calendar.specs.Checks.{labels_in_range}
use Rattle.calendar.specs.Limits.{in_range}
use Rattle.granules.proofs.Tests.{none≢some}
use Rattle.algebra.specs.Ready.{Right}
use Rattle.algebra.proofs.Working.{labels-in-range, labels_in_range-iff, in_range-iff}
use Rattle.match_shared.specs.Ends.{FirstIn, LastBefore}

module _ (o : Operation Row) (r : Right o) (s i u j : ℤ) (f : FirstIn o (pos 0) (pos (size o).period) s i) (l : LastBefore o u j) where
  abbrev P : ℕ
  P = (size o).period

  abbrev N : ℕ
  N = (size o).distance

  -- one turn later
  later : (t x : ℤ) → result o t ≡ some x → result o (t +ℤ pos P) ≡ some (x +ℤ pos N)
  later t x e = r.repeats t ∙ ap (raise (pos N)) e

  -- one turn earlier
  earlier : (t x : ℤ) → result o t ≡ some x → (y : ℤ) × (result o (t -ℤ pos P) ≡ some y)
  earlier t x e =
      let back : t -ℤ pos P +ℤ pos P ≡ t = simp ints (omega arith) in
      by (result o (t -ℤ pos P)) refl (sym (r.repeats (t -ℤ pos P)) ∙ ap (result o) back ∙ e)
    where
      by : (y : Option ℤ) → result o (t -ℤ pos P) ≡ y → raise (pos N) (result o (t -ℤ pos P)) ≡ some x → (z : ℤ) × (result o (t -ℤ pos P) ≡ some z)
      by none p q = absurd (none≢some (sym (ap (raise (pos N)) p) ∙ q))
      by (some y) p q = (y, p)

  -- the last labelled instant before 0 is less than a turn away
  near : ((u +ℤ pos P) <ℤ pos P) × (pos 0 ≤ℤ (u +ℤ pos P))
  near =
      let e = earlier s i f.label in
      let low = f.within.0 in
      let high = f.within.1 in
      let m = l.is_last (s -ℤ pos P) e.0 (high ∴ simp ints (omega arith)) e.1 in
      (l.before ∴ simp ints (omega arith), m ∴ low ∴ simp ints (omega arith))

  there : labels_in_range o ≡ true → (in_range i ≡ true) × (in_range (j +ℤ pos N) ≡ true)
  there e = (
    (in_range-iff i).1 (labels-in-range o e s f.within.0 f.within.1 i f.label),
    (in_range-iff (j +ℤ pos N)).1 (labels-in-range o e (u +ℤ pos P) near.1 near.0 (j +ℤ pos N) (later u j l.label)),
  )

  back : in_range i ≡ true → in_range (j +ℤ pos N) ≡ true → labels_in_range o ≡ true
  back a b =
      (labels_in_range-iff o r).1
      (λ t x low high h.
      let e = (r.labels t x).1 h in
      let first = r.ordered s t i x (f.is-first t x low high e) f.label e in
      let y = earlier t x e in
      let m = l.is_last (t -ℤ pos P) y.0 (high ∴ simp ints (omega arith)) y.1 in
      let last = r.ordered t (u +ℤ pos P) x (j +ℤ pos N) (m ∴ simp ints (omega arith)) e (later u j l.label) in
      let c = (in_range-iff i).0 a in
      let d = (in_range-iff (j +ℤ pos N)).0 b in
      let c₀ = c.0 in
      let d₁ = d.1 in
      (c₀ ∴ first ∴ simp ints (omega arith), last ∴ d₁ ∴ simp ints (omega arith)))

-- Labels never fall, so the first label from 0 on and the last one before 0, one turn later, decide check 11.
pub ends-decide : (o : Operation Row) → Right o → (s i u j : ℤ) → FirstIn o (pos 0) (pos (size o).period) s i → LastBefore o u j
    → (labels_in_range o ≡ true) ↔ ((in_range i ≡ true) × (in_range (j +ℤ pos (size o).distance) ≡ true))
ends-decide o r s i u j f l = (there o r s i u j f l, λ h. back o r s i u j f l h.0 h.1)
