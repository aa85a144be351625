-- Laws of group and shift, which give each label a new one.
use mathlib.Core.Path.{◌≡◌, refl, sym, ◌∙◌, ap}
use mathlib.Core.Logic.{◌↔◌}
use mathlib.Core.Option.{Option, some}
use Prim.Native.Nat.{ℕ, ◌≤◌, ◌*◌}
use native.Mathlib.Omega.{arith}
use lib.IntN.{ℤ, pos, ◌+ℤ◌, ◌*ℤ◌}
use Rattle.integers.specs.Floor.{ceil_div}
use Rattle.integers.proofs.Linear.{ints}
use Rattle.integers.proofs.Floor.{ceil_div-one, ceil_div-ceil_div, ceil_div-shift}
use Rattle.calendar.specs.Meaning.{Calendar, Same}
use Rattle.calendar.specs.Operation.Unary.{group, shift}
use Rattle.calendar.specs.Operation.Operation.{unary}
use Rattle.calendar.specs.Algebra.{Result}
use Rattle.granules.proofs.Tests.{label-ext}

-- the label j of a is f j in c, and c has no others
abbrev pub Maps : (ℤ → ℤ) → Calendar → Calendar → Type 0
Maps f a c = (t i : ℤ) → (c t ≡ some i) ↔ ((j : ℤ) × (a t ≡ some j) × (i ≡ f j))

pub maps-id : (a : Calendar) → Maps (λ j. j) a a
maps-id a t i = (λ e. (i, e, refl), λ h. h.1 ∙ ap {B = Option ℤ} some (sym h.2))

pub maps-maps : (f g : ℤ → ℤ) (a b c : Calendar) → Maps f a b → Maps g b c → Maps (λ j. g (f j)) a c
maps-maps f g a b c F G t i = (
  λ e. let h = (G t i).0 e in
      let k = (F t h.0).0 h.1 in
      (k.0, k.1, h.2 ∙ ap g k.2),
  λ h. (G t i).1 (f h.0, (F t (f h.0)).1 (h.0, h.1, refl), h.2),
)

-- a calendar is known by where its labels come from
pub maps-same : (f g : ℤ → ℤ) (a x y : Calendar) → Maps f a x → Maps g a y → ((j : ℤ) → f j ≡ g j) → Same x y
maps-same f g a x y F G e t = label-ext λ i. (
  λ p. let h = (F t i).0 p in (G t i).1 (h.0, h.1, h.2 ∙ e h.0),
  λ p. let h = (G t i).0 p in (F t i).1 (h.0, h.1, h.2 ∙ sym (e h.0)),
)

pub shift-shift : (s t : ℤ) (a b x y : Calendar) → Result (unary (shift s) a) b → Result (unary (shift t) b) x → Result (unary (shift (s +ℤ t)) a) y → Same x y
shift-shift s t a b x y B X Y =
    maps-same (λ j. j +ℤ s +ℤ t) (λ j. j +ℤ (s +ℤ t)) a x y (maps-maps (λ j. j +ℤ s) (λ j. j +ℤ t) a b x B X) Y (λ j. simp ints (omega arith))

pub shift_zero : (a x : Calendar) → Result (unary (shift (pos 0)) a) x → Same x a
shift_zero a x X = maps-same (λ j. j +ℤ pos 0) (λ j. j) a x a X (maps-id a) (λ j. simp ints (omega arith))

pub group-one : (a x : Calendar) → Result (unary (group 1) a) x → Same x a
group-one a x X = maps-same (λ j. ceil_div j 1) (λ j. j) a x a X (maps-id a) ceil_div-one

pub group-group : (m n : ℕ) (a b x y : Calendar) → Result (unary (group m) a) b → Result (unary (group n) b) x → Result (unary (group (m * n)) a) y → Same x y
group-group m n a b x y B X Y =
    maps-same (λ j. ceil_div (ceil_div j m) n) (λ j. ceil_div j (m * n)) a x y (maps-maps (λ j. ceil_div j m) (λ j. ceil_div j n) a b x B X) Y
    (λ j. ceil_div-ceil_div j m n)

pub group-shift : (m : ℕ) (s : ℤ) (a b c x y : Calendar) → 1 ≤ m → Result (unary (shift (pos m *ℤ s)) a) b → Result (unary (group m) b) x
    → Result (unary (group m) a) c → Result (unary (shift s) c) y → Same x y
group-shift m s a b c x y above B X C Y =
    maps-same (λ j. ceil_div (j +ℤ pos m *ℤ s) m) (λ j. ceil_div j m +ℤ s) a x y
    (maps-maps (λ j. j +ℤ pos m *ℤ s) (λ j. ceil_div j m) a b x B X)
    (maps-maps (λ j. ceil_div j m) (λ j. j +ℤ s) a c y C Y)
    (λ j. ceil_div-shift m above j s)
