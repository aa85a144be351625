-- Anchor and the set operations: where the operands are aligned, the two labels of an instant and the last label of b decide its label.
-- Assumes nothing.
use mathlib.Core.Path.{◌≡◌, refl, sym, ◌∙◌, ap}
use mathlib.Core.Option.{Option, none, some}
use mathlib.Core.Bool.{true}
use native.Mathlib.Omega.{arith}
use lib.IntN.{ℤ, pos, ◌+ℤ◌, ◌-ℤ◌}
use Rattle.integers.proofs.Linear.{ints}
use Rattle.calendar.specs.Meaning.{Row, meant}
use Rattle.calendar.specs.Algebra.{Compatible}
use Rattle.calendar.specs.Lists.{is_some}
use Rattle.calendar.specs.Granules.{has}
use Rattle.calendar.specs.Compute.{result_set, result, anchored}
use Rattle.calendar.specs.Sound.{sound}
use Rattle.granules.specs.Valid.{Valid}
use Rattle.granules.proofs.Tests.{none≢some, false-iff}
use Rattle.granules.proofs.Instants.{has-iff}
use Rattle.algebra.specs.Ready.{Ready}
use Rattle.kinds.specs.declared.SetOperation.{SetOperation}
use Rattle.kinds.specs.declared.SetOperation.TheVariants.{Union, Intersection, Difference}
use Rattle.kinds.specs.Operations.{operation_of, set_of, operands, SoundFirst}
use Rattle.fill_shared.proofs.Lasts.{anchored-here, anchored-skips}
use Rattle.fill_pointwise.specs.declared.Pointwise.{Pointwise}
use Rattle.fill_pointwise.specs.declared.Pointwise.TheVariants.{Anchor, ByLabels}
use Rattle.fill_pointwise.specs.Decided.{kind_of, set_label, decided_label, later_label}

-- ---- the label of the instant

module _ (a b : Row) (v : Valid b) (c : Compatible (meant a) (meant b)) (t : ℤ) where
  -- b has the label of t in a exactly if it labels t
  has-at : (j : ℤ) (y : Option ℤ) → meant a t ≡ some j → meant b t ≡ y → has b j ≡ is_some y
  has-at j none p q = (false-iff (has-iff b v j)).1 (λ h. none≢some (sym q ∙ (c.shared j (t, p) h t).0 p))
  has-at j (some k) p q = (has-iff b v j).1 (t, q ∙ ap some (sym (c.single t j k p q)))

  set-label : (s : SetOperation) (x y : Option ℤ) → meant a t ≡ x → meant b t ≡ y → set_label s x y ≡ result_set (set_of s) a b t
  set-label Union none y p q = rw (p, result_set) (sym q)
  set-label Union (some j) y p q = rw (p, result_set)
  set-label Intersection none none p q = rw (p, result_set)
  set-label Intersection none (some k) p q = rw (p, result_set)
  set-label Intersection (some j) none p q = rw (p, result_set, has-at j none p q)
  set-label Intersection (some j) (some k) p q = rw (p, result_set, has-at j (some k) p q)
  set-label Difference none none p q = rw (p, result_set)
  set-label Difference none (some k) p q = rw (p, result_set)
  set-label Difference (some j) none p q = rw (p, result_set, has-at j none p q)
  set-label Difference (some j) (some k) p q = rw (p, result_set, has-at j (some k) p q)

pub decided-is : (by : Pointwise) (a b : Row) → Ready (operation_of (kind_of by) a b) → (t : ℤ)
    → decided_label by (meant a t) (meant b t) (anchored b t) ≡ result (operation_of (kind_of by) a b) t
unfolding result
decided-is Anchor a b h t = refl
decided-is (ByLabels s) a b h t = set-label a b h.valid.1 h.aligned t s (meant a t) (meant b t) refl refl

-- ---- the last label of b

module _ (b : Row) (v : Valid b) (t : ℤ) where
  pub later-is : (last : ℤ) → last ≡ anchored b (t -ℤ pos 1) → later_label last (meant b t) ≡ anchored b t
  later-is last e = by (meant b t) refl
    where
      by : (y : Option ℤ) → meant b t ≡ y → later_label last y ≡ anchored b t
      by none q = e ∙ sym (anchored-skips b t v q)
      by (some k) q = sym (anchored-here b t k v q)

  -- up to t it is that before t + 1
  pub anchored-next : anchored b t ≡ anchored b (t +ℤ pos 1 -ℤ pos 1)
  anchored-next = ap (anchored b) (simp ints (omega arith))

-- ---- the operands

pub sound-both : (by : Pointwise) (a b : Row) → SoundFirst (operands (kind_of by)) a b → (sound a ≡ true) × (sound b ≡ true)
sound-both Anchor a b h = h
sound-both (ByLabels s) a b h = h
