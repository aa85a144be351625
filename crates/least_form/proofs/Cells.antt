-- One cell repeats another with a rise: the two cases of the machine's test. Tests along a list.
-- Assumes nothing.
use mathlib.Core.Path.{◌≡◌, sym, ◌∙◌, ap, ap₂}
use mathlib.Core.Logic.{◌↔◌, ◌⊎◌, inl, inr}
use mathlib.Core.Option.{Option, none, some}
use mathlib.Core.Bool.{Bool, true}
use mathlib.Core.List.{List}
use Prim.Native.Nat.{ℕ, suc, ◌+◌, ◌-◌, ◌≤◌, ◌<◌}
use native.Mathlib.Decide.{dec_le}
use native.Mathlib.Omega.{arith}
use lib.ListN.{length, get_or}
use lib.Dec.{eqb}
use lib.IntN.{ℤ, pos, neg_ℤ, ◌+ℤ◌}
use lib.Signed.{◌≤ℤ◌, le_z}
use mir.Syntax.{w32}
use mir.Val.{SFits, of_z}
use Rattle.integers.proofs.Linear.{ints, ◌∴◌}
use Rattle.integers.proofs.Machine.{test-eq}
use Rattle.calendar.specs.Limits.{label_limit, in_range}
use Rattle.calendar.specs.Meaning.{label_of, raise, empty}
use Rattle.calendar.specs.Lists.{same_label}
use Rattle.calendar.specs.Sound.{labels_of, sound}
use Rattle.calendar.specs.Questions.{given}
use Rattle.granules.proofs.Tests.{test-ext, and-iff, eqb-iff, le_z-iff, same_label-iff}
use Rattle.granules.proofs.Lists.{all-iff, get_d_any}
use Rattle.granules.proofs.Rows.{label_is, mem-labels}
use Rattle.granules.proofs.Sound.{sound-limits}
use Rattle.granules.proofs.Equal.{cell-cases, label-full, label_of-inj}
use Rattle.least_form.specs.Cells.{Low, RepeatsAt, RepeatsFrom, RepeatsWithin, RegularAt, FirstOther}

-- what repeats an empty cell is empty
pub raised-empty : (a b n : ℤ) → a ≡ empty → (label_of b ≡ raise n (label_of a)) ↔ (b ≡ empty)
raised-empty a b n e = (λ h. label_of-inj b empty (h ∙ none-a), λ h. ap label_of h ∙ sym none-a)
  where
    none-a : raise n (label_of a) ≡ none
    none-a = ap (λ (z : ℤ). raise n (label_of z)) e

-- what repeats a label is the label plus the rise, which is not the empty cell: that is below all others
pub raised-label : (a b n : ℤ) → SFits w32 a → (a ≡ empty → ⊥) → pos 0 ≤ℤ n → (label_of b ≡ raise n (label_of a)) ↔ (b ≡ a +ℤ n)
raised-label a b n fits f h = (λ e. label_is b (a +ℤ n) (e ∙ some-a), λ e. label-full b (full e) ∙ ap {B = Option ℤ} some e ∙ sym some-a)
  where
    some-a : raise n (label_of a) ≡ some (a +ℤ n)
    some-a = ap (raise n) (label-full a f)

    full : b ≡ a +ℤ n → b ≡ empty → ⊥
    full e g = f (e ∴ g ∴ h ∴ fits ∴ simp ints (omega arith))

-- the machine compares the bits of b with those of the one cell d that repeats a
pub raised-test : (a b n d : ℤ) (due : ℕ) → SFits w32 b → SFits w32 d → due ≡ of_z w32 d → (label_of b ≡ raise n (label_of a)) ↔ (b ≡ d)
    → eqb (of_z w32 b) due ≡ same_label (label_of b) (raise n (label_of a))
raised-test a b n d due fb fd e iff =
    let label = same_label-iff (label_of b) (raise n (label_of a)) in
    let bits = eqb-iff (of_z w32 b) (of_z w32 d) in
    let test = test-eq w32 b d fb fd in
    ap (eqb (of_z w32 b)) e ∙ test-ext (λ p. label.1 (iff.1 (test.0 (bits.0 p)))) (λ p. bits.1 (test.1 (iff.0 (label.0 p))))

-- ---- along a list

-- a test of two cells that were read
pub cell-test : (l : List ℤ) (t q : ℕ) (n : ℤ) (b : Bool) → t + q < length l
    → b ≡ same_label (label_of (get_or l (t + q) (pos 0))) (raise n (label_of (get_or l t (pos 0)))) → (b ≡ true) ↔ RepeatsAt l q n t
cell-test l t q n b h f = (λ p. iff.0 (sym same ∙ p), λ p. same ∙ iff.1 p)
  where
    iff : (same_label (label_of (get_or l (t + q) empty)) (raise n (label_of (get_or l t empty))) ≡ true) ↔ RepeatsAt l q n t
    iff = same_label-iff (label_of (get_or l (t + q) empty)) (raise n (label_of (get_or l t empty)))

    same : b ≡ same_label (label_of (get_or l (t + q) empty)) (raise n (label_of (get_or l t empty)))
    same =
        f
        ∙ ap₂ (λ (y z : ℤ). same_label (label_of y) (raise n (label_of z)))
        (get_d_any l (t + q) (pos 0) empty h)
        (get_d_any l t (pos 0) empty (omega arith))

-- what holds below t, and from t up to `end`
pub joined : (P : ℕ → Type 0) (t end : ℕ) → ((k : ℕ) → k < t → P k) → ((k : ℕ) → k < end → t ≤ k → P k) → (k : ℕ) → k < end → P k
joined P t end f g k h = by (dec_le t k)
  where
    by : Dec (t ≤ k) → P k
    by (yes l) = g k h l
    by (no l) = f k (omega arith)

-- the first of the cells that are not repeated is before the end, where not all are
pub first-less : (cells : List ℤ) (q : ℕ) (n : ℤ) (start end r : ℕ) → FirstOther cells q n start end r
    → ¬ RepeatsFrom cells q n start end → r < end
first-less cells q n start end r h f = by (dec_le (suc r) end)
  where
    by : Dec (r < end) → r < end
    by (yes l) = l
    by (no l) = absurd (f λ t k m. h.before t (omega arith) m)

-- a pass over all cells with one q behind comes to its end exactly if they all are repeated
pub first-end : (cells : List ℤ) (q : ℕ) (n : ℤ) (r : ℕ) → q ≤ length cells → FirstOther cells q n 0 (length cells - q) r
    → (r + q ≡ length cells) ↔ RepeatsWithin cells q n
first-end cells q n r above h = (λ e t l. h.before t (omega arith) (omega arith), λ f. by f (dec_le (length cells) (r + q)))
  where
    by : RepeatsWithin cells q n → Dec (length cells ≤ r + q) → r + q ≡ length cells
    by f (yes l) = omega (arith, h.within)
    by f (no l) = absurd (h.other (omega arith) (f r (omega arith)))

-- where all are, each cell is regular
pub all-regular : (cells : List ℤ) (q : ℕ) (n : ℤ) (w : ℕ) → RepeatsWithin cells q n → RegularAt cells q n w
all-regular cells q n w h = record { before = λ l m. h (w - q) (omega arith); behind = h w }

-- the cells of a sound row are at most the limit of labels
pub low : (period distance : ℤ) (cells : List ℤ) → sound (given period distance cells) ≡ true → Low cells
low period distance cells s t = by (cell-cases (get_or cells t empty))
  where
    z : ℤ
    z = get_or cells t empty

    by : ((label_of z ≡ none) × (z ≡ empty)) ⊎ (label_of z ≡ some z) → z ≤ℤ label_limit
    by (inl e) = rw e.1 (simp ints (omega arith))
    by (inr e) =
        let l = sound-limits (given period distance cells) s in
        let r = (all-iff in_range (labels_of cells)).0 l.2 z (mem-labels cells t z e) in
        (le_z-iff z label_limit).0 ((and-iff (le_z (neg_ℤ label_limit) z) (le_z z label_limit)).0 r).1
