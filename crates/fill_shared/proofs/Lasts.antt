-- The label of the last labelled instant of a row up to an instant.
-- Assumes nothing.
use mathlib.Core.Path.{◌≡◌, sym, ◌∙◌, ap}
use mathlib.Core.Logic.{◌⊎◌, inl, inr}
use mathlib.Core.Option.{Option, none, some}
use mathlib.Core.List.{map}
use Prim.Native.Nat.{ℕ, zero, suc}
use native.Mathlib.Omega.{arith}
use lib.IntN.{ℤ, pos, ◌+ℤ◌, ◌-ℤ◌}
use lib.Signed.{◌≤ℤ◌, ◌<ℤ◌, ≤ℤ_refl}
use Rattle.integers.proofs.Linear.{ints, ◌∴◌}
use Rattle.integers.proofs.Order.{≤ℤ-antisym, le-or-lt, Cases, cases}
use Rattle.integers.proofs.Order.Cases.{below, equal, above}
use Rattle.calendar.specs.Meaning.{Row, Calendar, meant}
use Rattle.calendar.specs.Lists.{from, last, distinct}
use Rattle.calendar.specs.Compute.{anchored}
use Rattle.granules.specs.Valid.{Valid}
use Rattle.granules.proofs.Tests.{none≢some, none_or_some}
use Rattle.granules.proofs.Lists.{mem-from, rising-from, last-greatest, distinct-lists}
use Rattle.granules.proofs.Calendars.{labelled-near}
use Rattle.granules.proofs.Rows.{meant-repeats}

-- no instant behind u has a label, up to t
abbrev pub Bare : Calendar → ℤ → ℤ → Type 0
Bare c u t = (v : ℤ) → u <ℤ v → v ≤ℤ t → c v ≡ none

-- a labelled instant up to t is not behind the last one
pub not_behind : (c : Calendar) (u t w i : ℤ) → Bare c u t → w ≤ℤ t → c w ≡ some i → w ≤ℤ u
not_behind c u t w i bare h e = by (le-or-lt w u)
  where
    by : (w ≤ℤ u) ⊎ (u <ℤ w) → w ≤ℤ u
    by (inl l) = l
    by (inr l) = absurd (none≢some (sym (bare w l h) ∙ e))

-- one more instant with no label
pub bare-more : (c : Calendar) (u s t : ℤ) → s ≡ t -ℤ pos 1 → c t ≡ none → Bare c u s → Bare c u t
bare-more c u s t step e bare v l h = by (cases v t)
  where
    by : Cases v t → c v ≡ none
    by (below p) = bare v l (p ∴ step ∴ simp ints (omega arith))
    by (equal p) = ap c p ∙ e
    by (above p) = absurd (p ∴ h ∴ simp ints (omega arith))

before-next : (u t : ℤ) → u ≤ℤ (t -ℤ pos 1) → u ≤ℤ t
before-next = simp ints (omega arith)

-- the last labelled instant up to t
abbrev Last : Calendar → ℤ → Type 0
Last c t = (u : ℤ) × (j : ℤ) × (u ≤ℤ t) × (c u ≡ some j) × Bare c u t

-- there is one, where t or one of the n instants before it has a label
last-labelled : (c : Calendar) (n : ℕ) (t w i : ℤ) → (t -ℤ pos n) ≤ℤ w → w ≤ℤ t → c w ≡ some i → Last c t
last-labelled c zero t w i lo hi e = (t, i, ≤ℤ_refl t, ap c (≤ℤ-antisym (lo ∴ simp ints (omega arith)) hi) ∙ e, λ v l h. absurd (l ∴ h ∴ simp ints (omega arith)))
last-labelled c (suc n) t w i lo hi e = by (none_or_some (c t)) (λ l. last-labelled c n (t -ℤ pos 1) w i (lo ∴ simp ints (omega arith)) l e)
  where
    before : c t ≡ none → Cases w t → w ≤ℤ (t -ℤ pos 1)
    before f (below p) = p ∴ simp ints (omega arith)
    before f (equal p) = absurd (none≢some (sym f ∙ ap c (sym p) ∙ e))
    before f (above p) = absurd (p ∴ hi ∴ simp ints (omega arith))

    by : (c t ≡ none) ⊎ ((j : ℤ) × (c t ≡ some j)) → (w ≤ℤ (t -ℤ pos 1) → Last c (t -ℤ pos 1)) → Last c t
    by (inl f) ih =
        let l = ih (before f (cases w t)) in
        (l.0, l.1, before-next l.0 t l.2, l.3, bare-more c l.0 (t -ℤ pos 1) t (simp ints (omega arith)) f l.4)
    by (inr (j, f)) ih = (t, j, ≤ℤ_refl t, f, λ v l h. absurd (l ∴ h ∴ simp ints (omega arith)))

-- the window of P + 1 instants that ends with t
in_window : (t u w : ℤ) (P : ℕ) → (t -ℤ pos P) ≤ℤ w → w ≤ℤ u → u ≤ℤ t → ((t -ℤ pos P) ≤ℤ u) × (u <ℤ (t -ℤ pos P +ℤ pos (suc P)))
in_window = simp ints (omega arith)

window-end : (t u : ℤ) (P : ℕ) → u <ℤ (t -ℤ pos P +ℤ pos (suc P)) → u ≤ℤ t
window-end = simp ints (omega arith)

module _ (r : Row) (t : ℤ) (v : Valid r) where
  -- one of the instants t − P to t − 1 has a label
  pub near : (w : ℤ) × (i : ℤ) × ((t -ℤ pos r.period) ≤ℤ w) × (w <ℤ (t -ℤ pos r.period +ℤ pos r.period)) × (meant r w ≡ some i)
  near = labelled-near (meant r) r.period r.distance (meant-repeats r v.positive.0) v.positive.0 v.label v.labelled (t -ℤ pos r.period)

  pub near_before : near.0 ≤ℤ t
  near_before = near.3 ∴ simp ints (omega arith)

  -- `anchored` is the label of the last labelled instant
  pub anchored-last : (u j : ℤ) → u ≤ℤ t → meant r u ≡ some j → Bare (meant r) u t → anchored r t ≡ j
  unfolding anchored
  anchored-last u j h e bare =
      let s = t -ℤ pos r.period in
      let n = suc r.period in
      let d = distinct-lists (meant r) v.ordered (from s n) (rising-from s n) in
      let l = distinct (map (meant r) (from s n)) in
      let low = not_behind (meant r) u t near.0 near.1 bare near_before near.4 in
      let m = (d.member j).0 (u, (mem-from u s n).1 (in_window t u near.0 r.period near.2 low h), e) in
      let g = last-greatest j l d.rising m in
      let w = (d.member (last l)).1 g.0 in
      let k = not_behind (meant r) u t w.0 (last l) bare (window-end t w.0 r.period ((mem-from w.0 s n).0 w.1).1) w.2 in
      ≤ℤ-antisym (v.ordered w.0 u (last l) j k w.2 e) g.1

pub anchored-label : (r : Row) (t : ℤ) → Valid r → (u : ℤ) × (u ≤ℤ t) × (meant r u ≡ some (anchored r t)) × ((v : ℤ) → u <ℤ v → v ≤ℤ t → meant r v ≡ none)
anchored-label r t v =
    let n = near r t v in
    let l = last-labelled (meant r) r.period t n.0 n.1 n.2 (near_before r t v) n.4 in
    (l.0, l.2, l.3 ∙ ap {B = Option ℤ} some (sym (anchored-last r t v l.0 l.1 l.2 l.3 l.4)), l.4)

pub anchored-here : (r : Row) (t j : ℤ) → Valid r → meant r t ≡ some j → anchored r t ≡ j
anchored-here r t j v e = anchored-last r t v t j (≤ℤ_refl t) e (λ w l h. absurd (l ∴ h ∴ simp ints (omega arith)))

pub anchored-skips : (r : Row) (t : ℤ) → Valid r → meant r t ≡ none → anchored r t ≡ anchored r (t -ℤ pos 1)
anchored-skips r t v e =
    let s = t -ℤ pos 1 in
    let l = anchored-label r s v in
    anchored-last r t v l.0 (anchored r s) (before-next l.0 t l.1) l.2 (bare-more (meant r) l.0 s t (simp ints (omega arith)) e l.3)
