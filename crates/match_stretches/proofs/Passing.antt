-- The instants of a stretch, one by one.
-- Assumes nothing.
use mathlib.Core.Path.{◌≡◌, refl, sym, ◌∙◌, ap, ap₂}
use mathlib.Core.Logic.{◌⊎◌, inl, inr, ⊎_map}
use mathlib.Core.Option.{Option, none, some}
use mathlib.Core.Bool.{Bool, true, false, ◌&&◌}
use Prim.Native.Nat.{ℕ, suc, ◌+◌, ◌-◌, ◌≤◌, ◌<◌}
use native.Mathlib.Omega.{arith}
use lib.IntN.{ℤ, pos, ◌+ℤ◌}
use lib.Signed.{◌≤ℤ◌, ◌<ℤ◌, le_z}
use Rattle.integers.proofs.Linear.{ints}
use Rattle.integers.proofs.Machine.{test-not-le}
use Rattle.calendar.specs.Meaning.{Row, meant}
use Rattle.calendar.specs.Lists.{on_label, if_label, same_label}
use Rattle.granules.proofs.Tests.{true≢false, ltb_iff, decided}
use Rattle.cursors.specs.declared.Cursor.{Cursor}
use Rattle.cursors.specs.Cursor.{cursor_at}
use Rattle.match_stretches.specs.declared.Compared.{Compared}
use Rattle.match_stretches.specs.Stretch.{same_along, Follows, Passed, Stretched, Led}

-- a label that is not at most h
pub not-at-most : (x : Option ℤ) (h : ℤ) → if_label x (λ j. le_z j h) ≡ false → (l : ℤ) × (x ≡ some l) × (h <ℤ l)
not-at-most none h e = absurd (true≢false refl e)
not-at-most (some j) h e = (j, refl, (test-not-le j h).0 e)

module _ (y : Option ℤ) (h : ℤ) (a r : Row) (size : ℕ) where
  -- no instant
  pub passed_none : (p : Compared) → Follows a r size p → Passed y h a r size p p
  passed_none p f = record {
    follows = f;
    on = omega arith;
    same = ap (same_along p.same y a r p.t) {x = 0} {y = p.t - p.t} (omega arith);
    below = λ u l i j. absurd (omega arith);
  }

  -- one instant more, with the label x in a and z in r
  pub passed-more : (p q : Compared) → Passed y h a r size p q → q.t < size → (x z : Option ℤ) → meant a (pos q.t) ≡ x → meant r (pos q.t) ≡ z → ((l : ℤ) → x ≡ some l → l ≤ℤ h)
      → (next claim : Cursor) → next ≡ cursor_at a (pos q.t +ℤ pos 1) → claim ≡ cursor_at r (pos q.t +ℤ pos 1) → (same : Bool) → same ≡ q.same && same_label z (on_label x (λ j. y))
      → Passed y h a r size p (record { t = q.t + 1; cursor = next; claim = claim; same = same })
  passed-more p q g m x z ex ez low next claim en ec same es =
      let t = q.t in
      let v : pos t +ℤ pos 1 ≡ pos (t + 1) = simp ints (omega arith) in
      let n : p.t + (t - p.t) ≡ t = omega (arith, g.on) in
      record {
        follows = record { in-room = omega arith; cursor = en ∙ ap (cursor_at a) v; claim = ec ∙ ap (cursor_at r) v };
        on = omega (arith, g.on);
        same =
            es
            ∙ ap₂ ◌&&◌ g.same (ap₂ (λ (z x : Option ℤ). same_label z (on_label x (λ j. y))) (sym ez) (sym ex))
            ∙ ap (λ (u : ℕ). same_along p.same y a r p.t (t - p.t) && same_label (meant r (pos u)) (on_label (meant a (pos u)) (λ j. y))) (sym n)
            ∙ ap (same_along p.same y a r p.t) {x = suc (t - p.t)} {y = t + 1 - p.t} (omega (arith, g.on));
        below = λ u l i j f. by u l i f (⊎_map (λ k. k) (λ k. omega arith) (decided (ltb_iff u t)));
      }
    where
      by : (u : ℕ) (l : ℤ) → p.t ≤ u → meant a (pos u) ≡ some l → (u < q.t) ⊎ (u ≡ q.t) → l ≤ℤ h
      by u l i f (inl j) = g.below u l i j f
      by u l i f (inr j) = low l (sym ex ∙ ap (λ (v : ℕ). meant a (pos v)) (sym j) ∙ f)

-- a stretch from the instant 0 on, in a row with no label up to h, has none
pub leads : {h : ℤ} {a r : Row} {size : ℕ} {p q : Compared} → Stretched none h a r size p q → p.t ≡ 0 → p.same ≡ true
    → ((u : ℕ) (l : ℤ) → u < size → meant a (pos u) ≡ some l → l ≤ℤ h → ⊥) → Led a r size q
leads {h} {a} {r} {size} {p} {q} x z s f = record {
  follows = x.passed.follows;
  same =
      let n : q.t - p.t ≡ q.t = omega (arith, z) in
      x.passed.same
      ∙ ap (λ (b : Bool). same_along b none a r p.t (q.t - p.t)) s
      ∙ ap₂ (same_along true none a r) z n;
  unlabelled = λ u i. by u i (meant a (pos u)) refl;
  stops = λ m. let y = x.stops m in (y.0, y.1);
}
  where
    by : (u : ℕ) → u < q.t → (o : Option ℤ) → meant a (pos u) ≡ o → meant a (pos u) ≡ none
    by u i none e = e
    by u i (some l) e = absurd (f u l (omega (arith, x.passed.follows.in-room)) e (x.passed.below u l (omega (arith, z)) i e))
