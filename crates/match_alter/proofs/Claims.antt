-- A fine granule by the label of a claimed row: D fine granules before it has the label of the result, and that of the granule is n higher.
-- Assumes nothing.
use mathlib.Core.Path.{◌≡◌, sym, ◌∙◌, subst₂}
use mathlib.Core.Option.{some}
use mathlib.Core.Bool.{false}
use Prim.Native.Nat.{ℕ}
use native.Mathlib.Omega.{arith}
use lib.IntN.{ℤ, pos, ◌+ℤ◌, ◌-ℤ◌}
use lib.Signed.{◌≤ℤ◌}
use Rattle.integers.proofs.Linear.{ints, ◌∴◌}
use Rattle.calendar.specs.Meaning.{Row, meant}
use Rattle.calendar.specs.Compute.{result}
use Rattle.calendar.specs.Checks.{unlabelled}
use Rattle.granules.proofs.Tests.{false-iff}
use Rattle.algebra.proofs.Right.{right}
use Rattle.algebra.proofs.Working.{unlabelled-iff}
use Rattle.cursors.specs.Cursor.{cursor_at}
use Rattle.kinds.specs.declared.Alteration.{Alteration}
use Rattle.alter_granules.specs.declared.Repeat.{Repeat}
use Rattle.alter_granules.specs.declared.ahead.Walk.{Walk}
use Rattle.alter_granules.specs.declared.behind.Instant.{Instant}
use Rattle.alter_granules.specs.Given.{altering, Alterable}
use Rattle.alter_granules.specs.Follows.{Holds, Follows}
use Rattle.alter_granules.proofs.Tiled.{altered-iff, holds-turn, holds-some}
use Rattle.alter_granules.proofs.Followed.{follows-place}
use Rattle.fill_alter.proofs.Scans.{Found, both, label_of}

module _ (by : Alteration) (repeat : Repeat) (a b : Row) (g : Alterable by repeat a b) where
  -- an instant that is labelled in a gets the altered granule of its label
  pub labelled_by : (t j : ℤ) → meant a t ≡ some j → (i : ℤ) × (result (altering by a b) t ≡ some i)
  labelled_by t j e =
      let h = holds-some by a b (repeat, g) j in
      (h.0, sym (label_of by a b t (some j) e) ∙ (altered-iff by a b (repeat, g) j h.0).1 h.1)

  pub some-labelled : unlabelled (altering by a b) ≡ false
  some-labelled =
      let v = g.ready.valid.0 in
      let t = v.labelled.0 in
      let e = labelled_by t v.label v.labelled.1 in
      let r = right (altering by a b) g.ready in
      (false-iff (unlabelled-iff (altering by a b) r)).1 (λ n. n (t, e.0, (r.labels t e.0).0 e.1))

  -- the label D before decides
  claim-holds : (u j i : ℤ) → meant a u ≡ some (j -ℤ repeat.fine) → result (altering by a b) u ≡ some i → Holds by a b j (i +ℤ repeat.coarse)
  claim-holds u j i e f =
      let d = j -ℤ repeat.fine in
      let h = (altered-iff by a b (repeat, g) d i).0 (label_of by a b u (some d) e ∙ f) in
      subst₂ (Holds by a b) (g.fine ∴ simp ints (omega arith)) (g.coarse ∴ simp ints (omega arith)) (holds-turn by a b (repeat, g) d i h)

  pub found-claim : (t : ℕ) (walk : Walk) (behind : Instant) (j : ℤ) → Follows by repeat a b t (both walk behind) → meant a (pos t) ≡ some j → walk.end ≤ℤ j
      → (p : Instant) → p.cursor ≡ cursor_at a (pos p.index) → meant a (pos p.index) ≡ some (j -ℤ repeat.fine)
      → (i : ℤ) → result (altering by a b) (pos p.index) ≡ some i → Found by repeat a b t j walk p (i +ℤ repeat.coarse) j
  found-claim t walk behind j s e past p c l i f =
      let x = claim-holds (pos p.index) j i l f in
      record {
        follows = follows-place by repeat a b g t (both walk behind) s j e past p c l;
        numbers = λ k q r. (altered-iff by a b (repeat, g) k (i +ℤ repeat.coarse)).1 (x.0 ∴ q ∴ simp ints (omega arith), x.1 ∴ r ∴ simp ints (omega arith));
        reaches = simp ints (omega arith);
      }
