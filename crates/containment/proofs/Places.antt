-- The instant of a cursor, the place of an instant, and a step to the place of another.
-- Assumes nothing.
use mathlib.Core.Path.{◌≡◌, sym, ◌∙◌, ap, subst}
use mathlib.Core.Option.{some}
use Prim.Native.Nat.{◌^◌}
use native.Mathlib.Omega.{arith}
use lib.IntN.{ℤ, pos, neg_ℤ, ◌+ℤ◌, ◌*ℤ◌}
use lib.Signed.{◌≤ℤ◌}
use Rattle.integers.specs.Floor.{floor_div}
use Rattle.integers.proofs.Linear.{ints, ◌∴◌}
use Rattle.integers.proofs.Floor.{floor-eq, floor-unique}
use Rattle.calendar.specs.Meaning.{Row, meant}
use Rattle.granules.specs.Valid.{Valid}
use Rattle.cursors.specs.declared.Cursor.{Cursor}
use Rattle.cursors.specs.Found.{Near}
use Rattle.cursors.specs.Cursor.{cursor_at}
use Rattle.cursors.proofs.Cursors.{cursor-at}
use Rattle.containment.specs.declared.CursorPair.{CursorPair}
use Rattle.containment.specs.Places.{instant, at, Beside}
use Rattle.containment.specs.Sides.{Overlaps}

pub instant-is : (r : Row) → Valid r → (c : Cursor) (u : ℤ) → c ≡ cursor_at r u → instant r c ≡ u
unfolding instant
instant-is r v c u e =
    let a = cursor-at r c u e in
    let f = floor-unique r.distance v.positive.1 c.rise (floor_div u r.period) 0 (a.rise-is ∴ simp ints (omega arith)) v.positive.1 in
    ap (λ (z : ℤ). pos r.period *ℤ z +ℤ c.index) f.0
    ∙ ap (λ (z : ℤ). pos r.period *ℤ floor_div u r.period +ℤ z) a.index_is
    ∙ sym (floor-eq r.period v.positive.0 u)

pub overlaps : (b a : Row) → Valid b → (p : CursorPair) (t : ℤ) → neg_ℤ (pos (2 ^ 59)) ≤ℤ t → t ≤ℤ pos (2 ^ 59)
    → p.b ≡ cursor_at b t → meant b t ≡ some p.k → p.a ≡ cursor_at a t → meant a t ≡ some p.i → Overlaps b a p
overlaps b a v p t lo hi bc bl ac al =
    let e = sym (instant-is b v p.b t bc) in
    record {
      low = subst (λ (u : ℤ). neg_ℤ (pos (2 ^ 59)) ≤ℤ u) e lo;
      high = subst (λ (u : ℤ). u ≤ℤ pos (2 ^ 59)) e hi;
      b-cursor = bc ∙ ap (cursor_at b) e;
      b-label = ap (meant b) (sym e) ∙ bl;
      a-cursor = ac ∙ ap (cursor_at a) e;
      a-label = ap (meant a) (sym e) ∙ al;
    }

-- a step from the place p to the place q, of the instant u
pub record Moved (b a : Row) (p q : CursorPair) (u : ℤ) : Type 0 where
  pub b-cursor : q.b ≡ cursor_at b u
  pub a-cursor : q.a ≡ cursor_at a u
  pub k-kept : q.k ≡ p.k
  pub i-kept : q.i ≡ p.i

module _ (b a : Row) (v : Valid b) (p q : CursorPair) (u : ℤ) (m : Moved b a p q u) where
  pub moved_at : at b q ≡ u
  moved_at = instant-is b v q.b u m.b-cursor

  pub moved-b : q.b ≡ cursor_at b (at b q)
  moved-b = m.b-cursor ∙ ap (cursor_at b) (sym moved_at)

  pub moved-a : q.a ≡ cursor_at a (at b q)
  moved-a = m.a-cursor ∙ ap (cursor_at a) (sym moved_at)

  pub moved-beside : Near u → Beside b a q
  moved-beside n = record { near = subst Near (sym moved_at) n; b-cursor = moved-b; a-cursor = moved-a }
