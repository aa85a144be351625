-- What a comparing loop over two rows of a pool is given, and the rows as they are lent to its calls.
-- Assumes nothing.
use mathlib.Core.Path.{◌≡◌, sym}
use mathlib.Core.Option.{some}
use mathlib.Core.Bool.{true}
use mathlib.Core.List.{List}
use Prim.Native.Nat.{ℕ, ◌-◌, ◌^◌, ◌≤◌, ◌<◌}
use native.Mathlib.Omega.{arith}
use lib.IntN.{ℤ, pos, ◌+ℤ◌}
use lib.Signed.{◌≤ℤ◌}
use mir.Syntax.{w64}
use mir.Val.{SFits, to_z, of_z}
use Rattle.integers.proofs.Linear.{ints, ◌∴◌}
use Rattle.integers.proofs.Machine.{plain}
use Rattle.calendar.specs.Limits.{pool_limit}
use Rattle.calendar.specs.Meaning.{Row, meant}
use Rattle.calendar.specs.Sound.{sound}
use Rattle.cursors.specs.Found.{Near}
use Rattle.cursors.specs.declared.Cursor.{Cursor}
use Rattle.cursors.specs.Cursor.{cursor_at, Standing}
use Rattle.kinds.specs.declared.Kind.{Kind}
use Rattle.kinds.specs.declared.Operand.{Operand}
use Rattle.kinds.specs.Stands.{row_in, Stands}
use Rattle.fill_shared.proofs.Cells.{same_rows}
use Rattle.fill_shared.proofs.Points.{label_small}
use Rattle.match_shared.specs.Claims.{Claimed}
use Rattle.match_shared.proofs.Lent.{lent_row}
use Rattle.match_stretches.specs.Stretch.{Room}
use Rattle.match_stretches.proofs.Rows.{lent_is}

-- ---- numbers

-- an instant, as a call is given it
pub instant-fits : {t : ℕ} → t ≤ pool_limit → SFits w64 (pos t)
instant-fits h = simp ints (omega arith)

pub instant-near : {t : ℕ} → t ≤ pool_limit → Near (to_z w64 (of_z w64 (pos t)))
instant-near {t} h = let n : t < 2 ^ 63 = omega arith in simp plain (simp ints (omega arith))

-- the label of an instant fits
pub label-fits : {pool : List ℤ} {a : Operand} {t : ℕ} {j : ℤ} → Stands pool a → t ≤ pool_limit → meant (row_in pool a) (pos t) ≡ some j → SFits w64 j
label-fits {pool} {a} {t} {j} s h e =
    label_small a.period a.distance (row_in pool a).cells s.is-sound (pos t) j (simp ints (omega arith)) (simp ints (omega arith)) e ∴ simp ints (omega arith)

-- a stride from the instant p to q: what is asked of the row x, and what is ensured
module _ {p q : ℕ} (on : p < q) (few : q ≤ pool_limit) where
  below : q - p < 2 ^ 63
  below = omega arith

  pub stride-fits : SFits w64 (pos (q - p))
  stride-fits = simp ints (omega arith)

  abbrev pub Stride : Cursor → Row → Type 0
  Stride c x = (sound x ≡ true) × (Standing x c × ((pos 0 ≤ℤ to_z w64 (of_z w64 (pos (q - p)))) × (to_z w64 (of_z w64 (pos (q - p))) ≤ℤ pos (2 ^ 32))))

  pub stride-asks : (c : Cursor) (x : Row) → sound x ≡ true → c ≡ cursor_at x (pos p) → Stride c x
  stride-asks c x s e = let n = below in simp plain (s, ((pos p, simp ints (omega arith), e), (simp ints (omega arith), simp ints (omega arith))))

  pub stride-gave : (c d : Cursor) (x : Row) → c ≡ cursor_at x (pos p) → ((u : ℤ) → c ≡ cursor_at x u → d ≡ cursor_at x (u +ℤ to_z w64 (of_z w64 (pos (q - p))))) → d ≡ cursor_at x (pos q)
  stride-gave c d x e f =
      let n = below in
      let g : pos p +ℤ pos (q - p) ≡ pos q = simp ints (omega arith) in
      rw g at ((simp plain at f) (pos p) e)

-- ---- the rows

module _ {k : Kind} {a b r : Operand} {span : ℤ} {period : ℕ} {pool : List ℤ} (s : (sound (row_in pool a) ≡ true) × (sound (row_in pool b) ≡ true)) (h : Claimed k a b r span period pool) where
  pub a-stands : Stands pool a
  a-stands = record { is-sound = s.0; fits = h.a-end }

  pub b-stands : Stands pool b
  b-stands = record { is-sound = s.1; fits = h.b_end }

  pub few : {t : ℕ} → t ≤ period → t ≤ pool_limit
  few i = omega (arith, h.room, h.at-most)

  -- a claimed row may be compared along one of them
  pub along-a : Room a r period pool
  along-a = record { followed = a-stands; claim = h.claim; few = h.at-most; in-room = omega (arith, h.room, h.at-most) }

  pub along-b : Room b r period pool
  along-b = record { followed = b-stands; claim = h.claim; few = h.at-most; in-room = omega (arith, h.room, h.at-most) }

  -- what holds of the rows holds of them as they are lent, and back
  module _ {c d : List ℤ} (p : c ≡ (row_in pool a).cells) (q : d ≡ (row_in pool b).cells) (P : Row → Row → Type 0) where
    pub lent : P (row_in pool a) (row_in pool b) → P (lent_row a c) (lent_row b d)
    lent x = same_rows P (sym (lent_is pool a a-stands c p)) (sym (lent_is pool b b-stands d q)) x

    pub stood : P (lent_row a c) (lent_row b d) → P (row_in pool a) (row_in pool b)
    stood x = same_rows P (lent_is pool a a-stands c p) (lent_is pool b b-stands d q) x
