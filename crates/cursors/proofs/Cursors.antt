-- The cursor of an instant: its bounds, its steps and its label.
-- Assumes nothing.
use mathlib.Core.Path.{◌≡◌, sym, ◌∙◌, ap}
use mathlib.Core.List.{List}
use Prim.Native.Nat.{ℕ, ◌^◌, ◌≤◌, ◌<◌}
use native.Mathlib.Omega.{arith}
use lib.IntN.{ℤ, pos, neg_ℤ, ◌+ℤ◌, ◌-ℤ◌, ◌*ℤ◌, *ℤ_comm}
use lib.Signed.{◌≤ℤ◌, ◌<ℤ◌}
use lib.ListN.{get_or}
use mir.Syntax.{w64}
use mir.Val.{SFits}
use Rattle.integers.specs.Parts.{up}
use Rattle.integers.specs.Floor.{floor_div, floor_mod}
use Rattle.integers.proofs.Linear.{ints, ◌∴◌}
use Rattle.integers.proofs.Order.{pos-up}
use Rattle.integers.proofs.Floor.{floor-eq, floor-lt, floor-unique}
use Rattle.calendar.specs.Limits.{pool_limit}
use Rattle.calendar.specs.Meaning.{Row, meant, raise, label_of, empty}
use Rattle.calendar.specs.Questions.{given}
use Rattle.cursors.specs.declared.Cursor.{Cursor}
use Rattle.cursors.specs.Found.{Sound, Near}
use Rattle.cursors.specs.Cursor.{cursor_at, Standing}
use Rattle.cursors.proofs.Numbers.{Numbers, numbers, rise-bound}

pub cursor-eq : (i j y z : ℤ) → i ≡ j → y ≡ z → ◌≡◌ {A = Cursor} (record { index = i; rise = y }) (record { index = j; rise = z })
cursor-eq i j y z p q = λ k. record { index = p k; rise = q k }

-- a cursor, by its turn and cell
pub cursor-of : (r : Row) (u q i z : ℤ) (m : ℕ) → u ≡ pos r.period *ℤ q +ℤ pos m → m < r.period → i ≡ pos m → z ≡ pos r.distance *ℤ q
    → ◌≡◌ {A = Cursor} (record { index = i; rise = z }) (cursor_at r u)
unfolding cursor_at
cursor-of r u q i z m e h p s =
    let f = floor-unique r.period (omega arith) u q m e h in
    cursor-eq i (pos (floor_mod u r.period)) z (pos r.distance *ℤ floor_div u r.period) (p ∙ ap pos (sym f.1)) (s ∙ ap (λ (k : ℤ). pos r.distance *ℤ k) (sym f.0))

-- the fields of a cursor
pub record At (r : Row) (c : Cursor) (u : ℤ) : Type 0 where
  pub index_is : c.index ≡ pos (floor_mod u r.period)
  pub rise-is : c.rise ≡ pos r.distance *ℤ floor_div u r.period

pub cursor-at : (r : Row) (c : Cursor) (u : ℤ) → c ≡ cursor_at r u → At r c u
unfolding cursor_at
cursor-at r c u e = record { index_is = ap (λ (d : Cursor). d.index) e; rise-is = ap (λ (d : Cursor). d.rise) e }

-- the label of an instant is that of its cell, raised
pub cursor-meant : (r : Row) (c : Cursor) (u : ℤ) → c ≡ cursor_at r u → meant r u ≡ raise c.rise (label_of (get_or r.cells (up c.index) empty))
unfolding meant
cursor-meant r c u e =
    let a = cursor-at r c u e in
    ap (λ (z : ℤ). raise z (label_of (get_or r.cells (floor_mod u r.period) empty))) (sym a.rise-is)
    ∙ ap (λ (z : ℤ). raise c.rise (label_of (get_or r.cells (up z) empty))) (sym a.index_is)

-- where the numbers of a cursor are, if its instant is near: they fit, and so do those of a step
pub record Bounds (period distance : ℤ) (c : Cursor) : Type 0 where
  pub low : pos 0 ≤ℤ c.index
  pub high : c.index <ℤ period
  pub index-fits : SFits w64 c.index
  pub rise-low : neg_ℤ (pos (2 ^ 61)) ≤ℤ c.rise
  pub rise-high : c.rise ≤ℤ pos (2 ^ 61)
  pub rise-fits : SFits w64 c.rise
  pub more-fits : SFits w64 (c.rise +ℤ distance)
  pub less-fits : SFits w64 (c.rise -ℤ distance)

module _ (period distance : ℤ) (cells : List ℤ) (s : Sound period distance cells) where
  abbrev row : Row
  row = given period distance cells

  n : Numbers period distance cells
  n = numbers period distance cells s

  -- d turns and k instants on: a step is of one instant, in the same turn or into the one beside it
  pub cursor-moved : (c : Cursor) (u k d i z : ℤ) → c ≡ cursor_at row u → i ≡ c.index +ℤ k -ℤ period *ℤ d → z ≡ c.rise +ℤ distance *ℤ d
      → pos 0 ≤ℤ i → i <ℤ period → ◌≡◌ {A = Cursor} (record { index = i; rise = z }) (cursor_at row (u +ℤ k))
  cursor-moved c u k d i z e p q lo hi =
      let P = up period in
      let above : 0 < P = omega (arith, n.low, n.middle) in
      let a = cursor-at row c u e in
      cursor-of row (u +ℤ k) (floor_div u P +ℤ d) i z (up i)
      (floor-eq P above u ∴ a.index_is ∴ p ∴ pos-up lo ∴ ap (λ (z : ℤ). z *ℤ d) n.period-is ∴ simp ints (omega arith))
      (omega (arith, simp ints at (pos-up lo), simp ints at hi, simp ints at n.period-is))
      (sym (pos-up lo))
      (q ∴ a.rise-is ∴ ap (λ (z : ℤ). z *ℤ d) n.distance_is ∴ simp ints (omega arith))

  pub bounds : (c : Cursor) → Standing row c → Bounds period distance c
  bounds c (u, near, e) =
      let P = up period in
      let above : 0 < P = omega (arith, n.low, n.middle) in
      let a = cursor-at row c u e in
      let m = floor-lt P above u in
      let b = rise-bound P (up distance) (2 ^ 60) above n.middle u near.0 near.1 in
      let small : P ≤ pool_limit = n.high in
      let low : neg_ℤ (pos (2 ^ 61)) ≤ℤ c.rise = a.rise-is ∴ b ∴ simp ints (omega arith) in
      let high : c.rise ≤ℤ pos (2 ^ 61) = a.rise-is ∴ b ∴ simp ints (omega arith) in
      let few : up distance ≤ pool_limit = omega (arith, n.middle) in
      record {
        low = a.index_is ∴ simp ints (omega arith);
        high = a.index_is ∴ n.period-is ∴ m ∴ simp ints (omega arith);
        index-fits = a.index_is ∴ m ∴ simp ints (omega arith);
        rise-low = low;
        rise-high = high;
        rise-fits = low ∴ high ∴ simp ints (omega arith);
        more-fits = low ∴ high ∴ few ∴ n.distance_is ∴ simp ints (omega arith);
        less-fits = low ∴ high ∴ few ∴ n.distance_is ∴ simp ints (omega arith);
      }

  -- the numbers on the way from an instant to its cursor fit
  pub record Start (t : ℤ) : Type 0 where
    pub whole-fits : SFits w64 (floor_div t (up period) *ℤ period)
    pub cell-fits : SFits w64 (t -ℤ floor_div t (up period) *ℤ period)
    pub rise-fits : SFits w64 (floor_div t (up period) *ℤ distance)
    pub start : ◌≡◌ {A = Cursor} (record { index = t -ℤ floor_div t (up period) *ℤ period; rise = floor_div t (up period) *ℤ distance }) (cursor_at row t)

  pub starts : (t : ℤ) → Near t → Start t
  starts t near =
      let P = up period in
      let q = floor_div t P in
      let above : 0 < P = omega (arith, n.low, n.middle) in
      let e = floor-eq P above t in
      let m = floor-lt P above t in
      let small : P ≤ pool_limit = n.high in
      let p : q *ℤ period ≡ pos P *ℤ q = ap (λ (z : ℤ). q *ℤ z) n.period-is ∙ *ℤ_comm q (pos P) in
      let d : q *ℤ distance ≡ pos (up distance) *ℤ q = ap (λ (z : ℤ). q *ℤ z) n.distance_is ∙ *ℤ_comm q (pos (up distance)) in
      let b = rise-bound P (up distance) (2 ^ 60) above n.middle t near.0 near.1 in
      let i : t -ℤ q *ℤ period ≡ pos (floor_mod t P) = rw p (e ∴ simp ints (omega arith)) in
      record {
        whole-fits = rw p (e ∴ near ∴ m ∴ simp ints (omega arith));
        cell-fits = rw i (m ∴ simp ints (omega arith));
        rise-fits = rw d (b ∴ simp ints (omega arith));
        start = cursor-of row t q (t -ℤ q *ℤ period) (q *ℤ distance) (floor_mod t P) e m i d;
      }
