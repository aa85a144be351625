-- A stretch along a row of one cell.
-- Assumes nothing.
use mathlib.Core.Path.{◌≡◌, refl, sym, ◌∙◌, ap, ap₂, subst}
use mathlib.Core.Option.{Option, some}
use mathlib.Core.Bool.{true}
use mathlib.Core.List.{List}
use Prim.Native.Nat.{ℕ, zero, suc, ◌+◌, ◌-◌, ◌≤◌, ◌<◌}
use native.Mathlib.Omega.{arith}
use lib.IntN.{ℤ, pos, ◌+ℤ◌, ◌-ℤ◌}
use lib.Signed.{◌≤ℤ◌, ◌<ℤ◌}
use lib.ListN.{length, replicate, set, get_or, take, drop, length-drop}
use lib.Seq.{paste, paste-zero, get_or-take, get_or-drop, length-take-le}
use Rattle.std.proofs.Common.{add-one}
use Rattle.std.proofs.lemmas.List.Edits.{fill_from_more}
use Rattle.integers.proofs.Linear.{ints, ◌∴◌}
use Rattle.calendar.specs.Limits.{in_range}
use Rattle.calendar.specs.Meaning.{Row, meant, empty}
use Rattle.granules.proofs.Tests.{some_inj}
use Rattle.cursors.proofs.Cells.{get_d_any}
use Rattle.one_cell.proofs.Labels.{one-length, one-range, one-cursor, one-meant}
use Rattle.fill_stretches.specs.declared.Reached.{Reached}
use Rattle.fill_stretches.specs.Stretch.{cell_where, row_from, stretched, written, Room, Ends, Stretched}

-- ---- the cells that are written

module _ (c : ℤ) (k : ℕ) (pool : List ℤ) where
  -- they are n copies of c
  pub written-paste : (n : ℕ) → k + n ≤ length pool → written c k n pool ≡ paste pool k (replicate n c) n
  written-paste zero h = paste-zero pool k (replicate 0 c)
  written-paste (suc n) h = ap (λ (l : List ℤ). set l (k + n) c) (written-paste n (omega arith)) ∙ (rw (add-one n) at (fill_from_more pool k n c (omega arith)))

-- where every instant has a label, all cells of a stretch are alike
stretched-written : (c : ℤ) (r : Row) (label : ℕ → ℤ) → ((u : ℕ) → meant r (pos u) ≡ some (label u))
    → (at t n : ℕ) (pool : List ℤ) → written c (at + t) n pool ≡ stretched c r at t n pool
stretched-written c r label f at t zero pool = refl
stretched-written c r label f at t (suc n) pool =
    let y : at + t + n ≡ at + (t + n) = omega arith in
    ap₂ (λ (l : List ℤ) (m : ℕ). set l m c) (stretched-written c r label f at t n pool) y
    ∙ ap (λ (x : Option ℤ). set (stretched c r at t n pool) (at + (t + n)) (cell_where c x)) (sym (f (t + n)))

-- ---- a stretch

-- where h is the label of an instant from t on, before `size`, the stretch ends behind that instant
pub ends-between : (c h : ℤ) (t size e : ℕ) → (c +ℤ pos t) ≤ℤ h → h <ℤ (c +ℤ pos size) → pos e ≡ h -ℤ c +ℤ pos 1
    → Ends c h t size e
ends-between c h t size e i j q = record {
  on = i ∴ q ∴ simp ints (omega arith);
  in-room = j ∴ q ∴ simp ints (omega arith);
  below = λ u k m. m ∴ q ∴ simp ints (omega arith);
  stops = λ k. q ∴ simp ints (omega arith);
}

module _ (start end : ℕ) (period distance : ℤ) (at size : ℕ) (pool : List ℤ)
    (f : Room start end period distance at size pool) (one : period ≡ pos 1) where
  abbrev row_of : Row
  row_of = row_from start end period distance pool

  abbrev cells : List ℤ
  cells = take (end - start) (drop start pool)

  -- the row's only cell
  abbrev first : ℤ
  first = get_or pool start (pos 0)

  ends_next : end ≡ start + 1
  ends_next =
      let l : length (drop start pool) ≡ length pool - start = length-drop start pool in
      let k = length-take-le (end - start) (drop start pool) (omega (arith, f.ends, f.room)) in
      omega (arith, f.starts, one-length period distance cells f.is-sound one)

  pub first-index : start < length pool
  first-index = omega (arith, ends_next, f.ends, f.room)

  first-is : get_or cells 0 empty ≡ first
  first-is =
      get_or-take (end - start) (drop start pool) 0 empty (omega (arith, ends_next))
      ∙ get_or-drop start pool 0 empty
      ∙ ap (λ (m : ℕ). get_or pool m empty) {x = start + 0} {y = start} (omega arith)
      ∙ get_d_any pool start empty (pos 0) first-index

  pub first_range : in_range first ≡ true
  first_range = subst (λ (z : ℤ). in_range z ≡ true) first-is (one-range period distance cells f.is-sound one)

  label_of : (u : ℕ) → meant row_of (pos u) ≡ some (first +ℤ pos u)
  label_of u = one-meant period distance cells f.is-sound one (pos u) ∙ ap (λ (z : ℤ). some (z +ℤ pos u)) first-is

  pub one-stretched : (c h : ℤ) (p : Reached) (e : ℕ) (new : List ℤ) → Ends first h p.t size e
      → new ≡ written c (at + p.t) (at + e - (at + p.t)) pool
      → Stretched c h row_of at size pool p (record { t = e; cursor = record { index = pos 0; rise = pos e } }) new
  one-stretched c h p e new x w = record {
    follows = record { in-room = x.in-room; cursor = one-cursor period distance cells f.is-sound one (pos e) };
    on = x.on;
    cells =
        let y : at + e - (at + p.t) ≡ e - p.t = omega arith in
        w
        ∙ ap (λ (n : ℕ). written c (at + p.t) n pool) y
        ∙ stretched-written c row_of (λ u. first +ℤ pos u) label_of at p.t (e - p.t) pool;
    below = λ u l i j q. subst (λ (z : ℤ). z ≤ℤ h) (some_inj (sym (label_of u) ∙ q)) (x.below u i j);
    stops = λ m. (first +ℤ pos e, label_of e, x.stops m);
  }
