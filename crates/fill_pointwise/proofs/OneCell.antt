-- A set operation one of whose operands has one cell: the label of an instant, by the cell of the other.
-- Assumes nothing.
use Rattle.calendar.specs.declared.Refusal.TheVariants.{NothingLabelled}
use Rattle.calendar.specs.declared.Refusal.{Refusal}
use Rattle.std.specs.Prelude.{Err, Ok, Result, ⊤}
use mathlib.Core.Path.{◌≡◌, refl, sym, ◌∙◌, ap, ap₂, subst}
use mathlib.Core.Option.{Option, none, some}
use mathlib.Core.Bool.{Bool, true, cond}
use mathlib.Core.List.{List}
use Prim.Native.Nat.{ℕ, ◌+◌, ◌-◌, ◌≤◌, ◌<◌}
use native.Mathlib.Omega.{arith}
use lib.Dec.{ltb}
use lib.IntN.{ℤ, pos, ◌+ℤ◌}
use lib.ListN.{length, get_or, take, drop}
use Rattle.integers.specs.Parts.{up}
use Rattle.calendar.specs.Limits.{in_range}
use Rattle.calendar.specs.Meaning.{Row, meant, label_of, empty}
use Rattle.calendar.specs.Lists.{only}
use Rattle.calendar.specs.Size.{turn, span_of, working_period}
use Rattle.calendar.specs.Distance.{size}
use Rattle.calendar.specs.Compute.{result}
use Rattle.calendar.specs.Questions.{given}
use Rattle.granules.proofs.Rows.{meant-cell}
use Rattle.cursors.proofs.Numbers.{numbers}
use Rattle.cursors.proofs.Bounds.{in-range}
use Rattle.one_cell.specs.Serves.{Serves}
use Rattle.one_cell.proofs.Labels.{one-range, one-meant}
use Rattle.one_cell.proofs.Pools.{cell_in, first-in, span-first, span_second}
use Rattle.kinds.specs.declared.Operand.{Operand}
use Rattle.kinds.specs.declared.SetOperation.{SetOperation}
use Rattle.kinds.specs.declared.SetOperation.TheVariants.{Union, Intersection, Difference}
use Rattle.kinds.specs.declared.Kind.TheVariants.{ByLabels}
use Rattle.kinds.specs.Operations.{operation_of}
use Rattle.kinds.specs.Stands.{end, row_in}
use Rattle.fill_shared.specs.Fillable.{Fillable}
use Rattle.fill_shared.specs.Placed.{Placed, over, Fills}
use Rattle.fill_shared.proofs.Cells.{same_rows}
use Rattle.fill_shared.proofs.Filling.{Lent, Lends, row_of, first-filling, filling-done}
use Rattle.fill_pointwise.specs.declared.Pointwise.TheVariants as Pointwise
use Rattle.fill_pointwise.specs.Decided.{set_label}
use Rattle.fill_pointwise.specs.Beside.{keeps_shared, keeps_first, keeps_second, kept_by, kept_at, kept_cells, kept_count, BesideRoom}
use Rattle.fill_pointwise.proofs.Labels.{decided-is}
use Rattle.fill_pointwise.proofs.Kept.{kept-filling}

-- ---- the label of an instant that has one in one of the rows

first-kept : (s : SetOperation) (j : ℤ) (y : Option ℤ) → set_label s (some j) y ≡ only j (kept_by (keeps_first s) (keeps_shared s) y)
first-kept Union j y = by y
  where
    by : (y : Option ℤ) → some j ≡ only j (kept_by true true y)
    by none = refl
    by (some k) = refl
first-kept Intersection j none = refl
first-kept Intersection j (some k) = refl
first-kept Difference j none = refl
first-kept Difference j (some k) = refl

second-kept : (s : SetOperation) (x : Option ℤ) (k : ℤ) → ((j : ℤ) → x ≡ some j → j ≡ k) → set_label s x (some k) ≡ only k (kept_by (keeps_second s) (keeps_shared s) x)
second-kept Union none k h = refl
second-kept Union (some j) k h = ap some (h j refl)
second-kept Intersection none k h = refl
second-kept Intersection (some j) k h = ap some (h j refl)
second-kept Difference none k h = refl
second-kept Difference (some j) k h = refl

-- ---- the rows, as they stand in the pool

-- the cells of an operand
abbrev cells_of : List ℤ → Operand → List ℤ
cells_of pool r = take (up r.period) (drop r.start pool)

working-span : (s : SetOperation) (a b : Row) → (size (operation_of (ByLabels s) a b)).period ≡ span_of (turn a) (turn b)
unfolding size working_period
working-span s a b = refl

-- the operand `own` has one cell, and the cells of the operand `other` tell whether its labels are kept
pub record Tells (set : SetOperation) (a b : Operand) (at period : ℕ) (pool : List ℤ) (own other : Operand) (bare : Bool) : Type 0 where
  pub inside : own.start < length pool
  pub range : in_range (get_or pool own.start (pos 0)) ≡ true
  pub stands : other.start + period ≤ at
  pub is : (t : ℕ) → t < period
      → result (over (ByLabels set) pool a b) (pos t) ≡ only (get_or pool own.start (pos 0) +ℤ pos t) (kept_at bare (keeps_shared set) other.start pool t)

module _ (set : SetOperation) (a b : Operand) (span : ℤ) (at period : ℕ) (pool : List ℤ)
    (g : Fillable (ByLabels set) (row_in pool a) (row_in pool b)) (p : Placed (ByLabels set) a b span at period pool) where
  abbrev A : Row
  A = row_in pool a

  abbrev B : Row
  B = row_in pool b

  is-span : period ≡ span_of (turn A) (turn B)
  is-span = p.is-period ∙ working-span set A B

  -- a sound operand that stands before `at` has a first cell
  module _ (r : Operand) (low : 1 ≤ up r.period) (ends : end r ≤ at) where
    start-in : r.start < length pool
    start-in = omega (arith, p.room)

    first-is : get_or (cells_of pool r) 0 empty ≡ get_or pool r.start (pos 0)
    first-is = first-in pool r.start (up r.period) low start-in

  low-a : 1 ≤ up a.period
  low-a = let n = numbers a.period a.distance (cells_of pool a) g.sounds.0 in omega arith

  low-b : 1 ≤ up b.period
  low-b = let n = numbers b.period b.distance (cells_of pool b) g.sounds.1 in omega arith

  decided : (t : ℤ) → set_label set (meant A t) (meant B t) ≡ result (over (ByLabels set) pool a b) t
  decided t = decided-is (Pointwise.ByLabels set) A B g.ready t

  -- a has one cell
  module _ (one : a.period ≡ pos 1) where
    abbrev c : ℤ
    c = get_or pool a.start (pos 0)

    first-meant : (t : ℤ) → meant A t ≡ some (c +ℤ t)
    first-meant t = one-meant a.period a.distance (cells_of pool a) g.sounds.0 one t ∙ ap (λ (z : ℤ). some (z +ℤ t)) (first-is a low-a p.a-end)

    first-long : period ≤ up b.period
    first-long = omega (arith, is-span, span-first A B (ap up one) low-b)

    pub first-tells : Tells set a b at period pool a b (keeps_first set)
    first-tells = record {
      inside = start-in a low-a p.a-end;
      range = subst (λ (z : ℤ). in_range z ≡ true) (first-is a low-a p.a-end) (one-range a.period a.distance (cells_of pool a) g.sounds.0 one);
      stands = omega (arith, first-long, p.b_end);
      is = λ t h.
          let m : t < up b.period = omega (arith, first-long) in
          sym (decided (pos t))
          ∙ ap₂ (set_label set) (first-meant (pos t)) (meant-cell B t m ∙ ap label_of (cell_in pool b.start (up b.period) t m))
          ∙ first-kept set (c +ℤ pos t) (label_of (get_or pool (b.start + t) empty));
    }

  -- b has one cell
  module _ (one : b.period ≡ pos 1) where
    abbrev d : ℤ
    d = get_or pool b.start (pos 0)

    second-meant : (t : ℤ) → meant B t ≡ some (d +ℤ t)
    second-meant t = one-meant b.period b.distance (cells_of pool b) g.sounds.1 one t ∙ ap (λ (z : ℤ). some (z +ℤ t)) (first-is b low-b p.b_end)

    second-long : period ≤ up a.period
    second-long = omega (arith, is-span, span_second A B (ap up one) low-a)

    pub second-tells : Tells set a b at period pool b a (keeps_second set)
    second-tells = record {
      inside = start-in b low-b p.b_end;
      range = subst (λ (z : ℤ). in_range z ≡ true) (first-is b low-b p.b_end) (one-range b.period b.distance (cells_of pool b) g.sounds.1 one);
      stands = omega (arith, second-long, p.a-end);
      is = λ t h.
          let m : t < up a.period = omega (arith, second-long) in
          let x = meant-cell A t m ∙ ap label_of (cell_in pool a.start (up a.period) t m) in
          sym (decided (pos t))
          ∙ ap₂ (set_label set) x (second-meant (pos t))
          ∙ second-kept set (label_of (get_or pool (a.start + t) empty)) (d +ℤ pos t)
          (λ j e. g.ready.aligned.single (pos t) j (d +ℤ pos t) (x ∙ e) (second-meant (pos t)));
    }

  -- ---- the working row

  abbrev lent_in : Operand → Lent
  lent_in r = record { start = r.start; end = end r; period = r.period; distance = r.distance }

  row_is : (r : Operand) → row_of (lent_in r) pool ≡ row_in pool r
  row_is r =
      let n : end r - r.start ≡ up r.period = omega arith in
      ap (λ (n : ℕ). given r.period r.distance (take n (drop r.start pool))) n

  lends : Lends (ByLabels set) (lent_in a) (lent_in b) at period pool
  lends =
      let x = same_rows (λ y z. Fillable (ByLabels set) y z × (period ≡ (size (operation_of (ByLabels set) y z)).period)) (sym (row_is a)) (sym (row_is b)) (g, p.is-period) in
      record {
        is-fillable = x.0;
        a-start = omega arith;
        b-start = omega arith;
        a-end = p.a-end;
        b_end = p.b_end;
        room = p.room;
        few = p.at-most;
        is-period = x.1;
      }

  module _ (own other : Operand) (bare : Bool) (o : Serves own.period (get_or pool own.start (pos 0)) period) (h : Tells set a b at period pool own other bare) where
    abbrev first : ℤ
    first = get_or pool own.start (pos 0)

    pub beside-room : BesideRoom first other.start at period pool
    beside-room = record { label = (in-range first).0 h.range; labels = o.labels; stands = h.stands; room = p.room; few = p.at-most }

    pub beside-fills : (new : List ℤ) (r : Result ⊤ Refusal) → new ≡ kept_cells first bare (keeps_shared set) other.start at period pool
        → r ≡ cond (ltb 0 (kept_count bare (keeps_shared set) other.start period pool)) (Ok tt) (Err NothingLabelled) → Fills (over (ByLabels set) pool a b) at period pool new r
    beside-fills new r e f =
        let k = ByLabels set in
        let is : (t : ℕ) → t < period → result (operation_of k (row_of (lent_in a) pool) (row_of (lent_in b) pool)) (pos t) ≡ only (first +ℤ pos t) (kept_at bare (keeps_shared set) other.start pool t) =
        λ t m. same_rows (λ y z. result (operation_of k y z) (pos t) ≡ only (first +ℤ pos t) (kept_at bare (keeps_shared set) other.start pool t)) (sym (row_is a)) (sym (row_is b)) (h.is t m) in
        let w = kept-filling k (lent_in a) (lent_in b) at period pool (first-filling k (lent_in a) (lent_in b) at period pool lends)
        first bare (keeps_shared set) other.start ((in-range first).0 h.range) o.labels is period (omega arith) in
        let x = filling-done k (lent_in a) (lent_in b) at period pool _ _ period w (omega arith) in
        same_rows (λ y z. Fills (operation_of k y z) at period pool new r) (row_is a) (row_is b) (rw (e, f) x)
