-- A selection from a row of one cell, as it stands in a pool: what its loop is given.
-- Assumes nothing.
use Rattle.calendar.specs.declared.Refusal.{Refusal}
use Rattle.std.specs.Prelude.{Result, ⊤}
use mathlib.Core.Path.{◌≡◌, refl, sym, ◌∙◌, ap, ap₂, subst}
use mathlib.Core.Option.{some}
use mathlib.Core.Bool.{true, false}
use mathlib.Core.List.{List}
use Prim.Native.Nat.{ℕ, ◌+◌, ◌-◌, ◌≤◌, ◌<◌}
use native.Mathlib.Nat.{le_of_dvd}
use native.Mathlib.Omega.{arith}
use lib.IntN.{ℤ, pos, ◌+ℤ◌}
use lib.ListN.{length, get_or, take, drop}
use Rattle.integers.specs.Parts.{up}
use Rattle.integers.proofs.Divisors.{lcm-dvd}
use Rattle.calendar.specs.Limits.{in_range}
use Rattle.calendar.specs.Meaning.{Row, empty}
use Rattle.calendar.specs.Sound.{sound}
use Rattle.calendar.specs.Size.{turn, span_of, working_period}
use Rattle.calendar.specs.Distance.{size}
use Rattle.calendar.specs.Questions.{given}
use Rattle.granules.proofs.Sound.{sound-valid}
use Rattle.algebra.proofs.Span.{span-positive}
use Rattle.cursors.proofs.Numbers.{numbers}
use Rattle.cursors.proofs.Bounds.{in-range}
use Rattle.alignment.specs.Pass.{Whole}
use Rattle.one_cell.specs.Serves.{Serves}
use Rattle.one_cell.proofs.Labels.{distance-one, one-range, one-meant}
use Rattle.one_cell.proofs.Pools.{first-in, span-first}
use Rattle.kinds.specs.declared.Operand.{Operand}
use Rattle.kinds.specs.declared.Selection.{Selection}
use Rattle.kinds.specs.declared.Kind.TheVariants.{Select}
use Rattle.kinds.specs.Operations.{operation_of}
use Rattle.kinds.specs.Stands.{end, row_in}
use Rattle.fill_shared.specs.Fillable.{Fillable}
use Rattle.fill_shared.specs.Placed.{Placed, over, Fills}
use Rattle.fill_shared.proofs.Cells.{same_rows}
use Rattle.fill_shared.proofs.Filling.{Lent, Lends, Filling, row_of, lent_of, first-filling}
use Rattle.fill_by_granule.proofs.Rounds.{Ground}

-- the row of one cell that stands at `start`
abbrev pub one_lent : ℕ → Lent
one_lent start = record { start = start; end = start + 1; period = pos 1; distance = pos 1 }

working-span : (by : Selection) (a b : Row) → (size (operation_of (Select by) a b)).period ≡ span_of (turn a) (turn b)
unfolding size working_period
working-span by a b = refl

span-over : (a b : Row) → 1 ≤ span_of (turn a) (turn b) → b.period ≤ span_of (turn a) (turn b)
unfolding span_of
span-over a b h = le_of_dvd h (lcm-dvd a.period b.period).1

module _ (by : Selection) (a b : Operand) (span : ℤ) (at period : ℕ) (pool : List ℤ)
    (g : Fillable (Select by) (row_in pool a) (row_in pool b)) (p : Placed (Select by) a b span at period pool)
    (o : Serves a.period (get_or pool a.start (pos 0)) period) (w : Whole (row_in pool b))
    (e : ℕ) (is-end : e ≡ end b) (b-is : row_of (lent_of b e) pool ≡ row_in pool b) where
  abbrev A : Row
  A = row_in pool a

  abbrev B : Row
  B = row_in pool b

  abbrev c : ℤ
  c = get_or pool a.start (pos 0)

  abbrev a-cells : List ℤ
  a-cells = take (up a.period) (drop a.start pool)

  a_one : up a.period ≡ 1
  a_one = ap up o.one

  pub start-in : a.start < length pool
  start-in = omega (arith, a_one, p.a-end, p.room)

  a_distance : a.distance ≡ pos 1
  a_distance = (numbers a.period a.distance a-cells g.sounds.0).distance_is ∙ ap pos (distance-one a.period a.distance a-cells g.sounds.0 o.one)

  a-is : row_of (one_lent a.start) pool ≡ A
  a-is =
      let n : a.start + 1 - a.start ≡ up a.period = omega (arith, a_one) in
      ap (λ (n : ℕ). given (pos 1) (pos 1) (take n (drop a.start pool))) n
      ∙ ap₂ (λ (x y : ℤ). given x y a-cells) (sym o.one) (sym a_distance)

  first-is : get_or a-cells 0 empty ≡ c
  first-is = first-in pool a.start (up a.period) (omega (arith, a_one)) start-in

  pub range : in_range c ≡ true
  range = subst (λ (z : ℤ). in_range z ≡ true) first-is (one-range a.period a.distance a-cells g.sounds.0 o.one)

  b-low : 1 ≤ up b.period
  b-low = (sound-valid B g.sounds.1).positive.0

  -- the working row is a turn of b
  pub b-long : up b.period ≡ period
  b-long =
      let va = sound-valid A g.sounds.0 in
      let vb = sound-valid B g.sounds.1 in
      let s = p.is-period ∙ working-span by A B in
      let l = span-first A B a_one b-low in
      let k = span-over A B (span-positive A B va vb) in
      omega arith

  ground : Ground by A B c period
  ground = record {
    a-valid = sound-valid A g.sounds.0;
    b-valid = sound-valid B g.sounds.1;
    whole = w;
    own = λ t. one-meant a.period a.distance a-cells g.sounds.0 o.one t ∙ ap (λ (z : ℤ). some (z +ℤ t)) first-is;
    label = (in-range c).0 range;
    labels = o.labels;
    long = b-long;
  }

  lends : Lends (Select by) (one_lent a.start) (lent_of b e) at period pool
  lends =
      let x = same_rows (λ y z. Fillable (Select by) y z × (period ≡ (size (operation_of (Select by) y z)).period)) (sym a-is) (sym b-is) (g, p.is-period) in
      record {
        is-fillable = x.0;
        a-start = omega arith;
        b-start = omega (arith, is-end);
        a-end = omega (arith, p.a-end, a_one);
        b_end = omega (arith, is-end, p.b_end);
        room = p.room;
        few = p.at-most;
        is-period = x.1;
      }

  -- ---- what the loop is given, over the rows that are lent

  pub stood-ground : Ground by (row_of (one_lent a.start) pool) (row_of (lent_of b e) pool) c period
  stood-ground = same_rows (λ y z. Ground by y z c period) (sym a-is) (sym b-is) ground

  pub stood-first : Filling (Select by) (one_lent a.start) (lent_of b e) at period pool pool false 0
  stood-first = first-filling (Select by) (one_lent a.start) (lent_of b e) at period pool lends

  pub stood-sound : sound (row_of (lent_of b e) pool) ≡ true
  stood-sound = subst (λ (r : Row). sound r ≡ true) (sym b-is) g.sounds.1

  pub stood-fills : (new : List ℤ) (r : Result ⊤ Refusal) → Fills (operation_of (Select by) (row_of (one_lent a.start) pool) (row_of (lent_of b e) pool)) at period pool new r
      → Fills (over (Select by) pool a b) at period pool new r
  stood-fills new r h = same_rows (λ y z. Fills (operation_of (Select by) y z) at period pool new r) a-is b-is h
