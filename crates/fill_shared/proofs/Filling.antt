-- A loop that fills a working row, for any kind: what holds before the instant t, what its step is given, and what holds after it.
-- Assumes nothing.
use Rattle.calendar.specs.declared.Refusal.TheVariants.{NothingLabelled, LabelOutsideLimits}
use Rattle.calendar.specs.declared.Refusal.{Refusal}
use Rattle.std.specs.Prelude.{Err, Ok, Result, ⊤}
use mathlib.Core.Path.{◌≡◌, refl, sym, ◌∙◌, ap, subst}
use mathlib.Core.Option.{Option, none, some}
use mathlib.Core.Bool.{Bool, true, false, cond, ◌||◌}
use mathlib.Core.List.{List, ◌++◌}
use Prim.Native.Nat.{ℕ, ◌+◌, ◌-◌, ◌^◌, ◌≤◌, ◌<◌}
use native.Mathlib.Omega.{arith}
use lib.IntN.{ℤ, pos}
use lib.Signed.{◌<ℤ◌}
use lib.ListN.{length, set, take, drop, length-drop}
use lib.Seq.{length-take-le}
use mir.Syntax.{w64}
use mir.Val.{to_z, of_z}
use mir.ValLaws.{to_z_pos}
use Rattle.integers.proofs.Linear.{ints}
use Rattle.calendar.specs.Meaning.{Row}
use Rattle.calendar.specs.Operation.{Operation}
use Rattle.calendar.specs.Lists.{is_some, if_label}
use Rattle.calendar.specs.Distance.{size}
use Rattle.calendar.specs.Compute.{result, working, cell_of}
use Rattle.calendar.specs.Checks.{labels_in_range}
use Rattle.calendar.specs.Limits.{in_range, pool_limit}
use Rattle.calendar.specs.Questions.{given}
use Rattle.granules.proofs.Tests.{true≢false}
use Rattle.kinds.specs.declared.Kind.{Kind}
use Rattle.kinds.specs.declared.Operand.{Operand}
use Rattle.kinds.specs.Operations.{operation_of, operands}
use Rattle.kinds.specs.Stands.{end, row_in}
use Rattle.fill_shared.specs.Fillable.{Fillable, Written}
use Rattle.fill_shared.specs.Placed.{Placed, filled_as, Fills}
use Rattle.fill_shared.proofs.Cells.{same_rows, part-kept}
use Rattle.fill_shared.proofs.Single.{fillable-twice, operation-over}
use Rattle.fill_shared.proofs.Working.{Writes, writes-none, writes-length, writes-before, new_is, writes-written, writes_more, writes-all, writes-labelled, writes-unlabelled, out_of_range, filled-out}

-- the cells of a row, from the first to the one behind the last, with its period and its distance
pub record Lent : Type 0 where
  pub start : ℕ
  pub end : ℕ
  pub period : ℤ
  pub distance : ℤ

abbrev pub row_of : Lent → List ℤ → Row
row_of a pool = given a.period a.distance (take (a.end - a.start) (drop a.start pool))

-- what a loop is given: the kind, the rows, and room for the working row behind them
pub record Lends (k : Kind) (a b : Lent) (at period : ℕ) (old : List ℤ) : Type 0 where
  pub is-fillable : Fillable k (row_of a old) (row_of b old)
  pub a-start : a.start ≤ a.end
  pub b-start : b.start ≤ b.end
  pub a-end : a.end ≤ at
  pub b_end : b.end ≤ at
  pub room : at + period ≤ length old
  pub few : length old ≤ pool_limit
  pub is-period : period ≡ (size (operation_of k (row_of a old) (row_of b old))).period

-- what holds before the instant t
pub record Filling (k : Kind) (a b : Lent) (at period : ℕ) (old new : List ℤ) (labelled : Bool) (t : ℕ) : Type 0 where
  pub lends : Lends k a b at period old
  pub writes : Writes (operation_of k (row_of a old) (row_of b old)) at old new labelled t

module _ (k : Kind) (a b : Lent) (at period : ℕ) (old : List ℤ) where
  abbrev o : Operation Row
  o = operation_of k (row_of a old) (row_of b old)

  room_of : Lends k a b at period old → at + (size o).period ≤ length old
  room_of l = omega (arith, l.room, l.is-period)

  pub first-filling : Lends k a b at period old → Filling k a b at period old old false 0
  first-filling l = record { lends = l; writes = writes-none o at old (room_of l) }

  module _ (new : List ℤ) (labelled : Bool) (t : ℕ) (h : Filling k a b at period old new labelled t) where
    r : at + (size o).period ≤ length old
    r = room_of h.lends

    pub filling-length : length new ≡ length old
    filling-length = writes-length o at old r new labelled t h.writes

    row_kept : (x : Lent) → x.start ≤ x.end → x.end ≤ at → row_of x new ≡ row_of x old
    row_kept x f e =
        ap (λ (l : List ℤ). row_of x l) (new_is o at old r new labelled t h.writes)
        ∙ ap (given x.period x.distance) (part-kept old (take t (working o).cells ++ drop (at + t) old) at x.start x.end (omega (arith, h.lends.room)) f e)

    -- the rows stand as they stood
    pub a-kept : row_of a new ≡ row_of a old
    a-kept = row_kept a h.lends.a-start h.lends.a-end

    pub b-kept : row_of b new ≡ row_of b old
    b-kept = row_kept b h.lends.b-start h.lends.b_end

    pub rows-kept : (P : Row → Row → Type 0) → P (row_of a old) (row_of b old) → P (row_of a new) (row_of b new)
    rows-kept P p = same_rows P (sym a-kept) (sym b-kept) p

    pub rows-stood : (P : Row → Row → Type 0) → P (row_of a new) (row_of b new) → P (row_of a old) (row_of b old)
    rows-stood P p = same_rows P a-kept b-kept p

    -- the parts that are lent lie in the pool
    pub filling-ends : (a.end ≤ length new) × (b.end ≤ length new)
    filling-ends = let e = filling-length in let l = h.lends in (omega (arith, l.a-end, l.room), omega (arith, l.b_end, l.room))

    module _ (m : t < period) where
      before-end : t < (size o).period
      before-end = omega (arith, h.lends.is-period)

      -- the cell of the instant is one of the pool
      pub filling-index : (at + t < length new) × (length new ≤ pool_limit)
      filling-index = let e = filling-length in (omega (arith, h.lends.room), omega (arith, h.lends.few))

      -- the instant as an `i64`
      pub filling-instant : to_z w64 t ≡ pos t
      filling-instant = let q : t < 2 ^ 63 = omega (arith, h.lends.room, h.lends.few) in to_z_pos w64 t q

      pub filling-below : pos t <ℤ pos pool_limit
      filling-below = let q : t < pool_limit = omega (arith, h.lends.room, h.lends.few) in simp ints (omega arith)

      pub still-fillable : Fillable k (row_of a new) (row_of b new)
      still-fillable = rows-kept (Fillable k) h.lends.is-fillable

      -- the cells of the instants before
      pub filling-written : Written (operation_of k (row_of a new) (row_of b new)) (take t (drop at new)) × (length (take t (drop at new)) ≡ t)
      filling-written =
          let e = filling-length in
          let f : t ≤ length (drop at new) = simp length-drop (omega (arith, h.lends.room)) in
          (rows-kept (λ x y. Written (operation_of k x y) (take t (drop at new))) (writes-written o at old r new labelled t h.writes h.lends.few), length-take-le t (drop at new) f)

      -- the instant has the label l
      module _ (l : Option ℤ) (e : l ≡ result o (pos t)) where
        pub filling-more : (pool : List ℤ) (now : Bool) → if_label l in_range ≡ true → pool ≡ set new (at + t) (cell_of l) → now ≡ is_some l || labelled → Filling k a b at period old pool now (t + 1)
        filling-more pool now i p q = record {
          lends = h.lends;
          writes = rw (p, q) (writes_more o at old r new labelled t h.writes l before-end e i);
        }

        outside : (x : Option ℤ) → x ≡ result o (pos t) → if_label x in_range ≡ false → ((Err LabelOutsideLimits) ≡ filled_as o) × (labels_in_range o ≡ false)
        outside none y i = absurd (true≢false refl i)
        outside (some j) y i = (filled-out o t before-end j y i, out_of_range o t before-end j y i)

        pub filling-out : (pool : List ℤ) → pool ≡ new → if_label l in_range ≡ false → Fills o at period old pool (Err LabelOutsideLimits)
        filling-out pool q i = let y = outside l e i in record {
          answer = y.0;
          lengths = ap length q ∙ filling-length;
          before = ap (take at) q ∙ writes-before o at old r new labelled t h.writes;
          row = λ z. absurd (true≢false z y.1);
        }

    module _ (m : period ≤ t) where
      done : (size o).period ≤ t
      done = omega (arith, h.lends.is-period)

      answer : (f : Bool) → f ≡ labelled → cond f (Ok tt) (Err NothingLabelled) ≡ filled_as o
      answer true e = writes-labelled o at old r new labelled t h.writes done (sym e)
      answer false e = writes-unlabelled o at old r new labelled t h.writes done (sym e)

      pub filling-done : Fills o at period old new (cond labelled (Ok tt) (Err NothingLabelled))
      filling-done = record {
        answer = answer labelled refl;
        lengths = filling-length;
        before = writes-before o at old r new labelled t h.writes;
        row = λ z. writes-all o at old r new labelled t h.writes done
            ∙ ap (λ (n : ℕ). take at old ++ ((working o).cells ++ drop (at + n) old)) (sym h.lends.is-period);
      }

-- ---- a loop over operands of a pool; k is the kind that k' is to the machine

abbrev pub lent_as : ℕ → ℕ → ℤ → ℤ → Lent
lent_as s e p n = record { start = s; end = e; period = p; distance = n }

abbrev pub lent_of : Operand → ℕ → Lent
lent_of a e = lent_as a.start e (to_z w64 (of_z w64 a.period)) (to_z w64 (of_z w64 a.distance))

module _ (k k' : Kind) (q : k ≡ k') (a b : Operand) (span : ℤ) (at period : ℕ) (pool : List ℤ) (e : ℕ) (is-end : e ≡ end a) (a-is : row_of (lent_of a e) pool ≡ row_in pool a) where
  -- with two operands
  module _ (f : ℕ) (is-end-2 : f ≡ end b) (b-is : row_of (lent_of b f) pool ≡ row_in pool b) where
    pub first_two : Fillable k' (row_in pool a) (row_in pool b) → Placed k' a b span at period pool → Filling k (lent_of a e) (lent_of b f) at period pool pool false 0
    first_two g p =
        let x = same_rows (λ y z. Fillable k y z × (period ≡ (size (operation_of k y z)).period)) (sym a-is) (sym b-is)
        (subst (λ (m : Kind). Fillable m (row_in pool a) (row_in pool b)) (sym q) g, p.is-period ∙ ap (λ (m : Kind). (size (operation_of m (row_in pool a) (row_in pool b))).period) (sym q)) in
        first-filling k (lent_of a e) (lent_of b f) at period pool
        record {
          is-fillable = x.0;
          a-start = omega (arith, is-end);
          b-start = omega (arith, is-end-2);
          a-end = omega (arith, is-end, p.a-end);
          b_end = omega (arith, is-end-2, p.b_end);
          room = p.room;
          few = p.at-most;
          is-period = x.1;
        }

    pub fills_two : (new : List ℤ) (r : Result ⊤ Refusal) → Fills (operation_of k (row_of (lent_of a e) pool) (row_of (lent_of b f) pool)) at period pool new r
        → Fills (operation_of k' (row_in pool a) (row_in pool b)) at period pool new r
    fills_two new r h =
        subst (λ (m : Kind). Fills (operation_of m (row_in pool a) (row_in pool b)) at period pool new r) q
        (same_rows (λ y z. Fills (operation_of k y z) at period pool new r) a-is b-is h)

  -- with one
  module _ (one : operands k ≡ 1) where
    pub first_one : Fillable k' (row_in pool a) (row_in pool b) → Placed k' a b span at period pool → Filling k (lent_of a e) (lent_of a e) at period pool pool false 0
    first_one g p =
        let A = row_in pool a in
        let B = row_in pool b in
        let x = same_rows (λ y z. Fillable k y z × (period ≡ (size (operation_of k y z)).period)) (sym a-is) (sym a-is) (
          fillable-twice k A B one (subst (λ (m : Kind). Fillable m A B) (sym q) g),
          p.is-period ∙ ap (λ (m : Kind). (size (operation_of m A B)).period) (sym q) ∙ ap (λ (m : Operation Row). (size m).period) (sym (operation-over k A B one)),
        ) in
        first-filling k (lent_of a e) (lent_of a e) at period pool
        record {
          is-fillable = x.0;
          a-start = omega (arith, is-end);
          b-start = omega (arith, is-end);
          a-end = omega (arith, is-end, p.a-end);
          b_end = omega (arith, is-end, p.a-end);
          room = p.room;
          few = p.at-most;
          is-period = x.1;
        }

    pub fills_one : (new : List ℤ) (r : Result ⊤ Refusal) → Fills (operation_of k (row_of (lent_of a e) pool) (row_of (lent_of a e) pool)) at period pool new r
        → Fills (operation_of k' (row_in pool a) (row_in pool b)) at period pool new r
    fills_one new r h =
        subst (λ (m : Kind). Fills (operation_of m (row_in pool a) (row_in pool b)) at period pool new r) q
        (subst (λ (m : Operation Row). Fills m at period pool new r) (operation-over k (row_in pool a) (row_in pool b) one)
        (same_rows (λ y z. Fills (operation_of k y z) at period pool new r) a-is a-is h))
