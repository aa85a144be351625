-- Combine and select-up along a row of one cell: the working row is a's own turn, which a shift by 0 has too.
-- Assumes nothing.
use Rattle.calendar.specs.declared.Refusal.{Refusal}
use Rattle.std.specs.Prelude.{Result, ⊤}
use mathlib.Core.Path.{◌≡◌, refl, sym, ◌∙◌, ap, ap₂, subst, fun_ext}
use mathlib.Core.Option.{Option, none, some}
use mathlib.Core.Bool.{true, not}
use mathlib.Core.List.{List, map}
use Prim.Native.Nat.{ℕ, ◌≤◌}
use native.Mathlib.Nat.{le_of_dvd}
use native.Mathlib.Omega.{arith}
use lib.IntN.{ℤ, pos, ◌+ℤ◌}
use lib.ListN.{get_or}
use Rattle.integers.specs.Parts.{up}
use Rattle.integers.proofs.Linear.{ints, ◌∴◌}
use Rattle.integers.proofs.Order.{pos-up}
use Rattle.integers.proofs.Divisors.{lcm-dvd, lcm-pos}
use Rattle.calendar.specs.Meaning.{Row, Calendar, meant, raise, empty}
use Rattle.calendar.specs.Operation.{Operation}
use Rattle.calendar.specs.Lists.{all, any, from, is_some, if_label, on_label, only}
use Rattle.calendar.specs.Granules.{inside, meeting}
use Rattle.calendar.specs.Size as Size
use Rattle.calendar.specs.Size.{turn, span_of, working_period}
use Rattle.calendar.specs.Distance.{size}
use Rattle.calendar.specs.Compute.{result, working, cell_of}
use Rattle.calendar.specs.Checks.{unlabelled, labels_in_range}
use Rattle.calendar.specs.Limits.{in_range, pool_limit}
use Rattle.calendar.specs.Sound.{sound}
use Rattle.granules.specs.Valid.{Valid}
use Rattle.granules.proofs.Inside.{inside-iff, meeting-lists}
use Rattle.granules.proofs.Lists.{any-iff}
use Rattle.granules.proofs.Sound.{sound-valid}
use Rattle.granules.proofs.Tests.{some_inj}
use Rattle.one_cell.proofs.Labels.{one-meant}
use Rattle.one_cell.proofs.Pools.{span_second}
use Rattle.kinds.specs.declared.Operand.{Operand}
use Rattle.kinds.specs.declared.Kind.{Kind}
use Rattle.kinds.specs.declared.Kind.TheVariants.{Combine, Select, Shift}
use Rattle.kinds.specs.declared.Selection.TheVariants.{Up}
use Rattle.kinds.specs.Operations.{operation_of}
use Rattle.kinds.specs.Stands.{row_in}
use Rattle.fill_shared.specs.Fillable.{Fillable}
use Rattle.fill_shared.specs.Placed.{Placed, over, Fills}

-- ---- two operations that give each instant the same label, over working rows of one length

module _ (o s : Operation Row) (e : (size o).period ≡ (size s).period) (h : (t : ℤ) → result o t ≡ result s t) where
  same-unlabelled : unlabelled o ≡ unlabelled s
  unfolding unlabelled
  same-unlabelled = ap₂ (λ (f : Calendar) (n : ℕ). all (λ t. not (is_some (f t))) (from (pos 0) n)) (fun_ext h) e

  same-range : labels_in_range o ≡ labels_in_range s
  unfolding labels_in_range
  same-range = ap₂ (λ (f : Calendar) (n : ℕ). all (λ t. if_label (f t) in_range) (from (pos 0) n)) (fun_ext h) e

  same-cells : (working o).cells ≡ (working s).cells
  unfolding working
  same-cells = ap₂ (λ (f : Calendar) (n : ℕ). map (λ t. cell_of (f t)) (from (pos 0) n)) (fun_ext h) e

  same-fills : (at period : ℕ) (old new : List ℤ) (r : Result ⊤ Refusal) → Fills s at period old new r → Fills o at period old new r
  same-fills at period old new r f = record {
    answer = rw (same-unlabelled, same-range) f.answer;
    lengths = f.lengths;
    before = f.before;
    row = λ g. rw same-cells (f.row (sym same-range ∙ g));
  }

-- ---- operations that give each instant its label in a

-- the shift by 0 of a
abbrev own : Row → Row → Operation Row
own a b = operation_of (Shift (pos 0)) a b

pub record Owned (k : Kind) (a b : Row) : Type 0 where
  spanned : (size (operation_of k a b)).period ≡ span_of (turn a) (turn b)
  label : (t : ℤ) → result (operation_of k a b) t ≡ meant a t

module _ (a b : Row) (v : Valid a) (w : Valid b) (c : ℤ) (one : (t : ℤ) → meant b t ≡ some (c +ℤ t)) where
  -- b's granule of t has no other instant
  lies : (t i : ℤ) → meant a t ≡ some i → inside b (c +ℤ t) a i ≡ true
  lies t i e =
      (inside-iff b a w (c +ℤ t) i).1
      (λ u p. subst (λ (x : ℤ). meant a x ≡ some i) (some_inj (sym (one u) ∙ p) ∴ simp ints (omega arith)) e)

  combine-label : (t : ℤ) → result (operation_of Combine a b) t ≡ meant a t
  unfolding result
  combine-label t = ap (λ (o : Option ℤ). on_label o (λ k. on_label (meant a t) (λ i. only i (inside b k a i)))) (one t) ∙ go (meant a t) refl
    where
      go : (o : Option ℤ) → meant a t ≡ o → on_label o (λ i. only i (inside b (c +ℤ t) a i)) ≡ o
      go none e = refl
      go (some i) e = ap (only i) (lies t i e)

  combine-spanned : (size (operation_of Combine a b)).period ≡ span_of (turn a) (turn b)
  unfolding size working_period
  combine-spanned = refl

  combine-is : Owned Combine a b
  combine-is = record { spanned = combine-spanned; label = combine-label }

  up-label : (t : ℤ) → result (operation_of (Select Up) a b) t ≡ meant a t
  unfolding result
  up-label t = go (meant a t) refl
    where
      go : (o : Option ℤ) → meant a t ≡ o → on_label o (λ j. only j (any (λ k. inside b k a j) (meeting b a j))) ≡ o
      go none e = refl
      go (some j) e =
          ap (only j) ((any-iff (λ k. inside b k a j) (meeting b a j)).1 (c +ℤ t, ((meeting-lists b a w v j).member (c +ℤ t)).0 (t, one t, e), lies t j e))

  up-spanned : (size (operation_of (Select Up) a b)).period ≡ span_of (turn a) (turn b)
  unfolding size working_period
  up-spanned = refl

  up_is : Owned (Select Up) a b
  up_is = record { spanned = up-spanned; label = up-label }

own-label : (a b : Row) (t : ℤ) → result (own a b) t ≡ meant a t
unfolding result
own-label a b t = go (meant a t)
  where
    go : (o : Option ℤ) → raise (pos 0) o ≡ o
    go none = refl
    go (some i) = ap some (simp ints (omega arith))

own-period : (a b : Row) → 1 ≤ a.period → b.period ≡ 1 → span_of (turn a) (turn b) ≡ (size (own a b)).period
unfolding size working_period span_of
own-period a b l e =
    let low = le_of_dvd (lcm-pos a.period b.period l (omega arith)) (lcm-dvd a.period b.period).0 in
    omega (arith, low, span_second a b e l)

own-span : (a b : Row) → Size.span (operation_of (Shift (pos 0)) (turn a) (turn b)) ≡ a.period
unfolding Size.span
own-span a b = refl

-- ---- b has one cell

module _ (a b : Operand) (pool : List ℤ) (s : (sound (row_in pool a) ≡ true) × (sound (row_in pool b) ≡ true)) (one : b.period ≡ pos 1) where
  abbrev A : Row
  A = row_in pool a

  abbrev B : Row
  B = row_in pool b

  v : Valid A
  v = sound-valid A s.0

  w : Valid B
  w = sound-valid B s.1

  pub combine-owned : Owned Combine A B
  combine-owned = combine-is A B v w (get_or B.cells 0 empty) (one-meant b.period b.distance B.cells s.1 one)

  pub up-owned : Owned (Select Up) A B
  up-owned = up_is A B v w (get_or B.cells 0 empty) (one-meant b.period b.distance B.cells s.1 one)

  -- what the loop of shift is given, and what it leaves
  pub own-fillable : span_of (turn A) (turn B) ≤ pool_limit → Fillable (Shift (pos 0)) A B
  own-fillable few = record {
    numbers = (simp ints (omega arith), simp ints (omega arith));
    sounds = s;
    ready = record { valid = v; factor = tt; full = tt; aligned = tt; kept = λ e. e };
    at-most = few;
  }

  module _ (k : Kind) (span : ℤ) (at period : ℕ) (p : Placed k a b span at period pool) (o : Owned k A B) where
    period-is : (size (operation_of k A B)).period ≡ (size (own A B)).period
    period-is = o.spanned ∙ own-period A B v.positive.0 (ap up one)

    pub own-placed : Placed (Shift (pos 0)) a b a.period at period pool
    own-placed = record {
      a-period = p.a-period;
      b-period = p.b-period;
      a-end = p.a-end;
      b_end = p.b_end;
      room = p.room;
      at-most = p.at-most;
      is-span = sym (ap pos (own-span A B) ∙ pos-up p.a-period);
      is-period = p.is-period ∙ period-is;
    }

    pub own-fills : (new : List ℤ) (r : Result ⊤ Refusal) → Fills (over (Shift (pos 0)) pool a b) at period pool new r → Fills (over k pool a b) at period pool new r
    own-fills new r f =
        same-fills (operation_of k A B) (own A B) period-is (λ t. o.label t ∙ sym (own-label A B t)) at period pool new r f
