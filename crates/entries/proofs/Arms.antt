-- The kind of an entry that passes checks 4, 5 and 6, by its number.
-- Assumes nothing.
use mathlib.Core.Path.{◌≡◌, refl, sym, ◌∙◌, ap, ap₂}
use mathlib.Core.Bool.{true}
use Prim.Native.Nat.{ℕ, zero, suc, ◌≤◌}
use native.Mathlib.Omega.{arith}
use lib.IntN.{ℤ, pos, negsuc}
use lib.Signed.{◌≤ℤ◌}
use mir.Syntax.{w32, w64}
use mir.Val.{SFits, of_z, to_z}
use mir.ValLaws.{to_z-of_z}
use Rattle.integers.specs.Parts.{up}
use Rattle.integers.proofs.Linear.{ints}
use Rattle.integers.proofs.Machine.{widened}
use Rattle.calendar.specs.Operation.{Operation}
use Rattle.calendar.specs.Operation.Unary.{group, shift, renumber}
use Rattle.calendar.specs.Operation.Selection.{select-down, select-intersecting}
use Rattle.calendar.specs.Operation.Binary.{alter, select}
use Rattle.calendar.specs.Operation.Operation.{unary, binary}
use Rattle.calendar.specs.Reply.Reply.{answer}
use Rattle.calendar.specs.Table.{named}
use Rattle.kinds.specs.declared.Pick.{Pick}
use Rattle.kinds.specs.declared.Selection.TheVariants.{Down, Up, Intersecting}
use Rattle.kinds.specs.declared.Alteration.{Alteration}
use Rattle.entries.specs.declared.Entry.{Entry}
use Rattle.entries.specs.Entries.{entry_of, kind_of}
use Rattle.kinds.specs.declared.SetOperation.TheVariants.{Union, Intersection, Difference}
use Rattle.kinds.specs.declared.Kind.TheVariants.{Bottom, Group, Shift, Alter, Combine, Anchor, Select, ByLabels, Renumber}
use Rattle.entries.specs.Naming.{KindOf}
use Rattle.entries.proofs.Passing.{factor-limits, label-limits, altering-limits, picking-limits, passed, passed-at}

-- ---- the number of a kind, by its bits

pub number_at : (z : ℤ) (n : ℕ) → SFits w32 z → to_z w32 n ≡ pos n → of_z w32 z ≡ n → z ≡ pos n
number_at z n f p e = sym (to_z-of_z w32 z f) ∙ ap (to_z w32) e ∙ p

-- a number of 32 bits, read back from 64
pub widened_is : (r x : ℤ) → SFits w32 x → r ≡ to_z w32 (of_z w32 x) → to_z w64 (of_z w64 r) ≡ x
widened_is r x f e = ap (λ (z : ℤ). to_z w64 (of_z w64 z)) (e ∙ to_z-of_z w32 x f) ∙ to_z-of_z w64 x (widened f)

-- the number that no other arm of the match takes
abbrev Not : ℤ → ℕ → Type 0
Not z n = ¬ (of_z w32 z ≡ n)

last-natural : (n : ℕ) → n ≤ 12 → Not (pos n) 0 → Not (pos n) 1 → Not (pos n) 2 → Not (pos n) 3 → Not (pos n) 4 → Not (pos n) 5
    → Not (pos n) 6 → Not (pos n) 7 → Not (pos n) 8 → Not (pos n) 9 → Not (pos n) 10 → Not (pos n) 11 → n ≡ 12
last-natural zero h a b c d e f g i j k l m = absurd (a refl)
last-natural (suc zero) h a b c d e f g i j k l m = absurd (b refl)
last-natural (suc (suc zero)) h a b c d e f g i j k l m = absurd (c refl)
last-natural (suc (suc (suc zero))) h a b c d e f g i j k l m = absurd (d refl)
last-natural (suc (suc (suc (suc zero)))) h a b c d e f g i j k l m = absurd (e refl)
last-natural (suc (suc (suc (suc (suc zero))))) h a b c d e f g i j k l m = absurd (f refl)
last-natural (suc (suc (suc (suc (suc (suc zero)))))) h a b c d e f g i j k l m = absurd (g refl)
last-natural (suc (suc (suc (suc (suc (suc (suc zero))))))) h a b c d e f g i j k l m = absurd (i refl)
last-natural (suc (suc (suc (suc (suc (suc (suc (suc zero)))))))) h a b c d e f g i j k l m = absurd (j refl)
last-natural (suc (suc (suc (suc (suc (suc (suc (suc (suc zero))))))))) h a b c d e f g i j k l m = absurd (k refl)
last-natural (suc (suc (suc (suc (suc (suc (suc (suc (suc (suc zero)))))))))) h a b c d e f g i j k l m = absurd (l refl)
last-natural (suc (suc (suc (suc (suc (suc (suc (suc (suc (suc (suc zero))))))))))) h a b c d e f g i j k l m = absurd (m refl)
last-natural (suc (suc (suc (suc (suc (suc (suc (suc (suc (suc (suc (suc zero)))))))))))) h a b c d e f g i j k l m = refl
last-natural (suc (suc (suc (suc (suc (suc (suc (suc (suc (suc (suc (suc (suc n))))))))))))) h a b c d e f g i j k l m = absurd (omega arith)

pub last-number : (z : ℤ) → pos 0 ≤ℤ z → z ≤ℤ pos 12 → Not z 0 → Not z 1 → Not z 2 → Not z 3 → Not z 4 → Not z 5
    → Not z 6 → Not z 7 → Not z 8 → Not z 9 → Not z 10 → Not z 11 → z ≡ pos 12
last-number (pos n) p q a b c d e f g i j k l m = ap pos (last-natural n (omega (arith, simp ints at q)) a b c d e f g i j k l m)
last-number (negsuc n) p q a b c d e f g i j k l m = absurd p.le

-- ---- each kind

module _ (k : ℕ) (e : Entry) (o : Operation ℕ) (h : named k (entry_of e) ≡ answer o) where
  at : (n : ℕ) → e.kind ≡ pos n → ((kind_of n).numbers (entry_of e) ≡ true) × ((kind_of n).operation (entry_of e) ≡ o)
  at n q = passed-at k (entry_of e) o n q (passed k (entry_of e) o h)

  pub bottom-kind : e.kind ≡ pos 0 → KindOf e o Bottom
  bottom-kind q = record { is = (at 0 q).1; numbers = tt }

  pub group-kind : (x : ℤ) → x ≡ e.x → e.kind ≡ pos 1 → KindOf e o (Group x)
  group-kind x p q = record {
    is = ap (λ (x : ℤ). unary (group (up x)) (up e.first)) p ∙ (at 1 q).1;
    numbers = rw p (factor-limits (entry_of e) (at 1 q).0);
  }

  pub shift-kind : (x : ℤ) → x ≡ e.x → e.kind ≡ pos 2 → KindOf e o (Shift x)
  shift-kind x p q = record {
    is = ap (λ (x : ℤ). unary (shift x) (up e.first)) p ∙ (at 2 q).1;
    numbers = rw p (label-limits (entry_of e) (at 2 q).0);
  }

  pub alter-kind : (w : Alteration) → w.x ≡ e.x → w.y ≡ e.y → w.z ≡ e.z → e.kind ≡ pos 3 → KindOf e o (Alter w)
  alter-kind w x y z q = record {
    is = ap₂ (λ (x y : ℤ). binary (alter (up x) (up y) w.z) (up e.first) (up e.second)) x y
        ∙ ap (λ (z : ℤ). binary (alter (up e.x) (up e.y) z) (up e.first) (up e.second)) z
        ∙ (at 3 q).1;
    numbers = altering-limits (entry_of e) w x y z (at 3 q).0;
  }

  pub combine-kind : e.kind ≡ pos 4 → KindOf e o Combine
  combine-kind q = record { is = (at 4 q).1; numbers = tt }

  pub anchor-kind : e.kind ≡ pos 5 → KindOf e o Anchor
  anchor-kind q = record { is = (at 5 q).1; numbers = tt }

  pub down-kind : (p : Pick) → p.x ≡ e.x → p.y ≡ e.y → e.kind ≡ pos 6 → KindOf e o (Select (Down p))
  down-kind p x y q = record {
    is = ap₂ (λ (x y : ℤ). binary (select (select-down x (up y))) (up e.first) (up e.second)) x y ∙ (at 6 q).1;
    numbers = picking-limits (entry_of e) p x y (at 6 q).0;
  }

  pub up-kind : e.kind ≡ pos 7 → KindOf e o (Select Up)
  up-kind q = record { is = (at 7 q).1; numbers = tt }

  pub intersecting-kind : (p : Pick) → p.x ≡ e.x → p.y ≡ e.y → e.kind ≡ pos 8 → KindOf e o (Select (Intersecting p))
  intersecting-kind p x y q = record {
    is = ap₂ (λ (x y : ℤ). binary (select (select-intersecting x (up y))) (up e.first) (up e.second)) x y ∙ (at 8 q).1;
    numbers = picking-limits (entry_of e) p x y (at 8 q).0;
  }

  pub union-kind : e.kind ≡ pos 9 → KindOf e o (ByLabels Union)
  union-kind q = record { is = (at 9 q).1; numbers = tt }

  pub intersection-kind : e.kind ≡ pos 10 → KindOf e o (ByLabels Intersection)
  intersection-kind q = record { is = (at 10 q).1; numbers = tt }

  pub difference-kind : e.kind ≡ pos 11 → KindOf e o (ByLabels Difference)
  difference-kind q = record { is = (at 11 q).1; numbers = tt }

  pub renumber-kind : (x : ℤ) → x ≡ e.x → e.kind ≡ pos 12 → KindOf e o (Renumber x)
  renumber-kind x p q = record {
    is = ap (λ (x : ℤ). unary (renumber x) (up e.first)) p ∙ (at 12 q).1;
    numbers = rw p (label-limits (entry_of e) (at 12 q).0);
  }
