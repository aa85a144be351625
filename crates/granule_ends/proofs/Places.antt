-- A walk back from an instant that counts the instants of its granule: where it stands, its steps and its end.
-- Assumes nothing.
use mathlib.Core.Path.{◌≡◌, refl, sym, ◌∙◌, ap}
use mathlib.Core.Logic.{⊎_elim}
use mathlib.Core.Option.{none, some}
use mathlib.Core.Bool.{true}
use mathlib.Core.List.Memᴰ
use mathlib.Core.List.{List, [], ◌∷◌, Memᴰ}
use Prim.Native.Nat.{ℕ, ◌+◌}
use native.Mathlib.Omega.{arith}
use lib.IntN.{ℤ, pos, ◌+ℤ◌, ◌-ℤ◌}
use lib.Signed.{◌≤ℤ◌}
use lib.ListN.{length}
use Rattle.integers.proofs.Linear.{ints, ◌∴◌}
use Rattle.integers.proofs.Order.{≤ℤ-antisym, Cases, cases}
use Rattle.integers.proofs.Order.Cases.{below, equal, above}
use Rattle.calendar.specs.Meaning.{Row, meant}
use Rattle.calendar.specs.Algebra.{Lists}
use Rattle.calendar.specs.Questions.{place}
use Rattle.granules.specs.Valid.{Valid}
use Rattle.granules.proofs.Tests.{none≢some}
use Rattle.granules.proofs.Lists.{rising-cons, lists-as}
use Rattle.granules.proofs.Questions.{first-at-most, place-lists}
use Rattle.cursors.specs.declared.Cursor.{Cursor}
use Rattle.cursors.specs.Cursor.{cursor_at}
use Rattle.granule_ends.proofs.Walks.{Walk, walk_start, walk-past, walk-to, walk_end}

-- w is one of the instants with the label j from u to t
abbrev Passed : Row → ℤ → ℤ → ℤ → ℤ → Type 0
Passed r t j u w = (meant r w ≡ some j) × (u ≤ℤ w) × (w ≤ℤ t)

-- a walk back from t, whose label is j: it stands at u, and has counted n instants with that label
pub record Placing (r : Row) (t j : ℤ) (c : Cursor) (u : ℤ) (n : ℕ) : Type 0 where
  pub end : ℤ
  pub walk : Walk true r t j c u end
  pub list : List ℤ
  pub lists : Lists (Passed r t j u) list
  pub count : length list ≡ n
  pub few : pos n ≤ℤ (t -ℤ u +ℤ pos 1)

module _ (r : Row) (v : Valid r) (t j : ℤ) where
  pub placing-start : (c : Cursor) → c ≡ cursor_at r t → meant r t ≡ some j → Placing r t j c t 1
  placing-start c e h = record {
    end = t;
    walk = walk_start r v true t j c e h;
    list = t ∷ [];
    lists = record {
      rising = tt;
      member = λ w. (
        λ x. Memᴰ.head (≤ℤ-antisym x.2 x.1),
        λ m. ⊎_elim (λ q. (ap (meant r) q ∙ h, q ∴ simp ints (omega arith), q ∴ simp ints (omega arith))) (λ k. absurd (Memᴰ.not-nil k)) (Memᴰ.cases_cons m),
      );
    };
    count = refl;
    few = simp ints (omega arith);
  }

  module _ (c c' : Cursor) (u u' : ℤ) (n : ℕ) (b : Placing r t j c u n) (next : c' ≡ cursor_at r u') (step : u' ≡ u -ℤ pos 1) where
    -- past an instant with no label
    pub placing-past : meant r u' ≡ none → Placing r t j c' u' n
    placing-past h = record {
      end = b.end;
      walk = walk-past r v true t j c c' u u' b.end b.walk next step h;
      list = b.list;
      lists = lists-as (Passed r t j u) (Passed r t j u') b.list
          (λ w. (λ x. (x.0, step ∴ x.1 ∴ simp ints (omega arith), x.2), λ x. (x.0, by w x.0 x.1 (cases u' w), x.2))) b.lists;
      count = b.count;
      few = b.few ∴ step ∴ simp ints (omega arith);
    }
      where
        by : (w : ℤ) → meant r w ≡ some j → u' ≤ℤ w → Cases u' w → u ≤ℤ w
        by w e l (below m) = m ∴ step ∴ simp ints (omega arith)
        by w e l (equal m) = absurd (none≢some (sym h ∙ ap (meant r) m ∙ e))
        by w e l (above m) = absurd (l ∴ m ∴ simp ints (omega arith))

    -- to an instant of the granule
    pub placing-to : meant r u' ≡ some j → Placing r t j c' u' (n + 1)
    placing-to h = record {
      end = u';
      walk = walk-to r v true t j c c' u u' b.end b.walk next step h;
      list = u' ∷ b.list;
      lists = record {
        rising = rising-cons u' b.list (λ w m. step ∴ ((b.lists.member w).1 m).1 ∴ simp ints (omega arith)) b.lists.rising;
        member = λ w. (
          λ x. by w x (cases u' w),
          λ m. ⊎_elim (λ q. (ap (meant r) q ∙ h, q ∴ simp ints (omega arith), q ∴ step ∴ b.walk.low ∴ simp ints (omega arith)))
              (λ k. let x = (b.lists.member w).1 k in (x.0, step ∴ x.1 ∴ simp ints (omega arith), x.2)) (Memᴰ.cases_cons m),
        );
      };
      count = omega (arith, b.count);
      few = b.few ∴ step ∴ simp ints (omega arith);
    }
      where
        by : (w : ℤ) → Passed r t j u' w → Cases u' w → Memᴰ w (u' ∷ b.list)
        by w x (below m) = Memᴰ.tail ((b.lists.member w).0 (x.0, m ∴ step ∴ simp ints (omega arith), x.2))
        by w x (equal m) = Memᴰ.head (sym m)
        by w x (above m) = absurd (x.1 ∴ m ∴ simp ints (omega arith))

    -- another label shows: the walk has passed the granule's first instant, so that all up to t are counted
    pub placing-end : (k : ℤ) → meant r u' ≡ some k → (k ≡ j → ⊥) → n ≡ place r j t
    placing-end k h other =
        let e = walk_end r v true t j c c' u u' b.end b.walk next step k h other in
        sym b.count ∙ place-lists r v j t b.list (lists-as (Passed r t j u) (λ w. (meant r w ≡ some j) × (w ≤ℤ t)) b.list
        (λ w. (λ x. (x.0, x.2), λ x. (x.0, e ∴ b.walk.before ∴ first-at-most r v j w x.0 ∴ simp ints (omega arith), x.1))) b.lists)
