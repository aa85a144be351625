-- The row that the conversion would leave, known by what it means.
-- Assumes nothing.
use mathlib.Core.Path.{◌≡◌, sym, ◌∙◌, ap, subst}
use mathlib.Core.Logic.{◌↔◌}
use mathlib.Core.Bool.{true, false}
use Prim.Native.Nat.{ℕ, ◌*◌, ◌≤◌, ◌<◌}
use native.Mathlib.Omega.{arith}
use lib.IntN.{ℤ, pos, ◌*ℤ◌}
use lib.Signed.{◌≤ℤ◌, ◌<ℤ◌}
use Rattle.integers.specs.Floor.{floor_div, floor_mod}
use Rattle.integers.proofs.Linear.{ints, ◌∴◌}
use Rattle.integers.proofs.Floor.{floor-lt}
use Rattle.calendar.specs.Meaning.{Row, Calendar, meant, raise, Same, Repeats, IsCalendar, LeastRow}
use Rattle.calendar.specs.Operation.{Operation}
use Rattle.calendar.specs.Lists.{from, same_label}
use Rattle.calendar.specs.Distance.{size}
use Rattle.calendar.specs.Compute.{result, working}
use Rattle.calendar.specs.Checks.{unlabelled, labels_in_range}
use Rattle.calendar.specs.Sound.{sound}
use Rattle.calendar.specs.Least.{least}
use Rattle.granules.proofs.Tests.{same_label-iff}
use Rattle.granules.proofs.Lists.{all-iff, mem-from}
use Rattle.granules.proofs.Least.{first-turn, same-repeats, least-row, least-divides, multiple-repeats}
use Rattle.granules.proofs.Equal.{least-row-unique}
use Rattle.algebra.specs.Ready.{Ready, Right, meaning}
use Rattle.algebra.specs.TableMeaning.{Labelled}
use Rattle.algebra.proofs.Right.{right}
use Rattle.algebra.proofs.Working.{labelled-some, working-means, result-calendar, working-valid}
use Rattle.match_shared.specs.Matching.{agree, Turns}
use Rattle.match_shared.proofs.LeastRows.{least-again, least-means}

-- two calendars that repeat alike are the same if they agree on a turn
same-of-turn : (c d : Calendar) (P N : ℕ) → 1 ≤ P → Repeats P N c → Repeats P N d → ((t : ℤ) → pos 0 ≤ℤ t → t <ℤ pos P → c t ≡ d t) → Same c d
same-of-turn c d P N above p q h t =
    let k = floor_mod t P in
    let l : k < P = floor-lt P above t in
    first-turn c P N above p t
    ∙ ap (raise (pos N *ℤ floor_div t P)) (h (pos k) (simp ints (omega arith)) (simp ints (omega arith)))
    ∙ sym (first-turn d P N above q t)

-- r agrees with the result on the first n instants
pub agree-iff : (o : Operation Row) (r : Row) (n : ℕ) → (agree o r n ≡ true) ↔ ((t : ℤ) → pos 0 ≤ℤ t → t <ℤ pos n → meant r t ≡ result o t)
unfolding agree
agree-iff o r n =
    let i = all-iff (λ t. same_label (meant r t) (result o t)) (from (pos 0) n) in (
      λ e t low high. (same_label-iff (meant r t) (result o t)).0 (i.0 e t ((mem-from t (pos 0) n).1 (low ∴ high ∴ simp ints (omega arith)))),
      λ h. i.1 (λ t m. let k = (mem-from t (pos 0) n).0 m in (same_label-iff (meant r t) (result o t)).1 (h t k.0 (k.1 ∴ simp ints (omega arith)))),
    )

module _ (o : Operation Row) (ready : Ready o) (some-label : unlabelled o ≡ false) (in-range : labels_in_range o ≡ true) where
  is_right : Right o
  is_right = right o ready

  labelled : Labelled (meaning o)
  labelled = labelled-some o is_right some-label

  calendar : IsCalendar (result o)
  calendar = result-calendar o is_right labelled

  -- a least row of a calendar that is the same
  least-as : (c : Calendar) (r : Row) → Same c (result o) → LeastRow c r → LeastRow (result o) r
  least-as c r same l = record {
    whole = l.whole;
    positive = l.positive;
    means = λ t. l.means t ∙ same t;
    least = λ P N a b h. l.least P N a b (same-repeats (result o) c P N (λ t. sym (same t)) h);
  }

  -- the row that the conversion leaves
  left-least : LeastRow (result o) (least (working o))
  left-least = least-as (meant (working o)) (least (working o)) (working-means o is_right in-range) (least-row (working o) (working-valid o is_right in-range labelled))

  there : (r : Row) → LeastRow (result o) r → ((least r).period ≡ r.period) × ((c : ℕ) × Turns o r c) × (agree o r (size o).period ≡ true)
  there r l = (
    ap (λ (q : Row). q.period) (least-again (result o) r calendar l),
    (let d = least-divides (result o) r calendar l (size o).period (size o).distance is_right.positive.0 is_right.repeats in (d.0, (d.1, d.2))),
    (agree-iff o r (size o).period).1 (λ t low high. l.means t),
  )

  back : (r : Row) → sound r ≡ true → (least r).period ≡ r.period → (c : ℕ) → Turns o r c → agree o r (size o).period ≡ true → r ≡ least (working o)
  back r s e c turns a =
      let m = least-means r s e in
      let repeats : Repeats (size o).period (size o).distance (meant r) =
      subst (λ (P : ℕ). Repeats P (size o).distance (meant r)) (sym turns.0)
      (subst (λ (N : ℕ). Repeats (r.period * c) N (meant r)) (sym turns.1) (multiple-repeats (meant r) r m.1 c)) in
      let same = same-of-turn (meant r) (result o) (size o).period (size o).distance is_right.positive.0 repeats is_right.repeats ((agree-iff o r (size o).period).0 a) in
      least-row-unique (result o) r (least (working o)) calendar (least-as (meant r) r same m.1) left-least

-- A row that passes rule 13 is the one that the conversion would leave exactly if it is least, the working turn is a whole number of its turns, and it agrees with the
-- result at each instant of the working turn.
pub right-row : (o : Operation Row) → Ready o → unlabelled o ≡ false → labels_in_range o ≡ true → (r : Row) → sound r ≡ true
    → (r ≡ least (working o)) ↔ (((least r).period ≡ r.period) × ((c : ℕ) × Turns o r c) × (agree o r (size o).period ≡ true))
right-row o ready u i r s = (
  λ e. there o ready u i r (subst (LeastRow (result o)) (sym e) (left-least o ready u i)),
  λ h. back o ready u i r s h.0 h.1.0 h.1.1 h.2,
)
