-- The greatest label before an instant: the next label, the labels of the next turn, and how great it is.
-- Assumes nothing.
use mathlib.Core.Path.{◌≡◌, sym, ◌∙◌, ap}
use mathlib.Core.Logic.{◌⊎◌, inl, inr}
use mathlib.Core.Option.{none, some}
use mathlib.Core.List.{List}
use Prim.Native.Nat.{◌^◌}
use native.Mathlib.Omega.{arith}
use lib.IntN.{ℤ, pos, ◌+ℤ◌, ◌-ℤ◌, ◌*ℤ◌}
use lib.Signed.{◌≤ℤ◌, ◌<ℤ◌}
use Rattle.integers.specs.Parts.{up}
use Rattle.integers.proofs.Linear.{ints, ◌∴◌}
use Rattle.integers.proofs.Order.{le-or-lt}
use Rattle.calendar.specs.Limits.{pool_limit}
use Rattle.calendar.specs.Meaning.{Row, meant, Has}
use Rattle.calendar.specs.Granules.{has}
use Rattle.calendar.specs.Compute.{renumbered, anchored}
use Rattle.calendar.specs.Questions.{given}
use Rattle.granules.specs.Valid.{Valid}
use Rattle.granules.proofs.Tests.{none≢some, false-iff}
use Rattle.granules.proofs.Calendars.{label-moved, labelled-near}
use Rattle.granules.proofs.Rows.{meant-repeats}
use Rattle.granules.proofs.Instants.{has-iff}
use Rattle.algebra.proofs.Totals.{total}
use Rattle.cursors.specs.Found.{Sound, Within}
use Rattle.cursors.proofs.Numbers.{numbers, valid}
use Rattle.cursors.proofs.Bounds.{label-bound}
use Rattle.fill_shared.proofs.Lasts.{anchored-label}
use Rattle.fill_unary.proofs.Numbers.{total-same, number-next}

-- p is the greatest label before the instant t
pub record Latest (r : Row) (t p : ℤ) : Type 0 where
  pub at : ℤ
  pub before : at <ℤ t
  pub label : meant r at ≡ some p
  pub most : (u j : ℤ) → u <ℤ t → meant r u ≡ some j → j ≤ℤ p

pub is-label : {r : Row} {t p : ℤ} → Latest r t p → Has (meant r) p
is-label l = (l.at, l.label)

module _ (r : Row) (v : Valid r) where
  -- the label of the last labelled instant is
  pub last-latest : (t : ℤ) → Latest r t (anchored r (t -ℤ pos 1))
  last-latest t =
      let a = anchored-label r (t -ℤ pos 1) v in
      record {
        at = a.0;
        before = a.1 ∴ simp ints (omega arith);
        label = a.2;
        most = λ u j h e. by u j h e (le-or-lt u a.0) a.2 a.3;
      }
    where
      by : {w : ℤ} (u j : ℤ) → u <ℤ t → meant r u ≡ some j → (u ≤ℤ w) ⊎ (w <ℤ u) → meant r w ≡ some (anchored r (t -ℤ pos 1))
          → ((x : ℤ) → w <ℤ x → x ≤ℤ (t -ℤ pos 1) → meant r x ≡ none) → j ≤ℤ anchored r (t -ℤ pos 1)
      by u j h e (inl k) f g = v.ordered u _ j _ k e f
      by u j h e (inr k) f g = absurd (none≢some (sym (g u k (h ∴ simp ints (omega arith))) ∙ e))

  -- the label of t itself is the greatest before the next instant
  pub latest-here : (t z : ℤ) → meant r t ≡ some z → Latest r (t +ℤ pos 1) z
  latest-here t z e = record {
    at = t;
    before = simp ints (omega arith);
    label = e;
    most = λ u j h f. v.ordered u t j z (h ∴ simp ints (omega arith)) f e;
  }

  module _ (t p : ℤ) (l : Latest r t p) where
    -- a label from t on is not below
    pub latest-rises : (z : ℤ) → meant r t ≡ some z → p ≤ℤ z
    latest-rises z e = v.ordered l.at t p z (l.before ∴ simp ints (omega arith)) l.label e

    -- a label of t that is not above changes nothing
    pub latest-stays : ((j : ℤ) → meant r t ≡ some j → j ≤ℤ p) → Latest r (t +ℤ pos 1) p
    latest-stays small = record {
      at = l.at;
      before = l.before ∴ simp ints (omega arith);
      label = l.label;
      most = λ u j h f. by u j h f (le-or-lt t u);
    }
      where
        by : (u j : ℤ) → u <ℤ (t +ℤ pos 1) → meant r u ≡ some j → (t ≤ℤ u) ⊎ (u <ℤ t) → j ≤ℤ p
        by u j h f (inl k) = let e : t ≡ u = h ∴ k ∴ simp ints (omega arith) in small j (ap (meant r) e ∙ f)
        by u j h f (inr k) = l.most u j k f

    -- where no label from t on is below x, there is none between
    pub none_between : (x : ℤ) → p <ℤ x → ((u j : ℤ) → t ≤ℤ u → meant r u ≡ some j → x ≤ℤ j) → total (has r) x ≡ total (has r) (p +ℤ pos 1)
    none_between x h from_on =
        total-same (has r) (p +ℤ pos 1) x (h ∴ simp ints (omega arith))
        (λ j lo hi. (false-iff (has-iff r v j)).1 (λ w. by j lo hi w.0 w.1 (le-or-lt t w.0)))
      where
        by : (j : ℤ) → (p +ℤ pos 1) ≤ℤ j → j <ℤ x → (u : ℤ) → meant r u ≡ some j → (t ≤ℤ u) ⊎ (u <ℤ t) → ⊥
        by j lo hi u e (inl k) = from_on u j k e ∴ hi ∴ simp ints (omega arith)
        by j lo hi u e (inr k) = l.most u j k e ∴ lo ∴ simp ints (omega arith)

    -- the label of t is the next one
    pub next-label : (z : ℤ) → meant r t ≡ some z → p <ℤ z → total (has r) z ≡ total (has r) (p +ℤ pos 1)
    next-label z e h = none_between z h (λ u j k f. v.ordered t u z j k e f)

    pub next-number : (x z : ℤ) → meant r t ≡ some z → p <ℤ z → renumbered r x z ≡ renumbered r x p +ℤ pos 1
    next-number x z e h = number-next r v x p z (is-label l) (t, e) h (next-label z e h)

  -- the labels from the next turn on, where p is the greatest before the instant 0
  pub turn-above : (p : ℤ) → Latest r (pos 0) p → (u j : ℤ) → pos r.period ≤ℤ u → meant r u ≡ some j → (p +ℤ pos r.distance) ≤ℤ j
  turn-above p l u j h e =
      let m = label-moved (meant r) r.period r.distance (meant-repeats r v.positive.0) (pos 1) l.at p l.label in
      v.ordered (l.at +ℤ pos r.period *ℤ pos 1) u (p +ℤ pos r.distance *ℤ pos 1) j (l.before ∴ h ∴ simp ints (omega arith)) m e
      ∴ simp ints (omega arith)

-- there are labels in each turn, and those of instants so near are within the limits
module _ (period distance : ℤ) (cells : List ℤ) (s : Sound period distance cells) (t p : ℤ) (l : Latest (given period distance cells) t p) where
  abbrev row : Row
  row = given period distance cells

  near : (u : ℤ) → (w : ℤ) × (i : ℤ) × (u ≤ℤ w) × (w <ℤ (u +ℤ pos (up period))) × (meant row w ≡ some i)
  near u =
      let v = valid period distance cells s in
      labelled-near (meant row) (up period) (up distance) (meant-repeats row v.positive.0) v.positive.0 v.label v.labelled u

  pub latest-bound : pos 0 ≤ℤ t → t ≤ℤ pos pool_limit → Within (2 ^ 30) p
  latest-bound lo hi =
      let v = valid period distance cells s in
      let n = numbers period distance cells s in
      let (u, i, a, b, e) = near (t -ℤ pos (up period)) in
      let (w, j, c, d, f) = near t in
      let low = l.most u i (b ∴ simp ints (omega arith)) e in
      let high = v.ordered l.at w p j (l.before ∴ c ∴ simp ints (omega arith)) l.label f in
      let x = label-bound period distance cells s (2 ^ 23) u i (a ∴ lo ∴ n.high ∴ simp ints (omega arith)) (b ∴ hi ∴ simp ints (omega arith)) e in
      let y = label-bound period distance cells s (2 ^ 23) w j (c ∴ lo ∴ simp ints (omega arith)) (d ∴ hi ∴ n.high ∴ simp ints (omega arith)) f in
      x ∴ y ∴ low ∴ high ∴ simp ints (omega arith)
