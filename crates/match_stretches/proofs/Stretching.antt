-- A stretch is some instants of the loop that compares a claimed row, for any operation; and what its end says of the row that is followed.
-- Assumes nothing.
use mathlib.Core.Path.{◌≡◌, refl, ◌∙◌, ap, subst}
use mathlib.Core.Option.{Option, none, some}
use mathlib.Core.Bool.{Bool, true, false, ◌||◌, ◌&&◌}
use mathlib.Core.List.{[]}
use Prim.Native.Nat.{ℕ, zero, suc, ◌+◌, ◌-◌, ◌≤◌, ◌<◌}
use native.Mathlib.Omega.{arith}
use lib.IntN.{ℤ, pos}
use lib.Signed.{◌≤ℤ◌}
use Rattle.calendar.specs.Meaning.{Row, meant}
use Rattle.calendar.specs.Operation.{Operation}
use Rattle.calendar.specs.Lists.{is_some, if_label, on_label, same_label, first}
use Rattle.calendar.specs.Granules.{granule}
use Rattle.calendar.specs.Compute.{result}
use Rattle.calendar.specs.Distance.{size}
use Rattle.calendar.specs.Limits.{in_range}
use Rattle.granules.specs.Valid.{Valid}
use Rattle.fill_stretches.specs.declared.Reached.{Reached}
use Rattle.fill_stretches.specs.Stretch as Filled
use Rattle.fill_stretches.proofs.Stretching as Ends
use Rattle.match_shared.specs.Seen.{Seen}
use Rattle.match_shared.proofs.Seen.{seen_none, seen_more}
use Rattle.match_stretches.specs.declared.Compared.{Compared}
use Rattle.match_stretches.specs.Stretch.{same_along, Stretched, Led}

-- ---- the instants that are seen

along-range : (y x : Option ℤ) → if_label y in_range ≡ true → if_label (on_label x (λ j. y)) in_range ≡ true
along-range y none e = refl
along-range y (some j) e = e

-- an instant more does not tell more of whether there is a label
along-labelled : (y x : Option ℤ) (labelled : Bool) → is_some (on_label x (λ j. y)) || (is_some y || labelled) ≡ is_some y || labelled
along-labelled none none labelled = refl
along-labelled none (some j) labelled = refl
along-labelled (some i) none labelled = refl
along-labelled (some i) (some j) labelled = refl

module _ (o : Operation Row) (a r : Row) (y : Option ℤ) (in-range : if_label y in_range ≡ true) where
  -- the label of an instant is y where the row a has one, and none where it has none
  abbrev Is : ℕ → Type 0
  Is u = on_label (meant a (pos u)) (λ j. y) ≡ result o (pos u)

  more : (labelled same : Bool) (t : ℕ) → Seen o r t labelled same → t < (size o).period → Is t
      → Seen o r (t + 1) (is_some (on_label (meant a (pos t)) (λ j. y)) || labelled) (same && same_label (meant r (pos t)) (on_label (meant a (pos t)) (λ j. y)))
  more labelled same t h m e = seen_more o r t labelled same h m (on_label (meant a (pos t)) (λ j. y)) (meant r (pos t)) e refl (along-range y (meant a (pos t)) in-range)

  module _ (labelled same : Bool) (t : ℕ) where
    -- the instant behind n others
    next : (n : ℕ) → Seen o r (t + n) (is_some y || labelled) (same_along same y a r t n) → t + n < (size o).period → Is (t + n) → Seen o r (t + suc n) (is_some y || labelled) (same_along same y a r t (suc n))
    next n h m e =
        let z : t + n + 1 ≡ t + suc n = omega arith in
        subst (λ (u : ℕ). Seen o r u (is_some y || labelled) (same_along same y a r t (suc n))) z
        (subst (λ (l : Bool). Seen o r (t + n + 1) l (same_along same y a r t (suc n))) (along-labelled y (meant a (pos (t + n))) labelled) (more (is_some y || labelled) (same_along same y a r t n) (t + n) h m e))

    -- n instants, of which it is known whether they have a label
    turns : Seen o r t (is_some y || labelled) same → (n : ℕ) → t + n ≤ (size o).period → ((u : ℕ) → u < t + n → Is u) → Seen o r (t + n) (is_some y || labelled) (same_along same y a r t n)
    turns h zero m e = let z : t ≡ t + 0 = omega arith in subst (λ (u : ℕ). Seen o r u (is_some y || labelled) same) z h
    turns h (suc n) m e = next n (turns h n (omega arith) (λ u i. e u (omega arith))) (omega arith) (e (t + n) (omega arith))

    -- and of which the first has one in the row a
    turns-on : Seen o r t labelled same → (j : ℤ) → meant a (pos t) ≡ some j → (n : ℕ) → t + suc n ≤ (size o).period → ((u : ℕ) → t ≤ u → u < t + suc n → Is u)
        → Seen o r (t + suc n) (is_some y || labelled) (same_along same y a r t (suc n))
    turns-on h j f zero m e =
        let z : t ≡ t + 0 = omega arith in
        let w : t + 1 ≡ t + suc 0 = omega arith in
        let s = more labelled same t h (omega arith) (e t (omega arith) (omega arith)) in
        subst (λ (u : ℕ). Seen o r u (is_some y || labelled) (same_along same y a r t 1)) w
        (subst (λ (u : ℕ). Seen o r (t + 1) (is_some y || labelled) (same && same_label (meant r (pos u)) (on_label (meant a (pos u)) (λ j. y)))) z
        (subst (λ (x : Option ℤ). Seen o r (t + 1) (is_some (on_label x (λ j. y)) || labelled) (same && same_label (meant r (pos t)) (on_label (meant a (pos t)) (λ j. y)))) f s))
    turns-on h j f (suc n) m e = next (suc n) (turns-on h j f n (omega arith) (λ u i k. e u i (omega arith))) (omega arith) (e (t + suc n) (omega arith) (omega arith))

module _ (o : Operation Row) (a r : Row) (period : ℕ) (is-period : period ≡ (size o).period) (unlabelled : (u : ℕ) → meant a (pos u) ≡ none → none ≡ result o (pos u)) where
  -- the instants before the first label
  pub seen-led : (q : Compared) → Led a r period q → Seen o r q.t false q.same
  seen-led q x =
      let s = turns o a r none refl false true 0 (seen_none o r) q.t (omega (arith, x.follows.in-room)) (λ u i. let e = x.unlabelled u (omega arith) in ap (λ (l : Option ℤ). on_label l (λ j. none)) e ∙ unlabelled u e) in
      let z : 0 + q.t ≡ q.t = omega arith in
      rw x.same (rw z at s)

  -- the instants of a stretch, from a labelled one on
  pub seen-stretched : (y : Option ℤ) → if_label y in_range ≡ true → (h : ℤ) (labelled : Bool) (p q : Compared) → Seen o r p.t labelled p.same → Stretched y h a r period p q
      → (j : ℤ) → meant a (pos p.t) ≡ some j → p.t < q.t → ((u : ℕ) (l : ℤ) → p.t ≤ u → u < q.t → meant a (pos u) ≡ some l → y ≡ result o (pos u))
      → Seen o r q.t (is_some y || labelled) q.same
  seen-stretched y in-range h labelled p q s x j e m f =
      let n = q.t - p.t - 1 in
      let w : suc n ≡ q.t - p.t = omega arith in
      let z : p.t + (q.t - p.t) ≡ q.t = omega arith in
      let k = turns-on o a r y in-range labelled p.same p.t s j e n (omega (arith, x.passed.follows.in-room)) (λ u i v. by u i (omega arith) (meant a (pos u)) refl) in
      rw x.passed.same (rw z at (subst (λ (m : ℕ). Seen o r (p.t + m) (is_some y || labelled) (same_along p.same y a r p.t m)) w k))
    where
      by : (u : ℕ) → p.t ≤ u → u < q.t → (v : Option ℤ) → meant a (pos u) ≡ v → on_label v (λ j. y) ≡ result o (pos u)
      by u i v none e = unlabelled u e
      by u i v (some l) e = f u l i v e

-- ---- the end of a stretch

-- it ends where a stretch of a working row would
abbrev reached : Compared → Reached
reached p = record { t = p.t; cursor = p.cursor }

as-filled : {y : Option ℤ} {h : ℤ} {a r : Row} {size : ℕ} {p q : Compared} → Stretched y h a r size p q
    → Filled.Stretched (pos 0) h a 0 size [] (reached p) (reached q) (Filled.stretched (pos 0) a 0 p.t (q.t - p.t) [])
as-filled x = let f = x.passed.follows in record {
  follows = record { in-room = f.in-room; cursor = f.cursor };
  on = x.passed.on;
  cells = refl;
  below = x.passed.below;
  stops = x.stops;
}

module _ (y : Option ℤ) (h : ℤ) (a r : Row) (size : ℕ) (p q : Compared) (x : Stretched y h a r size p q) (j : ℤ) (e : meant a (pos p.t) ≡ some j) (m : j ≤ℤ h) where
  -- it has an instant
  pub stretch-on : p.t < size → p.t < q.t
  stretch-on = Ends.stretch-on (pos 0) h a 0 size [] _ (reached p) (reached q) (as-filled x) j e m

  -- behind it a granule begins
  pub stretch-fresh : Valid a → q.t < size → (l : ℤ) → meant a (pos q.t) ≡ some l → pos q.t ≡ first (granule a l)
  stretch-fresh v = Ends.stretch-fresh (pos 0) h a 0 size [] _ (reached p) (reached q) (as-filled x) j e m v

  -- with j the last label, it has no other
  pub stretch-one : Valid a → h ≡ j → (u : ℕ) (l : ℤ) → p.t ≤ u → u < q.t → meant a (pos u) ≡ some l → l ≡ j
  stretch-one v = Ends.stretch-one (pos 0) h a 0 size [] _ (reached p) (reached q) (as-filled x) j e m v
