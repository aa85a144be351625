-- A walk over a granule of a for the granules of b that it meets: where it begins and stands, its steps and its end.
-- Assumes nothing.
use mathlib.Core.Path.{◌≡◌, refl, sym, ◌∙◌, ap, subst}
use mathlib.Core.Logic.{⊎_elim}
use mathlib.Core.Option.{none, some}
use mathlib.Core.Bool.{Bool, true, false, ◌&&◌}
use Prim.Native.Nat.{ℕ, ◌<◌, ◌≤◌, ◌^◌}
use native.Mathlib.Omega.{arith}
use lib.IntN.{ℤ, pos, ◌+ℤ◌, ◌-ℤ◌, ◌*ℤ◌}
use lib.Signed.{◌≤ℤ◌, ◌<ℤ◌, le_z, lt_z}
use Rattle.integers.proofs.Linear.{ints, ◌∴◌}
use Rattle.integers.proofs.Order.{≤ℤ-antisym, le-or-lt, pos-up}
use Rattle.integers.proofs.Machine.{test-lt, test-le}
use Rattle.calendar.specs.Limits.{pool_limit}
use Rattle.calendar.specs.Meaning.{Row, meant}
use Rattle.calendar.specs.Granules.{granule}
use Rattle.calendar.specs.Compute.{selects}
use Rattle.granules.specs.Valid.{Valid}
use Rattle.granules.proofs.Tests.{true-or-false, true≢false, none≢some, some_inj, and-iff}
use Rattle.granules.proofs.Lists.{first-least}
use Rattle.granules.proofs.Calendars.{label-moved}
use Rattle.granules.proofs.Rows.{meant-repeats}
use Rattle.granules.proofs.Granule.{granule-lists}
use Rattle.cursors.specs.declared.Cursor.{Cursor}
use Rattle.cursors.specs.Found.{Within, Near}
use Rattle.cursors.specs.Cursor.{cursor_at}
use Rattle.granule_ends.proofs.Walks.{ahead}
use Rattle.cursors.proofs.Bounds.{first-bounds}
use Rattle.candidates.specs.Tallies.{candidates}
use Rattle.kinds.specs.declared.Pick.{Pick}
use Rattle.select_granules.specs.declared.Picked.{Picked}
use Rattle.kinds.specs.Operations.{selection_of}
use Rattle.select_granules.specs.Memos.{Picks, Recalls}
use Rattle.select_granules.specs.Deciding.{takes, selection_by}
use Rattle.select_granules.specs.Meeting.{StartsAt}
use Rattle.select_granules.proofs.Decisions.{Passes, nowhere, later}

-- t is an instant of a's granule j, and its first one, where the walk passes over all of the granule
pub record Starts (whole : Bool) (a : Row) (j t : ℤ) : Type 0 where
  pub label : meant a t ≡ some j
  pub least : whole ≡ false → (u : ℤ) → meant a u ≡ some j → t ≤ℤ u

-- the walk begins at e, near t
pub starts : (whole : Bool) (a : Row) → Valid a → (j t e : ℤ) → meant a t ≡ some j → StartsAt whole a j t e
    → Starts whole a j e × ((t -ℤ pos a.period) <ℤ e) × (e ≤ℤ t)
starts true a v j t e own q = (
  record { label = ap (meant a) q ∙ own; least = λ h. absurd (true≢false refl h) },
  v.positive.0 ∴ q ∴ simp ints (omega arith),
  q ∴ simp ints (omega arith),
)
starts false a v j t e own q =
    let b = first-bounds a v t j own in
    let l = granule-lists a v j in
    let s = sym q in (
      record {
        label = ap (meant a) q ∙ b.0;
        least = λ _ u h. subst (λ (z : ℤ). z ≤ℤ u) s (first-least u (granule a j) l.rising ((l.member u).0 h)).1;
      },
      subst (λ (z : ℤ). (t -ℤ pos a.period) <ℤ z) s b.1,
      subst (λ (z : ℤ). z ≤ℤ t) s b.2,
    )

-- the walk is before the instant u: no instant of the granule that it passed takes j, and one that looks at a single instant has passed none
pub record Walk (p : Pick) (whole : Bool) (a b : Row) (j t u : ℤ) (x y : Cursor) (m : Picked) : Type 0 where
  pub a-cursor : x ≡ cursor_at a u
  pub b-cursor : y ≡ cursor_at b u
  pub low : t ≤ℤ u
  pub high : u ≤ℤ (t +ℤ pos a.period)
  pub recalls : Recalls p whole a b m
  pub stays : whole ≡ true → u ≡ t
  pub passed : whole ≡ false → (w : ℤ) → w <ℤ u → Passes p a b j w

-- u does not end the walk
pub record Goes (p : Pick) (whole : Bool) (a b : Row) (j u : ℤ) : Type 0 where
  pub over : whole ≡ false
  pub same : (l : ℤ) → meant a u ≡ some l → l ≡ j
  pub passes : Passes p a b j u

less : (P : ℕ) (t u : ℤ) → u <ℤ (t +ℤ pos P) → ahead P t (u +ℤ pos 1) < ahead P t u
less P t u h =
    let here = pos-up {z = t -ℤ u +ℤ pos P} (h ∴ simp ints (omega arith)) in
    let next = pos-up {z = t -ℤ (u +ℤ pos 1) +ℤ pos P} (h ∴ simp ints (omega arith)) in
    omega (arith, simp ints at here, simp ints at next)

-- a walk from f, which is near t, stays near
pub room : (P : ℕ) (t f u : ℤ) → P ≤ pool_limit → Within (2 ^ 49) t → (t -ℤ pos P) <ℤ f → f ≤ℤ t → f ≤ℤ u → u ≤ℤ (f +ℤ pos P) → Within (2 ^ 50) u × Near u × Near (u +ℤ pos 1)
room P t f u small within after before low high = small ∴ within ∴ after ∴ before ∴ low ∴ high ∴ simp ints (omega arith)

module _ (p : Pick) (whole : Bool) (a b : Row) (v : Valid a) (w : Valid b) (j t : ℤ) (f : Starts whole a j t) where
  pub walk_start : (x y : Cursor) (m : Picked) → x ≡ cursor_at a t → y ≡ cursor_at b t → Recalls p whole a b m → Walk p whole a b j t t x y m
  walk_start x y m e g r = record {
    a-cursor = e;
    b-cursor = g;
    low = simp ints (omega arith);
    high = simp ints (omega arith);
    recalls = r;
    stays = λ _. refl;
    passed = λ o s h i k _. absurd (f.least o s k ∴ h ∴ simp ints (omega arith));
  }

  module _ (u : ℤ) (x y : Cursor) (m : Picked) (k : Walk p whole a b j t u x y m) where
    -- a period on, the label is another
    inside-turn : ((l : ℤ) → meant a u ≡ some l → l ≡ j) → u <ℤ (t +ℤ pos a.period)
    inside-turn same = ⊎_elim at-end (λ h. h) (le-or-lt (t +ℤ pos a.period) u)
      where
        moved : meant a (t +ℤ pos a.period *ℤ pos 1) ≡ some (j +ℤ pos a.distance *ℤ pos 1)
        moved = label-moved (meant a) a.period a.distance (meant-repeats a v.positive.0) (pos 1) t j f.label

        at-end : (t +ℤ pos a.period) ≤ℤ u → u <ℤ (t +ℤ pos a.period)
        at-end h =
            let e : u ≡ t +ℤ pos a.period *ℤ pos 1 = h ∴ k.high ∴ simp ints (omega arith) in
            absurd (same _ (ap (meant a) e ∙ moved) ∴ v.positive.1 ∴ simp ints (omega arith))

    -- past an instant that does not end the walk
    module _ (g : Goes p whole a b j u) where
      pub walk-on : (u' : ℤ) (x' y' : Cursor) (m' : Picked) → u' ≡ u +ℤ pos 1 → x' ≡ cursor_at a u' → y' ≡ cursor_at b u' → Recalls p whole a b m'
          → Walk p whole a b j t u' x' y' m'
      walk-on u' x' y' m' s e h r = record {
        a-cursor = e;
        b-cursor = h;
        low = k.low ∴ s ∴ simp ints (omega arith);
        high = inside-turn g.same ∴ s ∴ simp ints (omega arith);
        recalls = r;
        stays = λ o. absurd (true≢false o g.over);
        passed = λ o z n. ⊎_elim (λ q. subst (Passes p a b j) (q ∴ n ∴ s ∴ simp ints (omega arith)) g.passes) (k.passed o z) (le-or-lt u z);
      }

      pub walk-less : (u' : ℤ) → u' ≡ u +ℤ pos 1 → ahead a.period t u' < ahead a.period t u
      walk-less u' s = subst (λ (z : ℤ). ahead a.period t z < ahead a.period t u) (sym s) (less a.period t u (inside-turn g.same))

    -- a walk that looks at a single instant finds it in the granule
    single : whole ≡ true → meant a u ≡ some j
    single o = ap (meant a) (k.stays o) ∙ f.label

    -- an instant with no label in a
    pub goes-off : meant a u ≡ none → Goes p whole a b j u
    goes-off e = record {
      over = ⊎_elim (λ o. absurd (none≢some (sym e ∙ single o))) (λ o. o) (true-or-false whole);
      same = λ l q. absurd (none≢some (sym e ∙ q));
      passes = λ i q _. absurd (none≢some (sym e ∙ q));
    }

    -- with none in b
    pub goes-bare : whole ≡ false → meant a u ≡ some j → meant b u ≡ none → Goes p whole a b j u
    goes-bare o e q = record { over = o; same = λ l h. some_inj (sym h ∙ e); passes = λ i _ h. absurd (none≢some (sym q ∙ h)) }

    -- with a label in b for which j is not taken
    pub goes_of : whole ≡ false → (i : ℤ) → meant a u ≡ some j → meant b u ≡ some i → takes p whole a b j i ≡ false → Goes p whole a b j u
    goes_of o i e q n = record {
      over = o;
      same = λ l h. some_inj (sym h ∙ e);
      passes = λ l _ h. subst (λ (z : Bool). takes p z a b j l ≡ false) o (ap (takes p whole a b j) (some_inj (sym h ∙ q)) ∙ n);
    }

    -- another granule begins: the whole granule was passed
    pub walk-over : (l : ℤ) → meant a u ≡ some l → (l ≡ j → ⊥) → false ≡ selects (selection_of (selection_by whole p)) a b j
    walk-over l e other = ⊎_elim (λ o. absurd (other (some_inj (sym e ∙ single o)))) passes-all (true-or-false whole)
      where
        same : (z : ℤ) → u ≤ℤ z → meant a z ≡ some j → l ≡ j
        same z q h = ≤ℤ-antisym (v.ordered u z l j q e h) (v.ordered t u j l k.low f.label e)

        passes-all : whole ≡ false → false ≡ selects (selection_of (selection_by whole p)) a b j
        passes-all o =
            subst (λ (z : Bool). false ≡ selects (selection_of (selection_by z p)) a b j) (sym o)
            (nowhere p a b v w j (λ z. ⊎_elim (λ q i h _. absurd (other (same z q h))) (k.passed o z) (le-or-lt u z)))

    -- what is taken for b's granule at u begins behind j: none of the later granules of b meets j
    pub walk-early : whole ≡ false → (i : ℤ) → meant b u ≡ some i → takes p whole a b j i ≡ false → (n : Picked) → Picks p (candidates whole a b i) n → le_z n.low n.high && lt_z j n.low ≡ true
        → false ≡ selects (selection_of (selection_by whole p)) a b j
    walk-early o i e q n h r =
        let c = (and-iff (le_z n.low n.high) (lt_z j n.low)).0 r in
        let h' = subst (λ (z : Bool). Picks p (candidates z a b i) n) o h in
        let q' = subst (λ (z : Bool). takes p z a b j i ≡ false) o q in
        let after = later p a b v w j i u n e h' ((test-le n.low n.high).0 c.0) ((test-lt j n.low).0 c.1) q' in
        subst (λ (z : Bool). false ≡ selects (selection_of (selection_by z p)) a b j) (sym o) (nowhere p a b v w j (λ z. ⊎_elim (after z) (k.passed o z) (le-or-lt u z)))
