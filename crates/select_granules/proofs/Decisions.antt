-- Which granules of b count for a granule of a: the one at any of its instants under select-down, those that meet it under select-intersecting.
-- Assumes nothing.
use mathlib.Core.Path.{◌≡◌, refl, sym, ◌∙◌, ap, subst}
use mathlib.Core.Logic.{◌⊎◌, inl, inr, ⊎_elim}
use mathlib.Core.Option.{none, some}
use mathlib.Core.Bool.{Bool, true, false}
use mathlib.Core.List.{Memᴰ}
use native.Mathlib.Omega.{arith}
use lib.IntN.{ℤ}
use lib.Signed.{◌≤ℤ◌, ◌<ℤ◌}
use Rattle.integers.specs.Parts.{up}
use Rattle.integers.proofs.Linear.{ints, ◌∴◌}
use Rattle.integers.proofs.Order.{≤ℤ-antisym, le-or-lt}
use Rattle.integers.proofs.Machine.{test-le}
use Rattle.calendar.specs.Meaning.{Row, meant}
use Rattle.calendar.specs.Algebra.{pick}
use Rattle.calendar.specs.Lists.{any, equal}
use Rattle.calendar.specs.Granules.{inside, meeting, within}
use Rattle.calendar.specs.Compute.{selects}
use Rattle.granules.specs.Valid.{Valid}
use Rattle.granules.proofs.Tests.{true≢false, none≢some, some_inj, test-ext, and-iff}
use Rattle.granules.proofs.Lists.{any-iff, member-iff}
use Rattle.granules.proofs.Inside.{inside-iff, meeting-lists, within-lists}
use Rattle.algebra.proofs.Pick.{pick-member}
use Rattle.candidates.specs.Tallies.{candidates}
use Rattle.kinds.specs.declared.Pick.{Pick}
use Rattle.select_granules.specs.declared.Picked.{Picked}
use Rattle.select_granules.specs.declared.Decision.{Decision}
use Rattle.kinds.specs.declared.Selection.{Selection}
use Rattle.kinds.specs.Operations.{selection_of}
use Rattle.select_granules.specs.Memos.{flag_of, taken, Picks, Recalls, Remembers}
use Rattle.select_granules.specs.Deciding.{takes, selection_by, Decides}

-- ---- a decision

pub decides : (s : Selection) (a b : Row) (j : ℤ) (h : Bool) (m : Picked) (d : Decision) → d.holds ≡ flag_of h → d.picked ≡ m → h ≡ selects (selection_of s) a b j
    → Remembers s a b m → Decides s a b j d
decides s a b j h m d e q f r = record { holds = e ∙ ap flag_of f; remembers = subst (Remembers s a b) (sym q) r }

pub recalls : (p : Pick) (whole : Bool) (a b : Row) (i : ℤ) (m : Picked) → m.of ≡ i → Picks p (candidates whole a b i) m → Recalls p whole a b m
recalls p whole a b i m e f _ = subst (λ (k : ℤ). Picks p (candidates whole a b k) m) (sym e) f

pub remembers : (p : Pick) (whole : Bool) (a b : Row) (m : Picked) → Recalls p whole a b m → Remembers (selection_by whole p) a b m
remembers p true a b m r = r
remembers p false a b m r = r

-- ---- what was picked

module _ (p : Pick) (whole : Bool) (a b : Row) (j i : ℤ) (m : Picked) (f : Picks p (candidates whole a b i) m) where
  pub not_taken : taken m j ≡ false → false ≡ takes p whole a b j i
  not_taken e =
      test-ext (λ h. absurd (true≢false h refl)) (λ h. absurd (true≢false ((and-iff (any (equal j) (candidates whole a b i)) (taken m j)).0 (sym (f.takes j) ∙ h)).1 e))

  module _ (e : taken m j ≡ true) where
    -- of what lies between the first and the last that are taken, Pick takes what is in question
    pub taken_is : any (equal j) (candidates whole a b i) ≡ takes p whole a b j i
    taken_is =
        test-ext
        (λ h. f.takes j ∙ (and-iff (any (equal j) (candidates whole a b i)) (taken m j)).1 (h, e))
        (λ h. ((and-iff (any (equal j) (candidates whole a b i)) (taken m j)).0 (sym (f.takes j) ∙ h)).0)

    some-taken : (any (equal m.low) (candidates whole a b i) ≡ true) × (any (equal m.high) (candidates whole a b i) ≡ true)
    some-taken =
        let h = (and-iff _ _).0 e in
        f.ends ((test-le m.low j).0 h.0 ∴ (test-le j m.high).0 h.1 ∴ simp ints (omega arith))

    pub taken-low : j ≡ m.low → true ≡ takes p whole a b j i
    taken-low q = sym (ap (λ (k : ℤ). any (equal k) (candidates whole a b i)) q ∙ some-taken.0) ∙ taken_is

    pub taken-high : j ≡ m.high → true ≡ takes p whole a b j i
    taken-high q = sym (ap (λ (k : ℤ). any (equal k) (candidates whole a b i)) q ∙ some-taken.1) ∙ taken_is

-- what Pick takes is in question
candidate : (p : Pick) (whole : Bool) (a b : Row) (j i : ℤ) → takes p whole a b j i ≡ true → Memᴰ j (candidates whole a b i)
candidate p whole a b j i e = let l = candidates whole a b i in pick-member p.x (up p.y) l j ((member-iff j (pick p.x (up p.y) l)).0 e)

selects-by : (p : Pick) (whole : Bool) (a b : Row) (j : ℤ) → any (λ i. takes p whole a b j i) (meeting b a j) ≡ selects (selection_of (selection_by whole p)) a b j
selects-by p true a b j = refl
selects-by p false a b j = refl

-- j is not taken for b's granule at u
abbrev pub Passes : Pick → Row → Row → ℤ → ℤ → Type 0
Passes p a b j u = (i : ℤ) → meant a u ≡ some j → meant b u ≡ some i → takes p false a b j i ≡ false

module _ (p : Pick) (a b : Row) (v : Valid a) (w : Valid b) (t j : ℤ) (own : meant a t ≡ some j) where
  -- only b's granule at t can hold a's whole
  only : selects (selection_of (selection_by true p)) a b j ≡ true → (i : ℤ) × (meant b t ≡ some i) × (takes p true a b j i ≡ true)
  only e =
      let h = (any-iff (λ i. takes p true a b j i) (meeting b a j)).0 e in
      let i = h.0 in
      let s = ((within-lists a b v w i).member j).1 (candidate p true a b j i h.2) in
      (i, s.1 t own, h.2)

  pub whole-none : (whole : Bool) → whole ≡ true → meant b t ≡ none → false ≡ selects (selection_of (selection_by whole p)) a b j
  whole-none true o e = test-ext (λ h. absurd (true≢false h refl)) (λ h. absurd (none≢some (sym e ∙ (only h).1)))
  whole-none false o e = absurd (true≢false o refl)

  module _ (i : ℤ) (label : meant b t ≡ some i) where
    -- a's granule at t is in question for b's granule there, where meeting it is enough
    pub meets : true ≡ any (equal j) (candidates false a b i)
    meets = sym ((member-iff j (meeting a b i)).1 (((meeting-lists a b v w i).member j).0 (t, own, label)))

    -- and else exactly if it lies in it
    pub lies : inside a j b i ≡ any (equal j) (candidates true a b i)
    lies =
        test-ext
        (λ h. (member-iff j (within a b i)).1 (((within-lists a b v w i).member j).0 ((t, own), (inside-iff a b v j i).0 h)))
        (λ h. (inside-iff a b v j i).1 (((within-lists a b v w i).member j).1 ((member-iff j (within a b i)).0 h)).1)

    taken-selects : (whole : Bool) → takes p whole a b j i ≡ true → true ≡ selects (selection_of (selection_by whole p)) a b j
    taken-selects whole h =
        sym ((any-iff (λ i. takes p whole a b j i) (meeting b a j)).1 (i, ((meeting-lists b a w v j).member i).0 (t, label, own), h)) ∙ selects-by p whole a b j

    -- where it is taken, or no other granule of b counts, it is judged
    pub judges : (whole : Bool) → (takes p whole a b j i ≡ true) ⊎ (whole ≡ true) → takes p whole a b j i ≡ selects (selection_of (selection_by whole p)) a b j
    judges whole (inl h) = h ∙ taken-selects whole h
    judges true (inr o) = test-ext (λ h. sym (taken-selects true h)) (λ h. let s = only h in ap (takes p true a b j) (some_inj (sym label ∙ s.1)) ∙ s.2)
    judges false (inr o) = absurd (true≢false o refl)

-- no instant of a's granule j takes it
pub nowhere : (p : Pick) (a b : Row) (v : Valid a) (w : Valid b) (j : ℤ) → ((u : ℤ) → Passes p a b j u) → false ≡ selects (selection_of (selection_by false p)) a b j
nowhere p a b v w j f =
    test-ext
    (λ h. absurd (true≢false h refl))
    (λ h.
    let s = (any-iff (λ i. takes p false a b j i) (meeting b a j)).0 h in
    let m = ((meeting-lists b a w v j).member s.0).1 s.1 in
    absurd (true≢false s.2 (f m.0 s.0 m.2 m.1)))

-- what is taken for b's granule at u begins behind j: the later instants of j are in no other granule of b
pub later : (p : Pick) (a b : Row) (v : Valid a) (w : Valid b) (j i u : ℤ) (m : Picked) → meant b u ≡ some i → Picks p (candidates false a b i) m → m.low ≤ℤ m.high → j <ℤ m.low
    → takes p false a b j i ≡ false → (z : ℤ) → u ≤ℤ z → Passes p a b j z
later p a b v w j i u m label f some-picked behind not z after l own e =
    let s = ((meeting-lists a b v w i).member m.low).1 ((member-iff m.low (meeting a b i)).0 (f.ends some-picked).0) in
    let before : z ≤ℤ s.0 = ⊎_elim (λ h. absurd (v.ordered s.0 z m.low j h s.1 own ∴ behind ∴ simp ints (omega arith))) (λ h. h ∴ simp ints (omega arith)) (le-or-lt s.0 z) in
    ap (takes p false a b j) (≤ℤ-antisym (w.ordered z s.0 l i before e s.2) (w.ordered u z i l after label e)) ∙ not
