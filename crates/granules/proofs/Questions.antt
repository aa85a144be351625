-- The answers to questions, each in terms of the meaning.
use mathlib.Core.Path.{◌≡◌, refl, sym, ◌∙◌, ap, subst}
use mathlib.Core.Logic.{◌↔◌, ◌⊎◌, inl, inr}
use mathlib.Core.Option.{Option, none, some, map, some-injective, none-ne-some}
use mathlib.Core.Bool.{Bool, true, false, cond}
use mathlib.Core.List.{List, [], ◌∷◌, Memᴰ}
use Prim.Native.Nat.{ℕ, suc, ◌≤◌, ◌<◌}
use native.Mathlib.Omega.{arith}
use lib.IntN.{ℤ, pos, ◌+ℤ◌}
use lib.Signed.{◌≤ℤ◌, ◌<ℤ◌, le_z}
use lib.ListN.{length, get_or}
use Rattle.integers.proofs.Linear.{ints}
use Rattle.calendar.specs.Meaning.{Row, meant, Has, Inside, label_of, empty, raise}
use Rattle.calendar.specs.Algebra.{Rising, Lists}
use Rattle.calendar.specs.Lists.{any, keep, from, first, last, is, is_some}
use Rattle.calendar.specs.Granules.{granule, inside, within}
use Rattle.calendar.specs.Questions.{holder, made_up, labelled_instants, place, Placed, placed, granule_length}
use Rattle.granules.specs.Valid.{Valid}
use Rattle.granules.proofs.Tests.{some_inj, none≢some, none_or_some, is-iff, le_z-iff}
use Rattle.granules.proofs.Lists.{mem-from, mem-keep, all-iff, any-iff, length_from, rising-from, rising-keep, lists-unique, first-least, last-greatest}
use Rattle.granules.proofs.Calendars.{granule-near}
use Rattle.granules.proofs.Rows.{meant-repeats, meant-cell}
use Rattle.granules.proofs.Granule.{granule-lists}
use Rattle.granules.proofs.Inside.{inside-iff, within-lists}
use Rattle.granules.proofs.Count.{count, count-at-most, count-all, count-window, member-length}

-- ---- the first and the last instant of a granule

module _ (r : Row) (v : Valid r) (z : ℤ) (h : Has (meant r) z) where
  pub first-labelled : meant r (first (granule r z)) ≡ some z
  first-labelled =
      let g = granule-lists r v z in
      (g.member (first (granule r z))).1 (first-least h.0 (granule r z) g.rising ((g.member h.0).0 h.1)).0

  pub last-labelled : meant r (last (granule r z)) ≡ some z
  last-labelled =
      let g = granule-lists r v z in
      (g.member (last (granule r z))).1 (last-greatest h.0 (granule r z) g.rising ((g.member h.0).0 h.1)).0

pub first-at-most : (r : Row) → Valid r → (z u : ℤ) → meant r u ≡ some z → first (granule r z) ≤ℤ u
first-at-most r v z u e = let g = granule-lists r v z in (first-least u (granule r z) g.rising ((g.member u).0 e)).1

pub last-at-least : (r : Row) → Valid r → (z u : ℤ) → meant r u ≡ some z → u ≤ℤ last (granule r z)
last-at-least r v z u e = let g = granule-lists r v z in (last-greatest u (granule r z) g.rising ((g.member u).0 e)).1

-- ---- up

-- "the h label whose slot contains all of it"
pub holder-iff : (g h : Row) → Valid g → Valid h → (z i : ℤ) → Has (meant g) z → (holder g h z ≡ some i) ↔ Inside (meant g) z (meant h) i
unfolding holder
holder-iff g h v w z i p = (there (meant h (first (granule g z))), back)
  where
    answered : Option ℤ → Option ℤ
    answered o = elim o [ none ↦ none | some i ↦ cond (inside g z h i) (some i) none ]

    there : (o : Option ℤ) → answered o ≡ some i → Inside (meant g) z (meant h) i
    there none e = absurd (none≢some e)
    there (some k) e = by (inside g z h k) refl e
      where
        by : (b : Bool) → inside g z h k ≡ b → cond b (some k) none ≡ some i → Inside (meant g) z (meant h) i
        by true q e = rw (some_inj e) at ((inside-iff g h v z k).0 q)
        by false q e = absurd (none≢some e)

    back : Inside (meant g) z (meant h) i → holder g h z ≡ some i
    back s =
        ap answered (s (first (granule g z)) (first-labelled g v z p))
        ∙ ap (λ (b : Bool). cond b (some i) none) ((inside-iff g h v z i).1 s)

-- "or 'none'": no slot of h contains all of it
pub holder-none : (g h : Row) → Valid g → Valid h → (z : ℤ) → Has (meant g) z → (holder g h z ≡ none) ↔ (¬ ((i : ℤ) × Inside (meant g) z (meant h) i))
holder-none g h v w z p = (λ e s. none≢some (sym e ∙ (holder-iff g h v w z s.0 p).1 s.1), λ f. by f (none_or_some (holder g h z)))
  where
    by : ¬ ((i : ℤ) × Inside (meant g) z (meant h) i) → (holder g h z ≡ none) ⊎ ((i : ℤ) × (holder g h z ≡ some i)) → holder g h z ≡ none
    by f (inl e) = e
    by f (inr s) = absurd (f (s.0, (holder-iff g h v w z s.0 p).0 s.1))

-- ---- down

-- "the labels of g's slots inside it, rising"
pub parts-exact : (g h : Row) → Valid g → Valid h → (z : ℤ)
    → Rising (within g h z) × ((k : ℤ) → Memᴰ k (within g h z) ↔ (Has (meant g) k × Inside (meant g) k (meant h) z))
parts-exact g h v w z = let x = within-lists g h v w z in (x.rising, λ k. ((x.member k).1, (x.member k).0))

-- the union of the parts is the granule
pub made_up-iff : (h g : Row) → Valid h → Valid g → (z : ℤ)
    → (made_up h g z ≡ true) ↔ ((u : ℤ) → meant h u ≡ some z → (k : ℤ) × (meant g u ≡ some k) × Inside (meant g) k (meant h) z)
unfolding made_up
made_up-iff h g v w z =
    let i = granule-lists h v z in
    let x = within-lists g h w v z in
    let a = all-iff (λ u. any (λ k. is k (meant g u)) (within g h z)) (granule h z) in (
      λ e u p.
          let s = (any-iff (λ k. is k (meant g u)) (within g h z)).0 (a.0 e u ((i.member u).0 p)) in
          (s.0, (is-iff s.0 (meant g u)).0 s.2, ((x.member s.0).1 s.1).1),
      λ f. a.1 λ u m.
          let s = f u ((i.member u).1 m) in
          (any-iff (λ k. is k (meant g u)) (within g h z)).1 (s.0, (x.member s.0).0 ((u, s.1), s.2), (is-iff s.0 (meant g u)).1 s.1),
    )

-- ---- labelled instants

is_some-raise : (n : ℤ) (o : Option ℤ) → is_some (raise n o) ≡ is_some o
is_some-raise n none = refl
is_some-raise n (some j) = refl

-- as many of the instants from t on pass one test as of the cells l pass another, where each instant passes as its cell
count_same : (f g : ℤ → Bool) (l : List ℤ) (t : ℤ) → ((k : ℕ) → k < length l → f (t +ℤ pos k) ≡ g (get_or l k empty)) → count f (from t (length l)) ≡ count g l
count_same f g [] t h = refl
count_same f g (x ∷ l) t h =
    ap (λ (b : Bool). length (cond b (t ∷ rest) rest)) (ap f (simp ints (omega arith)) ∙ h 0 (omega arith))
    ∙ by (g x) (count_same f g l (t +ℤ pos 1) (λ k p. ap f (simp ints (omega arith)) ∙ h (suc k) (omega arith)))
  where
    rest : List ℤ
    rest = keep f (from (t +ℤ pos 1) (length l))

    by : (b : Bool) → length rest ≡ count g l → length (cond b (t ∷ rest) rest) ≡ length (cond b (x ∷ keep g l) (keep g l))
    by true e = ap suc e
    by false e = e

-- "labelled instants per period": among any P instants in a row
pub labelled-window : (r : Row) → Valid r → (s : ℤ) → length (keep (λ t. is_some (meant r t)) (from s r.period)) ≡ labelled_instants r
labelled-window r v s =
    let f : ℤ → Bool = λ t. is_some (meant r t) in
    count-window f r.period (λ u. ap is_some (meant-repeats r v.positive.0 u) ∙ is_some-raise (pos r.distance) (meant r u)) s
    ∙ ap (λ (n : ℕ). count f (from (pos 0) n)) (sym v.whole)
    ∙ count_same f (λ z. is_some (label_of z)) r.cells (pos 0)
    (λ k p. ap f (simp ints (omega arith)) ∙ ap is_some (meant-cell r k (omega (arith, v.whole))))

-- ---- the place of an instant in its granule

-- over the meaning: however the instants of the granule up to t are listed, there are so many
pub place-lists : (r : Row) → Valid r → (j t : ℤ) (l : List ℤ) → Lists (λ u. (meant r u ≡ some j) × (u ≤ℤ t)) l → length l ≡ place r j t
unfolding place
place-lists r v j t l x = ap length (lists-unique l (keep f (granule r j)) x kept)
  where
    f : ℤ → Bool
    f u = le_z u t

    kept : Lists (λ u. (meant r u ≡ some j) × (u ≤ℤ t)) (keep f (granule r j))
    kept = let g = granule-lists r v j in record {
      rising = rising-keep f (granule r j) g.rising;
      member = λ u. (
        λ h. (mem-keep f u (granule r j)).1 ((g.member u).0 h.0, (le_z-iff u t).1 h.1),
        λ m. let h = (mem-keep f u (granule r j)).0 m in ((g.member u).1 h.0, (le_z-iff u t).0 h.1),
      );
    }

-- "from 1"
pub place-positive : (r : Row) → Valid r → (j t : ℤ) → meant r t ≡ some j → 1 ≤ place r j t
unfolding place
place-positive r v j t e = member-length (keep (λ u. le_z u t) (granule r j))
    ((mem-keep (λ u. le_z u t) t (granule r j)).1 (((granule-lists r v j).member t).0 e, (le_z-iff t t).1 (simp ints (omega arith))))

-- a label, with the place of t in that granule
abbrev pub at_label : Row → ℤ → ℤ → Placed
at_label r t j = record { label = j; place = place r j t }

-- the label is the one that the row gives, and the place is the instant's in that granule
pub placed-some : (r : Row) (t : ℤ) (p : Placed)
    → (placed r t ≡ some p) ↔ ((meant r t ≡ some p.label) × (p.place ≡ place r p.label t))
unfolding placed
placed-some r t p = (
  there (meant r t),
  λ (e, q). ap (map (at_label r t)) e ∙ ap (λ (n : ℕ). some (record { label = p.label; place = n })) (sym q),
)
  where
    there : (o : Option ℤ) → map (at_label r t) o ≡ some p → (o ≡ some p.label) × (p.place ≡ place r p.label t)
    there none e = absurd (none-ne-some p e)
    there (some j) e =
        subst (λ (x : Placed). (some j ≡ some x.label) × (x.place ≡ place r x.label t))
        (some-injective (at_label r t j) p e) (refl, refl)

-- "'None' has no place."
pub placed-none : (r : Row) (t : ℤ) → (placed r t ≡ none) ↔ (meant r t ≡ none)
unfolding placed
placed-none r t = (there (meant r t), λ e. ap (map (at_label r t)) e)
  where
    there : (o : Option ℤ) → map (at_label r t) o ≡ none → o ≡ none
    there none e = refl
    there (some j) e = absurd (none-ne-some (at_label r t j) (sym e))

-- ---- the length of a granule

-- over the meaning: however the instants of the granule are listed, there are so many
pub length-lists : (r : Row) → Valid r → (z : ℤ) (l : List ℤ) → Lists (λ u. meant r u ≡ some z) l → length l ≡ granule_length r z
unfolding granule_length
length-lists r v z l x = ap length (lists-unique l (granule r z) x (granule-lists r v z))

-- "the length in the lateness rule is the place of the slot's last instant" (document 02, Req 08), wherever that lies
pub place-last : (r : Row) → Valid r → (z : ℤ) → place r z (last (granule r z)) ≡ granule_length r z
unfolding place granule_length
place-last r v z =
    (count-all (λ u. le_z u (last (granule r z))) (granule r z)).1
    (λ u m. (le_z-iff u (last (granule r z))).1 (last-at-least r v z u (((granule-lists r v z).member u).1 m)))

-- so that is what asking upward from the last instant would give, were there no range
pub placed-last : (r : Row) → Valid r → (z : ℤ) → Has (meant r) z
    → placed r (last (granule r z)) ≡ some (record { label = z; place = granule_length r z })
placed-last r v z h = (placed-some r (last (granule r z)) (record { label = z; place = granule_length r z })).1
    (last-labelled r v z h, sym (place-last r v z))

pub length-positive : (r : Row) → Valid r → (z : ℤ) → Has (meant r) z → 1 ≤ granule_length r z
unfolding granule_length
length-positive r v z h = member-length (granule r z) (((granule-lists r v z).member h.0).0 h.1)

pub place-at-most : (r : Row) (j t : ℤ) → place r j t ≤ granule_length r j
unfolding place granule_length
place-at-most r j t = count-at-most (λ u. le_z u t) (granule r j)

-- a granule has no more instants than a period: they are among the P instants from its first on
pub length-at-most : (r : Row) → Valid r → (z : ℤ) → Has (meant r) z → granule_length r z ≤ r.period
length-at-most r v z h = omega (arith, length-lists r v z (keep f w) window, count-at-most f w, length_from start r.period)
  where
    start : ℤ
    start = first (granule r z)

    w : List ℤ
    w = from start r.period

    f : ℤ → Bool
    f u = is z (meant r u)

    near : (u : ℤ) → meant r u ≡ some z → u <ℤ (start +ℤ pos r.period)
    near u e = granule-near (meant r) r.period r.distance (meant-repeats r v.positive.0) v.positive.1 v.ordered start u z (first-labelled r v z h) e

    window : Lists (λ u. meant r u ≡ some z) (keep f w)
    window = record {
      rising = rising-keep f w (rising-from start r.period);
      member = λ u. (
        λ e. (mem-keep f u w).1 ((mem-from u start r.period).1 (first-at-most r v z u e, near u e), (is-iff z (meant r u)).1 e),
        λ m. (is-iff z (meant r u)).0 ((mem-keep f u w).0 m).1,
      );
    }
