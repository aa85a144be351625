-- The walk over a granule of h for the granules of g that make it up: where it stands and its steps.
-- Assumes nothing.
use mathlib.Core.Path.{◌≡◌, refl, sym, ◌∙◌, ap}
use mathlib.Core.Logic.{◌⊎◌, inl, inr, ⊎_elim}
use mathlib.Core.Option.{none, some}
use mathlib.Core.Bool.{true}
use mathlib.Core.List.Memᴰ
use mathlib.Core.List.{List, [], ◌∷◌, ◌++◌, Memᴰ}
use Prim.Native.Nat.{ℕ, ◌+◌, ◌<◌, ◌≤◌}
use native.Mathlib.Omega.{arith}
use lib.IntN.{ℤ, pos, ◌+ℤ◌, ◌-ℤ◌, ◌*ℤ◌}
use lib.Signed.{◌≤ℤ◌, ◌<ℤ◌}
use lib.ListN.{length, length-append}
use Rattle.integers.proofs.Linear.{ints, ◌∴◌}
use Rattle.integers.proofs.Order.{≤ℤ-antisym, le-or-lt, up-less, Cases, cases}
use Rattle.integers.proofs.Order.Cases.{below, equal, above}
use Rattle.calendar.specs.Meaning.{Row, meant}
use Rattle.calendar.specs.Algebra.{Lists}
use Rattle.granules.specs.Valid.{Valid}
use Rattle.granules.proofs.Tests.{some_inj, none≢some, decided, is-iff}
use Rattle.granules.proofs.Lists.{rising-more}
use Rattle.granules.proofs.Calendars.{label-moved}
use Rattle.granules.proofs.Rows.{meant-repeats}
use Rattle.cursors.specs.declared.Cursor.{Cursor}
use Rattle.cursors.specs.Cursor.{cursor_at}
use Rattle.containment.specs.First.{FirstInstant}
use Rattle.parts.specs.Walk.{Nearest}
use Rattle.parts.proofs.Shown.{Shows}
use Rattle.granule_ends.proofs.Walks.{ahead}

-- k is the label in g of an instant of the granule z of h up to u
abbrev pub Seen : Row → Row → ℤ → ℤ → ℤ → Type 0
Seen h g z u k = (w : ℤ) × (meant h w ≡ some z) × (w ≤ℤ u) × (meant g w ≡ some k)

-- each instant of the granule up to u has a label in g
abbrev pub Covered : Row → Row → ℤ → ℤ → Type 0
Covered h g z u = (w : ℤ) → meant h w ≡ some z → w ≤ℤ u → (k : ℤ) × (meant g w ≡ some k)

-- the instants up to u with one of these labels in g are in the granule
abbrev pub Closed : Row → Row → ℤ → ℤ → List ℤ → Type 0
Closed h g z u l = (k : ℤ) → Memᴰ k l → (w : ℤ) → w ≤ℤ u → meant g w ≡ some k → meant h w ≡ some z

-- o is the greatest label in g of the instants up to u outside the granule
pub record Outer (h g : Row) (z u o : ℤ) : Type 0 where
  pub at : ℤ
  pub label : meant g at ≡ some o
  pub up_to : at ≤ℤ u
  pub out : meant h at ≡ some z → ⊥
  pub most : (w j : ℤ) → w ≤ℤ u → meant g w ≡ some j → (meant h w ≡ some z → ⊥) → j ≤ℤ o

-- the latest part, or there is none as the walk is before the first instant, t
abbrev pub Latest : ℤ → ℤ → ℕ → ℤ → ℤ → List ℤ → Type 0
Latest t u count o k l = ((count ≡ 0) × (u ≡ t -ℤ pos 1) × (k ≡ o)) ⊎ (Memᴰ k l × ((j : ℤ) → Memᴰ j l → j ≤ℤ k))

-- a walk from t, the first instant of the granule, that has seen the instants up to u, with their cursors: the parts, how many they are, the latest,
-- and the last label outside; p, a list of n numbers, shows them
pub record Walk (h g : Row) (z t : ℤ) (n : ℕ) (p : List ℤ) (u : ℤ) (a d : Cursor) (count : ℕ) (o latest : ℤ) : Type 0 where
  pub h-cursor : a ≡ cursor_at h u
  pub g-cursor : d ≡ cursor_at g u
  pub seen : List ℤ
  pub lists : Lists (Seen h g z u) seen
  pub covered : Covered h g z u
  pub closed : Closed h g z u seen
  pub outer : Outer h g z u o
  pub count-is : count ≡ length seen
  pub last : Latest t u count o latest seen
  pub few : (pos count +ℤ t) ≤ℤ (u +ℤ pos 1)
  pub low : t ≤ℤ (u +ℤ pos 1)
  pub high : u <ℤ (t +ℤ pos h.period)
  pub whole : length p ≡ n
  pub shows : Shows p seen

-- a granule has no more parts than a turn has instants
pub walk-few : {h g : Row} {z t : ℤ} {n : ℕ} {p : List ℤ} {u : ℤ} {a d : Cursor} {count : ℕ} {o latest : ℤ} → Walk h g z t n p u a d count o latest → count ≤ h.period
walk-few {h} {count} c =
    let q : pos count ≤ℤ pos h.period = c.few ∴ c.high ∴ simp ints (omega arith) in
    omega (arith, simp ints at q)

empty_of : (l : List ℤ) (j : ℤ) → 0 ≡ length l → Memᴰ j l → ⊥
empty_of [] j e m = Memᴰ.not-nil m
empty_of (x ∷ l) j e m = omega arith

module _ {h g : Row} (v : Valid h) (w : Valid g) {z t : ℤ} (b : FirstInstant h z t) where
  pub walk_start : {n : ℕ} {p : List ℤ} {u : ℤ} {a d : Cursor} {o : ℤ} → length p ≡ n → Shows p [] → a ≡ cursor_at h u → d ≡ cursor_at g u → u ≡ t -ℤ pos 1 → Nearest true g u o
      → Walk h g z t n p u a d 0 o o
  walk_start l s ha ga e m = record {
    h-cursor = ha;
    g-cursor = ga;
    whole = l;
    shows = s;
    seen = [];
    lists = record {
      rising = tt;
      member = λ k. (λ s. absurd (b.least s.0 s.1 ∴ s.2 ∴ e ∴ simp ints (omega arith)), λ m. absurd (Memᴰ.not-nil m));
    };
    covered = λ x p q. absurd (b.least x p ∴ q ∴ e ∴ simp ints (omega arith));
    closed = λ k m. absurd (Memᴰ.not-nil m);
    outer = record { at = m.at; label = m.label; up_to = m.from ∴ simp ints (omega arith); out = λ p. b.least m.at p ∴ m.from ∴ e ∴ simp ints (omega arith); most = λ x j p f _. m.nearest x j (p ∴ simp ints (omega arith)) f ∴ simp ints (omega arith) };
    count-is = refl;
    last = inl (refl, e, refl);
    few = e ∴ simp ints (omega arith);
    low = e ∴ simp ints (omega arith);
    high = e ∴ simp ints (omega arith);
  }

  module _ {n : ℕ} {p : List ℤ} {u u' : ℤ} {a d a' d' : Cursor} {count : ℕ} {o latest : ℤ} (c : Walk h g z t n p u a d count o latest)
      (next : a' ≡ cursor_at h u') (beside : d' ≡ cursor_at g u') (step : u' ≡ u +ℤ pos 1) where
    pub walk-less : ahead h.period t u' < ahead h.period t u
    walk-less = up-less (t -ℤ u' +ℤ pos h.period) (t -ℤ u +ℤ pos h.period) (step ∴ simp ints (omega arith)) (c.high ∴ simp ints (omega arith))

    -- a period on, the label is another
    within-turn : ((i : ℤ) → meant h u' ≡ some i → i ≡ z) → u' <ℤ (t +ℤ pos h.period)
    within-turn same = by (cases u' (t +ℤ pos h.period))
      where
        moved : u' ≡ t +ℤ pos h.period → meant h u' ≡ some (z +ℤ pos h.distance *ℤ pos 1)
        moved e = ap (meant h) (e ∴ simp ints (omega arith)) ∙ label-moved (meant h) h.period h.distance (meant-repeats h v.positive.0) (pos 1) t z b.label

        by : Cases u' (t +ℤ pos h.period) → u' <ℤ (t +ℤ pos h.period)
        by (below l) = l
        by (equal l) = absurd (same _ (moved l) ∴ v.positive.1 ∴ simp ints (omega arith))
        by (above l) = absurd (l ∴ c.high ∴ step ∴ simp ints (omega arith))

    -- an instant up to u' is one up to u, or u' itself
    split : (x : ℤ) → x ≤ℤ u' → (x ≤ℤ u) ⊎ (x ≡ u')
    split x p = ⊎_elim (λ q. inl q) (λ q. inr (q ∴ p ∴ step ∴ simp ints (omega arith))) (le-or-lt x u)

    later : (x : ℤ) → x ≤ℤ u → x ≤ℤ u'
    later x p = p ∴ step ∴ simp ints (omega arith)

    -- the first instant is in the granule: where u' is not, there is a part
    pub has_part : (meant h u' ≡ some z → ⊥) → Memᴰ latest c.seen × ((k : ℤ) → Memᴰ k c.seen → k ≤ℤ latest)
    has_part f = by c.last
      where
        by : Latest t u count o latest c.seen → Memᴰ latest c.seen × ((k : ℤ) → Memᴰ k c.seen → k ≤ℤ latest)
        by (inl q) = absurd (f (ap (meant h) (q.1 ∴ step ∴ simp ints (omega arith)) ∙ b.label))
        by (inr q) = q

    -- past an instant in a gap of the granule, which is in no part
    past : (o' : ℤ) → meant h u' ≡ none → ((k : ℤ) → Memᴰ k c.seen → meant g u' ≡ some k → ⊥) → Outer h g z u' o' → Walk h g z t n p u' a' d' count o' latest
    past o' e f i = record {
      h-cursor = next;
      g-cursor = beside;
      whole = c.whole;
      shows = c.shows;
      seen = c.seen;
      lists = record {
        rising = c.lists.rising;
        member = λ k. (
          λ s. ⊎_elim (λ (r : s.0 ≤ℤ u). (c.lists.member k).0 (s.0, s.1, r, s.3)) (λ (r : s.0 ≡ u'). absurd (none≢some (sym e ∙ ap (meant h) (sym r) ∙ s.1))) (split s.0 s.2),
          λ m. let s = (c.lists.member k).1 m in (s.0, s.1, later s.0 s.2, s.3),
        );
      };
      covered = λ x p q. ⊎_elim (λ (r : x ≤ℤ u). c.covered x p r) (λ (r : x ≡ u'). absurd (none≢some (sym e ∙ ap (meant h) (sym r) ∙ p))) (split x q);
      closed = λ k m x q y. ⊎_elim (λ (r : x ≤ℤ u). c.closed k m x r y) (λ (r : x ≡ u'). absurd (f k m (ap (meant g) (sym r) ∙ y))) (split x q);
      outer = i;
      count-is = c.count-is;
      last = inr (has_part (λ y. none≢some (sym e ∙ y)));
      few = c.few ∴ step ∴ simp ints (omega arith);
      low = c.low ∴ step ∴ simp ints (omega arith);
      high = within-turn (λ i k. absurd (none≢some (sym e ∙ k)));
    }

    -- it has no label in g
    pub walk-past : meant h u' ≡ none → meant g u' ≡ none → Walk h g z t n p u' a' d' count o latest
    walk-past e f = past o e (λ k m y. none≢some (sym f ∙ y)) (record {
      at = c.outer.at;
      label = c.outer.label;
      up_to = later c.outer.at c.outer.up_to;
      out = c.outer.out;
      most = λ x j q y i. ⊎_elim (λ (r : x ≤ℤ u). c.outer.most x j r y i) (λ (r : x ≡ u'). absurd (none≢some (sym f ∙ ap (meant g) (sym r) ∙ y))) (split x q);
    })

    -- it has a label in g that is not the latest part
    pub walk-outside : (k : ℤ) → meant h u' ≡ none → meant g u' ≡ some k → (k ≡ latest → ⊥) → Walk h g z t n p u' a' d' count k latest
    walk-outside k e f other = past k e
        (λ j m y.
        let q = has_part (λ y. none≢some (sym e ∙ y)) in
        let s = (c.lists.member latest).1 q.0 in
        let i = some_inj (sym f ∙ y) in
        other (≤ℤ-antisym (q.1 j m ∴ i ∴ simp ints (omega arith)) (w.ordered s.0 u' latest k (later s.0 s.2) s.3 f)))
        (record {
          at = u';
          label = f;
          up_to = simp ints (omega arith);
          out = λ y. none≢some (sym e ∙ y);
          most = λ x j q y i. w.ordered x u' j k q y f;
        })

    -- an instant of the granule changes nothing outside it
    outer-more : meant h u' ≡ some z → Outer h g z u' o
    outer-more e = record {
      at = c.outer.at;
      label = c.outer.label;
      up_to = later c.outer.at c.outer.up_to;
      out = c.outer.out;
      most = λ x j q y i. ⊎_elim (λ (r : x ≤ℤ u). c.outer.most x j r y i) (λ (r : x ≡ u'). absurd (i (ap (meant h) r ∙ e))) (split x q);
    }

    covered_more : (k : ℤ) → meant g u' ≡ some k → Covered h g z u'
    covered_more k f x p q = ⊎_elim (λ (r : x ≤ℤ u). c.covered x p r) (λ (r : x ≡ u'). (k, ap (meant g) r ∙ f)) (split x q)

    closed-more : meant h u' ≡ some z → Closed h g z u' c.seen
    closed-more e k m x q y = ⊎_elim (λ (r : x ≤ℤ u). c.closed k m x r y) (λ (r : x ≡ u'). ap (meant h) r ∙ e) (split x q)

    -- an instant of the latest part
    pub walk_same : meant h u' ≡ some z → meant g u' ≡ some latest → (latest ≡ o → ⊥) → Walk h g z t n p u' a' d' count o latest
    walk_same e f other = by c.last
      where
        by : Latest t u count o latest c.seen → Walk h g z t n p u' a' d' count o latest
        by (inl q) = absurd (other q.2)
        by (inr q) = record {
          h-cursor = next;
          g-cursor = beside;
          whole = c.whole;
          shows = c.shows;
          seen = c.seen;
          lists = record {
            rising = c.lists.rising;
            member = λ k. (
              λ s. ⊎_elim (λ (r : s.0 ≤ℤ u). (c.lists.member k).0 (s.0, s.1, r, s.3))
                  (λ (r : s.0 ≡ u'). rw (some_inj (sym s.3 ∙ ap (meant g) r ∙ f)) q.0) (split s.0 s.2),
              λ m. let s = (c.lists.member k).1 m in (s.0, s.1, later s.0 s.2, s.3),
            );
          };
          covered = covered_more latest f;
          closed = closed-more e;
          outer = outer-more e;
          count-is = c.count-is;
          last = inr q;
          few = c.few ∴ step ∴ simp ints (omega arith);
          low = c.low ∴ step ∴ simp ints (omega arith);
          high = within-turn (λ i k. some_inj (sym k ∙ e));
        }

    -- the first instant of the next part
    module _ (k : ℤ) (e : meant h u' ≡ some z) (f : meant g u' ≡ some k) (new : k ≡ o → ⊥) (other : k ≡ latest → ⊥) where
      over : (j : ℤ) → Memᴰ j c.seen → j <ℤ k
      over j m = by c.last
        where
          by : Latest t u count o latest c.seen → j <ℤ k
          by (inl q) = absurd (empty_of c.seen j (sym q.0 ∙ c.count-is) m)
          by (inr q) =
              let s = (c.lists.member latest).1 q.0 in
              let l = w.ordered s.0 u' latest k (later s.0 s.2) s.3 f in
              ⊎_elim (λ (x : k ≤ℤ latest). absurd (other (≤ℤ-antisym x l))) (λ (x : latest <ℤ k). q.1 j m ∴ x ∴ simp ints (omega arith)) (le-or-lt k latest)

      -- no instant before has its label outside the granule
      own : (x : ℤ) → x ≤ℤ u → meant g x ≡ some k → meant h x ≡ some z
      own x q y = ⊎_elim
          (λ (i : meant h x ≡ some z). i)
          (λ (i : meant h x ≡ some z → ⊥). absurd (new (≤ℤ-antisym (c.outer.most x k q y i) (w.ordered c.outer.at u' o k (later c.outer.at c.outer.up_to) c.outer.label f))))
          (decided (is-iff z (meant h x)))

      pub walk-next : (p' : List ℤ) → length p' ≡ n → Shows p' (c.seen ++ (k ∷ [])) → Walk h g z t n p' u' a' d' (count + 1) o k
      walk-next p' l x = record {
        h-cursor = next;
        g-cursor = beside;
        whole = l;
        shows = x;
        seen = c.seen ++ (k ∷ []);
        lists = record {
          rising = rising-more c.seen k c.lists.rising over;
          member = λ j. (
            λ s. ⊎_elim (λ (r : s.0 ≤ℤ u). Memᴰ.append_left (k ∷ []) ((c.lists.member j).0 (s.0, s.1, r, s.3)))
                (λ (r : s.0 ≡ u'). Memᴰ.append_right c.seen (Memᴰ.head (some_inj (sym s.3 ∙ ap (meant g) r ∙ f)))) (split s.0 s.2),
            λ m. ⊎_elim (λ (n : Memᴰ j c.seen). let s = (c.lists.member j).1 n in (s.0, s.1, later s.0 s.2, s.3))
                (λ (n : Memᴰ j (k ∷ [])). (u', e, simp ints (omega arith), f ∙ ap some (sym (Memᴰ.eq_of_singleton n)))) (Memᴰ.append_cases c.seen m),
          );
        };
        covered = covered_more k f;
        closed = λ j m x q y. ⊎_elim
            (λ (n : Memᴰ j c.seen). closed-more e j n x q y)
            (λ (n : Memᴰ j (k ∷ [])). ⊎_elim (λ (r : x ≤ℤ u). own x r (y ∙ ap some (Memᴰ.eq_of_singleton n))) (λ (r : x ≡ u'). ap (meant h) r ∙ e) (split x q))
            (Memᴰ.append_cases c.seen m);
        outer = outer-more e;
        count-is = simp length-append (omega (arith, c.count-is));
        last = inr (
          Memᴰ.append_right c.seen (Memᴰ.head refl),
          λ j m. ⊎_elim (λ (n : Memᴰ j c.seen). over j n ∴ simp ints (omega arith)) (λ (n : Memᴰ j (k ∷ [])). Memᴰ.eq_of_singleton n ∴ simp ints (omega arith)) (Memᴰ.append_cases c.seen m),
        );
        few = c.few ∴ step ∴ simp ints (omega arith);
        low = c.low ∴ step ∴ simp ints (omega arith);
        high = within-turn (λ i k. some_inj (sym k ∙ e));
      }
