-- The walk over a granule of b that finds the granules of a in question: where it stands, its steps and its end.
-- Assumes nothing.
use mathlib.Core.Path.{◌≡◌, refl, sym, ◌∙◌, ap}
use mathlib.Core.Logic.{◌⊎◌, inl, inr, ⊎_elim}
use mathlib.Core.Option.{none, some}
use mathlib.Core.Bool.{Bool, true, false}
use mathlib.Core.List.Memᴰ
use mathlib.Core.List.{List, [], ◌∷◌, ◌++◌, Memᴰ}
use Prim.Native.Nat.{◌<◌}
use native.Mathlib.Omega.{arith}
use lib.IntN.{ℤ, pos, ◌+ℤ◌, ◌-ℤ◌, ◌*ℤ◌}
use lib.Signed.{◌≤ℤ◌, ◌<ℤ◌}
use lib.ListN.{length, length-append}
use Rattle.integers.proofs.Linear.{ints, ◌∴◌}
use Rattle.integers.proofs.Order.{≤ℤ-antisym, le-or-lt, up-less, Cases, cases}
use Rattle.integers.proofs.Order.Cases.{below, equal, above}
use Rattle.calendar.specs.Meaning.{Row, meant, Meets}
use Rattle.calendar.specs.Algebra.{Lists, positions}
use Rattle.granules.specs.Valid.{Valid}
use Rattle.granules.proofs.Tests.{some_inj, none≢some, true≢false}
use Rattle.granules.proofs.Lists.{rising-more, front_of, lists-unique}
use Rattle.granules.proofs.Calendars.{label-moved}
use Rattle.granules.proofs.Rows.{meant-repeats}
use Rattle.granules.proofs.Inside.{inside-iff, meeting-lists, within-lists}
use Rattle.cursors.specs.declared.Cursor.{Cursor}
use Rattle.cursors.specs.Cursor.{cursor_at}
use Rattle.granule_ends.proofs.Walks.{ahead}
use Rattle.containment.specs.First.{FirstInstant}
use Rattle.candidates.specs.declared.Tally.{Tally}
use Rattle.candidates.specs.Tallies.{candidates, counts, New, tally_of}
use Rattle.candidates.proofs.Positions.{positions-front}
use Rattle.candidates.proofs.Tallying.{tally-fields, tally-alike}

-- ---- the granules in question

pub candidates-lists : (whole : Bool) (a b : Row) → Valid a → Valid b → (i : ℤ) → Lists (λ k. Meets (meant a) k (meant b) i × (counts whole a b i k ≡ true)) (candidates whole a b i)
candidates-lists true a b v w i =
    let l = within-lists a b v w i in
    record {
      rising = l.rising;
      member = λ k. (
        λ h. (l.member k).0 ((h.0.0, h.0.1), (inside-iff a b v k i).0 h.1),
        λ m. let h = (l.member k).1 m in ((h.0.0, h.0.1, h.1 h.0.0 h.0.1), (inside-iff a b v k i).1 h.1),
      );
    }
candidates-lists false a b v w i =
    let l = meeting-lists a b v w i in
    record { rising = l.rising; member = λ k. (λ h. (l.member k).0 h.0, λ m. ((l.member k).1 m, refl)) }

-- ---- where the walk stands

-- k is the label in a of an instant of b's granule i before u
abbrev pub Looked : Row → Row → ℤ → ℤ → ℤ → Type 0
Looked a b i u k = (w : ℤ) × (meant b w ≡ some i) × (w <ℤ u) × (meant a w ≡ some k)

-- and its granule is in question
abbrev pub Seen : Bool → Row → Row → ℤ → ℤ → ℤ → Type 0
Seen whole a b i u k = Looked a b i u k × (counts whole a b i k ≡ true)

-- no label is looked at yet, or `latest` is the greatest of them
abbrev pub Latest : Row → Row → ℤ → ℤ → Bool → ℤ → Type 0
Latest a b i u looked latest =
    ((looked ≡ false) × ((k : ℤ) → Looked a b i u k → ⊥))
    ⊎ ((looked ≡ true) × (Looked a b i u latest × ((k : ℤ) → Looked a b i u k → k ≤ℤ latest)))

-- a walk from t, the first instant of the granule, that has seen the instants before u, with the cursors of u: the granules in question so far, with
-- their tally, and the label looked at last
pub record Walk (whole : Bool) (a b : Row) (i t lo hi u : ℤ) (c d : Cursor) (looked : Bool) (latest : ℤ) (r : Tally) : Type 0 where
  pub a-cursor : c ≡ cursor_at a u
  pub b-cursor : d ≡ cursor_at b u
  pub seen : List ℤ
  pub lists : Lists (Seen whole a b i u) seen
  pub last : Latest a b i u looked latest
  pub tally : r ≡ tally_of lo hi seen
  pub few : (pos (length seen) +ℤ t) ≤ℤ u
  pub low : t ≤ℤ u
  pub high : u ≤ℤ (t +ℤ pos b.period)

-- they are counted; a granule has no more of them than a turn has instants
pub walk-few : (whole : Bool) (a b : Row) (i t lo hi u : ℤ) (c d : Cursor) (looked : Bool) (latest : ℤ) (r : Tally) (w : Walk whole a b i t lo hi u c d looked latest r)
    → (pos 0 ≤ℤ r.count) × (r.count ≤ℤ pos b.period)
walk-few whole a b i t lo hi u c d looked latest r w =
    let e = (tally-fields lo hi w.seen r w.tally).count-is in
    (e ∴ simp ints (omega arith), e ∴ w.few ∴ w.high ∴ simp ints (omega arith))

<≤ℤ : {x y z : ℤ} → x <ℤ y → y ≤ℤ z → x ≤ℤ z
<≤ℤ h k = h ∴ k ∴ simp ints (omega arith)

module _ (whole : Bool) (a b : Row) (v : Valid a) (w : Valid b) (i t lo hi : ℤ) (g : FirstInstant b i t) where
  pub walk_start : (c d : Cursor) (k : ℤ) (r : Tally) → c ≡ cursor_at a t → d ≡ cursor_at b t → r ≡ tally_of lo hi [] → Walk whole a b i t lo hi t c d false k r
  walk_start c d k r p q s = record {
    a-cursor = p;
    b-cursor = q;
    seen = [];
    lists = record { rising = tt; member = λ k. (λ s. absurd (nothing k s.0), λ m. absurd (Memᴰ.not-nil m)) };
    last = inl (refl, nothing);
    tally = s;
    few = simp ints (omega arith);
    low = simp ints (omega arith);
    high = simp ints (omega arith);
  }
    where
      nothing : (k : ℤ) → Looked a b i t k → ⊥
      nothing k s = g.least s.0 s.1 ∴ s.2 ∴ simp ints (omega arith)

  module _ (u : ℤ) (c d : Cursor) (looked : Bool) (latest : ℤ) (r : Tally) (x : Walk whole a b i t lo hi u c d looked latest r) where
    -- past u: u' is the next instant
    module _ (u' : ℤ) (c' d' : Cursor) (next : c' ≡ cursor_at a u') (beside : d' ≡ cursor_at b u') (step : u' ≡ u +ℤ pos 1) where
      pub walk-less : ahead b.period (t +ℤ pos 1) u' < ahead b.period (t +ℤ pos 1) u
      walk-less = up-less (t +ℤ pos 1 -ℤ u' +ℤ pos b.period) (t +ℤ pos 1 -ℤ u +ℤ pos b.period) (step ∴ simp ints (omega arith)) (x.high ∴ simp ints (omega arith))

      -- a period on, the label is another
      within-turn : ((k : ℤ) → meant b u ≡ some k → k ≡ i) → u' ≤ℤ (t +ℤ pos b.period)
      within-turn same = by (cases u (t +ℤ pos b.period))
        where
          moved : u ≡ t +ℤ pos b.period → meant b u ≡ some (i +ℤ pos b.distance *ℤ pos 1)
          moved e = ap (meant b) (e ∴ simp ints (omega arith)) ∙ label-moved (meant b) b.period b.distance (meant-repeats b w.positive.0) (pos 1) t i g.label

          by : Cases u (t +ℤ pos b.period) → u' ≤ℤ (t +ℤ pos b.period)
          by (below l) = l ∴ step ∴ simp ints (omega arith)
          by (equal l) = absurd (same _ (moved l) ∴ w.positive.1 ∴ simp ints (omega arith))
          by (above l) = absurd (l ∴ x.high ∴ simp ints (omega arith))

      -- an instant before u' is one before u, or u itself
      split : (y : ℤ) → y <ℤ u' → (y <ℤ u) ⊎ (y ≡ u)
      split y p = ⊎_elim (λ (q : u ≤ℤ y). inr (q ∴ p ∴ step ∴ simp ints (omega arith))) (λ q. inl q) (le-or-lt u y)

      later : (k : ℤ) → Looked a b i u k → Looked a b i u' k
      later k s = (s.0, s.1, s.2 ∴ step ∴ simp ints (omega arith), s.3)

      -- a label looked at is one looked at before, or that of u
      sooner : (k : ℤ) → Looked a b i u' k → Looked a b i u k ⊎ ((meant b u ≡ some i) × (meant a u ≡ some k))
      sooner k s =
          ⊎_elim (λ (q : s.0 <ℤ u). inl (s.0, s.1, q, s.3)) (λ (q : s.0 ≡ u). inr (ap (meant b) (sym q) ∙ s.1, ap (meant a) (sym q) ∙ s.3)) (split s.0 s.2)

      -- u shows no label in the granule but one looked at before
      still : ((k : ℤ) → meant b u ≡ some k → k ≡ i) → ((k : ℤ) → meant b u ≡ some i → meant a u ≡ some k → Looked a b i u k)
          → Walk whole a b i t lo hi u' c' d' looked latest r
      still same old = record {
        a-cursor = next;
        b-cursor = beside;
        seen = x.seen;
        lists = record {
          rising = x.lists.rising;
          member = λ k. (λ s. (x.lists.member k).0 (back k s.0, s.1), λ m. let s = (x.lists.member k).1 m in (later k s.0, s.1));
        };
        last = ⊎_elim (λ q. inl (q.0, λ k s. q.1 k (back k s))) (λ q. inr (q.0, (later latest q.1.0, λ k s. q.1.1 k (back k s)))) x.last;
        tally = x.tally;
        few = x.few ∴ step ∴ simp ints (omega arith);
        low = x.low ∴ step ∴ simp ints (omega arith);
        high = within-turn same;
      }
        where
          back : (k : ℤ) → Looked a b i u' k → Looked a b i u k
          back k s = ⊎_elim (λ q. q) (λ q. old k q.0 q.1) (sooner k s)

      -- u is not in the granule
      pub walk-past : meant b u ≡ none → Walk whole a b i t lo hi u' c' d' looked latest r
      walk-past e = still (λ k q. absurd (none≢some (sym e ∙ q))) (λ k q _. absurd (none≢some (sym e ∙ q)))

      -- or has no label in a
      pub walk-bare : meant b u ≡ some i → meant a u ≡ none → Walk whole a b i t lo hi u' c' d' looked latest r
      walk-bare e f = still (λ k q. some_inj (sym q ∙ e)) (λ k _ q. absurd (none≢some (sym f ∙ q)))

      -- or the one looked at last
      pub walk_same : meant b u ≡ some i → looked ≡ true → meant a u ≡ some latest → Walk whole a b i t lo hi u' c' d' looked latest r
      walk_same e y f = still (λ k q. some_inj (sym q ∙ e)) (λ k _ q. rw (some_inj (sym q ∙ f)) before)
        where
          before : Looked a b i u latest
          before = ⊎_elim (λ q. absurd (true≢false y q.0)) (λ q. q.1.0) x.last

      -- a label j that was not looked at
      module _ (j : ℤ) (e : meant b u ≡ some i) (f : meant a u ≡ some j) (n : New looked latest j) where
        here : Looked a b i u' j
        here = (u, e, step ∴ simp ints (omega arith), f)

        greatest : (k : ℤ) → Looked a b i u' k → k ≤ℤ j
        greatest k s = v.ordered s.0 u k j (s.2 ∴ step ∴ simp ints (omega arith)) s.3 f

        greater : (k : ℤ) → Looked a b i u k → k <ℤ j
        greater k s = by x.last n
          where
            by : Latest a b i u looked latest → New looked latest j → k <ℤ j
            by (inl q) n = absurd (q.1 k s)
            by (inr q) (inl y) = absurd (true≢false q.0 y)
            by (inr q) (inr o) =
                ⊎_elim (λ (h : j ≤ℤ latest). absurd (o (≤ℤ-antisym h (greatest latest (later latest q.1.0))))) (λ (h : latest <ℤ j). q.1.1 k s ∴ h ∴ simp ints (omega arith)) (le-or-lt j latest)

        last_more : Latest a b i u' true j
        last_more = inr (refl, (here, greatest))

        -- whose granule is not in question
        pub walk-passed : counts whole a b i j ≡ false → Walk whole a b i t lo hi u' c' d' true j r
        walk-passed o = record {
          a-cursor = next;
          b-cursor = beside;
          seen = x.seen;
          lists = record {
            rising = x.lists.rising;
            member = λ k. (λ s. (x.lists.member k).0 (back k s), λ m. let s = (x.lists.member k).1 m in (later k s.0, s.1));
          };
          last = last_more;
          tally = x.tally;
          few = x.few ∴ step ∴ simp ints (omega arith);
          low = x.low ∴ step ∴ simp ints (omega arith);
          high = within-turn (λ k q. some_inj (sym q ∙ e));
        }
          where
            back : (k : ℤ) → Seen whole a b i u' k → Seen whole a b i u k
            back k s = ⊎_elim (λ q. (q, s.1)) (λ q. absurd (true≢false s.1 (ap (counts whole a b i) (some_inj (sym q.1 ∙ f)) ∙ o))) (sooner k s.0)

        -- whose granule is the next in question
        pub walk-next : counts whole a b i j ≡ true → (r' : Tally) → ((l : List ℤ) → r ≡ tally_of lo hi l → r' ≡ tally_of lo hi (l ++ (j ∷ [])))
            → Walk whole a b i t lo hi u' c' d' true j r'
        walk-next o r' y = record {
          a-cursor = next;
          b-cursor = beside;
          seen = x.seen ++ (j ∷ []);
          lists = record {
            rising = rising-more x.seen j x.lists.rising (λ k m. greater k ((x.lists.member k).1 m).0);
            member = λ k. (
              λ s. ⊎_elim (λ q. Memᴰ.append_left (j ∷ []) ((x.lists.member k).0 (q, s.1))) (λ q. Memᴰ.append_right x.seen (Memᴰ.head (some_inj (sym q.1 ∙ f)))) (sooner k s.0),
              λ m. ⊎_elim (λ (p : Memᴰ k x.seen). let s = (x.lists.member k).1 p in (later k s.0, s.1)) (λ (p : Memᴰ k (j ∷ [])). rw (Memᴰ.eq_of_singleton p) (here, o)) (Memᴰ.append_cases x.seen m),
            );
          };
          last = last_more;
          tally = y x.seen x.tally;
          few = simp length-append (x.few ∴ step ∴ simp ints (omega arith));
          low = x.low ∴ step ∴ simp ints (omega arith);
          high = within-turn (λ k q. some_inj (sym q ∙ e));
        }

    -- ---- the end

    -- what was seen stands before the other granules in question
    seen_front : (n : List ℤ) × (candidates whole a b i ≡ x.seen ++ n)
    seen_front = front_of x.seen (candidates whole a b i) x.lists.rising all.rising inner outer
      where
        all : Lists (λ k. Meets (meant a) k (meant b) i × (counts whole a b i k ≡ true)) (candidates whole a b i)
        all = candidates-lists whole a b v w i

        inner : (k : ℤ) → Memᴰ k x.seen → Memᴰ k (candidates whole a b i)
        inner k m = let s = (x.lists.member k).1 m in (all.member k).0 ((s.0.0, s.0.3, s.0.1), s.1)

        outer : (k j : ℤ) → Memᴰ k (candidates whole a b i) → Memᴰ j x.seen → k ≤ℤ j → Memᴰ k x.seen
        outer k j m n h =
            let s = (all.member k).1 m in
            let q = (x.lists.member j).1 n in
            ⊎_elim
            (λ (o : u ≤ℤ s.0.0). rw (≤ℤ-antisym h (v.ordered q.0.0 s.0.0 j k (<≤ℤ q.0.2 o) q.0.3 s.0.1)) n)
            (λ (o : s.0.0 <ℤ u). (x.lists.member k).0 ((s.0.0, s.0.2, o, s.0.1), s.1))
            (le-or-lt u s.0.0)

    -- all positions asked for are behind
    pub walk-full : hi ≤ℤ r.count → let all = tally_of lo hi (candidates whole a b i) in (r.low ≡ all.low) × (r.high ≡ all.high)
    walk-full h =
        let n = seen_front in
        let e = (tally-fields lo hi x.seen r x.tally).count-is in
        let p = positions-front lo hi (pos 1) x.seen n.0 (h ∴ e ∴ simp ints (omega arith)) in
        tally-alike lo hi x.seen (candidates whole a b i) r x.tally (sym (ap (positions lo hi (pos 1)) n.1 ∙ p))

    -- another label of b shows: all instants of the granule are seen
    pub walk_end : (k : ℤ) → meant b u ≡ some k → (k ≡ i → ⊥) → let all = tally_of lo hi (candidates whole a b i) in
        ((r.low ≡ all.low) × (r.high ≡ all.high)) × (r.count ≡ pos (length (candidates whole a b i)))
    walk_end k e other = (
      tally-alike lo hi x.seen (candidates whole a b i) r x.tally (ap (positions lo hi (pos 1)) same),
      (tally-fields lo hi x.seen r x.tally).count-is ∙ ap (λ (l : List ℤ). pos (length l)) same,
    )
      where
        all_seen : (y : ℤ) → meant b y ≡ some i → y <ℤ u
        all_seen y p =
            ⊎_elim
            (λ (q : u ≤ℤ y). absurd (other (≤ℤ-antisym (w.ordered u y k i q e p) (w.ordered t u i k x.low g.label e))))
            (λ (q : y <ℤ u). q)
            (le-or-lt u y)

        same : x.seen ≡ candidates whole a b i
        same = lists-unique x.seen (candidates whole a b i)
            (record {
              rising = x.lists.rising;
              member = λ j. (
                λ s. (x.lists.member j).0 ((s.0.0, s.0.2, all_seen s.0.0 s.0.2, s.0.1), s.1),
                λ m. let s = (x.lists.member j).1 m in ((s.0.0, s.0.3, s.0.1), s.1),
              );
            })
            (candidates-lists whole a b v w i)
