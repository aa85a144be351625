-- Lists of numbers: members, order, and that a rising list is known by its members.
use mathlib.Core.Path.{◌≡◌, refl, sym, ◌∙◌, ap, ap₂}
use mathlib.Core.Logic.Iff
use mathlib.Core.Logic.{◌↔◌, ◌⊎◌, inl, inr, ⊎_elim}
use mathlib.Core.Option.{Option, none, some}
use mathlib.Core.Bool.{Bool, true, false, cond}
use mathlib.Core.List.Memᴰ
use mathlib.Core.List.{List, [], ◌∷◌, ◌++◌, map, Memᴰ}
use Prim.Native.Nat.{ℕ, zero, suc, ◌<◌}
use native.Mathlib.Omega.{arith}
use lib.IntN.{ℤ, pos, ◌+ℤ◌}
use lib.Signed.{◌≤ℤ◌, ◌<ℤ◌}
use lib.ListN.{length, get_or}
use Rattle.integers.proofs.Linear.{ints, ◌∴◌}
use Rattle.integers.proofs.Order.{Cases, below, equal as same, above, cases, <ℤ→≤ℤ}
use Rattle.calendar.specs.Meaning.{Calendar, Ordered}
use Rattle.calendar.specs.Algebra.{Rising, Lists}
use Rattle.calendar.specs.Lists.{any, all, keep, from, first, last, equal, distinct}
use Rattle.granules.proofs.Tests.{true≢false, and-iff, or-iff, equal-iff, false-iff, some_inj, none≢some}

-- ---- members

pub mem-from : (u t : ℤ) (n : ℕ) → Memᴰ u (from t n) ↔ ((t ≤ℤ u) × (u <ℤ (t +ℤ pos n)))
mem-from u t zero = (λ m. absurd (Memᴰ.not-nil m), λ h. absurd (h.0 ∴ h.1 ∴ simp ints (omega arith)))
mem-from u t (suc n) = let ih = mem-from u (t +ℤ pos 1) n in (λ m. there ih.0 (Memᴰ.cases_cons m), back ih.1 (cases t u))
  where
    Later : Type 0
    Later = ((t +ℤ pos 1) ≤ℤ u) × (u <ℤ (t +ℤ pos 1 +ℤ pos n))

    there : (Memᴰ u (from (t +ℤ pos 1) n) → Later) → (u ≡ t) ⊎ Memᴰ u (from (t +ℤ pos 1) n) → (t ≤ℤ u) × (u <ℤ (t +ℤ pos (suc n)))
    there ih (inl e) = e ∴ simp ints (omega arith)
    there ih (inr m) = ih m ∴ simp ints (omega arith)

    back : (Later → Memᴰ u (from (t +ℤ pos 1) n)) → Cases t u → (t ≤ℤ u) × (u <ℤ (t +ℤ pos (suc n))) → Memᴰ u (from t (suc n))
    back ih (below l) h = Memᴰ.tail (ih (l ∴ h ∴ simp ints (omega arith)))
    back ih (same e) h = Memᴰ.head (sym e)
    back ih (above l) h = absurd (l ∴ h ∴ simp ints (omega arith))

pub mem-keep : (f : ℤ → Bool) (u : ℤ) (l : List ℤ) → Memᴰ u (keep f l) ↔ (Memᴰ u l × (f u ≡ true))
mem-keep f u [] = (λ m. absurd (Memᴰ.not-nil m), λ h. h.0)
mem-keep f u (x ∷ l) = by (f x) refl (mem-keep f u l)
  where
    by : (b : Bool) → f x ≡ b → Memᴰ u (keep f l) ↔ (Memᴰ u l × (f u ≡ true)) → Memᴰ u (cond b (x ∷ keep f l) (keep f l)) ↔ (Memᴰ u (x ∷ l) × (f u ≡ true))
    by true e ih = (
      λ m. ⊎_elim (λ p. (Memᴰ.head p, ap f p ∙ e)) (λ k. (Memᴰ.tail (ih.0 k).0, (ih.0 k).1)) (Memᴰ.cases_cons m),
      λ h. ⊎_elim (λ p. Memᴰ.head p) (λ k. Memᴰ.tail (ih.1 (k, h.1))) (Memᴰ.cases_cons h.0),
    )
    by false e ih = (
      λ m. (Memᴰ.tail (ih.0 m).0, (ih.0 m).1),
      λ h. ⊎_elim (λ p. absurd (true≢false h.1 (ap f p ∙ e))) (λ k. ih.1 (k, h.1)) (Memᴰ.cases_cons h.0),
    )

pub all-iff : (f : ℤ → Bool) (l : List ℤ) → (all f l ≡ true) ↔ ((u : ℤ) → Memᴰ u l → f u ≡ true)
all-iff f [] = (λ e u m. absurd (Memᴰ.not-nil m), λ h. refl)
all-iff f (x ∷ l) = (
  λ e u m. let p = (and-iff (f x) (all f l)).0 e in ⊎_elim (λ q. ap f q ∙ p.0) ((all-iff f l).0 p.1 u) (Memᴰ.cases_cons m),
  λ h. (and-iff (f x) (all f l)).1 (h x (Memᴰ.head refl), (all-iff f l).1 (λ u m. h u (Memᴰ.tail m))),
)

pub any-iff : (f : ℤ → Bool) (l : List ℤ) → (any f l ≡ true) ↔ ((u : ℤ) × Memᴰ u l × (f u ≡ true))
any-iff f [] = (λ e. absurd (true≢false e refl), λ h. absurd (Memᴰ.not-nil h.1))
any-iff f (x ∷ l) = (
  λ e. ⊎_elim (λ p. (x, Memᴰ.head refl, p)) (λ p. let h = (any-iff f l).0 p in (h.0, Memᴰ.tail h.1, h.2)) ((or-iff (f x) (any f l)).0 e),
  λ h. (or-iff (f x) (any f l)).1 (⊎_elim (λ q. inl (ap f (sym q) ∙ h.2)) (λ m. inr ((any-iff f l).1 (h.0, m, h.2))) (Memᴰ.cases_cons h.1)),
)

pub member-iff : (j : ℤ) (l : List ℤ) → (any (equal j) l ≡ true) ↔ Memᴰ j l
member-iff j l = (
  λ e. let h = (any-iff (equal j) l).0 e in Memᴰ.cast ((equal-iff j h.0).0 h.2) h.1,
  λ m. (any-iff (equal j) l).1 (j, m, (equal-iff j j).1 refl),
)

-- what stands behind the end does not matter to a cell before it
pub get_d_any : (l : List ℤ) (i : ℕ) (d e : ℤ) → i < length l → get_or l i d ≡ get_or l i e
get_d_any [] i d e h = absurd (omega arith)
get_d_any (z ∷ l) zero d e h = refl
get_d_any (z ∷ l) (suc i) d e h = get_d_any l i d e (omega arith)

pub length_from : (t : ℤ) (n : ℕ) → length (from t n) ≡ n
length_from t zero = refl
length_from t (suc n) = ap suc (length_from (t +ℤ pos 1) n)

-- ---- rising lists

-- the head of a rising list is below every other member
pub rising-head : (j : ℤ) (l : List ℤ) → Rising (j ∷ l) → (k : ℤ) → Memᴰ k l → j <ℤ k
rising-head j [] r k m = absurd (Memᴰ.not-nil m)
rising-head j (i ∷ l) r k m = by (Memᴰ.cases_cons m) (rising-head i l r.1 k)
  where
    by : (k ≡ i) ⊎ Memᴰ k l → (Memᴰ k l → i <ℤ k) → j <ℤ k
    by (inl e) ih = r.0 ∴ e ∴ simp ints (omega arith)
    by (inr n) ih = r.0 ∴ ih n ∴ simp ints (omega arith)

pub rising-tail : (j : ℤ) (l : List ℤ) → Rising (j ∷ l) → Rising l
rising-tail j [] r = tt
rising-tail j (k ∷ l) r = r.1

pub rising-cons : (j : ℤ) (l : List ℤ) → ((k : ℤ) → Memᴰ k l → j <ℤ k) → Rising l → Rising (j ∷ l)
rising-cons j [] h r = tt
rising-cons j (k ∷ l) h r = (h k (Memᴰ.head refl), r)

-- one list after another that is above it
pub rising-append : (l m : List ℤ) → Rising l → Rising m → ((j k : ℤ) → Memᴰ j l → Memᴰ k m → j <ℤ k) → Rising (l ++ m)
rising-append [] m r s h = s
rising-append (j ∷ l) m r s h =
    rising-cons j (l ++ m) (λ k n. ⊎_elim (rising-head j l r k) (h j k (Memᴰ.head refl)) (Memᴰ.append_cases l n))
    (rising-append l m (rising-tail j l r) s (λ j k a b. h j k (Memᴰ.tail a) b))

-- one number more
pub rising-more : (l : List ℤ) (k : ℤ) → Rising l → ((j : ℤ) → Memᴰ j l → j <ℤ k) → Rising (l ++ (k ∷ []))
rising-more l k r h = rising-append l (k ∷ []) r tt (λ j i m n. rw (Memᴰ.eq_of_singleton n) (h j m))

pub rising-from : (t : ℤ) (n : ℕ) → Rising (from t n)
rising-from t zero = tt
rising-from t (suc n) = rising-cons t (from (t +ℤ pos 1) n) (λ k m. (mem-from k (t +ℤ pos 1) n).0 m ∴ simp ints (omega arith)) (rising-from (t +ℤ pos 1) n)

pub rising-keep : (f : ℤ → Bool) (l : List ℤ) → Rising l → Rising (keep f l)
rising-keep f [] r = tt
rising-keep f (x ∷ l) r = by (f x) (rising-keep f l (rising-tail x l r))
  where
    by : (b : Bool) → Rising (keep f l) → Rising (cond b (x ∷ keep f l) (keep f l))
    by true ih = rising-cons x (keep f l) (λ k m. rising-head x l r k ((mem-keep f k l).0 m).0) ih
    by false ih = ih

-- what is in one list with a head is in the other, and is not the head
rest_in : (j k : ℤ) (l m : List ℤ) → j ≡ k → Rising (j ∷ l) → ((i : ℤ) → Memᴰ i (j ∷ l) → Memᴰ i (k ∷ m)) → (i : ℤ) → Memᴰ i l → Memᴰ i m
rest_in j k l m e r f i n = by (Memᴰ.cases_cons (f i (Memᴰ.tail n)))
  where
    by : (i ≡ k) ⊎ Memᴰ i m → Memᴰ i m
    by (inl p) = absurd (rising-head j l r i n ∴ e ∴ p ∴ simp ints (omega arith))
    by (inr p) = p

same_head : (j k : ℤ) (l m : List ℤ) → Rising (j ∷ l) → Rising (k ∷ m) → ((i : ℤ) → Memᴰ i (j ∷ l) ↔ Memᴰ i (k ∷ m)) → j ≡ k
same_head j k l m r s h = by (Memᴰ.cases_cons ((h j).0 (Memᴰ.head refl))) (Memᴰ.cases_cons ((h k).1 (Memᴰ.head refl)))
  where
    by : (j ≡ k) ⊎ Memᴰ j m → (k ≡ j) ⊎ Memᴰ k l → j ≡ k
    by (inl e) p = e
    by (inr n) (inl e) = sym e
    by (inr n) (inr p) = absurd (rising-head k m s j n ∴ rising-head j l r k p ∴ simp ints (omega arith))

pub rising-unique : (l m : List ℤ) → Rising l → Rising m → ((i : ℤ) → Memᴰ i l ↔ Memᴰ i m) → l ≡ m
rising-unique [] [] r s h = refl
rising-unique [] (k ∷ m) r s h = absurd (Memᴰ.not-nil ((h k).1 (Memᴰ.head refl)))
rising-unique (j ∷ l) [] r s h = absurd (Memᴰ.not-nil ((h j).0 (Memᴰ.head refl)))
rising-unique (j ∷ l) (k ∷ m) r s h =
    let e = same_head j k l m r s h in
    ap₂ ◌∷◌ e (rising-unique l m (rising-tail j l r) (rising-tail k m s)
    (λ i. (rest_in j k l m e r (λ i. (h i).0) i, rest_in k j m l (sym e) s (λ i. (h i).1) i)))

-- two rising lists with the same members are equal
pub lists-unique : {S : ℤ → Type 0} (l m : List ℤ) → Lists S l → Lists S m → l ≡ m
lists-unique l m x y = rising-unique l m x.rising y.rising (λ i. Iff.trans (Iff.symm (x.member i)) (y.member i))

-- two sets with the same members have the same list
pub lists-as : (S S' : ℤ → Type 0) (l : List ℤ) → ((k : ℤ) → S k ↔ S' k) → Lists S l → Lists S' l
lists-as S S' l e L = record { rising = L.rising; member = λ k. Iff.trans (Iff.symm (e k)) (L.member k) }

-- a rising list whose members are those of another one up to some of them is a front of it
pub front_of : (l m : List ℤ) → Rising l → Rising m → ((k : ℤ) → Memᴰ k l → Memᴰ k m)
    → ((k j : ℤ) → Memᴰ k m → Memᴰ j l → k ≤ℤ j → Memᴰ k l) → (n : List ℤ) × (m ≡ l ++ n)
front_of [] m r s f g = (m, refl)
front_of (x ∷ l) [] r s f g = absurd (Memᴰ.not-nil (f x (Memᴰ.head refl)))
front_of (x ∷ l) (y ∷ m) r s f g =
    let n = front_of l m (rising-tail x l r) (rising-tail y m s) inner outer in
    (n.0, ap₂ (λ (z : ℤ) (o : List ℤ). z ∷ o) (sym same) n.1)
  where
    least : (z : ℤ) → Memᴰ z (y ∷ m) → y ≤ℤ z
    least z o = ⊎_elim (λ (e : z ≡ y). e ∴ simp ints (omega arith)) (λ (o : Memᴰ z m). rising-head y m s z o ∴ simp ints (omega arith)) (Memᴰ.cases_cons o)

    below-first : y ≤ℤ x
    below-first = least x (f x (Memᴰ.head refl))

    same : x ≡ y
    same =
        ⊎_elim
        (λ (e : y ≡ x). sym e)
        (λ (o : Memᴰ y l). absurd (rising-head x l r y o ∴ below-first ∴ simp ints (omega arith)))
        (Memᴰ.cases_cons (g y x (Memᴰ.head refl) (Memᴰ.head refl) below-first))

    inner : (k : ℤ) → Memᴰ k l → Memᴰ k m
    inner k o =
        ⊎_elim
        (λ (e : k ≡ y). absurd (rising-head x l r k o ∴ e ∴ same ∴ simp ints (omega arith)))
        (λ (o : Memᴰ k m). o)
        (Memᴰ.cases_cons (f k (Memᴰ.tail o)))

    outer : (k j : ℤ) → Memᴰ k m → Memᴰ j l → k ≤ℤ j → Memᴰ k l
    outer k j o p q =
        ⊎_elim
        (λ (e : k ≡ x). absurd (rising-head y m s k o ∴ e ∴ same ∴ simp ints (omega arith)))
        (λ (o : Memᴰ k l). o)
        (Memᴰ.cases_cons (g k j (Memᴰ.tail o) (Memᴰ.tail p) q))

-- the first and the last of a rising list are its least and its greatest member
pub first-least : (j : ℤ) (l : List ℤ) → Rising l → Memᴰ j l → Memᴰ (first l) l × (first l ≤ℤ j)
first-least j [] r m = absurd (Memᴰ.not-nil m)
first-least j (k ∷ l) r m = (Memᴰ.head refl, ⊎_elim (λ e. e ∴ simp ints (omega arith)) (λ n. <ℤ→≤ℤ (rising-head k l r j n)) (Memᴰ.cases_cons m))

pub last-greatest : (j : ℤ) (l : List ℤ) → Rising l → Memᴰ j l → Memᴰ (last l) l × (j ≤ℤ last l)
last-greatest j [] r m = absurd (Memᴰ.not-nil m)
last-greatest j (k ∷ []) r m = (Memᴰ.head refl, ⊎_elim (λ e. e ∴ simp ints (omega arith)) (λ n. absurd (Memᴰ.not-nil n)) (Memᴰ.cases_cons m))
last-greatest j (k ∷ i ∷ l) r m = by (Memᴰ.cases_cons m) (λ j. last-greatest j (i ∷ l) r.1)
  where
    by : (j ≡ k) ⊎ Memᴰ j (i ∷ l) → ((j : ℤ) → Memᴰ j (i ∷ l) → Memᴰ (last (i ∷ l)) (i ∷ l) × (j ≤ℤ last (i ∷ l))) → Memᴰ (last (i ∷ l)) (k ∷ i ∷ l) × (j ≤ℤ last (i ∷ l))
    by (inl e) ih = let h = ih i (Memᴰ.head refl) in (Memᴰ.tail h.0, h.1 ∴ r.0 ∴ e ∴ simp ints (omega arith))
    by (inr n) ih = let h = ih j n in (Memᴰ.tail h.0, h.1)

-- ---- labels of instants

-- j in front of l, unless it is the head already
abbrev pub prefix : ℤ → List ℤ → List ℤ
prefix j l = elim l [ [] ↦ j ∷ [] | k ∷ m ↦ cond (equal j k) (k ∷ m) (j ∷ k ∷ m) ]

-- one more member, at most each of the others
prefix-lists : {S : ℤ → Type 0} {S' : ℤ → Type 0} (j : ℤ) (l : List ℤ) → ((i : ℤ) → S i → j ≤ℤ i) → ((i : ℤ) → S' i ↔ ((i ≡ j) ⊎ S i)) → Lists S l → Lists S' (prefix j l)
prefix-lists {S} {S'} j [] low more x = record {
  rising = tt;
  member = λ i. (
    λ s. ⊎_elim (λ e. Memᴰ.head e) (λ n. absurd (Memᴰ.not-nil ((x.member i).0 n))) ((more i).0 s),
    λ m. (more i).1 (⊎_elim inl (λ n. inr ((x.member i).1 n)) (Memᴰ.cases_cons m)),
  );
}
prefix-lists {S} {S'} j (k ∷ l) low more x = by (equal j k) refl
  where
    least : j ≤ℤ k
    least = low k ((x.member k).1 (Memᴰ.head refl))

    by : (b : Bool) → equal j k ≡ b → Lists S' (cond b (k ∷ l) (j ∷ k ∷ l))
    by true e = record {
      rising = x.rising;
      member = λ i. (λ s. ⊎_elim (λ p. Memᴰ.head (p ∙ (equal-iff j k).0 e)) (x.member i).0 ((more i).0 s), λ m. (more i).1 (inr ((x.member i).1 m)));
    }
    by false e = record {
      rising = (least ∴ (false-iff (equal-iff j k)).0 e ∴ simp ints (omega arith), x.rising);
      member = λ i. (
        λ s. ⊎_elim (λ p. Memᴰ.head p) (λ n. Memᴰ.tail ((x.member i).0 n)) ((more i).0 s),
        λ m. (more i).1 (⊎_elim inl (λ n. inr ((x.member i).1 n)) (Memᴰ.cases_cons m)),
      );
    }

-- the labels of rising instants of a calendar whose labels never fall: each once, rising
pub distinct-lists : (c : Calendar) → Ordered c → (l : List ℤ) → Rising l
    → Lists (λ j. (u : ℤ) × Memᴰ u l × (c u ≡ some j)) (distinct (map c l))
distinct-lists c o [] r = record { rising = tt; member = λ j. (λ h. absurd (Memᴰ.not-nil h.1), λ m. absurd (Memᴰ.not-nil m)) }
distinct-lists c o (t ∷ l) r = by (c t) refl (distinct-lists c o l (rising-tail t l r))
  where
    S : List ℤ → ℤ → Type 0
    S l j = (u : ℤ) × Memᴰ u l × (c u ≡ some j)

    by : (p : Option ℤ) → c t ≡ p → Lists (S l) (distinct (map c l)) → Lists (S (t ∷ l)) (distinct (p ∷ map c l))
    by none e x = record {
      rising = x.rising;
      member = λ j. (
        λ h. ⊎_elim (λ q. absurd (none≢some (sym e ∙ ap c (sym q) ∙ h.2))) (λ m. (x.member j).0 (h.0, m, h.2)) (Memᴰ.cases_cons h.1),
        λ m. let h = (x.member j).1 m in (h.0, Memᴰ.tail h.1, h.2),
      );
    }
    by (some i) e x = prefix-lists i (distinct (map c l)) (λ j h. o t h.0 i j (<ℤ→≤ℤ (rising-head t l r h.0 h.1)) e h.2) more x
      where
        more : (j : ℤ) → S (t ∷ l) j ↔ ((j ≡ i) ⊎ S l j)
        more j = (
          λ h. ⊎_elim (λ q. inl (some_inj (sym h.2 ∙ ap c q ∙ e))) (λ m. inr (h.0, m, h.2)) (Memᴰ.cases_cons h.1),
          ⊎_elim (λ q. (t, Memᴰ.head refl, e ∙ ap {B = Option ℤ} some (sym q))) (λ h. (h.0, Memᴰ.tail h.1, h.2)),
        )

-- ---- moved by a number

abbrev pub moved : ℤ → List ℤ → List ℤ
moved k = map (λ u. u +ℤ k)

pub from-moved : (t k : ℤ) (n : ℕ) → from (t +ℤ k) n ≡ moved k (from t n)
from-moved t k zero = refl
from-moved t k (suc n) = ap (λ (l : List ℤ). (t +ℤ k) ∷ l) (ap (λ (u : ℤ). from u n) (simp ints (omega arith)) ∙ from-moved (t +ℤ pos 1) k n)

pub keep-moved : (f g : ℤ → Bool) (k : ℤ) → ((u : ℤ) → f (u +ℤ k) ≡ g u) → (l : List ℤ) → keep f (moved k l) ≡ moved k (keep g l)
keep-moved f g k h [] = refl
keep-moved f g k h (x ∷ l) = ap (λ (b : Bool). cond b ((x +ℤ k) ∷ keep f (moved k l)) (keep f (moved k l))) (h x) ∙ by (g x) (keep-moved f g k h l)
  where
    by : (b : Bool) → keep f (moved k l) ≡ moved k (keep g l) → cond b ((x +ℤ k) ∷ keep f (moved k l)) (keep f (moved k l)) ≡ moved k (cond b (x ∷ keep g l) (keep g l))
    by true e = ap (λ (m : List ℤ). (x +ℤ k) ∷ m) e
    by false e = e
