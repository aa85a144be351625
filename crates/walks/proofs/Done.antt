-- When a walk over lists that the caller left alone is done.
use mathlib.Core.Path.{◌≡◌, refl, sym, ◌∙◌, ap, subst}
use mathlib.Core.Logic.{inl, inr, ◌↔◌}
use mathlib.Core.Bool.{Bool, true, false, cond}
use mathlib.Core.List.Memᴰ
use mathlib.Core.List.{List, [], Memᴰ}
use Prim.Native.Nat.{ℕ, ◌≤◌, ◌<◌}
use native.Mathlib.Omega.{arith}
use lib.Dec.{eqb}
use lib.IntN.{ℤ}
use lib.ListN.{length, take, drop, take-append-drop}
use lib.Seq.{length-take-le}
use Rattle.calendar.specs.Meaning.{Row}
use Rattle.calendar.specs.Reply.Reply.{answer}
use Rattle.calendar.specs.Outcome.{Outcome, entries}
use Rattle.calendar.specs.Outcome.Outcome.{rows}
use Rattle.calendar.specs.Stored.{headings_after, pool_after}
use Rattle.granules.proofs.Tests.{eqb-iff}
use Rattle.walks.specs.Walk.{Lengths, Left, lengths_of, entries_of, progress_after, left, start, admits, converts}
use Rattle.walks.specs.Walk.Progress.{due, done, refused_at}
use Rattle.walks.specs.Runs.{calls, assembled, AllOf}
use Rattle.walks.proofs.Came.{left-progress}
use Rattle.walks.proofs.Assembled.{calls-append, calls-stay, entries-count}
use Rattle.walks.proofs.Steps.{gives, walked, converts-assembled, steps-are}

-- ---- the end of the walk

left-lists : (began now : Lengths) (o : Outcome) → ((left began now o).headings ≡ headings_after now.headings o) × ((left began now o).pool ≡ pool_after now.pool o)
unfolding left
left-lists began now o = (refl, refl)

pub whole-converts :
    (t : List ℤ) (headings : List ℕ) (pool : List ℤ) (n : ℕ) → admits t headings pool ≡ answer n
    → (ts : List (List ℤ)) → AllOf (length t) ts → length ts ≡ n
    → let s = calls (start t headings pool) ts in
    let o = converts (assembled 0 ts) headings pool in
    (s.walk.progress ≡ progress_after n o) × (s.headings ≡ headings_after (length headings) o) × (s.pool ≡ pool_after (length pool) o)
whole-converts t headings pool n p ts all e =
    let a = gives t headings pool n p in
    let L = lengths_of t headings pool in
    let o = converts (assembled 0 ts) headings pool in
    let s = steps-are t headings pool n p ts all (omega (arith, e, a.some-entry)) (omega (arith, e)) in
    let l = left-lists L L o in (
      ap (λ (x : Left). x.walk.progress) s ∙ left-progress L L o ∙ ap (λ (i : ℕ). progress_after i o) (sym a.is_number),
      ap (λ (x : Left). x.headings) s ∙ l.0,
      ap (λ (x : Left). x.pool) s ∙ l.1,
    )

-- a walk of n entries whose outcome is o is done exactly if o has n rows
progress-done : (n : ℕ) (o : Outcome) → progress_after n o ≡ done → (l : List Row) × (o ≡ rows l) × (length l ≡ n)
progress-done n (Outcome.refused_at m k) p = let z : ◌≡◌ {A = ℕ} 0 1 = cc in absurd (omega arith)
progress-done n (rows l) p = by (eqb (length l) n) refl p
  where
    by : (b : Bool) → eqb (length l) n ≡ b → cond b done (due (length l)) ≡ done → (l' : List Row) × (rows l ≡ rows l') × (length l' ≡ n)
    by true e q = (l, refl, (eqb-iff (length l) n).0 e)
    by false e q = let z : ◌≡◌ {A = ℕ} 0 1 = cc in absurd (omega arith)

all_take : (m n : ℕ) (ts : List (List ℤ)) → AllOf m ts → AllOf m (take n ts)
all_take m n ts all u i = all u (subst (Memᴰ u) (take-append-drop n ts) (Memᴰ.append_left (drop n ts) i))

module _ (t : List ℤ) (headings : List ℕ) (pool : List ℤ) (n : ℕ) (p : admits t headings pool ≡ answer n) (ts : List (List ℤ)) (all : AllOf (length t) ts) where
  abbrev Begun : Lengths
  Begun = lengths_of t headings pool

  number : entries_of Begun ≡ n
  number = sym (gives t headings pool n p).is_number

  -- fewer than n calls
  early : length ts < n → (calls (start t headings pool) ts).walk.progress ≡ done → ⊥
  early b e =
      let o = entries (assembled 0 ts) (length ts) 0 [] (length pool) in
      let q = sym (left-progress Begun Begun o) ∙ sym (ap (λ (x : Left). x.walk.progress) (walked t headings pool n p ts all (omega arith))) ∙ e in
      let (l, same, count) = progress-done (entries_of Begun) o q in
      absurd (omega (arith, entries-count (assembled 0 ts) (length ts) 0 [] (length pool) l same, number, b))

  module _ (b : n ≤ length ts) where
    abbrev first : List (List ℤ)
    first = take n ts

    abbrev whole : Outcome
    whole = converts (assembled 0 first) headings pool

    first-length : length first ≡ n
    first-length = length-take-le n ts b

    some-calls : 1 ≤ length first
    some-calls = omega (arith, first-length, (gives t headings pool n p).some-entry)

    after_first : calls (start t headings pool) ts ≡ calls (left Begun Begun whole) (drop n ts)
    after_first =
        ap (calls (start t headings pool)) (sym (take-append-drop n ts))
        ∙ calls-append (start t headings pool) first (drop n ts)
        ∙ ap (λ (s : Left). calls s (drop n ts)) (steps-are t headings pool n p first (all_take (length t) n ts all) some-calls (omega (arith, first-length)))

    whole-count : (l : List Row) → whole ≡ rows l → length l ≡ n
    whole-count l e =
        omega (arith, entries-count (assembled 0 first) (length first) 0 [] (length pool) l (sym (converts-assembled t headings pool n p first (all_take (length t) n ts all) some-calls (omega (arith, first-length))) ∙ e), first-length)

    late : (calls (start t headings pool) ts).walk.progress ≡ done → (l : List Row) × (whole ≡ rows l)
    late e = by whole refl
      where
        by : (o : Outcome) → whole ≡ o → (l : List Row) × (whole ≡ rows l)
        by (Outcome.refused_at m k) q =
            let r : (left Begun Begun whole).walk.progress ≡ refused_at m k = left-progress Begun Begun whole ∙ ap (progress_after (entries_of Begun)) q in
            let z : refused_at m k ≡ done = sym r ∙ sym (ap (λ (x : Left). x.walk.progress) (after_first ∙ calls-stay (left Begun Begun whole) (inr (m, k, r)) (drop n ts))) ∙ e in
            let c : ◌≡◌ {A = ℕ} 0 1 = cc in absurd (omega arith)
        by (rows l) q = (l, q)

    finish : (l : List Row) → whole ≡ rows l → (calls (start t headings pool) ts).walk.progress ≡ done
    finish l e =
        let c : length l ≡ entries_of Begun = whole-count l e ∙ sym number in
        let r : (left Begun Begun whole).walk.progress ≡ done =
        left-progress Begun Begun whole ∙ ap (progress_after (entries_of Begun)) e ∙ ap (λ (x : Bool). cond x done (due (length l))) ((eqb-iff (length l) (entries_of Begun)).1 c) in
        ap (λ (x : Left). x.walk.progress) (after_first ∙ calls-stay (left Begun Begun whole) (inl r) (drop n ts)) ∙ r

at-least : (m n : ℕ) → ¬ (m < n) → n ≤ m
at-least m n h = omega (arith, h)

pub done_at :
    (t : List ℤ) (headings : List ℕ) (pool : List ℤ) (n : ℕ) → admits t headings pool ≡ answer n
    → (ts : List (List ℤ)) → AllOf (length t) ts
    → ((calls (start t headings pool) ts).walk.progress ≡ done)
    ↔ ((n ≤ length ts) × ((l : List Row) × (converts (assembled 0 (take n ts)) headings pool ≡ rows l)))
done_at t headings pool n p ts all = (
  λ e. let b = at-least (length ts) n (λ h. early t headings pool n p ts all h e) in (b, late t headings pool n p ts all b e),
  λ (b, r). finish t headings pool n p ts all b r.0 r.1,
)
