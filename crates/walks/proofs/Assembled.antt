-- The table of the entries as they stood, calls one after the other, and how many rows there are.
use mathlib.Core.Path.{◌≡◌, refl, sym, ◌∙◌, ap, subst}
use mathlib.Core.Logic.{◌⊎◌}
use mathlib.Core.List.Memᴰ
use mathlib.Core.List.{List, [], ◌∷◌, ◌++◌}
use Prim.Native.Nat.{ℕ, zero, suc, ◌+◌, ◌-◌, ◌*◌, ◌≤◌, ◌<◌}
use native.Mathlib.Omega.{arith}
use lib.IntN.{ℤ, pos}
use lib.ListN.{length, get_or, take, drop, replicate, length-append, length-drop, get_or-append}
use lib.Seq.{length-take-le, get_or-append-add, get_or-take, get_or-drop, take-add, drop-drop, take_all}
use Rattle.calendar.specs.Meaning.{Row}
use Rattle.calendar.specs.Reply.{Reply}
use Rattle.calendar.specs.Reply.Reply.{refused, answer}
use Rattle.calendar.specs.Table.{Entry, entry_at}
use Rattle.calendar.specs.Outcome.{judged, entries}
use Rattle.calendar.specs.Outcome.Outcome.{rows}
use Rattle.algebra.proofs.Steps.{after_entry, entries-zero, entries-suc}
use Rattle.walks.specs.Walk.{Progress, Left, call}
use Rattle.walks.specs.Walk.Progress.{done, refused_at}
use Rattle.walks.specs.Runs.{calls, assembled, AllOf}
use Rattle.walks.proofs.Came.{ended-stays}

-- ---- entries of a table

entry-ext : (e f : Entry) → e.kind ≡ f.kind → e.first ≡ f.first → e.second ≡ f.second → e.x ≡ f.x → e.y ≡ f.y → e.z ≡ f.z → e ≡ f
entry-ext e f a b c p q r = λ i. record { kind = a i; first = b i; second = c i; x = p i; y = q i; z = r i }

entry-same : (t u : List ℤ) (k : ℕ) → ((c : ℕ) → c < 6 → get_or t (6 * k + c) (pos 0) ≡ get_or u (6 * k + c) (pos 0)) → entry_at t k ≡ entry_at u k
entry-same t u k h =
    let z : 6 * k + 0 ≡ 6 * k = omega arith in
    entry-ext (entry_at t k) (entry_at u k) (subst (λ (i : ℕ). get_or t i (pos 0) ≡ get_or u i (pos 0)) z (h 0 (omega arith)))
    (h 1 (omega arith)) (h 2 (omega arith)) (h 3 (omega arith)) (h 4 (omega arith)) (h 5 (omega arith))

-- the six numbers of the entry k
abbrev pub six : List ℤ → ℕ → List ℤ
six u k = take 6 (drop (6 * k) u)

pub six-length : (u : List ℤ) (k : ℕ) → 6 * k + 6 ≤ length u → length (six u k) ≡ 6
six-length u k h = length-take-le 6 (drop (6 * k) u) (simp length-drop (omega arith))

pub entry-behind : (pre : List ℤ) (u rest : List ℤ) (k : ℕ) → length pre ≡ 6 * k → 6 * k + 6 ≤ length u → entry_at (pre ++ (six u k ++ rest)) k ≡ entry_at u k
entry-behind pre u rest k e h =
    entry-same (pre ++ (six u k ++ rest)) u k
    (λ c b.
    let s = six-length u k h in
    ap (λ (i : ℕ). get_or (pre ++ (six u k ++ rest)) (i + c) (pos 0)) (sym e)
    ∙ get_or-append-add pre (six u k ++ rest) c (pos 0)
    ∙ get_or-append (six u k) rest (pos 0) c (omega arith)
    ∙ get_or-take 6 (drop (6 * k) u) c (pos 0) b
    ∙ get_or-drop (6 * k) u c (pos 0))

pub assembled-length : (m : ℕ) (ts : List (List ℤ)) → AllOf m ts → (k : ℕ) → 6 * (k + length ts) ≤ m → length (assembled k ts) ≡ 6 * length ts
assembled-length m [] all k h = omega arith
assembled-length m (u ∷ us) all k h =
    let ih = assembled-length m us (λ v i. all v (Memᴰ.tail i)) (suc k) (omega arith) in
    let s = six-length u k (omega (arith, all u (Memᴰ.head refl))) in
    simp length-append (omega arith)

assembled-same : (t : List ℤ) (m k : ℕ) → assembled k (replicate m t) ≡ take (6 * m) (drop (6 * k) t)
assembled-same t zero k = refl
assembled-same t (suc m) k =
    let ih = assembled-same t m (suc k) in
    let a : 6 * suc k ≡ 6 * k + 6 = omega arith in
    let b : 6 * suc m ≡ 6 + 6 * m = omega arith in
    ap (λ (l : List ℤ). six t k ++ l) (ih ∙ ap (λ (i : ℕ). take (6 * m) (drop i t)) a ∙ ap (take (6 * m)) (sym (drop-drop 6 (6 * k) t)))
    ∙ sym (take-add 6 (6 * m) (drop (6 * k) t))
    ∙ ap (λ (i : ℕ). take i (drop (6 * k) t)) (sym b)

pub prefix_same : (t : List ℤ) (m : ℕ) → assembled 0 (replicate m t) ≡ take (6 * m) t
prefix_same t m = assembled-same t m 0

pub assembled-whole : (t : List ℤ) (n : ℕ) → length t ≡ 6 * n → assembled 0 (replicate n t) ≡ t
assembled-whole t n e = prefix_same t n ∙ take_all (6 * n) t (omega (arith, e))

-- ---- calls

pub calls-nil : (s : Left) → calls s [] ≡ s
unfolding calls
calls-nil s = refl

pub calls-cons : (s : Left) (t : List ℤ) (ts : List (List ℤ)) → calls s (t ∷ ts) ≡ calls (call s.walk t s.headings s.pool) ts
unfolding calls
calls-cons s t ts = refl

pub calls-append : (s : Left) (ts us : List (List ℤ)) → calls s (ts ++ us) ≡ calls (calls s ts) us
calls-append s [] us = ap (λ (x : Left). calls x us) (sym (calls-nil s))
calls-append s (t ∷ ts) us =
    calls-cons s t (ts ++ us) ∙ calls-append (call s.walk t s.headings s.pool) ts us ∙ ap (λ (x : Left). calls x us) (sym (calls-cons s t ts))

-- an ended walk stays
abbrev pub Ended : Progress → Type 0
Ended x = (x ≡ done) ⊎ ((m : ℕ) × (k : ℕ) × (x ≡ refused_at m k))

pub calls-stay : (s : Left) → Ended s.walk.progress → (ts : List (List ℤ)) → calls s ts ≡ s
calls-stay s e [] = calls-nil s
calls-stay s e (t ∷ ts) =
    calls-cons s t ts ∙ ap (λ (x : Left). calls x ts) (ended-stays s.walk t s.headings s.pool e) ∙ calls-stay s e ts

-- ---- how many rows there are

pub entries-count : (t : List ℤ) (m k : ℕ) (l : List Row) (room : ℕ) (rs : List Row) → entries t m k l room ≡ rows rs → length rs ≡ length l + m
entries-count t zero k l room rs e =
    let same : l ≡ rs = cc (sym (entries-zero t k l room) ∙ e) in
    omega (arith, ap (λ (x : List Row). length x) same)
entries-count t (suc m) k l room rs e = by (judged l room (entry_at t k)) (sym (entries-suc t m k l room) ∙ e) (entries-count t m (suc k))
  where
    by : (x : Reply Row) → after_entry t m k l room x ≡ rows rs → ((l : List Row) (room : ℕ) (rs : List Row) → entries t m (suc k) l room ≡ rows rs → length rs ≡ length l + m) → length rs ≡ length l + suc m
    by (refused j) q ih = let z : ◌≡◌ {A = ℕ} 0 1 = cc in absurd (omega arith)
    by (answer r) q ih = omega (arith, ih (l ++ (r ∷ [])) (room - r.period) rs q, length-append l (r ∷ []))
