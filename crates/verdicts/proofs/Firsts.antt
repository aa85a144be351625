-- The conversion of a table's first entries, and how it goes on behind them.
-- Assumes nothing.
use mathlib.Core.Path.{◌≡◌, refl, sym, ◌∙◌, ap, ap₂, subst}
use mathlib.Core.Bool.{true}
use mathlib.Core.Logic.{⊎_elim}
use mathlib.Core.List.Memᴰ
use mathlib.Core.List.{List, [], ◌∷◌, ◌++◌, append_assoc, append-nil, Memᴰ}
use Prim.Native.Nat.{ℕ, zero, suc, ◌+◌, ◌-◌, ◌≤◌, ◌<◌}
use native.Mathlib.Nat.{sub-zero}
use native.Mathlib.Omega.{arith}
use lib.IntN.{ℤ}
use lib.ListN.{length, length-append}
use Rattle.calendar.specs.Meaning.{Row}
use Rattle.calendar.specs.Limits.{pool_limit}
use Rattle.calendar.specs.Sound.{sound}
use Rattle.calendar.specs.Reply.{Reply}
use Rattle.calendar.specs.Reply.Reply.{refused, answer}
use Rattle.calendar.specs.Table.{entry_at}
use Rattle.calendar.specs.Outcome.{Outcome, judged, entries}
use Rattle.calendar.specs.Outcome.Outcome.{rows}
use Rattle.calendar.specs.Stored.{joined}
use Rattle.granules.proofs.Sound.{sound-valid}
use Rattle.algebra.proofs.Steps.{after_entry, entries-zero, entries-suc}
use Rattle.algebra.proofs.Stored.{joined_length, entry-sound}
use Rattle.conversion.proofs.Headings.{Whole}
use Rattle.verdicts.specs.Begins.{first_entries}

-- ---- how many rows there are

entries-count : (t : List ℤ) (m k : ℕ) (l : List Row) (room : ℕ) (rs : List Row) → entries t m k l room ≡ rows rs → length rs ≡ length l + m
entries-count t zero k l room rs e =
    let same : l ≡ rs = cc (sym (entries-zero t k l room) ∙ e) in
    omega (arith, ap (λ (x : List Row). length x) same)
entries-count t (suc m) k l room rs e = by (judged l room (entry_at t k)) (sym (entries-suc t m k l room) ∙ e) (entries-count t m (suc k))
  where
    by : (x : Reply Row) → after_entry t m k l room x ≡ rows rs → ((l : List Row) (room : ℕ) (rs : List Row) → entries t m (suc k) l room ≡ rows rs → length rs ≡ length l + m) → length rs ≡ length l + suc m
    by (refused j) q ih = let z : ◌≡◌ {A = ℕ} 0 1 = cc in absurd (omega arith)
    by (answer r) q ih = omega (arith, ih (l ++ (r ∷ [])) (room - r.period) rs q, length-append l (r ∷ []))

-- the outcome of the entry k, by the reply to it
abbrev pub step_to : ℕ → List Row → Reply Row → Outcome
step_to k l (refused m) = Outcome.refused_at m k
step_to k l (answer r) = rows (l ++ (r ∷ []))

entries-one : (t : List ℤ) (k : ℕ) (l : List Row) (room : ℕ) → entries t 1 k l room ≡ step_to k l (judged l room (entry_at t k))
entries-one t k l room = entries-suc t 0 k l room ∙ by (judged l room (entry_at t k))
  where
    by : (x : Reply Row) → after_entry t 0 k l room x ≡ step_to k l x
    by (refused m) = refl
    by (answer r) = entries-zero t (suc k) (l ++ (r ∷ [])) (room - r.period)

-- the rows only grow
pub entries-prefix : (t : List ℤ) (m k : ℕ) (l : List Row) (room : ℕ) (rs : List Row) → entries t m k l room ≡ rows rs → (s : List Row) × (rs ≡ l ++ s)
entries-prefix t zero k l room rs e = let same : l ≡ rs = cc (sym (entries-zero t k l room) ∙ e) in ([], sym same ∙ sym (append-nil l))
entries-prefix t (suc m) k l room rs e = by (judged l room (entry_at t k)) (sym (entries-suc t m k l room) ∙ e) (entries-prefix t m (suc k))
  where
    by : (x : Reply Row) → after_entry t m k l room x ≡ rows rs → ((l : List Row) (room : ℕ) (rs : List Row) → entries t m (suc k) l room ≡ rows rs → (s : List Row) × (rs ≡ l ++ s)) → (s : List Row) × (rs ≡ l ++ s)
    by (refused j) q ih = let z : ◌≡◌ {A = ℕ} 0 1 = cc in absurd (omega arith)
    by (answer r) q ih = let (s, e) = ih (l ++ (r ∷ [])) (room - r.period) rs q in (r ∷ s, e ∙ append_assoc l (r ∷ []) s)

-- ---- rows that the conversion answered

abbrev pub AllSound : List Row → Type 0
AllSound l = (r : Row) → Memᴰ r l → sound r ≡ true

pub whole_of : (l : List Row) → AllSound l → Whole l
whole_of l h r m = (sound-valid r (h r m)).whole

sound_more : (l : List Row) (r : Row) → AllSound l → sound r ≡ true → AllSound (l ++ (r ∷ []))
sound_more l r h k s m = ⊎_elim (h s) (λ i. ap sound (Memᴰ.eq_of_singleton i) ∙ k) (Memᴰ.append_cases l m)

module _ (t : List ℤ) (pool : ℕ) (limit : pool ≤ pool_limit) where
  abbrev room : List Row → ℕ
  room l = pool - length (joined l)

  pub record Fine (l : List Row) : Type 0 where
    pub all_sound : AllSound l
    pub fit : length (joined l) ≤ pool

  pub fine-none : Fine []
  fine-none = record { all_sound = λ r m. absurd (Memᴰ.not-nil m); fit = omega arith }

  -- one more
  pub record More (l : List Row) (r : Row) : Type 0 where
    pub whole : length r.cells ≡ r.period
    pub fine : Fine (l ++ (r ∷ []))
    pub room-left : room (l ++ (r ∷ [])) ≡ room l - r.period

  pub more : (l : List Row) → Fine l → (k : ℕ) (r : Row) → judged l (room l) (entry_at t k) ≡ answer r → More l r
  more l f k r j =
      let q = entry-sound l (room l) (entry_at t k) r f.all_sound (omega (arith, limit)) j in
      let whole = (sound-valid r q.0).whole in
      let cells = joined_length l r in
      record {
        whole = whole;
        fine = record { all_sound = sound_more l r f.all_sound q.0; fit = omega (arith, f.fit, q.1) };
        room-left = omega (arith, f.fit, q.1);
      }

  -- the next entry, behind those that were answered
  pub next-entries : (m k : ℕ) (l : List Row) → Fine l → (r : Row) → judged l (room l) (entry_at t k) ≡ answer r
      → entries t (suc m) k l (room l) ≡ entries t m (suc k) (l ++ (r ∷ [])) (room (l ++ (r ∷ [])))
  next-entries m k l f r j =
      entries-suc t m k l (room l) ∙ ap (after_entry t m k l (room l)) j ∙ ap (entries t m (suc k) (l ++ (r ∷ []))) (sym (more l f k r j).room-left)

  -- ---- the conversion, cut behind an entry

  split : (j m i : ℕ) (l : List Row) → Fine l → (rs : List Row) → entries t j i l (room l) ≡ rows rs
      → (entries t (j + m) i l (room l) ≡ entries t m (i + j) rs (room rs)) × Fine rs
  split zero m i l f rs e =
      let same : l ≡ rs = cc (sym (entries-zero t i l (room l)) ∙ e) in
      let x : 0 + m ≡ m = omega arith in
      let y : i ≡ i + 0 = omega arith in
      (ap (λ (a : ℕ). entries t a i l (room l)) x ∙ ap₂ (λ (a : ℕ) (s : List Row). entries t m a s (room s)) y same, subst Fine same f)
  split (suc j) m i l f rs e = by (judged l (room l) (entry_at t i)) refl (split j m (suc i))
    where
      by : (x : Reply Row) → judged l (room l) (entry_at t i) ≡ x
          → ((l : List Row) → Fine l → (rs : List Row) → entries t j (suc i) l (room l) ≡ rows rs → (entries t (j + m) (suc i) l (room l) ≡ entries t m (suc i + j) rs (room rs)) × Fine rs)
          → (entries t (suc j + m) i l (room l) ≡ entries t m (i + suc j) rs (room rs)) × Fine rs
      by (refused a) p ih =
          let q : Outcome.refused_at a i ≡ rows rs = sym (entries-suc t j i l (room l) ∙ ap (after_entry t j i l (room l)) p) ∙ e in
          let z : ◌≡◌ {A = ℕ} 0 1 = cc in absurd (omega arith)
      by (answer r) p ih =
          let l' = l ++ (r ∷ []) in
          let d = ih l' (more l f i r p).fine rs (sym (next-entries j i l f r p) ∙ e) in
          let x : suc j + m ≡ suc (j + m) = omega arith in
          let y : suc i + j ≡ i + suc j = omega arith in
          (ap (λ (a : ℕ). entries t a i l (room l)) x ∙ next-entries (j + m) i l f r p ∙ d.0 ∙ ap (λ (a : ℕ). entries t m a rs (room rs)) y, d.1)

  pub first-is : (k : ℕ) → first_entries t k (pool) ≡ entries t k 0 [] (room [])
  first-is k = ap (entries t k 0 []) (sym (sub-zero (pool)))

  -- the first k entries gave the rows l, and m more follow
  pub first_more : (k m : ℕ) (l : List Row) → first_entries t k (pool) ≡ rows l → (first_entries t (k + m) (pool) ≡ entries t m k l (room l)) × Fine l
  first_more k m l e =
      let d = split k m 0 [] fine-none l (sym (first-is k) ∙ e) in
      let z : 0 + k ≡ k = omega arith in
      (first-is (k + m) ∙ d.0 ∙ ap (λ (a : ℕ). entries t m a l (room l)) z, d.1)

  -- one entry more
  pub first-suc : (k : ℕ) (l : List Row) → first_entries t k (pool) ≡ rows l → first_entries t (suc k) (pool) ≡ step_to k l (judged l (room l) (entry_at t k))
  first-suc k l e =
      let z : suc k ≡ k + 1 = omega arith in
      ap (λ (a : ℕ). first_entries t a (pool)) z ∙ (first_more k 1 l e).0 ∙ entries-one t k l (room l)

  pub first_count : (k : ℕ) (l : List Row) → first_entries t k (pool) ≡ rows l → length l ≡ k
  first_count k l e = omega (arith, entries-count t k 0 [] (pool) l e)

  -- ---- refusals of the conversion

  -- a refusal is at one of the entries, from the first on
  refused-from : (m i : ℕ) (l : List Row) (r a b : ℕ) → entries t m i l r ≡ Outcome.refused_at a b → i ≤ b
  refused-from zero i l r a b e =
      let q : rows l ≡ Outcome.refused_at a b = sym (entries-zero t i l r) ∙ e in
      let z : ◌≡◌ {A = ℕ} 0 1 = cc in absurd (omega arith)
  refused-from (suc m) i l r a b e = by (judged l r (entry_at t i)) (sym (entries-suc t m i l r) ∙ e) (refused-from m (suc i))
    where
      by : (x : Reply Row) → after_entry t m i l r x ≡ Outcome.refused_at a b → ((l : List Row) (r a b : ℕ) → entries t m (suc i) l r ≡ Outcome.refused_at a b → suc i ≤ b) → i ≤ b
      by (refused c) q ih = let z : i ≡ b = cc q in omega arith
      by (answer s) q ih = omega (arith, ih (l ++ (s ∷ [])) (r - s.period) a b q)

  -- where more entries are answered, so are fewer
  pub rows-earlier : (n x i : ℕ) (l : List Row) (r : ℕ) (rs : List Row) → entries t (n + x) i l r ≡ rows rs → (s : List Row) × (entries t n i l r ≡ rows s)
  rows-earlier zero x i l r rs e = (l, entries-zero t i l r)
  rows-earlier (suc n) x i l r rs e =
      let z : suc n + x ≡ suc (n + x) = omega arith in
      by (judged l r (entry_at t i)) refl (sym (ap (λ (a : ℕ). entries t a i l r) z ∙ entries-suc t (n + x) i l r) ∙ e) (rows-earlier n x (suc i))
    where
      by : (y : Reply Row) → judged l r (entry_at t i) ≡ y → after_entry t (n + x) i l r (judged l r (entry_at t i)) ≡ rows rs
          → ((l : List Row) (r : ℕ) (rs : List Row) → entries t (n + x) (suc i) l r ≡ rows rs → (s : List Row) × (entries t n (suc i) l r ≡ rows s))
          → (s : List Row) × (entries t (suc n) i l r ≡ rows s)
      by (refused c) p q ih =
          let w : Outcome.refused_at c i ≡ rows rs = sym (ap (after_entry t (n + x) i l r) p) ∙ q in
          let z : ◌≡◌ {A = ℕ} 0 1 = cc in absurd (omega arith)
      by (answer s) p q ih =
          let d = ih (l ++ (s ∷ [])) (r - s.period) rs (sym (ap (after_entry t (n + x) i l r) p) ∙ q) in
          (d.0, entries-suc t n i l r ∙ ap (after_entry t n i l r) p ∙ d.1)

  -- the conversion refuses the entry k, and the entries before gave the rows l
  pub refused-here : (n m k : ℕ) (l : List Row) → first_entries t n (pool) ≡ Outcome.refused_at m k → first_entries t k (pool) ≡ rows l
      → (k < n) × (judged l (room l) (entry_at t k) ≡ refused m)
  refused-here n m k l e f = (before, by (judged l (room l) (entry_at t k)) refl)
    where
      not-rows : (rs : List Row) → first_entries t n (pool) ≡ rows rs → ⊥
      not-rows rs q = let w : rows rs ≡ Outcome.refused_at m k = sym q ∙ e in let z : ◌≡◌ {A = ℕ} 0 1 = cc in absurd (omega arith)

      late : n ≤ k → ⊥
      late h =
          let z : k ≡ n + (k - n) = omega arith in
          let d = rows-earlier n (k - n) 0 [] (pool) l (sym (ap (λ (a : ℕ). first_entries t a (pool)) z) ∙ f) in
          not-rows d.0 d.1

      before : k < n
      before = omega (arith, late)

      cut : first_entries t n (pool) ≡ entries t (suc (n - suc k)) k l (room l)
      cut =
          let z : n ≡ k + suc (n - suc k) = omega (arith, before) in
          ap (λ (a : ℕ). first_entries t a (pool)) z ∙ (first_more k (suc (n - suc k)) l f).0

      by : (x : Reply Row) → judged l (room l) (entry_at t k) ≡ x → judged l (room l) (entry_at t k) ≡ refused m
      by (refused c) p =
          let w : Outcome.refused_at c k ≡ Outcome.refused_at m k = sym (cut ∙ entries-suc t (n - suc k) k l (room l) ∙ ap (after_entry t (n - suc k) k l (room l)) p) ∙ e in
          let z : c ≡ m = cc w in p ∙ ap refused z
      by (answer s) p =
          let w = sym (cut ∙ entries-suc t (n - suc k) k l (room l) ∙ ap (after_entry t (n - suc k) k l (room l)) p) ∙ e in
          absurd (omega (arith, refused-from (n - suc k) (suc k) (l ++ (s ∷ [])) (room l - s.period) m k w))
