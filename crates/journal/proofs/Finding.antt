-- What the search over the whole file answers: where the body before the last trailer stands.
use Rattle.std.specs.Prelude.{Some, None, Option}
use mathlib.Core.Path.{◌≡◌, refl, sym, ap, subst, ◌∙◌}
use mathlib.Core.Logic.{◌⊎◌, inl, inr, ⊎_elim}
use mathlib.Core.Bool.{true, false}
use mathlib.Core.List.{List}
use Prim.Native.Nat.{ℕ, zero, suc, ◌+◌, ◌-◌, ◌≤◌, ◌<◌}
use native.Mathlib.Nat.{zero-add}
use native.Mathlib.Omega.{arith}
use lib.Dec.{ltb}
use lib.ListN.{length}
use borrow.Author.Tests.{ltb-true, ltb-false}
use Rattle.granules.proofs.Tests.{true-or-false, true≢false}
use Rattle.journal.specs.Journal.{length_at, points_back, body_before, opened, LastTrailer}
use Rattle.journal.specs.Window.{points_in, last_in}
use Rattle.journal.specs.Opens.{Opens, body_of}
use Rattle.journal.specs.Opens.Opens.{body, empty}
use Rattle.journal.specs.Answers.{placed, opened_in}
use Rattle.journal.proofs.Opening.{behind-end, opened-at, opened-none}
use Rattle.journal.proofs.Trailers.{points-stand, last_none, last-here, last_on, last_found}

-- a window that starts with the file
pub whole-points : (book : List ℕ) (p : ℕ) → points_in book 0 p ≡ points_back book p
unfolding points_in points_back
whole-points book p = rw (zero-add p)

-- the search before q, where none points back from q on
search-opens : (book : List ℕ) (q : ℕ) → ((p : ℕ) → q ≤ p → points_back book p ≡ false) → Opens book (placed (last_in book 0 q))
search-opens book zero h =
    subst (λ (f : Option (ℕ × ℕ)). Opens book (placed f)) (sym (last_none book 0)) (empty (λ p. h p (omega arith)))
search-opens book (suc p) h = by (true-or-false (points_back book p)) (search-opens book p)
  where
    by : (points_back book p ≡ true) ⊎ (points_back book p ≡ false)
        → (((r : ℕ) → p ≤ r → points_back book r ≡ false) → Opens book (placed (last_in book 0 p)))
        → Opens book (placed (last_in book 0 (suc p)))
    by (inl t) f =
        subst (λ (f : Option (ℕ × ℕ)). Opens book (placed f)) (sym (last-here book 0 p (whole-points book p ∙ t)))
        (body (record { points = t; last = λ q l. h q l }))
    by (inr t) f =
        subst (λ (f : Option (ℕ × ℕ)). Opens book (placed f)) (sym (last_on book 0 p (whole-points book p ∙ t)))
        (f
        (λ q l. ⊎_elim
        (λ b. h q (ltb-true p q b))
        (λ b. let z : q ≡ p = omega (arith, ltb-false p q b) in ap (points_back book) z ∙ t)
        (true-or-false (ltb p q))))

-- what `open` answers is where the body before the last trailer stands
pub open-opens : (book : List ℕ) → Opens book (opened_in book)
unfolding opened_in
open-opens book = search-opens book (length book) (behind-end book)

-- and nothing else does
pub opens-only : {book : List ℕ} {a b : Option (ℕ × ℕ)} → Opens book a → Opens book b → a ≡ b
opens-only {book} (body {p = p} s) (body {p = q} t) = ap (λ (r : ℕ). Some (r - length_at book r, length_at book r)) same
  where
    not_after : {p q : ℕ} → LastTrailer book p → LastTrailer book q → p < q → ⊥
    not_after s t l = true≢false t.points (s.last _ l)

    same : p ≡ q
    same = ⊎_elim
        (λ e. absurd (not_after s t (ltb-true p q e)))
        (λ e. ⊎_elim
        (λ f. absurd (not_after t s (ltb-true q p f)))
        (λ f. omega (arith, ltb-false p q e, ltb-false q p f))
        (true-or-false (ltb q p)))
        (true-or-false (ltb p q))
opens-only (body {p = p} s) (empty h) = absurd (true≢false s.points (h p))
opens-only (empty h) (body {p = p} t) = absurd (true≢false t.points (h p))
opens-only (empty h) (empty k) = refl

-- its bytes are what opening finds
pub opens-body : {book : List ℕ} {a : Option (ℕ × ℕ)} → Opens book a → body_of book a ≡ opened book
unfolding body_before
opens-body {book} (body {p = p} t) = sym (opened-at book p t)
opens-body {book} (empty h) = sym (opened-none book h)

pub open-finds : (book : List ℕ) → body_of book (opened_in book) ≡ opened book
open-finds book = opens-body (open-opens book)

-- the body that is answered has 1 to 4,096 bytes and lies in the file
pub opened-fits : (book : List ℕ) {start n : ℕ} → opened_in book ≡ Some (start, n) → (1 ≤ n) × (n ≤ 4096) × (start + n ≤ length book)
unfolding opened_in
opened-fits book {start} {n} e = by (last_in book 0 (length book)) refl e
  where
    by : (f : Option (ℕ × ℕ)) → last_in book 0 (length book) ≡ f → placed f ≡ Some (start, n) → (1 ≤ n) × (n ≤ 4096) × (start + n ≤ length book)
    by (Some (p, k)) q e =
        let pair : ◌≡◌ {A = ℕ × ℕ} (p - k, k) (start, n) = cc in
        let place : p - k ≡ start = ap (λ (x : ℕ × ℕ). x.0) pair in
        let says : k ≡ n = ap (λ (x : ℕ × ℕ). x.1) pair in
        let f = last_found book 0 (length book) q in
        let stand = points-stand book 0 p f.0 in
        (omega (arith, f.0.positive, f.1), omega (arith, f.0.short, f.1), omega (arith, f.0.within, f.1))
    by None q e = let z : ◌≡◌ {A = ℕ} 0 1 = cc in absurd (omega arith)
