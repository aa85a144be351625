-- What opening finds is the body before the last trailer that points back, and nothing where there is none.
use mathlib.Core.Path.{◌≡◌, sym, ap, ◌∙◌}
use mathlib.Core.Logic.{◌⊎◌, inl, inr, ⊎_elim}
use mathlib.Core.Bool.{true, false}
use mathlib.Core.Option.{none, some, some-injective, none-ne-some}
use mathlib.Core.List.{List}
use Prim.Native.Nat.{ℕ, zero, suc, ◌+◌, ◌-◌, ◌≤◌}
use native.Mathlib.Omega.{arith}
use lib.Dec.{ltb}
use lib.ListN.{length}
use borrow.Author.Tests.{ltb-true, ltb-false}
use Rattle.granules.proofs.Tests.{true-or-false}
use Rattle.journal.specs.Journal.{points_back, body_before, open_before, opened, LastTrailer}
use Rattle.journal.proofs.Places.{stands, nothing, take-it, skip, passed}

-- none points back from behind the file's end
pub behind-end : (book : List ℕ) (p : ℕ) → length book ≤ p → points_back book p ≡ false
behind-end book p h = ⊎_elim (λ e. absurd (let s = stands book p e in omega arith)) (λ e. e) (true-or-false (points_back book p))

-- from q on none points back, and what is found before q
record Searched (book : List ℕ) (q : ℕ) (s : List ℕ) : Type 0 where
  place : ℕ
  trailer : LastTrailer book place
  body : s ≡ body_before book place

search-some : (book : List ℕ) (q : ℕ) → ((p : ℕ) → q ≤ p → points_back book p ≡ false) → (s : List ℕ)
    → open_before book q ≡ some s → Searched book q s
search-some book zero h s e = absurd (none-ne-some s (sym (nothing book) ∙ e))
search-some book (suc p) h s e = go (true-or-false (points_back book p)) (λ f. search-some book p f s)
  where
    go : (points_back book p ≡ true) ⊎ (points_back book p ≡ false)
        → (((r : ℕ) → p ≤ r → points_back book r ≡ false) → open_before book p ≡ some s → Searched book p s)
        → Searched book (suc p) s
    go (inl t) f =
        let same = some-injective _ _ (sym (take-it book p t) ∙ e) in
        record { place = p; trailer = record { points = t; last = λ q l. h q l }; body = sym same }
    go (inr t) f =
        let none : (q : ℕ) → p ≤ q → points_back book q ≡ false = λ q l. ⊎_elim
        (λ b. h q (ltb-true p q b))
        (λ b. let z : q ≡ p = omega (arith, ltb-false p q b) in ap (points_back book) z ∙ t)
        (true-or-false (ltb p q)) in
        let r = f none (sym (skip book p t) ∙ e) in
        record { place = r.place; trailer = r.trailer; body = r.body }

pub opened_some : (book s : List ℕ) → opened book ≡ some s → (p : ℕ) × LastTrailer book p × (s ≡ body_before book p)
unfolding opened
opened_some book s e = let r = search-some book (length book) (behind-end book) s e in (r.place, r.trailer, r.body)

pub opened-at : (book : List ℕ) (p : ℕ) → LastTrailer book p → opened book ≡ some (body_before book p)
unfolding opened
opened-at book p t =
    let s = stands book p t.points in
    ap (open_before book) (let q : length book ≡ suc p + (length book - suc p) = omega arith in q)
    ∙ passed book (suc p) (length book - suc p) (λ q l. t.last q l)
    ∙ take-it book p t.points

pub opened-none : (book : List ℕ) → ((p : ℕ) → points_back book p ≡ false) → opened book ≡ none
unfolding opened
opened-none book h =
    ap (open_before book) (let q : length book ≡ 0 + length book = omega arith in q)
    ∙ passed book 0 (length book) (λ p l. h p)
    ∙ nothing book
