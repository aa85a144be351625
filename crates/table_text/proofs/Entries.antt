-- A line is read exactly if it is the written form of six 32-bit numbers.
use mathlib.Core.Path.{◌≡◌, refl, sym, ap, subst, ◌∙◌}
use mathlib.Core.Logic.{⊎_elim}
use mathlib.Core.Bool.{true}
use mathlib.Core.Option.{Option, none, some, some-injective, none-ne-some}
use mathlib.Core.List.{List, [], ◌∷◌, map}
use Prim.Native.Nat.{ℕ, ◌<◌}
use native.Mathlib.Omega.{arith}
use lib.Dec.{eqb}
use lib.IntN.{ℤ}
use lib.ListN.{length}
use borrow.Author.Tests.{eqb-true, eq-eqb}
use Rattle.granules.proofs.Tests.{true-or-false, and-iff}
use Rattle.table_text.specs.Numerals.{numeral, fits}
use Rattle.table_text.specs.Words.{space, joined_by}
use Rattle.table_text.specs.Text.{entry_length, all_fit}
use Rattle.table_text.specs.Parse.{number, split, number_before, numbers, of_six, entry_of}
use Rattle.table_text.proofs.Numbers.{number-back, number-numeral, Each, Visible, numeral-visible}
use Rattle.table_text.proofs.Pieces.{Without, EachWithout, split-joined, joined-split}

-- ---- numbers

-- the words are those of the numbers e
pub record Words (ws : List (List ℕ)) (e : List ℤ) : Type 0 where
  pub words : ws ≡ map numeral e
  pub fit : all_fit e ≡ true

pub numbers-back : (ws : List (List ℕ)) (e : List ℤ) → numbers ws ≡ some e → Words ws e
numbers-back [] e h = subst (Words []) (some-injective _ _ h) (record { words = refl; fit = refl })
numbers-back (w ∷ l) e h = go (number w) refl (numbers l) (λ f q. numbers-back l f q) h
  where
    go : (o : Option ℤ) → number w ≡ o → (r : Option (List ℤ)) → ((f : List ℤ) → r ≡ some f → Words l f) → number_before o r ≡ some e → Words (w ∷ l) e
    go none p r q h = absurd (none-ne-some e h)
    go (some z) p none q h = absurd (none-ne-some e h)
    go (some z) p (some f) q h =
        let a = number-back w z p in
        let b = q f refl in
        subst (Words (w ∷ l)) (some-injective _ _ h)
        (record { words = ap (λ (v : List ℕ). v ∷ l) a.word ∙ ap (λ (m : List (List ℕ)). numeral z ∷ m) b.words; fit = (and-iff (fits z) (all_fit f)).1 (a.fit, b.fit) })

pub numbers-numerals : (e : List ℤ) → all_fit e ≡ true → numbers (map numeral e) ≡ some e
numbers-numerals [] h = refl
numbers-numerals (z ∷ e) h = let p = (and-iff (fits z) (all_fit e)).0 h in rw (number-numeral z p.0, numbers-numerals e p.1)

-- ---- an entry

-- l, which comes without its line feed, is the line of the entry e
pub record LineOf (l : List ℕ) (e : List ℤ) : Type 0 where
  pub six : length e ≡ entry_length
  pub fit : all_fit e ≡ true
  pub text : l ≡ joined_by space (map numeral e)

entry-clause : (l : List ℕ) → entry_of l ≡ of_six (numbers (split space l))
unfolding entry_of
entry-clause l = refl

pub entry-back : (l : List ℕ) (e : List ℤ) → entry_of l ≡ some e → LineOf l e
entry-back l e h = go (numbers (split space l)) (λ f q. numbers-back (split space l) f q) (sym (entry-clause l) ∙ h)
  where
    line_of : (f : List ℤ) → Words (split space l) f → length f ≡ entry_length → LineOf l f
    line_of f w six = record { six = six; fit = w.fit; text = sym (split-joined space l) ∙ ap (joined_by space) w.words }

    go : (o : Option (List ℤ)) → ((f : List ℤ) → o ≡ some f → Words (split space l) f) → of_six o ≡ some e → LineOf l e
    go none w h = absurd (none-ne-some e h)
    go (some f) w h = ⊎_elim
        (λ t. subst (LineOf l) (some-injective _ _ (rw t at h)) (line_of f (w f refl) (eqb-true (length f) entry_length t)))
        (λ t. absurd (none-ne-some e (rw t at h)))
        (true-or-false (eqb (length f) entry_length))

-- ---- bytes of words

pub visible_without : (b : ℕ) → b < 33 → (w : List ℕ) → Each Visible w → Without b w
visible_without b h [] v = tt
visible_without b h (c ∷ w) v = (λ e. let l : 32 < c = v.0.0 in omega arith, visible_without b h w v.1)

pub numerals-without : (b : ℕ) → b < 33 → (e : List ℤ) → EachWithout b (map numeral e)
numerals-without b h [] = tt
numerals-without b h (z ∷ e) = (visible_without b h (numeral z) (numeral-visible z), numerals-without b h e)

pub entry-line : (e : List ℤ) → length e ≡ entry_length → all_fit e ≡ true → entry_of (joined_by space (map numeral e)) ≡ some e
entry-line [] six fit = absurd (omega arith)
entry-line (z ∷ e) six fit =
    entry-clause (joined_by space (map numeral (z ∷ e)))
    ∙ ap (λ (ws : List (List ℕ)). of_six (numbers ws)) (joined-split space (numeral z) (map numeral e) (numerals-without space (omega arith) (z ∷ e)))
    ∙ ap of_six (numbers-numerals (z ∷ e) fit)
    ∙ rw (eq-eqb (length (z ∷ e)) entry_length six)
