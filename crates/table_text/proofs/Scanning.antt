-- Digits read one by one.
use Rattle.std.specs.Prelude.{None, Some}
use mathlib.Core.Path.{◌≡◌, refl, ap, ◌∙◌}
use mathlib.Core.Logic.{⊎_elim}
use mathlib.Core.Bool.{Bool, true, false, ◌&&◌, cond}
use mathlib.Core.Option.{Option, none, some}
use mathlib.Core.List.{List, [], ◌∷◌}
use Prim.Native.Nat.{ℕ, zero, suc, ◌+◌, ◌-◌, ◌*◌, ◌≤◌, ◌<◌}
use native.Mathlib.Numerals.{add-one}
use native.Mathlib.Omega.{arith}
use lib.Dec.{leb}
use lib.IntN.{ℤ}
use lib.ListN.{length, get_or, take, drop, length-drop}
use lib.Seq.{drop-cons, take_all}
use borrow.Author.Tests.{leb-false, le-leb, lt-leb, le-ltb, eq-eqb, ne_eqb}
use Rattle.granules.proofs.Tests.{true-or-false}
use Rattle.table_text.specs.Numerals.{bound}
use Rattle.table_text.specs.Parse.{is_digit, all_digits, value_from, no_leading_zero, natural, non_negative, negative, number}
use Rattle.table_text.proofs.Numbers.{number-minus, number-other, no_word}
use Rattle.table_text.specs.Answers.{up_to_bound, natural_answer, digits_answer, number_answer}

within-bound : {n : ℕ} → n ≤ bound → up_to_bound n ≡ Some n
within-bound {n} h = rw (le-leb n bound h)

past_bound : {n : ℕ} → bound < n → up_to_bound n ≡ None
past_bound {n} h = rw (lt-leb n bound h)

value_grows : (v : ℕ) (w : List ℕ) → v ≤ value_from v w
value_grows v [] = omega arith
value_grows v (b ∷ w) = let h : 10 * v + (b - 48) ≤ value_from (10 * v + (b - 48)) w = value_grows (10 * v + (b - 48)) w in omega arith

-- no digits are left
pub digits-end : {v : ℕ} → v ≤ bound → digits_answer v [] ≡ Some v
unfolding digits_answer
digits-end h = within-bound h

pub digits-large : {v : ℕ} (w : List ℕ) → bound < v → digits_answer v w ≡ None
unfolding digits_answer
digits-large {v} w h = ⊎_elim (λ e. rw e (past_bound {n = value_from v w} (let g = value_grows v w in omega arith))) (λ e. rw e) (true-or-false (all_digits w))

digits-bad : (v b : ℕ) (w : List ℕ) → is_digit b ≡ false → digits_answer v (b ∷ w) ≡ None
unfolding digits_answer
digits-bad v b w e = rw e

digits_more : (v b : ℕ) (w : List ℕ) → is_digit b ≡ true → digits_answer v (b ∷ w) ≡ digits_answer (10 * v + (b - 48)) w
unfolding digits_answer
digits_more v b w e = rw e

-- ---- the same at a place of a word

module _ (word : List ℕ) (v i : ℕ) (h : i < length word) where
  abbrev here : ℕ
  here = get_or word i 0

  at_place : drop i word ≡ here ∷ drop (i + 1) word
  at_place = rw (add-one, drop-cons word i 0)

  pub place-other : is_digit here ≡ false → digits_answer v (drop i word) ≡ None
  place-other e = ap (digits_answer v) at_place ∙ digits-bad v here (drop (i + 1) word) e

  pub place-digit : is_digit here ≡ true → digits_answer v (drop i word) ≡ digits_answer (10 * v + (here - 48)) (drop (i + 1) word)
  place-digit e = ap (digits_answer v) at_place ∙ digits_more v here (drop (i + 1) word) e

-- ---- a natural number

natural-digits : (w : List ℕ) → no_leading_zero w ≡ true → natural_answer (natural w) ≡ digits_answer 0 w
unfolding natural digits_answer
natural-digits w z = go (all_digits w) (no_leading_zero w) z
  where
    go : (a b : Bool) → b ≡ true → natural_answer (cond (a && b) (some (value_from 0 w)) none) ≡ cond a (up_to_bound (value_from 0 w)) None
    go true b e = rw e
    go false b e = refl

natural-leading : (w : List ℕ) → no_leading_zero w ≡ false → natural_answer (natural w) ≡ None
unfolding natural
natural-leading w z = go (all_digits w) (no_leading_zero w) z
  where
    go : (a b : Bool) → b ≡ false → natural_answer (cond (a && b) (some (value_from 0 w)) none) ≡ None
    go true b e = rw e
    go false b e = refl

pub natural-none : (w : List ℕ) → length w ≡ 0 → natural_answer (natural w) ≡ None
natural-none [] h = natural-leading [] refl
natural-none (b ∷ w) h = absurd (omega arith)

pub natural-one : (w : List ℕ) → length w ≡ 1 → natural_answer (natural w) ≡ digits_answer 0 w
natural-one [] h = absurd (omega arith)
natural-one (b ∷ []) h = natural-digits (b ∷ []) refl
natural-one (b ∷ c ∷ w) h = absurd (omega arith)

pub natural-zero : (w : List ℕ) → (length w ≡ 0 → ⊥) → (length w ≡ 1 → ⊥) → get_or w 0 0 ≡ 48 → natural_answer (natural w) ≡ None
natural-zero [] h g e = absurd (h refl)
natural-zero (b ∷ []) h g e = absurd (g refl)
natural-zero (b ∷ c ∷ w) h g e = natural-leading (b ∷ c ∷ w) (rw (eq-eqb b 48 e))

pub natural-several : (w : List ℕ) → (length w ≡ 0 → ⊥) → (length w ≡ 1 → ⊥) → (get_or w 0 0 ≡ 48 → ⊥) → natural_answer (natural w) ≡ digits_answer 0 w
natural-several [] h g e = absurd (h refl)
natural-several (b ∷ []) h g e = absurd (g refl)
natural-several (b ∷ c ∷ w) h g e = natural-digits (b ∷ c ∷ w) (rw (ne_eqb b 48 e))

-- ---- a number below zero

pub negative-large : (n : ℕ) → bound < n → number_answer (negative (some n)) ≡ None
negative-large zero h = refl
negative-large (suc m) h = rw (le-ltb m bound (omega arith))

-- ---- a number, by its sign

pub number-none : (w : List ℕ) → length w ≡ 0 → number w ≡ none
number-none [] h = no_word
number-none (b ∷ w) h = absurd (omega arith)

pub number-signed : (w : List ℕ) → (length w ≡ 0 → ⊥) → get_or w 0 0 ≡ 45 → number w ≡ negative (natural (drop 1 w))
number-signed [] h e = absurd (h refl)
number-signed (b ∷ w) h e = ap (λ (c : ℕ). number (c ∷ w)) e ∙ number-minus w

pub number-unsigned : (w : List ℕ) → (length w ≡ 0 → ⊥) → (get_or w 0 0 ≡ 45 → ⊥) → number w ≡ non_negative (natural w)
number-unsigned [] h e = absurd (h refl)
number-unsigned (b ∷ w) h e = number-other b w (ne_eqb b 45 e)

-- what is answered for a natural number is all that counts of it
module _ {n : ℕ} where
  bounded : (v : ℕ) → up_to_bound n ≡ Some v → n ≡ v
  bounded v e = ⊎_elim (λ t. let q : Some n ≡ Some v = rw t at e in cc) (λ t. let q : None ≡ Some v = rw t at e in let z : ◌≡◌ {A = ℕ} 0 1 = cc in absurd (omega arith)) (true-or-false (leb n bound))

  unbounded : up_to_bound n ≡ None → bound < n
  unbounded e = ⊎_elim (λ t. let q : Some n ≡ None = rw t at e in let z : ◌≡◌ {A = ℕ} 0 1 = cc in absurd (omega arith)) (λ t. leb-false n bound t) (true-or-false (leb n bound))

natural-value : (f : Option ℕ → Option ℤ) (o : Option ℕ) (v : ℕ) → natural_answer o ≡ Some v → number_answer (f o) ≡ number_answer (f (some v))
natural-value f none v e = let z : ◌≡◌ {A = ℕ} 0 1 = cc in absurd (omega arith)
natural-value f (some n) v e = ap (λ (m : ℕ). number_answer (f (some m))) (bounded v e)

pub signed-value : (o : Option ℕ) (v : ℕ) → natural_answer o ≡ Some v → number_answer (negative o) ≡ number_answer (negative (some v))
signed-value o v e = natural-value negative o v e

pub unsigned-value : (o : Option ℕ) (v : ℕ) → natural_answer o ≡ Some v → number_answer (non_negative o) ≡ number_answer (non_negative (some v))
unsigned-value o v e = natural-value non_negative o v e

pub signed-bad : (o : Option ℕ) → natural_answer o ≡ None → number_answer (negative o) ≡ None
signed-bad none e = refl
signed-bad (some n) e = negative-large n (unbounded e)

pub unsigned-bad : (o : Option ℕ) → natural_answer o ≡ None → number_answer (non_negative o) ≡ None
unsigned-bad none e = refl
unsigned-bad (some n) e = rw (le-ltb n bound (let h : bound < n = unbounded e in omega arith))

-- the part of a slice from a on
pub tail-part : (w : List ℕ) (a : ℕ) → take (length w - a) (drop a w) ≡ drop a w
tail-part w a = take_all (length w - a) (drop a w) (omega (arith, length-drop a w))
