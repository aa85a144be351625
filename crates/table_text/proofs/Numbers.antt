-- Numbers are written and read alike: a word is read exactly if it is the written form of a 32-bit number.
use mathlib.Core.Path.{◌≡◌, refl, sym, ap, subst, ◌∙◌}
use mathlib.Core.Logic.{⊎_elim}
use mathlib.Core.Bool.{true, false}
use mathlib.Core.Option.{Option, none, some, some-injective, none-ne-some}
use mathlib.Core.List.{List, [], ◌∷◌}
use Prim.Native.Nat.{ℕ, zero, suc, ◌≤◌, ◌<◌}
use native.Mathlib.Omega.{arith}
use lib.Dec.{eqb, leb, ltb}
use lib.IntN.{ℤ, pos, negsuc}
use borrow.Author.Tests.{leb-true, eqb-true, ne_eqb}
use Rattle.granules.proofs.Tests.{true-or-false, and-iff}
use Rattle.table_text.specs.Numerals.{decimal, numeral, bound, fits}
use Rattle.table_text.specs.Parse.{is_digit, all_digits, natural, number, non_negative, negative}
use Rattle.table_text.proofs.Decimal.{natural-decimal, natural-back, starts, decimal-digits}

-- ---- the two signs

pub numeral-pos : (n : ℕ) → numeral (pos n) ≡ decimal n
unfolding numeral
numeral-pos n = refl

pub numeral-negsuc : (n : ℕ) → numeral (negsuc n) ≡ 45 ∷ decimal (suc n)
unfolding numeral
numeral-negsuc n = refl

pub number-minus : (w : List ℕ) → number (45 ∷ w) ≡ negative (natural w)
unfolding number
number-minus w = refl

pub number-other : (b : ℕ) (w : List ℕ) → eqb b 45 ≡ false → number (b ∷ w) ≡ non_negative (natural (b ∷ w))
unfolding number
number-other b w e = rw e

pub no_word : number [] ≡ none
unfolding number
no_word = refl

-- ---- what is written is read

read-natural : (n : ℕ) → ltb n bound ≡ true → non_negative (natural (decimal n)) ≡ some (pos n)
read-natural n h = rw (natural-decimal n, h)

number-decimal : (n : ℕ) → number (decimal n) ≡ non_negative (natural (decimal n))
number-decimal n =
    ap number (starts n).digits
    ∙ number-other (starts n).first (starts n).rest (ne_eqb (starts n).first 45 (λ e. let d = (starts n).digit in omega arith))
    ∙ ap (λ (w : List ℕ). non_negative (natural w)) (sym (starts n).digits)

pub number-numeral : (z : ℤ) → fits z ≡ true → number (numeral z) ≡ some z
number-numeral (pos n) h = ap number (numeral-pos n) ∙ number-decimal n ∙ read-natural n h
number-numeral (negsuc n) h = ap number (numeral-negsuc n) ∙ number-minus (decimal (suc n)) ∙ rw (natural-decimal (suc n), h)

-- ---- what is read was written

pub record Reads (w : List ℕ) (z : ℤ) : Type 0 where
  pub word : w ≡ numeral z
  pub fit : fits z ≡ true

non_negative-back : (w : List ℕ) (o : Option ℕ) → natural w ≡ o → (z : ℤ) → non_negative o ≡ some z → Reads w z
non_negative-back w none q z e = absurd (none-ne-some z e)
non_negative-back w (some n) q z e = ⊎_elim fit too_long (true-or-false (ltb n bound))
  where
    fit : ltb n bound ≡ true → Reads w z
    fit t = let p : pos n ≡ z = some-injective _ _ (rw t at e) in subst (Reads w) p (record { word = natural-back w n q ∙ sym (numeral-pos n); fit = t })

    too_long : ltb n bound ≡ false → Reads w z
    too_long t = absurd (none-ne-some z (rw t at e))

negative_back : (w : List ℕ) (o : Option ℕ) → natural w ≡ o → (z : ℤ) → negative o ≡ some z → Reads (45 ∷ w) z
negative_back w none q z e = absurd (none-ne-some z e)
negative_back w (some zero) q z e = absurd (none-ne-some z e)
negative_back w (some (suc n)) q z e = ⊎_elim fit too_long (true-or-false (ltb n bound))
  where
    fit : ltb n bound ≡ true → Reads (45 ∷ w) z
    fit t = let p : negsuc n ≡ z = some-injective _ _ (rw t at e) in subst (Reads (45 ∷ w)) p (record { word = ap (λ (v : List ℕ). 45 ∷ v) (natural-back w (suc n) q) ∙ sym (numeral-negsuc n); fit = t })

    too_long : ltb n bound ≡ false → Reads (45 ∷ w) z
    too_long t = absurd (none-ne-some z (rw t at e))

pub number-back : (w : List ℕ) (z : ℤ) → number w ≡ some z → Reads w z
number-back [] z e = absurd (none-ne-some z (sym no_word ∙ e))
number-back (b ∷ w) z e = ⊎_elim signed unsigned (true-or-false (eqb b 45))
  where
    signed : eqb b 45 ≡ true → Reads (b ∷ w) z
    signed t =
        let p : b ≡ 45 = eqb-true b 45 t in
        subst (λ (c : ℕ). Reads (c ∷ w) z) (sym p) (negative_back w (natural w) refl z (sym (number-minus w) ∙ ap (λ (c : ℕ). number (c ∷ w)) (sym p) ∙ e))

    unsigned : eqb b 45 ≡ false → Reads (b ∷ w) z
    unsigned t = non_negative-back (b ∷ w) (natural (b ∷ w)) refl z (sym (number-other b w t) ∙ e)

-- ---- the bytes of a number

-- P holds of each byte
abbrev pub Each : (ℕ → Type 0) → List ℕ → Type 0
Each P [] = Unit {0}
Each P (b ∷ w) = P b × Each P w

-- a byte of a word: neither space nor line feed, and below 128
abbrev pub Visible : ℕ → Type 0
Visible b = (32 < b) × (b < 128)

digits-visible : (w : List ℕ) → all_digits w ≡ true → Each Visible w
digits-visible [] h = tt
digits-visible (b ∷ w) h =
    let p = (and-iff (is_digit b) (all_digits w)).0 h in
    let q = (and-iff (leb 48 b) (leb b 57)).0 p.0 in
    let l : 48 ≤ b = leb-true 48 b q.0 in
    let m : b ≤ 57 = leb-true b 57 q.1 in
    ((omega arith, omega arith), digits-visible w p.1)

pub decimal-visible : (n : ℕ) → Each Visible (decimal n)
decimal-visible n = digits-visible (decimal n) (decimal-digits n)

pub numeral-visible : (z : ℤ) → Each Visible (numeral z)
numeral-visible (pos n) = rw (numeral-pos n) (decimal-visible n)
numeral-visible (negsuc n) = rw (numeral-negsuc n) ((omega arith, omega arith), decimal-visible (suc n))
