-- Decimal digits and their value: each is found from the other.
use mathlib.Core.Path.{◌≡◌, refl, sym, ap, ap₂, ◌∙◌}
use mathlib.Core.Logic.{⊎_elim}
use mathlib.Core.Bool.{true, ◌&&◌}
use mathlib.Core.Option.{some, some-injective, none-ne-some}
use mathlib.Core.List.{List, [], ◌∷◌, ◌++◌, append_assoc, append-nil}
use Prim.Native.Nat.{ℕ, zero, suc, ◌+◌, ◌-◌, ◌*◌, ◌/◌, ◌%◌, ◌≤◌, ◌<◌}
use native.Mathlib.Nat.{zero-add}
use native.Mathlib.Omega.{arith}
use lib.Dec.{eqb, leb, ltb}
use borrow.Author.Tests.{leb-true, ltb-true, ltb-false, eqb-false, lt-ltb, le-ltb, le-leb, ne_eqb}
use Rattle.granules.proofs.Tests.{true-or-false, true≢false, and-iff, not_iff}
use Rattle.table_text.specs.Numerals.{digits_within, decimal}
use Rattle.table_text.specs.Parse.{is_digit, all_digits, value_from, no_leading_zero, natural}

-- ---- the digits of n, from those of n / 10

small : (f n : ℕ) → n < 10 → digits_within f n ≡ (48 + n) ∷ []
unfolding digits_within
small zero n h = refl
small (suc f) n h = rw (lt-ltb n 10 h, digits_within)

step : (f n : ℕ) → 10 ≤ n → digits_within (suc f) n ≡ digits_within f (n / 10) ++ ((48 + n % 10) ∷ [])
unfolding digits_within
step f n h = rw (le-ltb n 10 h, digits_within)

enough : (f g n : ℕ) → n ≤ f → n ≤ g → digits_within f n ≡ digits_within g n
enough zero g n h k = small 0 n (omega arith) ∙ sym (small g n (omega arith))
enough (suc f) zero n h k = small (suc f) n (omega arith) ∙ sym (small 0 n (omega arith))
enough (suc f) (suc g) n h k =
    ⊎_elim
    (λ e. let l : n < 10 = ltb-true n 10 e in small (suc f) n l ∙ sym (small (suc g) n l))
    (λ e. let l : 10 ≤ n = ltb-false n 10 e in step f n l ∙ ap (λ (w : List ℕ). w ++ ((48 + n % 10) ∷ [])) (enough f g (n / 10) (omega arith) (omega arith)) ∙ sym (step g n l))
    (true-or-false (ltb n 10))

pub decimal-small : (n : ℕ) → n < 10 → decimal n ≡ (48 + n) ∷ []
unfolding decimal
decimal-small n h = small n n h

pub decimal_step : (n : ℕ) → 10 ≤ n → decimal n ≡ decimal (n / 10) ++ ((48 + n % 10) ∷ [])
unfolding decimal
decimal_step zero h = absurd (omega arith)
decimal_step (suc m) h = step m (suc m) h ∙ ap (λ (w : List ℕ). w ++ ((48 + suc m % 10) ∷ [])) (enough m (suc m / 10) (suc m / 10) (omega arith) (omega arith))

-- what holds of the one-digit numbers, and of n where it holds of n / 10, holds of all
pub decimal-induction : (Q : ℕ → Type 0) → ((n : ℕ) → n < 10 → Q n) → ((n : ℕ) → 10 ≤ n → Q (n / 10) → Q n) → (n : ℕ) → Q n
decimal-induction Q base next n = go n n (omega arith)
  where
    go : (f n : ℕ) → n ≤ f → Q n
    go zero n h = base n (omega arith)
    go (suc f) n h = ⊎_elim (λ e. base n (ltb-true n 10 e)) (λ e. let l : 10 ≤ n = ltb-false n 10 e in next n l (go f (n / 10) (omega arith))) (true-or-false (ltb n 10))

-- ---- the value of digits

value-snoc : (v : ℕ) (w : List ℕ) (b : ℕ) → value_from v (w ++ (b ∷ [])) ≡ 10 * value_from v w + (b - 48)
value-snoc v [] b = refl
value-snoc v (c ∷ w) b = value-snoc (10 * v + (c - 48)) w b

pub decimal-value : (n : ℕ) → value_from 0 (decimal n) ≡ n
decimal-value =
    decimal-induction (λ n. value_from 0 (decimal n) ≡ n)
    (λ n h. rw (decimal-small n h) (omega arith))
    (λ n h e. rw (decimal_step n h, value-snoc 0 (decimal (n / 10)) (48 + n % 10), e) (omega arith))

digits-snoc : (w : List ℕ) (b : ℕ) → all_digits w ≡ true → is_digit b ≡ true → all_digits (w ++ (b ∷ [])) ≡ true
digits-snoc [] b h d = (and-iff (is_digit b) true).1 (d, refl)
digits-snoc (c ∷ w) b h d = let p = (and-iff (is_digit c) (all_digits w)).0 h in (and-iff (is_digit c) (all_digits (w ++ (b ∷ [])))).1 (p.0, digits-snoc w b p.1 d)

digit : (d : ℕ) → d < 10 → is_digit (48 + d) ≡ true
digit d h = (and-iff (leb 48 (48 + d)) (leb (48 + d) 57)).1 (le-leb 48 (48 + d) (omega arith), le-leb (48 + d) 57 (omega arith))

pub decimal-digits : (n : ℕ) → all_digits (decimal n) ≡ true
decimal-digits =
    decimal-induction (λ n. all_digits (decimal n) ≡ true)
    (λ n h. rw (decimal-small n h) ((and-iff (is_digit (48 + n)) true).1 (digit n h, refl)))
    (λ n h e. rw (decimal_step n h) (digits-snoc (decimal (n / 10)) (48 + n % 10) e (digit (n % 10) (omega arith))))

-- the first digit, which is 0 in no number above 0
pub record Starts (n : ℕ) : Type 0 where
  pub first : ℕ
  pub rest : List ℕ
  pub digits : decimal n ≡ first ∷ rest
  pub above : 0 < n → 48 < first
  pub digit : 48 ≤ first

pub starts : (n : ℕ) → Starts n
starts =
    decimal-induction Starts
    (λ n h. record { first = 48 + n; rest = []; digits = decimal-small n h; above = λ p. omega arith; digit = omega arith })
    (λ n h s. record {
      first = s.first;
      rest = s.rest ++ ((48 + n % 10) ∷ []);
      digits = decimal_step n h ∙ ap (λ (w : List ℕ). w ++ ((48 + n % 10) ∷ [])) s.digits;
      above = λ p. s.above (omega arith);
      digit = s.digit;
    })

not-zero : (b : ℕ) (w : List ℕ) → 48 < b → no_leading_zero (b ∷ w) ≡ true
not-zero b [] h = refl
not-zero b (c ∷ w) h = (not_iff (eqb b 48)).1 (ne_eqb b 48 (λ e. omega arith))

no-leading-zero : (n : ℕ) → no_leading_zero (decimal n) ≡ true
no-leading-zero n =
    ⊎_elim
    (λ e. rw (decimal-small n (ltb-true n 10 e)))
    (λ e. let h : 10 ≤ n = ltb-false n 10 e in rw (starts n).digits (not-zero (starts n).first (starts n).rest ((starts n).above (omega arith))))
    (true-or-false (ltb n 10))

-- the digits of n read as n
pub natural-decimal : (n : ℕ) → natural (decimal n) ≡ some n
unfolding natural
natural-decimal n = rw (decimal-digits n, no-leading-zero n, decimal-value n)

-- ---- digits that are read are those of the number

append-digit : (v b : ℕ) → 0 < v → is_digit b ≡ true → decimal (10 * v + (b - 48)) ≡ decimal v ++ (b ∷ [])
append-digit v b p d =
    let l : 48 ≤ b = leb-true 48 b ((and-iff (leb 48 b) (leb b 57)).0 d).0 in
    let h : b ≤ 57 = leb-true b 57 ((and-iff (leb 48 b) (leb b 57)).0 d).1 in
    decimal_step (10 * v + (b - 48)) (omega arith)
    ∙ ap₂ (λ (m c : ℕ). decimal m ++ (c ∷ [])) (let e : (10 * v + (b - 48)) / 10 ≡ v = omega arith in e) (let e : 48 + (10 * v + (b - 48)) % 10 ≡ b = omega arith in e)

value-digits : (v : ℕ) (w : List ℕ) → 0 < v → all_digits w ≡ true → decimal (value_from v w) ≡ decimal v ++ w
value-digits v [] p d = sym (append-nil (decimal v))
value-digits v (b ∷ w) p d =
    let q = (and-iff (is_digit b) (all_digits w)).0 d in
    value-digits (10 * v + (b - 48)) w (omega arith) q.1
    ∙ ap (λ (u : List ℕ). u ++ w) (append-digit v b p q.0)
    ∙ append_assoc (decimal v) (b ∷ []) w

one-digit : (b : ℕ) → is_digit b ≡ true → decimal (b - 48) ≡ b ∷ []
one-digit b d =
    let l : 48 ≤ b = leb-true 48 b ((and-iff (leb 48 b) (leb b 57)).0 d).0 in
    let h : b ≤ 57 = leb-true b 57 ((and-iff (leb 48 b) (leb b 57)).0 d).1 in
    decimal-small (b - 48) (omega arith) ∙ ap (λ (c : ℕ). c ∷ []) (let e : 48 + (b - 48) ≡ b = omega arith in e)

digits-back : (w : List ℕ) → all_digits w ≡ true → no_leading_zero w ≡ true → w ≡ decimal (value_from 0 w)
digits-back [] d z = absurd (true≢false z refl)
digits-back (b ∷ []) d z = rw (zero-add (b - 48)) (sym (one-digit b ((and-iff (is_digit b) true).0 d).0))
digits-back (b ∷ c ∷ w) d z =
    let q = (and-iff (is_digit b) (all_digits (c ∷ w))).0 d in
    let l : 48 ≤ b = leb-true 48 b ((and-iff (leb 48 b) (leb b 57)).0 q.0).0 in
    let p : 0 < b - 48 = positive b l (eqb-false b 48 ((not_iff (eqb b 48)).0 z)) in
    rw (zero-add (b - 48)) (sym (value-digits (b - 48) (c ∷ w) p q.1 ∙ ap (λ (u : List ℕ). u ++ (c ∷ w)) (one-digit b q.0)))
  where
    positive : (b : ℕ) → 48 ≤ b → (b ≡ 48 → ⊥) → 0 < b - 48
    positive b l ne = omega arith

pub natural-back : (w : List ℕ) (n : ℕ) → natural w ≡ some n → w ≡ decimal n
unfolding natural
natural-back w n e = ⊎_elim
    (λ t. let q = (and-iff (all_digits w) (no_leading_zero w)).0 t in digits-back w q.0 q.1 ∙ ap decimal (some-injective _ _ (rw t at e)))
    (λ t. absurd (none-ne-some n (rw t at e)))
    (true-or-false (all_digits w && no_leading_zero w))
