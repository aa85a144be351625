-- The check of headings with more behind them.
-- Assumes nothing.
use borrow.Author.Tests.{leb-true, leb-false}
use mathlib.Core.Path.{◌≡◌, refl, sym, ◌∙◌, ap, ap₂}
use mathlib.Core.Bool.{Bool, true, false, ◌&&◌, cond}
use mathlib.Core.List.{List, [], ◌∷◌, ◌++◌, append_assoc}
use Prim.Native.Nat.{ℕ, zero, suc, ◌+◌, ◌-◌, ◌*◌, ◌/◌, ◌%◌, ◌≤◌, ◌<◌}
use native.Mathlib.Omega.{arith}
use lib.Dec.{eqb, leb}
use lib.IntN.{ℤ}
use lib.ListN.{length, take, drop, replicate, length-append, length-drop, take-append-drop, drop_of_length-le, replicate-append-replicate}
use lib.Seq.{length-take-le, take_all, take-append-le, drop-append-le}
use Rattle.calendar.specs.Limits.{pool_limit, entry_limit, heading_length}
use Rattle.calendar.specs.Meaning.{Row, empty}
use Rattle.calendar.specs.Lists.{equal, filled}
use Rattle.calendar.specs.Reply.{Reply, require}
use Rattle.calendar.specs.Reply.Reply.{refused, answer}
use Rattle.calendar.specs.Table.{entry_at, admitted}
use Rattle.calendar.specs.Outcome.{judged}
use Rattle.calendar.specs.Stored.{joined, headings_from}
use Rattle.granules.proofs.Tests.{and-iff, leb-iff}
use Rattle.conversion.proofs.Headings.{filled-length, headings-length}
use Rattle.standing.specs.Standing.{alike, holds}
use Rattle.standing.specs.Tests.{all_zero}
use Rattle.verdicts.specs.Check.{stands, check_entries, check}
use Rattle.verdicts.specs.declared.Verdict.{Verdict}
use Rattle.verdicts.specs.declared.Verdict.TheVariants.{Accepted, Refused, Wrong}
use Rattle.verdicts.proofs.Passing.{check_after, check-zero, check-suc}
use Rattle.verdicts.proofs.Prefix.{admitted-gives}
use Rattle.checking.proofs.Table.{check-refused, check-admitted}
use Rattle.heading_records.specs.Reading.{beyond}
use Rattle.heading_records.proofs.Reading.{and-true, and-false, and_assoc}

-- ---- a list in two parts beside one that ends in zeros

and-swap : (a z c : Bool) → (a && z) && c ≡ (a && c) && z
and-swap true true c = sym (and-true c)
and-swap true false c = sym (and-false c)
and-swap false z c = refl

alike-append : {A : Type 0} (f : A → A → Bool) (x y u v : List A) → length x ≡ length y → alike f (x ++ u) (y ++ v) ≡ alike f x y && alike f u v
alike-append f [] [] u v e = refl
alike-append f [] (b ∷ y) u v e = absurd (omega (arith, e))
alike-append f (a ∷ x) [] u v e = absurd (omega (arith, e))
alike-append f (a ∷ x) (b ∷ y) u v e =
    ap (λ (t : Bool). f a b && t) (alike-append f x y u v (omega (arith, e))) ∙ and_assoc (f a b) (alike f x y) (alike f u v)

alike-zeros : (l : List ℕ) → alike eqb l (replicate (length l) 0) ≡ all_zero l
alike-zeros [] = refl
alike-zeros (n ∷ l) = ap (λ (b : Bool). eqb n 0 && b) (alike-zeros l)

pub filled_more : (n m : ℕ) (g : List ℕ) → length g ≤ n → filled (n + m) 0 g ≡ filled n 0 g ++ replicate m 0
filled_more n m g b =
    ap (λ (i : ℕ). g ++ replicate i 0) (left (length g) b)
    ∙ ap (λ (z : List ℕ). g ++ z) (sym (replicate-append-replicate (n - length g) m 0))
    ∙ sym (append_assoc g (replicate (n - length g) 0) (replicate m 0))
  where
    left : (k : ℕ) → k ≤ n → n + m - k ≡ n - k + m
    left k h = omega arith

-- ---- what is compared with headings F that have B behind them

module _ (pool : List ℤ) (F B : List ℕ) where
  pub holds_more : (l : List Row) → heading_length * length l ≤ length F → holds l (F ++ B) pool ≡ holds l F pool && all_zero B
  unfolding holds
  holds_more l b =
      let g = headings_from 0 l in
      let fits : length g ≤ length F = omega (arith, headings-length 0 l) in
      ap (λ (x : Bool). x && alike equal pool (filled (length pool) empty (joined l)))
      (ap (λ (n : ℕ). alike eqb (F ++ B) (filled n 0 g)) (length-append F B)
      ∙ ap (alike eqb (F ++ B)) (filled_more (length F) (length B) g fits)
      ∙ alike-append eqb F (filled (length F) 0 g) B (replicate (length B) 0) (sym (filled-length (length F) 0 g fits))
      ∙ ap (λ (z : Bool). alike eqb F (filled (length F) 0 g) && z) (alike-zeros B))
      ∙ and-swap (alike eqb F (filled (length F) 0 g)) (all_zero B) (alike equal pool (filled (length pool) empty (joined l)))

  stands-more : (k used : ℕ) (r : Row) → heading_length * k + heading_length ≤ length F → stands (F ++ B) pool k used r ≡ stands F pool k used r
  unfolding stands
  stands-more k used r b =
      ap (λ (x : List ℕ). alike eqb x (headings_from used (r ∷ [])) && alike equal (take r.period (drop used pool)) r.cells)
      (ap (take heading_length) (drop-append-le (heading_length * k) F B (omega arith))
      ∙ take-append-le heading_length (drop (heading_length * k) F) B (omega (arith, length-drop (heading_length * k) F)))

-- ---- the verdict

last-beyond : (x z : Bool) (k : ℕ) → cond (x && z) Accepted (Wrong k) ≡ beyond z k (cond x Accepted (Wrong k))
last-beyond true true k = refl
last-beyond true false k = refl
last-beyond false true k = refl
last-beyond false false k = refl

beyond-refused : (z : Bool) (n m k : ℕ) → beyond z n (Refused m k) ≡ Refused m k
beyond-refused true n m k = refl
beyond-refused false n m k = refl

beyond-wrong : (z : Bool) (n k : ℕ) → beyond z n (Wrong k) ≡ Wrong k
beyond-wrong true n k = refl
beyond-wrong false n k = refl

module _ (t : List ℤ) (pool : List ℤ) (limit : length pool ≤ pool_limit) (F B : List ℕ) where
  abbrev z : Bool
  z = all_zero B

  abbrev More : ℕ → ℕ → List Row → Type 0
  More n k l = length l ≡ k → heading_length * (k + n) ≤ length F → check_entries t (F ++ B) pool n k l ≡ beyond z (k + n) (check_entries t F pool n k l)

  entry_more : (n k : ℕ) (l : List Row) → length l ≡ k → heading_length * (k + suc n) ≤ length F → ((l : List Row) → More n (suc k) l) → (x : Reply Row)
      → check_after t (F ++ B) pool limit n k l x ≡ beyond z (k + suc n) (check_after t F pool limit n k l x)
  entry_more n k l e b ih (refused m) = sym (beyond-refused z (k + suc n) m k)
  entry_more n k l e b ih (answer r) =
      ap (λ (v : Bool). cond v (check_entries t (F ++ B) pool n (suc k) (l ++ (r ∷ []))) (Wrong k)) (stands-more pool F B k (length (joined l)) r (omega arith))
      ∙ by (stands F pool k (length (joined l)) r)
    where
      by : (v : Bool) → cond v (check_entries t (F ++ B) pool n (suc k) (l ++ (r ∷ []))) (Wrong k) ≡ beyond z (k + suc n) (cond v (check_entries t F pool n (suc k) (l ++ (r ∷ []))) (Wrong k))
      by true =
          let same : suc k + n ≡ k + suc n = omega arith in
          ih (l ++ (r ∷ [])) (omega (arith, e, length-append l (r ∷ []))) (omega arith)
          ∙ ap (λ (i : ℕ). beyond z i (check_entries t F pool n (suc k) (l ++ (r ∷ [])))) same
      by false = sym (beyond-wrong z (k + suc n) k)

  entries-more : (n k : ℕ) (l : List Row) → More n k l
  entries-more zero k l e b =
      let same : k ≡ k + 0 = omega arith in
      check-zero t (F ++ B) pool limit k l
      ∙ ap (λ (x : Bool). cond x Accepted (Wrong k)) (holds_more pool F B l (omega (arith, e)))
      ∙ last-beyond (holds l F pool) z k
      ∙ ap₂ (λ (i : ℕ) (v : Verdict). beyond z i v) same (sym (check-zero t F pool limit k l))
  entries-more (suc n) k l e b =
      check-suc t (F ++ B) pool limit n k l
      ∙ entry_more n k l e b (entries-more n (suc k)) (judged l (length pool - length (joined l)) (entry_at t k))
      ∙ ap (beyond z (k + suc n)) (sym (check-suc t F pool limit n k l))

-- ---- checks 1 to 3

enough : (b : Bool) (k h i : ℕ) (x : Reply ℕ) → (b ≡ true → k ≤ entry_limit) → entry_limit ≤ h → entry_limit ≤ i
    → require 1 b (require 2 (leb k h) x) ≡ require 1 b (require 2 (leb k i) x)
enough true k h i x few p q = ap (λ (c : Bool). require 2 c x) ((leb-iff k h).1 (omega (arith, few refl)) ∙ sym ((leb-iff k i).1 (omega (arith, few refl))))
enough false k h i x few p q = refl

-- it does not matter how many headings there are beyond those that a table may have entries for
pub admitted-enough : (t : List ℤ) (h i p : ℕ) → entry_limit ≤ h → entry_limit ≤ i → admitted t h p ≡ admitted t i p
admitted-enough t h i p =
    let k = length t / 6 in
    enough (eqb (length t % 6) 0 && (leb 1 k && leb k entry_limit)) k h i (require 3 (leb p pool_limit) (answer k))
    (λ e. (leb-iff k entry_limit).0 ((and-iff (leb 1 k) _).0 ((and-iff (eqb (length t % 6) 0) _).0 e).1).1)

-- ---- the whole check

abbrev most : ℕ
most = heading_length * entry_limit

module _ (t : List ℤ) (L : List ℕ) (pool : List ℤ) where
  abbrev F : List ℕ
  F = take most L

  abbrev Z : Bool
  Z = all_zero (drop most L)

  few-headings : length L ≤ most → beyond Z (length t / 6) (check t F pool) ≡ check t L pool
  few-headings b =
      ap (λ (x : List ℕ). beyond (all_zero x) (length t / 6) (check t F pool)) (drop_of_length-le L b)
      ∙ ap (λ (x : List ℕ). check t x pool) (take_all most L b)

  module _ (b : most < length L) where
    same : admitted t (length F / heading_length) (length pool) ≡ admitted t (length L / heading_length) (length pool)
    same = admitted-enough t (length F / heading_length) (length L / heading_length) (length pool) (omega (arith, length-take-le most L (omega arith))) (omega arith)

    many-headings : (x : Reply ℕ) → admitted t (length F / heading_length) (length pool) ≡ x → beyond Z (length t / 6) (check t F pool) ≡ check t L pool
    many-headings (refused m) e =
        ap (beyond Z (length t / 6)) (sym (check-refused t F pool m e)) ∙ beyond-refused Z (length t / 6) m 0 ∙ check-refused t L pool m (sym same ∙ e)
    many-headings (answer n) e =
        let a = admitted-gives t (length F / heading_length) (length pool) n e in
        let count : length t / 6 ≡ 0 + n = omega (arith, a.whole) in
        ap₂ (λ (i : ℕ) (v : Verdict). beyond Z i v) count (check-admitted t F pool n e)
        ∙ sym (entries-more t pool a.short F (drop most L) n 0 [] refl (omega (arith, a.few, length-take-le most L (omega arith))))
        ∙ ap (λ (x : List ℕ). check_entries t x pool n 0 []) (take-append-drop most L)
        ∙ sym (check-admitted t L pool n (sym same ∙ e))

  -- the headings beyond the first count for the rest only
  pub check-beyond : beyond Z (length t / 6) (check t F pool) ≡ check t L pool
  check-beyond = by (leb (length L) most) refl
    where
      by : (c : Bool) → leb (length L) most ≡ c → beyond Z (length t / 6) (check t F pool) ≡ check t L pool
      by true e = few-headings (leb-true (length L) most e)
      by false e = many-headings (leb-false (length L) most e) (admitted t (length F / heading_length) (length pool)) refl

-- a table of lists that are accepted has no more entries than it may
pub accepted-few : (t : List ℤ) (headings : List ℕ) (pool : List ℤ) → check t headings pool ≡ Accepted → length t / 6 ≤ entry_limit
accepted-few t headings pool accepted = by (admitted t (length headings / heading_length) (length pool)) refl
  where
    by : (x : Reply ℕ) → admitted t (length headings / heading_length) (length pool) ≡ x → length t / 6 ≤ entry_limit
    by (refused m) e = let z : ◌≡◌ {A = ℕ} 0 1 = cc (check-refused t headings pool m e ∙ accepted) in absurd (omega arith)
    by (answer n) e = let a = admitted-gives t (length headings / heading_length) (length pool) n e in omega (arith, a.whole, a.few)
