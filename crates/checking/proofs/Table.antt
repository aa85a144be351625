-- The check of a table's entries, one after the other, and of the rest.
-- Assumes nothing.
use Rattle.std.specs.Prelude.{Some, None, Ok, Err}
use mathlib.Core.Path.{◌≡◌, refl, sym, ◌∙◌, ap, ap₂}
use mathlib.Core.Logic.{⊎_elim}
use mathlib.Core.Bool.{Bool, true, false, ◌&&◌, cond}
use mathlib.Core.List.Memᴰ
use mathlib.Core.List.{List, [], ◌∷◌, ◌++◌}
use Prim.Native.Nat.{ℕ, suc, ◌+◌, ◌-◌, ◌*◌, ◌/◌, ◌%◌, ◌≤◌, ◌<◌}
use native.Mathlib.Nat.{sub-zero}
use native.Mathlib.Numerals.{add-one}
use native.Mathlib.Omega.{arith}
use lib.Dec.{eqb, leb}
use lib.IntN.{ℤ}
use lib.ListN.{length, take, drop, replicate, length-append, length-drop, take-append-drop}
use Rattle.calendar.specs.Limits.{pool_limit, entry_limit, heading_length}
use Rattle.calendar.specs.Meaning.{Row, empty}
use Rattle.calendar.specs.Lists.{equal, filled}
use Rattle.calendar.specs.Sound.{sound}
use Rattle.calendar.specs.Reply.{Reply}
use Rattle.calendar.specs.Reply.Reply.{refused, answer}
use Rattle.calendar.specs.Refusals.{number_of}
use Rattle.calendar.specs.declared.Refusal.{Refusal}
use Rattle.calendar.specs.Table.{entry_at, admitted}
use Rattle.calendar.specs.Outcome.{judged}
use Rattle.calendar.specs.Stored.{joined, headings_from}
use Rattle.granules.proofs.Tests.{and-iff, eqb-iff, leb-iff, equal-iff}
use Rattle.granules.proofs.Replies.{require-answer}
use Rattle.granules.proofs.Sound.{sound-valid}
use Rattle.algebra.proofs.Stored.{entry-sound, joined_length}
use Rattle.conversion.proofs.Headings.{headings-length}
use Rattle.standing.specs.Standing.{alike, holds}
use Rattle.standing.specs.Tests.{all_zero, all_empty}
use Rattle.verdicts.specs.Begins.{Begins}
use Rattle.verdicts.specs.Check.{stands, check_entries, check}
use Rattle.verdicts.specs.declared.Verdict.{Verdict}
use Rattle.verdicts.specs.declared.Verdict.TheVariants.{Accepted, Refused, Wrong}
use Rattle.verdicts.proofs.Begun.{begins-none, stands-iff}
use Rattle.verdicts.proofs.Passing.{check_after, check-zero, check-suc}
use Rattle.checking.specs.Claims.{Behind, EntryClaimed, TableClaimed, Judges}

-- ---- the rest

zeros-alike : (l : List ℕ) → alike eqb l (replicate (length l) 0) ≡ all_zero l
zeros-alike [] = refl
zeros-alike (n ∷ l) = ap (λ (b : Bool). eqb n 0 && b) (zeros-alike l)

blanks-alike : (l : List ℤ) → alike equal l (replicate (length l) empty) ≡ all_empty l
blanks-alike [] = refl
blanks-alike (z ∷ l) = ap (λ (b : Bool). equal z empty && b) (blanks-alike l)

-- a front that is the same does not count
alike-behind : {A : Type 0} (f : A → A → Bool) → ((a : A) → f a a ≡ true) → (x y z : List A) → alike f (x ++ y) (x ++ z) ≡ alike f y z
alike-behind f h [] y z = refl
alike-behind f h (a ∷ x) y z = ap (λ (b : Bool). b && alike f (x ++ y) (x ++ z)) (h a) ∙ alike-behind f h x y z

-- what is behind a front decides
behind-alike : {A : Type 0} (f : A → A → Bool) → ((a : A) → f a a ≡ true) → (l x : List A) (d : A) (n : ℕ) → take n l ≡ x → length x ≡ n → n ≤ length l
    → alike f l (filled (length l) d x) ≡ alike f (drop n l) (replicate (length (drop n l)) d)
behind-alike f h l x d n e long fits =
    let whole : l ≡ x ++ drop n l = sym (take-append-drop n l) ∙ ap (λ (y : List _). y ++ drop n l) e in
    let m : length l - length x ≡ length (drop n l) = simp length-drop (omega arith) in
    ap₂ (λ (y z : List _). alike f y z) whole (ap (λ (i : ℕ). x ++ replicate i d) m)
    ∙ alike-behind f h x (drop n l) (replicate (length (drop n l)) d)

rest-decides : (l : List Row) (headings : List ℕ) (pool : List ℤ) → Begins l headings pool → heading_length * length l ≤ length headings → length (joined l) ≤ length pool
    → holds l headings pool ≡ all_zero (drop (heading_length * length l) headings) && all_empty (drop (length (joined l)) pool)
unfolding holds
rest-decides l headings pool b h p =
    ap₂ (λ (x y : Bool). x && y)
    (behind-alike eqb (λ a. (eqb-iff a a).1 refl) headings (headings_from 0 l) 0 (heading_length * length l) b.numbers (headings-length 0 l) h
    ∙ zeros-alike (drop (heading_length * length l) headings))
    (behind-alike equal (λ a. (equal-iff a a).1 refl) pool (joined l) empty (length (joined l)) b.cells refl p
    ∙ blanks-alike (drop (length (joined l)) pool))

-- ---- between two entries

-- the entries before k are right, and the others decide the verdict
pub record Checked (t : List ℤ) (n : ℕ) (headings : List ℕ) (pool : List ℤ) (used k : ℕ) : Type 0 where
  pub at-most : k ≤ n
  pub before : List Row
  pub count : length before ≡ k
  pub behind : Behind before headings pool used
  pub same : check_entries t headings pool n 0 [] ≡ check_entries t headings pool (n - k) k before

pub checked-none : (t : List ℤ) (n : ℕ) (headings : List ℕ) (pool : List ℤ) → Checked t n headings pool 0 0
checked-none t n headings pool = record {
  at-most = omega arith;
  before = [];
  count = refl;
  behind = record { begins = begins-none headings pool; ends = refl; fits = omega arith; all_sound = λ r m. absurd (Memᴰ.not-nil m) };
  same = ap (λ (m : ℕ). check_entries t headings pool m 0 []) (sym (sub-zero n));
}

module _ (t : List ℤ) (n : ℕ) (headings : List ℕ) (pool : List ℤ) (used k : ℕ) (d : TableClaimed t n headings pool) (c : Checked t n headings pool used k) where
  abbrev l : List Row
  l = c.before

  pub entry-due : k < n → EntryClaimed t k headings pool used
  entry-due b = record {
    rows = (l, c.count, c.behind);
    in_table = omega (arith, d.in_table);
    has-heading = omega (arith, d.has-headings);
    at-most = d.in-pool;
  }

  -- all entries are right
  pub all_right : n ≤ k → (b : Bool) → b ≡ all_zero (drop (heading_length * n) headings) && all_empty (drop used pool)
      → cond b Accepted (Wrong n) ≡ check_entries t headings pool n 0 []
  all_right h b e =
      let z : n - k ≡ 0 = omega (arith, c.at-most) in
      let same : k ≡ n = omega (arith, c.at-most) in
      let m : length l ≡ n = c.count ∙ same in
      let rest : holds l headings pool ≡ b =
      rest-decides l headings pool c.behind.begins (omega (arith, d.has-headings)) (omega (arith, c.behind.ends, c.behind.fits))
      ∙ ap₂ (λ (i j : ℕ). all_zero (drop (heading_length * i) headings) && all_empty (drop j pool)) m (sym c.behind.ends)
      ∙ sym e in
      sym
      (c.same
      ∙ ap₂ (λ (i j : ℕ). check_entries t headings pool i j l) z same
      ∙ check-zero t headings pool d.in-pool n l
      ∙ ap (λ (x : Bool). cond x Accepted (Wrong n)) rest)

  -- the entry k is next
  module _ (b : k < n) where
    abbrev reply : Reply Row
    reply = judged l (length pool - used) (entry_at t k)

    next-is : (x : Reply Row) → reply ≡ x → check_entries t headings pool n 0 [] ≡ check_after t headings pool d.in-pool (n - (k + 1)) k l x
    next-is x j =
        let left : n - k ≡ suc (n - (k + 1)) = omega arith in
        c.same
        ∙ ap (λ (m : ℕ). check_entries t headings pool m k l) left
        ∙ check-suc t headings pool d.in-pool (n - (k + 1)) k l
        ∙ ap (check_after t headings pool d.in-pool (n - (k + 1)) k l) (ap (λ (i : ℕ). judged l (length pool - i) (entry_at t k)) (sym c.behind.ends) ∙ j)

    pub entry-refused : (m : Refusal) → Judges k used headings pool reply (Err m) → Refused (number_of m) k ≡ check_entries t headings pool n 0 []
    entry-refused m j = sym (next-is (refused (number_of m)) j)

    -- by the test of its heading and its row
    tested : (r : Row) → reply ≡ answer r → (v : Bool) → stands headings pool k used r ≡ v
        → check_entries t headings pool n 0 [] ≡ cond v (check_entries t headings pool (n - (k + 1)) (suc k) (l ++ (r ∷ []))) (Wrong k)
    tested r j v e =
        next-is (answer r) j
        ∙ ap (λ (x : Bool). cond x (check_entries t headings pool (n - (k + 1)) (suc k) (l ++ (r ∷ []))) (Wrong k))
        (ap (λ (i : ℕ). stands headings pool k i r) (sym c.behind.ends) ∙ e)

    pub entry-wrong : Judges k used headings pool reply (Ok None) → Wrong k ≡ check_entries t headings pool n 0 []
    entry-wrong (r, j, e) = sym (tested r j false e)

    pub entry-right : (end : ℕ) → Judges k used headings pool reply (Ok (Some end)) → Checked t n headings pool end (k + 1)
    entry-right end (r, j, e, is-end) =
        let q = entry-sound l (length pool - used) (entry_at t k) r c.behind.all_sound (omega (arith, d.in-pool)) j in
        let whole = (sound-valid r q.0).whole in
        let cells = joined_length l r in
        let here : stands headings pool (length l) (length (joined l)) r ≡ true =
        ap₂ (λ (i u : ℕ). stands headings pool i u r) c.count (sym c.behind.ends) ∙ e in
        record {
          at-most = omega arith;
          before = l ++ (r ∷ []);
          count = simp length-append (omega (arith, c.count));
          behind = record {
            begins = (stands-iff l (λ s m. (sound-valid s (c.behind.all_sound s m)).whole) headings pool c.behind.begins r whole).0 here;
            ends = omega (arith, c.behind.ends);
            fits = omega (arith, q.1, c.behind.fits);
            all_sound = λ s m. ⊎_elim (c.behind.all_sound s) (λ i. ap sound (Memᴰ.eq_of_singleton i) ∙ q.0) (Memᴰ.append_cases l m);
          };
          same = tested r j true e ∙ ap (λ (i : ℕ). check_entries t headings pool (n - (k + 1)) i (l ++ (r ∷ []))) (sym (add-one k));
        }

-- ---- checks 1 to 3

abbrev after_checks : List ℤ → List ℕ → List ℤ → Reply ℕ → Verdict
after_checks t headings pool x = elim x [ refused m ↦ Refused m 0 | answer n ↦ check_entries t headings pool n 0 [] ]

check-is : (t : List ℤ) (headings : List ℕ) (pool : List ℤ) → check t headings pool ≡ after_checks t headings pool (admitted t (length headings / heading_length) (length pool))
unfolding check
check-is t headings pool = refl

pub check-refused : (t : List ℤ) (headings : List ℕ) (pool : List ℤ) (m : ℕ) → admitted t (length headings / heading_length) (length pool) ≡ refused m
    → Refused m 0 ≡ check t headings pool
check-refused t headings pool m e = sym (check-is t headings pool ∙ ap (after_checks t headings pool) e)

module _ (t : List ℤ) (headings : List ℕ) (pool : List ℤ) (n : ℕ) (e : admitted t (length headings / heading_length) (length pool) ≡ answer n) where
  pub check-admitted : check t headings pool ≡ check_entries t headings pool n 0 []
  check-admitted = check-is t headings pool ∙ ap (after_checks t headings pool) e

  pub admitted-claimed : TableClaimed t n headings pool
  admitted-claimed =
      let r₁ = require-answer 1 (eqb (length t % 6) 0 && (leb 1 (length t / 6) && leb (length t / 6) entry_limit)) _ e in
      let r₂ = require-answer 2 (leb (length t / 6) (length headings / heading_length)) _ r₁.1 in
      let r₃ = require-answer 3 (leb (length pool) pool_limit) _ r₂.1 in
      let b = (and-iff (eqb (length t % 6) 0) _).0 r₁.0 in
      let multiple = (eqb-iff (length t % 6) 0).0 b.0 in
      let few = (leb-iff (length t / 6) entry_limit).0 ((and-iff (leb 1 (length t / 6)) _).0 b.1).1 in
      let headed = (leb-iff (length t / 6) (length headings / heading_length)).0 r₂.0 in
      let short = (leb-iff (length pool) pool_limit).0 r₃.0 in
      let n-is : length t / 6 ≡ n = cc r₃.1 in
      record { in_table = omega arith; at-most = omega arith; has-headings = omega arith; in-pool = omega arith }
