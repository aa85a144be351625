-- Pieces cut off one by one at the places where a byte stands, and the numbers of a line read one by one.
use mathlib.Core.Path.{◌≡◌, refl, sym, ap, ap₂, ◌∙◌}
use mathlib.Core.Logic.{⊎_elim}
use mathlib.Core.Bool.{Bool, true, false, cond}
use mathlib.Core.Option.{Option, none, some}
use mathlib.Core.List.{List, [], ◌∷◌, ◌++◌, append_assoc, append-nil}
use Prim.Native.Nat.{ℕ, suc, ◌+◌, ◌-◌, ◌<◌}
use native.Mathlib.Numerals.{add-one}
use native.Mathlib.Omega.{arith}
use lib.Dec.{eqb, ltb}
use lib.IntN.{ℤ, pos, negsuc}
use lib.ListN.{length, get_or, take, drop, set, length-append, length-take, length-drop, take-append-drop, drop_of_length-le}
use lib.Seq.{drop-cons, get_or-take, get_or-drop, drop-drop, take-suc-set, set_split}
use borrow.Author.Tests.{ne_eqb, eqb-true, ltb-true, ltb-false}
use Rattle.granules.proofs.Tests.{true-or-false}
use mir.Syntax.{w32}
use mir.Val.{SFits, to_z, of_z}
use mir.ValLaws.{to_z-of_z}
use Rattle.integers.proofs.Linear.{ints}
use Rattle.table_text.specs.Numerals.{fits}
use Rattle.table_text.specs.Words.{space}
use Rattle.table_text.specs.Parse.{number, split, prepended, number_before, numbers, of_six, entry_of}
use Rattle.table_text.specs.Answers.{number_answer}
use Rattle.table_text.specs.Lines.{EndsAt, line_answer}
use Rattle.std.specs.Prelude.{Some, None}
use Rattle.std.specs.Bool.{then_some}
use Rattle.table_text.proofs.Numbers.{number-back}
use Rattle.table_text.proofs.Pieces.{Without, first_piece, split-seam, split-last}

-- ---- a piece, cut off

without_from : (b : ℕ) (w : List ℕ) → ((k : ℕ) → k < length w → get_or w k 0 ≡ b → ⊥) → Without b w
without_from b [] f = tt
without_from b (c ∷ w) f = (f 0 (omega arith), without_from b w (λ k h. f (suc k) (omega arith)))

module _ (b : ℕ) (s : List ℕ) (from r : ℕ) (ends : EndsAt b s from r) where
  abbrev cut : List ℕ
  cut = take (r - from) (drop from s)

  length_cut : length cut ≡ r - from
  length_cut = let a = ends.after in let i = ends.inside in omega (arith, length-take (r - from) (drop from s), length-drop from s)

  cut-without : Without b cut
  cut-without = without_from b cut (λ k h e.
      let l : k < r - from = omega (arith, length_cut) in
      let a = ends.after in
      ends.without (from + k) (omega arith) (omega arith) (sym (get_or-drop from s k 0) ∙ sym (get_or-take (r - from) (drop from s) k 0 l) ∙ e))

  rest-is : drop (r - from) (drop from s) ≡ drop r s
  rest-is = let a = ends.after in drop-drop (r - from) from s ∙ ap (λ (n : ℕ). drop n s) (let e : from + (r - from) ≡ r = omega arith in e)

  pub cut_off : r < length s → split b (drop from s) ≡ cut ∷ split b (drop (r + 1) s)
  cut_off h =
      ap (split b) (sym (take-append-drop (r - from) (drop from s)) ∙ ap (λ (l : List ℕ). cut ++ l) (rest-is ∙ drop-cons s r 0 h ∙ ap₂ (λ (c n : ℕ). c ∷ drop n s) (ends.found h) (sym (add-one r))))
      ∙ split-seam b cut (drop (r + 1) s) cut-without

  pub cut-last : r ≡ length s → split b (drop from s) ≡ cut ∷ []
  cut-last h =
      ap (split b) (sym (take-append-drop (r - from) (drop from s)) ∙ ap (λ (l : List ℕ). cut ++ l) (rest-is ∙ drop_of_length-le s {i = r} (omega arith)) ∙ append-nil cut)
      ∙ split-last b cut cut-without

-- ---- the numbers of a line

-- numbers behind those of acc
abbrev pub ahead : List ℤ → Option (List ℤ) → Option (List ℤ)
ahead acc none = none
ahead acc (some l) = some (acc ++ l)

pub answer-value : (o : Option ℤ) (v : ℤ) → number_answer o ≡ Some v → o ≡ some v
answer-value none v e = let z : ◌≡◌ {A = ℕ} 0 1 = cc in absurd (omega arith)
answer-value (some z) v e = ap {B = Option ℤ} some (let q : z ≡ v = cc in q)

pub answer-bad : (o : Option ℤ) → number_answer o ≡ None → o ≡ none
answer-bad none e = refl
answer-bad (some z) e = let y : ◌≡◌ {A = ℕ} 0 1 = cc in absurd (omega arith)

ahead-prepended : (acc : List ℤ) (z : ℤ) (o : Option (List ℤ)) → ahead acc (prepended z o) ≡ ahead (acc ++ (z ∷ [])) o
ahead-prepended acc z none = refl
ahead-prepended acc z (some l) = ap {B = Option (List ℤ)} some (sym (append_assoc acc (z ∷ []) l))

ahead-number : (acc : List ℤ) (w : List ℕ) (l : List (List ℕ)) (z : ℤ) → number w ≡ some z → ahead acc (numbers (w ∷ l)) ≡ ahead (acc ++ (z ∷ [])) (numbers l)
ahead-number acc w l z e = ap (λ (o : Option ℤ). ahead acc (number_before o (numbers l))) e ∙ ahead-prepended acc z (numbers l)

ahead-bad : (acc : List ℤ) (w : List ℕ) (l : List (List ℕ)) → number w ≡ none → ahead acc (numbers (w ∷ l)) ≡ none
ahead-bad acc w l e = ap (λ (o : Option ℤ). ahead acc (number_before o (numbers l))) e

-- what is left of a line, behind the numbers of acc
abbrev pub rest : List ℤ → List ℕ → Option (List ℤ)
rest acc s = of_six (ahead acc (numbers (split space s)))

pub rest-start : (s : List ℕ) → entry_of s ≡ rest [] s
unfolding entry_of
rest-start s = go (numbers (split space s))
  where
    go : (o : Option (List ℤ)) → of_six o ≡ of_six (ahead [] o)
    go none = refl
    go (some l) = refl

too_many : (acc : List ℤ) (o : Option (List ℤ)) → length acc ≡ 6 → ((l : List ℤ) → o ≡ some l → 0 < length l) → of_six (ahead acc o) ≡ none
too_many acc none h f = refl
too_many acc (some l) h f = rw (ne_eqb (length (acc ++ l)) 6 (λ e. let p = f l refl in omega (arith, length-append acc l)))

some-numbers : (w : List ℕ) (ws : List (List ℕ)) (l : List ℤ) → numbers (w ∷ ws) ≡ some l → 0 < length l
some-numbers w ws l e = go (number w) (numbers ws) e
  where
    go : (o : Option ℤ) (r : Option (List ℤ)) → number_before o r ≡ some l → 0 < length l
    go none r e = let z : ◌≡◌ {A = ℕ} 0 1 = cc in absurd (omega arith)
    go (some z) none e = let z : ◌≡◌ {A = ℕ} 0 1 = cc in absurd (omega arith)
    go (some z) (some m) e = let q : length (z ∷ m) ≡ length l = ap (λ (o : Option (List ℤ)). size o) e in omega arith
      where
        size : Option (List ℤ) → ℕ
        size none = 0
        size (some l) = length l

pub rest-too-many : (acc : List ℤ) (s : List ℕ) → length acc ≡ 6 → rest acc s ≡ none
rest-too-many acc s h =
    let f = first_piece space s in
    ap (λ (ws : List (List ℕ)). of_six (ahead acc (numbers ws))) f.pieces ∙ too_many acc (numbers (f.piece ∷ f.others)) h (λ l e. some-numbers f.piece f.others l e)

module _ (acc : List ℤ) (s : List ℕ) (from r : ℕ) (ends : EndsAt space s from r) where
  abbrev word : List ℕ
  word = take (r - from) (drop from s)

  pub rest-number : (z : ℤ) → number word ≡ some z → r < length s → rest acc (drop from s) ≡ rest (acc ++ (z ∷ [])) (drop (r + 1) s)
  rest-number z e h = ap (λ (ws : List (List ℕ)). of_six (ahead acc (numbers ws))) (cut_off space s from r ends h) ∙ ap of_six (ahead-number acc word (split space (drop (r + 1) s)) z e)

  pub rest-last : (z : ℤ) → number word ≡ some z → r ≡ length s → rest acc (drop from s) ≡ of_six (some (acc ++ (z ∷ [])))
  rest-last z e h =
      ap (λ (ws : List (List ℕ)). of_six (ahead acc (numbers ws))) (cut-last space s from r ends h)
      ∙ ap of_six (ahead-number acc word [] z e ∙ ap {B = Option (List ℤ)} some (append-nil (acc ++ (z ∷ []))))

  pub rest-bad-number : number word ≡ none → rest acc (drop from s) ≡ none
  rest-bad-number e = ⊎_elim
      (λ h. ap (λ (ws : List (List ℕ)). of_six (ahead acc (numbers ws))) (cut_off space s from r ends (ltb-true r (length s) h)) ∙ ap of_six (ahead-bad acc word (split space (drop (r + 1) s)) e))
      (λ h. ap (λ (ws : List (List ℕ)). of_six (ahead acc (numbers ws))) (cut-last space s from r ends (let i = ends.inside in omega (arith, ltb-false r (length s) h))) ∙ ap of_six (ahead-bad acc word [] e))
      (true-or-false (ltb r (length s)))

-- ---- the numbers in an array of six

module _ (l : List ℤ) (k : ℕ) (v : ℤ) (six : length l ≡ 6) (h : k < 6) where
  pub one-stored : take (k + 1) (set l k v) ≡ take k l ++ (v ∷ [])
  one-stored = rw add-one (take-suc-set l k v (omega arith))

  length-stored : length (take k l ++ (v ∷ [])) ≡ k + 1
  length-stored = omega (arith, length-append (take k l) (v ∷ []), length-take k l)

  all-stored : k + 1 ≡ 6 → set l k v ≡ take k l ++ (v ∷ [])
  all-stored e = set_split l k v (omega arith) ∙ ap (λ (m : List ℤ). take k l ++ (v ∷ m)) (drop_of_length-le l {i = suc k} (omega arith))

  pub last_stored : line_answer (then_some (eqb (k + 1) 6) (set l k v)) ≡ of_six (some (take k l ++ (v ∷ [])))
  last_stored = rw length-stored (go (eqb (k + 1) 6) (λ t. all-stored (eqb-true (k + 1) 6 t)))
    where
      go : (b : Bool) → (b ≡ true → set l k v ≡ take k l ++ (v ∷ [])) → line_answer (then_some b (set l k v)) ≡ cond b (some (take k l ++ (v ∷ []))) none
      go true f = ap {B = Option (List ℤ)} some (f refl)
      go false f = refl

-- ---- a number that is read has 32 bits

fits-machine : (z : ℤ) → fits z ≡ true → SFits w32 z
fits-machine (pos n) h = let l : n < 2147483648 = ltb-true n 2147483648 h in simp ints (omega arith)
fits-machine (negsuc n) h = let l : n < 2147483648 = ltb-true n 2147483648 h in simp ints (omega arith)

pub number-stored : (w : List ℕ) (z : ℤ) → number w ≡ some z → to_z w32 (of_z w32 z) ≡ z
number-stored w z e = to_z-of_z w32 z (fits-machine z (number-back w z e).fit)
