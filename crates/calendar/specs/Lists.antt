-- Lists of numbers and tests on them and on labels, for the definitions that compute.
use Rattle.std.proofs.Math.Option.{Option, none, some}
use Rattle.std.specs.Prelude.{Bool, true, false, not, ◌&&◌, ◌||◌, cond, List, [], ◌∷◌, ◌++◌, ℕ, zero, suc, ◌-◌, eqb, ℤ, pos, negsuc, ◌+ℤ◌, length, replicate}

abbrev pub any : (ℤ → Bool) → List ℤ → Bool
any f [] = false
any f (x ∷ l) = f x || any f l

abbrev pub all : (ℤ → Bool) → List ℤ → Bool
all f [] = true
all f (x ∷ l) = f x && all f l

abbrev pub keep : (ℤ → Bool) → List ℤ → List ℤ
keep f [] = []
keep f (x ∷ l) = cond (f x) (x ∷ keep f l) (keep f l)

-- n numbers: t, t + 1, ..
abbrev pub from : ℤ → ℕ → List ℤ
from t zero = []
from t (suc n) = t ∷ from (t +ℤ pos 1) n

-- the first and the last of a list, 0 where it is empty
abbrev pub first : List ℤ → ℤ
first [] = pos 0
first (j ∷ l) = j

abbrev pub last : List ℤ → ℤ
last [] = pos 0
last (j ∷ []) = j
last (j ∷ k ∷ l) = last (k ∷ l)

abbrev pub equal : ℤ → ℤ → Bool
equal (pos a) (pos b) = eqb a b
equal (pos a) (negsuc b) = false
equal (negsuc a) (pos b) = false
equal (negsuc a) (negsuc b) = eqb a b

-- l with d behind it, n in all
abbrev pub filled : {A : Type 0} → ℕ → A → List A → List A
filled n d l = l ++ replicate (n - length l) d

-- ---- labels that may be missing

abbrev pub is_some : Option ℤ → Bool
is_some none = false
is_some (some j) = true

-- the label is j
abbrev pub is : ℤ → Option ℤ → Bool
is j none = false
is j (some k) = equal j k

abbrev pub same_label : Option ℤ → Option ℤ → Bool
same_label none o = not (is_some o)
same_label (some j) o = is j o

-- f of the label; of none, none or true
abbrev pub on_label : Option ℤ → (ℤ → Option ℤ) → Option ℤ
on_label none f = none
on_label (some j) f = f j

abbrev pub if_label : Option ℤ → (ℤ → Bool) → Bool
if_label none f = true
if_label (some j) f = f j

-- j where the test passes
abbrev pub only : ℤ → Bool → Option ℤ
only j true = some j
only j false = none

-- the labels among these, each run of equal ones once
abbrev pub distinct : List (Option ℤ) → List ℤ
distinct [] = []
distinct (none ∷ l) = distinct l
distinct (some j ∷ l) = elim (distinct l) [ [] ↦ j ∷ [] | k ∷ m ↦ cond (equal j k) (k ∷ m) (j ∷ k ∷ m) ]
