-- Rows and the calendars that they stand for, with one more behind.
-- Assumes nothing.
use mathlib.Core.Path.{◌≡◌, refl, sym, ◌∙◌, ap}
use mathlib.Core.List.{List, [], ◌∷◌, ◌++◌}
use native.Mathlib.Omega.{arith}
use lib.ListN.{length, take, drop, length-append}
use lib.Seq.{take_at, drop_at}
use Rattle.calendar.specs.Meaning.{Row}
use Rattle.algebra.specs.TableMeaning.{Meant}
use Rattle.algebra.specs.Agrees.{RepresentsAll}

-- calendars of rows that end with r
pub record LastMeans (l : List Row) (r : Row) (ms : List Meant) : Type 0 where
  pub before : List Meant
  pub last : Meant
  pub is : ms ≡ before ++ (last ∷ [])
  pub represents : RepresentsAll before l

pub last-means : (l : List Row) (r : Row) (ms : List Meant) → RepresentsAll ms (l ++ (r ∷ [])) → LastMeans l r ms
last-means [] r [] h = absurd h
last-means [] r (m ∷ []) h = record { before = []; last = m; is = refl; represents = tt }
last-means [] r (m ∷ n ∷ ms) h = absurd h.1
last-means (s ∷ l) r [] h = absurd h
last-means (s ∷ l) r (m ∷ ms) h =
    let q = last-means l r ms h.1 in
    record { before = m ∷ q.before; last = q.last; is = ap (m ∷◌) q.is; represents = (h.0, q.represents) }

-- rows of calendars that end with m
pub record LastStands (ms : List Meant) (m : Meant) (l : List Row) : Type 0 where
  pub before : List Row
  pub last : Row
  pub is : l ≡ before ++ (last ∷ [])
  pub represents : RepresentsAll ms before

pub last-stands : (ms : List Meant) (m : Meant) (l : List Row) → RepresentsAll (ms ++ (m ∷ [])) l → LastStands ms m l
last-stands [] m [] h = absurd h
last-stands [] m (r ∷ []) h = record { before = []; last = r; is = refl; represents = tt }
last-stands [] m (r ∷ s ∷ l) h = absurd h.1
last-stands (n ∷ ms) m [] h = absurd h
last-stands (n ∷ ms) m (r ∷ l) h =
    let q = last-stands ms m l h.1 in
    record { before = r ∷ q.before; last = q.last; is = ap (r ∷◌) q.is; represents = (h.0, q.represents) }

-- two lists that are the same with one more are the same
pub same-before : {A : Type 0} (a b : List A) (x y : A) → a ++ (x ∷ []) ≡ b ++ (y ∷ []) → (a ≡ b) × (x ≡ y)
same-before a b x y e =
    let n : length a ≡ length b = omega (arith, ap (λ (l : List _). length l) e, length-append a (x ∷ []), length-append b (y ∷ [])) in
    let one : x ∷ [] ≡ y ∷ [] = sym (drop_at a (x ∷ []) (length b) n) ∙ ap (drop (length b)) e ∙ drop_at b (y ∷ []) (length b) refl in
    (sym (take_at a (x ∷ []) (length b) n) ∙ ap (take (length b)) e ∙ take_at b (y ∷ []) (length b) refl, cc one)
