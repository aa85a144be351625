-- A tally with one member more behind the others.
-- Assumes nothing.
use mathlib.Core.Path.{◌≡◌, refl, sym, ◌∙◌, ap}
use mathlib.Core.Bool.{Bool, true, false, cond}
use mathlib.Core.List.Memᴰ
use mathlib.Core.List.{List, [], ◌∷◌, ◌++◌, Memᴰ}
use native.Mathlib.Omega.{arith}
use lib.IntN.{ℤ, pos, ◌+ℤ◌}
use lib.Signed.{◌<ℤ◌}
use lib.ListN.{length, length-append}
use Rattle.integers.proofs.Linear.{ints, ◌∴◌}
use Rattle.calendar.specs.Algebra.{positions}
use Rattle.candidates.specs.declared.Tally.{Tally}
use Rattle.candidates.specs.Tallies.{first_or, last_or, tally_of}
use Rattle.candidates.proofs.Positions.{asked, asked-iff, none_before, some-taken}

-- ---- one member more

abbrev pub more : Bool → ℤ → List ℤ → List ℤ
more b j m = cond b (m ++ (j ∷ [])) m

pub positions-more : (lo hi p j : ℤ) (l : List ℤ) → positions lo hi p (l ++ (j ∷ [])) ≡ more (asked lo hi (p +ℤ pos (length l))) j (positions lo hi p l)
positions-more lo hi p j [] = ap (λ (q : ℤ). cond (asked lo hi q) (j ∷ []) []) (simp ints (omega arith))
positions-more lo hi p j (x ∷ l) =
    by (asked lo hi p) (asked lo hi (p +ℤ pos 1 +ℤ pos (length l))) (positions lo hi (p +ℤ pos 1) l) (positions-more lo hi (p +ℤ pos 1) j l)
    ∙ ap (λ (q : ℤ). more (asked lo hi q) j (positions lo hi p (x ∷ l))) (simp ints (omega arith))
  where
    by : (b d : Bool) (m : List ℤ) {n : List ℤ} → n ≡ more d j m → cond b (x ∷ n) n ≡ more d j (cond b (x ∷ m) m)
    by true true m e = ap (λ (m : List ℤ). x ∷ m) e
    by true false m e = ap (λ (m : List ℤ). x ∷ m) e
    by false true m e = e
    by false false m e = e

pub first_more : (d j k : ℤ) (m : List ℤ) → Memᴰ k m → first_or d (m ++ (j ∷ [])) ≡ first_or d m
first_more d j k [] n = absurd (Memᴰ.not-nil n)
first_more d j k (x ∷ m) n = refl

pub last_more : (d j : ℤ) (m : List ℤ) → last_or d (m ++ (j ∷ [])) ≡ j
last_more d j [] = refl
last_more d j (x ∷ []) = refl
last_more d j (x ∷ y ∷ m) = last_more d j (y ∷ m)

-- ---- tallies

pub tally-none : (lo hi : ℤ) → let t : Tally = record { count = pos 0; low = pos 1; high = pos 0 } in t ≡ tally_of lo hi []
unfolding tally_of
tally-none lo hi = refl

-- the fields of a tally
pub record Counts (lo hi : ℤ) (l : List ℤ) (t : Tally) : Type 0 where
  pub count-is : t.count ≡ pos (length l)
  pub low-is : t.low ≡ first_or (pos 1) (positions lo hi (pos 1) l)
  pub high_is : t.high ≡ last_or (pos 0) (positions lo hi (pos 1) l)

pub tally-fields : (lo hi : ℤ) (l : List ℤ) (t : Tally) → t ≡ tally_of lo hi l → Counts lo hi l t
unfolding tally_of
tally-fields lo hi l t e = record {
  count-is = ap (λ (t : Tally). t.count) e;
  low-is = ap (λ (t : Tally). t.low) e;
  high_is = ap (λ (t : Tally). t.high) e;
}

of_fields : (lo hi : ℤ) (l : List ℤ) (t : Tally) → Counts lo hi l t → t ≡ tally_of lo hi l
unfolding tally_of
of_fields lo hi l t c = λ k. record { count = c.count-is k; low = c.low-is k; high = c.high_is k }

-- lists with the same members at the positions have the same ends
pub tally-alike : (lo hi : ℤ) (l m : List ℤ) (t : Tally) → t ≡ tally_of lo hi l → positions lo hi (pos 1) l ≡ positions lo hi (pos 1) m
    → (t.low ≡ (tally_of lo hi m).low) × (t.high ≡ (tally_of lo hi m).high)
unfolding tally_of
tally-alike lo hi l m t e p =
    let f = tally-fields lo hi l t e in
    (f.low-is ∙ ap (first_or (pos 1)) p, f.high_is ∙ ap (last_or (pos 0)) p)

-- j behind the members of l, of which t is the tally: c is its position
module _ (lo hi j : ℤ) (l : List ℤ) (t : Tally) (is : t ≡ tally_of lo hi l) (c : ℤ) (next : c ≡ t.count +ℤ pos 1) where
  f : Counts lo hi l t
  f = tally-fields lo hi l t is

  abbrev before : List ℤ
  before = positions lo hi (pos 1) l

  abbrev after : List ℤ
  after = positions lo hi (pos 1) (l ++ (j ∷ []))

  here : pos 1 +ℤ pos (length l) ≡ c
  here = next ∴ f.count-is ∴ simp ints (omega arith)

  count-more : c ≡ pos (length (l ++ (j ∷ [])))
  count-more = simp length-append (next ∴ f.count-is ∴ simp ints (omega arith))

  after_is : (b : Bool) → asked lo hi c ≡ b → after ≡ more b j before
  after_is b e = positions-more lo hi (pos 1) j l ∙ ap (λ (q : ℤ). more (asked lo hi q) j before) here ∙ ap (λ (b : Bool). more b j before) e

  -- its position is not asked for
  pub tally-passed : asked lo hi c ≡ false → ◌≡◌ {A = Tally} (record { count = c; low = t.low; high = t.high }) (tally_of lo hi (l ++ (j ∷ [])))
  tally-passed e =
      let a = sym (after_is false e) in
      of_fields lo hi (l ++ (j ∷ [])) _ (record { count-is = count-more; low-is = f.low-is ∙ ap (first_or (pos 1)) a; high_is = f.high_is ∙ ap (last_or (pos 0)) a })

  -- it is, and so is one before
  pub tally-next : asked lo hi c ≡ true → pos 1 <ℤ c → lo <ℤ c → ◌≡◌ {A = Tally} (record { count = c; low = t.low; high = j }) (tally_of lo hi (l ++ (j ∷ [])))
  tally-next e m g =
      let a = sym (after_is true e) in
      let k = some-taken lo hi (pos 1) l (m ∴ here ∴ simp ints (omega arith)) (g ∴ here ∴ simp ints (omega arith)) (((asked-iff lo hi c).0 e).1 ∴ here ∴ simp ints (omega arith)) in
      of_fields lo hi (l ++ (j ∷ [])) _
      (record {
        count-is = count-more;
        low-is = f.low-is ∙ sym (first_more (pos 1) j k.0 before k.1) ∙ ap (first_or (pos 1)) a;
        high_is = sym (last_more (pos 0) j before) ∙ ap (last_or (pos 0)) a;
      })

  -- it is, and none before
  first_alone : asked lo hi c ≡ true → before ≡ [] → ◌≡◌ {A = Tally} (record { count = c; low = j; high = j }) (tally_of lo hi (l ++ (j ∷ [])))
  first_alone e o =
      let a = sym (after_is true e ∙ ap (more true j) o) in
      of_fields lo hi (l ++ (j ∷ [])) _ (record { count-is = count-more; low-is = ap (first_or (pos 1)) a; high_is = ap (last_or (pos 0)) a })

  pub tally-one : asked lo hi c ≡ true → c ≡ pos 1 → ◌≡◌ {A = Tally} (record { count = c; low = j; high = j }) (tally_of lo hi (l ++ (j ∷ [])))
  tally-one e o = first_alone e (empty l (here ∴ o ∴ simp ints (omega arith)))
    where
      empty : (l : List ℤ) → pos (length l) ≡ pos 0 → positions lo hi (pos 1) l ≡ []
      empty [] q = refl
      empty (x ∷ l) q = absurd (q ∴ simp ints (omega arith))

  pub tally-low : asked lo hi c ≡ true → c ≡ lo → ◌≡◌ {A = Tally} (record { count = c; low = j; high = j }) (tally_of lo hi (l ++ (j ∷ [])))
  tally-low e o = first_alone e (none_before lo hi (pos 1) l (here ∴ o ∴ simp ints (omega arith)))
