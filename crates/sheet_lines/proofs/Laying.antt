-- One byte more is laid into a list.
use mathlib.Core.Path.{◌≡◌, sym, ap, ap₂, subst, ◌∙◌}
use mathlib.Core.List.{List, [], ◌∷◌, ◌++◌, append_assoc}
use Prim.Native.Nat.{ℕ, suc, ◌+◌, ◌≤◌, ◌<◌}
use native.Mathlib.Omega.{arith}
use lib.ListN.{length, get_or, take, drop, set, length-append, length-take, length-drop, drop_of_length-le}
use lib.Seq.{take_all, take-append-le, drop-cons, set_at}
use Rattle.sheet_lines.specs.Laid.{Laid}

module _ {t o l : List ℕ} {at : ℕ} (h : Laid t o at l) where
  pub laid-length : length l ≡ length o
  laid-length = ap length h.holds ∙ length-append (take (length o) t) (drop (length t) o) ∙ (let e : length (take (length o) t) + length (drop (length t) o) ≡ length o = omega (arith, length-take (length o) t, length-drop (length t) o) in e)

  pub byte_fits : (b : ℕ) → at < length l → Laid (t ++ (b ∷ [])) o (at + 1) (set l at b)
  byte_fits b f =
      let p = h.place in
      let e : length t < length o = omega (arith, laid-length) in
      let q : at ≡ length t = omega arith in
      record {
        place = omega (arith, length-append t (b ∷ []));
        holds =
            ap (λ (m : List ℕ). set m at b) (h.holds ∙ ap₂ (λ (x y : List ℕ). x ++ y) (take_all (length o) t (omega arith)) (drop-cons o (length t) 0 e))
            ∙ set_at t (get_or o (length t) 0) (drop (suc (length t)) o) b at (sym q)
            ∙ sym (append_assoc t (b ∷ []) (drop (suc (length t)) o))
            ∙ ap₂ (λ (x : List ℕ) (n : ℕ). x ++ drop n o) (sym (take_all (length o) (t ++ (b ∷ [])) (omega (arith, length-append t (b ∷ []))))) (let n : suc (length t) ≡ length (t ++ (b ∷ [])) = omega (arith, length-append t (b ∷ [])) in n);
      }

  pub byte-lost : (b : ℕ) → length l ≤ at → Laid (t ++ (b ∷ [])) o (length l + 1) l
  byte-lost b f =
      let p = h.place in
      let e : length o ≤ length t = omega (arith, laid-length) in
      record {
        place = omega (arith, length-append t (b ∷ []), laid-length);
        holds =
            h.holds
            ∙ ap₂ (λ (x y : List ℕ). x ++ y) (sym (take-append-le (length o) t (b ∷ []) e))
            (drop_of_length-le o {i = length t} e ∙ sym (drop_of_length-le o {i = length (t ++ (b ∷ []))} (omega (arith, length-append t (b ∷ [])))));
      }

-- nothing is laid yet
pub laid_none : (o : List ℕ) → Laid [] o 0 o
laid_none o = record { place = omega arith; holds = sym (ap (λ (t : List ℕ). t ++ o) (take_all (length o) [] (omega arith))) }

-- the same text, written otherwise
pub relay : {t u o l : List ℕ} {at : ℕ} → t ≡ u → Laid t o at l → Laid u o at l
relay {o} {l} {at} e h = subst (λ (w : List ℕ). Laid w o at l) e h
