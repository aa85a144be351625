-- Many questions in one call: each answer is that of the single question, as a number for C. The call itself is refused with 17
-- alone, where a lent list is shorter than the list of questions.
use Rattle.std.specs.Prelude.{Bool, true, false, ◌&&◌, List, [], ◌∷◌, map, ℕ, leb, ℤ, pos, length}
use Rattle.calendar.specs.Lists.{filled}
use Rattle.codes.specs.Codes.{refusal_code}

-- each list, given by its length, has room for n answers
abbrev pub room : ℕ → List ℕ → Bool
room n [] = true
room n (m ∷ l) = leb n m && room n l

-- how many questions were answered, or 17
abbrev pub batch_code : Bool → List ℤ → ℤ
batch_code true qs = pos (length qs)
batch_code false qs = refusal_code 17

-- a lent list of n numbers: f of each question, in order, with zeros behind; all zero after 17
abbrev pub answers_left : Bool → ℕ → (ℤ → ℤ) → List ℤ → List ℤ
answers_left true n f qs = filled n (pos 0) (map f qs)
answers_left false n f qs = filled n (pos 0) []
