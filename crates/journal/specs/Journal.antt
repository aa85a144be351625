-- A journal as the bytes of its file (document 02, Req 10): records, and how it is opened.
use Rattle.std.specs.Prelude.{◌≡◌, Bool, true, false, ◌&&◌, List, [], ◌∷◌, ◌++◌, ℕ, zero, suc, ◌+◌, ◌-◌, ◌*◌, ◌/◌, ◌%◌, ◌<◌, eqb, leb, ltb, length, get_or, take, drop}
use Rattle.std.proofs.Math.Option.{Option, none, some}
use Rattle.table_text.specs.Text.{text_limit}

-- ---- a record: a body, which is a table's text, and its trailer

abbrev pub start_mark : ℕ
start_mark = 255

abbrev pub end_mark : ℕ
end_mark = 254

-- n "in four bytes of seven bits each, lowest first"
abbrev pub length_bytes : ℕ → List ℕ
length_bytes n = n % 128 ∷ n / 128 % 128 ∷ n / 16384 % 128 ∷ n / 2097152 % 128 ∷ []

-- "a trailer of six bytes that points back: 255, the body's length .. and 254"
abbrev pub trailer : ℕ → List ℕ
trailer n = start_mark ∷ (length_bytes n ++ (end_mark ∷ []))

abbrev pub record_of : List ℕ → List ℕ
record_of body = body ++ trailer (length body)

-- ---- opening

-- the byte at i, and 0 behind the end
abbrev pub byte_at : List ℕ → ℕ → ℕ
byte_at book i = get_or book i 0

-- a complete trailer starts at p: its marks, and "its four length bytes below 128"
abbrev pub trailer_at : List ℕ → ℕ → Bool
trailer_at book p =
    eqb (byte_at book p) start_mark
    && (ltb (byte_at book (p + 1)) 128
    && (ltb (byte_at book (p + 2)) 128
    && (ltb (byte_at book (p + 3)) 128
    && (ltb (byte_at book (p + 4)) 128
    && eqb (byte_at book (p + 5)) end_mark))))

-- the length that it says
abbrev pub length_at : List ℕ → ℕ → ℕ
length_at book p =
    byte_at book (p + 1) + 128 * byte_at book (p + 2) + 16384 * byte_at book (p + 3) + 2097152 * byte_at book (p + 4)

-- a complete trailer "whose length is 1 to 4,096 and no more than the bytes before it"
unfoldable pub points_back : List ℕ → ℕ → Bool
points_back book p =
    let n = length_at book p in trailer_at book p && (leb 1 n && (leb n text_limit && leb n p))

-- "the body before it"
unfoldable pub body_before : List ℕ → ℕ → List ℕ
body_before book p = let n = length_at book p in take n (drop (p - n) book)

-- the body of the last such trailer that starts before q
unfoldable pub open_before : List ℕ → ℕ → Option (List ℕ)
unfolding points_back body_before
open_before book zero = none
open_before book (suc p) = elim (points_back book p) [ true ↦ some (body_before book p) | false ↦ open_before book p ]

-- "Whoever opens the book looks from the end for the last complete trailer .. and takes the body before it." "An empty
-- book is an answer, not an error": none
unfoldable pub opened : List ℕ → Option (List ℕ)
unfolding open_before
opened book = open_before book (length book)

-- the same as a relation: "the last complete trailer" that points back starts at p
pub record LastTrailer (book : List ℕ) (p : ℕ) : Type 0 where
  pub points : points_back book p ≡ true
  pub last : (q : ℕ) → p < q → points_back book q ≡ false
