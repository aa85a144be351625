-- A record and the opening of a file, by their bytes.
use mathlib.Core.Path.{◌≡◌, refl}
use mathlib.Core.Option.{none, some}
use mathlib.Core.List.{List, [], ◌∷◌, ◌++◌}
use Prim.Native.Nat.{ℕ}
use lib.ListN.{take}
use Rattle.journal.specs.Journal.{trailer, record_of, opened}

-- "255, the body's length in four bytes of seven bits each, lowest first, and 254"
pub trailer-of-twelve : trailer 12 ≡ 255 ∷ 12 ∷ 0 ∷ 0 ∷ 0 ∷ 254 ∷ []
trailer-of-twelve = refl

pub trailer-of-the-longest : trailer 4096 ≡ 255 ∷ 0 ∷ 32 ∷ 0 ∷ 0 ∷ 254 ∷ []
trailer-of-the-longest = refl

-- the lines "0 0 0 0 0 0" and "1 0 0 7 0 0"
abbrev days : List ℕ
days = 48 ∷ 32 ∷ 48 ∷ 32 ∷ 48 ∷ 32 ∷ 48 ∷ 32 ∷ 48 ∷ 32 ∷ 48 ∷ 10 ∷ []

abbrev weeks : List ℕ
weeks = 49 ∷ 32 ∷ 48 ∷ 32 ∷ 48 ∷ 32 ∷ 55 ∷ 32 ∷ 48 ∷ 32 ∷ 48 ∷ 10 ∷ []

-- "An empty book is an answer": of no bytes, and of a first append that is cut before its last byte
pub nothing_yet : opened [] ≡ none
unfolding opened
nothing_yet = refl

pub first-torn : opened (take 17 (record_of days)) ≡ none
unfolding opened
first-torn = refl

-- the last table; cut before its last byte, the former one; and the next append behind the torn end
pub last-of-two : opened (record_of days ++ record_of weeks) ≡ some weeks
unfolding opened
last-of-two = refl

pub last-torn : opened (record_of days ++ take 17 (record_of weeks)) ≡ some days
unfolding opened
last-torn = refl

pub behind-torn : opened (take 17 (record_of days) ++ record_of weeks) ≡ some weeks
unfolding opened
behind-torn = refl
