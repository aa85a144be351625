-- The limits that document 01 sets, each with the sentence it stands in; two are raised by document 02, Req 06, one by Req 07.
use Rattle.std.specs.Prelude.{Bool, ◌&&◌, ℕ, ℤ, pos, neg_ℤ}
use Rattle.std.specs.Int.Signed.{le_z}

-- "Raise .. the pool and P to 4,194,304 cells": the longest pool and the longest period
abbrev pub pool_limit : ℕ
pool_limit = 4194304

-- "Raise the table to 64 entries": "the table's length isn't 6 × (1 to ..)"
abbrev pub entry_limit : ℕ
entry_limit = 64

-- "one record for each entry: start, period, distance", and "Each heading gets a fourth number": so many plain numbers a heading
abbrev pub heading_length : ℕ
heading_length = 4

-- "lateness outside 0 to 1,048,576"
abbrev pub late_limit : ℕ
late_limit = 1048576

-- the limit of x, y and z, but for labels: "x 1 to 1,000,000; .. z within ±1,000,000"
abbrev pub million : ℤ
million = pos 1000000

-- the limit of labels and instants: "outside ±1,000,000,000"
abbrev pub label_limit : ℤ
label_limit = pos 1000000000

abbrev pub between : ℤ → ℤ → ℤ → Bool
between lo hi z = le_z lo z && le_z z hi

-- z is within ±1,000,000,000
abbrev pub in_range : ℤ → Bool
in_range = between (neg_ℤ label_limit) label_limit
