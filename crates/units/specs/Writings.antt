-- Bytes written into a buffer from a place on.
use Rattle.std.specs.Prelude.{ℕ, ◌+◌, Bool, false, cond, List, ◌++◌, length, take, drop, nat_le}
use Rattle.layouts.specs.Frames.{count}

-- these bytes in a buffer from a place on, the rest of it as it was
abbrev pub put : ℕ → List ℕ → List ℕ → List ℕ
put at xs buffer = take at buffer ++ (xs ++ drop (at + length xs) buffer)

-- what stands before the payload of a message: its type and its size
abbrev pub head : ℕ → ℕ → List ℕ
head t n = count t ++ count n

-- the bytes of a message of a type with a payload of a size
abbrev pub framed_length : ℕ → ℕ → ℕ
framed_length t n = length (count t) + length (count n) + n

-- whether a type and a size are within the limits
abbrev pub limited : ℕ → ℕ → Bool
limited t n = cond (nat_le t 65535) (nat_le n 65535) false

-- whether a message is within the limits, and a buffer of a length has room for it from a place on
abbrev pub fits : ℕ → ℕ → ℕ → ℕ → Bool
fits t n at len = cond (limited t n) (nat_le (at + framed_length t n) len) false
