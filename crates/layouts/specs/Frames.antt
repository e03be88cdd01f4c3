-- Messages as bytes: a type, a size and a payload, one message after the other.
use Rattle.std.specs.Prelude.{ℕ, ◌/◌, ◌%◌, List, [], ◌∷◌, ◌++◌, length, drop, replicate}

-- a type and a payload
abbrev pub Message : Type 0
Message = ℕ × List ℕ

-- a type or a size: a byte FF for each 255 in it, and one last byte below FF
unfoldable pub count : ℕ → List ℕ
count n = replicate (n / 255) 255 ++ (n % 255 ∷ [])

-- a message: its type, its size and its payload
unfoldable pub framed : Message → List ℕ
framed m = count m.0 ++ (count (length m.1) ++ m.1)

-- messages one after the other
abbrev pub frames : List Message → List ℕ
frames [] = []
frames (m ∷ ms) = framed m ++ frames ms

-- payloads as messages of one type
abbrev pub under : ℕ → List (List ℕ) → List Message
under t [] = []
under t (p ∷ ps) = (t, p) ∷ under t ps

-- these bytes at the front of a buffer, the rest of it as it was
abbrev pub fronted : List ℕ → List ℕ → List ℕ
fronted xs buffer = xs ++ drop (length xs) buffer
