-- Words of a text: what stands between blanks.
use Rattle.std.specs.Prelude.{ℕ, cond, List, [], ◌∷◌}
use Rattle.std.specs.Char.{is_ascii_whitespace}

-- a text without the blanks in front
abbrev pub trimmed : List ℕ → List ℕ
trimmed [] = []
trimmed (c ∷ cs) = cond (is_ascii_whitespace c) (trimmed cs) (c ∷ cs)

-- what stands before the first blank
abbrev pub front : List ℕ → List ℕ
front [] = []
front (c ∷ cs) = cond (is_ascii_whitespace c) [] (c ∷ front cs)

-- the first blank and all behind it
abbrev pub rest : List ℕ → List ℕ
rest [] = []
rest (c ∷ cs) = cond (is_ascii_whitespace c) (c ∷ cs) (rest cs)

-- the first word of a text, empty where there is none
abbrev pub word : List ℕ → List ℕ
word text = front (trimmed text)

-- what stands behind the first word
abbrev pub behind : List ℕ → List ℕ
behind text = rest (trimmed text)
