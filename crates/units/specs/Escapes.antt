-- Emulation prevention: how bytes are escaped, and what is left when that is removed again.
use Rattle.std.specs.Prelude.{ℕ, Bool, true, cond, List, [], ◌∷◌, Ok, Err, Result, ◌==◌, nat_le}
use Rattle.units.specs.declared.source.SourceFault.{SourceFault}
use Rattle.units.specs.declared.unescaped.Zeros.{Zeros}
use Rattle.units.specs.declared.unescaped.Zeros.TheVariants.{None, One, Two, Removed}

-- the zeros that stand before the next byte, behind a byte and the zeros before it
abbrev pub after : Zeros → ℕ → Zeros
after None b = cond (b == 0) One None
after One b = cond (b == 0) Two None
after Two b = None
after Removed b = cond (b == 0) One None

-- a source that faults
abbrev pub faults : Result Zeros SourceFault
faults = Err (record {})

-- what stands behind a byte: behind 00 00 a 03 is taken out, and 00, 01 and 02 cannot stand; behind 00 00 03 a byte above 03 cannot
abbrev pub weighed : Zeros → ℕ → Result Zeros SourceFault
weighed None b = Ok (after None b)
weighed One b = Ok (after One b)
weighed Two b = cond (nat_le b 2) faults (cond (b == 3) (Ok Removed) (Ok (after Two b)))
weighed Removed b = cond (nat_le b 3) (Ok (after Removed b)) faults

-- a byte before those behind it, unless it was removed
abbrev pub kept : Zeros → ℕ → List ℕ → List ℕ
kept Removed b bs = bs
kept z b bs = b ∷ bs

-- a byte handed over, or not, before what comes behind it
abbrev pub onward : Result Zeros SourceFault → ℕ → (Zeros → List ℕ × Bool) → List ℕ × Bool
onward (Ok z) b rest = (kept z b (rest z).0, (rest z).1)
onward (Err e) b rest = ([], true)

-- what the layer hands over of the bytes below, and whether a fault follows: its own, or that below
abbrev pub opened : Zeros → List ℕ → Bool → List ℕ × Bool
opened z [] fault = ([], fault)
opened z (b ∷ bs) fault = onward (weighed z b) b (λ y. opened y bs fault)

-- bytes escaped behind some zeros: a 03 is put in before a byte of 00 to 03 that would follow 00 00, and at the end where the bytes end 00 00
abbrev pub escaped_from : Zeros → List ℕ → List ℕ
escaped_from None [] = []
escaped_from One [] = []
escaped_from Two [] = 3 ∷ []
escaped_from Removed [] = []
escaped_from None (b ∷ bs) = b ∷ escaped_from (after None b) bs
escaped_from One (b ∷ bs) = b ∷ escaped_from (after One b) bs
escaped_from Two (b ∷ bs) = cond (nat_le b 3) (3 ∷ (b ∷ escaped_from (after Removed b) bs)) (b ∷ escaped_from (after Two b) bs)
escaped_from Removed (b ∷ bs) = b ∷ escaped_from (after Removed b) bs

abbrev pub escaped : List ℕ → List ℕ
escaped bs = escaped_from None bs
