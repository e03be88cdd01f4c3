-- What a layer of the code has to come, by what the source below it has.
use Rattle.std.specs.Prelude.{◌≡◌, ℕ, Bool, true, List, [], ◌∷◌, Ok, Err, Result, nat_lt, refl}
use Rattle.std.proofs.Math.Pow.{are_bytes}
use Rattle.std.proofs.lemmas.Bool.{and_parts, and_from}
use Rattle.units.specs.declared.source.Source.{Ghosts}
use Rattle.units.specs.declared.source.SourceFault.{SourceFault}
use Rattle.units.specs.declared.unescaped.Zeros.{Zeros}
use Rattle.units.specs.declared.unescaped.Zeros.TheVariants.{None, Removed}
use Rattle.units.specs.declared.unescaped.Unescaped.{Unescaped}
use Rattle.units.specs.Escapes.{weighed, kept, onward, opened}

-- nothing and a fault, once it has faulted itself; else what is left when emulation prevention is removed
abbrev pub opened_from : Result Zeros SourceFault → List ℕ → Bool → List ℕ × Bool
opened_from (Ok z) bs fault = opened z bs fault
opened_from (Err e) bs fault = ([], true)

abbrev pub unescaped_gives : {S : Type 0} (source : Ghosts S) → Unescaped S → List ℕ × Bool
unescaped_gives source u = opened_from u.zeros (source.coming u.below) (source.faulty u.below)

abbrev pub unescaped_bytes : {S : Type 0} (source : Ghosts S) → Unescaped S → List ℕ
unescaped_bytes source u = (unescaped_gives source u).0

abbrev pub unescaped_faulty : {S : Type 0} (source : Ghosts S) → Unescaped S → Bool
unescaped_faulty source u = (unescaped_gives source u).1

-- a layer that no byte has come through
abbrev pub begun : {S : Type 0} (source : Ghosts S) → S → Unescaped S → Type 0
begun source below u = unescaped_gives source u ≡ opened None (source.coming below) (source.faulty below)

kept-bytes : (z : Zeros) (b : ℕ) (bs : List ℕ) → nat_lt b 256 ≡ true → are_bytes bs ≡ true → are_bytes (kept z b bs) ≡ true
kept-bytes Removed b bs h k = k
kept-bytes z b bs h k = and_from (nat_lt b 256) (are_bytes bs) h k

onward-bytes : (r : Result Zeros SourceFault) (b : ℕ) (rest : Zeros → List ℕ × Bool) → nat_lt b 256 ≡ true → ((z : Zeros) → are_bytes (rest z).0 ≡ true) → are_bytes (onward r b rest).0 ≡ true
onward-bytes (Ok z) b rest h k = kept-bytes z b (rest z).0 h (k z)
onward-bytes (Err e) b rest h k = refl

opened-bytes : (z : Zeros) (bs : List ℕ) (fault : Bool) → are_bytes bs ≡ true → are_bytes (opened z bs fault).0 ≡ true
opened-bytes z [] fault h = refl
opened-bytes z (b ∷ bs) fault h =
    let p : (nat_lt b 256 ≡ true) × (are_bytes bs ≡ true) = and_parts (nat_lt b 256) (are_bytes bs) h in
    onward-bytes (weighed z b) b (λ y. opened y bs fault) p.0 (λ y. opened-bytes y bs fault p.1)

opened_from-bytes : (r : Result Zeros SourceFault) (bs : List ℕ) (fault : Bool) → are_bytes bs ≡ true → are_bytes (opened_from r bs fault).0 ≡ true
opened_from-bytes (Ok z) bs fault h = opened-bytes z bs fault h
opened_from-bytes (Err e) bs fault h = refl

pub unescaped_are_bytes : {S : Type 0} (source : Ghosts S) → (u : Unescaped S) → are_bytes (unescaped_bytes source u) ≡ true
unescaped_are_bytes source u = opened_from-bytes u.zeros (source.coming u.below) (source.faulty u.below) (source.bytes u.below)
