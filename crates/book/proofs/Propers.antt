-- A list of kinds is proper where tests of its numbers say so: what a concrete set shows.
use Rattle.std.proofs.Common.{◌≡◌, ℕ, Bool, true, not, ◌&&◌, eqb, leb, List, [], ◌∷◌, length, leb-true}
use borrow.Author.Tests.{eqb-false, not-true}
use Rattle.std.proofs.lemmas.Bool.{and_parts}
use Rattle.kinds.specs.Model.{Model}
use Rattle.book.specs.Models.{Apart, Distinct, Numbered, Proper, total}

-- no kind of the list has the type
abbrev pub apart? : ℕ → List Model → Bool
apart? t [] = true
apart? t (k ∷ ks) = not (eqb t k.number) && apart? t ks

-- no two kinds of the list have one type
abbrev pub distinct? : List Model → Bool
distinct? [] = true
distinct? (k ∷ ks) = apart? k.number ks && distinct? ks

-- every type number is at most 65,535
abbrev pub numbered? : List Model → Bool
numbered? [] = true
numbered? (k ∷ ks) = leb k.number 65535 && numbered? ks

-- all that a set has to be
abbrev pub proper? : List Model → Bool
proper? ks = leb 1 (length ks) && (leb (length ks) 16 && (numbered? ks && (distinct? ks && leb (total ks) 65535)))

apart_by : (t : ℕ) (ks : List Model) → apart? t ks ≡ true → Apart t ks
apart_by t [] e = tt
apart_by t (k ∷ ks) e =
    let p = and_parts (not (eqb t k.number)) (apart? t ks) e in
    (eqb-false t k.number (not-true (eqb t k.number) p.0), apart_by t ks p.1)

distinct-by : (ks : List Model) → distinct? ks ≡ true → Distinct ks
distinct-by [] e = tt
distinct-by (k ∷ ks) e =
    let p = and_parts (apart? k.number ks) (distinct? ks) e in
    (apart_by k.number ks p.0, distinct-by ks p.1)

numbered-by : (ks : List Model) → numbered? ks ≡ true → Numbered ks
numbered-by [] e = tt
numbered-by (k ∷ ks) e =
    let p = and_parts (leb k.number 65535) (numbered? ks) e in
    (leb-true k.number 65535 p.0, numbered-by ks p.1)

-- at a concrete set, `proper-by _ refl`
pub proper-by : (ks : List Model) → proper? ks ≡ true → Proper ks
proper-by ks e =
    let a = and_parts (leb 1 (length ks)) _ e in
    let b = and_parts (leb (length ks) 16) _ a.1 in
    let c = and_parts (numbered? ks) _ b.1 in
    let d = and_parts (distinct? ks) _ c.1 in
    record {
      some = leb-true 1 (length ks) a.0;
      few = leb-true (length ks) 16 b.0;
      numbered = numbered-by ks c.0;
      distinct = distinct-by ks d.0;
      short = leb-true (total ks) 65535 d.1;
    }
