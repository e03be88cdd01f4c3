-- Tables of packings of which some are kept, and what they mean.
use Rattle.std.proofs.Common.{◌≡◌, ℕ, ◌+◌, ◌<◌, ◌≤◌, Bool, true, false, cond, leb, ltb, nat_lt, List, [], ◌∷◌, ◌++◌, map, length, take, filter, sym, refl, ap, ◌∙◌, append_assoc, arith, length-append, take_all}
use lib.ListN.{length-map}
use Rattle.std.proofs.lemmas.List.{map-append}
use Rattle.std.proofs.lemmas.Bool.{lt-ltb, leb-false}
use Rattle.frame_packings.specs.declared.packing.Packing.{Packing}
use Rattle.frame_packings.specs.Packings.{outlasts, lower, higher, joined, full}
use Rattle.frame_packings.specs.TableLaws.{kept-rises, joined-rises}
use Rattle.frame_packings.specs.Tables.{packed_of, meaning_of, rises}

kept_map : {A B : Type 0} (f : A → B) (q : B → Bool) (xs : List A) → filter q (map f xs) ≡ map f (filter (λ x. q (f x)) xs)
kept_map f q [] = refl
kept_map f q (x ∷ xs) = go (q (f x)) (kept_map f q xs)
  where
    go : (b : Bool) → filter q (map f xs) ≡ map f (filter (λ y. q (f y)) xs) → cond b (f x ∷ filter q (map f xs)) (filter q (map f xs)) ≡ map f (cond b (x ∷ filter (λ y. q (f y)) xs) (filter (λ y. q (f y)) xs))
    go true e = ap (λ l. f x ∷ l) e
    go false e = e

lower-means : (n : ℕ) (ps : List Packing) → lower n (meaning_of ps) ≡ meaning_of (filter (λ p. nat_lt p.id.number n) ps)
lower-means n ps = kept_map packed_of (λ x. nat_lt x.id n) ps

higher-means : (n : ℕ) (ps : List Packing) → higher n (meaning_of ps) ≡ meaning_of (filter (λ p. nat_lt n p.id.number) ps)
higher-means n ps = kept_map packed_of (λ x. nat_lt n x.id) ps

-- those that stay
pub staying-means : (ps qs : List Packing) → qs ≡ filter (λ p. outlasts (packed_of p)) ps → meaning_of qs ≡ filter outlasts (meaning_of ps)
staying-means ps qs e = ap meaning_of e ∙ sym (kept_map packed_of outlasts ps)

pub staying-rises : (ps qs : List Packing) → rises (meaning_of ps) ≡ true → qs ≡ filter (λ p. outlasts (packed_of p)) ps → rises (meaning_of qs) ≡ true
staying-rises ps qs r e = ap rises (staying-means ps qs e) ∙ kept-rises outlasts (meaning_of ps) r

pub ruleset staying = (staying-means, staying-rises)

-- how many are of lower and of higher ids
lower-many : (n : ℕ) (ps : List Packing) → length (filter (λ p. nat_lt p.id.number n) ps) ≡ length (lower n (meaning_of ps))
lower-many n ps = sym (length-map (filter (λ p. nat_lt p.id.number n) ps) packed_of) ∙ ap length (sym (lower-means n ps))

higher-many : (n : ℕ) (ps : List Packing) → length (filter (λ p. nat_lt n p.id.number) ps) ≡ length (higher n (meaning_of ps))
higher-many n ps = sym (length-map (filter (λ p. nat_lt n p.id.number) ps) packed_of) ∙ ap length (sym (higher-means n ps))

-- whether they are four
pub full-so : (ps low high : List Packing) (id a b : ℕ) → low ≡ filter (λ p. nat_lt p.id.number id) ps → high ≡ filter (λ p. nat_lt id p.id.number) ps → a ≡ length low → b ≡ length high → leb 4 (a + b) ≡ full id (meaning_of ps)
full-so ps low high id a b l h e f = λ i. leb 4 ((e ∙ ap length l ∙ lower-many id ps) i + (f ∙ ap length h ∙ higher-many id ps) i)

pub ruleset many = (full-so)

-- a packing between those of lower and those of higher ids
pub joined-means : (ps low mid high all : List Packing) (x : Packing) (ok : Bool) → full x.id.number (meaning_of ps) ≡ false
    → low ≡ filter (λ p. nat_lt p.id.number x.id.number) ps → ok ≡ ltb (length low) 4 → mid ≡ cond ok (low ++ x ∷ []) low → high ≡ filter (λ p. nat_lt x.id.number p.id.number) ps → all ≡ take 4 (mid ++ high)
    → meaning_of all ≡ joined (packed_of x) (meaning_of ps)
joined-means ps low mid high all x ok room l o e h t =
    let n = x.id.number in
    let m = meaning_of ps in
    let few : length (lower n m) + length (higher n m) < 4 = leb-false 4 (length (lower n m) + length (higher n m)) room in
    let a : length low ≡ length (lower n m) = ap length l ∙ lower-many n ps in
    let b : length high ≡ length (higher n m) = ap length h ∙ higher-many n ps in
    let is_ok : ok ≡ true = o ∙ lt-ltb (length low) 4 (omega arith) in
    let is_mid : mid ≡ low ++ x ∷ [] = e ∙ ap (λ c. cond c (low ++ x ∷ []) low) is_ok in
    let short : length ((low ++ x ∷ []) ++ high) ≤ 4 = omega (arith, length-append (low ++ x ∷ []) high, length-append low (x ∷ [])) in
    let is_all : all ≡ low ++ x ∷ high = t ∙ ap (λ l. take 4 (l ++ high)) is_mid ∙ take_all 4 ((low ++ x ∷ []) ++ high) short ∙ append_assoc low (x ∷ []) high in
    ap meaning_of is_all ∙ map-append packed_of low (x ∷ high) ∙ (λ i. (ap meaning_of l ∙ sym (lower-means n ps)) i ++ packed_of x ∷ (ap meaning_of h ∙ sym (higher-means n ps)) i)

pub joined-rise : (ps low mid high all : List Packing) (x : Packing) (ok : Bool) → full x.id.number (meaning_of ps) ≡ false → rises (meaning_of ps) ≡ true
    → low ≡ filter (λ p. nat_lt p.id.number x.id.number) ps → ok ≡ ltb (length low) 4 → mid ≡ cond ok (low ++ x ∷ []) low → high ≡ filter (λ p. nat_lt x.id.number p.id.number) ps → all ≡ take 4 (mid ++ high)
    → rises (meaning_of all) ≡ true
joined-rise ps low mid high all x ok room r l o e h t = ap rises (joined-means ps low mid high all x ok room l o e h t) ∙ joined-rises (packed_of x) (meaning_of ps) r

pub ruleset joining = (joined-means, joined-rise)

-- a payload for each packing
pub ruleset as_many = (length-map)
