-- A table of packings is sound: at most four, upward by id, each as a message can have brought it.
use Rattle.std.specs.Prelude.{◌≡◌, ℕ, ◌<◌, Bool, true, false, cond, ◌&&◌, List, [], ◌∷◌, filter, nat_lt, refl}
use Rattle.std.proofs.Common.{ap, arith}
use Rattle.std.proofs.lemmas.List.{length-map}
use Rattle.std.specs.List.{AllByRecursion}
use Rattle.std.proofs.lemmas.Bool.{lt-ltb, ltb-true}
use Rattle.bounded.specs.Bounded.{items}
use Rattle.bounded.proofs.Cells.{items-few}
use Rattle.frame_packing.specs.Propers.{id-inside, arrangement-holds}
use Rattle.frame_packings.specs.declared.packings.FramePackings.{FramePackings}
use Rattle.frame_packings.specs.declared.packing.Packing.{Packing}
use Rattle.frame_packings.specs.Packings.{Packed, Rising, Proper, Sound, joined}
use Rattle.frame_packings.specs.PackingLaws.{kept-rising, joined-rising}
use Rattle.frame_packings.specs.Tables.{packed_of, meaning_of, below_all, rises}

-- ---- the test and the fact

both : (a b : Bool) → a && b ≡ true → (a ≡ true) × (b ≡ true)
both true true e = (refl, refl)
both true false e = absurd (omega (arith, ap (λ (x : Bool). cond {A = ℕ} x 1 0) e))
both false b e = absurd (omega (arith, ap (λ (x : Bool). cond {A = ℕ} x 1 0) e))

below-so : (n : ℕ) (m : List Packed) → below_all n m ≡ true → AllByRecursion (λ y. n < y.id) m
below-so n [] e = tt
below-so n (x ∷ xs) e = let b = both (nat_lt n x.id) (below_all n xs) e in (ltb-true n x.id b.0, below-so n xs b.1)

so-below : (n : ℕ) (m : List Packed) → AllByRecursion (λ y. n < y.id) m → below_all n m ≡ true
so-below n [] a = refl
so-below n (x ∷ xs) a = rw (lt-ltb n x.id a.0) (so-below n xs a.1)

rises-so : (m : List Packed) → rises m ≡ true → Rising m
rises-so [] e = tt
rises-so (x ∷ xs) e = let b = both (below_all x.id xs) (rises xs) e in (below-so x.id xs b.0, rises-so xs b.1)

so-rises : (m : List Packed) → Rising m → rises m ≡ true
so-rises [] r = refl
so-rises (x ∷ xs) r = rw (so-below x.id xs r.0) (so-rises xs r.1)

pub kept-rises : (p : Packed → Bool) (m : List Packed) → rises m ≡ true → rises (filter p m) ≡ true
kept-rises p m e = so-rises (filter p m) (kept-rising p m (rises-so m e))

pub joined-rises : (x : Packed) (m : List Packed) → rises m ≡ true → rises (joined x m) ≡ true
joined-rises x m e = so-rises (joined x m) (joined-rising x m (rises-so m e))

-- ---- a table

all-proper : (ps : List Packing) → AllByRecursion Proper (meaning_of ps)
all-proper [] = tt
all-proper (p ∷ ps) = ((id-inside p.id, (arrangement-holds p.arrangement, refl)), all-proper ps)

pub table_sound : (s : FramePackings) → Sound (meaning_of (items s.table))
table_sound s = record {
  rising = rises-so (meaning_of (items s.table)) s.rising;
  few = omega (arith, length-map (items s.table) packed_of, items-few s.table);
  propers = all-proper (items s.table);
}
