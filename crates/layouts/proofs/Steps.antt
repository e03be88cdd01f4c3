-- The next field, by the bytes and the place that a reader holds.
use Rattle.std.proofs.Common.{◌≡◌, ℕ, ◌+◌, ◌-◌, ◌*◌, ◌^◌, ◌<◌, ◌≤◌, min, Bool, true, List, length, take, drop, ℤ, ◌≤ℤ◌, Ok, Err, Result, sym, refl, ap, ◌∙◌, ⊎_elim, arith, length-drop, length-take, take_all, drop-drop, pow_mono, w32, SFits, of_z}
use lib.Signed.{le_z}
use Rattle.std.proofs.lemmas.Int.{ints, to_z-of_z}
use Rattle.std.proofs.lemmas.Bool.{le-leb, lt-leb, cases_lt}
use Rattle.layouts.specs.declared.fault.FieldFault.{FieldFault}
use Rattle.layouts.specs.declared.fault.FieldFault.TheVariants.{Short, OutOfRange}
use Rattle.layouts.specs.Bits.{number, bits_of}
use Rattle.layouts.specs.Layout.{Left, past, and_then, Verdict, fine, out_of_range, judged, at_most, between, Code, u, within, fixed, next, next_u, next_ue, from}
use Rattle.layouts.proofs.Numbers.{length-bits, number_lt}

-- as many as there are, and at most k
pub take_min : (bs : List ℕ) (k : ℕ) → take (min (length bs) k) bs ≡ take k bs
take_min bs k =
    ⊎_elim
    (λ h. let f : min (length bs) k ≡ length bs = omega arith in ap (λ x. take x bs) f ∙ take_all (length bs) bs (omega arith) ∙ sym (take_all k bs (omega arith)))
    (λ h. let f : min (length bs) k ≡ k = omega arith in ap (λ x. take x bs) f)
    (cases_lt (length bs) k)

pub length_from : (bs : List ℕ) (p : ℕ) → length (from bs p).rest ≡ 8 * length bs - p
length_from bs p = length-drop p (bits_of bs) ∙ ap (λ x. x - p) (length-bits bs)

pub next-short : (bs : List ℕ) (p w : ℕ) → p ≤ 8 * length bs → 8 * length bs < p + w → next (u w) (from bs p) ≡ Err (Short p)
unfolding next_u next_ue
next-short bs p w h k = rw (lt-leb w (length (drop p (bits_of bs))) (omega (arith, length_from bs p)))

pub next-whole : (bs : List ℕ) (p w v : ℕ) → p + w ≤ 8 * length bs → v ≡ number (take w (drop p (bits_of bs))) → next (u w) (from bs p) ≡ Ok (v, from bs (p + w))
unfolding next_u next_ue
next-whole bs p w v h e = rw (le-leb w (length (drop p (bits_of bs))) (omega (arith, length_from bs p)), drop-drop w p (bits_of bs), e)

abbrev got : Left → Result (ℕ × Left) FieldFault → ℕ × Left
got d (Ok a) = a
got d (Err e) = (0, d)

pub ok-parts : {m n : ℕ} {s t : Left} → ◌≡◌ {A = Result (ℕ × Left) FieldFault} (Ok (m, s)) (Ok (n, t)) → (m ≡ n) × (s ≡ t)
ok-parts {m} {n} {s} {t} e = (ap (λ r. (got s r).0) e, ap (λ r. (got s r).1) e)

-- ---- a number of w bits is below 2 ^ w, so a flag's is that of a bit

-- ---- a field whose number is judged

module _ (c : Code) (ok : ℕ → Verdict) (s : Left) where
  pub within-out : (v : ℕ) (t : Left) → next c s ≡ Ok (v, t) → ok v ≡ out_of_range → next (within c ok) s ≡ Err (OutOfRange s.place)
  unfolding next_u next_ue
  within-out v t h f = ap (λ r. and_then r (λ a. judged (ok a.0) s.place a)) h ∙ ap (λ b. judged b s.place (v, t)) f

pub at-most : (m v : ℕ) → v ≤ m → at_most m v ≡ fine
at-most m v h = rw (le-leb v m h)

le_z-so : (a b : ℤ) → a ≤ℤ b → le_z a b ≡ true
le_z-so a b h = grind (arith, ints)

pub between-fine : (low high x : ℤ) → SFits w32 x → low ≤ℤ x → x ≤ℤ high → between low high (of_z w32 x) ≡ fine
unfolding between
between-fine low high x f l h = rw (to_z-of_z w32 x f, le_z-so low x l, le_z-so x high h)

pub taken-below : (w v : ℕ) (l : List Bool) → v ≡ number (take w l) → v < 2 ^ w
taken-below w v l e =
    let long : length (take w l) ≤ w = omega (arith, length-take w l) in
    let more : 2 ^ length (take w l) ≤ 2 ^ w = pow_mono long in
    omega (arith, number_lt (take w l))

-- ---- a number of w bits, where w is any width

pub fixed-narrow : (w : ℕ) → w ≤ 32 → fixed w ≡ u w
fixed-narrow w h = rw (le-leb w 32 h)

pub fixed-short : (bs : List ℕ) (p w : ℕ) → w ≤ 32 → p ≤ 8 * length bs → 8 * length bs < p + w → next (fixed w) (from bs p) ≡ Err (Short p)
fixed-short bs p w n h k = ap (λ (c : Code). next c (from bs p)) (fixed-narrow w n) ∙ next-short bs p w h k

pub fixed-whole : (bs : List ℕ) (p w v : ℕ) → w ≤ 32 → p + w ≤ 8 * length bs → v ≡ number (take w (drop p (bits_of bs))) → next (fixed w) (from bs p) ≡ Ok (v, from bs (p + w))
fixed-whole bs p w v n h e = ap (λ (c : Code). next c (from bs p)) (fixed-narrow w n) ∙ next-whole bs p w v h e

next-none : (s : Left) → next (u 0) s ≡ Ok (number (take 0 s.rest), past 0 s)
unfolding next_u
next-none s = rw (le-leb 0 (length s.rest) (omega arith))

pub fixed-wide : (w : ℕ) (s : Left) → 32 < w → next (fixed w) s ≡ Err (OutOfRange s.place)
fixed-wide w s h = rw (lt-leb w 32 h) (within-out (u 0) (λ _. out_of_range) s _ _ (next-none s) refl)

-- the number of a width that comes next
pub ruleset fixed_left = (fixed-wide, fixed-short, fixed-whole, taken-below)
