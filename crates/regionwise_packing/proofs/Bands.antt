-- A guard band that is read part by part.
use Rattle.std.proofs.Common.{◌≡◌, ℕ, ◌+◌, ◌*◌, [], ◌∷◌, Ok, Err, sym, ap, ◌∙◌, arith}
use Rattle.layouts.specs.declared.fault.FieldFault.{FieldFault}
use Rattle.layouts.specs.Bits.{word}
use Rattle.fields.specs.Groups.{before, WritesGroup}
use Rattle.layouts.specs.Layout.{Left, Layout, reserved, flag, u, next, reads}
use Rattle.fields.specs.Writing.{Sheet, put, lays}
use Rattle.fields.proofs.Groups.{before-before, field-reads, field-err, reserved-reads, reserved-err, next_place, fixed-place}
use Rattle.regionwise_packing.specs.Regions.{four, guard_band}
use Rattle.regionwise_packing.specs.Makings.{WritesFour}

-- four fields of w bits are read, whatever follows
abbrev pub ReadFour : ℕ → Left → ℕ → ℕ → ℕ → ℕ → Left → Type 0
ReadFour w s a b c d t = (l : ℕ → ℕ → ℕ → ℕ → Layout) → reads (four w l) s ≡ before (a ∷ b ∷ c ∷ d ∷ []) (reads (l a b c d) t)

-- the places behind four fields
pub ruleset four_places = (fixed-place)

pub band-none : (s0 : Left) (z : FieldFault) → ((l : ℕ → ℕ → ℕ → ℕ → Layout) → reads (four 8 l) s0 ≡ Err z) → (l : Layout) → reads (guard_band l) s0 ≡ Err z
band-none s0 z f l = f (λ _ _ _ _. flag λ _. four 3 λ _ _ _ _. reserved 3 l)

module _ (s0 s1 : Left) (a b c d : ℕ) (widths : ReadFour 8 s0 a b c d s1) where
  behind-widths : (l : Layout) → reads (guard_band l) s0 ≡ before (a ∷ b ∷ c ∷ d ∷ []) (reads (flag λ _. four 3 λ _ _ _ _. reserved 3 l) s1)
  behind-widths l = widths (λ _ _ _ _. flag λ _. four 3 λ _ _ _ _. reserved 3 l)

  pub band-widths : (z : FieldFault) → next (u 1) s1 ≡ Err z → (l : Layout) → reads (guard_band l) s0 ≡ Err z
  band-widths z f l = behind-widths l ∙ ap (before (a ∷ b ∷ c ∷ d ∷ [])) (field-err (u 1) (λ _. four 3 λ _ _ _ _. reserved 3 l) s1 z f)

  module _ (s2 : Left) (n : ℕ) (used : next (u 1) s1 ≡ Ok (n, s2)) where
    behind-flag : (l : Layout) → reads (guard_band l) s0 ≡ before (a ∷ b ∷ c ∷ d ∷ n ∷ []) (reads (four 3 λ _ _ _ _. reserved 3 l) s2)
    behind-flag l =
        behind-widths l ∙ ap (before (a ∷ b ∷ c ∷ d ∷ [])) (field-reads (u 1) (λ _. four 3 λ _ _ _ _. reserved 3 l) s1 s2 n used)
        ∙ before-before (a ∷ b ∷ c ∷ d ∷ []) (n ∷ []) (reads (four 3 λ _ _ _ _. reserved 3 l) s2)

    pub band-flag : (z : FieldFault) → ((l : ℕ → ℕ → ℕ → ℕ → Layout) → reads (four 3 l) s2 ≡ Err z) → (l : Layout) → reads (guard_band l) s0 ≡ Err z
    band-flag z f l = behind-flag l ∙ ap (before (a ∷ b ∷ c ∷ d ∷ n ∷ [])) (f (λ _ _ _ _. reserved 3 l))

    module _ (s3 : Left) (e f g h : ℕ) (types : ReadFour 3 s2 e f g h s3) where
      behind-types : (l : Layout) → reads (guard_band l) s0 ≡ before (a ∷ b ∷ c ∷ d ∷ n ∷ e ∷ f ∷ g ∷ h ∷ []) (reads (reserved 3 l) s3)
      behind-types l =
          behind-flag l ∙ ap (before (a ∷ b ∷ c ∷ d ∷ n ∷ [])) (types (λ _ _ _ _. reserved 3 l))
          ∙ before-before (a ∷ b ∷ c ∷ d ∷ n ∷ []) (e ∷ f ∷ g ∷ h ∷ []) (reads (reserved 3 l) s3)

      pub band-types : (z : FieldFault) → next (u 3) s3 ≡ Err z → (l : Layout) → reads (guard_band l) s0 ≡ Err z
      band-types z k l = behind-types l ∙ ap (before (a ∷ b ∷ c ∷ d ∷ n ∷ e ∷ f ∷ g ∷ h ∷ [])) (reserved-err 3 l s3 z k)

      pub band-whole : (s4 : Left) (v : ℕ) → next (u 3) s3 ≡ Ok (v, s4) → (l : Layout) → reads (guard_band l) s0 ≡ before (a ∷ b ∷ c ∷ d ∷ n ∷ e ∷ f ∷ g ∷ h ∷ []) (reads l s4)
      band-whole s4 v k l = behind-types l ∙ ap (before (a ∷ b ∷ c ∷ d ∷ n ∷ e ∷ f ∷ g ∷ h ∷ [])) (reserved-reads 3 l s3 s4 v k)

-- a guard band that is written part by part
pub band-written : (s0 s1 s2 s3 s4 : Sheet) (a b c d n e f g h : ℕ) → WritesFour 8 (a, b, c, d) s0 s1 → s2 ≡ put (word 1 n) s1 → WritesFour 3 (e, f, g, h) s2 s3 → s4 ≡ put (word 3 0) s3
    → WritesGroup guard_band (a ∷ b ∷ c ∷ d ∷ n ∷ e ∷ f ∷ g ∷ h ∷ []) s0 s4
band-written s0 s1 s2 s3 s4 a b c d n e f g h widths used types end l vs =
    widths (λ _ _ _ _. flag λ _. four 3 λ _ _ _ _. reserved 3 l) (n ∷ e ∷ f ∷ g ∷ h ∷ vs)
    ∙ ap (λ s. lays (four 3 λ _ _ _ _. reserved 3 l) (e ∷ f ∷ g ∷ h ∷ vs) s) (sym used)
    ∙ types (λ _ _ _ _. reserved 3 l) vs
    ∙ ap (λ s. lays l vs s) (sym end)

pub band-place : (s0 s1 s2 s3 s4 : Left) (n v : ℕ) → s1.place ≡ s0.place + 4 * 8 → next (u 1) s1 ≡ Ok (n, s2) → s3.place ≡ s2.place + 4 * 3 → next (u 3) s3 ≡ Ok (v, s4) → s4.place ≡ s0.place + 48
band-place s0 s1 s2 s3 s4 n v e f g h = omega (arith, next_place 1 n s1 s2 f, next_place 3 v s3 s4 h)
