-- How many bits a packing takes at most.
use Rattle.std.specs.Prelude.{ℕ, ◌+◌, ◌*◌, ◌≤◌, Bool, true, false}
use Rattle.std.proofs.Common.{arith}
use Rattle.layouts.specs.Layout.{fixed, u, within, positive, counted, Layout, close, reserved, field, flag, judge, times}
use Rattle.layouts.proofs.Extents.{Takes, takes-less, takes-close, takes-reserved, takes-u, takes-flag, takes-fixed, takes-judged, takes-judge, takes-times, counted-most}
use Rattle.regionwise_packing.specs.declared.shapes.Size.{Size}
use Rattle.regionwise_packing.specs.declared.shapes.Rectangle.{Rectangle}
use Rattle.regionwise_packing.specs.Regions.{judgement, four, rectangle, guard_band, guard_band_if, region_bits, region}
use Rattle.regionwise_packing.specs.Packing.{size_fields, sizes, content}

takes-four : (w n : ℕ) (l : ℕ → ℕ → ℕ → ℕ → Layout) → w ≤ 32 → ((a b c d : ℕ) → Takes (l a b c d) n) → Takes (four w l) (w + (w + (w + (w + n))))
takes-four w n l h t =
    takes-fixed w (w + (w + (w + n))) (λ a. field (fixed w) λ b. field (fixed w) λ c. field (fixed w) λ d. l a b c d) h
    (λ a. takes-fixed w (w + (w + n)) (λ b. field (fixed w) λ c. field (fixed w) λ d. l a b c d) h
    (λ b. takes-fixed w (w + n) (λ c. field (fixed w) λ d. l a b c d) h (λ c. takes-fixed w n (λ d. l a b c d) h (λ d. t a b c d))))

takes-band : (n : ℕ) (l : Layout) → Takes l n → (b : Bool) → Takes (guard_band_if b l) (48 + n)
takes-band n l t true =
    takes-less (8 + (8 + (8 + (8 + (1 + (3 + (3 + (3 + (3 + (3 + n)))))))))) (48 + n) (guard_band l) (omega arith)
    (takes-four 8 (1 + (3 + (3 + (3 + (3 + (3 + n)))))) (λ _ _ _ _. flag λ _. four 3 λ _ _ _ _. reserved 3 l) (omega arith)
    (λ _ _ _ _. takes-flag (3 + (3 + (3 + (3 + (3 + n))))) (λ _. four 3 λ _ _ _ _. reserved 3 l) (λ _. takes-four 3 (3 + n) (λ _ _ _ _. reserved 3 l) (omega arith) (λ _ _ _ _. takes-reserved 3 n l t))))
takes-band n l t false = takes-less n (48 + n) l (omega arith) t

takes-region : (z : Size ℕ) (n : ℕ) (l : Layout) → Takes l n → Takes (region z l) (248 + n)
takes-region z n l t =
    let rest : Bool → Rectangle ℕ → Rectangle ℕ → Layout = λ g p k. guard_band_if g (judge (region_bits g) (judgement z p k) l) in
    takes-less (4 + (3 + (1 + (32 + (32 + (32 + (32 + (16 + (16 + (16 + (16 + (48 + n)))))))))))) (248 + n) (region z l) (omega arith)
    (takes-reserved 4 (3 + (1 + (32 + (32 + (32 + (32 + (16 + (16 + (16 + (16 + (48 + n))))))))))) (field (u 3) λ _. flag λ g. rectangle 32 λ p. rectangle 16 λ k. rest g p k)
    (takes-u 3 (1 + (32 + (32 + (32 + (32 + (16 + (16 + (16 + (16 + (48 + n)))))))))) (λ _. flag λ g. rectangle 32 λ p. rectangle 16 λ k. rest g p k)
    (λ _. takes-flag (32 + (32 + (32 + (32 + (16 + (16 + (16 + (16 + (48 + n))))))))) (λ g. rectangle 32 λ p. rectangle 16 λ k. rest g p k)
    (λ g. takes-four 32 (16 + (16 + (16 + (16 + (48 + n))))) (λ a b c d. rectangle 16 λ k. rest g (record { width = a; height = b; top = c; left = d }) k) (omega arith)
    (λ a b c d. takes-four 16 (48 + n) (λ e f h i. rest g (record { width = a; height = b; top = c; left = d }) (record { width = e; height = f; top = h; left = i })) (omega arith)
    (λ e f h i. let v = judgement z (record { width = a; height = b; top = c; left = d }) (record { width = e; height = f; top = h; left = i }) in takes-band n (judge (region_bits g) v l) (takes-judge (region_bits g) n v l t) g))))))

takes-regions : (z : Size ℕ) (k : ℕ) → k ≤ 32 → Takes (times k (region z) close) 7936
takes-regions z k h = takes-less (248 * k + 0) 7936 (times k (region z) close) (omega arith) (takes-times 248 (region z) (takes-region z) k 0 close takes-close)

-- what follows the cancel bit: 111 bits and 32 regions of 248
pub takes-content : Takes content 8047
takes-content =
    takes-flag 8046 (λ _. flag λ _. reserved 5 (field (within (u 8) (counted 32)) λ n. sizes λ _ k. times n (region k) close))
    (λ _. takes-flag 8045 (λ _. reserved 5 (field (within (u 8) (counted 32)) λ n. sizes λ _ k. times n (region k) close))
    (λ _. takes-reserved 5 8040 (field (within (u 8) (counted 32)) λ n. sizes λ _ k. times n (region k) close)
    (takes-judged 8 8032 (counted 32) (λ n. sizes λ _ k. times n (region k) close)
    (λ n few. takes-judged 32 8000 positive (λ w. field (within (u 32) positive) λ h. size_fields 16 λ k. times n (region k) close)
    (λ w _. takes-judged 32 7968 positive (λ h. size_fields 16 λ k. times n (region k) close)
    (λ h _. takes-judged 16 7952 positive (λ a. field (within (u 16) positive) λ b. times n (region (record { width = a; height = b })) close)
    (λ a _. takes-judged 16 7936 positive (λ b. times n (region (record { width = a; height = b })) close) (λ b _. takes-regions (record { width = a; height = b }) n (counted-most 32 n few)))))))))
