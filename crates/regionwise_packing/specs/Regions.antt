-- A region of type 155, region-wise packing: its fields, and what is asked of them.
use Rattle.std.specs.Prelude.{ℕ, ◌+◌, ◌<◌, Bool, cond, ◌&&◌, List, [], ◌∷◌, nat_le, nat_lt}
use Rattle.layouts.specs.Layout.{Verdict, fine, out_of_range, past_limit, Layout, reserved, field, flag, judge, fixed, u}
use Rattle.regionwise_packing.specs.declared.shapes.Rectangle.{Rectangle}
use Rattle.regionwise_packing.specs.declared.shapes.Sides.{Sides}
use Rattle.regionwise_packing.specs.declared.shapes.Size.{Size}

-- ---- shapes

-- a number of at least 1 and below a bound
abbrev pub Between : ℕ → ℕ → Type 0
Between bound n = (0 < n) × (n < bound)

abbrev pub Sized : ℕ → Size ℕ → Type 0
Sized bound s = Between bound s.width × Between bound s.height

-- a rectangle with an area
abbrev pub Spans : ℕ → Rectangle ℕ → Type 0
Spans bound r = (Between bound r.width × Between bound r.height) × ((r.top < bound) × (r.left < bound))

abbrev pub Below : ℕ → Sides ℕ → Type 0
Below bound s = ((s.left < bound) × (s.right < bound)) × ((s.top < bound) × (s.bottom < bound))

abbrev pub rectangle_numbers : Rectangle ℕ → List ℕ
rectangle_numbers r = r.width ∷ r.height ∷ r.top ∷ r.left ∷ []

abbrev pub sides_numbers : Sides ℕ → List ℕ
sides_numbers s = s.left ∷ s.right ∷ s.top ∷ s.bottom ∷ []

-- ---- what is asked of a region

-- its rectangles have an area each
abbrev pub spans : Rectangle ℕ → Rectangle ℕ → Bool
spans projected packed = (nat_lt 0 projected.width && nat_lt 0 projected.height) && (nat_lt 0 packed.width && nat_lt 0 packed.height)

-- its packed rectangle lies inside the packed picture
abbrev pub inside : Size ℕ → Rectangle ℕ → Bool
inside picture packed = nat_le (packed.left + packed.width) picture.width && nat_le (packed.top + packed.height) picture.height

-- a rectangle of no area is out of range, and one outside the packed picture past the limit
abbrev pub judgement : Size ℕ → Rectangle ℕ → Rectangle ℕ → Verdict
judgement picture projected packed = cond (spans projected packed) (cond (inside picture packed) fine past_limit) out_of_range

-- ---- its fields

-- four fields of w bits
abbrev pub four : ℕ → (ℕ → ℕ → ℕ → ℕ → Layout) → Layout
four w more = field (fixed w) λ a. field (fixed w) λ b. field (fixed w) λ c. field (fixed w) λ d. more a b c d

abbrev pub rectangle : ℕ → (Rectangle ℕ → Layout) → Layout
rectangle w more = four w λ width height top left. more (record { width = width; height = height; top = top; left = left })

-- four widths, whether it is not used for prediction, and four types
abbrev pub guard_band : Layout → Layout
guard_band more = four 8 λ _ _ _ _. flag λ not_used. four 3 λ _ _ _ _. reserved 3 more

-- a guard band where its flag is 1
abbrev pub guard_band_if : Bool → Layout → Layout
guard_band_if guard more = cond guard (guard_band more) more

-- the bits of a region
abbrev pub region_bits : Bool → ℕ
region_bits guard = cond guard 248 200

-- a region is judged when its last field is read
abbrev pub region : Size ℕ → Layout → Layout
region picture more =
    reserved 4
    (field (u 3) λ transform. flag λ guard. rectangle 32 λ projected. rectangle 16 λ packed.
    guard_band_if guard (judge (region_bits guard) (judgement picture projected packed) more))
