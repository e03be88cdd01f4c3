-- Type 155, region-wise packing.
use Rattle.std.specs.Prelude.{◌≡◌, ℕ, Bool, true, false, cond, ◌&&◌, List, [], ◌∷◌, ◌++◌, length, Some, None, Ok, Err, Option, Result, ◌==◌, nat_le, nat_lt}
use Rattle.bounded.specs.declared.Bounded.{Bounded}
use Rattle.layouts.specs.declared.fault.FieldFault.{FieldFault}
use Rattle.fields.specs.declared.reader.Reader.{Reader}
use Rattle.layouts.specs.Bits.{bit}
use Rattle.bounded.specs.Bounded.{items}
use Rattle.fields.specs.Groups.{before}
use Rattle.layouts.specs.Layout.{Verdict, fine, out_of_range, past_limit, judged, positive, counted, Layout, close, reserved, field, flag, cancelable, times, u, within, reads}
use Rattle.fields.specs.Reading.{left}
use Rattle.records.specs.Cancelable.{cancel_numbers}
use Rattle.regionwise_packing.specs.declared.RegionwisePacking.{RegionwisePacking}
use Rattle.regionwise_packing.specs.declared.region.Region.{Region}
use Rattle.regionwise_packing.specs.declared.shapes.Size.{Size}
use Rattle.regionwise_packing.specs.Regions.{region}
use Rattle.regionwise_packing.specs.Numbers.{regions_numbers, all_inside}

-- a width and a height of w bits
abbrev pub size_fields : ℕ → (Size ℕ → Layout) → Layout
size_fields w more = field (within (u w) positive) λ width. field (within (u w) positive) λ height. more (record { width = width; height = height })

-- the sizes of the projected picture and of the packed one
abbrev pub sizes : (Size ℕ → Size ℕ → Layout) → Layout
sizes more = size_fields 32 λ projected. size_fields 16 λ packed. more projected packed

-- the fields that follow the cancel bit
abbrev pub packing : Layout → Layout
packing more = flag λ persistence. flag λ matching. reserved 5 (field (within (u 8) (counted 32)) λ count. sizes λ projected packed. times count (region packed) more)

-- what follows the cancel bit
abbrev pub content : Layout
content = packing close

abbrev pub size_numbers : Size ℕ → Size ℕ → List ℕ
size_numbers projected packed = projected.width ∷ projected.height ∷ packed.width ∷ packed.height ∷ []

abbrev pub content_numbers : RegionwisePacking → List ℕ
content_numbers p = bit p.persistence ∷ bit p.matching ∷ length (items p.regions) ∷ (size_numbers p.projected p.packed ++ regions_numbers (items p.regions))

abbrev pub layout : Layout
layout = cancelable content

abbrev pub numbers : Option RegionwisePacking → List ℕ
numbers = cancel_numbers content_numbers

-- ---- reading

-- a reader that is asked for the sizes, whatever follows them
abbrev pub ReadsSizes : Reader → Result (Size ℕ × Size ℕ) FieldFault → Reader → Type 0
ReadsSizes r (Ok x) q = (l : Size ℕ → Size ℕ → Layout) → reads (sizes l) (left r) ≡ before (size_numbers x.0 x.1) (reads (l x.0 x.1) (left q))
ReadsSizes r (Err e) q = (l : Size ℕ → Size ℕ → Layout) → reads (sizes l) (left r) ≡ Err e

-- ---- making

-- a size with an area
abbrev pub spacious : Size ℕ → Bool
spacious s = nat_lt 0 s.width && nat_lt 0 s.height

-- what is said of the parts, in the order in which they are read
abbrev pub said_of_parts : Size ℕ → Size ℕ → List Region → Verdict
said_of_parts projected packed regions =
    cond (length regions == 0) out_of_range
    (cond (nat_le (length regions) 32) (cond (spacious projected && spacious packed) (cond (all_inside packed regions) fine past_limit) out_of_range) past_limit)

-- the regions, where all of them lie inside the packed picture
abbrev pub Gathers : Size ℕ → List Region → Option (Bounded Region 32) → Type 0
Gathers packed regions None = all_inside packed regions ≡ false
Gathers packed regions (Some b) = (all_inside packed regions ≡ true) × (items b ≡ regions) × (length (items b) ≡ length regions) × (all_inside packed (items b) ≡ true)

-- a packing of these parts, or the refusal at place 0
abbrev pub MakesPacking : Bool → Bool → Size ℕ → Size ℕ → List Region → Result RegionwisePacking FieldFault → Type 0
MakesPacking persistence matching projected packed regions (Ok p) =
    (said_of_parts projected packed regions ≡ fine) × (p.persistence ≡ persistence) × (p.matching ≡ matching) × (p.projected ≡ projected) × (p.packed ≡ packed) × (items p.regions ≡ regions)
MakesPacking persistence matching projected packed regions (Err e) = judged {A = ℕ} (said_of_parts projected packed regions) 0 0 ≡ Err e
