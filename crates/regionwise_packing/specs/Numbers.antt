-- The numbers of a region, field after field, and of regions one after the other.
use Rattle.std.specs.Prelude.{ℕ, Bool, List, [], ◌∷◌, ◌++◌, is_some, Some, None, Option}
use Rattle.std.specs.List.{list_all, flat_map}
use Rattle.layouts.specs.Bits.{bit}
use Rattle.regionwise_packing.specs.declared.guard_band.GuardBand.{GuardBand}
use Rattle.regionwise_packing.specs.declared.region.Region.{Region}
use Rattle.regionwise_packing.specs.declared.shapes.Size.{Size}
use Rattle.regionwise_packing.specs.Regions.{rectangle_numbers, sides_numbers, inside}
use Rattle.regionwise_packing.specs.Transforms.{transform_number}

abbrev pub band_numbers : GuardBand → List ℕ
band_numbers g = sides_numbers g.widths ++ (bit g.not_used ∷ sides_numbers g.types)

-- what the guard flag brings
abbrev pub option_numbers : Option GuardBand → List ℕ
option_numbers None = []
option_numbers (Some g) = band_numbers g

abbrev pub region_numbers : Region → List ℕ
region_numbers r = transform_number r.transform ∷ bit (is_some r.guard) ∷ (rectangle_numbers r.projected ++ (rectangle_numbers r.packed ++ option_numbers r.guard))

abbrev pub regions_numbers : List Region → List ℕ
regions_numbers regions = flat_map region_numbers regions

-- every region lies inside the packed picture
abbrev pub all_inside : Size ℕ → List Region → Bool
all_inside picture regions = list_all (λ r. inside picture r.packed) regions
