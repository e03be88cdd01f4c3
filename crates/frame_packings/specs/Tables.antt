-- A table of packings, and what it means.
use Rattle.std.specs.Prelude.{ℕ, Bool, true, ◌&&◌, List, [], ◌∷◌, map, Some, None, Option, nat_lt}
use Rattle.frame_packing.specs.declared.message.FramePacking.{FramePacking}
use Rattle.frame_packing.specs.FramePacking.{content_numbers}
use Rattle.kinds.specs.declared.in_force.InForce.{InForce}
use Rattle.frame_packings.specs.declared.packing.Packing.{Packing}
use Rattle.frame_packings.specs.Packings.{Packed, packing_stay, packed, payload_of}

-- what a packing means
abbrev pub packed_of : Packing → Packed
packed_of p = packed p.id.number (content_numbers p.arrangement)

-- the message that brings it into force
abbrev pub message_of : Packing → FramePacking
message_of p = record { id = p.id; arrangement = Some p.arrangement }

-- n is below all of these
abbrev pub below_all : ℕ → List Packed → Bool
below_all n [] = true
below_all n (x ∷ xs) = nat_lt n x.id && below_all n xs

-- whether ids go upward, none twice
abbrev pub rises : List Packed → Bool
rises [] = true
rises (x ∷ xs) = below_all x.id xs && rises xs

-- what a table means
abbrev pub meaning_of : List Packing → List Packed
meaning_of ps = map packed_of ps

-- a packing in force, as the code hands it out
abbrev pub handed_out : Option Packing → Option (InForce Packing)
handed_out None = None
handed_out (Some p) = Some (record { content = p; stay = packing_stay (content_numbers p.arrangement) })

-- the payloads that bring back what a table means
abbrev pub part_of : List Packing → List (List ℕ)
part_of ps = map payload_of (meaning_of ps)
