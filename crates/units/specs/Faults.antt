-- The number, the layer and the place of a unit's refusals.
use Rattle.std.specs.Prelude.{ℕ}
use Rattle.layouts.specs.declared.fault.Layer.{Layer}
use Rattle.layouts.specs.declared.fault.Layer.TheVariants.{Source as SourceLayer, Unit as UnitLayer}
use Rattle.units.specs.declared.fault.UnitFault.{UnitFault}
use Rattle.units.specs.declared.fault.UnitFault.TheVariants.{Source, Room, Frame}

-- 2: the source faults; 3: the unit does not fit; 4: the frame is broken
abbrev pub unit_number : UnitFault → ℕ
unit_number (Source n) = 2
unit_number (Room n) = 3
unit_number (Frame at) = 4

abbrev pub unit_layer : UnitFault → Layer
unit_layer (Source n) = SourceLayer
unit_layer (Room n) = UnitLayer
unit_layer (Frame at) = UnitLayer

-- for 2 and 3 the bytes in the scratch; for 4 a byte of the unit
abbrev pub unit_place : UnitFault → ℕ
unit_place (Source n) = n
unit_place (Room n) = n
unit_place (Frame at) = at
