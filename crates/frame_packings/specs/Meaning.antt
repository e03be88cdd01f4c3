-- What the packings in force mean.
use Rattle.std.specs.Prelude.{List}
use Rattle.bounded.specs.Bounded.{items}
use Rattle.frame_packings.specs.declared.packings.FramePackings.{FramePackings}
use Rattle.frame_packings.specs.Packings.{Packed}
use Rattle.frame_packings.specs.Tables.{meaning_of}

abbrev pub meaning : FramePackings → List Packed
meaning s = meaning_of (items s.table)
