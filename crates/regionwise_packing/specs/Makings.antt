-- What making a guard band or a region answers, and what reading one does.
use Rattle.std.specs.Prelude.{◌≡◌, ℕ, ◌+◌, ◌<◌, Bool, true, false, ◌&&◌, List, [], ◌∷◌, Ok, Err, Option, Result, nat_lt, OnOk}
use Rattle.layouts.specs.declared.fault.FieldFault.{FieldFault}
use Rattle.layouts.specs.declared.fault.FieldFault.TheVariants.{OutOfRange}
use Rattle.fields.specs.declared.reader.Reader.{Reader}
use Rattle.fields.specs.Groups.{before}
use Rattle.layouts.specs.Layout.{Layout, reads}
use Rattle.fields.specs.Reading.{left}
use Rattle.fields.specs.Writing.{Sheet, lays}
use Rattle.regionwise_packing.specs.declared.guard_band.GuardBand.{GuardBand}
use Rattle.regionwise_packing.specs.declared.region.Region.{Region}
use Rattle.regionwise_packing.specs.declared.shapes.Rectangle.{Rectangle}
use Rattle.regionwise_packing.specs.declared.shapes.Sides.{Sides}
use Rattle.regionwise_packing.specs.Regions.{four, spans}
use Rattle.regionwise_packing.specs.Transforms.{transform_number}

-- ---- four fields

abbrev pub Four : Type 0
Four = ℕ × ℕ × ℕ × ℕ

abbrev pub rectangle_four : Rectangle ℕ → Four
rectangle_four r = (r.width, r.height, r.top, r.left)

abbrev pub sides_four : Sides ℕ → Four
sides_four s = (s.left, s.right, s.top, s.bottom)

-- a reader that is asked for four fields of w bits, whatever follows them
abbrev pub ReadsFour : ℕ → Reader → Result Four FieldFault → Reader → Type 0
ReadsFour w r (Ok x) q = (l : ℕ → ℕ → ℕ → ℕ → Layout) → reads (four w l) (left r) ≡ before (x.0 ∷ x.1 ∷ x.2 ∷ x.3 ∷ []) (reads (l x.0 x.1 x.2 x.3) (left q))
ReadsFour w r (Err e) q = (l : ℕ → ℕ → ℕ → ℕ → Layout) → reads (four w l) (left r) ≡ Err e

-- the same of a shape that has four numbers
abbrev pub ReadsShape : {A : Type 0} → (A → Four) → ℕ → Reader → Result A FieldFault → Reader → Type 0
ReadsShape numbers w r (Ok a) q = ReadsFour w r (Ok (numbers a)) q
ReadsShape numbers w r (Err e) q = ReadsFour w r (Err e) q

-- a reader r that is asked for n bits and answers what it was asked for is after them
abbrev pub Goes : {A : Type 0} → ℕ → Reader → Result A FieldFault → Reader → Type 0
Goes n r result q = OnOk result ((left q).place ≡ (left r).place + n)

-- four numbers of w bits lead from one sheet to another, whatever follows them
abbrev pub WritesFour : ℕ → Four → Sheet → Sheet → Type 0
WritesFour w x s t = (l : ℕ → ℕ → ℕ → ℕ → Layout) (vs : List ℕ) → lays (four w l) (x.0 ∷ x.1 ∷ x.2 ∷ x.3 ∷ vs) s ≡ lays (l x.0 x.1 x.2 x.3) vs t

abbrev pub FourBelow : ℕ → Four → Type 0
FourBelow bound x = (x.0 < bound) × (x.1 < bound) × (x.2 < bound) × (x.3 < bound)

-- ---- making

-- the types of a guard band's sides are below 8
abbrev pub typed : Sides ℕ → Bool
typed s = (nat_lt s.left 8 && nat_lt s.right 8) && (nat_lt s.top 8 && nat_lt s.bottom 8)

abbrev pub MakesBand : Sides ℕ → Bool → Sides ℕ → Result GuardBand FieldFault → Type 0
MakesBand widths not_used types (Ok g) = (typed types ≡ true) × (g.widths ≡ widths) × (g.not_used ≡ not_used) × (g.types ≡ types)
MakesBand widths not_used types (Err e) = (typed types ≡ false) × (e ≡ OutOfRange 0)

-- a transform below 8, and rectangles that have an area each
abbrev pub proper : ℕ → Rectangle ℕ → Rectangle ℕ → Bool
proper transform projected packed = nat_lt transform 8 && spans projected packed

-- a region of these parts, or the refusal at a place
abbrev pub MakesRegion : ℕ → ℕ → Rectangle ℕ → Rectangle ℕ → Option GuardBand → Result Region FieldFault → Type 0
MakesRegion place transform projected packed guard (Ok r) = (proper transform projected packed ≡ true) × (transform_number r.transform ≡ transform) × (r.projected ≡ projected) × (r.packed ≡ packed) × (r.guard ≡ guard)
MakesRegion place transform projected packed guard (Err e) = (proper transform projected packed ≡ false) × (e ≡ OutOfRange place)
