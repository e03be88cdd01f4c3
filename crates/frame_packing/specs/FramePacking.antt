-- Type 45, frame packing arrangement.
use Rattle.std.specs.Prelude.{◌≡◌, ℕ, ◌≤◌, Bool, true, false, cond, not, List, [], ◌∷◌, ◌++◌, length, is_some, Some, None, Ok, Err, Option, Result, nat_le}
use Rattle.layouts.specs.declared.fault.FieldFault.{FieldFault}
use Rattle.layouts.specs.declared.fault.FieldFault.TheVariants.{OutOfRange}
use Rattle.layouts.specs.Bits.{bit}
use Rattle.layouts.specs.Layout.{Left, and_then, next, Layout, extension, reserved, flag, field, Code, u, ue, within, at_most, from}
use Rattle.records.specs.declared.fault.PayloadFault.{PayloadFault}
use Rattle.records.specs.declared.fault.PayloadFault.TheVariants.{TooLong}
use Rattle.frame_packing.specs.declared.message.Arrangement.{Arrangement}
use Rattle.frame_packing.specs.declared.message.FramePacking.{FramePacking}
use Rattle.frame_packing.specs.declared.message.GridPositions.{GridPositions}
use Rattle.frame_packing.specs.declared.message.PackingFlags.{PackingFlags}
use Rattle.frame_packing.specs.declared.message.PackingId.{PackingId}
use Rattle.records.specs.declared.period.Period.{Period}
use Rattle.frame_packing.specs.PackingIds.{reserved_id, unreserved, gridless}
use Rattle.records.specs.Cancelable.{cancel_numbers}
use Rattle.records.specs.Record.{as_payload}

-- ---- its layout

-- the six flags, and what follows them
unfoldable pub flags : Layout → Layout
flags more = flag λ spatial_flipping. flag λ frame0_flipped. flag λ field_views. flag λ current_frame_is_frame0. flag λ frame0_self_contained. flag λ frame1_self_contained. more

-- the grid positions, unless there are none, and what follows them
unfoldable pub grid : Bool → Layout → Layout
grid true more = more
grid false more = field (u 4) λ frame0_x. field (u 4) λ frame0_y. field (u 4) λ frame1_x. field (u 4) λ frame1_y. more

-- a reserved byte, the period and the extension bit
abbrev pub ending : Layout
ending = reserved 8 (field (within ue (at_most 16384)) λ period. extension)

-- what follows a cancel bit of 0
abbrev pub content : Layout
content = field (u 7) λ arrangement_type. flag λ quincunx. field (u 6) λ interpretation. flags (grid (gridless quincunx arrangement_type) ending)

abbrev pub identity : Code
identity = within ue unreserved

-- a cancel bit of 1 leaves out all but the extension bit
abbrev pub layout : Layout
layout = field identity λ id. flag λ cancel. cond cancel extension content

-- ---- its numbers

abbrev pub flag_numbers : PackingFlags → List ℕ
flag_numbers f = bit f.spatial_flipping ∷ bit f.frame0_flipped ∷ bit f.field_views ∷ bit f.current_frame_is_frame0 ∷ bit f.frame0_self_contained ∷ bit f.frame1_self_contained ∷ []

abbrev pub grid_numbers : Option GridPositions → List ℕ
grid_numbers None = []
grid_numbers (Some g) = g.frame0_x ∷ g.frame0_y ∷ g.frame1_x ∷ g.frame1_y ∷ []

abbrev pub period_numbers : Period → List ℕ
period_numbers p = p.pictures ∷ []

abbrev pub content_numbers : Arrangement → List ℕ
content_numbers a = a.arrangement_type ∷ bit a.quincunx_sampling ∷ a.content_interpretation ∷ (flag_numbers a.flags ++ (grid_numbers a.grid ++ period_numbers a.period))

-- the cancel bit, and where it is 0 the numbers of the arrangement
abbrev pub arrangement_numbers : Option Arrangement → List ℕ
arrangement_numbers = cancel_numbers content_numbers

abbrev pub is_cancel : Option Arrangement → Bool
is_cancel None = true
is_cancel (Some a) = false

abbrev pub numbers : FramePacking → List ℕ
numbers p = p.id.number ∷ arrangement_numbers p.arrangement

-- ---- its id alone

-- an id that is read at s, with t left after it
abbrev pub ReadsId : Left → Result PackingId FieldFault → Left → Type 0
ReadsId s (Ok i) t = next identity s ≡ Ok (i.number, t)
ReadsId s (Err e) t = next identity s ≡ Err e

-- the id of a payload, whether it is reserved or not, or why it is refused
abbrev pub id_as : List ℕ → Result ℕ PayloadFault
id_as bytes = cond (nat_le (length bytes) 65535) (as_payload (and_then (next ue (from bytes 0)) (λ a. Ok a.0))) (Err TooLong)

-- ---- making one

-- the id, where it is not reserved; else the refusal, at place 0
abbrev pub MakesId : ℕ → Result PackingId FieldFault → Type 0
MakesId n (Ok i) = (reserved_id n ≡ false) × (i.number ≡ n)
MakesId n (Err e) = (reserved_id n ≡ true) × (e ≡ OutOfRange 0)

-- grid positions, where each is at most 15; else the refusal, at place 0
abbrev pub MakesGrid : ℕ → ℕ → ℕ → ℕ → Result GridPositions FieldFault → Type 0
MakesGrid a b c d (Ok g) = (g.frame0_x ≡ a) × (g.frame0_y ≡ b) × (g.frame1_x ≡ c) × (g.frame1_y ≡ d)
MakesGrid a b c d (Err e) = ((a ≤ 15) × (b ≤ 15) × (c ≤ 15) × (d ≤ 15) → ⊥) × (e ≡ OutOfRange 0)

-- what an arrangement is made of
abbrev pub Fitting : ℕ → Bool → ℕ → Option GridPositions → Type 0
Fitting t q i g = (t ≤ 127) × (i ≤ 63) × (is_some g ≡ not (gridless q t))

-- an arrangement, where its numbers fit and it has grid positions exactly where such an arrangement has; else the refusal, at place 0
abbrev pub MakesArrangement : ℕ → Bool → ℕ → PackingFlags → Option GridPositions → Period → Result Arrangement FieldFault → Type 0
MakesArrangement t q i f g p (Ok a) = (a.arrangement_type ≡ t) × (a.quincunx_sampling ≡ q) × (a.content_interpretation ≡ i) × (a.flags ≡ f) × (a.grid ≡ g) × (a.period ≡ p)
MakesArrangement t q i f g p (Err e) = (Fitting t q i g → ⊥) × (e ≡ OutOfRange 0)
