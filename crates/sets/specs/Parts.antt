-- The parts of kinds, framed one after the other: how much they take, and a buffer that they are written to.
use Rattle.std.specs.Prelude.{ℕ, ◌+◌, false, cond, List, [], ◌∷◌, length, Some, None, Option, nat_lt, slice_set}
use Rattle.layouts.specs.Frames.{Message, framed, under}
use Rattle.units.specs.Units.{and_then}
use Rattle.units.specs.Writings.{put, framed_length, fits}
use Rattle.kinds.specs.declared.kind.Kind.{Ghosts}
use Rattle.book.specs.Models.{Models, empty, first, both, Meanings}
use Rattle.sets.specs.declared.parts.Size.{Size}

-- the payloads of the part of a kind
abbrev pub part : {K : Type 0} (kind : Ghosts K) → K → List (List ℕ)
part kind k = kind.model.part (kind.meaning k)

-- a size with a message of a type and a length more; none past 65,535
abbrev pub more : Size → ℕ → ℕ → Option Size
more s t n = cond (cond (fits t n s.bytes 65535) (nat_lt s.messages 65535) false) (Some (record { bytes = s.bytes + framed_length t n; messages = s.messages + 1 })) None

-- a size with messages more
abbrev pub sized : List Message → Size → Option Size
sized [] s = Some s
sized (m ∷ ms) s = and_then (more s m.0 (length m.1)) (sized ms)

-- a size with the parts of all kinds more
abbrev pub sizes : (ks : Models) → Meanings ks → Size → Option Size
sizes empty m s = Some s
sizes (first k ks) m s = and_then (sized (under k.number (k.part m.0)) s) (sizes ks m.1)
sizes (both ks js) m s = and_then (sizes ks m.0 s) (sizes js m.1)

-- from the place behind what was written, if it all fits
abbrev pub behind : Option ℕ → List ℕ → (ℕ → List ℕ → Option ℕ × List ℕ) → Option ℕ × List ℕ
behind None buffer f = (None, buffer)
behind (Some at) buffer f = f at buffer

-- messages written from a place on, up to the first that does not fit: the place behind them, and what the buffer holds
abbrev pub written : List Message → ℕ → List ℕ → Option ℕ × List ℕ
written [] at buffer = (Some at, buffer)
written (m ∷ ms) at buffer = cond (fits m.0 (length m.1) at (length buffer)) (written ms (at + length (framed m)) (put at (framed m) buffer)) (None, buffer)

-- the parts of all kinds, the same way
abbrev pub writes : (ks : Models) → Meanings ks → ℕ → List ℕ → Option ℕ × List ℕ
writes empty m at buffer = (Some at, buffer)
writes (first k ks) m at buffer = let w = written (under k.number (k.part m.0)) at buffer in behind w.0 w.1 (writes ks m.1)
writes (both ks js) m at buffer = let w = writes ks m.0 at buffer in behind w.0 w.1 (writes js m.1)

-- the last byte of a unit written behind its messages, if they all fit
abbrev pub closed : Option ℕ × List ℕ → Option ℕ × List ℕ
closed w = behind w.0 w.1 (λ at buffer. cond (nat_lt at (length buffer)) (Some (at + 1), slice_set buffer at 128) (None, buffer))
