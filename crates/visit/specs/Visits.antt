-- What a visit of the code stands for in the call book.
use Rattle.std.specs.Prelude.{true, List, Option, Some, None}
use Rattle.layouts.specs.Frames.{Message}
use Rattle.sets.specs.declared.list.Kinds.{Ghosts}
use Rattle.visit.specs.declared.visit.Visit.{Visit}
use Rattle.book.specs.Models.{messages}
use Rattle.book.specs.Book.{Book, fresh}

-- before the first picture nothing is in force
abbrev pub since_picture : {L : Type 0} (kinds : Ghosts L) → Option L → Book kinds.models
since_picture kinds None = fresh kinds.models
since_picture kinds (Some ks) = (true, kinds.meanings ks)

-- whether a picture has begun in it, and what is in force of each kind of its set
abbrev pub book : {S L : Type 0} (kinds : Ghosts L) → Visit S L → Book kinds.models
book kinds v = since_picture kinds v.kinds

-- what is in force of each kind of a list, as messages
abbrev pub messages_of : {L : Type 0} (kinds : Ghosts L) → L → List Message
messages_of kinds ks = messages kinds.models (kinds.meanings ks)
