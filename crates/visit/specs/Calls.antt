-- A call of the code, by its arguments alone; and what serving a list of them comes to.
use Rattle.std.specs.Prelude.{◌≡◌, List, map, Some, vec_items, Option}
use Rattle.units.specs.declared.source.Source.{Ghosts}
use Rattle.book.specs.declared.answer.Answer.{Answer}
use Rattle.book.specs.Models.{Models}
use Rattle.book.specs.Book.{Asked, picture, clear, message, unit, look, catch_up, Book, run, replies}
use Rattle.book.specs.Trust.{Fits, Trusted}
use Rattle.visit.specs.declared.serve.Call.{Call}
use Rattle.visit.specs.declared.serve.Call.TheVariants.{Picture, Clear, Message, Unit, Look, CatchUp}
use Rattle.visit.specs.declared.serve.Request.{Request}

-- a source goes by the bytes to come and by whether a fault follows
abbrev pub asked : {X : Type 0} → Ghosts X → Call X → Asked
asked source (Picture mark) = picture mark
asked source Clear = clear
asked source (Message t payload) = message t (vec_items payload)
asked source (Unit x scratch) = unit (source.coming x) (source.faulty x) (vec_items scratch)
asked source (Look t n buffer) = look t n (vec_items buffer)
asked source (CatchUp buffer) = catch_up (vec_items buffer)

-- what a request asks
abbrev pub asks : {X : Type 0} → Ghosts X → Request X → Asked
asks source r = asked source r.call

-- what a request holds that was served: the answer, and its arguments
abbrev pub holds : {X : Type 0} → Ghosts X → Request X → Option Answer × Asked
holds source r = (r.answer, asked source r.call)

-- a reply of the book, as a request holds it
abbrev pub answered : Answer × Asked → Option Answer × Asked
answered r = (Some r.0, r.1)

-- a visit of the book b that was handed a list of calls, is of the book c then, and leaves the requests like this
pub record Served (ks : Models) (b c : Book ks) (calls : List Asked) (left : List (Option Answer × Asked)) : Type 0 where
  -- the call book of the calls tells what is in force after them
  pub book : c ≡ run ks b calls
  -- every answer, and every scratch, buffer and source, is what the book replies
  pub replied : left ≡ map answered (replies ks b calls)
  -- the calls carry bytes
  pub fit : Fits calls
  -- and of every list of calls of this set the theorem holds
  pub trusted : Trusted ks
