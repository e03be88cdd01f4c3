-- Lines of a script: what each says.
use Rattle.std.specs.Prelude.{◌≡◌, ℕ, ◌^◌, ◌<◌, Bool, true, false, cond, ◌&&◌, ◌||◌, ◌⊎◌, List, [], ◌∷◌, ◌++◌, length, Some, None, Ok, Err, vec_items, codes, decimal, Option, Result, ◌==◌, nat_lt, slice_index}
use Rattle.std.specs.Str.Parse.{digits_value}
use Rattle.std.specs.Char.{is_ascii_whitespace}
use Rattle.std.specs.List.{AllByRecursion}
use Rattle.std.specs.Str.{bytes_eq, all_ascii_digits}
use Rattle.script.specs.Words.{word, behind}
use Rattle.script.specs.Hex as hex
use Rattle.script.specs.Hex.{Reading}
use Rattle.script.specs.declared.line.Name.{Name}
use Rattle.script.specs.declared.line.Name.TheVariants as name
use Rattle.script.specs.declared.line.UnitBytes.{UnitBytes}
use Rattle.script.specs.declared.line.UnitBytes.TheVariants.{Clean, Escaped}
use Rattle.script.specs.declared.line.Line.{Line}
use Rattle.script.specs.declared.line.Line.TheVariants as line
use Rattle.script.specs.declared.line.LineFault.{LineFault}
use Rattle.script.specs.declared.line.LineFault.TheVariants as fault

-- what a line says: that it is skipped, a call, or why it is refused, with the word at fault
pub data Saying : Type 0 where
  skipped : Saying
  picture : Bool → Saying
  clear : Saying
  message : ℕ → List ℕ → Saying
  unit : Bool → List ℕ → Saying
  look : ℕ → ℕ → Saying
  catch_up : Saying
  scratch : ℕ → Saying
  buffer : ℕ → Saying
  frame : Bool → List ℕ → Saying
  show : Saying
  unknown_call : List ℕ → Saying
  type_wanted : Name → Saying
  number_wanted : Name → Saying
  not_hex : List ℕ → Saying
  odd_digits : List ℕ → Saying
  too_many_words : List ℕ → Saying

-- what a call says of a unit: whether it is escaped, and its bytes
abbrev pub of_unit : UnitBytes → (Bool → List ℕ → Saying) → Saying
of_unit (Clean v) call = call false (vec_items v)
of_unit (Escaped v) call = call true (vec_items v)

-- what a refusal tells of a line that says s: the same, where memory fails
abbrev pub refused : LineFault → Saying → Saying
refused (fault.UnknownCall w) s = unknown_call w.now
refused (fault.TypeWanted n) s = type_wanted n
refused (fault.NumberWanted n) s = number_wanted n
refused (fault.NotHex w) s = not_hex w.now
refused (fault.OddDigits w) s = odd_digits w.now
refused (fault.TooManyWords w) s = too_many_words w.now
refused fault.Memory s = s

-- an answer tells what a line says, unless memory fails
abbrev pub Says : Saying → Result Line LineFault → Type 0
Says s (Ok line.Skipped) = s ≡ skipped
Says s (Ok (line.Picture new)) = s ≡ picture new
Says s (Ok line.Clear) = s ≡ clear
Says s (Ok (line.Message kind payload)) = s ≡ message kind (vec_items payload)
Says s (Ok (line.Unit u)) = s ≡ of_unit u unit
Says s (Ok (line.Look kind n)) = s ≡ look kind n
Says s (Ok line.CatchUp) = s ≡ catch_up
Says s (Ok (line.Scratch n)) = s ≡ scratch n
Says s (Ok (line.Buffer n)) = s ≡ buffer n
Says s (Ok (line.Frame u)) = s ≡ of_unit u frame
Says s (Ok line.Show) = s ≡ show
Says s (Err e) = s ≡ refused e s

-- the call of a name
abbrev pub named : List ℕ → Option Name
named w =
    cond (bytes_eq w (codes "picture")) (Some name.Picture)
    (cond (bytes_eq w (codes "clear")) (Some name.Clear)
    (cond (bytes_eq w (codes "message")) (Some name.Message)
    (cond (bytes_eq w (codes "unit")) (Some name.Unit)
    (cond (bytes_eq w (codes "look")) (Some name.Look)
    (cond (bytes_eq w (codes "catch-up")) (Some name.CatchUp)
    (cond (bytes_eq w (codes "scratch")) (Some name.Scratch)
    (cond (bytes_eq w (codes "buffer")) (Some name.Buffer)
    (cond (bytes_eq w (codes "frame")) (Some name.Frame)
    (cond (bytes_eq w (codes "show")) (Some name.Show) None)))))))))

-- the number that a word of decimal digits stands for, below 2 ^ 64
abbrev pub number : List ℕ → Option ℕ
number w = cond (all_ascii_digits w && (nat_lt 0 (length w) && nat_lt (digits_value 10 w) (2 ^ 64))) (Some (digits_value 10 w)) None

-- a number that is a type, below 2 ^ 32
abbrev pub as_type : Option ℕ → Option ℕ
as_type None = None
as_type (Some n) = cond (nat_lt n (2 ^ 32)) (Some n) None

-- the type that a word of decimal digits stands for
abbrev pub type_number : List ℕ → Option ℕ
type_number w = as_type (number w)

-- what a line says, where no word follows it
abbrev pub closed : List ℕ → Saying → Saying
closed text s = cond (length (word text) == 0) s (too_many_words (word text))

-- what a line says of the bytes that follow
abbrev pub on_reading : Reading → (List ℕ → Saying) → Saying
on_reading (hex.bytes bs) f = f bs
on_reading (hex.not_hex t) f = not_hex (word t)
on_reading (hex.odd t) f = odd_digits (word t)

-- what a line says of a number or its absence
abbrev pub on_number : Option ℕ → Saying → (ℕ → Saying) → Saying
on_number None s f = s
on_number (Some n) s f = f n

-- `picture` or `picture new`
abbrev pub picture_of : List ℕ → Saying
picture_of text = cond (bytes_eq (word text) (codes "new")) (closed (behind text) (picture true)) (closed text (picture false))

-- `message TYPE HEX`
abbrev pub message_of : List ℕ → Saying
message_of text = on_number (type_number (word text)) (type_wanted name.Message) (λ kind. on_reading (hex.read (behind text)) (message kind))

-- one number and no more, as in `buffer N`
abbrev pub numbered : Name → (ℕ → Saying) → List ℕ → Saying
numbered name call text = on_number (number (word text)) (number_wanted name) (λ n. closed (behind text) (call n))

-- `look TYPE N`
abbrev pub look_of : List ℕ → Saying
look_of text = on_number (type_number (word text)) (type_wanted name.Look) (λ kind. numbered name.Look (look kind) (behind text))

-- a call with a unit, as `unit HEX` or `unit escaped HEX`
abbrev pub unit_of : List ℕ → (Bool → List ℕ → Saying) → Saying
unit_of text call = cond (bytes_eq (word text) (codes "escaped")) (on_reading (hex.read (behind text)) (call true)) (on_reading (hex.read text) (call false))

-- `frame HEX` or `frame escaped HEX`
abbrev pub frame_of : List ℕ → Saying
frame_of text = unit_of text frame

-- an answer tells the one number that a text holds, whatever call it is for
abbrev pub TellsNumber : ((ℕ → Saying) → Saying) → Result ℕ LineFault → Type 0
TellsNumber text (Ok n) = (call : ℕ → Saying) → text call ≡ call n
TellsNumber text (Err e) = (call : ℕ → Saying) → Says (text call) (Err e)

-- an answer tells the unit that a text holds, whatever call it is for, unless memory fails
abbrev pub TellsUnit : ((Bool → List ℕ → Saying) → Saying) → Result UnitBytes LineFault → Type 0
TellsUnit text (Ok u) = (call : Bool → List ℕ → Saying) → text call ≡ of_unit u call
TellsUnit text (Err e) = (call : Bool → List ℕ → Saying) → Says (text call) (Err e)

-- a call by its name w, with the text behind it
abbrev pub call_of : Option Name → List ℕ → List ℕ → Saying
call_of None w text = unknown_call w
call_of (Some name.Picture) w text = picture_of text
call_of (Some name.Clear) w text = closed text clear
call_of (Some name.Message) w text = message_of text
call_of (Some name.Unit) w text = unit_of text unit
call_of (Some name.Look) w text = look_of text
call_of (Some name.CatchUp) w text = closed text catch_up
call_of (Some name.Scratch) w text = numbered name.Scratch scratch text
call_of (Some name.Buffer) w text = numbered name.Buffer buffer text
call_of (Some name.Frame) w text = frame_of text
call_of (Some name.Show) w text = closed text show

-- a line is skipped that has no word, or whose first word begins with #
abbrev pub skips : List ℕ → Bool
skips w = length w == 0 || slice_index w 0 == 35

-- what a line says
abbrev pub saying : List ℕ → Saying
saying text = cond (skips (word text)) skipped (call_of (named (word text)) (word text) (behind text))

-- a line without a call: blanks to its end, or to a #
abbrev pub NoCall : List ℕ → Type 0
NoCall [] = Unit {0}
NoCall (c ∷ cs) = (c ≡ 35) ⊎ ((is_ascii_whitespace c ≡ true) × NoCall cs)

-- just the lines without a call are skipped
abbrev pub NoCallSkipped : Type 0
NoCallSkipped = (text : List ℕ) → (saying text ≡ skipped → NoCall text) × (NoCall text → saying text ≡ skipped)

-- each message can be written as a line: its type as a decimal number, its payload as hex
abbrev pub MessagesWritten : Type 0
MessagesWritten = (kind : ℕ) → kind < 2 ^ 32 → (payload : List ℕ) → AllByRecursion (λ b. b < 256) payload → saying (codes "message " ++ (decimal kind ++ 32 ∷ hex.written payload)) ≡ message kind payload
