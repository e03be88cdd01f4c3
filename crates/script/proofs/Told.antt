-- What a line says, by its words.
use Rattle.std.proofs.Common.{◌≡◌, ℕ, ◌^◌, true, ◌&&◌, ltb, List, length, get_or, Some, Ok, Err, Result, sym, ap, ◌∙◌}
use Rattle.std.proofs.lemmas.Str.Parse.{numerals_by_value, tells_all_ascii_digits, parse_plain}
use Rattle.std.proofs.lemmas.Str.Pattern.{starts_char}
use Rattle.std.proofs.lemmas.Bool.{cond-true, cond-false, false_from_ne_true, and_from, and_parts, lt-ltb, ltb-true}
use Rattle.std.specs.Str.Parse.{digits_value, ParsesUnsigned}
use Rattle.std.specs.Result.{result_ok}
use Rattle.std.specs.Str.{all_ascii_digits}
use Rattle.script.specs.Words.{word, behind}
use Rattle.script.specs.Lines.{unit, frame, look, type_wanted, refused, number, type_number, on_number, look_of, unit_of, TellsUnit, numbered}
use Rattle.script.specs.declared.line.LineFault.{LineFault}
use Rattle.script.specs.declared.line.Name.TheVariants as name

-- what `parse` reads is the decimal number
pub decimal-is : {E : Type 0} (w : List ℕ) (r : Result ℕ E) → ParsesUnsigned 64 10 w r → (get_or w 0 0 ≡ 43 → ⊥) → result_ok r ≡ number w
decimal-is {E} w (Ok n) h plain =
    let p = parse_plain (numerals_by_value (λ ds. all_ascii_digits ds ≡ true) tells_all_ascii_digits) {E = E} 64 w (Ok n) h plain in
    ap Some p.1 ∙ sym (cond-true _ _ _ (and_from _ _ p.0.0 (and_from _ _ (lt-ltb _ _ p.0.1) (lt-ltb _ _ p.0.2))))
decimal-is {E} w (Err e) h plain =
    let never = parse_plain (numerals_by_value (λ ds. all_ascii_digits ds ≡ true) tells_all_ascii_digits) {E = E} 64 w (Err e) h plain in
    sym (cond-false _ _ _ (false_from_ne_true (all_ascii_digits w && (ltb 0 (length w) && ltb (digits_value 10 w) (2 ^ 64)))
    (λ is. let p = and_parts _ _ is in let q = and_parts _ _ p.1 in never (p.0, ltb-true _ _ q.0, ltb-true _ _ q.1))))

-- whether a word begins with a sign, and its number
pub ruleset NUMBERS = (starts_char, decimal-is)

-- behind its type, a look has one number
pub look_is : (text : List ℕ) (kind : ℕ) → type_number (word text) ≡ Some kind → look_of text ≡ numbered name.Look (look kind) (behind text)
look_is text kind is = ap (λ o. on_number o (type_wanted name.Look) (λ k. numbered name.Look (look k) (behind text))) is

-- what a call with a unit is refused by
pub unit_refused : (text : List ℕ) (e : LineFault) → TellsUnit (unit_of text) (Err e) → refused e (unit_of text unit) ≡ unit_of text unit
unit_refused text e h = sym (h unit)

pub frame_refused : (text : List ℕ) (e : LineFault) → TellsUnit (unit_of text) (Err e) → refused e (unit_of text frame) ≡ unit_of text frame
frame_refused text e h = sym (h frame)

pub ruleset UNITS = (unit_refused, frame_refused)
