-- Which lines are skipped, and that each message can be written as a line.
use Rattle.std.proofs.Common.{◌≡◌, ℕ, ◌^◌, ◌<◌, Bool, true, false, eqb, List, [], ◌∷◌, ◌++◌, length, Some, None, decimal, Option, sym, refl, ap, ◌∙◌, subst, inl, inr, ⊎_elim, arith}
use Rattle.std.proofs.lemmas.Fmt.{digits_decimal, digits_value-decimal, decimal_nonempty}
use Rattle.std.proofs.lemmas.Str.Parse.{numerals_by_value, tells_all_ascii_digits, IsNumeralModel}
use Rattle.std.proofs.lemmas.Bool.{both_ways, cond-true, cond-false, cond_both, cases_Bool, and_from, and_parts, or_right, or_cases, lt-ltb, eq-eqb, eqb-true}
use Rattle.std.proofs.lemmas.Bool.Decides.{nat_tests}
use Rattle.std.specs.Str.Parse.{digits_value}
use Rattle.std.specs.Char.{is_ascii_whitespace, is_ascii_digit}
use Rattle.std.specs.Str.{all_ascii_digits}
use Rattle.script.specs.Words.{trimmed, front, rest, word, behind}
use Rattle.script.specs.Hex as hex
use Rattle.script.specs.Hex.{Reading, read, written}
use Rattle.script.specs.Lines.{Saying, skipped, picture, clear, message, unit, look, catch_up, scratch, buffer, frame, show, unknown_call, type_wanted, number_wanted, not_hex, odd_digits, too_many_words, named, number, as_type, type_number, closed, on_reading, on_number, unit_of, call_of, skips, NoCall, NoCallSkipped, MessagesWritten}
use Rattle.script.specs.declared.line.Name.{Name}
use Rattle.script.specs.declared.line.Name.TheVariants as name
use Rattle.script.proofs.Reading.{reads-back}

abbrev is_skipped : Saying → Bool
is_skipped skipped = true
is_skipped (picture new) = false
is_skipped clear = false
is_skipped (message kind payload) = false
is_skipped (unit escaped bytes) = false
is_skipped (look kind n) = false
is_skipped catch_up = false
is_skipped (scratch n) = false
is_skipped (buffer n) = false
is_skipped (frame escaped bytes) = false
is_skipped show = false
is_skipped (unknown_call w) = false
is_skipped (type_wanted call) = false
is_skipped (number_wanted call) = false
is_skipped (not_hex w) = false
is_skipped (odd_digits w) = false
is_skipped (too_many_words w) = false

-- what follows a name is not skipped
closed-kept : (text : List ℕ) (s : Saying) → is_skipped s ≡ false → is_skipped (closed text s) ≡ false
closed-kept text s h = cond_both (eqb (length (word text)) 0) s (too_many_words (word text)) (λ x. is_skipped x ≡ false) (λ _. h) (λ _. refl)

number-kept : (o : Option ℕ) (s : Saying) (f : ℕ → Saying) → is_skipped s ≡ false → ((n : ℕ) → is_skipped (f n) ≡ false) → is_skipped (on_number o s f) ≡ false
number-kept None s f h k = h
number-kept (Some n) s f h k = k n

reading-kept : (r : Reading) (f : List ℕ → Saying) → ((bs : List ℕ) → is_skipped (f bs) ≡ false) → is_skipped (on_reading r f) ≡ false
reading-kept (hex.bytes bs) f k = k bs
reading-kept (hex.not_hex t) f k = refl
reading-kept (hex.odd t) f k = refl

unit_kept : (text : List ℕ) (f : Bool → List ℕ → Saying) → ((b : Bool) (bs : List ℕ) → is_skipped (f b bs) ≡ false) → is_skipped (unit_of text f) ≡ false
unit_kept text f k = cond_both _ _ _ (λ x. is_skipped x ≡ false) (λ _. reading-kept (read (behind text)) (f true) (k true)) (λ _. reading-kept (read text) (f false) (k false))

call_kept : (o : Option Name) (w text : List ℕ) → is_skipped (call_of o w text) ≡ false
call_kept None w text = refl
call_kept (Some name.Picture) w text = cond_both _ _ _ (λ x. is_skipped x ≡ false) (λ _. closed-kept (behind text) (picture true) refl) (λ _. closed-kept text (picture false) refl)
call_kept (Some name.Clear) w text = closed-kept text clear refl
call_kept (Some name.Message) w text = number-kept (type_number (word text)) _ _ refl (λ kind. reading-kept (read (behind text)) (message kind) (λ bs. refl))
call_kept (Some name.Unit) w text = unit_kept text unit (λ b bs. refl)
call_kept (Some name.CatchUp) w text = closed-kept text catch_up refl
call_kept (Some name.Scratch) w text = number-kept (number (word text)) _ _ refl (λ n. closed-kept (behind text) (scratch n) refl)
call_kept (Some name.Look) w text =
    number-kept (type_number (word text)) _ _ refl (λ kind. number-kept (number (word (behind text))) _ _ refl (λ n. closed-kept (behind (behind text)) (look kind n) refl))
call_kept (Some name.Buffer) w text = number-kept (number (word text)) _ _ refl (λ n. closed-kept (behind text) (buffer n) refl)
call_kept (Some name.Frame) w text = unit_kept text frame (λ b bs. refl)
call_kept (Some name.Show) w text = closed-kept text show refl

-- the first word is empty or begins with # just where the line has no call
word_blank : (c : ℕ) (cs : List ℕ) → is_ascii_whitespace c ≡ true → word (c ∷ cs) ≡ word cs
word_blank c cs white = ap front (cond-true _ _ _ white)

word-no-blank : (c : ℕ) (cs : List ℕ) → is_ascii_whitespace c ≡ false → word (c ∷ cs) ≡ c ∷ front cs
word-no-blank c cs dark = ap front (cond-false _ _ _ dark) ∙ cond-false _ _ _ dark

no-call-skips : (text : List ℕ) → NoCall text → skips (word text) ≡ true
no-call-skips [] h = refl
no-call-skips (c ∷ cs) (inl mark) =
    let dark : is_ascii_whitespace c ≡ false = ap is_ascii_whitespace mark in
    ap skips (word-no-blank c cs dark) ∙ or_right _ _ (eq-eqb c 35 mark)
no-call-skips (c ∷ cs) (inr h) = ap skips (word_blank c cs h.0) ∙ no-call-skips cs h.1

skips-no-call : (text : List ℕ) → skips (word text) ≡ true → NoCall text
skips-no-call [] h = tt
skips-no-call (c ∷ cs) h =
    ⊎_elim
    (λ white. inr (white, skips-no-call cs (sym (ap skips (word_blank c cs white)) ∙ h)))
    (λ dark. inl (⊎_elim (λ none. absurd (omega (arith, eqb-true _ _ none))) (λ mark. eqb-true c 35 mark) (or_cases (eqb (length (c ∷ front cs)) 0) (eqb c 35) (sym (ap skips (word-no-blank c cs dark)) ∙ h))))
    (cases_Bool (is_ascii_whitespace c))

pub no-call-skipped : NoCallSkipped
no-call-skipped text = (
  λ is.
      ⊎_elim (skips-no-call text)
      (λ goes. absurd (both_ways true (sym (ap is_skipped is) ∙ ap is_skipped (cond-false _ _ _ goes) ∙ call_kept (named (word text)) (word text) (behind text)) refl))
      (cases_Bool (skips (word text))),
  λ h. cond-true _ _ _ (no-call-skips text h),
)

-- a word of digits between blanks
digit-no-blank : (c : ℕ) → is_ascii_digit c ≡ true → is_ascii_whitespace c ≡ false
digit-no-blank c h = grind (arith, nat_tests)

front-digits : (ds more : List ℕ) → all_ascii_digits ds ≡ true → front (ds ++ 32 ∷ more) ≡ ds
front-digits [] more h = refl
front-digits (d ∷ ds) more h =
    let p = and_parts (is_ascii_digit d) (all_ascii_digits ds) h in
    cond-false _ _ _ (digit-no-blank d p.0) ∙ ap (λ l. d ∷ l) (front-digits ds more p.1)

rest-digits : (ds more : List ℕ) → all_ascii_digits ds ≡ true → rest (ds ++ 32 ∷ more) ≡ 32 ∷ more
rest-digits [] more h = refl
rest-digits (d ∷ ds) more h =
    let p = and_parts (is_ascii_digit d) (all_ascii_digits ds) h in
    cond-false _ _ _ (digit-no-blank d p.0) ∙ rest-digits ds more p.1

trimmed-digits : (ds more : List ℕ) → all_ascii_digits ds ≡ true → 0 < length ds → trimmed (ds ++ 32 ∷ more) ≡ ds ++ 32 ∷ more
trimmed-digits [] more h some = absurd (omega arith)
trimmed-digits (d ∷ ds) more h some = cond-false _ _ _ (digit-no-blank d (and_parts (is_ascii_digit d) (all_ascii_digits ds) h).0)

own : IsNumeralModel (λ ds. all_ascii_digits ds ≡ true) (digits_value 10)
own = numerals_by_value (λ ds. all_ascii_digits ds ≡ true) tells_all_ascii_digits

-- the text of a number is that number
number-decimal : (n : ℕ) → n < 2 ^ 64 → number (decimal n) ≡ Some n
number-decimal n small =
    let same = digits_value-decimal own n small in
    cond-true _ _ _ (and_from _ _ (digits_decimal own n small) (and_from _ _ (lt-ltb _ _ (decimal_nonempty n small)) (lt-ltb _ _ (subst (λ v. v < 2 ^ 64) (sym same) small)))) ∙ ap Some same

type-decimal : (n : ℕ) → n < 2 ^ 32 → type_number (decimal n) ≡ Some n
type-decimal n small = ap as_type (number-decimal n (omega arith)) ∙ cond-true _ _ _ (lt-ltb n (2 ^ 32) small)

pub messages-written : MessagesWritten
messages-written kind small payload fits =
    let big : kind < 2 ^ 64 = omega arith in
    let ds = decimal kind in
    let more = written payload in
    let digits = digits_decimal own kind big in
    let trims = trimmed-digits ds more digits (decimal_nonempty kind big) in
    let first : word (32 ∷ (ds ++ 32 ∷ more)) ≡ ds = ap front trims ∙ front-digits ds more digits in
    let second : behind (32 ∷ (ds ++ 32 ∷ more)) ≡ 32 ∷ more = ap rest trims ∙ rest-digits ds more digits in
    ap (λ o. on_number o (type_wanted name.Message) (λ k. on_reading (read (behind (32 ∷ (ds ++ 32 ∷ more)))) (message k))) (ap type_number first ∙ type-decimal kind small)
    ∙ ap (λ l. on_reading (read l) (message kind)) second
    ∙ ap (λ r. on_reading r (message kind)) (reads-back payload fits)

pub ruleset LAWS = (no-call-skipped, messages-written)
