-- Hex text: what is written reads back, what each turn of the reader keeps, and how a text grows by a byte.
use Rattle.std.proofs.Common.{◌≡◌, ℕ, zero, suc, ◌+◌, ◌*◌, ◌/◌, ◌%◌, ◌<◌, ◌≤◌, true, false, List, [], ◌∷◌, ◌++◌, length, get_or, take, drop, is_some, IfSome, Some, None, IsUtf8, Option, sym, refl, ap, ◌∙◌, append_assoc, append-nil, arith, rules}
use lib.Utf8.{encode}
use Rattle.std.proofs.lemmas.List.{drop_more, take_more}
use Rattle.std.proofs.lemmas.Bool.{cond-true, cond-false}
use Rattle.std.proofs.lemmas.Bool.Decides.{nat_tests}
use Rattle.std.specs.Int.{is_in_range as within}
use Rattle.std.specs.Char.{is_ascii_whitespace}
use Rattle.std.specs.List.{AllByRecursion}
use Rattle.std.specs.Str.{IsCharBoundary}
use Rattle.std.proofs.lemmas.Str.{IsCharBoundary-after_ascii}
use Rattle.script.specs.Hex.{digit, bytes, not_hex, on_digit, reading, read, numeral, pair, more, written, ReadsBack}

-- a digit that is written is no blank
numeral-no-blank : (v : ℕ) → v < 16 → is_ascii_whitespace (numeral v) ≡ false
numeral-no-blank v h = grind (arith, nat_tests)

-- a digit that is written has its value
digit-numeral : (v : ℕ) → v < 16 → digit (numeral v) ≡ Some v
digit-numeral v h = grind (arith, nat_tests)

-- the two digits of a byte say the byte
halves : (b : ℕ) → b < 256 → (b / 16 < 16) × (b % 16 < 16) × (b / 16 * 16 + b % 16 ≡ b)
halves b h = (omega arith, omega arith, omega arith)

-- the blank that stands before the next byte of a text
abbrev pub gap : List ℕ → List ℕ
gap [] = []
gap (b ∷ bs) = 32 ∷ []

more-push : (xs : List ℕ) (b : ℕ) → more (xs ++ b ∷ []) ≡ more xs ++ (32 ∷ pair b)
more-push [] b = refl
more-push (x ∷ xs) b = ap (λ l. 32 ∷ (pair x ++ l)) (more-push xs b)

-- one more byte at the end of a text
pub written-push : (xs : List ℕ) (b : ℕ) → written (xs ++ b ∷ []) ≡ written xs ++ (gap xs ++ pair b)
written-push [] b = refl
written-push (x ∷ xs) b = ap (λ l. pair x ++ l) (more-push xs b)

-- reading the two digits of a byte
pair_step : (done w rest : List ℕ) (b : ℕ) → b < 256 → reading done None w (pair b ++ rest) ≡ reading (done ++ b ∷ []) None w rest
pair_step done w rest b h =
    let p = halves b h in
    simp (numeral-no-blank (b / 16) p.0, digit-numeral (b / 16) p.0, numeral-no-blank (b % 16) p.1, digit-numeral (b % 16) p.1, p.2)

more-read : (done w bs : List ℕ) → AllByRecursion (λ b. b < 256) bs → reading done None w (more bs) ≡ bytes (done ++ bs)
more-read done w [] h = ap bytes (sym (append-nil done))
more-read done w (b ∷ bs) h =
    pair_step done (pair b ++ more bs) (more bs) b h.0 ∙ more-read (done ++ b ∷ []) (pair b ++ more bs) bs h.1 ∙ ap bytes (append_assoc done (b ∷ []) bs)

-- the text of bytes says those bytes
pub reads-back : ReadsBack
reads-back [] h = refl
reads-back (b ∷ bs) h = pair_step [] (pair b ++ more bs) (more bs) b h.0 ∙ more-read (b ∷ []) (pair b ++ more bs) bs h.1

pub ruleset LAW = (reads-back)

-- what a step reads at the place i of a text
module _ (text : List ℕ) (i : ℕ) (within : i < length text) (done w : List ℕ) where
  here : drop i text ≡ get_or text i 0 ∷ drop (i + 1) text
  here = drop_more text i 0 within

  -- a blank between pairs begins a new word
  pub blank-at : (o : Option ℕ) → is_ascii_whitespace (get_or text i 0) ≡ true → is_some o ≡ false → reading done o w (drop i text) ≡ reading done o (drop (i + 1) text) (drop (i + 1) text)
  blank-at None white none = ap (reading done None w) here ∙ cond-true _ _ _ white
  blank-at (Some h) white none = absurd (search rules)

  -- neither a blank nor a digit
  pub not-hex-at : (o : Option ℕ) → is_ascii_whitespace (get_or text i 0) ≡ false → None ≡ digit (get_or text i 0) → reading done o w (drop i text) ≡ not_hex w
  not-hex-at None dark none = ap (reading done None w) here ∙ cond-false _ _ _ dark ∙ ap (λ x. on_digit x (not_hex w) (λ d. reading done (Some d) w (drop (i + 1) text))) (sym none)
  not-hex-at (Some h) dark none = ap (reading done (Some h) w) here ∙ cond-false _ _ _ dark ∙ ap (λ x. on_digit x (not_hex w) (λ d. reading (done ++ (h * 16 + d) ∷ []) None w (drop (i + 1) text))) (sym none)

  -- the first digit of a pair
  pub first-at : (v : ℕ) → is_ascii_whitespace (get_or text i 0) ≡ false → Some v ≡ digit (get_or text i 0) → reading done None w (drop i text) ≡ reading done (Some v) w (drop (i + 1) text)
  first-at v dark is = ap (reading done None w) here ∙ cond-false _ _ _ dark ∙ ap (λ x. on_digit x (not_hex w) (λ d. reading done (Some d) w (drop (i + 1) text))) (sym is)

  -- the second digit of a pair
  pub second_at : (h v : ℕ) → is_ascii_whitespace (get_or text i 0) ≡ false → Some v ≡ digit (get_or text i 0) → reading done (Some h) w (drop i text) ≡ reading (done ++ (h * 16 + v) ∷ []) None w (drop (i + 1) text)
  second_at h v dark is = ap (reading done (Some h) w) here ∙ cond-false _ _ _ dark ∙ ap (λ x. on_digit x (not_hex w) (λ d. reading (done ++ (h * 16 + d) ∷ []) None w (drop (i + 1) text))) (sym is)

-- a digit's value is below 16
pub digit-small : (c v : ℕ) → Some v ≡ digit c → v < 16
digit-small c v is = grind (arith, nat_tests)

-- from the place i on, behind what is done, the text says what it says as a whole; the digit that stands open is below 16, and the word begins with a character
abbrev pub Sofar : List ℕ → List ℕ → Option ℕ → ℕ → ℕ → Type 0
Sofar text done o word i = (reading done o (drop word text) (drop i text) ≡ read text) × IfSome o (λ h. h < 16) × IsCharBoundary text word

module _ (text : List ℕ) (i : ℕ) (within : i < length text) (done : List ℕ) (word : ℕ) where
  pub blank_turn : (o : Option ℕ) → IsUtf8 text → Sofar text done o word i → is_ascii_whitespace (get_or text i 0) ≡ true → is_some o ≡ false → Sofar text done o (i + 1) (i + 1)
  blank_turn o utf8 s white none =
      let low : get_or text i 0 < 128 = grind (arith, nat_tests) in
      (sym (blank-at text i within done (drop word text) o white none) ∙ s.0, s.1, IsCharBoundary-after_ascii text i utf8 within low)

  pub first-turn : (v : ℕ) → Sofar text done None word i → is_ascii_whitespace (get_or text i 0) ≡ false → Some v ≡ digit (get_or text i 0) → Sofar text done (Some v) word (i + 1)
  first-turn v s dark is = (sym (first-at text i within done (drop word text) v dark is) ∙ s.0, digit-small (get_or text i 0) v is, s.2)

  pub second-turn : (h v : ℕ) → Sofar text done (Some h) word i → is_ascii_whitespace (get_or text i 0) ≡ false → Some v ≡ digit (get_or text i 0) → Sofar text (done ++ (h * 16 + v) ∷ []) None word (i + 1)
  second-turn h v s dark is = (sym (second_at text i within done (drop word text) h v dark is) ∙ s.0, tt, s.2)

-- the same under other names
pub named : (text : List ℕ) {d e : List ℕ} {o p : Option ℕ} {v w : ℕ} (i : ℕ) → d ≡ e → o ≡ p → v ≡ w → Sofar text e p w i → Sofar text d o v i
named text i same-done same-open same_word s = rw (same-done, same-open, same_word) s

gap-take : (bs : List ℕ) (i : ℕ) → 0 < i → i < length bs → gap (take i bs) ≡ 32 ∷ []
gap-take [] i some within = absurd (omega arith)
gap-take (b ∷ bs) zero some within = absurd (omega arith)
gap-take (b ∷ bs) (suc i) some within = refl

-- the text of one byte more
pub written-first : (bs : List ℕ) (i : ℕ) → i ≤ 0 → i < length bs → written (take (i + 1) bs) ≡ written (take i bs) ++ pair (get_or bs i 0)
written-first bs zero none within = ap written (take_more bs 0 0 within)
written-first bs (suc i) none within = absurd (omega arith)

pub written-more : (bs : List ℕ) (i : ℕ) → 0 < i → i < length bs → written (take (i + 1) bs) ≡ (written (take i bs) ++ encode 32) ++ pair (get_or bs i 0)
unfolding encode
written-more bs i some within =
    ap written (take_more bs i 0 within) ∙ written-push (take i bs) (get_or bs i 0)
    ∙ ap (λ l. written (take i bs) ++ (l ++ pair (get_or bs i 0))) (gap-take bs i some within)
    ∙ sym (append_assoc (written (take i bs)) (32 ∷ []) (pair (get_or bs i 0)))
