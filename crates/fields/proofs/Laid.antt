-- What is laid over a list: part after part, and inside a part.
use Rattle.std.proofs.Common.{◌≡◌, ℕ, zero, suc, ◌+◌, ◌-◌, ◌*◌, ◌/◌, ◌%◌, ◌^◌, ◌<◌, ◌≤◌, min, max, Bool, List, [], ◌∷◌, ◌++◌, length, get_or, take, drop, set, sym, ap, ◌∙◌, subst, append_assoc, mod-lt, arith, length-append, length-drop, take-append-drop, length-take, drop-drop, take_at, drop_at, pow_pos, pow_mono}
use lib.Bits.{bit_and, bit_or, and_mask, or_shifted}
use lib.Seq.{drop-append-add, take-append-add, take-append-le, drop-append-le}
use Rattle.std.proofs.lemmas.Nat.{one_shl, shl_whole, shl_below, shr_below}
use Rattle.layouts.specs.Bits.{word, bits_of}
use Rattle.fields.specs.Writing.{laid}
use Rattle.layouts.proofs.Numbers.{length-word, length-bits, bits-cons}
use Rattle.layouts.proofs.Words.{word_split, word-join, word_mod}

module _ {A : Type 0} where
  pub length-laid : (p : ℕ) (xs all : List A) → p + length xs ≤ length all → length (laid p xs all) ≡ length all
  length-laid p xs all h = simp (length-append, length-take, length-drop) (omega arith)

  pub laid_none : (p : ℕ) (all : List A) → laid p [] all ≡ all
  laid_none p all = ap (λ n. take p all ++ drop n all) (omega arith) ∙ take-append-drop p all

  -- one part behind the other is both at once
  pub laid-laid : (p : ℕ) (xs ys all : List A) → p + length xs ≤ length all → laid (p + length xs) ys (laid p xs all) ≡ laid p (xs ++ ys) all
  laid-laid p xs ys all h =
      let front = take p all ++ xs in
      let rest = drop (p + length xs) all in
      let n : length front ≡ p + length xs = simp length-append (omega (arith, length-take p all)) in
      let e : laid p xs all ≡ front ++ rest = sym (append_assoc (take p all) xs rest) in
      let d : drop (p + length xs + length ys) (front ++ rest) ≡ drop (p + length (xs ++ ys)) all =
      ap (λ k. drop (k + length ys) (front ++ rest)) (sym n) ∙ drop-append-add front rest (length ys) ∙ drop-drop (length ys) (p + length xs) all
      ∙ ap (λ k. drop k all) (omega (arith, length-append xs ys)) in
      ap (laid (p + length xs) ys) e ∙ (λ i. take_at front rest (p + length xs) n i ++ (ys ++ d i)) ∙ append_assoc (take p all) xs (ys ++ drop (p + length (xs ++ ys)) all)
      ∙ ap (λ l. take p all ++ l) (sym (append_assoc xs ys (drop (p + length (xs ++ ys)) all)))

  -- behind a part that stays
  pub laid-behind : (bs : List A) (p : ℕ) (xs all : List A) → laid (length bs + p) xs (bs ++ all) ≡ bs ++ laid p xs all
  laid-behind bs p xs all =
      let d : drop (length bs + p + length xs) (bs ++ all) ≡ drop (p + length xs) all = ap (λ k. drop k (bs ++ all)) (omega arith) ∙ drop-append-add bs all (p + length xs) in
      (λ i. take-append-add bs all p i ++ (xs ++ d i)) ∙ append_assoc bs (take p all) (xs ++ drop (p + length xs) all)

  -- before a part that stays
  laid-before : (p : ℕ) (xs all bs : List A) → p + length xs ≤ length all → laid p xs (all ++ bs) ≡ laid p xs all ++ bs
  laid-before p xs all bs h =
      let e : laid p xs all ++ bs ≡ take p all ++ (xs ++ (drop (p + length xs) all ++ bs)) =
      append_assoc (take p all) (xs ++ drop (p + length xs) all) bs ∙ ap (λ l. take p all ++ l) (append_assoc xs (drop (p + length xs) all) bs) in
      let t = take-append-le p all bs (omega arith) in
      let d = drop-append-le (p + length xs) all bs h in
      (λ i. t i ++ (xs ++ d i)) ∙ sym e

-- bits that are laid over a byte of several
pub bits-set : (bs : List ℕ) (i k b : ℕ) (xs : List Bool) → i < length bs → k + length xs ≤ 8 → word 8 b ≡ laid k xs (word 8 (get_or bs i 0)) → bits_of (set bs i b) ≡ laid (8 * i + k) xs (bits_of bs)
bits-set [] i k b xs h f e = absurd (omega arith)
bits-set (x ∷ bs) zero k b xs h f e =
    bits-cons b bs ∙ ap (λ l. l ++ bits_of bs) e ∙ sym (laid-before k xs (word 8 x) (bits_of bs) (omega (arith, length-word 8 x)))
    ∙ ap (λ n. laid n xs (word 8 x ++ bits_of bs)) (omega arith) ∙ ap (laid (8 * 0 + k) xs) (sym (bits-cons x bs))
bits-set (x ∷ bs) (suc i) k b xs h f e =
    let n : length (word 8 x) + (8 * i + k) ≡ 8 * suc i + k = omega (arith, length-word 8 x) in
    bits-cons x (set bs i b) ∙ ap (λ l. word 8 x ++ l) (bits-set bs i k b xs (omega arith) f e) ∙ sym (laid-behind (word 8 x) (8 * i + k) xs (bits_of bs))
    ∙ (λ j. laid (n j) xs (sym (bits-cons x bs) j))

-- a byte of which the middle is replaced
pub patched-is : (b low n v : ℕ) → low + n ≤ 8 → b < 256
    → word 8
    (bit_and
    (bit_or
    ((bit_or ((b / 2 ^ (low + n) * 2 ^ n) % 2 ^ 64) (bit_and v ((1 * 2 ^ n) % 2 ^ 64 - 1)) * 2 ^ low) % 2 ^ 64)
    (bit_and b ((1 * 2 ^ low) % 2 ^ 64 - 1)))
    255)
    ≡ laid (8 - (low + n)) (word n v) (word 8 b)
patched-is b low n v h small =
    let k = 8 - (low + n) in
    let top = b / 2 ^ (low + n) in
    let few : n ≤ 8 = omega arith in
    let whole : k + (low + n) ≡ 8 = omega arith in
    let parts : k + n + low ≡ 8 = omega arith in
    let byte : b < 2 ^ (k + (low + n)) = subst (λ x. b < 2 ^ x) (sym whole) small in
    let high_part : top < 2 ^ k = shr_below b k (low + n) byte in
    let less : 2 ^ k ≤ 2 ^ 8 = let f : k ≤ 8 = omega arith in pow_mono f in
    let upper = top * 2 ^ n + v % 2 ^ n in
    let rest = mod-lt v (pow_pos n) in
    let last = mod-lt b (pow_pos low) in
    let mask : (m w : ℕ) → w ≤ 8 → bit_and m ((1 * 2 ^ w) % 2 ^ 64 - 1) ≡ m % 2 ^ w =
    λ m w f. ap (λ x. bit_and m (x - 1)) (one_shl w 64 (omega arith)) ∙ and_mask m w in
    let up : bit_or ((top * 2 ^ n) % 2 ^ 64) (bit_and v ((1 * 2 ^ n) % 2 ^ 64 - 1)) ≡ upper =
    (λ i. bit_or (shl_whole top 8 n 64 (omega arith) (omega arith) i) (mask v n few i)) ∙ or_shifted top n (v % 2 ^ n) rest in
    let wide : upper < 2 ^ 17 =
    let a = shl_below top 8 n (omega arith) in
    let f : 8 + n ≤ 16 = omega arith in
    let c : 2 ^ (8 + n) ≤ 2 ^ 16 = pow_mono f in
    let d : 2 ^ n ≤ 2 ^ 8 = pow_mono few in
    omega arith in
    let joined = upper * 2 ^ low + b % 2 ^ low in
    let all : bit_or ((bit_or ((top * 2 ^ n) % 2 ^ 64) (bit_and v ((1 * 2 ^ n) % 2 ^ 64 - 1)) * 2 ^ low) % 2 ^ 64) (bit_and b ((1 * 2 ^ low) % 2 ^ 64 - 1)) ≡ joined =
    (λ i. bit_or ((up i * 2 ^ low) % 2 ^ 64) (mask b low (omega arith) i)) ∙ ap (λ x. bit_or x (b % 2 ^ low)) (shl_whole upper 17 low 64 wide (omega arith)) ∙ or_shifted upper low (b % 2 ^ low) last in
    let split : word 8 joined ≡ (word k top ++ word n v) ++ word low b =
    ap (λ w. word w joined) (sym parts) ∙ word-join (k + n) low upper (b % 2 ^ low) last
    ∙ (λ i. (word-join k n top (v % 2 ^ n) rest ∙ ap (λ l. word k top ++ l) (word_mod n v)) i ++ word_mod low b i) in
    let front : take k (word 8 b) ≡ word k top =
    ap (take k) (ap (λ w. word w b) (sym whole) ∙ word_split k (low + n) b) ∙ take_at (word k top) (word (low + n) b) k (length-word k top) in
    let back : drop (k + length (word n v)) (word 8 b) ≡ word low b =
    ap (drop (k + length (word n v))) (ap (λ w. word w b) (sym parts) ∙ word_split (k + n) low b)
    ∙ drop_at (word (k + n) (b / 2 ^ low)) (word low b) (k + length (word n v)) (length-word (k + n) (b / 2 ^ low) ∙ ap (λ x. k + x) (sym (length-word n v))) in
    ap (λ x. word 8 (bit_and x 255)) all ∙ ap (word 8) (and_mask joined 8) ∙ word_mod 8 joined ∙ split ∙ append_assoc (word k top) (word n v) (word low b)
    ∙ sym (λ i. front i ++ (word n v ++ back i))

-- ---- what a writer does byte by byte

-- a turn of the loop: the bits from `from` to `to` of those up to `end` go into the byte i
pub lay-more : (bs ds : List ℕ) (i from to end b v : ℕ) → i < length bs → 8 * i ≤ from → from ≤ to → to ≤ 8 * i + 8 → to ≤ end → end ≤ 8 * length bs
    → word 8 b ≡ laid (from - 8 * i) (word (to - from) (v / 2 ^ (end - to))) (word 8 (get_or bs i 0)) → ds ≡ set bs i b
    → laid to (word (end - to) v) (bits_of ds) ≡ laid from (word (end - from) v) (bits_of bs)
lay-more bs ds i from to end b v inside lower some upper few room e f =
    let xs = word (to - from) (v / 2 ^ (end - to)) in
    let long = length-word (to - from) (v / 2 ^ (end - to)) in
    let here : 8 * i + (from - 8 * i) ≡ from = omega arith in
    let behind : to ≡ from + length xs = omega arith in
    let one : bits_of ds ≡ laid from xs (bits_of bs) =
    ap bits_of f ∙ bits-set bs i (from - 8 * i) b xs inside (omega arith) e ∙ ap (λ p. laid p xs (bits_of bs)) here in
    let sum : to - from + (end - to) ≡ end - from = omega arith in
    let all : xs ++ word (end - to) v ≡ word (end - from) v = sym (word_split (to - from) (end - to) v) ∙ ap (λ w. word w v) sum in
    (λ j. laid (behind j) (word (end - to) v) (one j)) ∙ laid-laid from xs (word (end - to) v) (bits_of bs) (omega (arith, length-bits bs)) ∙ ap (λ l. laid from l (bits_of bs)) all

-- the same by what is left: as much of it goes into the byte i as has room behind the place
pub lay-part : (bs ds : List ℕ) (at end i left free n b v : ℕ) → i < length bs → end ≤ 8 * length bs → at < 8 * i + 8 → max at (8 * i) + left ≡ end → free ≡ 8 * i + 8 - max at (8 * i) → n ≡ min left free
    → word 8 b ≡ laid (8 - (free - n + n)) (word n (v / 2 ^ (left - n))) (word 8 (get_or bs i 0)) → ds ≡ set bs i b
    → laid (max at (8 * i) + n) (word (left - n) v) (bits_of ds) ≡ laid (max at (8 * i)) (word left v) (bits_of bs)
lay-part bs ds at end i left free n b v inside room near sum space part e f =
    let from = max at (8 * i) in
    let to = from + n in
    let low : 8 - (free - n + n) ≡ from - 8 * i = omega arith in
    let some : n ≡ to - from = omega arith in
    let rest : left - n ≡ end - to = omega arith in
    let whole : end - from ≡ left = omega arith in
    let byte : word 8 b ≡ laid (from - 8 * i) (word (to - from) (v / 2 ^ (end - to))) (word 8 (get_or bs i 0)) =
    e ∙ (λ j. laid (low j) (word (some j) (v / 2 ^ rest j)) (word 8 (get_or bs i 0))) in
    ap (λ k. laid to (word k v) (bits_of ds)) rest
    ∙ lay-more bs ds i from to end b v inside (omega arith) (omega arith) (omega arith) (omega arith) room byte f
    ∙ ap (λ k. laid from (word k v) (bits_of bs)) whole

pub lay-none : (bs : List ℕ) (place left v : ℕ) → left ≤ 0 → laid place (word left v) (bits_of bs) ≡ bits_of bs
unfolding word
lay-none bs place left v h = let e : left ≡ 0 = omega arith in ap (λ w. laid place (word w v) (bits_of bs)) e ∙ laid_none place (bits_of bs)

-- bits in place of others, in a byte and a byte at a time
pub ruleset laying = (patched-is, lay-more, lay-none)
