-- A record that is written field after field stands at the buffer's front, and a sheet with no room tells its length.
use Rattle.std.proofs.Common.{◌≡◌, ℕ, zero, suc, ◌+◌, ◌*◌, ◌^◌, ◌<◌, ◌≤◌, min, Bool, true, false, ltb, List, [], ◌∷◌, ◌++◌, length, get_or, drop, replicate, sym, refl, ap, ◌∙◌, arith, length-append}
use lib.ListN.{length-replicate}
use lib.Seq.{drop-append-add}
use lib.Pow.{are_bytes}
use Rattle.std.proofs.lemmas.Bool.{and_parts, and_from, lt-ltb}
use Rattle.layouts.specs.Bits.{word, bits_of}
use Rattle.layouts.specs.Frames.{fronted}
use Rattle.layouts.specs.Layout.{coded, closing, Layout, close, extension, reserved, field, judge, writes, Holds}
use Rattle.layouts.specs.Payloads.{size, payload}
use Rattle.fields.specs.Writing.{Sheet, laid, put, lays}
use Rattle.layouts.proofs.Numbers.{length-word, length-bits, bits-cons, bits-append}
use Rattle.fields.proofs.Laid.{laid-laid, length-laid}
use Rattle.fields.proofs.Sheets.{put-fits, put-none}
use Rattle.layouts.proofs.Fields.{word-zero}
use Rattle.layouts.proofs.Layouts.{length_whole, bits-payload, bytes-payload, length-payload, bits-same}

-- the place moves on by what is put
pub put-place : (bs : List Bool) (s : Sheet) → s.place + length bs < 2 ^ 64 → (put bs s).place ≡ s.place + length bs
unfolding put
put-place bs s h = omega arith

pub lays-place : (l : Layout) (vs : List ℕ) (s : Sheet) → s.place + length (writes l s.place vs) < 2 ^ 64 → (lays l vs s).place ≡ s.place + length (writes l s.place vs)
lays-place close vs s h = put-place (closing s.place) s h
lays-place extension vs s h =
    let t = put (word 1 0) s in
    let n = length-word 1 0 in
    let e : t.place ≡ s.place + 1 = put-place (word 1 0) s (omega arith) ∙ omega arith in
    put-place (closing t.place) t (omega (arith, ap (λ p. length (closing p)) e)) ∙ omega (arith, ap (λ p. length (closing p)) e)
lays-place (reserved w l) vs s h =
    let t = put (word w 0) s in
    let n = length-word w 0 in
    let sum = length-append (replicate w false) (writes l (s.place + w) vs) in
    let r = length-replicate w false in
    let e : t.place ≡ s.place + w = put-place (word w 0) s (omega arith) ∙ omega arith in
    let m = ap (λ p. length (writes l p vs)) e in
    lays-place l vs t (omega arith) ∙ omega arith
lays-place (field c l) [] s h = omega arith
lays-place (field c l) (v ∷ vs) s h =
    let t = put (coded c v) s in
    let sum = length-append (coded c v) (writes (l v) (s.place + length (coded c v)) vs) in
    let e : t.place ≡ s.place + length (coded c v) = put-place (coded c v) s (omega arith) in
    let m = ap (λ p. length (writes (l v) p vs)) e in
    lays-place (l v) vs t (omega arith) ∙ omega arith
lays-place (judge n v l) vs s h = lays-place l vs s h

-- the loan stays the same one
pub put-loan : (bs : List Bool) (s : Sheet) → (put bs s).loan ≡ s.loan
unfolding put
put-loan bs s = refl

pub lays-loan : (l : Layout) (vs : List ℕ) (s : Sheet) → (lays l vs s).loan ≡ s.loan
lays-loan close vs s = put-loan (closing s.place) s
lays-loan extension vs s = let t = put (word 1 0) s in put-loan (closing t.place) t ∙ put-loan (word 1 0) s
lays-loan (reserved w l) vs s = lays-loan l vs (put (word w 0) s) ∙ put-loan (word w 0) s
lays-loan (field c l) [] s = refl
lays-loan (field c l) (v ∷ vs) s = lays-loan (l v) vs (put (coded c v) s) ∙ put-loan (coded c v) s
lays-loan (judge n v l) vs s = lays-loan l vs s

-- two parts that fit are one part
put-put : (x y : List Bool) (s : Sheet) → s.place + length (x ++ y) ≤ min (length s.bits) 524280 → put y (put x s) ≡ put (x ++ y) s
put-put x y s h =
    let n = length-append x y in
    let t : Sheet = record s { place = s.place + length x; bits = laid s.place x s.bits } in
    let long : length t.bits ≡ length s.bits = length-laid s.place x s.bits (omega arith) in
    let p : s.place + length x + length y ≡ s.place + length (x ++ y) = omega arith in
    ap (put y) (put-fits x s (omega arith)) ∙ put-fits y t (omega arith)
    ∙ (λ i. record s { place = p i; bits = laid-laid s.place x y s.bits (omega arith) i })
    ∙ sym (put-fits (x ++ y) s h)

-- field after field is the record in one part
pub lays-put : (l : Layout) (vs : List ℕ) (s : Sheet) → s.place < 2 ^ 64 → s.place + length (writes l s.place vs) ≤ min (length s.bits) 524280 → lays l vs s ≡ put (writes l s.place vs) s
lays-put close vs s k h = refl
lays-put extension vs s k h =
    let w = word-zero 1 in
    let e : (put (word 1 0) s).place ≡ s.place + 1 = put-place (word 1 0) s (omega (arith, length-word 1 0)) ∙ omega (arith, length-word 1 0) in
    ap (λ p. put (closing p) (put (word 1 0) s)) e ∙ ap (λ b. put (closing (s.place + 1)) (put b s)) w ∙ put-put (false ∷ []) (closing (s.place + 1)) s h
lays-put (reserved w l) vs s k h =
    let n = length-word w 0 in
    let sum = length-append (replicate w false) (writes l (s.place + w) vs) in
    let r = length-replicate w false in
    let t = put (word w 0) s in
    let e : t.place ≡ s.place + w = put-place (word w 0) s (omega arith) ∙ omega arith in
    let f = ap (λ x. x.bits) (put-fits (word w 0) s (omega arith)) in
    let long : length t.bits ≡ length s.bits = ap length f ∙ length-laid s.place (word w 0) s.bits (omega arith) in
    let m = ap (λ p. length (writes l p vs)) e in
    lays-put l vs t (omega arith) (omega arith) ∙ ap (λ p. put (writes l p vs) t) e ∙ ap (λ b. put (writes l (s.place + w) vs) (put b s)) (word-zero w)
    ∙ put-put (replicate w false) (writes l (s.place + w) vs) s h
lays-put (field c l) [] s k h = sym (put-none s k)
lays-put (field c l) (v ∷ vs) s k h =
    let sum = length-append (coded c v) (writes (l v) (s.place + length (coded c v)) vs) in
    let t = put (coded c v) s in
    let e : t.place ≡ s.place + length (coded c v) = put-place (coded c v) s (omega arith) in
    let f = ap (λ x. x.bits) (put-fits (coded c v) s (omega arith)) in
    let long : length t.bits ≡ length s.bits = ap length f ∙ length-laid s.place (coded c v) s.bits (omega arith) in
    let m = ap (λ p. length (writes (l v) p vs)) e in
    lays-put (l v) vs t (omega arith) (omega arith) ∙ ap (λ p. put (writes (l v) p vs) t) e ∙ put-put (coded c v) (writes (l v) (s.place + length (coded c v)) vs) s h
lays-put (judge n v l) vs s k h = lays-put l vs s k h

-- ---- bytes

drop-nil : (n : ℕ) → bits_of [] ≡ drop n (bits_of [])
unfolding bits_of
drop-nil zero = refl
drop-nil (suc n) = refl

bits-drop : (n : ℕ) (bs : List ℕ) → bits_of (drop n bs) ≡ drop (8 * n) (bits_of bs)
bits-drop zero bs = refl
bits-drop (suc n) [] = drop-nil (8 * suc n)
bits-drop (suc n) (b ∷ bs) =
    let e : length (word 8 b) + 8 * n ≡ 8 * suc n = omega (arith, length-word 8 b) in
    bits-drop n bs ∙ sym (drop-append-add (word 8 b) (bits_of bs) (8 * n)) ∙ (λ i. drop (e i) (sym (bits-cons b bs) i))

bytes-append : (xs ys : List ℕ) → are_bytes xs ≡ true → are_bytes ys ≡ true → are_bytes (xs ++ ys) ≡ true
bytes-append [] ys h k = k
bytes-append (x ∷ xs) ys h k = let p = and_parts (ltb x 256) (are_bytes xs) h in and_from (ltb x 256) (are_bytes (xs ++ ys)) p.0 (bytes-append xs ys p.1 k)

bytes_drop : (n : ℕ) (bs : List ℕ) → are_bytes bs ≡ true → are_bytes (drop n bs) ≡ true
bytes_drop zero bs h = h
bytes_drop (suc n) [] h = refl
bytes_drop (suc n) (b ∷ bs) h = bytes_drop n bs (and_parts (ltb b 256) (are_bytes bs) h).1

-- a slice of bytes holds bytes
pub bytes-from : (xs : List ℕ) → ((i : ℕ) → get_or xs i 0 < 256) → are_bytes xs ≡ true
bytes-from [] h = refl
bytes-from (x ∷ xs) h = and_from (ltb x 256) (are_bytes xs) (lt-ltb x 256 (h 0)) (bytes-from xs (λ i. h (suc i)))

-- a record that fits stands at the front
pub written-front : (l : Layout) (vs before after : List ℕ) (loan : ℕ) → Holds l vs → size l vs ≤ length before → size l vs ≤ 65535 → are_bytes before ≡ true → are_bytes after ≡ true
    → bits_of after ≡ (lays l vs (record { place = 0; bits = bits_of before; loan = loan })).bits → after ≡ fronted (payload l vs) before
written-front l vs before after loan h room short b a e =
    let s : Sheet = record { place = 0; bits = bits_of before; loan = loan } in
    let n = length_whole l vs h in
    let fit : s.place + length (writes l 0 vs) ≤ min (length s.bits) 524280 = omega (arith, length-bits before) in
    let whole : lays l vs s ≡ record s { place = 0 + length (writes l 0 vs); bits = laid 0 (writes l 0 vs) (bits_of before) } = lays-put l vs s (omega arith) fit ∙ put-fits (writes l 0 vs) s fit in
    let k = length-payload l vs in
    let back : drop (0 + length (writes l 0 vs)) (bits_of before) ≡ bits_of (drop (length (payload l vs)) before) =
    let m : 0 + length (writes l 0 vs) ≡ 8 * length (payload l vs) = omega arith in
    ap (λ i. drop i (bits_of before)) m ∙ sym (bits-drop (length (payload l vs)) before) in
    bits-same after (fronted (payload l vs) before) a (bytes-append (payload l vs) (drop (length (payload l vs)) before) (bytes-payload l vs h) (bytes_drop (length (payload l vs)) before b))
    (e ∙ ap (λ x. x.bits) whole ∙ (λ i. sym (bits-payload l vs h) i ++ back i) ∙ sym (bits-append (payload l vs) (drop (length (payload l vs)) before)))

-- the place after a record on a sheet with no bit written
pub written-place : (l : Layout) (vs : List ℕ) (s : Sheet) → Holds l vs → size l vs ≤ 65535 → s.place ≡ 0 → (lays l vs s).place ≡ 8 * size l vs
written-place l vs s h short e =
    let n = length_whole l vs h in
    let m : length (writes l s.place vs) ≡ length (writes l 0 vs) = ap (λ p. length (writes l p vs)) e in
    lays-place l vs s (omega arith) ∙ omega arith
