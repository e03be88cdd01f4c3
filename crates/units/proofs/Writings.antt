-- Writing into a buffer from a place on.
use Rattle.std.proofs.Common.{◌≡◌, ℕ, suc, ◌+◌, ◌-◌, ◌/◌, ◌%◌, ◌<◌, ◌≤◌, List, [], ◌∷◌, ◌++◌, length, take, drop, set, replicate, sym, refl, ap, ◌∙◌, append_assoc, arith, length-append, length-drop, length-take}
use Rattle.std.proofs.Math.Seq.{paste}
use lib.ListN.{length-replicate}
use borrow.Rule.Slice.PartMut.{put_mid}
use Rattle.std.proofs.lemmas.List.Edits.{paste_all, paste-paste}
use Rattle.std.proofs.lemmas.List.{set_split, drop-drop}
use Rattle.layouts.specs.Frames.{count, framed}
use Rattle.layouts.proofs.Framed.{length-count}
use Rattle.units.specs.Writings.{put, head}

-- one after the other
pub put-put : (at : ℕ) (xs ys buf : List ℕ) → at ≤ length buf → put (at + length xs) ys (put at xs buf) ≡ put at (xs ++ ys) buf
put-put at xs ys buf h =
    ap (put (at + length xs) ys) (sym (paste_all buf at xs (length xs) refl))
    ∙ (sym (paste_all (paste buf at xs (length xs)) (at + length xs) ys (length ys) refl)
    ∙ (paste-paste buf at xs ys (length xs) (length ys) refl refl h
    ∙ (paste_all buf at (xs ++ ys) (length xs + length ys) (sym (length-append xs ys))
    ∙ ap (λ (n : ℕ). take at buf ++ ((xs ++ ys) ++ drop (at + n) buf)) (sym (length-append xs ys)))))

pub length-put : (at : ℕ) (xs buf : List ℕ) → at + length xs ≤ length buf → length (put at xs buf) ≡ length buf
length-put at xs buf h = simp (length-append, length-take, length-drop) (omega arith)

-- one byte
pub put_one : (at b : ℕ) (buf : List ℕ) → at < length buf → set buf at b ≡ put at (b ∷ []) buf
put_one at b buf h = let e : suc at ≡ at + 1 = omega arith in set_split buf at b h ∙ ap (λ (n : ℕ). take at buf ++ (b ∷ drop n buf)) e

-- a part from a place on
put_mid-put : (at end : ℕ) (xs buf : List ℕ) → end ≡ at + length xs → put_mid at (end - at) buf xs ≡ put at xs buf
put_mid-put at end xs buf e =
    let i : end - at ≡ length xs = omega arith in
    ap (λ (k : ℕ). take at buf ++ (xs ++ drop k (drop at buf))) i ∙ ap (λ (ys : List ℕ). take at buf ++ (xs ++ ys)) (drop-drop (length xs) at buf)

-- a type or a size: bytes FF, and the last byte
pub count-put : (at n : ℕ) (xs buf : List ℕ) → xs ≡ replicate (n / 255) 255 → at + (n / 255 + 1) ≤ length buf →
    set (put_mid at (at + n / 255 - at) buf xs) (at + n / 255) (n % 255) ≡ put at (count n) buf
unfolding count
count-put at n xs buf e h =
    let l : n / 255 ≡ length xs = sym (ap length e ∙ length-replicate (n / 255) 255) in
    let last : List ℕ = n % 255 ∷ [] in
    ap (λ (ys : List ℕ). set ys (at + n / 255) (n % 255)) (put_mid-put at (at + n / 255) xs buf (omega arith))
    ∙ (put_one (at + n / 255) (n % 255) (put at xs buf) (omega (arith, length-put at xs buf (omega arith)))
    ∙ (ap (λ (i : ℕ). put (at + i) last (put at xs buf)) l ∙ (put-put at xs last buf (omega arith) ∙ ap (λ (ys : List ℕ). put at (ys ++ last) buf) e)))

-- a message is its head and its payload
pub framed-head : (t : ℕ) (p : List ℕ) → framed (t, p) ≡ head t (length p) ++ p
unfolding framed
framed-head t p = sym (append_assoc (count t) (count (length p)) p)

-- a head and then a payload
pub message-put : (at end : ℕ) (hd p b0 : List ℕ) → end ≡ at + length hd + length p → end ≤ length b0 →
    put_mid (at + length hd) (end - (at + length hd)) (put at hd b0) p ≡ put at (hd ++ p) b0
message-put at end hd p b0 e h = put_mid-put (at + length hd) end p (put at hd b0) e ∙ put-put at hd p b0 (omega arith)

-- how long counts are, and how they are written
pub ruleset count_writes = (length-count, length-append, count-put, put-put)

-- a message, by its head and its payload
pub ruleset part_writes = (framed-head, message-put, length-append)
