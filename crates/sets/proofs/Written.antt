-- Parts written one after the other, and how much they take.
use Rattle.std.proofs.Common.{◌≡◌, ℕ, ◌+◌, ◌-◌, ◌<◌, ◌≤◌, Bool, true, false, cond, ltb, leb, List, [], ◌++◌, length, get_or, take, drop, Some, None, sym, refl, ap, ◌∙◌, append-nil, arith, length-append, length-drop, length-take, le-leb, leb-true}
use borrow.Author.Tests.{clash}
use borrow.Rule.Slice.PartMut.{put_mid}
use Rattle.std.proofs.lemmas.List.{drop_all}
use Rattle.std.proofs.lemmas.Bool.{lt-ltb, cond-true}
use Rattle.layouts.specs.Frames.{framed}
use Rattle.layouts.proofs.Framed.{length-framed, length-count}
use Rattle.kinds.specs.Outcome.{length_of, copied, looked}
use Rattle.units.specs.Writings.{put, head, framed_length, limited, fits}
use Rattle.units.proofs.Writings.{length-put, framed-head, message-put}

some_same : (x y : ℕ) → Some x ≡ Some y → x ≡ y
some_same x y e = cc

some-none : (x : ℕ) → Some x ≡ None → ⊥
some-none x e = let z : ◌≡◌ {A = ℕ} 0 1 = cc in omega arith

pub some-if : (b : Bool) (x start : ℕ) → Some start ≡ cond b (Some x) None → (b ≡ true) × (start ≡ x)
some-if true x start e = (refl, some_same start x e)
some-if false x start e = absurd (some-none start e)

-- ---- one message

pub fits-room : (t n at len : ℕ) → fits t n at len ≡ true → at + framed_length t n ≤ len
fits-room t n at len e = go (limited t n) e
  where
    go : (b : Bool) → cond b (leb (at + framed_length t n) len) false ≡ true → at + framed_length t n ≤ len
    go true f = leb-true (at + framed_length t n) len f
    go false f = absurd (clash f)

pub length-head : (t n : ℕ) → length (head t n) + n ≡ framed_length t n
length-head t n = omega (arith, length-append (Rattle.layouts.specs.Frames.count t) (Rattle.layouts.specs.Frames.count n))

-- a payload that is copied into as many bytes
pub copied-whole : (ps : List (List ℕ)) (n : ℕ) (w : List ℕ) → n < length ps → length w ≡ length (get_or ps n []) → (looked ps n w).1 ≡ get_or ps n []
copied-whole ps n w h e =
    let p : List ℕ = get_or ps n [] in
    ap (λ r. r.1) (cond-true (ltb n (length ps)) (copied p w) _ (lt-ltb n (length ps) h) ∙ cond-true (leb (length p) (length w)) _ _ (le-leb (length p) (length w) (omega arith)))
    ∙ (ap (λ (x : List ℕ). p ++ x) (drop_all (length p) w (omega arith)) ∙ append-nil p)

-- a head and then the payload of a part
pub payload-put : (ps : List (List ℕ)) (n t at start len : ℕ) (b0 b1 w : List ℕ) → n < length ps → len ≡ length (get_or ps n []) → start ≡ at + length (head t len) → at + framed_length t len ≤ length b0 →
    b1 ≡ put at (head t len) b0 → w ≡ (looked ps n (take (start + len - start) (drop start b1))).1 → put_mid start (start + len - start) b1 w ≡ put at (framed (t, get_or ps n [])) b0
payload-put ps n t at start len b0 b1 w h size from room is cut =
    let p : List ℕ = get_or ps n [] in
    let hd : List ℕ = head t len in
    let hl = length-head t len in
    let long : length b1 ≡ length b0 = ap length is ∙ length-put at hd b0 (omega arith) in
    let all : length (take (start + len - start) (drop start b1)) ≡ length p = simp (length-take, length-drop) (omega arith) in
    let e : start + len - start ≡ at + length hd + length p - (at + length hd) = omega arith in
    ap (put_mid start (start + len - start) b1) (cut ∙ copied-whole ps n _ h all)
    ∙ (ap (λ (b : List ℕ). put_mid start (start + len - start) b p) is
    ∙ (ap (λ (i : ℕ). put_mid start i (put at hd b0) p) e
    ∙ (ap (λ (i : ℕ). put_mid i (at + length hd + length p - (at + length hd)) (put at hd b0) p) from
    ∙ (message-put at (at + length hd + length p) hd p b0 refl (omega arith)
    ∙ (ap (λ (i : ℕ). put at (head t i ++ p) b0) size ∙ ap (λ (xs : List ℕ). put at xs b0) (sym (framed-head t p)))))))

-- what a head says that was written
pub record Headed (t len at start : ℕ) (b0 b1 : List ℕ) : Type 0 where
  pub fit : fits t len at (length b0) ≡ true
  pub from : start ≡ at + length (head t len)
  pub end : start + len ≡ at + framed_length t len
  pub room : start + len ≤ length b1
  pub start_room : at + framed_length t len ≤ length b0
  pub is : b1 ≡ put at (head t len) b0

pub headed : (t len at start : ℕ) (b0 b1 : List ℕ) → Some start ≡ cond (fits t len at (length b0)) (Some (at + length (head t len))) None → b1 ≡ cond (fits t len at (length b0)) (put at (head t len) b0) b0 → Headed t len at start b0 b1
headed t len at start b0 b1 a b =
    let s = some-if (fits t len at (length b0)) (at + length (head t len)) start a in
    let r = fits-room t len at (length b0) s.0 in
    let i : b1 ≡ put at (head t len) b0 = b ∙ cond-true (fits t len at (length b0)) _ _ s.0 in
    let hl = length-head t len in
    let long : length b1 ≡ length b0 = ap length i ∙ length-put at (head t len) b0 (omega arith) in
    record { fit = s.0; from = s.1; end = omega (arith, s.1); room = omega (arith, s.1); start_room = r; is = i }

-- the length of a payload that is there
pub length-there : (ps : List (List ℕ)) (n len : ℕ) → Some len ≡ length_of ps n → len ≡ length (get_or ps n [])
length-there ps n len e = (some-if (ltb n (length ps)) (length (get_or ps n [])) len e).1

pub length_whole : (t : ℕ) (p : List ℕ) → length (framed (t, p)) ≡ framed_length t (length p)
length_whole t p = omega (arith, length-framed t p, length-count t, length-count (length p))

-- a message of a part that was written
pub payload-told : (ps : List (List ℕ)) (n t at start len : ℕ) (b0 b1 w : List ℕ) → n < length ps → len ≡ length (get_or ps n []) → Headed t len at start b0 b1 → w ≡ (looked ps n (take (start + len - start) (drop start b1))).1 →
    (Some (start + len) ≡ cond (fits t (length (get_or ps n [])) at (length b0)) (Some (at + length (framed (t, get_or ps n [])))) None)
    × (put_mid start (start + len - start) b1 w ≡ cond (fits t (length (get_or ps n [])) at (length b0)) (put at (framed (t, get_or ps n [])) b0) b0)
payload-told ps n t at start len b0 b1 w h size hd cut =
    let p : List ℕ = get_or ps n [] in
    let f : fits t (length p) at (length b0) ≡ true = ap (λ (i : ℕ). fits t i at (length b0)) (sym size) ∙ hd.fit in
    let e : start + len ≡ at + length (framed (t, p)) = omega (arith, hd.end, length_whole t p, ap (framed_length t) size) in (
      ap Some e ∙ sym (cond-true (fits t (length p) at (length b0)) _ _ f),
      payload-put ps n t at start len b0 b1 w h size hd.from hd.start_room hd.is cut ∙ sym (cond-true (fits t (length p) at (length b0)) _ _ f),
    )
