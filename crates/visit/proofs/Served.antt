-- Calls made one after the other, with vectors for their buffers.
use Rattle.std.proofs.Common.{◌≡◌, ℕ, suc, ◌+◌, ◌<◌, ◌≤◌, true, ltb, List, [], ◌∷◌, ◌++◌, map, length, get_or, take, drop, set, Option, sym, ap, ◌∙◌, subst, append_assoc, append-nil, arith}
use lib.Pow.{are_bytes}
use Rattle.std.proofs.lemmas.List.{take_all, drop_all, drop_more, drop-drop, take_more, take_more_set, drop-set-lt, get_or-drop, map-append}
use Rattle.std.proofs.lemmas.Bool.{and_parts, ltb-true}
use Rattle.kinds.specs.Model.{Bytes}
use Rattle.book.specs.declared.answer.Answer.{Answer}
use Rattle.book.specs.Models.{Models}
use Rattle.book.specs.Book.{Asked, Book, step, run, reply, replies}
use Rattle.book.specs.Trust.{Fit, Fits}
use Rattle.visit.specs.Calls.{answered}

-- ---- one call

pub bytes-from : (xs : List ℕ) → ((i : ℕ) → get_or xs i 0 < 256) → Bytes xs
bytes-from [] h = tt
bytes-from (x ∷ xs) h = (h 0, bytes-from xs (λ i. h (suc i)))

pub bytes-known : (xs : List ℕ) → are_bytes xs ≡ true → Bytes xs
bytes-known [] h = tt
bytes-known (x ∷ xs) h = let p = and_parts (ltb x 256) (are_bytes xs) h in (ltb-true x 256 p.0, bytes-known xs p.1)

-- what a slice holds are bytes, and what a source has to come
pub ruleset carried = (bytes-from, bytes-known)

-- ---- a turn of `serve`

-- what is left of the requests
left-more : {C : Type 0} (cs cs0 : List C) (i : ℕ) (x : C) → i < length cs → drop i cs ≡ drop i cs0 → x ≡ get_or cs i x → drop i cs0 ≡ x ∷ drop (i + 1) cs0
left-more cs cs0 i x h e r =
    let one : drop (i + 1) cs ≡ drop (i + 1) cs0 = sym (drop-drop 1 i cs) ∙ (ap (drop 1) e ∙ drop-drop 1 i cs0) in
    sym e ∙ (drop_more cs i x h ∙ (ap (λ y. y ∷ drop (i + 1) cs) (sym r) ∙ ap (λ l. x ∷ l) one))

pub left_after : {C : Type 0} (cs cs0 : List C) (i : ℕ) (y : C) → drop i cs ≡ drop i cs0 → drop (i + 1) (set cs i y) ≡ drop (i + 1) cs0
left_after cs cs0 i y e = drop-set-lt (i + 1) cs i y (omega arith) ∙ (sym (drop-drop 1 i cs) ∙ (ap (drop 1) e ∙ drop-drop 1 i cs0))

left-same : {C : Type 0} (cs cs0 : List C) (i : ℕ) (x : C) → drop i cs ≡ drop i cs0 → get_or cs i x ≡ get_or cs0 i x
left-same cs cs0 i x e =
    let z : i + 0 ≡ i = omega arith in
    ap (λ (n : ℕ). get_or cs n x) (sym z) ∙ (sym (get_or-drop i cs 0 x) ∙ (ap (λ l. get_or l 0 x) e ∙ (get_or-drop i cs0 0 x ∙ ap (λ (n : ℕ). get_or cs0 n x) z)))

module _ (ks : Models) {C : Type 0} (ask : C → Asked) (held : C → Option Answer × Asked) where
  pub turn-book : (cs cs0 : List C) (i : ℕ) (x : C) (b c : Book ks) → i < length cs → drop i cs ≡ drop i cs0 → x ≡ get_or cs i x → c ≡ step ks b (ask x) →
      run ks c (map ask (drop (i + 1) cs0)) ≡ run ks b (map ask (drop i cs0))
  turn-book cs cs0 i x b c h e r s =
      ap (λ (z : Book ks). run ks z (map ask (drop (i + 1) cs0))) s ∙ ap (λ (l : List C). run ks b (map ask l)) (sym (left-more cs cs0 i x h e r))

  -- what is held so far, and what the book replies to what is left
  abbrev pub account : List C → List C → ℕ → Book ks → List (Option Answer × Asked)
  account cs cs0 i b = map held (take i cs) ++ map answered (replies ks b (map ask (drop i cs0)))

  pub turn-told : (cs cs0 : List C) (i : ℕ) (x y : C) (b c : Book ks) → i < length cs → drop i cs ≡ drop i cs0 → x ≡ get_or cs i x → c ≡ step ks b (ask x) → held y ≡ answered (reply ks b (ask x)) →
      account (set cs i y) cs0 (i + 1) c ≡ account cs cs0 i b
  turn-told cs cs0 i x y b c h e r s t =
      let front : map held (take (i + 1) (set cs i y)) ≡ map held (take i cs) ++ (held y ∷ []) = ap (map held) (take_more_set cs i y h) ∙ map-append held (take i cs) (y ∷ []) in
      let rest : List (Option Answer × Asked) = map answered (replies ks c (map ask (drop (i + 1) cs0))) in
      let back : map answered (replies ks b (map ask (drop i cs0))) ≡ held y ∷ rest =
      ap (λ (l : List C). map answered (replies ks b (map ask l))) (left-more cs cs0 i x h e r)
      ∙ (ap (λ z. z ∷ map answered (replies ks (step ks b (ask x)) (map ask (drop (i + 1) cs0)))) (sym t)
      ∙ ap (λ (z : Book ks). held y ∷ map answered (replies ks z (map ask (drop (i + 1) cs0)))) (sym s)) in
      ap (λ l. l ++ rest) front ∙ (append_assoc (map held (take i cs)) (held y ∷ []) rest ∙ ap (λ l. map held (take i cs) ++ l) (sym back))

  pub end-book : (cs0 : List C) (i : ℕ) (b b0 : Book ks) → length cs0 ≤ i → run ks b (map ask (drop i cs0)) ≡ run ks b0 (map ask cs0) → b ≡ run ks b0 (map ask cs0)
  end-book cs0 i b b0 h e = sym (ap (λ (l : List C). run ks b (map ask l)) (drop_all i cs0 h)) ∙ e

  pub end-told : (cs cs0 : List C) (i : ℕ) (b b0 : Book ks) → length cs ≤ i → length cs0 ≤ i → account cs cs0 i b ≡ map answered (replies ks b0 (map ask cs0)) → map held cs ≡ map answered (replies ks b0 (map ask cs0))
  end-told cs cs0 i b b0 h k e =
      sym (append-nil (map held cs))
      ∙ (ap (λ l. map held cs ++ map answered (replies ks b (map ask l))) (sym (drop_all i cs0 k))
      ∙ (ap (λ l. map held l ++ map answered (replies ks b (map ask (drop i cs0)))) (sym (take_all i cs h)) ∙ e))

fits-end : (as' : List Asked) (a : Asked) → Fits as' → Fit a → Fits (as' ++ (a ∷ []))
fits-end [] a f g = (g, tt)
fits-end (b ∷ as') a f g = (f.0, fits-end as' a f.1 g)

fits_more : {C : Type 0} (ask : C → Asked) (cs : List C) (i : ℕ) (x : C) → i < length cs → x ≡ get_or cs i x → Fits (map ask (take i cs)) → Fit (ask x) → Fits (map ask (take (i + 1) cs))
fits_more ask cs i x h e f g =
    let p : map ask (take (i + 1) cs) ≡ map ask (take i cs) ++ (ask x ∷ []) = ap (map ask) (take_more cs i x h ∙ ap (λ y. take i cs ++ (y ∷ [])) (sym e)) ∙ map-append ask (take i cs) (x ∷ []) in
    let P : List Asked → Type 0 = λ l. Fits l in
    subst P (sym p) (fits-end (map ask (take i cs)) (ask x) f g)

pub turn-fits : {C : Type 0} (ask : C → Asked) (cs cs0 : List C) (i : ℕ) (x : C) → i < length cs0 → drop i cs ≡ drop i cs0 → x ≡ get_or cs i x → Fits (map ask (take i cs0)) → Fit (ask x) → Fits (map ask (take (i + 1) cs0))
turn-fits ask cs cs0 i x h e r f g = fits_more ask cs0 i x h (r ∙ left-same cs cs0 i x e) f g

pub fits_all : {C : Type 0} (ask : C → Asked) (cs : List C) (i : ℕ) → length cs ≤ i → Fits (map ask (take i cs)) → Fits (map ask cs)
fits_all ask cs i h f = let P : List _ → Type 0 = λ l. Fits (map ask l) in subst P (take_all i cs h) f

-- what a turn keeps
pub ruleset turns = (left_after, turn-book, turn-told, turn-fits)
