-- How many bits a layout takes at most, part by part.
use Rattle.std.proofs.Common.{◌≡◌, ℕ, zero, suc, ◌+◌, ◌-◌, ◌*◌, ◌^◌, ◌<◌, ◌≤◌, Bool, true, false, cond, eqb, leb, ◌⊎◌, List, [], ◌∷◌, length, sym, refl, ap, ◌∙◌, subst, inl, inr, ⊎_elim, mul-suc, arith, length-append, pow_mono}
use lib.Count.{count_leading_zeros}
use lib.ListN.{length-replicate}
use Rattle.std.proofs.lemmas.Bool.{leb-true, cases_Bool, cases_lt}
use Rattle.layouts.specs.Layout.{Verdict, fine, out_of_range, past_limit, u, ue, within, fixed, coded, at_most, counted, Layout, close, extension, reserved, field, judge, flag, unless, cancelable, times, extent, Holds}
use Rattle.layouts.proofs.Numbers.{length-word}
use Rattle.layouts.proofs.Fields.{ue-code, top_of}
use Rattle.layouts.proofs.Steps.{fixed-narrow}

-- a record of this layout takes at most n bits
abbrev pub Takes : Layout → ℕ → Type 0
Takes l n = (vs : List ℕ) → Holds l vs → extent l vs ≤ n

pub takes-close : Takes close 0
takes-close vs h = omega arith

pub takes-extension : Takes extension 1
takes-extension vs h = omega arith

pub takes-reserved : (w n : ℕ) (l : Layout) → Takes l n → Takes (reserved w l) (w + n)
takes-reserved w n l t vs h = omega (arith, t vs h)

pub takes-u : (w n : ℕ) (l : ℕ → Layout) → ((v : ℕ) → Takes (l v) n) → Takes (field (u w) l) (w + n)
takes-u w n l t [] h = absurd h
takes-u w n l t (v ∷ vs) h = omega (arith, length-word w v, t v vs h.1)

-- a number of w bits that is judged
pub takes-judged : (w n : ℕ) (ok : ℕ → Verdict) (l : ℕ → Layout) → ((v : ℕ) → ok v ≡ fine → Takes (l v) n) → Takes (field (within (u w) ok) l) (w + n)
takes-judged w n ok l t [] h = absurd h
takes-judged w n ok l t (v ∷ vs) h = omega (arith, length-word w v, t v h.0.1 vs h.1)

pub takes-within : (w n : ℕ) (ok : ℕ → Verdict) (l : ℕ → Layout) → ((v : ℕ) → Takes (l v) n) → Takes (field (within (u w) ok) l) (w + n)
takes-within w n ok l t = takes-judged w n ok l (λ v h. t v)

pub takes-flag : (n : ℕ) (l : Bool → Layout) → ((b : Bool) → Takes (l b) n) → Takes (flag l) (1 + n)
takes-flag n l t = takes-u 1 n (λ v. l (eqb v 1)) (λ v. t (eqb v 1))

pub takes-unless : (n : ℕ) (l : Layout) → Takes l n → (b : Bool) → Takes (unless b l) n
takes-unless n l t true vs h = omega (arith, takes-close vs h)
takes-unless n l t false vs h = t vs h

pub takes-cancelable : (n : ℕ) (l : Layout) → Takes l n → Takes (cancelable l) (1 + n)
takes-cancelable n l t = takes-flag n (λ cancel. unless cancel l) (takes-unless n l t)

fine-most : (m v : ℕ) → at_most m v ≡ fine → v ≤ m
fine-most m v e = ⊎_elim (λ b. leb-true v m b) (λ b. let f : out_of_range ≡ fine = rw b at e in let z : ◌≡◌ {A = ℕ} 0 1 = cc in absurd (omega arith)) (cases_Bool (leb v m))

-- a ue of k digits behind its first
pub length-ue : (k v : ℕ) → k < 32 → v + 1 < 2 ^ suc k → length (coded ue v) ≤ 2 * k + 1
length-ue k v h small =
    let f : suc k ≤ 32 = omega arith in
    let most : 2 ^ suc k ≤ 2 ^ 32 = pow_mono f in
    let t = top_of v (omega arith) in
    let n = 31 - count_leading_zeros 32 (v + 1) in
    let less : n ≤ k = ⊎_elim (λ (j : k < n). let g : suc k ≤ n = j in let m : 2 ^ suc k ≤ 2 ^ n = pow_mono g in absurd (omega arith)) (λ j. j) (cases_lt k n) in
    let e : length (coded ue v) ≡ n + (n + 1) = ap length (ue-code v (omega arith)) ∙ simp (length-append, length-replicate, length-word) refl in
    omega arith

pub takes-ue-to : (k m n : ℕ) (l : ℕ → Layout) → k < 32 → m + 1 < 2 ^ suc k → ((v : ℕ) → Takes (l v) n) → Takes (field (within ue (at_most m)) l) (2 * k + 1 + n)
takes-ue-to k m n l h small t [] g = absurd g
takes-ue-to k m n l h small t (v ∷ vs) g =
    let most = fine-most m v g.0.1 in
    omega (arith, length-ue k v h (omega arith), t v vs g.1)

pub takes-less : (m n : ℕ) (l : Layout) → m ≤ n → Takes l m → Takes l n
takes-less m n l h t vs k = omega (arith, t vs k)

pub takes-fixed : (w n : ℕ) (l : ℕ → Layout) → w ≤ 32 → ((v : ℕ) → Takes (l v) n) → Takes (field (fixed w) l) (w + n)
takes-fixed w n l h t = subst (λ c. Takes (field c l) (w + n)) (sym (fixed-narrow w h)) (takes-u w n l t)

pub takes-judge : (m n : ℕ) (v : Verdict) (l : Layout) → Takes l n → Takes (judge m v l) n
takes-judge m n v l t vs h = t vs h.1

-- a group of at most w bits, so many times
pub takes-times : (w : ℕ) (group : Layout → Layout) → ((n : ℕ) (l : Layout) → Takes l n → Takes (group l) (w + n)) → (k n : ℕ) (l : Layout) → Takes l n → Takes (times k group l) (w * k + n)
takes-times w group g zero n l t vs h = omega (arith, t vs h)
takes-times w group g (suc k) n l t vs h = omega (arith, g (w * k + n) (times k group l) (takes-times w group g k n l t) vs h, mul-suc w k)

-- a count is at most its limit
pub counted-most : (m v : ℕ) → counted m v ≡ fine → v ≤ m
counted-most m v e = least (eqb v 0) (cases_Bool (leb v m)) e
  where
    least : (b : Bool) → (leb v m ≡ true) ⊎ (leb v m ≡ false) → cond b out_of_range (cond (leb v m) fine past_limit) ≡ fine → v ≤ m
    least true c f = let z : ◌≡◌ {A = ℕ} 0 1 = cc in absurd (omega arith)
    least false (inl c) f = leb-true v m c
    least false (inr c) f = let g : past_limit ≡ fine = rw c at f in let z : ◌≡◌ {A = ℕ} 0 1 = cc in absurd (omega arith)
