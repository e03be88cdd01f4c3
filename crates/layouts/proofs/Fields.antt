-- The two laws of a field: what is coded is read, and what is read is coded.
use Rattle.std.proofs.Common.{◌≡◌, ℕ, zero, suc, ◌+◌, ◌-◌, ◌*◌, ◌/◌, ◌%◌, ◌^◌, ◌<◌, ◌≤◌, Bool, true, false, cond, leb, ◌⊎◌, List, [], ◌∷◌, ◌++◌, length, take, drop, replicate, Ok, Err, Result, sym, refl, ap, ◌∙◌, subst, inl, inr, ⊎_elim, append_assoc, mod-eq_of_lt, pow-suc, add-one, arith, length-append, length-drop, take-append-drop, length-take-le, drop-drop, take_at, drop_at, pow_pos, pow_mono}
use native.Mathlib.Nat.{div-eq_of_lt-le}
use lib.Count.{count_leading_zeros, leading_top, leading_unique}
use lib.ListN.{length-replicate}
use lib.Pow.{low}
use Rattle.std.proofs.lemmas.Bool.{le-leb, lt-leb, leb-true, leb-false, lt-ltb, cases_Bool}
use Rattle.layouts.specs.declared.fault.FieldFault.{FieldFault}
use Rattle.layouts.specs.Bits.{word, number, zeros}
use Rattle.layouts.specs.Layout.{Left, past, and_then, Verdict, fine, out_of_range, past_limit, judged, Code, u, ue, within, next, coded, Inside, next_u, next_ue, coded_ue}
use Rattle.layouts.proofs.Numbers.{length-word, number_lt, number_word, word_number}
use Rattle.layouts.proofs.Closes.{number_same, number-zeros}
use Rattle.layouts.proofs.Steps.{ok-parts}
use Rattle.layouts.proofs.Golomb.{drop-zeros, number-one}

pub ue-code : (v : ℕ) → v + 1 < 2 ^ 32 → coded_ue v ≡ replicate (31 - count_leading_zeros 32 (v + 1)) false ++ word (31 - count_leading_zeros 32 (v + 1) + 1) (v + 1)
unfolding coded_ue
ue-code v h = ap (λ b. cond b (replicate (31 - count_leading_zeros 32 (v + 1)) false ++ word (31 - count_leading_zeros 32 (v + 1) + 1) (v + 1)) []) (lt-ltb (v + 1) (2 ^ 32) h)

-- w zeros are the digits of 0
pub word-zero : (w : ℕ) → word w 0 ≡ replicate w false
word-zero w =
    number_same (word w 0) (replicate w false) (length-word w 0 ∙ sym (length-replicate w false))
    (number_word w 0 ∙ mod-eq_of_lt (pow_pos w) ∙ sym (number-zeros w))

-- ---- coded, then read

zeros-run : (n : ℕ) (l : List Bool) → zeros (replicate n false ++ (true ∷ l)) ≡ n
unfolding zeros
zeros-run zero l = refl
zeros-run (suc n) l = ap suc (zeros-run n l)

-- a number of n + 1 digits begins with a one
word-top : (n v : ℕ) → 2 ^ n ≤ v → v < 2 ^ suc n → word (suc n) v ≡ true ∷ word n v
unfolding word
word-top n v h k =
    let e : v / 2 ^ n ≡ 1 = div-eq_of_lt-le (2 ^ n) (omega arith) (omega (arith, pow-suc 2 n)) in
    rw e

-- the highest digit of v + 1
pub top_of : (v : ℕ) → v + 1 < 2 ^ 32 → (2 ^ (31 - count_leading_zeros 32 (v + 1)) ≤ v + 1) × (v + 1 < 2 ^ suc (31 - count_leading_zeros 32 (v + 1))) × (31 - count_leading_zeros 32 (v + 1) < 32)
top_of v h =
    let t = leading_top 32 (v + 1) (omega arith) h in
    let e : t.0 ≡ 31 - count_leading_zeros 32 (v + 1) = omega (arith, t.1) in
    subst (λ n. (2 ^ n ≤ v + 1) × (v + 1 < 2 ^ suc n) × (n < 32)) e (t.2, t.3, omega (arith, t.1))

abbrev Coded : Code → ℕ → Type 0
Coded c v = (p : ℕ) (more : List Bool) → next c (record { place = p; rest = coded c v ++ more }) ≡ Ok (v, record { place = p + length (coded c v); rest = more })

coded-u : (w v : ℕ) → v < 2 ^ w → Coded (u w) v
unfolding next_u next_ue coded_ue
coded-u w v h p more =
    let long = length-word w v in
    let all : w ≤ length (word w v ++ more) = simp length-append (omega arith) in
    rw (le-leb w (length (word w v ++ more)) all, take_at (word w v) more w long, drop_at (word w v) more w long, number_word w v, mod-eq_of_lt h, long)

ue-of : (l : List Bool) (n p : ℕ) → zeros l ≡ n → n < 32 → n + 1 + n ≤ length l
    → next ue (record { place = p; rest = l }) ≡ Ok (2 ^ n - 1 + number (take n (drop (n + 1) l)), record { place = p + (n + 1 + n); rest = drop (n + 1 + n) l })
unfolding next_u next_ue
ue-of l n p e k h =
    subst
    (λ x. next ue (record { place = p; rest = l }) ≡ Ok (2 ^ x - 1 + number (take x (drop (x + 1) l)), record { place = p + (x + 1 + x); rest = drop (x + 1 + x) l }))
    e
    (rw (lt-leb 32 (zeros l) (omega arith), le-leb (zeros l + 1 + zeros l) (length l) (omega arith)))

low_part : (n v : ℕ) → 2 ^ n ≤ v → v < 2 ^ suc n → v % 2 ^ n ≡ v - 2 ^ n
low_part n v h k =
    let e : v ≡ 1 * 2 ^ n + (v - 2 ^ n) = omega arith in
    ap (λ x. x % 2 ^ n) e ∙ low 1 n (omega (arith, pow-suc 2 n))

coded-digits : (v : ℕ) → v + 1 < 2 ^ 32 → (p : ℕ) (more : List Bool)
    → next ue (record { place = p; rest = (replicate (31 - count_leading_zeros 32 (v + 1)) false ++ word (31 - count_leading_zeros 32 (v + 1) + 1) (v + 1)) ++ more })
    ≡ Ok (v, record { place = p + length (replicate (31 - count_leading_zeros 32 (v + 1)) false ++ word (31 - count_leading_zeros 32 (v + 1) + 1) (v + 1)); rest = more })
coded-digits v h p more =
    let n = 31 - count_leading_zeros 32 (v + 1) in
    let t = top_of v h in
    let k = replicate n false ++ word (n + 1) (v + 1) in
    let long : length k ≡ n + 1 + n = simp (length-append, length-replicate, length-word) (omega arith) in
    let top : word (n + 1) (v + 1) ≡ true ∷ word n (v + 1) = ap (λ x. word x (v + 1)) (add-one n) ∙ word-top n (v + 1) t.0 t.1 in
    let split : k ++ more ≡ replicate n false ++ (true ∷ (word n (v + 1) ++ more)) = append_assoc (replicate n false) (word (n + 1) (v + 1)) more ∙ ap (λ x. replicate n false ++ (x ++ more)) top in
    let split2 : k ++ more ≡ (replicate n false ++ (true ∷ [])) ++ (word n (v + 1) ++ more) = split ∙ sym (append_assoc (replicate n false) (true ∷ []) (word n (v + 1) ++ more)) in
    let z : zeros (k ++ more) ≡ n = ap zeros split ∙ zeros-run n (word n (v + 1) ++ more) in
    let fits : n + 1 + n ≤ length (k ++ more) = omega (arith, length-append k more) in
    let front : length (replicate n false ++ (true ∷ [])) ≡ n + 1 = simp (length-append, length-replicate) refl in
    let mid : take n (drop (n + 1) (k ++ more)) ≡ word n (v + 1) =
    ap (λ l. take n (drop (n + 1) l)) split2 ∙ ap (take n) (drop_at (replicate n false ++ (true ∷ [])) (word n (v + 1) ++ more) (n + 1) front) ∙ take_at (word n (v + 1)) more n (length-word n (v + 1)) in
    let val : 2 ^ n - 1 + number (take n (drop (n + 1) (k ++ more))) ≡ v =
    ap (λ l. 2 ^ n - 1 + number l) mid ∙ omega (arith, number_word n (v + 1), low_part n (v + 1) t.0 t.1, pow_pos n, t.0) in
    let end : drop (n + 1 + n) (k ++ more) ≡ more = drop_at k more (n + 1 + n) long in
    ue-of (k ++ more) n p z t.2 fits ∙ (λ i. Ok (val i, record { place = p + sym long i; rest = end i }))

coded-ue : (v : ℕ) → v + 1 < 2 ^ 32 → Coded ue v
coded-ue v h p more =
    subst (λ l. next ue (record { place = p; rest = l ++ more }) ≡ Ok (v, record { place = p + length l; rest = more })) (sym (ue-code v h)) (coded-digits v h p more)

pub coded-reads : (c : Code) (v : ℕ) → Inside c v → Coded c v
unfolding next_u next_ue coded_ue
coded-reads (u w) v i p more = coded-u w v i p more
coded-reads ue v i p more = coded-ue v i p more
coded-reads (within c ok) v i p more =
    ap (λ r. and_then r (λ a. judged (ok a.0) p a)) (coded-reads c v i.0 p more) ∙ ap (λ b. judged b p (v, record { place = p + length (coded c v); rest = more })) i.1

-- ---- read, then coded

pub record Step (c : Code) (v : ℕ) (s t : Left) : Type 0 where
  pub bits : s.rest ≡ coded c v ++ t.rest
  pub place : t.place ≡ s.place + length (coded c v)
  pub inside : Inside c v

pub err-ok : {A : Type 0} {e : FieldFault} {a : A} → ◌≡◌ {A = Result A FieldFault} (Err e) (Ok a) → ⊥
err-ok h = let z : ◌≡◌ {A = ℕ} 0 1 = cc in omega arith

pub seen : {A : Type 0} (r : Result A FieldFault) → ((a : A) × (r ≡ Ok a)) ⊎ ((e : FieldFault) × (r ≡ Err e))
seen (Ok a) = inl (a, refl)
seen (Err e) = inr (e, refl)

moved : (c : Code) (v w : ℕ) (s t q : Left) → ◌≡◌ {A = Result (ℕ × Left) FieldFault} (Ok (v, t)) (Ok (w, q)) → Step c v s t → Step c w s q
moved c v w s t q e h = let p = ok-parts e in subst (λ x. Step c w s x) p.1 (subst (λ x. Step c x s t) p.0 h)

pub word_of : (l : List Bool) (w : ℕ) → length l ≡ w → word w (number l) ≡ l
word_of l w e = subst (λ x. word x (number l) ≡ l) e (word_number l)

step-u : (w v : ℕ) (s t : Left) → next (u w) s ≡ Ok (v, t) → Step (u w) v s t
unfolding next_u next_ue coded_ue
step-u w v s t e =
    ⊎_elim
    (λ b.
    let f : Ok (number (take w s.rest), past w s) ≡ Ok (v, t) = rw b at e in
    let l = take w s.rest in
    let long : length l ≡ w = length-take-le w s.rest (leb-true w (length s.rest) b) in
    moved (u w) (number l) v s (past w s) t f
    (record {
      bits = sym (ap (λ x. x ++ drop w s.rest) (word_of l w long) ∙ take-append-drop w s.rest);
      place = ap (λ x. s.place + x) (sym (length-word w (number l)));
      inside = subst (λ x. number l < 2 ^ x) long (number_lt l);
    }))
    (λ b. absurd (err-ok (rw b at e)))
    (cases_Bool (leb w (length s.rest)))

take-zeros : (l : List Bool) → take (zeros l) l ≡ replicate (zeros l) false
unfolding zeros
take-zeros [] = refl
take-zeros (true ∷ l) = refl
take-zeros (false ∷ l) = ap (λ x. false ∷ x) (take-zeros l)

step-ue : (v : ℕ) (s t : Left) → next ue s ≡ Ok (v, t) → Step ue v s t
unfolding next_u next_ue coded_ue
step-ue v s t e =
    let l = s.rest in
    let n = zeros l in
    ⊎_elim
    (λ a. absurd (err-ok (rw a at e)))
    (λ (a : leb 32 (zeros s.rest) ≡ false).
    ⊎_elim
    (λ (b : leb (zeros s.rest + 1 + zeros s.rest) (length s.rest) ≡ true).
    let small = leb-false 32 n a in
    let fits = leb-true (n + 1 + n) (length l) b in
    let f = sym (ue-of l n s.place refl small fits) ∙ e in
    let x = take n (drop (n + 1) l) in
    let m = 2 ^ n - 1 + number x in
    let long : length x ≡ n = length-take-le n (drop (n + 1) l) (simp length-drop (omega arith)) in
    let below : number x < 2 ^ n = subst (λ z. number x < 2 ^ z) long (number_lt x) in
    let pos = pow_pos n in
    let sum : m + 1 ≡ 2 ^ n + number x = omega arith in
    let far : suc n ≤ 32 = omega arith in
    let more : 2 ^ suc n ≤ 2 ^ 32 = pow_mono far in
    let lead : 31 - count_leading_zeros 32 (m + 1) ≡ n =
    let r = leading_unique 32 (m + 1) (31 - n) (suc n) (omega arith) (omega (arith, pow-suc 2 n)) (omega (arith, pow-suc 2 n)) in omega arith in
    let one : number (true ∷ x) ≡ m + 1 = number-one x ∙ ap (λ z. 2 ^ z + number x) long ∙ sym sum in
    let wd : word (n + 1) (m + 1) ≡ true ∷ x = ap (word (n + 1)) (sym one) ∙ word_of (true ∷ x) (n + 1) (ap suc long ∙ sym (add-one n)) in
    let small-m : m + 1 < 2 ^ 32 = omega (arith, pow-suc 2 n) in
    let code : coded ue m ≡ replicate n false ++ (true ∷ x) = ue-code m small-m ∙ ap (λ z. replicate z false ++ word (z + 1) (m + 1)) lead ∙ ap (λ z. replicate n false ++ z) wd in
    let tail : drop n l ≡ true ∷ (x ++ drop (n + 1 + n) l) =
    drop-zeros l (omega arith) ∙ ap (λ z. true ∷ z) (sym (take-append-drop n (drop (n + 1) l)) ∙ ap (λ z. x ++ z) (drop-drop n (n + 1) l)) in
    moved ue m v s (past (n + 1 + n) s) t f
    (record {
      bits = sym (take-append-drop n l) ∙ (λ i. take-zeros l i ++ tail i) ∙ sym (append_assoc (replicate n false) (true ∷ x) (drop (n + 1 + n) l)) ∙ ap (λ z. z ++ drop (n + 1 + n) l) (sym code);
      place = ap (λ z. s.place + z) (sym (ap length code ∙ simp (length-append, length-replicate) (omega arith)));
      inside = omega (arith, pow-suc 2 n);
    }))
    (λ (b : leb (zeros s.rest + 1 + zeros s.rest) (length s.rest) ≡ false). absurd (err-ok (rw (a, b) at e)))
    (cases_Bool (leb (n + 1 + n) (length l))))
    (cases_Bool (leb 32 n))

judged-ok : (b : Verdict) (p v w : ℕ) (s t : Left) → judged {A = ℕ × Left} b p (v, s) ≡ Ok (w, t) → (b ≡ fine) × (◌≡◌ {A = Result (ℕ × Left) FieldFault} (Ok (v, s)) (Ok (w, t)))
judged-ok fine p v w s t e = (refl, e)
judged-ok out_of_range p v w s t e = absurd (err-ok e)
judged-ok past_limit p v w s t e = absurd (err-ok e)

pub step : (c : Code) (v : ℕ) (s t : Left) → next c s ≡ Ok (v, t) → Step c v s t
unfolding next_u next_ue coded_ue
step (u w) v s t e = step-u w v s t e
step ue v s t e = step-ue v s t e
step (within c ok) v s t e =
    ⊎_elim
    (λ a.
    let f : judged (ok a.0.0) s.place a.0 ≡ Ok (v, t) = rw a.1 at e in
    let j = judged-ok (ok a.0.0) s.place a.0.0 v a.0.1 t f in
    let q = ok-parts j.1 in
    let h = step c v s t (a.1 ∙ j.1) in
    record { bits = h.bits; place = h.place; inside = (h.inside, subst (λ x. ok x ≡ fine) q.0 j.0) })
    (λ a. absurd (err-ok (rw a.1 at e)))
    (seen (next c s))
