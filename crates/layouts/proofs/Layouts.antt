-- The laws of layouts, from those of fields.
use Rattle.std.proofs.Common.{◌≡◌, ℕ, zero, suc, ◌+◌, ◌-◌, ◌*◌, ◌^◌, ◌<◌, ◌≤◌, Bool, true, false, cond, eqb, ltb, List, [], ◌∷◌, ◌++◌, length, take, drop, replicate, Ok, Result, sym, refl, ap, ◌∙◌, subst, ⊎_elim, mod-eq_of_lt, arith, length-append, length-drop, take-append-drop, length-take-le, take_at, drop_at, pow_pos}
use lib.ListN.{length-replicate}
use lib.Pow.{are_bytes}
use Rattle.std.proofs.lemmas.List.{append_cancel_left}
use Rattle.std.proofs.lemmas.Bool.{cases_Bool, and_parts, and_from, ltb-true, lt-ltb, eqb-true}
use Rattle.layouts.specs.declared.fault.FieldFault.{FieldFault}
use Rattle.layouts.specs.Bits.{word, number, bits_of}
use Rattle.layouts.specs.Layout.{Left, and_then, u, next, coded, closing, same, closes, Layout, close, extension, reserved, field, judge, judged, fine, out_of_range, past_limit, reads, writes, extent, Holds, Then, Plain, coded_ue, from}
use Rattle.layouts.specs.Payloads.{bytes_of, size, payload, Lawful}
use Rattle.layouts.proofs.Numbers.{length-word, length-bits, number_lt, number_word, bits-cons}
use Rattle.layouts.proofs.Closes.{same_refl, same-eq, closing-is}
use Rattle.layouts.proofs.Steps.{ok-parts}
use Rattle.layouts.proofs.Fields.{coded-reads, step, err-ok, seen, word-zero, word_of}

coded-zero : (w : ℕ) → coded (u w) 0 ≡ replicate w false
unfolding coded_ue
coded-zero w = word-zero w

-- w zeros that come next
next-zeros : (w p : ℕ) (more : List Bool) → next (u w) (record { place = p; rest = replicate w false ++ more }) ≡ Ok (0, record { place = p + w; rest = more })
next-zeros w p more =
    let e = coded-zero w in
    let n : length (coded (u w) 0) ≡ w = ap length e ∙ length-replicate w false in
    subst (λ x. next (u w) (record { place = p; rest = x ++ more }) ≡ Ok (0, record { place = p + w; rest = more })) e
    (coded-reads (u w) 0 (pow_pos w) p more ∙ ap (λ x. Ok (0, record { place = p + x; rest = more })) n)

closes-written : (p : ℕ) → closes (record { place = p; rest = closing p }) ≡ Ok tt
unfolding closes
closes-written p = rw (same_refl (closing p))

closes-only : (s : Left) → closes s ≡ Ok tt → s.rest ≡ closing s.place
unfolding closes
closes-only s e =
    ⊎_elim (λ b. same-eq s.rest (closing s.place) b) (λ b. absurd (err-ok (rw b at e))) (cases_Bool (same s.rest (closing s.place)))

-- ---- written, then read

pub written : (l : Layout) (p : ℕ) (vs : List ℕ) → Holds l vs → reads l (record { place = p; rest = writes l p vs }) ≡ Ok vs
written close p [] h = ap (λ r. and_then r (λ _. Ok [])) (closes-written p)
written close p (v ∷ vs) h = absurd h
written extension p [] h =
    ap (λ r. and_then (and_then r (λ a. cond (eqb a.0 1) (Ok tt) (closes a.1))) (λ _. Ok [])) (next-zeros 1 p (closing (p + 1)))
    ∙ ap (λ r. and_then r (λ _. Ok [])) (closes-written (p + 1))
written extension p (v ∷ vs) h = absurd h
written (reserved w l) p vs h = ap (λ r. and_then r (λ a. reads l a.1)) (next-zeros w p (writes l (p + w) vs)) ∙ written l (p + w) vs h
written (field c l) p [] h = absurd h
written (field c l) p (v ∷ vs) h =
    ap (λ r. and_then r (λ a. and_then (reads (l a.0) a.1) (λ ws. Ok (a.0 ∷ ws)))) (coded-reads c v h.0 p (writes (l v) (p + length (coded c v)) vs))
    ∙ ap (λ r. and_then r (λ ws. Ok (v ∷ ws))) (written (l v) (p + length (coded c v)) vs h.1)
written (judge n v l) p vs h =
    let s : Left = record { place = p; rest = writes l p vs } in
    ap (λ j. and_then (judged j (p - n) s) (λ t. reads l t)) h.0 ∙ written l p vs h.1

-- ---- read, then written

pub record Back (l : Layout) (s : Left) (vs : List ℕ) : Type 0 where
  pub holds : Holds l vs
  pub plain : Plain l s → s.rest ≡ writes l s.place vs
  pub only : s.rest ≡ writes l s.place vs → Plain l s

ok-is : {A : Type 0} {a b : A} → ◌≡◌ {A = Result A FieldFault} (Ok a) (Ok b) → a ≡ b
ok-is e = cc

-- w bits that are read as a number, and w zeros
record Zeros (w n : ℕ) (s t : Left) : Type 0 where
  pub place : t.place ≡ s.place + w
  pub bits : n ≡ 0 → s.rest ≡ replicate w false ++ t.rest
  pub none : (more : List Bool) → s.rest ≡ replicate w false ++ more → (n ≡ 0) × (t.rest ≡ more)

length-coded : (w n : ℕ) → length (coded (u w) n) ≡ w
unfolding coded_ue
length-coded w n = length-word w n

zeros-next : (w n : ℕ) (s t : Left) → next (u w) s ≡ Ok (n, t) → Zeros w n s t
zeros-next w n s t e =
    let st = step (u w) n s t e in
    record {
      place = st.place ∙ ap (λ x. s.place + x) (length-coded w n);
      bits = λ z. st.bits ∙ ap (λ x. coded (u w) x ++ t.rest) z ∙ ap (λ x. x ++ t.rest) (coded-zero w);
      none = λ more h.
          let f : next (u w) s ≡ Ok (0, record { place = s.place + w; rest = more }) = ap (λ x. next (u w) (record { place = s.place; rest = x })) h ∙ next-zeros w s.place more in
          let q = ok-parts (sym e ∙ f) in
          (q.0, ap (λ x. x.rest) q.1);
    }

back-close : (s : Left) (vs : List ℕ) → reads close s ≡ Ok vs → Back close s vs
back-close s vs e =
    ⊎_elim
    (λ a.
    let f : Ok [] ≡ Ok vs = rw a.1 at e in
    subst (λ x. Back close s x) (ok-is f) (record { holds = tt; plain = λ _. closes-only s a.1; only = λ _. tt }))
    (λ a. absurd (err-ok (rw a.1 at e)))
    (seen (closes s))

back-extension : (s : Left) (vs : List ℕ) → reads extension s ≡ Ok vs → Back extension s vs
back-extension s vs e =
    ⊎_elim
    (λ a.
    let n = a.0.0 in
    let t = a.0.1 in
    let z = zeros-next 1 n s t a.1 in
    let f : and_then (cond (eqb n 1) (Ok tt) (closes t)) (λ _. Ok []) ≡ Ok vs = rw a.1 at e in
    let only : s.rest ≡ false ∷ closing (s.place + 1) → Then (next (u 1) s) (λ m _. m ≡ 0) =
    λ h. rw a.1 (z.none (closing (s.place + 1)) h).0 in
    ⊎_elim
    (λ b.
    let g : Ok [] ≡ Ok vs = rw b at f in
    let one = eqb-true n 1 b in
    subst (λ x. Back extension s x) (ok-is g)
    (record { holds = tt; plain = λ p. let q : n ≡ 0 = rw a.1 at p in absurd (omega arith); only = only }))
    (λ b.
    let g : and_then (closes t) (λ _. Ok []) ≡ Ok vs = rw b at f in
    let back = back-close t vs g in
    let end : t.rest ≡ closing (s.place + 1) = back.plain tt ∙ ap closing z.place in
    subst (λ x. Back extension s x) (nil-of vs back.holds)
    (record { holds = tt; plain = λ p. let q : n ≡ 0 = rw a.1 at p in z.bits q ∙ ap (λ x. false ∷ x) end; only = only }))
    (cases_Bool (eqb n 1)))
    (λ a. absurd (err-ok (rw a.1 at e)))
    (seen (next (u 1) s))
  where
    nil-of : (ws : List ℕ) → Holds close ws → [] ≡ ws
    nil-of [] h = refl
    nil-of (w ∷ ws) h = absurd h

pub back : (l : Layout) (s : Left) (vs : List ℕ) → reads l s ≡ Ok vs → Back l s vs
back close s vs e = back-close s vs e
back extension s vs e = back-extension s vs e
back (reserved w l) s vs e =
    ⊎_elim
    (λ a.
    let n = a.0.0 in
    let t = a.0.1 in
    let z = zeros-next w n s t a.1 in
    let f : reads l t ≡ Ok vs = rw a.1 at e in
    let h = back l t vs f in
    record {
      holds = h.holds;
      plain = λ p.
          let q : (n ≡ 0) × Plain l t = rw a.1 at p in
          z.bits q.0 ∙ ap (λ x. replicate w false ++ x) (h.plain q.1 ∙ ap (λ x. writes l x vs) z.place);
      only = λ r.
          let q = z.none (writes l (s.place + w) vs) r in
          rw a.1 (q.0, h.only (q.1 ∙ ap (λ x. writes l x vs) (sym z.place)));
    })
    (λ a. absurd (err-ok (rw a.1 at e)))
    (seen (next (u w) s))
back (field c l) s vs e =
    ⊎_elim
    (λ a.
    let n = a.0.0 in
    let t = a.0.1 in
    let st = step c n s t a.1 in
    let f : and_then (reads (l n) t) (λ ws. Ok (n ∷ ws)) ≡ Ok vs = rw a.1 at e in
    ⊎_elim
    (λ b.
    let ws = b.0 in
    let g : Ok (n ∷ ws) ≡ Ok vs = rw b.1 at f in
    let h = back (l n) t ws b.1 in
    subst (λ x. Back (field c l) s x) (ok-is g)
    (record {
      holds = (st.inside, h.holds);
      plain = λ p.
          let q : Plain (l n) t = rw a.1 at p in
          st.bits ∙ ap (λ x. coded c n ++ x) (h.plain q ∙ ap (λ x. writes (l n) x ws) st.place);
      only = λ r.
          let q : t.rest ≡ writes (l n) (s.place + length (coded c n)) ws = append_cancel_left (coded c n) t.rest (writes (l n) (s.place + length (coded c n)) ws) (sym st.bits ∙ r) in
          rw a.1 (h.only (q ∙ ap (λ x. writes (l n) x ws) (sym st.place)));
    }))
    (λ b. absurd (err-ok (rw b.1 at f)))
    (seen (reads (l n) t)))
    (λ a. absurd (err-ok (rw a.1 at e)))
    (seen (next c s))
back (judge n fine l) s vs e = let h = back l s vs e in record { holds = (refl, h.holds); plain = h.plain; only = h.only }
back (judge n out_of_range l) s vs e = absurd (err-ok e)
back (judge n past_limit l) s vs e = absurd (err-ok e)

-- ---- bytes with equal bits are equal

pub bits-same : (xs ys : List ℕ) → are_bytes xs ≡ true → are_bytes ys ≡ true → bits_of xs ≡ bits_of ys → xs ≡ ys
bits-same [] [] h k e = refl
bits-same [] (y ∷ ys) h k e = absurd (omega (arith, length-bits (y ∷ ys), length-bits [], ap length e))
bits-same (x ∷ xs) [] h k e = absurd (omega (arith, length-bits (x ∷ xs), length-bits [], ap length e))
bits-same (x ∷ xs) (y ∷ ys) h k e =
    let hp = and_parts (ltb x 256) (are_bytes xs) h in
    let kp = and_parts (ltb y 256) (are_bytes ys) k in
    let f = sym (bits-cons x xs) ∙ e ∙ bits-cons y ys in
    let head : word 8 x ≡ word 8 y = sym (take_at (word 8 x) (bits_of xs) 8 (length-word 8 x)) ∙ ap (take 8) f ∙ take_at (word 8 y) (bits_of ys) 8 (length-word 8 y) in
    let tail : bits_of xs ≡ bits_of ys = sym (drop_at (word 8 x) (bits_of xs) 8 (length-word 8 x)) ∙ ap (drop 8) f ∙ drop_at (word 8 y) (bits_of ys) 8 (length-word 8 y) in
    let one : x ≡ y = sym (mod-eq_of_lt (ltb-true x 256 hp.0)) ∙ sym (number_word 8 x) ∙ ap number head ∙ number_word 8 y ∙ mod-eq_of_lt (ltb-true y 256 kp.0) in
    λ i. one i ∷ bits-same xs ys hp.1 kp.1 tail i

-- ---- the bytes of a record

bits-bytes : (n : ℕ) (bs : List Bool) → length bs ≡ 8 * n → bits_of (bytes_of n bs) ≡ bs
unfolding bytes_of bits_of
bits-bytes zero [] h = refl
bits-bytes zero (b ∷ bs) h = absurd (omega arith)
bits-bytes (suc n) bs h =
    let e : length (take 8 bs) ≡ 8 = length-take-le 8 bs (omega arith) in
    bits-cons (number (take 8 bs)) (bytes_of n (drop 8 bs))
    ∙ (λ i. word_of (take 8 bs) 8 e i ++ bits-bytes n (drop 8 bs) (simp length-drop (omega arith)) i) ∙ take-append-drop 8 bs

bytes-bytes : (n : ℕ) (bs : List Bool) → 8 * n ≤ length bs → are_bytes (bytes_of n bs) ≡ true
unfolding bytes_of
bytes-bytes zero bs h = refl
bytes-bytes (suc n) bs h =
    let e : length (take 8 bs) ≡ 8 = length-take-le 8 bs (omega arith) in
    let small : number (take 8 bs) < 256 = subst (λ k. number (take 8 bs) < 2 ^ k) e (number_lt (take 8 bs)) in
    and_from (ltb (number (take 8 bs)) 256) (are_bytes (bytes_of n (drop 8 bs))) (lt-ltb (number (take 8 bs)) 256 small) (bytes-bytes n (drop 8 bs) (simp length-drop (omega arith)))

length-bytes : (n : ℕ) (bs : List Bool) → length (bytes_of n bs) ≡ n
unfolding bytes_of
length-bytes zero bs = refl
length-bytes (suc n) bs = ap suc (length-bytes n (drop 8 bs))

-- its fields, and the closing bits
length-writes : (l : Layout) (p : ℕ) (vs : List ℕ) → Holds l vs → length (writes l p vs) ≡ extent l vs + length (closing (p + extent l vs))
length-writes close p vs h = let e : p ≡ p + 0 = omega arith in omega (arith, ap (λ q. length (closing q)) e)
length-writes extension p vs h = omega arith
length-writes (reserved w l) p vs h =
    let e : p + w + extent l vs ≡ p + (w + extent l vs) = omega arith in
    length-append (replicate w false) (writes l (p + w) vs) ∙ omega (arith, length-replicate w false, length-writes l (p + w) vs h, ap (λ q. length (closing q)) e)
length-writes (field c l) p [] h = absurd h
length-writes (field c l) p (v ∷ vs) h =
    let n = length (coded c v) in
    let e : p + n + extent (l v) vs ≡ p + (n + extent (l v) vs) = omega arith in
    length-append (coded c v) (writes (l v) (p + n) vs) ∙ omega (arith, length-writes (l v) (p + n) vs h.1, ap (λ q. length (closing q)) e)
length-writes (judge n v l) p vs h = length-writes l p vs h.1

pub length_whole : (l : Layout) (vs : List ℕ) → Holds l vs → length (writes l 0 vs) ≡ 8 * size l vs
length_whole l vs h = omega (arith, length-writes l 0 vs h, (closing-is (0 + extent l vs)).0)

pub bits-payload : (l : Layout) (vs : List ℕ) → Holds l vs → bits_of (payload l vs) ≡ writes l 0 vs
unfolding payload
bits-payload l vs h = bits-bytes (size l vs) (writes l 0 vs) (length_whole l vs h)

pub bytes-payload : (l : Layout) (vs : List ℕ) → Holds l vs → are_bytes (payload l vs) ≡ true
unfolding payload
bytes-payload l vs h = bytes-bytes (size l vs) (writes l 0 vs) (omega (arith, length_whole l vs h))

pub length-payload : (l : Layout) (vs : List ℕ) → length (payload l vs) ≡ size l vs
unfolding payload
length-payload l vs = length-bytes (size l vs) (writes l 0 vs)

pub lawful : (l : Layout) → Lawful l
lawful l = record {
  reads_as_written = λ vs h. ap (λ x. reads l (record { place = 0; rest = x })) (bits-payload l vs h) ∙ written l 0 vs h;
  reads_records = λ bytes vs e. (back l (from bytes 0) vs e).holds;
  same_when_plain = λ bytes vs h e.
      let b = back l (from bytes 0) vs e in
      let p = bits-payload l vs b.holds in
      (λ g. b.only (ap bits_of (sym g) ∙ p), λ g. bits-same (payload l vs) bytes (bytes-payload l vs b.holds) h (p ∙ sym (b.plain g)));
}
