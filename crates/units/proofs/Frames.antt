-- Framed messages, read again; and bytes that were read, framed again.
use Rattle.std.proofs.Common.{◌≡◌, ℕ, zero, suc, ◌+◌, ◌-◌, ◌*◌, ◌/◌, ◌%◌, ◌<◌, ◌≤◌, true, ltb, leb, List, [], ◌∷◌, ◌++◌, length, take, drop, replicate, IfSome, Some, None, Option, sym, refl, ap, ◌∙◌, append_assoc, mod-lt, arith, lit<, length-append, take-append-drop}
use Rattle.std.proofs.Math.Nat.{mod-add-div'}
use Rattle.std.proofs.Math.Pow.{are_bytes}
use Rattle.std.proofs.lemmas.List.{take_at, drop_at, length-take-le}
use Rattle.std.proofs.lemmas.Bool.{cond-true, le-leb, lt-ltb, leb-true, ltb-true, ltb-false, and_parts}
use Rattle.layouts.specs.Frames.{Message, count, framed, frames}
use Rattle.layouts.proofs.Framed.{count-more, count-last}
use Rattle.units.specs.Units.{Limited, AllLimited, counted, cut, message, first_message, parts_in, heard, unheard}
use Rattle.units.proofs.Parts.{found-then, found-cond, heard-more, heard-none, unheard-more, unheard-none}

-- a count reads as its number
some_pair : {A B : Type 0} (a c : A) (b : B) → a ≡ c → ◌≡◌ {A = Option (A × B)} (Some (a, b)) (Some (c, b))
some_pair a c b e = rw e

counted-row : (q sum r : ℕ) (rest : List ℕ) → r < 255 → sum + (q * 255 + r) ≤ 65535 → counted sum ((replicate q 255 ++ (r ∷ [])) ++ rest) ≡ Some (sum + (q * 255 + r), rest)
counted-row zero sum r rest h k =
    cond-true (leb (sum + r) 65535) _ None (le-leb (sum + r) 65535 (omega arith))
    ∙ (cond-true (ltb r 255) (Some (sum + r, rest)) _ (lt-ltb r 255 h) ∙ some_pair (sum + r) (sum + (zero * 255 + r)) rest (omega arith))
counted-row (suc q) sum r rest h k =
    cond-true (leb (sum + 255) 65535) _ None (le-leb (sum + 255) 65535 (omega arith))
    ∙ (counted-row q (sum + 255) r rest h (omega arith) ∙ some_pair (sum + 255 + (q * 255 + r)) (sum + (suc q * 255 + r)) rest (omega arith))

counted-count : (n : ℕ) (rest : List ℕ) → n ≤ 65535 → counted 0 (count n ++ rest) ≡ Some (n, rest)
unfolding count
counted-count n rest h =
    let e : n / 255 * 255 + n % 255 ≡ n = omega (arith, mod-add-div' n 255) in
    counted-row (n / 255) 0 (n % 255) rest (mod-lt n (lit< tt)) (omega arith) ∙ some_pair (0 + (n / 255 * 255 + n % 255)) n rest (omega arith)

cut_at : (p rest : List ℕ) → cut (length p) (p ++ rest) ≡ Some (p, rest)
cut_at p rest =
    cond-true (leb (length p) (length (p ++ rest))) _ None (le-leb (length p) (length (p ++ rest)) (omega (arith, length-append p rest)))
    ∙ (rw (take_at p rest (length p) refl, drop_at p rest (length p) refl))

-- a framed message reads as itself
pub message-framed : (m : Message) (rest : List ℕ) → Limited m → message (framed m ++ rest) ≡ Some (m, rest)
unfolding message framed
message-framed m rest h =
    let t : List ℕ = count (length m.1) ++ m.1 in
    let e1 : counted 0 ((count m.0 ++ t) ++ rest) ≡ Some (m.0, t ++ rest) = rw (append_assoc (count m.0) t rest) (counted-count m.0 (t ++ rest) h.0) in
    let e2 : counted 0 (t ++ rest) ≡ Some (length m.1, m.1 ++ rest) = rw (append_assoc (count (length m.1)) m.1 rest) (counted-count (length m.1) (m.1 ++ rest) h.1) in
    let e3 : cut (length m.1) (m.1 ++ rest) ≡ Some (m.1, rest) = cut_at m.1 rest in
    rw (e1, e2, e3)

-- and so do framed messages before what is no message
pub heard-frames : (ms : List Message) (rest : List ℕ) → AllLimited ms → message rest ≡ None → heard (frames ms ++ rest) ≡ ms
heard-frames [] rest h e = heard-none rest e
heard-frames (m ∷ ms) rest h e =
    ap heard (append_assoc (framed m) (frames ms) rest)
    ∙ (heard-more (framed m ++ (frames ms ++ rest)) (frames ms ++ rest) m (message-framed m (frames ms ++ rest) h.0) ∙ ap (λ (l : List Message). m ∷ l) (heard-frames ms rest h.1 e))

pub unheard-frames : (ms : List Message) (rest : List ℕ) → AllLimited ms → message rest ≡ None → unheard (frames ms ++ rest) ≡ rest
unheard-frames [] rest h e = unheard-none rest e
unheard-frames (m ∷ ms) rest h e =
    ap unheard (append_assoc (framed m) (frames ms) rest)
    ∙ (unheard-more (framed m ++ (frames ms ++ rest)) (frames ms ++ rest) m (message-framed m (frames ms ++ rest) h.0) ∙ unheard-frames ms rest h.1 e)

-- what was read as a count, counted again
abbrev Back : ℕ → List ℕ → ℕ × List ℕ → Type 0
Back sum bs r = (sum ≤ r.0) × (r.0 ≤ 65535) × (bs ≡ count (r.0 - sum) ++ r.1) × (are_bytes r.1 ≡ true)

found_map : {A : Type 0} (P Q : A → Type 0) (o : Option A) → ((a : A) → P a → Q a) → IfSome o P → IfSome o Q
found_map P Q None f h = tt
found_map P Q (Some a) f h = f a h

back_last : (sum b : ℕ) (bs : List ℕ) → sum + b ≤ 65535 → b < 255 → are_bytes bs ≡ true → Back sum (b ∷ bs) (sum + b, bs)
back_last sum b bs h k l =
    let i : sum + b - sum ≡ b = omega arith in
    (omega arith, h, ap (λ (xs : List ℕ). xs ++ bs) (sym (ap count i ∙ count-last b k)), l)

back_more : (sum b : ℕ) (bs : List ℕ) → b ≡ 255 → (r : ℕ × List ℕ) → Back (sum + b) bs r → Back sum (b ∷ bs) r
back_more sum b bs e r h =
    let k : sum + b ≤ r.0 = h.0 in
    let i : r.0 - sum - 255 ≡ r.0 - (sum + b) = omega arith in
    let c : count (r.0 - sum) ≡ 255 ∷ count (r.0 - (sum + b)) = count-more (r.0 - sum) (omega arith) ∙ ap (λ (n : ℕ). 255 ∷ count n) i in
    (omega arith, h.1, ap (λ (x : ℕ). x ∷ bs) e ∙ (ap (λ (l : List ℕ). 255 ∷ l) h.2 ∙ ap (λ (l : List ℕ). l ++ r.1) (sym c)), h.3)

back_count : (sum : ℕ) (bs : List ℕ) → are_bytes bs ≡ true → IfSome (counted sum bs) (Back sum bs)
back_count sum [] h = tt
back_count sum (b ∷ bs) h =
    let p : (ltb b 256 ≡ true) × (are_bytes bs ≡ true) = and_parts (ltb b 256) (are_bytes bs) h in
    let byte : b < 256 = ltb-true b 256 p.0 in
    found-cond (Back sum (b ∷ bs)) (leb (sum + b) 65535) _ None
    (λ e. found-cond (Back sum (b ∷ bs)) (ltb b 255) (Some (sum + b, bs)) (counted (sum + b) bs)
    (λ f. back_last sum b bs (leb-true (sum + b) 65535 e) (ltb-true b 255 f) p.1)
    (λ f. let full : b ≡ 255 = (let k : 255 ≤ b = ltb-false b 255 f in omega arith) in
    found_map (Back (sum + b) bs) (Back sum (b ∷ bs)) (counted (sum + b) bs) (back_more sum b bs full) (back_count (sum + b) bs p.1)))
    (λ e. tt)

bytes_drop : (n : ℕ) (bs : List ℕ) → are_bytes bs ≡ true → are_bytes (drop n bs) ≡ true
bytes_drop zero bs h = h
bytes_drop (suc n) [] h = h
bytes_drop (suc n) (b ∷ bs) h = bytes_drop n bs (and_parts (ltb b 256) (are_bytes bs) h).1

abbrev Cut : ℕ → List ℕ → List ℕ × List ℕ → Type 0
Cut n bs r = (bs ≡ r.0 ++ r.1) × (length r.0 ≡ n) × (are_bytes r.1 ≡ true)

back_cut : (n : ℕ) (bs : List ℕ) → are_bytes bs ≡ true → IfSome (cut n bs) (Cut n bs)
back_cut n bs h =
    found-cond (Cut n bs) (leb n (length bs)) (Some (take n bs, drop n bs)) None
    (λ e. (sym (take-append-drop n bs), length-take-le n bs (leb-true n (length bs) e), bytes_drop n bs h))
    (λ e. tt)

-- what was read as a message, framed again
abbrev Framed : List ℕ → Message × List ℕ → Type 0
Framed bs r = (bs ≡ framed r.0 ++ r.1) × Limited r.0 × (are_bytes r.1 ≡ true)

joined : (bs cs ds p rest : List ℕ) (t n : ℕ) → bs ≡ count (t - 0) ++ cs → cs ≡ count (n - 0) ++ ds → ds ≡ p ++ rest → length p ≡ n → bs ≡ framed (t, p) ++ rest
unfolding framed
joined bs cs ds p rest t n e f g h =
    let i : t - 0 ≡ t = omega arith in
    let j : n - 0 ≡ length p = omega arith in
    e ∙ (ap (λ (x : ℕ). count x ++ cs) i ∙ (ap (λ (l : List ℕ). count t ++ l) (f ∙ (ap (λ (x : ℕ). count x ++ ds) j ∙ (ap (λ (l : List ℕ). count (length p) ++ l) g ∙ sym (append_assoc (count (length p)) p rest))))
    ∙ sym (append_assoc (count t) (count (length p) ++ p) rest)))

pub back-message : (bs : List ℕ) → are_bytes bs ≡ true → IfSome (message bs) (Framed bs)
unfolding message
back-message bs h =
    found-then (Back 0 bs) (Framed bs) (counted 0 bs) _ (back_count 0 bs h) (λ t h2.
    found-then (Back 0 t.1) (Framed bs) (counted 0 t.1) _ (back_count 0 t.1 h2.3) (λ n h3.
    found-then (Cut n.0 n.1) (Framed bs) (cut n.0 n.1) _ (back_cut n.0 n.1 h3.3) (λ p h4.
    (joined bs t.1 n.1 p.0 p.1 t.0 n.0 h2.2 h3.2 h4.0 h4.1, (h2.1, omega (arith, h4.1, h3.1)), h4.2))))

-- and so are messages one after the other
abbrev AllFramed : List ℕ → List Message × List ℕ → Type 0
AllFramed bs r = (bs ≡ frames r.0 ++ r.1) × AllLimited r.0

back-first : (o : Option (Message × List ℕ)) (bs : List ℕ) (more : List ℕ → List Message × List ℕ) → IfSome o (Framed bs) → ((cs : List ℕ) → are_bytes cs ≡ true → AllFramed cs (more cs)) → AllFramed bs (first_message o bs more)
back-first None bs more h k = (refl, tt)
back-first (Some m) bs more h k =
    let r : AllFramed m.1 (more m.1) = k m.1 h.2 in
    (h.0 ∙ (ap (λ (l : List ℕ). framed m.0 ++ l) r.0 ∙ sym (append_assoc (framed m.0) (frames (more m.1).0) (more m.1).1)), (h.1, r.1))

pub back-parts : (n : ℕ) (bs : List ℕ) → are_bytes bs ≡ true → AllFramed bs (parts_in n bs)
unfolding parts_in
back-parts zero bs h = (refl, tt)
back-parts (suc n) bs h = back-first (message bs) bs (parts_in n) (back-message bs h) (back-parts n)
