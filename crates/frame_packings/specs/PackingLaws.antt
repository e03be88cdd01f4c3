-- Frame packing has the laws of a kind.
use Rattle.std.specs.Prelude.{◌≡◌, ℕ, ◌+◌, ◌*◌, ◌/◌, ◌<◌, ◌≤◌, Bool, true, false, cond, not, ltb, List, [], ◌∷◌, ◌++◌, map, length, Ok, Err, filter, Result, ◌==◌, nat_le, nat_lt, refl}
use Rattle.std.proofs.Common.{sym, ap, subst, ◌∙◌, append-nil, append_assoc, arith, length-append}
use Rattle.std.specs.List.{AllByRecursion}
use Rattle.std.proofs.ByRecursion.{All-append, all_kept_by, All-weaker, kept_by_passes}
use Rattle.std.proofs.lemmas.List.Filters.{length-filter_both}
use Rattle.std.proofs.lemmas.Bool.{lt-ltb, le-ltb, ltb-true, lt-leb, leb-false}
use Rattle.layouts.specs.declared.fault.FieldFault.{FieldFault}
use Rattle.layouts.specs.Frames.{framed, frames, under}
use Rattle.layouts.specs.Layout.{Left, and_then, judged, fine, out_of_range, next, ue, coded, Layout, extension, flag, reads, extent, Holds, from}
use Rattle.layouts.proofs.Extents.{length-ue}
use Rattle.layouts.proofs.Framed.{length-framed}
use Rattle.layouts.proofs.Layouts.{length-payload}
use Rattle.layouts.proofs.Numbers.{length-word}
use Rattle.records.specs.declared.fault.PayloadFault.{PayloadFault}
use Rattle.records.specs.declared.fault.PayloadFault.TheVariants.{TooLong}
use Rattle.frame_packing.specs.FramePacking.{content, layout, id_as}
use Rattle.frame_packing.specs.PackingIds.{reserved_id, unreserved}
use Rattle.records.specs.Record.{as_payload, reads_as}
use Rattle.frame_packing.specs.Lengths.{packing-takes, packing-whole-takes}
use Rattle.frame_packing.specs.Propers.{id-small}
use Rattle.kinds.specs.declared.fault.OfferFault.{OfferFault}
use Rattle.kinds.specs.declared.fault.OfferFault.TheVariants.{Full}
use Rattle.kinds.specs.Outcome.{granted, passed, refused}
use Rattle.kinds.specs.Model.{Lawful, Replay}
use Rattle.kinds.specs.Rulings.{ok-err, reads-holds, reads-payload}
use Rattle.frame_packings.specs.Packings.{Packed, packed, Rising, Proper, Sound, outlasts, lower, higher, joined, full, does, says, begins, payload_of, packing_model}

never : {A : Type 0} {m : List Packed} {f : OfferFault} → refused f ≡ granted m → A
never e = let z : ◌≡◌ {A = ℕ} 0 1 = cc in absurd (omega arith)

never-passed : {A : Type 0} {m : List Packed} → passed ≡ granted m → A
never-passed e = let z : ◌≡◌ {A = ℕ} 0 1 = cc in absurd (omega arith)

granted-is : {m n : List Packed} → granted m ≡ granted n → m ≡ n
granted-is e = cc

-- ---- lists that rise

pub kept-rising : (p : Packed → Bool) (m : List Packed) → Rising m → Rising (filter p m)
kept-rising p [] r = tt
kept-rising p (x ∷ xs) r = go (p x) (kept-rising p xs r.1)
  where
    go : (b : Bool) → Rising (filter p xs) → Rising (cond b (x ∷ filter p xs) (filter p xs))
    go true k = (all_kept_by p (λ y. x.id < y.id) xs r.0, k)
    go false k = k

kept-short : (p : Packed → Bool) (m : List Packed) → length (filter p m) ≤ length m
kept-short p m = omega (arith, length-filter_both p (λ x. not (p x)) (λ _. refl) m)

-- all of the first below all of the second
append-rising : (xs ys : List Packed) (n : ℕ) → Rising xs → Rising ys → AllByRecursion (λ x. x.id < n) xs → AllByRecursion (λ y. n ≤ y.id) ys → Rising (xs ++ ys)
append-rising [] ys n r s a b = s
append-rising (x ∷ xs) ys n r s a b =
    (All-append (λ y. x.id < y.id) xs ys r.0 (All-weaker (λ y. n ≤ y.id) (λ y. x.id < y.id) (λ y h. omega (arith, a.0)) ys b), append-rising xs ys n r.1 s a.1 b)

lower-below : (n : ℕ) (m : List Packed) → AllByRecursion (λ x. x.id < n) (lower n m)
lower-below n m = All-weaker (λ x. nat_lt x.id n ≡ true) (λ x. x.id < n) (λ x h. ltb-true x.id n h) (lower n m) (kept_by_passes (λ x. ltb x.id n) m)

higher-above : (n : ℕ) (m : List Packed) → AllByRecursion (λ x. n < x.id) (higher n m)
higher-above n m = All-weaker (λ x. nat_lt n x.id ≡ true) (λ x. n < x.id) (λ x h. ltb-true n x.id h) (higher n m) (kept_by_passes (λ x. ltb n x.id) m)

pub joined-rising : (x : Packed) (m : List Packed) → Rising m → Rising (joined x m)
joined-rising x m r =
    append-rising (lower x.id m) (x ∷ higher x.id m) x.id (kept-rising (λ y. ltb y.id x.id) m r) (higher-above x.id m, kept-rising (λ y. ltb x.id y.id) m r) (lower-below x.id m)
    (omega arith, All-weaker (λ y. x.id < y.id) (λ y. x.id ≤ y.id) (λ y h. omega arith) (higher x.id m) (higher-above x.id m))

joined_length : (x : Packed) (m : List Packed) → length (joined x m) ≡ length (lower x.id m) + length (higher x.id m) + 1
joined_length x m = omega (arith, length-append (lower x.id m) (x ∷ higher x.id m))

pub joined-sound : (x : Packed) (m : List Packed) → Sound m → Proper x → full x.id m ≡ false → Sound (joined x m)
joined-sound x m s p f = record {
  rising = joined-rising x m s.rising;
  few = omega (arith, joined_length x m, leb-false 4 (length (lower x.id m) + length (higher x.id m)) f);
  propers = All-append Proper (lower x.id m) (x ∷ higher x.id m) (all_kept_by (λ y. ltb y.id x.id) Proper m s.propers) (p, all_kept_by (λ y. ltb x.id y.id) Proper m s.propers);
}

pub kept-sound : (p : Packed → Bool) (m : List Packed) → Sound m → Sound (filter p m)
kept-sound p m s = record { rising = kept-rising p m s.rising; few = omega (arith, kept-short p m, s.few); propers = all_kept_by p Proper m s.propers }

pub none-sound : Sound []
none-sound = record { rising = tt; few = omega arith; propers = tt }

-- what holds of each holds of one among them
all-at : (P : Packed → Type 0) (xs ys : List Packed) (x : Packed) → AllByRecursion P (xs ++ x ∷ ys) → P x
all-at P [] ys x a = a.0
all-at P (y ∷ xs) ys x a = all-at P xs ys x a.1

turned-sound : (m : List Packed) (mark : Bool) → Sound m → Sound (cond mark [] (filter outlasts m))
turned-sound m true s = none-sound
turned-sound m false s = kept-sound outlasts m s

-- ---- what an offer leads to

rest-holds : (b : Bool) (vs : List ℕ) → b ≡ false → Holds (cond b extension content) vs → Holds content vs
rest-holds true vs e h = let z : ◌≡◌ {A = ℕ} 0 1 = omega (arith, ap (λ (x : Bool). cond {A = ℕ} x 1 0) e) in absurd (omega arith)
rest-holds false vs e h = h

does-sound : (m n : List Packed) (vs : List ℕ) → Sound m → Holds layout vs → does m vs ≡ granted n → Sound n
does-sound m n [] s h g = never-passed g
does-sound m n (id ∷ []) s h g = never-passed g
does-sound m n (id ∷ cancel ∷ vs) s h g = cancels (cancel == 1) refl g
  where
    fills : (b : Bool) → full id m ≡ b → (cancel == 1) ≡ false → cond b (refused Full) (granted (joined (packed id vs) m)) ≡ granted n → Sound n
    fills true e c g = never g
    fills false e c g = subst Sound (granted-is g) (joined-sound (packed id vs) m s (h.0, (rest-holds (cancel == 1) vs c h.1.1, refl)) e)

    cancels : (b : Bool) → (cancel == 1) ≡ b → cond b (granted []) (cond (full id m) (refused Full) (granted (joined (packed id vs) m))) ≡ granted n → Sound n
    cancels true c g = subst Sound (granted-is g) none-sound
    cancels false c g = fills (full id m) refl c g

says-sound : (m n : List Packed) (p : List ℕ) (r : Result (List ℕ) PayloadFault) → Sound m → reads_as layout p ≡ r → says m r ≡ granted n → Sound n
says-sound m n p (Ok vs) s e g = does-sound m n vs s (reads-holds layout p vs e) g
says-sound m n p (Err e) s f g = never g

begins-sound : (m n : List Packed) (p : List ℕ) (r : Result ℕ PayloadFault) → Sound m → begins m p r ≡ granted n → Sound n
begins-sound m n p (Err e) s g = never g
begins-sound m n p (Ok id) s g = go (reserved_id id) g
  where
    go : (b : Bool) → cond b passed (says m (reads_as layout p)) ≡ granted n → Sound n
    go true e = never-passed e
    go false e = says-sound m n p (reads_as layout p) s refl e

idles : (mark : Bool) → cond mark [] (filter outlasts []) ≡ []
idles true = refl
idles false = refl

-- ---- its part, offered again

-- the id that a message was read with is the one that is read alone, and is not reserved
abbrev AloneToo : ℕ → Result (ℕ × Left) FieldFault → Type 0
AloneToo id r = (as_payload (and_then r (λ a. Ok a.0)) ≡ Ok id) × (reserved_id id ≡ false)

first_rest : (n id : ℕ) (t : Left) (vs : List ℕ) (k : Result (List ℕ) FieldFault) → reserved_id n ≡ false → as_payload (and_then k (λ ws. Ok (n ∷ ws))) ≡ Ok (id ∷ vs) → AloneToo id (Ok (n, t))
first_rest n id t vs (Ok ws) f g = let e : n ≡ id = cc in (ap Ok e, ap reserved_id (sym e) ∙ f)
first_rest n id t vs (Err e) f g = ok-err g

first : (id place : ℕ) (vs : List ℕ) (l : ℕ → Layout) (r : Result (ℕ × Left) FieldFault)
    → as_payload (and_then (and_then r (λ a. judged (unreserved a.0) place a)) (λ a. and_then (reads (l a.0) a.1) (λ ws. Ok (a.0 ∷ ws)))) ≡ Ok (id ∷ vs) → AloneToo id r
first id place vs l (Err e) g = ok-err g
first id place vs l (Ok a) g = go (reserved_id a.0) refl g
  where
    go : (b : Bool) → reserved_id a.0 ≡ b → as_payload (and_then (judged (cond b out_of_range fine) place a) (λ c. and_then (reads (l c.0) c.1) (λ ws. Ok (c.0 ∷ ws)))) ≡ Ok (id ∷ vs) → AloneToo id (Ok a)
    go true f h = ok-err h
    go false f h = first_rest a.0 id a.1 vs (reads (l a.0) a.1) f h

pub id-first : (p vs : List ℕ) (id : ℕ) → reads_as layout p ≡ Ok (id ∷ vs) → (id_as p ≡ Ok id) × (reserved_id id ≡ false)
id-first p vs id e = short (nat_le (length p) 65535) e
  where
    short : (b : Bool) → cond b (as_payload (reads layout (from p 0))) (Err TooLong) ≡ Ok (id ∷ vs) → (cond b (as_payload (and_then (next ue (from p 0)) (λ a. Ok a.0))) (Err TooLong) ≡ Ok id) × (reserved_id id ≡ false)
    short true g = first id 0 vs (λ _. flag λ cancel. cond cancel extension content) (next ue (from p 0)) g
    short false g = ok-err g

-- what stands before x in a rising list is below it
front_below : (pre xs : List Packed) (x : Packed) → Rising (pre ++ x ∷ xs) → AllByRecursion (λ y. y.id < x.id) pre
front_below [] xs x r = tt
front_below (y ∷ ys) xs x r = (all-at (λ z. y.id < z.id) ys xs x r.0, front_below ys xs x r.1)

lower-all : (n : ℕ) (m : List Packed) → AllByRecursion (λ y. y.id < n) m → lower n m ≡ m
lower-all n [] a = refl
lower-all n (x ∷ xs) a = rw (lt-ltb x.id n a.0) (ap (λ l. x ∷ l) (lower-all n xs a.1))

higher-none : (n : ℕ) (m : List Packed) → AllByRecursion (λ y. y.id < n) m → higher n m ≡ []
higher-none n [] a = refl
higher-none n (x ∷ xs) a = let h : x.id ≤ n = omega (arith, a.0) in rw (le-ltb n x.id h) (higher-none n xs a.1)

again : (pre xs : List Packed) (x : Packed) → Sound (pre ++ x ∷ xs) → begins pre (payload_of x) (id_as (payload_of x)) ≡ granted (pre ++ x ∷ [])
again pre xs x s =
    let vs = x.thing.content in
    let p : Proper x = all-at Proper pre xs x s.propers in
    let holds : Holds layout (x.id ∷ 0 ∷ vs) = (p.0, (omega arith, p.1.0)) in
    let read : reads_as layout (payload_of x) ≡ Ok (x.id ∷ 0 ∷ vs) = reads-payload layout (x.id ∷ 0 ∷ vs) holds (omega (arith, packing-whole-takes (x.id ∷ 0 ∷ vs) holds)) in
    let alone = id-first (payload_of x) (0 ∷ vs) x.id read in
    let below = front_below pre xs x s.rising in
    let low = lower-all x.id pre below in
    let high = higher-none x.id pre below in
    let few : length pre < 4 = omega (arith, s.few, length-append pre (x ∷ xs)) in
    let room : full x.id pre ≡ false = lt-leb 4 (length (lower x.id pre) + length (higher x.id pre)) (omega (arith, ap length low, ap length high)) in
    let same : packed x.id vs ≡ x = λ i. record { id = x.id; thing = record { content = vs; stay = sym p.1.1 i } } in
    ap (begins pre (payload_of x)) alone.0
    ∙ ap (λ b. cond b passed (says pre (reads_as layout (payload_of x)))) alone.1
    ∙ ap (says pre) read
    ∙ ap (λ b. cond b (refused Full) (granted (joined (packed x.id vs) pre))) room
    ∙ (λ i. granted (low i ++ same i ∷ high i))

replays : (pre rest : List Packed) → Sound (pre ++ rest) → Replay packing_model pre (map payload_of rest) (pre ++ rest)
replays pre [] s = sym (append-nil pre)
replays pre (x ∷ xs) s =
    let e : (pre ++ x ∷ []) ++ xs ≡ pre ++ x ∷ xs = append_assoc pre (x ∷ []) xs in (
      pre ++ x ∷ [],
      (again pre xs x s, subst (λ m. Replay packing_model (pre ++ x ∷ []) (map payload_of xs) m) e (replays (pre ++ x ∷ []) xs (subst Sound (sym e) s))),
    )

-- ---- how long its part is

fine-id : (n : ℕ) → unreserved n ≡ fine → reserved_id n ≡ false
fine-id n e = go (reserved_id n) e
  where
    go : (b : Bool) → cond b out_of_range fine ≡ fine → b ≡ false
    go true e = let z : ◌≡◌ {A = ℕ} 0 1 = cc in absurd (omega arith)
    go false e = refl

-- with an id of at most k bits
framed-bits : (x : Packed) (k : ℕ) → k ≤ 63 → Proper x → length (coded ue x.id) ≤ k → length (framed (45, payload_of x)) ≤ 2 + (k + 82) / 8
framed-bits x k small p h =
    let vs = x.id ∷ 0 ∷ x.thing.content in
    let bits : extent layout vs ≤ k + 75 = omega (arith, length-word 1 0, packing-takes x.thing.content p.1.0) in
    let bytes : length (payload_of x) ≤ (k + 82) / 8 = omega (arith, length-payload layout vs) in
    omega (arith, length-framed 45 (payload_of x))

-- the greatest id takes 63 bits, and all others at most 61
framed-any : (x : Packed) → Proper x → length (framed (45, payload_of x)) ≤ 20
framed-any x p = omega (arith, framed-bits x 63 (omega arith) p (length-ue 31 x.id (omega arith) p.0.0))

framed-lower : (x : Packed) → Proper x → x.id + 1 < 2147483648 → length (framed (45, payload_of x)) ≤ 19
framed-lower x p h = omega (arith, framed-bits x 61 (omega arith) p (length-ue 30 x.id (omega arith) h))

-- only the last can have the greatest id
frames-short : (m : List Packed) → Rising m → AllByRecursion Proper m → length (frames (under 45 (map payload_of m))) ≤ 19 * length m + 1
frames-short [] r p = omega arith
frames-short (x ∷ []) r p = omega (arith, framed-any x p.0, ap length (append-nil (framed (45, payload_of x))))
frames-short (x ∷ y ∷ ys) r p =
    let small : y.id < 2147483648 = id-small y.id (fine-id y.id p.1.0.0.1) in
    omega (
      arith,
      framed-lower x p.0 (omega (arith, r.0.0)),
      length-append (framed (45, payload_of x)) (frames (under 45 (map payload_of (y ∷ ys)))),
      frames-short (y ∷ ys) r.1 p.1,
    )

pub packing_lawful : Lawful packing_model
packing_lawful = record {
  sound_none = none-sound;
  sound_turned = turned-sound;
  sound_offered = λ m n p s b e. begins-sound m n p (id_as p) s e;
  marked = λ m. refl;
  idle = idles;
  bare = refl;
  fits = λ m s. omega (arith, frames-short m s.rising s.propers, s.few);
  replay = λ m s. replays [] m s;
}
