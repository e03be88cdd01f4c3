-- What holds of every list of calls, of every list of kinds that makes a set.
use Rattle.std.proofs.Common.{◌≡◌, ℕ, ◌+◌, ◌≤◌, min, Bool, true, false, cond, leb, ◌↔◌, List, [], ◌∷◌, ◌++◌, length, take, drop, Ok, Err, Result, sym, refl, ap, ◌∙◌, subst, arith, length-append, le-leb}
use Rattle.std.proofs.lemmas.List.{take_at}
use Rattle.std.proofs.lemmas.Bool.{cond-true}
use Rattle.std.specs.Result.{result_map_both}
use Rattle.layouts.specs.Frames.{Message, framed, frames, fronted}
use Rattle.kinds.specs.Outcome.{granted, after as after_offer, told, looked}
use Rattle.units.specs.Units.{AllLimited, unit_bytes, placed}
use Rattle.units.specs.Fills.{room}
use Rattle.units.proofs.Judgements.{unit-judged, lawful}
use Rattle.book.specs.declared.answer.Saved.{Saved}
use Rattle.book.specs.declared.fault.Refusal.{Refusal}
use Rattle.book.specs.declared.fault.Refusal.TheVariants.{NoPicture, Unit as OfUnit, ShortBuffer}
use Rattle.book.specs.Models.{Models, empty, first, both, Meanings, Sounds, Lawfuls, nothing, turns, part_of, messages, listed, Proper}
use Rattle.book.specs.Units.{judged, framed as framed_by, brought, offered_all, offered_from, untold, noted, tallied}
use Rattle.book.specs.Book.{Asked, picture, Book, fresh, saved, handed, told_unit, told_look, replies}
use Rattle.book.specs.Events.{events}
use Rattle.book.specs.Trust.{Fits, after, Saves, loading, all_granted, Trusted}
use Rattle.book.proofs.Offers.{judged-short}
use Rattle.book.proofs.Sounds.{sounds-nothing, sounds-run}
use Rattle.book.proofs.Replays.{Replays, replays-all, replays-same, parts-short, parts-limited}
use Rattle.book.proofs.Leads.{led-run, led-alike, same-part, opened, opened-run}

-- ---- what a granted catch-up says

length_of : Result Saved Refusal → ℕ
length_of (Ok s) = s.len
length_of (Err f) = 0

count_of : Result Saved Refusal → ℕ
count_of (Ok s) = s.messages
count_of (Err f) = 0

-- the bytes are those of a unit of the messages
pub record SavedAs (ms : List Message) (n count : ℕ) (out : List ℕ) : Type 0 where
  pub bytes : take n out ≡ unit_bytes ms
  pub long : n ≡ length (unit_bytes ms)
  pub many : count ≡ length ms

saved-if : (fit : Bool) (ms : List Message) (buffer out : List ℕ) (n count : ℕ) →
    ◌≡◌ {A = Result Saved Refusal × List ℕ} (cond fit (Ok (record { len = length (unit_bytes ms); messages = length ms }), fronted (unit_bytes ms) buffer) (Err ShortBuffer, buffer)) (Ok (record { len = n; messages = count }), out) → SavedAs ms n count out
unfolding length_of count_of
saved-if true ms buffer out n count e =
    let len : length (unit_bytes ms) ≡ n = ap (λ r. length_of r.0) e in
    let front : out ≡ unit_bytes ms ++ drop (length (unit_bytes ms)) buffer = sym (ap (λ r. r.1) e) in
    record {
      bytes = ap (λ (x : List ℕ). take n x) front ∙ take_at (unit_bytes ms) (drop (length (unit_bytes ms)) buffer) n len;
      long = sym len;
      many = sym (ap (λ r. count_of r.0) e);
    }
saved-if false ms buffer out n count e = absurd (let f : Err ShortBuffer ≡ Ok (record { len = n; messages = count }) = ap (λ r. r.0) e in let z : ◌≡◌ {A = ℕ} 0 1 = cc in omega arith)

begun-if : (begun : Bool) (x : Result Saved Refusal × List ℕ) (buffer out : List ℕ) (n count : ℕ) → cond begun x (Err NoPicture, buffer) ≡ (Ok (record { len = n; messages = count }), out) → (begun ≡ true) × (x ≡ (Ok (record { len = n; messages = count }), out))
begun-if true x buffer out n count e = (refl, e)
begun-if false x buffer out n count e = absurd (let f : Err NoPicture ≡ Ok (record { len = n; messages = count }) = ap (λ r. r.0) e in let z : ◌≡◌ {A = ℕ} 0 1 = cc in omega arith)

module _ (ks : Models) (b : Book ks) (n count : ℕ) (bytes : List ℕ) (h : Saves ks b n count bytes) where
  parts : (b.0 ≡ true) × (saved (messages ks b.1) h.0 ≡ (Ok (record { len = n; messages = count }), h.1))
  parts = begun-if b.0 (saved (messages ks b.1) h.0) h.0 h.1 n count h.2

  pub saves-begun : b.0 ≡ true
  saves-begun = parts.0

  told-as : SavedAs (messages ks b.1) n count h.1
  told-as = saved-if (leb (length (unit_bytes (messages ks b.1))) (length h.0)) (messages ks b.1) h.0 h.1 n count parts.1

  pub saves-bytes : bytes ≡ unit_bytes (messages ks b.1)
  saves-bytes = sym h.3 ∙ told-as.bytes

  pub saves-long : n ≡ length (unit_bytes (messages ks b.1))
  saves-long = told-as.long

  pub saves-many : count ≡ length (messages ks b.1)
  saves-many = told-as.many

-- ---- loading messages that are all granted

pub turns-nothing : (ks : Models) → Lawfuls ks → (mark : Bool) → turns ks (nothing ks) mark ≡ nothing ks
turns-nothing empty l mark = refl
turns-nothing (first k ks) l mark = rw (l.0.idle mark, turns-nothing ks l.1 mark)
turns-nothing (both ks js) l mark = rw (turns-nothing ks l.0 mark, turns-nothing js l.1 mark)

all-offered : (ks : Models) (at : ℕ) (ms : List Message) (a b : Meanings ks) → AllLimited ms → Replays ks a ms b → offered_all ks a (placed at ms) ≡ b
all-offered ks at [] a b lim h = h
all-offered ks at (m ∷ ms) a b lim h =
    let g : judged ks a m.0 m.1 ≡ granted h.0 = judged-short ks a m.0 m.1 (le-leb (length m.1) 65535 lim.0.1) ∙ h.1 in
    ap (λ o. offered_all ks (after_offer a o) (placed (at + length (framed m)) ms)) g ∙ all-offered ks (at + length (framed m)) ms h.0 b lim.1 h.2

all-tallied : (ks : Models) (at g : ℕ) (ms : List Message) (a b : Meanings ks) → AllLimited ms → Replays ks a ms b → tallied ks a (all_granted g) (placed at ms) ≡ all_granted (g + length ms)
all-tallied ks at g [] a b lim h = let e : g ≡ g + 0 = omega arith in ap all_granted e
all-tallied ks at g (m ∷ ms) a b lim h =
    let j : judged ks a m.0 m.1 ≡ granted h.0 = judged-short ks a m.0 m.1 (le-leb (length m.1) 65535 lim.0.1) ∙ h.1 in
    let e : g + 1 + length ms ≡ g + length (m ∷ ms) = omega arith in
    ap (λ o. tallied ks (after_offer a o) (noted (all_granted g) at (told o)) (placed (at + length (framed m)) ms)) j
    ∙ (all-tallied ks (at + length (framed m)) (g + 1) ms h.0 b lim.1 h.2 ∙ ap all_granted e)

-- a unit of messages is as long as they are, and a byte
length-unit : (ms : List Message) → length (unit_bytes ms) ≤ length (frames ms) + 1
length-unit [] = omega arith
length-unit (m ∷ ms) = omega (arith, length-append (frames (m ∷ ms)) (128 ∷ []))

le-min : (n a b : ℕ) → n ≤ a → n ≤ b → leb n (min a b) ≡ true
le-min n a b h i = le-leb n (min a b) (omega arith)

brings : (ms : List Message) (scratch : List ℕ) → AllLimited ms → length (frames ms) ≤ 65535 → length (unit_bytes ms) ≤ length scratch → brought (unit_bytes ms) false scratch ≡ Ok (placed 0 ms)
brings ms scratch lim short long =
    ap (λ r. framed_by r (unit_bytes ms)) (cond-true (leb (length (unit_bytes ms)) (room scratch)) _ _ (le-min (length (unit_bytes ms)) (length scratch) 65536 long (omega (arith, length-unit ms))))
    ∙ unit-judged ms lim

-- ---- the laws

module _ (ks : Models) (l : Lawfuls ks) (p : Proper (listed ks)) where
  reached : (cs : List Asked) → Fits cs → Sounds ks (after ks cs).1
  reached cs h = sounds-run ks l (fresh ks) cs (sounds-nothing ks l) h

  replayed : (m : Meanings ks) → Sounds ks m → Replays ks (nothing ks) (messages ks m) m
  replayed m s = replays-all ks l p.distinct m s

  -- of a visit that is where a list of calls leads, with what it saved
  module _ (b : Book ks) (s : Sounds ks b.1) (n count : ℕ) (bytes scratch : List ℕ) (mark : Bool) (h : Saves ks b n count bytes) (long : n ≤ length scratch) where
    ms : List Message
    ms = messages ks b.1

    comes : brought bytes false scratch ≡ Ok (placed 0 ms)
    unfolding ms
    comes =
        ap (λ (x : List ℕ). brought x false scratch) (saves-bytes ks b n count bytes h)
        ∙ brings ms scratch (parts-limited ks l p b.1 s) (parts-short ks l p b.1 s) (omega (arith, saves-long ks b n count bytes h))

    pub load-granted : told_unit ks (after ks (picture mark ∷ [])) bytes false scratch ≡ Ok (all_granted count)
    unfolding ms
    load-granted =
        let many : 0 + length ms ≡ count = omega (arith, saves-many ks b n count bytes h) in
        ap (λ (m : Meanings ks). result_map_both (tallied ks m untold) OfUnit (brought bytes false scratch)) (turns-nothing ks l mark)
        ∙ (ap (result_map_both (tallied ks (nothing ks) untold) OfUnit) comes
        ∙ (ap Ok (all-tallied ks 0 0 ms (nothing ks) b.1 (parts-limited ks l p b.1 s) (replayed b.1 s))
        ∙ ap (λ (x : ℕ). Ok (all_granted x)) many))

    pub load-back : after ks (loading mark bytes scratch) ≡ b
    unfolding ms
    load-back =
        let e : offered_from ks (turns ks (nothing ks) mark) (brought bytes false scratch) ≡ b.1 =
        ap (λ (m : Meanings ks). offered_from ks m (brought bytes false scratch)) (turns-nothing ks l mark)
        ∙ (ap (offered_from ks (nothing ks)) comes ∙ all-offered ks 0 ms (nothing ks) b.1 (parts-limited ks l p b.1 s) (replayed b.1 s)) in
        let f : true ≡ b.0 = sym (saves-begun ks b n count bytes h) in
        rw (e, f)

  tells-apart : (b c : Book ks) → Sounds ks b.1 → Sounds ks c.1 → (n m count number : ℕ) (xs ys : List ℕ) → Saves ks b n count xs → Saves ks c m number ys → (xs ≡ ys) ↔ (b.1 ≡ c.1)
  tells-apart b c s t n m count number xs ys h i = (
    (λ e. let same : messages ks b.1 ≡ messages ks c.1 = lawful.apart (messages ks b.1) (messages ks c.1) (parts-limited ks l p b.1 s) (parts-limited ks l p c.1 t) (sym (saves-bytes ks b n count xs h) ∙ (e ∙ saves-bytes ks c m number ys i)) in
        let P : List Message → Type 0 = λ x. Replays ks (nothing ks) x c.1 in
        replays-same ks (messages ks b.1) (nothing ks) b.1 c.1 (replayed b.1 s) (subst P (sym same) (replayed c.1 t))),
    (λ e. saves-bytes ks b n count xs h ∙ (ap (λ (x : Meanings ks). unit_bytes (messages ks x)) e ∙ sym (saves-bytes ks c m number ys i))),
  )

  same-looks : (t : ℕ) (cs ds : List Asked) → events t false cs ≡ events t false ds → (n : ℕ) (buffer : List ℕ) → told_look ks (after ks cs) t n buffer ≡ told_look ks (after ks ds) t n buffer
  same-looks t cs ds e n buffer =
      let begun : (after ks cs).0 ≡ (after ks ds).0 = opened-run ks t (fresh ks) cs ∙ (ap (opened false) e ∙ sym (opened-run ks t (fresh ks) ds)) in
      let same : part_of ks (after ks cs).1 t ≡ part_of ks (after ks ds).1 t = same-part ks t (after ks cs).1 (after ks ds).1 (led-alike ks t (nothing ks) (after ks cs).1 (after ks ds).1 (λ u. events u false cs) (λ u. events u false ds) e (led-run ks p.distinct (fresh ks) cs) (led-run ks p.distinct (fresh ks) ds)) in
      ap (λ (x : Bool). cond x (handed (looked (part_of ks (after ks cs).1 t) n buffer)) (Err NoPicture, buffer)) begun
      ∙ ap (λ (x : List (List ℕ)). cond (after ks ds).0 (handed (looked x n buffer)) (Err NoPicture, buffer)) same

  pub trusted : Trusted ks
  trusted = record {
    led = λ cs. led-run ks p.distinct (fresh ks) cs;
    same = λ t cs ds e. led-alike ks t (nothing ks) (after ks cs).1 (after ks ds).1 (λ u. events u false cs) (λ u. events u false ds) e (led-run ks p.distinct (fresh ks) cs) (led-run ks p.distinct (fresh ks) ds);
    looks = same-looks;
    apart = λ cs ds n m count number xs ys h i. tells-apart (after ks cs) (after ks ds) (reached cs h) (reached ds i) n m count number xs ys;
    granted = λ cs n count bytes scratch mark h. load-granted (after ks cs) (reached cs h) n count bytes scratch mark;
    back = λ cs n count bytes scratch mark h. load-back (after ks cs) (reached cs h) n count bytes scratch mark;
    onward = λ cs n count bytes scratch mark h s long more. ap (λ (b : Book ks). replies ks b more) (load-back (after ks cs) (reached cs h) n count bytes scratch mark s long);
  }
