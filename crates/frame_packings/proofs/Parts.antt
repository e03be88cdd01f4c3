-- A payload of a part, by its place.
use Rattle.std.proofs.Common.{◌≡◌, ℕ, zero, suc, ◌<◌, Bool, true, false, cond, leb, List, [], ◌∷◌, map, length, get_or, Some, None, Option, Ok, Err, Result, sym, refl, ap, ◌∙◌, arith}
use Rattle.std.specs.List.{slice_get}
use Rattle.std.proofs.lemmas.Bool.{lt-ltb}
use Rattle.layouts.specs.declared.fault.ShortBuffer.{ShortBuffer}
use Rattle.layouts.specs.Frames.{fronted}
use Rattle.records.specs.Record.{written}
use Rattle.kinds.specs.declared.fault.LookFault.{LookFault}
use Rattle.kinds.specs.declared.fault.LookFault.TheVariants.{Missing, ShortBuffer as ShortCase}
use Rattle.kinds.specs.Outcome.{length_of, copied, looked}
use Rattle.layouts.specs.Payloads.{payload}
use Rattle.frame_packing.specs.declared.message.FramePacking.{FramePacking}
use Rattle.frame_packing.specs.FramePacking.{layout, numbers}
use Rattle.frame_packings.specs.declared.packing.Packing.{Packing}
use Rattle.frame_packings.specs.Packings.{payload_of}
use Rattle.frame_packings.specs.Tables.{packed_of, message_of, part_of}

-- ---- a copy, by what was written

module _ (p buffer : List ℕ) where
  abbrev wrote : Bool → Result ℕ ShortBuffer × List ℕ
  wrote b = cond b (Ok (length p), fronted p buffer) (Err (record {}), buffer)

  abbrev copies : Bool → Result ℕ LookFault × List ℕ
  copies b = cond b (Ok (length p), fronted p buffer) (Err ShortCase, buffer)

  copied-short : (e : ShortBuffer) → Err e ≡ (written p buffer).0 → Err ShortCase ≡ (copied p buffer).0
  copied-short e h = go (leb (length p) (length buffer)) h
    where
      go : (b : Bool) → Err e ≡ (wrote b).0 → Err ShortCase ≡ (copies b).0
      go true g = let z : ◌≡◌ {A = ℕ} 0 1 = cc in absurd (omega arith)
      go false g = refl

  copied-long : (n : ℕ) → Ok n ≡ (written p buffer).0 → Ok n ≡ (copied p buffer).0
  copied-long n h = go (leb (length p) (length buffer)) h
    where
      go : (b : Bool) → Ok n ≡ (wrote b).0 → Ok n ≡ (copies b).0
      go true g = let e : n ≡ length p = cc in ap Ok e
      go false g = let z : ◌≡◌ {A = ℕ} 0 1 = cc in absurd (omega arith)

  copied-bytes : (written p buffer).1 ≡ (copied p buffer).1
  copied-bytes = go (leb (length p) (length buffer))
    where
      go : (b : Bool) → (wrote b).1 ≡ (copies b).1
      go true = refl
      go false = refl

-- ---- by its place

module _ {A B : Type 0} (f : B → List ℕ) (g : A → B) where
  some_at : (xs : List A) (n : ℕ) (x : A) → slice_get xs n ≡ Some x → (n < length (map f (map g xs))) × (get_or (map f (map g xs)) n [] ≡ f (g x))
  some_at [] n x e = let z : ◌≡◌ {A = ℕ} 0 1 = cc in absurd (omega arith)
  some_at (y ∷ ys) zero x e = let h : y ≡ x = cc in (omega arith, ap (λ z. f (g z)) h)
  some_at (y ∷ ys) (suc n) x e = let h = some_at ys n x e in (omega (arith, h.0), h.1)

  length_some : (xs : List A) (n : ℕ) (x : A) → slice_get xs n ≡ Some x → length_of (map f (map g xs)) n ≡ Some (length (f (g x)))
  length_some xs n x e =
      let h = some_at xs n x e in
      ap (λ b. cond b (Some (length (get_or (map f (map g xs)) n []))) None) (lt-ltb n (length (map f (map g xs))) h.0) ∙ ap (λ l. Some (length l)) h.1

  looked-some : (xs : List A) (n : ℕ) (x : A) (buffer : List ℕ) → slice_get xs n ≡ Some x → looked (map f (map g xs)) n buffer ≡ copied (f (g x)) buffer
  looked-some xs n x buffer e =
      let h = some_at xs n x e in
      ap (λ b. cond b (copied (get_or (map f (map g xs)) n []) buffer) (Err Missing, buffer)) (lt-ltb n (length (map f (map g xs))) h.0) ∙ ap (λ l. copied l buffer) h.1

  module _ (xs : List A) (n : ℕ) (x : A) (buffer : List ℕ) (e : slice_get xs n ≡ Some x) where
    looked-short : (s : ShortBuffer) → Err s ≡ (written (f (g x)) buffer).0 → Err ShortCase ≡ (looked (map f (map g xs)) n buffer).0
    looked-short s h = copied-short (f (g x)) buffer s h ∙ ap (λ (q : Result ℕ LookFault × List ℕ). q.0) (sym (looked-some xs n x buffer e))

    looked-long : (k : ℕ) → Ok k ≡ (written (f (g x)) buffer).0 → Ok k ≡ (looked (map f (map g xs)) n buffer).0
    looked-long k h = copied-long (f (g x)) buffer k h ∙ ap (λ (q : Result ℕ LookFault × List ℕ). q.0) (sym (looked-some xs n x buffer e))

    looked-bytes : (written (f (g x)) buffer).1 ≡ (looked (map f (map g xs)) n buffer).1
    looked-bytes = copied-bytes (f (g x)) buffer ∙ ap (λ (q : Result ℕ LookFault × List ℕ). q.1) (sym (looked-some xs n x buffer e))

-- ---- what the table says of the packing at a place

module _ (ps : List Packing) (n : ℕ) (g : Option Packing) (x : Packing) (m : FramePacking) (look : g ≡ slice_get ps n) (found : g ≡ Some x) (said : m ≡ message_of x) where
  pub some-long : (k : ℕ) → k ≡ length (payload layout (numbers m)) → Some k ≡ length_of (part_of ps) n
  some-long k e = ap (λ j. Some j) (e ∙ ap (λ q. length (payload layout (numbers q))) said) ∙ sym (length_some payload_of packed_of ps n x (sym look ∙ found))

  pub some-wrote : (k : ℕ) (b : List ℕ) → Ok k ≡ (written (payload layout (numbers m)) b).0 → Ok k ≡ (looked (part_of ps) n b).0
  some-wrote k b e = looked-long payload_of packed_of ps n x b (sym look ∙ found) k (e ∙ ap (λ q. (written (payload layout (numbers q)) b).0) said)

  pub some-short : (s : ShortBuffer) (b : List ℕ) → Err s ≡ (written (payload layout (numbers m)) b).0 → Err ShortCase ≡ (looked (part_of ps) n b).0
  some-short s b e = looked-short payload_of packed_of ps n x b (sym look ∙ found) s (e ∙ ap (λ q. (written (payload layout (numbers q)) b).0) said)

  pub some-bytes : (b c : List ℕ) → c ≡ (written (payload layout (numbers m)) b).1 → c ≡ (looked (part_of ps) n b).1
  some-bytes b c e = e ∙ ap (λ q. (written (payload layout (numbers q)) b).1) said ∙ looked-bytes payload_of packed_of ps n x b (sym look ∙ found)

pub ruleset lengths = (some-long)

pub ruleset looking = (some-bytes, some-wrote, some-short)
