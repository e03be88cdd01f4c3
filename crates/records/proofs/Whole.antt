-- A reader over a whole payload, and a writer over a whole buffer.
use Rattle.std.proofs.Common.{◌≡◌, ℕ, ◌<◌, ◌≤◌, cond, List, length, get_or, take, Ok, Err, Result, sym, ap, ◌∙◌, arith, take_all}
use Rattle.std.proofs.lemmas.Bool.{le-leb}
use Rattle.layouts.specs.declared.fault.FieldFault.{FieldFault}
use Rattle.layouts.specs.Bits.{bits_of}
use Rattle.layouts.specs.Frames.{fronted}
use Rattle.layouts.specs.Layout.{Left, Layout, reads, Holds, from}
use Rattle.layouts.specs.Payloads.{size, payload}
use Rattle.fields.specs.Writing.{Sheet, lays}
use Rattle.layouts.proofs.Layouts.{lawful, length-payload}
use Rattle.fields.proofs.Records.{bytes-from, written-front}
use Rattle.records.specs.declared.fault.PayloadFault.TheVariants.{TooLong}
use Rattle.records.specs.Record.{as_payload, reads_as, written}

-- ---- reading

module _ (l : Layout) (bytes : List ℕ) (s : Left) (short : length bytes ≤ 65535) (e : s ≡ from (take 65535 bytes) 0) where
  left-whole : s ≡ from bytes 0
  left-whole = e ∙ ap (λ x. from x 0) (take_all 65535 bytes short)

  pub reads_first : (r : Result (List ℕ) FieldFault) → reads l s ≡ r → reads l (from bytes 0) ≡ r
  reads_first r f = ap (reads l) (sym left-whole) ∙ f

  pub reads_whole : (r : Result (List ℕ) FieldFault) → reads l s ≡ r → as_payload r ≡ reads_as l bytes
  reads_whole r f =
      sym (ap (λ b. cond b (as_payload (reads l (from bytes 0))) (Err TooLong)) (le-leb (length bytes) 65535 short) ∙ ap as_payload (reads_first r f))

-- ---- writing

module _ (l : Layout) (vs : List ℕ) (holds : Holds l vs) (short : size l vs ≤ 65535) where
  pub reads-back : reads_as l (payload l vs) ≡ Ok vs
  reads-back =
      ap (λ b. cond b (as_payload (reads l (from (payload l vs) 0))) (Err TooLong)) (le-leb (length (payload l vs)) 65535 (omega (arith, length-payload l vs)))
      ∙ ap as_payload ((lawful l).reads_as_written vs holds)

  -- where it fits: after is what the writer left in the buffer
  pub written-whole : (before after : List ℕ) (n loan : ℕ) (s t : Sheet) → n ≡ length (payload l vs) → length (payload l vs) ≤ length before → ((i : ℕ) → get_or before i 0 < 256) → ((i : ℕ) → get_or after i 0 < 256)
      → s ≡ record { place = 0; bits = bits_of before; loan = loan } → t ≡ lays l vs s → t.bits ≡ bits_of after → (Ok n, after) ≡ written (payload l vs) before
  written-whole before after n loan s t len room b a e f g =
      let front : after ≡ fronted (payload l vs) before = written-front l vs before after loan holds (omega (arith, length-payload l vs)) short (bytes-from before b) (bytes-from after a) (sym g ∙ ap (λ x. x.bits) (f ∙ ap (lays l vs) e)) in
      (λ i. (Ok (len i), front i)) ∙ sym (ap (λ c. cond c (Ok (length (payload l vs)), fronted (payload l vs) before) (Err (record {}), before)) (le-leb (length (payload l vs)) (length before) room))
