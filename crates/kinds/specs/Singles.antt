-- A kind that holds one thing has the laws of a kind.
use Rattle.std.specs.Prelude.{◌≡◌, ℕ, ◌≤◌, Bool, true, false, cond, List, length, Some, None, Ok, Err, Option, Result, refl}
use Rattle.std.proofs.Common.{sym, ap, subst, ◌∙◌, append-nil, arith}
use Rattle.layouts.specs.Frames.{framed, frames, under}
use Rattle.records.specs.declared.fault.PayloadFault.{PayloadFault}
use Rattle.kinds.specs.declared.fault.OfferFault.{OfferFault}
use Rattle.kinds.specs.declared.fault.OfferFault.TheVariants.{Disagrees}
use Rattle.kinds.specs.Outcome.{granted, refused}
use Rattle.kinds.specs.Model.{Lawful, Replay}
use Rattle.kinds.specs.Single.{Rules, Ruled, Held, thing, Sound, outlasting, outlasts, lets, says, part_of, single, held_of}

never : {A : Type 0} {m : Held} {f : OfferFault} → refused f ≡ granted m → A
never e = let z : ◌≡◌ {A = ℕ} 0 1 = cc in absurd (omega arith)

granted-is : {m n : Held} → granted m ≡ granted n → m ≡ n
granted-is e = cc

module _ (r : Rules) (h : Ruled r) where
  turned-sound : (m : Held) (mark : Bool) → Sound r m → Sound r (cond mark None (outlasts m))
  turned-sound m true s = tt
  turned-sound None false s = tt
  turned-sound (Some x) false s = go (outlasting x.stay)
    where
      go : (b : Bool) → Sound r (cond b (Some x) None)
      go true = s
      go false = tt

  offered-sound : (m n : Held) (said : Result (Option (List ℕ)) PayloadFault) → ((vs : List ℕ) → said ≡ Ok (Some vs) → r.Proper vs) → says r m said ≡ granted n → Sound r n
  offered-sound m n (Err e) k g = never g
  offered-sound m n (Ok None) k g = let P : Held → Type 0 = λ x. Sound r x in subst P (granted-is g) tt
  offered-sound m n (Ok (Some vs)) k g = go (lets r m vs) g
    where
      go : (b : Bool) → cond b (granted (Some (thing r vs))) (refused Disagrees) ≡ granted n → Sound r n
      go true e = let P : Held → Type 0 = λ x. Sound r x in subst P (granted-is e) (k vs refl, refl)
      go false e = never e

  idles : (mark : Bool) → cond mark None (outlasts None) ≡ None
  idles true = refl
  idles false = refl

  fitting : (m : Held) → Sound r m → length (frames (under r.number (part_of r m))) ≤ r.greatest
  fitting None s = omega arith
  fitting (Some x) s = omega (arith, h.fits x.content s.0, ap length (append-nil (framed (r.number, r.payload x.content))))

  replays : (m : Held) → Sound r m → Replay (single r) None (part_of r m) m
  replays None s = refl
  replays (Some x) s =
      (Some x, (ap (says r None) (h.says_back x.content s.0) ∙ ap (λ t. granted (Some (record { content = x.content; stay = t }))) (sym s.1), refl))

  pub single_lawful : Lawful (single r)
  single_lawful = record {
    sound_none = tt;
    sound_turned = turned-sound;
    sound_offered = λ m n p s b e. offered-sound m n (r.reads p) (h.says_proper p) e;
    marked = λ m. refl;
    idle = idles;
    bare = refl;
    fits = fitting;
    replay = replays;
  }

-- proper contents in force are sound
pub single_sound : {C : Type 0} (r : Rules) (numbers : C → List ℕ) → ((c : C) → r.Proper (numbers c)) → (o : Option C) → Sound r (held_of r numbers o)
single_sound r numbers proper None = tt
single_sound r numbers proper (Some c) = (proper c, refl)
