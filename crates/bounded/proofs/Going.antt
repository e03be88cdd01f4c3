-- Going over the values that places hold.
use Rattle.std.proofs.Common.{◌≡◌, ◌<◌, ◌≤◌, Bool, true, false, cond, List, [], ◌∷◌, map, length, None, Some, Option, Bor, Iter, sym, refl, ap, ◌∙◌, subst}
use Rattle.std.specs.Bool.{MatchBool}
use Rattle.std.specs.Iterator.{Yields}
use Rattle.std.specs.Iterator.Adapters.{OptionIterYieldsItsItem, flatten_source, flatten_front, flatten_back, flatten_done, flatten_steps, option_iter_item, option_iter_done, option_iter_steps}
use Rattle.std.specs.List.{flat_map}
use Rattle.std.specs.Option.{option_len, option_to_list}
use Rattle.std.specs.Slice.Iter.{iter_rest}
use Rattle.std.specs.declared.iter.Flatten.{Flatten}
use Rattle.std.specs.declared.option.Iter.{OptionIter}
use Rattle.std.proofs.iter.Yields.{fronts}
use Rattle.std.proofs.lemmas.Iterator.{YieldsList, YieldsList-from_slice}
use Rattle.std.proofs.lemmas.Iterator.Adapters.{YieldsList-from_flatten}
use Rattle.std.proofs.lemmas.Iterator.Consumers.{YieldsList-from_shown, YieldsList-turn, YieldsList-end}
use Rattle.bounded.specs.Places.{held}

held_flat : {A : Type 0} (ps : List (Option A)) → flat_map option_to_list ps ≡ held ps
unfolding held
held_flat [] = refl
held_flat (None ∷ ps) = held_flat ps
held_flat (Some x ∷ ps) = ap (λ l. x ∷ l) (held_flat ps)

module _ {A : Type 0} where
  -- what a place has left
  abbrev left : OptionIter A → List A
  left s = cond (option_iter_done s) [] (option_to_list (option_iter_item s))

  place-ends : (done : Bool) (o : Option A) → MatchBool done (◌≡◌ {A = Option (Bor A)} None None) (None ≡ o) → length (cond done [] (option_to_list o)) ≡ 0
  place-ends true o h = refl
  place-ends false o h = ap (λ k. length (option_to_list k)) (sym h)

  place-value : (done : Bool) (o : Option A) (x : Bor A) → MatchBool done (Some x ≡ None) (Some x.now ≡ o) → cond done [] (option_to_list o) ≡ x.now ∷ []
  place-value true o x h = cc
  place-value false o x h = ap option_to_list (sym h)

  -- a place gives the value that it holds
  place_gives : (j : OptionIter A) (o : Option A) → option_iter_item j ≡ o → option_iter_done j ≡ false → YieldsList option_iter_steps (λ y. y.now) j (option_to_list o)
  place_gives j o e d =
      subst (YieldsList option_iter_steps (λ y. y.now) j) (ap (λ b. cond b [] (option_to_list (option_iter_item j))) d ∙ ap option_to_list e)
      (YieldsList-from_shown option_iter_steps (λ y. y.now) left (λ s t h. place-ends (option_iter_done s) (option_iter_item s) h.1)
      (λ s x t h. place-value (option_iter_done s) (option_iter_item s) x h.1 ∙ ap (λ b. x.now ∷ cond b [] (option_to_list (option_iter_item t))) (sym h.0)) j)

  -- an iterator over a place that is borrowed
  abbrev Enters : Bor (Option A) → OptionIter A → Type 0
  Enters x j = (option_iter_item j ≡ x.now) × (option_iter_done j ≡ false) × (cond (option_iter_done j) 0 (option_len (option_iter_item j)) ≤ 1) × OptionIterYieldsItsItem A

  abbrev Steps : Flatten (Iter (Option A)) (OptionIter A) → Option (Bor A) → Flatten (Iter (Option A)) (OptionIter A) → Type 0
  Steps = flatten_steps fronts Enters option_iter_steps

  module _ (ps : List (Option A)) (s t u : Flatten (Iter (Option A)) (OptionIter A)) (e : iter_rest (flatten_source s) ≡ ps) (f : flatten_front s ≡ None) (b : flatten_back s ≡ None) (d : flatten_done s ≡ false) where
    -- going over places gives the values that they hold
    going : YieldsList Steps (λ y. y.now) s (held ps)
    going =
        subst (YieldsList Steps (λ y. y.now) s) (held_flat ps)
        (YieldsList-from_flatten Enters option_iter_steps (λ y. y.now) option_to_list (λ x j g. place_gives j x.now g.0 g.1) (YieldsList-from_slice ps e) f b d)

    module _ (done : List (Bor A)) (y : Yields Steps s done t) (r : Option (Bor A)) where
      -- while there is a value to come, fewer were gone over than the places hold
      pub gone-before : (x : Bor A) → r ≡ Some x → Steps t r u → length done < length (held ps)
      gone-before x n k = (YieldsList-turn going done t y r u x n k).0

      -- at the end they were all gone over
      pub gone-all : r ≡ None → Steps t r u → map (λ y. y.now) done ≡ held ps
      gone-all n k = (YieldsList-end going done t y r u n k).0
