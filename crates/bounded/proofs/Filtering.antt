-- A list of which a closure keeps some, value by value.
use Rattle.std.proofs.Common.{◌≡◌, suc, Bool, true, false, List, [], ◌∷◌, ◌++◌, map, Bor, sym, refl, ap, ◌∙◌, subst, append_assoc, append-nil}
use Rattle.std.proofs.lemmas.List.{map-append}
use Rattle.std.specs.List.Retain.{IsFiltered}

module _ {X F : Type 0} (R : F → X → Bool → F → Type 0) (start : F) where
  -- what the closure keeps of the values to come, behind what it kept so far, is what it keeps of all
  abbrev pub Keeps : List X → F → List X → Type 0
  Keeps done f kept = (rest zs : List X) → IsFiltered R f rest zs → IsFiltered R start (done ++ rest) (kept ++ zs)

  module _ (done : List (Bor X)) (f : F) (kept : List X) (k : Keeps (map (λ y. y.now) done) f kept) (x : Bor X) (g : F) where
    -- a value more
    later : (rest zs : List X) → IsFiltered R start (map (λ y. y.now) done ++ x.now ∷ rest) zs → IsFiltered R start (map (λ y. y.now) (done ++ x ∷ []) ++ rest) zs
    later rest zs =
        subst (λ l. IsFiltered R start l zs) (sym (ap (λ l. l ++ rest) (map-append (λ y. y.now) done (x ∷ [])) ∙ append_assoc (map (λ y. y.now) done) (x.now ∷ []) rest))

    pub kept-more : (more : List X) → R f x.now true g → more ≡ kept ++ x.now ∷ [] → Keeps (map (λ y. y.now) (done ++ x ∷ [])) g more
    kept-more more r m rest zs h =
        later rest (more ++ zs)
        (subst (IsFiltered R start (map (λ y. y.now) done ++ x.now ∷ rest)) (sym (ap (λ l. l ++ zs) m ∙ append_assoc kept (x.now ∷ []) zs))
        (k (x.now ∷ rest) (x.now ∷ zs) (true ∷ h.0, h.1, ap suc h.2, (g, r, h.3), ap (λ l. x.now ∷ l) h.4)))

    pub kept-not : R f x.now false g → Keeps (map (λ y. y.now) (done ++ x ∷ [])) g kept
    kept-not r rest zs h = later rest (kept ++ zs) (k (x.now ∷ rest) zs (false ∷ h.0, h.1, ap suc h.2, (g, r, h.3), h.4))

  pub kept-all : (done : List X) (f : F) (kept : List X) → Keeps done f kept → IsFiltered R start done kept
  kept-all done f kept k =
      subst (λ l. IsFiltered R start l kept) (append-nil done) (subst (IsFiltered R start (done ++ [])) (append-nil kept) (k [] [] ([], f, refl, refl, refl)))
