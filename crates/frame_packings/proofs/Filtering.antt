-- A list of which a closure keeps some, value by value.
use Rattle.std.proofs.Common.{◌≡◌, suc, Bool, true, false, List, [], ◌∷◌, ◌++◌, sym, refl, ap, ◌∙◌, subst, append_assoc, append-nil}
use Rattle.std.specs.List.Retain.{IsFiltered}

module _ {X F : Type 0} (R : F → X → Bool → F → Type 0) (start : F) (all : List X) where
  -- what the closure keeps of the values to come, behind what it kept so far, is what it keeps of all
  abbrev pub Keeps : F → List X → List X → Type 0
  Keeps f kept coming = (zs : List X) → IsFiltered R f coming zs → IsFiltered R start all (kept ++ zs)

  module _ (f : F) (kept coming : List X) (k : Keeps f kept coming) (x : X) (rest : List X) (e : coming ≡ x ∷ rest) (g : F) where
    pub kept-more : (more : List X) → R f x true g → more ≡ kept ++ x ∷ [] → Keeps g more rest
    kept-more more r m zs h =
        subst (IsFiltered R start all) (sym (ap (λ l. l ++ zs) m ∙ append_assoc kept (x ∷ []) zs))
        (k (x ∷ zs) (subst (λ l. IsFiltered R f l (x ∷ zs)) (sym e) (true ∷ h.0, h.1, ap suc h.2, (g, r, h.3), ap (λ l. x ∷ l) h.4)))

    pub kept-not : R f x false g → Keeps g kept rest
    kept-not r zs h = k zs (subst (λ l. IsFiltered R f l zs) (sym e) (false ∷ h.0, h.1, ap suc h.2, (g, r, h.3), h.4))

  pub kept-all : (f : F) (kept coming : List X) → Keeps f kept coming → coming ≡ [] → IsFiltered R start all kept
  kept-all f kept coming k e = subst (IsFiltered R start all) (append-nil kept) (k [] (subst (λ l. IsFiltered R f l []) (sym e) ([], f, refl, refl, refl)))
