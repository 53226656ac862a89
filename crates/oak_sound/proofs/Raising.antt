-- A vector that is raised by one entry after another.
use Rattle.std.proofs.Common.{◌≡◌, Bool, true, false, cond, List, ◌∷◌, ◌++◌, fold, refl, sym, ap, ◌∙◌}
use Rattle.std.specs.List.{filter, flat_map}
use Rattle.std.specs.Map.{keys_of}
use Rattle.std.proofs.lemmas.List.Elements.{filter-append}
use Rattle.std.proofs.lemmas.List.Sums.{fold-append}
use Rattle.jr_rev.specs.declared.revision.Revision.{Revision}
use Rattle.jr_rev.specs.declared.vector.RevVec.{RevVec}
use Rattle.jr_rev.specs.Vectors.{raised}

-- by all of one more document
pub raise_more : {X : Type 0} (f : X → List Revision) (v next all : RevVec) (rest more : List X) (x : X) → rest ≡ x ∷ more → next ≡ fold raised v (f x) → fold raised v (flat_map f rest) ≡ all → fold raised next (flat_map f more) ≡ all
raise_more f v next all rest more x first is so_far =
    ap (λ w. fold raised w (flat_map f more)) is
    ∙ sym (fold-append raised v (f x) (flat_map f more))
    ∙ ap (λ xs. fold raised v (flat_map f xs)) (sym first) ∙ so_far

module _ (test : Revision → Bool) where
  -- by those of more entries that pass
  pub raise_those : {X : Type 0} (f : X → List Revision) (v next all : RevVec) (rest more : List X) (x : X) → rest ≡ x ∷ more → next ≡ fold raised v (filter test (f x)) → fold raised v (filter test (flat_map f rest)) ≡ all → fold raised next (filter test (flat_map f more)) ≡ all
  raise_those f v next all rest more x first is so_far =
      ap (λ w. fold raised w (filter test (flat_map f more))) is
      ∙ sym (fold-append raised v (filter test (f x)) (filter test (flat_map f more)))
      ∙ ap (fold raised v) (sym (filter-append test (f x) (flat_map f more)))
      ∙ ap (λ xs. fold raised v (filter test (flat_map f xs))) (sym first) ∙ so_far

  -- by some, and then by others
  pub raise_both : (v next last : RevVec) (rs qs : List Revision) → next ≡ fold raised v (filter test rs) → last ≡ fold raised next (filter test qs) → last ≡ fold raised v (filter test (rs ++ qs))
  raise_both v next last rs qs one two =
      two ∙ ap (λ w. fold raised w (filter test qs)) one
      ∙ sym (fold-append raised v (filter test rs) (filter test qs))
      ∙ ap (fold raised v) (sym (filter-append test rs qs))

  raise_by : {X : Type 0} (b : Bool) (v next : RevVec) (more : List (Revision × X)) (r : Revision) (x : X) → test r ≡ b → next ≡ cond b (raised v r) v → fold raised next (filter test (keys_of more)) ≡ fold raised v (filter test (keys_of ((r, x) ∷ more)))
  raise_by true v next more r x is put = rw (put, is) refl
  raise_by false v next more r x is put = rw (put, is) refl

  -- by one more entry, where it passes
  pub raise_entry : {X : Type 0} (v next all : RevVec) (rest more : List (Revision × X)) (r : Revision) (x : X) (b : Bool) → rest ≡ (r, x) ∷ more → b ≡ test r → next ≡ cond b (raised v r) v → fold raised v (filter test (keys_of rest)) ≡ all → fold raised next (filter test (keys_of more)) ≡ all
  raise_entry v next all rest more r x b first is put so_far =
      raise_by b v next more r x (sym is) put
      ∙ ap (λ xs. fold raised v (filter test (keys_of xs))) (sym first) ∙ so_far
