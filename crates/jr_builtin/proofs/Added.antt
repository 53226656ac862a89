-- Each built-in type may be added behind those before it.
use Rattle.std.proofs.Common.{arith, ℕ, zero, suc, ◌+◌, ◌<◌, length, take, Option, sym, ap, ◌∙◌, subst, None, ◌≡◌, Bool, true, false, cond, Some, List, [], ◌∷◌, ◌++◌, refl, is_some}
use Rattle.std.specs.Prelude.{slice_get, slice_index_or}
use Rattle.std.proofs.lemmas.Bool.{false≢true}
use Rattle.std.proofs.lemmas.List.{append-nil, append_assoc, take_more}
use Rattle.std.proofs.lemmas.Option.{none-some}
use Rattle.jr_types.specs.declared.TypeDef.{TypeDef}
use Rattle.jr_types.specs.Rules.{type_fault}
use Rattle.jr_builtin.specs.Builtin.{builtin}

-- each type in turn, behind those before it
abbrev all_add : List TypeDef → List TypeDef → Bool
all_add done [] = true
all_add done (d ∷ ds) = cond (is_some (type_fault done d)) false (all_add (done ++ d ∷ []) ds)

registered : all_add [] builtin ≡ true
registered = refl

lawful : (o : Option ℕ) (b : Bool) → cond (is_some o) false b ≡ true → (o ≡ None) × (b ≡ true)
lawful None b h = (refl, h)
lawful (Some k) b h = absurd (false≢true h)

each_added : (done ds : List TypeDef) (k : ℕ) (d : TypeDef) → all_add done ds ≡ true → slice_get ds k ≡ Some d → type_fault (done ++ take k ds) d ≡ None
each_added done [] k d h g = absurd (nothing k g)
  where
    nothing : (k : ℕ) → slice_get {X = TypeDef} [] k ≡ Some d → ⊥
    nothing zero g = none-some d g
    nothing (suc k) g = none-some d g
each_added done (x ∷ ds) zero d h g = subst (λ y. type_fault (done ++ []) y ≡ None) (same_type x d g) (subst (λ xs. type_fault xs x ≡ None) (sym (append-nil done)) (lawful (type_fault done x) _ h).0)
  where
    same_type : (x d : TypeDef) → Some x ≡ Some d → x ≡ d
    same_type x d e = ap (λ o. value o) e
      where
        value : Option TypeDef → TypeDef
        value None = x
        value (Some y) = y
each_added done (x ∷ ds) (suc k) d h g = subst (λ xs. type_fault xs d ≡ None) (append_assoc done (x ∷ []) (take k ds)) (each_added (done ++ x ∷ []) ds k d (lawful (type_fault done x) _ h).1 g)

-- each built-in type may be added behind those before it
pub may_be_added : (types : List TypeDef) (k : ℕ) (d : TypeDef) → types ≡ take k builtin → Some d ≡ slice_get builtin k → type_fault types d ≡ None
may_be_added types k d is at = subst (λ ts. type_fault ts d ≡ None) (sym is) (each_added [] builtin k d registered (sym at))

pub one_more : (old new : List TypeDef) (k : ℕ) (r : TypeDef) → old ≡ take k builtin → Some r ≡ slice_get builtin k → new ≡ old ++ r ∷ [] → new ≡ take (k + 1) builtin
one_more old new k r is at put = put ∙ (ap (λ ts. ts ++ r ∷ []) is ∙ by builtin k r (sym at))
  where
    by : (ds : List TypeDef) (k : ℕ) (d : TypeDef) → slice_get ds k ≡ Some d → take k ds ++ d ∷ [] ≡ take (k + 1) ds
    by ds k d g = sym (take_more ds k d (within ds k d g) ∙ ap (λ x. take k ds ++ x ∷ []) (got ds k d g))
      where
        within : (ds : List TypeDef) (k : ℕ) (d : TypeDef) → slice_get ds k ≡ Some d → k < length ds
        within [] zero d g = absurd (none-some d g)
        within [] (suc k) d g = absurd (none-some d g)
        within (x ∷ ds) zero d g = omega arith
        within (x ∷ ds) (suc k) d g = let l : k < length ds = within ds k d g in omega arith

        got : (ds : List TypeDef) (k : ℕ) (d : TypeDef) → slice_get ds k ≡ Some d → slice_index_or ds k d ≡ d
        got [] zero d g = refl
        got [] (suc k) d g = refl
        got (x ∷ ds) zero d g = ap (λ o. value o) g
          where
            value : Option TypeDef → TypeDef
            value None = x
            value (Some y) = y
        got (x ∷ ds) (suc k) d g = got ds k d g
