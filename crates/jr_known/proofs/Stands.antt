-- What is found at a name in a rising list, from the place where a search for it ends.
use Rattle.std.proofs.Common.{◌≡◌, ℕ, zero, suc, ◌<◌, true, Some, None, Option, [], ◌∷◌, cond, length, get_or, set, refl, sym, ap, ◌∙◌, arith}
use Rattle.std.specs.BTreeMap.{is_at}
use Rattle.std.specs.FinMap.{is_sorted}
use Rattle.std.specs.Map.{lookup}
use Rattle.std.proofs.lemmas.Cmp.{eq_by_cmp_equiv, nat_list_cmp_total}
use Rattle.jr_path.specs.Names.{name_cmp}
use Rattle.jr_path.specs.declared.name.Name.{Name}
use Rattle.jr_path.proofs.Maps.{lookup-insert_entry}
use Rattle.jr_rev.specs.declared.revision.Revision.{Revision}
use Rattle.jr_tree.proofs.Entries.{lookup-remove}
use Rattle.jr_part.specs.Parts.{ChildNames}
use Rattle.jr_part.specs.Follows.{IsNameGap, IsNamePlace}
use Rattle.jr_part.proofs.Places.{remove_gap, set_found}

-- a list with what it has at a place put there again
set_itself : (es : ChildNames) (i : ℕ) (d : Name × Option Revision) → i < length es → set es i (get_or es i d) ≡ es
set_itself [] i d within = absurd (omega arith)
set_itself (e ∷ es) zero d within = refl
set_itself (e ∷ es) (suc i) d within = ap (λ (fs : ChildNames). e ∷ fs) (set_itself es i d (omega arith))

module _ (n : Name) (es : ChildNames) (i : ℕ) (sorted : is_sorted name_cmp es ≡ true) where
  pub stands_at : (v : Option Revision) (d : Name × Option Revision) → IsNamePlace es n i → (get_or es i d).1 ≡ v → lookup (is_at (name_cmp n)) es ≡ Some v
  stands_at v d place is =
      let here : get_or es i d ≡ (n, v) = ap (λ (m : Name). (m, (get_or es i d).1)) (place.there d) ∙ ap (λ (w : Option Revision). (n, w)) is in
      ap (λ (fs : ChildNames). lookup (is_at (name_cmp n)) fs) (sym (set_itself es i d place.within) ∙ ap (set es i) here ∙ set_found n v es i sorted place)
      ∙ (lookup-insert_entry name_cmp nat_list_cmp_total n n v es
      ∙ ap (λ b. cond b (Some v) (lookup (is_at (name_cmp n)) es)) ((eq_by_cmp_equiv nat_list_cmp_total).refl n))

  pub stands_nowhere : IsNameGap es n i → lookup (is_at (name_cmp n)) es ≡ None
  stands_nowhere gap =
      ap (λ (fs : ChildNames). lookup (is_at (name_cmp n)) fs) (sym (remove_gap n es i gap))
      ∙ (lookup-remove name_cmp nat_list_cmp_total n n es sorted
      ∙ ap (λ b. cond b None (lookup (is_at (name_cmp n)) es)) ((eq_by_cmp_equiv nat_list_cmp_total).refl n))
