-- What moved to a previous document, as code puts it back.
use Rattle.std.proofs.Common.{◌≡◌, true, false, cond, List, [], ◌∷◌, ◌++◌, map, fold, Option, Some, refl, sym, ap, ◌∙◌}
use Rattle.std.specs.List.{AllByRecursion, flat_map}
use Rattle.std.specs.List.Sorted.{IsStrictlySortedBy}
use Rattle.std.specs.Map.{keys_of, lookup}
use Rattle.std.specs.BTreeMap.{is_at}
use Rattle.std.specs.Option.{unwrap_or}
use Rattle.std.specs.Ordering.{eq_by_cmp, is_eq, ordering_reverse}
use Rattle.std.specs.declared.cmp.Ordering.TheVariants.{Less}
use Rattle.std.proofs.lemmas.Cmp.{nat_list_cmp_total, tied_itself}
use Rattle.std.proofs.lemmas.Map.Keys.{sorted_head, sorted_tail}
use Rattle.jr_path.specs.Names.{name_cmp}
use Rattle.jr_path.specs.declared.name.Name.{Name}
use Rattle.jr_rev.specs.declared.revision.Revision.{Revision}
use Rattle.jr_value.specs.declared.value.Property.{Property}
use Rattle.oak_doc.specs.declared.document.Document.{Document}
use Rattle.oak_doc.specs.declared.update.Change.{Change}
use Rattle.oak_doc.specs.declared.update.Change.TheVariants as change
use Rattle.oak_doc.specs.Updates.{Props, changed, values_of_property}
use Rattle.oak_commit.specs.Looking.{entries_in, with_all, with_properties}

abbrev Values : Type 0
Values = List (Revision × Option Property)

-- a name that is above another is not that
other_name : (a b : Name) → name_cmp a b ≡ Less → eq_by_cmp name_cmp b a ≡ false
other_name a b below = ap is_eq (nat_list_cmp_total.antisymm b a ∙ ap ordering_reverse below)

-- the names in order, what each has is found at it
own_later : (n : Name) (vs : Values) (all es : Props) → AllByRecursion (λ m. name_cmp n m ≡ Less) (keys_of es) → AllByRecursion (λ e. values_of_property all e.0 ≡ e.1) es → AllByRecursion (λ e. values_of_property ((n, vs) ∷ all) e.0 ≡ e.1) es
own_later n vs all [] above own = tt
own_later n vs all (e ∷ es) above own = (
  ap (λ b. unwrap_or (cond b (Some vs) (lookup (is_at (name_cmp e.0)) all)) []) (other_name n e.0 above.0) ∙ own.0,
  own_later n vs all es above.1 own.1,
)

same_name : (n : Name) → eq_by_cmp name_cmp n n ≡ true
same_name n = ap is_eq (tied_itself nat_list_cmp_total n)

pub own_values : (es : Props) → IsStrictlySortedBy name_cmp (keys_of es) → AllByRecursion (λ e. values_of_property es e.0 ≡ e.1) es
own_values [] sorted = tt
own_values (e ∷ es) sorted = (
  ap (λ b. unwrap_or (cond b (Some e.1) (lookup (is_at (name_cmp e.0)) es)) []) (same_name e.0),
  own_later e.0 e.1 es es (sorted_head name_cmp e.0 (keys_of es) sorted) (own_values es (sorted_tail name_cmp e.0 (keys_of es) sorted)),
)

-- the values of a property, put one after another
all_put : (n : Name) (vs : Values) (d : Document) → fold changed d (map (λ e. change.Prop n e.0 e.1) vs) ≡ record d { props = with_all d.props n vs }
all_put n [] d = refl
all_put n (v ∷ vs) d = all_put n vs (changed d (change.Prop n v.0 v.1))

fold_append : (d : Document) (xs ys : List Change) → fold changed d (xs ++ ys) ≡ fold changed (fold changed d xs) ys
fold_append d [] ys = refl
fold_append d (x ∷ xs) ys = fold_append (changed d x) xs ys

puts_from : (all es : Props) → AllByRecursion (λ e. values_of_property all e.0 ≡ e.1) es → (d : Document) → fold changed d (flat_map (λ n. map (λ e. change.Prop n e.0 e.1) (values_of_property all n)) (keys_of es)) ≡ record d { props = with_properties d.props es }
puts_from all [] own d = refl
puts_from all (e ∷ es) own d =
    fold_append d (map (λ v. change.Prop e.0 v.0 v.1) (values_of_property all e.0)) (flat_map (λ n. map (λ v. change.Prop n v.0 v.1) (values_of_property all n)) (keys_of es))
    ∙ ap (λ (x : Document). fold changed x (flat_map (λ n. map (λ v. change.Prop n v.0 v.1) (values_of_property all n)) (keys_of es)))
    (ap (λ (vs : Values). fold changed d (map (λ v. change.Prop e.0 v.0 v.1) vs)) own.0 ∙ all_put e.0 e.1 d)
    ∙ puts_from all es own.1 (record d { props = with_all d.props e.0 e.1 })

-- what moved is put back
pub moved_put : (x d : Document) (props : Props) → IsStrictlySortedBy name_cmp (keys_of x.props) → props ≡ with_properties d.props x.props → record d { props = props } ≡ fold changed d (entries_in x)
moved_put x d props sorted put = ap {A = Props} {B = Document} (λ (ps : Props). record d { props = ps }) put ∙ sym (puts_from x.props x.props (own_values x.props sorted) d)
