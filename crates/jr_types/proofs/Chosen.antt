-- The definitions that count for an item, where the types of its node are put together.
use Rattle.std.proofs.Common.{◌≡◌, Bool, Option, None, Some, List, refl, sym, ap, ◌∙◌, subst}
use Rattle.std.specs.Prelude.{is_none, is_some}
use Rattle.std.specs.Option.{option_and_then, option_copied, option_or}
use Rattle.std.specs.List.{filter, find, flat_map}
use denote.Ref.{Bor}
use Rattle.jr_path.specs.declared.name.Name.{Name}
use Rattle.jr_items.specs.Items.{first_of}
use Rattle.jr_types.specs.declared.PropDef.{PropDef}
use Rattle.jr_types.specs.declared.ChildDef.{ChildDef}
use Rattle.jr_types.specs.declared.TypeDef.{TypeDef}
use Rattle.jr_types.specs.Attributes.{default_type}
use Rattle.jr_types.specs.Said.{counting_children, counting_props}
use Rattle.jr_types.specs.Registered.{IsAlike}
use Rattle.jr_types.specs.Types.{child_defs, is_named, prop_defs, props_of}
use Rattle.jr_types.proofs.Alike.{either-alike, filter-alike, first-alike, first-filter, first-told, flat-alike}

pub props-alike : (xs ys : List PropDef) (n : Name) → IsAlike xs ys → IsAlike (counting_props xs n) (counting_props ys n)
props-alike xs ys n h = either-alike (filter (λ d. is_named n d.name) xs) (filter (λ d. is_named n d.name) ys) (filter (λ d. is_none d.name) xs) (filter (λ d. is_none d.name) ys)
    (filter-alike (λ d. is_named n d.name) xs ys h) (filter-alike (λ d. is_none d.name) xs ys h)

pub children-alike : (xs ys : List ChildDef) (n : Name) → IsAlike xs ys → IsAlike (counting_children xs n) (counting_children ys n)
children-alike xs ys n h = either-alike (filter (λ d. is_named n d.name) xs) (filter (λ d. is_named n d.name) ys) (filter (λ d. is_none d.name) xs) (filter (λ d. is_none d.name) ys)
    (filter-alike (λ d. is_named n d.name) xs ys h) (filter-alike (λ d. is_none d.name) xs ys h)

-- what counts for a property, and for a child
pub props_counting : (types ds : List TypeDef) (n : Name) (props cnt : List PropDef) → IsAlike types ds → props ≡ flat_map props_of types → cnt ≡ counting_props props n → IsAlike cnt (prop_defs ds n)
props_counting types ds n props cnt h p c = subst (λ xs. IsAlike xs (prop_defs ds n)) (sym (c ∙ ap (λ xs. counting_props xs n) p))
    (props-alike (flat_map props_of types) (flat_map props_of ds) n (flat-alike props_of types ds h))

pub children_counting : (types ds : List TypeDef) (n : Name) (all cnt : List ChildDef) → IsAlike types ds → all ≡ flat_map (λ d. d.children) types → cnt ≡ counting_children all n → IsAlike cnt (child_defs ds n)
children_counting types ds n all cnt h p c = subst (λ xs. IsAlike xs (child_defs ds n)) (sym (c ∙ ap (λ xs. counting_children xs n) p))
    (children-alike (flat_map (λ d. d.children) types) (flat_map (λ d. d.children) ds) n (flat-alike (λ d. d.children) types ds h))

copied_or : {X : Type 0} (a b : Option (Bor X)) → option_copied (option_or a b) ≡ option_or (option_copied a) (option_copied b)
copied_or None b = refl
copied_or (Some x) b = refl

-- the first that passes a test, or else the first
pub fit_or_first : {X : Type 0} (p : X → Bool) (a b : Option (Bor X)) (fit cnt all : List X) → option_copied a ≡ first_of fit → option_copied b ≡ first_of cnt → fit ≡ filter p cnt → IsAlike cnt all
    → option_copied (option_or a b) ≡ option_or (find p all) (first_of all)
fit_or_first p a b fit cnt all ha hb hf h = copied_or a b
    ∙ (ap (λ o. option_or o (option_copied b)) (ha ∙ (ap first_of hf ∙ (first-filter p cnt ∙ h p)))
    ∙ ap (option_or (find p all)) (hb ∙ first-alike cnt all h))

pub default_chosen : (ds : List TypeDef) (n : Name) (a : Option (Bor ChildDef)) (o : Option Name) (telling cnt : List ChildDef) → option_copied a ≡ first_of telling → telling ≡ filter (λ d. is_some d.default_type) cnt
    → IsAlike cnt (child_defs ds n) → o ≡ option_and_then (λ d. d.default_type) (option_copied a) → o ≡ default_type ds n
default_chosen ds n a o telling cnt ha ht h ho = ho
    ∙ (ap (option_and_then (λ d. d.default_type)) (ha ∙ (ap first_of ht ∙ (first-filter (λ d. is_some d.default_type) cnt ∙ h (λ d. is_some d.default_type))))
    ∙ sym (first-told (λ d. d.default_type) (child_defs ds n)))
