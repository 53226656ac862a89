-- Properties put in the order of their names are the members of an object in that order.
use Rattle.std.proofs.Common.{◌≡◌, List, [], ◌∷◌, ◌++◌, refl, ap, sym, ◌∙◌, append-nil, append_assoc}
use Rattle.std.proofs.lemmas.Cmp.{nat_list_cmp_total}
use Rattle.std.specs.declared.cmp.Ordering.TheVariants.{Less, Greater}
use Rattle.std.specs.Ordering.{ordering_reverse}
use Rattle.std.specs.List.{AllByRecursion}
use Rattle.std.specs.List.Sorted.{IsStrictlySortedBy}
use Rattle.std.specs.Map.{keys_of}
use Rattle.std.specs.Prelude.{String, string_bytes}
use Rattle.std.specs.String.{string_cmp}
use Rattle.std.specs.declared.alloc.Global.{Global}
use Rattle.std.specs.BTreeMap.{insert_entry}
use Rattle.serde_json.specs.Data.{Data, Members, member, put}
use Rattle.serde_json.specs.View.{view, members_view}
use Rattle.serde_json.specs.declared.value.Value.{Value}
use Rattle.serde_json.proofs.Views.{Entry, members_view-insert_entry}
use Rattle.jr_path.specs.Names.{name_cmp}
use Rattle.jr_path.specs.declared.name.Name.{Name}
use Rattle.jr_json.specs.Json.{property_data}
use Rattle.jr_value.specs.declared.value.Property.{Property}
use Rattle.jcr_trans.specs.Texts.{property_members}

abbrev Properties : Type 0
Properties = List (Name × Property)

-- what is put at a text is put at its bytes
pub put_at_bytes : (old new : List Entry) (k : String Global) (v : Value) (n : Name) (d : Data) → new ≡ insert_entry string_cmp old k v → string_bytes k ≡ n → view v ≡ d
    → members_view new ≡ put n d (members_view old)
put_at_bytes old new k v n d inserted same_name same_data =
    ap members_view inserted ∙ (members_view-insert_entry old k v ∙ (ap (λ (m : Name). put m (view v) (members_view old)) same_name ∙ ap (λ (e : Data). put n e (members_view old)) same_data))

at_middle : (P : Name → Type 0) (ps : Properties) (n : Name) (p : Property) (more : Properties) → AllByRecursion P (keys_of (ps ++ (n, p) ∷ more)) → P n
at_middle P [] n p more h = h.0
at_middle P (q ∷ ps) n p more h = at_middle P ps n p more h.1

-- a name above all others goes to the end
put_last : (ps : Properties) (n : Name) (p : Property) (more : Properties) → IsStrictlySortedBy name_cmp (keys_of (ps ++ (n, p) ∷ more))
    → put n (property_data p) (property_members ps) ≡ property_members (ps ++ (n, p) ∷ [])
unfolding IsStrictlySortedBy
put_last [] n p more h = refl
put_last (q ∷ ps) n p more h =
    let above : name_cmp n q.0 ≡ Greater = nat_list_cmp_total.antisymm n q.0 ∙ ap ordering_reverse (at_middle (λ m. name_cmp q.0 m ≡ Less) ps n p more h.0) in
    rw above (ap (member q.0 (property_data q.1)) (put_last ps n p more h.1))

-- the members are those of the properties before the rest
abbrev pub ArePut : Properties → Properties → Members → Type 0
ArePut all rest ms = (ps : Properties) × (ps ++ rest ≡ all) × (ms ≡ property_members ps)

-- one more is put
pub one_put : (all rest more : Properties) (n : Name) (p : Property) (old new : Members) → IsStrictlySortedBy name_cmp (keys_of all) → rest ≡ (n, p) ∷ more → new ≡ put n (property_data p) old
    → ArePut all rest old → ArePut all more new
one_put all rest more n p old new sorted first is (ps, split, so_far) =
    let whole : ps ++ (n, p) ∷ more ≡ all = ap (λ (xs : Properties). ps ++ xs) (sym first) ∙ split in
    let sorted' : IsStrictlySortedBy name_cmp (keys_of (ps ++ (n, p) ∷ more)) = rw whole sorted in
    (ps ++ (n, p) ∷ [], append_assoc ps ((n, p) ∷ []) more ∙ whole, is ∙ (ap (put n (property_data p)) so_far ∙ put_last ps n p more sorted'))

-- all are put
pub all_put : (all rest : Properties) (ms : Members) → rest ≡ [] → ArePut all rest ms → ms ≡ property_members all
all_put all rest ms none (ps, split, so_far) =
    so_far ∙ ap property_members (sym (append-nil ps) ∙ (ap (λ (xs : Properties). ps ++ xs) (sym none) ∙ split))
