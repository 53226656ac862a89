-- A proper edit that isn't refused is a plan.
use Rattle.std.proofs.Common.{◌≡◌, ℕ, Bool, true, false, cond, ◌&&◌, ◌||◌, not, Option, None, Some, List, [], ◌∷◌, ◌++◌, refl, sym, ap, ◌∙◌, is_some, map}
use Rattle.std.specs.Prelude.{is_none, option_map, option_and_then}
use Rattle.std.specs.declared.cmp.Ordering.TheVariants.{Less, Equal, Greater}
use Rattle.std.specs.Option.{option_map_or, unwrap_or}
use Rattle.std.specs.Ordering.{eq_by_cmp, match_ordering}
use Rattle.std.specs.List.{cons_option, filter, filter_map, flat_map, list_any, list_all}
use Rattle.std.specs.Map.{lookup, keys_of}
use Rattle.std.specs.BTreeMap.{is_at, insert_entry}
use mathlib.Core.Bool.{false≢true}
use Rattle.jr_path.specs.Names.{name_cmp, path_cmp}
use Rattle.jr_path.specs.declared.name.Name.{Name}
use Rattle.jr_path.specs.declared.path.Path.{Path}
use Rattle.jr_value.specs.declared.value.Property.{Property}
use Rattle.jr_tree.specs.declared.edit.Write.{Write}
use Rattle.jr_tree.specs.declared.shared.Refusal.{Refusal}
use Rattle.jr_tree.specs.declared.shared.Datum.TheVariants as datum
use Rattle.jr_tree.specs.Trees.{Nodes, node_at, property_at}
use Rattle.jr_tree.specs.Edits.{applied, IsProper}
use Rattle.jr_tree.proofs.Pointwise.{same_path as path_same}
use Rattle.jr_items.specs.Names.{frozen_type}
use Rattle.jr_items.specs.Items.{first_of, first_some, in_path_order, is_of_type, same_path, values_in, reference_in}
use Rattle.jr_items.specs.Refusals.{refusal, refusal_at, when}
use Rattle.jr_types.specs.declared.TypeDef.{TypeDef}
use Rattle.jr_rules.proofs.Meeting.{meets_rules}
use Rattle.jcr_lock.specs.Locks.{locked_by, frozen_by}
use Rattle.jcr_ref.specs.References.{ReferencesOk, dangling, items_where, is_dangling, target_of}
use Rattle.jcr_marks.specs.Marks.{marks_of}
use Rattle.jcr_marks.proofs.Stirred.{any_flat}
use Rattle.jcr_plan.specs.Plans.{PlanOk, changed_by, is_changed, heeded, has_few_nodes}
use Rattle.jcr_plan.specs.Refusals.{plan_refusal, frozen_over, locked_over, type_refusal}

abbrev is_cons : {X : Type 0} → List X → Bool
is_cons [] = false
is_cons (x ∷ xs) = true

left_nil : {X : Type 0} (xs ys : List X) → xs ++ ys ≡ [] → xs ≡ []
left_nil [] ys h = refl
left_nil (x ∷ xs) ys h = absurd (false≢true (ap is_cons (sym h)))

right_nil : {X : Type 0} (xs ys : List X) → xs ++ ys ≡ [] → ys ≡ []
right_nil [] ys h = h
right_nil (x ∷ xs) ys h = absurd (false≢true (ap is_cons (sym h)))

map_nil : {X Y : Type 0} (f : X → Y) (xs : List X) → map f xs ≡ [] → xs ≡ []
map_nil f [] h = refl
map_nil f (x ∷ xs) h = absurd (false≢true (ap is_cons (sym h)))

-- none of these is a refusal
first_none : (o : Option Refusal) (os : List (Option Refusal)) → first_some (o ∷ os) ≡ None → (o ≡ None) × (first_some os ≡ None)
first_none None os h = (refl, h)
first_none (Some r) os h = absurd (false≢true (sym (ap is_some h)))

nothing_first : {X : Type 0} (f : X → Refusal) (xs : List X) → option_map f (first_of xs) ≡ None → xs ≡ []
nothing_first f [] h = refl
nothing_first f (x ∷ xs) h = absurd (false≢true (sym (ap is_some h)))

nothing : {X : Type 0} (f : X → Refusal) (o : Option X) → option_map f o ≡ None → o ≡ None
nothing f None h = refl
nothing f (Some x) h = absurd (false≢true (sym (ap is_some h)))

not_refused : (b : Bool) (r : Refusal) → when (not b) r ≡ None → b ≡ true
not_refused true r h = refl
not_refused false r h = absurd (false≢true (sym (ap is_some h)))

-- ---- who covers

put_some : (es : List (Path × Bool)) (p : Path) → is_cons (keys_of (insert_entry path_cmp es p true)) ≡ true
put_some [] p = refl
put_some (e ∷ es) p = by (path_cmp p e.0)
  where
    by : (o : _) → is_cons (keys_of (match_ordering o ((p, true) ∷ e ∷ es) ((e.0, true) ∷ es) (e ∷ insert_entry path_cmp es p true))) ≡ true
    by Less = refl
    by Equal = refl
    by Greater = refl

no_paths : (ps : List Path) → in_path_order ps ≡ [] → ps ≡ []
no_paths [] h = refl
no_paths (p ∷ ps) h = absurd (false≢true (sym (ap is_cons h) ∙ put_some (map (λ q. (q, true)) (in_path_order ps)) p))

none_mapped : (f : Path → Option Path) (p : Path) (ps : List Path) → filter_map f ps ≡ [] → list_any (same_path p) ps ≡ true → f p ≡ None
none_mapped f p [] h any = absurd (false≢true any)
none_mapped f p (q ∷ ps) h any = by (f q) refl h (same_path p q) refl any (λ k l. none_mapped f p ps k l)
  where
    by : (o : Option Path) → f q ≡ o → cons_option o (filter_map f ps) ≡ [] → (b : Bool) → same_path p q ≡ b → (b || list_any (same_path p) ps) ≡ true → (filter_map f ps ≡ [] → list_any (same_path p) ps ≡ true → f p ≡ None) → f p ≡ None
    by (Some r) e h b k any rest = absurd (false≢true (ap is_cons (sym h)))
    by None e h true k any rest = ap f (path_same p q k) ∙ e
    by None e h false k any rest = rest h any

none_changed : (f : Path → Option Path) (ws : List Write) → in_path_order (filter_map f (flat_map changed_by ws)) ≡ [] → (p : Path) → is_changed ws p ≡ true → f p ≡ None
none_changed f ws h p changed = none_mapped f p (flat_map changed_by ws) (no_paths _ h) (any_flat (same_path p) changed_by ws ∙ changed)

-- ---- references

all_there : (f : ℕ → Option Path) (ids : List ℕ) → list_any (λ id. is_none (f id)) ids ≡ false → list_all (λ id. is_some (f id)) ids ≡ true
all_there f [] h = refl
all_there f (id ∷ ids) h = by (f id) h (all_there f ids)
  where
    by : (o : Option Path) → (is_none o || list_any (λ id. is_none (f id)) ids) ≡ false → (list_any (λ id. is_none (f id)) ids ≡ false → list_all (λ id. is_some (f id)) ids ≡ true) → (is_some o && list_all (λ id. is_some (f id)) ids) ≡ true
    by None k rest = absurd (false≢true (sym k))
    by (Some q) k rest = rest k

no_property : (test : Property → Bool) (n : Name) (x : Property) (es : List (Name × Property)) → filter (λ e. test e.1) es ≡ [] → lookup (is_at (name_cmp n)) es ≡ Some x → test x ≡ false
no_property test n x [] h k = absurd (false≢true (ap is_some k))
no_property test n x (e ∷ es) h k = by (test e.1) refl h (eq_by_cmp name_cmp n e.0) k (λ l m. no_property test n x es l m)
  where
    by : (b : Bool) → test e.1 ≡ b → cond b (e ∷ filter (λ e. test e.1) es) (filter (λ e. test e.1) es) ≡ [] → (c : Bool) → cond c (Some e.1) (lookup (is_at (name_cmp n)) es) ≡ Some x
        → (filter (λ e. test e.1) es ≡ [] → lookup (is_at (name_cmp n)) es ≡ Some x → test x ≡ false) → test x ≡ false
    by true t l c m rest = absurd (false≢true (ap is_cons (sym l)))
    by false t l true m rest = ap test (some_is m) ∙ t
      where
        some_is : {y : Property} → Some e.1 ≡ Some y → y ≡ e.1
        some_is {y} p = ap (λ (o : Option Property). unwrap_or o y) (sym p)
    by false t l false m rest = rest l m

no_item : (test : Path → Property → Bool) (t : Nodes) → items_where test t ≡ [] → (p : Path) (n : Name) (x : Property) → property_at t p n ≡ Some x → test p x ≡ false
no_item test [] h p n x k = absurd (false≢true (ap is_some k))
no_item test (e ∷ t) h p n x k = by (eq_by_cmp path_cmp p e.0) refl k (λ l. no_item test t (right_nil (map (λ y. record { path = e.0; name = Some y.0 }) (filter (λ y. test e.0 y.1) e.1.props)) _ h) p n x l)
  where
    here : filter (λ y. test e.0 y.1) e.1.props ≡ []
    here = map_nil (λ y. record { path = e.0; name = Some y.0 }) _ (left_nil (map (λ y. record { path = e.0; name = Some y.0 }) (filter (λ y. test e.0 y.1) e.1.props)) _ h)

    by : (b : Bool) → eq_by_cmp path_cmp p e.0 ≡ b → option_and_then (λ node. lookup (is_at (name_cmp n)) node.props) (cond b (Some e.1) (node_at t p)) ≡ Some x → (property_at t p n ≡ Some x → test p x ≡ false) → test p x ≡ false
    by true s l rest = ap (λ q. test q x) (path_same p e.0 s) ∙ no_property (test e.0) n x e.1.props here l
    by false s l rest = rest l

pub references_hold : (t : Nodes) → dangling t ≡ None → ReferencesOk t
references_hold t none p n thawed = by (property_at t p n) refl
  where
    none_of : {X : Type 0} (xs : List X) → first_of xs ≡ None → xs ≡ []
    none_of [] h = refl
    none_of (x ∷ xs) h = absurd (false≢true (sym (ap is_some h)))

    fails : (frozen any : Bool) → frozen ≡ false → (not frozen && any) ≡ false → any ≡ false
    fails true any h k = absurd (false≢true (sym h))
    fails false any h k = k

    by : (o : Option Property) → property_at t p n ≡ o → list_all (λ id. is_some (target_of t id)) (option_map_or (λ x. filter_map reference_in (values_in x)) o []) ≡ true
    by None e = refl
    by (Some x) e = all_there (target_of t) _ (fails (is_of_type t frozen_type p) _ thawed (no_item (is_dangling t) t (none_of _ none) p n x e))

-- ---- the plan

pub accepted : (types : List TypeDef) (t : Nodes) (tokens : List (List ℕ)) (ws : List Write) → IsProper t ws → plan_refusal types t tokens ws ≡ None → PlanOk types t tokens ws (marks_of t ws)
accepted types t tokens ws proper none =
    let frozen = first_none (option_map (refusal_at 8) (first_of (frozen_over types t ws))) _ none in
    let locked = first_none (option_map (refusal_at 7) (first_of (locked_over t tokens ws))) _ frozen.1 in
    let typed = first_none (option_map type_refusal _) _ locked.1 in
    let referring = first_none (option_map (λ item. refusal 9 (datum.Item item ∷ [])) (dangling (applied None t ws))) _ typed.1 in
    let few = first_none (when (not (has_few_nodes (applied None t ws))) _) [] referring.1 in
    record {
      proper = proper;
      free = record {
        unlocked = λ p h. none_changed (λ p. locked_by t p tokens) ws (nothing_first (refusal_at 7) (locked_over t tokens ws) locked.0) p h;
        checked_out = λ p h. none_changed (frozen_by t) (heeded types t ws) (nothing_first (refusal_at 8) (frozen_over types t ws) frozen.0) p h;
      };
      typed = meets_rules types (applied None t ws) (nothing_first type_refusal _ typed.0);
      referring = references_hold (applied None t ws) (nothing (λ item. refusal 9 (datum.Item item ∷ [])) (dangling (applied None t ws)) referring.0);
      few = not_refused (has_few_nodes (applied None t ws)) _ few.0;
      marked = refl;
    }
