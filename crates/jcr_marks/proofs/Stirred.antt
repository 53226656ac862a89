-- A node is covered anew only at or below a node that comes or goes, or of which a property is written that covers go by.
use Rattle.std.proofs.Common.{◌≡◌, Bool, true, false, cond, ◌&&◌, ◌||◌, not, Option, None, Some, is_some, List, [], ◌∷◌, ◌++◌, map, refl, sym, ap, ◌∙◌}
use Rattle.std.proofs.lemmas.Bool.{false≢true, and_parts, and_from, false_from_ne_true}
use Rattle.std.specs.Cmp.{eq_by_cmp_equiv}
use Rattle.std.specs.Option.{option_and_then, option_map, option_map_or}
use Rattle.std.specs.Ordering.{eq_by_cmp}
use Rattle.std.specs.List.{find, flat_map, fold, list_all, list_any}
use Rattle.std.specs.Map.{lookup, remove_entry}
use Rattle.std.specs.BTreeMap.{is_at, insert_entry}
use Rattle.std.specs.FinMap.{is_sorted}
use Rattle.std.proofs.lemmas.Cmp.{nat_list_cmp_total}
use Rattle.std.proofs.lemmas.List.Folds.{list_any-append}
use Rattle.jr_path.specs.Names.{is_under, name_cmp, path_cmp}
use Rattle.jr_path.specs.declared.name.Name.{Name}
use Rattle.jr_path.specs.declared.path.Path.{Path}
use Rattle.jr_path.proofs.Maps.{lookup-insert_entry, path_total}
use Rattle.jr_value.specs.declared.value.Property.{Property}
use Rattle.jr_value.specs.Values.{same_property}
use Rattle.jr_value.specs.Equality.{same_property_decides}
use Rattle.jr_tree.specs.declared.tree.Node.{Node}
use Rattle.jr_tree.specs.declared.edit.Write.{Write}
use Rattle.jr_tree.specs.declared.edit.Write.TheVariants.{Here, Gone, Put, Unset}
use Rattle.jr_tree.specs.Trees.{Nodes, node_at, property_at}
use Rattle.jr_tree.specs.Edits.{applied, is_same_item, last_writes}
use Rattle.jr_tree.proofs.AtPath.{come, filled, prop_of, props_of, node_at-applied}
use Rattle.jr_tree.proofs.Pointwise.{same_path as path_same}
use Rattle.jr_tree.proofs.Proper.{same_name as name_same}
use Rattle.jr_items.specs.Names.{is_checked_out, lock_is_deep, lock_owner, mixin_types, versionable}
use Rattle.jr_items.specs.Items.{same_name, same_path, upward, is_flag, is_checked_in, is_versionable, many_names}
use Rattle.jcr_lock.specs.Locks.{frozen_by, is_deep_lock, lock_covers}
use Rattle.jcr_marks.specs.Marks.{are_same, is_covered_anew, is_deepened, is_frozen_anew, is_this_path, locks_anew}
use Rattle.jcr_marks.specs.ByWrite.{covers_by, is_cover_name}

-- ---- booleans and lists

pub or_false : (a b : Bool) → (a || b) ≡ false → (a ≡ false) × (b ≡ false)
or_false true b h = absurd (false≢true (sym h))
or_false false b h = (refl, h)

-- what fails of all writes fails of the last of each item
pub none_last : (f : Write → Bool) (ws : List Write) → list_any f ws ≡ false → list_any f (last_writes ws) ≡ false
none_last f [] h = refl
none_last f (w ∷ ws) h = let parts = or_false (f w) (list_any f ws) h in by (list_any (is_same_item w) ws) parts.0 (none_last f ws parts.1)
  where
    by : (b : Bool) → f w ≡ false → list_any f (last_writes ws) ≡ false → list_any f (cond b (last_writes ws) (w ∷ last_writes ws)) ≡ false
    by true here rest = rest
    by false here rest = ap (λ b. b || list_any f (last_writes ws)) here ∙ rest

-- ---- a property that covers go by stays where no write stirs its node

-- the write changes the covers of what is at or below the path
abbrev stirs : Path → Write → Bool
stirs p w = list_any (same_path p) (covers_by w)

apart : (p q : Path) → (same_path p q || false) ≡ false → eq_by_cmp path_cmp p q ≡ false
apart p q h = (or_false (same_path p q) false h).0

come_kept : (p : Path) (o : Option Node) (w : Write) → stirs p w ≡ false → come None p o w ≡ o
come_kept p o (Here q) h = ap (λ b. cond b (Some (record { props = props_of o; born = None })) o) (apart p q h)
come_kept p o (Gone q) h = ap (λ b. cond b None o) (apart p q h)
come_kept p o (Put q m x) h = refl
come_kept p o (Unset q m) h = refl

-- no write of a property of that name is among those that stir none
other_name : (n m : Name) → is_cover_name n ≡ true → (p q : Path) → eq_by_cmp path_cmp p q ≡ true → list_any (same_path p) (cond (is_cover_name m) (q ∷ []) []) ≡ false → eq_by_cmp name_cmp n m ≡ false
other_name n m cover p q here h = false_from_ne_true _ (λ e. by (is_cover_name m) (ap is_cover_name (sym (name_same n m e)) ∙ cover) h)
  where
    by : (b : Bool) → b ≡ true → list_any (same_path p) (cond b (q ∷ []) []) ≡ false → ⊥
    by true k l = false≢true (sym (apart p q l) ∙ here)
    by false k l = false≢true k

pub removed_other : (n m : Name) → eq_by_cmp name_cmp n m ≡ false → (es : List (Name × Property)) → lookup (is_at (name_cmp n)) (remove_entry (is_at (name_cmp m)) es) ≡ lookup (is_at (name_cmp n)) es
removed_other n m h [] = refl
removed_other n m h (e ∷ es) = by (is_at (name_cmp m) e.0) refl (removed_other n m h es)
  where
    by : (b : Bool) → is_at (name_cmp m) e.0 ≡ b → lookup (is_at (name_cmp n)) (remove_entry (is_at (name_cmp m)) es) ≡ lookup (is_at (name_cmp n)) es
        → lookup (is_at (name_cmp n)) (cond b es (e ∷ remove_entry (is_at (name_cmp m)) es)) ≡ lookup (is_at (name_cmp n)) (e ∷ es)
    by true k rest = sym (ap (λ b. cond b (Some e.1) (lookup (is_at (name_cmp n)) es)) (ap (λ (x : Name). eq_by_cmp name_cmp n x) (sym (name_same m e.0 k)) ∙ h))
    by false k rest = ap (cond (eq_by_cmp name_cmp n e.0) (Some e.1)) rest

filled_kept : (n : Name) → is_cover_name n ≡ true → (p : Path) (o : Option Node) (w : Write) → stirs p w ≡ false → prop_of n (filled p o w) ≡ prop_of n o
filled_kept n cover p o (Here q) h = refl
filled_kept n cover p o (Gone q) h = refl
filled_kept n cover p o (Put q m x) h = by (eq_by_cmp path_cmp p q) refl o
  where
    by : (b : Bool) → eq_by_cmp path_cmp p q ≡ b → (o : Option Node) → prop_of n (cond b (option_map {T = Node} (λ node. record node { props = insert_entry name_cmp node.props m x }) o) o) ≡ prop_of n o
    by false e o = refl
    by true e None = refl
    by true e (Some node) =
        lookup-insert_entry name_cmp nat_list_cmp_total n m x node.props ∙ ap (λ b. cond b (Some x) (lookup (is_at (name_cmp n)) node.props)) (other_name n m cover p q e h)
filled_kept n cover p o (Unset q m) h = by (eq_by_cmp path_cmp p q) refl o
  where
    by : (b : Bool) → eq_by_cmp path_cmp p q ≡ b → (o : Option Node) → prop_of n (cond b (option_map {T = Node} (λ node. record node { props = remove_entry (is_at (name_cmp m)) node.props }) o) o) ≡ prop_of n o
    by false e o = refl
    by true e None = refl
    by true e (Some node) = removed_other n m (other_name n m cover p q e h) node.props

comes_kept : (p : Path) (o : Option Node) (ws : List Write) → list_any (stirs p) ws ≡ false → fold (come None p) o ws ≡ o
comes_kept p o [] h = refl
comes_kept p o (w ∷ ws) h =
    let parts = or_false (stirs p w) (list_any (stirs p) ws) h in
    comes_kept p (come None p o w) ws parts.1 ∙ come_kept p o w parts.0

fills_kept : (n : Name) → is_cover_name n ≡ true → (p : Path) (o : Option Node) (ws : List Write) → list_any (stirs p) ws ≡ false → prop_of n (fold (filled p) o ws) ≡ prop_of n o
fills_kept n cover p o [] h = refl
fills_kept n cover p o (w ∷ ws) h =
    let parts = or_false (stirs p w) (list_any (stirs p) ws) h in
    fills_kept n cover p (filled p o w) ws parts.1 ∙ filled_kept n cover p o w parts.0

-- the properties that covers go by are the same of the node at a path
abbrev Agrees : Nodes → Nodes → Path → Type 0
Agrees t u q = (n : Name) → is_cover_name n ≡ true → property_at u q n ≡ property_at t q n

unstirred : (t : Nodes) (ws : List Write) → is_sorted path_cmp t ≡ true → (q : Path) → list_any (stirs q) ws ≡ false → Agrees t (applied None t ws) q
unstirred t ws sorted q none n cover =
    let last = none_last (stirs q) ws none in
    ap (prop_of n) (node_at-applied None q t ws sorted) ∙ (fills_kept n cover q _ (last_writes ws) last ∙ ap (prop_of n) (comes_kept q (node_at t q) (last_writes ws) last))

-- ---- what hangs on the node and those above it alone

abbrev AllAgree : Nodes → Nodes → List Path → Type 0
AllAgree t u [] = Unit {0}
AllAgree t u (q ∷ qs) = Agrees t u q × AllAgree t u qs

not_anew : (o x : Option Property) → o ≡ x → (c : Bool) → (is_some x && c) ≡ true → are_same o x ≡ true
not_anew o None e c h = absurd (false≢true h)
not_anew o (Some x) e c h = ap (λ (y : Option Property). option_map_or (λ z. same_property z x) y false) e ∙ (same_property_decides x x).1 refl

locks_kept : (t u : Nodes) (p q : Path) → Agrees t u q → locks_anew t u p q ≡ false
locks_kept t u p q agree = by (lock_covers u q p) refl
  where
    owner : property_at u q lock_owner ≡ property_at t q lock_owner
    owner = agree lock_owner refl

    covers : lock_covers u q p ≡ lock_covers t q p
    covers = ap (λ (o : Option Property). is_some o && (same_path q p || is_flag true (property_at u q lock_is_deep) && is_under p q)) owner
        ∙ ap (λ (o : Option Property). is_some (property_at t q lock_owner) && (same_path q p || is_flag true o && is_under p q)) (agree lock_is_deep refl)

    by : (b : Bool) → lock_covers u q p ≡ b → (b && not (lock_covers t q p && are_same (property_at t q lock_owner) (property_at u q lock_owner))) ≡ false
    by false h = refl
    by true h = ap not (and_from _ _ (sym covers ∙ h) (not_anew _ _ (sym owner) _ h))

locks_none : (t u : Nodes) (p : Path) (qs : List Path) → AllAgree t u qs → list_any (locks_anew t u p) qs ≡ false
locks_none t u p [] all = refl
locks_none t u p (q ∷ qs) all = ap (λ b. b || list_any (locks_anew t u p) qs) (locks_kept t u p q all.0) ∙ locks_none t u p qs all.1

abbrev frozen_in : Nodes → List Path → Option Path
frozen_in t qs = option_and_then (λ q. cond (is_checked_in t q) (Some q) None) (find (is_versionable t) qs)

versionable_kept : (t u : Nodes) (q : Path) → Agrees t u q → is_versionable u q ≡ is_versionable t q
versionable_kept t u q agree = ap (λ (o : Option Property). mixed o) (agree mixin_types refl)
  where
    mixed : Option Property → Bool
    mixed o = list_any (same_name versionable) (many_names o)

frozen_kept : (t u : Nodes) (qs : List Path) → AllAgree t u qs → frozen_in u qs ≡ frozen_in t qs
frozen_kept t u [] all = refl
frozen_kept t u (q ∷ qs) all = ap (λ b. option_and_then (λ q. cond (is_checked_in u q) (Some q) None) (cond b (Some q) (find (is_versionable u) qs))) same ∙ by (is_versionable t q) (frozen_kept t u qs all.1)
  where
    same : is_versionable u q ≡ is_versionable t q
    same = versionable_kept t u q all.0

    checked : is_checked_in u q ≡ is_checked_in t q
    checked = ap (λ b. b && is_flag false (property_at u q is_checked_out)) same ∙ ap (λ (o : Option Property). is_versionable t q && is_flag false o) (all.0 is_checked_out refl)

    by : (b : Bool) → frozen_in u qs ≡ frozen_in t qs
        → option_and_then (λ q. cond (is_checked_in u q) (Some q) None) (cond b (Some q) (find (is_versionable u) qs)) ≡ option_and_then (λ q. cond (is_checked_in t q) (Some q) None) (cond b (Some q) (find (is_versionable t) qs))
    by true rest = ap (λ c. cond c (Some q) None) checked
    by false rest = rest

pub path_self : (q : Path) → same_path q q ≡ true
path_self q = (eq_by_cmp_equiv path_total).refl q

not_frozen : (t u : Nodes) (p : Path) → frozen_by u p ≡ frozen_by t p → is_frozen_anew t u p ≡ false
not_frozen t u p same = by (frozen_by u p) same
  where
    by : (o : Option Path) → o ≡ frozen_by t p → option_map_or (λ q. not (is_this_path (frozen_by t p) q)) o false ≡ false
    by None e = refl
    by (Some q) e = ap (λ (o : Option Path). not (is_this_path o q)) (sym e) ∙ ap not (path_self q)

deep_kept : (t u : Nodes) (p : Path) → Agrees t u p → is_deepened t u p ≡ false
deep_kept t u p agree =
    ap (λ b. b && not (is_deep_lock t p)) (ap (λ (o : Option Property). is_some o && is_flag true (property_at u p lock_is_deep)) (agree lock_owner refl) ∙ ap (λ (o : Option Property). is_some (property_at t p lock_owner) && is_flag true o) (agree lock_is_deep refl))
    ∙ by (is_deep_lock t p)
  where
    by : (b : Bool) → (b && not b) ≡ false
    by true = refl
    by false = refl

kept : (t u : Nodes) (p : Path) → AllAgree t u (upward p) → Agrees t u p → is_covered_anew t u p ≡ false
kept t u p all here =
    ap (λ b. (b || is_frozen_anew t u p) || is_deepened t u p) (locks_none t u p (upward p) all)
    ∙ (ap (λ b. b || is_deepened t u p) (not_frozen t u p (frozen_kept t u (upward p) all)) ∙ deep_kept t u p here)

-- ---- a path is at or below each of those from it up to the root

name_self : (n : Name) → eq_by_cmp name_cmp n n ≡ true
name_self n = (eq_by_cmp_equiv nat_list_cmp_total).refl n

under_self : (p : Path) → is_under p p ≡ true
under_self [] = refl
under_self (n ∷ p) = and_from _ _ (name_self n) (under_self p)

under_all : (n : Name) (p : Path) (qs : List Path) → list_all (is_under p) qs ≡ true → list_all (is_under (n ∷ p)) (map (λ q. n ∷ q) qs ++ ([] ∷ [])) ≡ true
under_all n p [] h = refl
under_all n p (q ∷ qs) h = let parts = and_parts _ _ h in and_from _ _ (and_from _ _ (name_self n) parts.0) (under_all n p qs parts.1)

upward_under : (p : Path) → list_all (is_under p) (upward p) ≡ true
upward_under [] = refl
upward_under (n ∷ p) = under_all n p (upward p) (upward_under p)

pub any_flat : {X Y : Type 0} (test : Y → Bool) (f : X → List Y) (xs : List X) → list_any test (flat_map f xs) ≡ list_any (λ x. list_any test (f x)) xs
any_flat test f [] = refl
any_flat test f (x ∷ xs) = list_any-append test (f x) (flat_map f xs) ∙ ap (λ b. list_any test (f x) || b) (any_flat test f xs)

-- a path that is at or below none of these is none of those above it
none_above : (p q : Path) → is_under p q ≡ true → (rs : List Path) → list_any (is_under p) rs ≡ false → list_any (same_path q) rs ≡ false
none_above p q under [] h = refl
none_above p q under (r ∷ rs) h =
    let parts = or_false (is_under p r) (list_any (is_under p) rs) h in
    ap (λ b. b || list_any (same_path q) rs) (false_from_ne_true (same_path q r) (λ e. false≢true (sym parts.0 ∙ (ap (is_under p) (sym (path_same q r e)) ∙ under)))) ∙ none_above p q under rs parts.1

all_agree : (t : Nodes) (ws : List Write) → is_sorted path_cmp t ≡ true → (p : Path) → list_any (is_under p) (flat_map covers_by ws) ≡ false → (qs : List Path) → list_all (is_under p) qs ≡ true → AllAgree t (applied None t ws) qs
all_agree t ws sorted p none [] h = tt
all_agree t ws sorted p none (q ∷ qs) h =
    let parts = and_parts _ _ h in
    (unstirred t ws sorted q (sym (any_flat (same_path q) covers_by ws) ∙ none_above p q parts.0 (flat_map covers_by ws) none), all_agree t ws sorted p none qs parts.1)

-- what is covered anew is at or below one of the nodes whose covers are changed
pub covered_under : (t : Nodes) (ws : List Write) → is_sorted path_cmp t ≡ true → (p : Path) → is_covered_anew t (applied None t ws) p ≡ true → list_any (is_under p) (flat_map covers_by ws) ≡ true
covered_under t ws sorted p anew = by (list_any (is_under p) (flat_map covers_by ws)) refl
  where
    by : (b : Bool) → list_any (is_under p) (flat_map covers_by ws) ≡ b → b ≡ true
    by true h = refl
    by false h =
        let here = all_agree t ws sorted p h (p ∷ []) (and_from _ _ (under_self p) refl) in
        absurd (false≢true (sym (kept t (applied None t ws) p (all_agree t ws sorted p h (upward p) (upward_under p)) here.0) ∙ anew))
