-- A check-in leaves what its version leaves out as it was.
use Rattle.std.proofs.Common.{◌≡◌, ℕ, ◌+◌, Bool, true, false, cond, ◌++◌, Some, None, Option, List, [], ◌∷◌, map, length, refl, sym, ap, ◌∙◌, subst, append_assoc, append-nil}
use Rattle.std.specs.Prelude.{◌&&◌, is_some, not}
use Rattle.std.specs.Ordering.{eq_by_cmp}
use Rattle.std.specs.Option.{option_and_then, option_map}
use Rattle.std.specs.List.{filter, list_all, list_any}
use Rattle.std.proofs.lemmas.Bool.{and_from, and_parts, false≢true}
use Rattle.std.proofs.lemmas.Option.{none-some, same_Some}
use Rattle.basics.proofs.Bools.{and_never}
use Rattle.basics.proofs.Lists.{all_joined}
use Rattle.jr_path.specs.Names.{is_under, last_name, name_cmp, path_cmp}
use Rattle.jr_path.specs.declared.name.Name.{Name}
use Rattle.jr_path.specs.declared.path.Path.{Path}
use Rattle.jr_path.proofs.Parts.{below_is_prefix, parent_of-child}
use Rattle.jr_rev.specs.declared.revision.Revision.{Revision}
use Rattle.jr_value.specs.declared.value.Property.{Property}
use Rattle.jr_tree.specs.declared.edit.Write.{Write}
use Rattle.jr_tree.specs.declared.edit.Write.TheVariants.{Here, Put}
use Rattle.jr_tree.specs.declared.shared.Who.{Who}
use Rattle.jr_tree.specs.declared.tree.Node.{Node}
use Rattle.jr_tree.specs.Edits.{applied}
use Rattle.jr_tree.specs.Trees.{Nodes, node_at, subtree_of}
use Rattle.jr_tree.proofs.Pointwise.{same_path}
use Rattle.jr_items.specs.Items.{adding, child_path, is_versionable, many_names, property_of, same_name}
use Rattle.jr_items.specs.Names.{base_version, frozen_node, is_checked_out, mixin_types, predecessors, primary_type, system, versionable, version_storage_name}
use Rattle.jr_types.specs.Attributes.{child_passes}
use Rattle.jr_types.specs.Said.{types_said}
use Rattle.jr_types.specs.declared.TypeDef.{TypeDef}
use Rattle.jcr_lock.specs.Needed.{is_needed}
use Rattle.jcr_ref.specs.Drawn.{latest_date}
use Rattle.jcr_ref.specs.Histories.{version_history_of, number_by, version_names}
use Rattle.jcr_ref.specs.References.{identifier_of}
use Rattle.jcr_frozen.specs.Attributes.{child_has, has_asked, node_has}
use Rattle.jcr_frozen.specs.declared.attributes.Asked.TheVariants as asked
use Rattle.jcr_version.specs.Edits.{checked_in_writes, checkin_writes, succeed, version_nodes}
use Rattle.jcr_frozen.specs.Frozen.{frozen_tree, is_frozen_along, is_frozen_down}
use Rattle.jcr_frozen.specs.Histories.{drawn_id, predecessors_of, version_name, versions_of}
use Rattle.jcr_restore.specs.BroughtBack.{left_out}
use Rattle.jcr_restore.specs.CheckedIn.{IsCheckIn, made_version}
use Rattle.jcr_restore.specs.Edits.{frozen_of}
use Rattle.jcr_restore.proofs.CheckedIn.{accepted, filtered}
use Rattle.jcr_restore.proofs.FrozenStays.{under_part}
use Rattle.jcr_restore.proofs.Standing.{same_front}
use Rattle.jcr_restore.proofs.Untouched.{adding_all, is_apart, is_other_item, node_apart, prop_apart, there_apart}

-- ---- which nodes are frozen hangs on the types of the node and on the nodes below it

said_alike : (types : List TypeDef) (above other : Option Node)
    → option_map types_said above ≡ option_map types_said other
    → (n : Option Name) (child : Option Node)
    → child_has asked.Kept types above n child ≡ child_has asked.Kept types other n child
said_alike types None None h n child = refl
said_alike types None (Some y) h n child = absurd (none-some _ h)
said_alike types (Some x) None h n child = absurd (none-some _ (sym h))
said_alike types (Some x) (Some y) h None child = refl
said_alike types (Some x) (Some y) h (Some n) None = refl
said_alike types (Some x) (Some y) h (Some n) (Some child) =
    ap (λ s. child_passes (has_asked asked.Kept) types s n (Some (property_of child primary_type)))
    (same_Some _ _ h)

-- a child is asked for by the types of its node
asked_of : (types : List TypeDef) (t : Nodes) (here : Path) (n : Name)
    → node_has asked.Kept types t (child_path here n)
    ≡ child_has asked.Kept types (node_at t here) (last_name (child_path here n))
    (node_at t (child_path here n))
asked_of types t here n =
    ap (λ (o : Option Path). child_has asked.Kept types (option_and_then (node_at t) o)
    (last_name (child_path here n)) (node_at t (child_path here n))) (parent_of-child here n)

module _ (types : List TypeDef) (old new : Nodes) where
  along_alike : (here : Path) (n : Name)
      → option_map types_said (node_at new here) ≡ option_map types_said (node_at old here)
      → node_at new (child_path here n) ≡ node_at old (child_path here n)
      → is_frozen_along types new (child_path here n)
      ≡ is_frozen_along types old (child_path here n)
  along_alike here n said same = λ i. has i && not (free i)
    where
      has : node_has asked.Kept types new (child_path here n)
          ≡ node_has asked.Kept types old (child_path here n)
      has =
          asked_of types new here n
          ∙ (ap (child_has asked.Kept types (node_at new here) (last_name (child_path here n))) same
          ∙ (said_alike types (node_at new here) (node_at old here) said
          (last_name (child_path here n)) (node_at old (child_path here n))
          ∙ sym (asked_of types old here n)))

      free : is_versionable new (child_path here n) ≡ is_versionable old (child_path here n)
      free =
          ap (λ (o : Option Node). list_any (same_name versionable)
          (many_names (option_and_then (λ node. property_of node mixin_types) o))) same

  down_alike : (here : Path)
      → option_map types_said (node_at new here) ≡ option_map types_said (node_at old here)
      → ((n : Name) (ns : List Name) → node_at new (here ++ n ∷ ns) ≡ node_at old (here ++ n ∷ ns))
      → (ns : List Name) → is_frozen_down types new here ns ≡ is_frozen_down types old here ns
  down_alike here said same [] = refl
  down_alike here said same (n ∷ ns) =
      λ i. along_alike here n said (same n []) i
      && down_alike (child_path here n) (ap (option_map types_said) (same n []))
      (λ m ms. ap (node_at new) (append_assoc here (n ∷ []) (m ∷ ms))
      ∙ (same n (m ∷ ms) ∙ sym (ap (node_at old) (append_assoc here (n ∷ []) (m ∷ ms))))) ns i

  -- so does what a version leaves out
  left_out_alike : (p : Path)
      → option_map types_said (node_at new p) ≡ option_map types_said (node_at old p)
      → ((n : Name) (ns : List Name) → node_at new (p ++ n ∷ ns) ≡ node_at old (p ++ n ∷ ns))
      → (ns : List Name) → left_out types new p ns ≡ left_out types old p ns
  left_out_alike p said same [] = refl
  left_out_alike p said same (n ∷ ns) =
      λ i. cond (down_alike p said same (n ∷ ns) i) None (same n ns i)

-- what nodes say of their types hangs on two of their properties
abbrev prop_in : Name → Option Node → Option Property
prop_in n o = option_and_then (λ node. property_of node n) o

said_same : (a b : Option Node) → is_some a ≡ is_some b
    → prop_in primary_type a ≡ prop_in primary_type b
    → prop_in mixin_types a ≡ prop_in mixin_types b
    → option_map types_said a ≡ option_map types_said b
said_same None None h primary mixins = refl
said_same None (Some y) h primary mixins = absurd (false≢true h)
said_same (Some x) None h primary mixins = absurd (false≢true (sym h))
said_same (Some x) (Some y) h primary mixins =
    λ i. Some (record { primary = primary i; mixins = mixins i })

-- ---- a check-in writes among the repository's own nodes, and three properties of its node

-- a path that isn't one of the repository's own is none of those
apart_in : (q r : Path) → is_under q system ≡ false → is_under r system ≡ true
    → eq_by_cmp path_cmp q r ≡ false
apart_in q r out inside = by (eq_by_cmp path_cmp q r) refl
  where
    by : (b : Bool) → eq_by_cmp path_cmp q r ≡ b → b ≡ false
    by false h = refl
    by true h =
        absurd (false≢true (sym out
        ∙ subst (λ (s : Path). is_under s system ≡ true) (sym (same_path q r h)) inside))

under_both : (a b c : Path) → is_under a b ≡ true → is_under b c ≡ true → is_under a c ≡ true
under_both a b c h k =
    let x = (below_is_prefix a b).0 h in
    let y = (below_is_prefix b c).0 k in
    (below_is_prefix a c).1
    (y.0 ++ x.0, x.1 ∙ (ap (λ (r : Path). r ++ x.0) y.1 ∙ append_assoc c y.0 x.0))

all_both : (f c : Path) (ns : Nodes) → is_under f c ≡ true
    → list_all (λ e. is_under e.0 f) ns ≡ true → list_all (λ e. is_under e.0 c) ns ≡ true
all_both f c [] h all = refl
all_both f c (e ∷ ns) h all =
    and_from _ _ (under_both e.0 f c (and_parts _ _ all).0 h)
    (all_both f c ns h (and_parts _ _ all).1)

children_in : (h : Path) → is_under h system ≡ true → (ns : List Name)
    → list_all (λ r. is_under r system) (map (child_path h) ns) ≡ true
children_in h inside [] = refl
children_in h inside (n ∷ ns) =
    and_from _ _
    (under_both (child_path h n) h system
    ((below_is_prefix (child_path h n) h).1 (n ∷ [], refl)) inside)
    (children_in h inside ns)

-- each write passes a test that those of the repository's own nodes pass, and those of the node
module _ (types : List TypeDef) (t : Nodes) (p : Path) (who : Who) (ok : Write → Bool)
    (here : (r : Path) → is_under r system ≡ true → ok (Here r) ≡ true)
    (put : (r : Path) (n : Name) (x : Property) → is_under r system ≡ true
    → ok (Put r n x) ≡ true) where
  abbrev drawn : ℕ
  drawn = number_by who (who.ids + 1)

  abbrev version : Path
  version = made_version t p

  history_in : is_under (version_history_of t p) system ≡ true
  history_in =
      (below_is_prefix (version_history_of t p) system).1
      (version_storage_name ∷ identifier_of t p ∷ [], refl)

  version_in : is_under version system ≡ true
  version_in =
      under_both version (version_history_of t p) system
      ((below_is_prefix version (version_history_of t p)).1
      (version_name (length (version_names t (version_history_of t p))) ∷ [], refl)) history_in

  frozen_in : is_under (frozen_of version) system ≡ true
  frozen_in =
      under_both (frozen_of version) version system
      ((below_is_prefix (frozen_of version) version).1 (frozen_node ∷ [], refl)) version_in

  nodes_pass : list_all ok
      (adding (version_nodes types t p version (drawn_id who) (latest_date who.base))) ≡ true
  nodes_pass =
      adding_all ok (λ r. is_under r system) here put
      (version_nodes types t p version (drawn_id who) (latest_date who.base))
      (and_from _ _ version_in
      (all_both (frozen_of version) system (frozen_tree types t p (frozen_of version)) frozen_in
      (under_part types t p (frozen_of version) (subtree_of t p))))

  succeed_pass : (rs : List Path) → list_all (λ r. is_under r system) rs ≡ true
      → list_all ok (map (succeed t drawn) rs) ≡ true
  succeed_pass [] all = refl
  succeed_pass (r ∷ rs) all =
      and_from _ _ (put r _ _ (and_parts _ _ all).0) (succeed_pass rs (and_parts _ _ all).1)

  writes_pass : list_all ok (checked_in_writes p drawn) ≡ true
      → list_all ok (filter (is_needed t) (checkin_writes types t p who)) ≡ true
  writes_pass own =
      filtered (is_needed t) ok (checkin_writes types t p who)
      (all_joined ok
      (adding (version_nodes types t p version (drawn_id who) (latest_date who.base)))
      (map (succeed t drawn) (predecessors_of t p) ++ checked_in_writes p drawn) nodes_pass
      (all_joined ok (map (succeed t drawn) (predecessors_of t p)) (checked_in_writes p drawn)
      (succeed_pass (predecessors_of t p)
      (filtered _ (λ r. is_under r system) (versions_of t (version_history_of t p))
      (children_in (version_history_of t p) history_in (version_names t (version_history_of t p)))))
      own))

own_apart : (p : Path) (id : ℕ) (q : Path) → eq_by_cmp path_cmp q p ≡ false
    → list_all (is_apart q) (checked_in_writes p id) ≡ true
own_apart p id q h = ap (λ b. not b && (not b && (not b && true))) h

own_other : (p : Path) (id : ℕ) (n : Name) → same_name n is_checked_out ≡ false
    → same_name n base_version ≡ false → same_name n predecessors ≡ false
    → list_all (is_other_item p n) (checked_in_writes p id) ≡ true
own_other p id n a b c =
    and_from _ _ (not_that is_checked_out a)
    (and_from _ _ (not_that base_version b) (and_from _ _ (not_that predecessors c) refl))
  where
    not_that : (m : Name) → same_name n m ≡ false
        → not (eq_by_cmp path_cmp p p && eq_by_cmp name_cmp n m) ≡ true
    not_that m h =
        ap not
        (ap (λ b. eq_by_cmp path_cmp p p && b) h ∙ and_never (eq_by_cmp path_cmp p p))

-- below a node that isn't one of the repository's own, nor the root, none is
out_below : (p ns : Path) → (p ≡ [] → ⊥) → is_under p system ≡ false
    → is_under (p ++ ns) system ≡ false
out_below [] ns some h = absurd (some refl)
out_below (n ∷ p) ns some h = h

-- ---- the law

module _ (types : List TypeDef) (born : Option Revision) (old : Nodes) (p : Path) (who : Who)
    (ws : List Write) (checkin : IsCheckIn types old p who ws) (below : p ≡ [] → ⊥) where
  abbrev edit : List Write
  edit = filter (is_needed old) (checkin_writes types old p who)

  abbrev number : ℕ
  number = number_by who (who.ids + 1)

  due : (is_under p system ≡ false) × (edit ≡ ws)
  due = accepted types old p who ws checkin.out checkin.due

  node_as_was : (n : Name) (ns : List Name)
      → node_at (applied born old edit) (p ++ n ∷ ns) ≡ node_at old (p ++ n ∷ ns)
  node_as_was n ns =
      node_apart born old checkin.was (p ++ n ∷ ns) edit
      (writes_pass types old p who (is_apart (p ++ n ∷ ns)) apart (λ r m x. apart r)
      (own_apart p number (p ++ n ∷ ns) own))
    where
      own : eq_by_cmp path_cmp (p ++ n ∷ ns) p ≡ false
      own =
          ap (λ (q : Path). eq_by_cmp path_cmp (p ++ n ∷ ns) q) (sym (append-nil p))
          ∙ same_front p (n ∷ ns) []

      apart : (r : Path) → is_under r system ≡ true
          → not (eq_by_cmp path_cmp (p ++ n ∷ ns) r) ≡ true
      apart r inside =
          ap not (apart_in (p ++ n ∷ ns) r (out_below p (n ∷ ns) below due.0) inside)

  other_items : (n : Name) → same_name n is_checked_out ≡ false → same_name n base_version ≡ false
      → same_name n predecessors ≡ false → list_all (is_other_item p n) edit ≡ true
  other_items n a b c =
      writes_pass types old p who (is_other_item p n)
      (λ r inside. ap not (apart_in p r due.0 inside))
      (λ r m x inside. ap (λ b. not (b && eq_by_cmp name_cmp n m)) (apart_in p r due.0 inside))
      (own_other p number n a b c)

  said_as_was : option_map types_said (node_at (applied born old edit) p)
      ≡ option_map types_said (node_at old p)
  said_as_was =
      let primary = other_items primary_type refl refl refl in
      let mixins = other_items mixin_types refl refl refl in
      said_same (node_at (applied born old edit) p) (node_at old p)
      (there_apart born old checkin.was p primary_type edit primary)
      (prop_apart born old checkin.was p primary_type edit primary)
      (prop_apart born old checkin.was p mixin_types edit mixins)

  -- after the check-in what a version leaves out is as it was
  pub leaves_out : (ns : List Name)
      → left_out types (applied born old ws) p ns ≡ left_out types old p ns
  leaves_out ns =
      ap (λ (us : List Write). left_out types (applied born old us) p ns) (sym due.1)
      ∙ left_out_alike types old (applied born old edit) p said_as_was node_as_was ns
