-- A restore brings back what a version keeps, and leaves the rest.
use Rattle.std.proofs.Common.{◌≡◌, Bool, true, false, cond, ◌++◌, Some, None, Option, List, [], ◌∷◌, refl, sym, ap, ◌∙◌}
use Rattle.std.specs.Prelude.{ℕ, ◌&&◌, ◌||◌, is_some}
use Rattle.std.specs.Cmp.{IsEquivalence}
use Rattle.std.specs.Ordering.{eq_by_cmp}
use Rattle.std.specs.List.{fold}
use Rattle.std.specs.Option.{option_and_then, option_map, option_or}
use Rattle.std.specs.Map.{lookup}
use Rattle.std.specs.BTreeMap.{insert_entry, is_at}
use Rattle.std.proofs.lemmas.Bool.{false≢true, or_parts, true≢false}
use Rattle.std.proofs.lemmas.Cmp.{eq_by_cmp_equiv}
use Rattle.std.proofs.lemmas.List.{append-nil}
use Rattle.std.proofs.lemmas.Option.{none-some, same_Some}
use Rattle.basics.proofs.Bools.{and_never}
use Rattle.basics.proofs.Options.{none_of, some_mapped}
use Rattle.jr_path.specs.Names.{name_cmp, path_cmp}
use Rattle.jr_path.specs.declared.name.Name.{Name}
use Rattle.jr_path.specs.declared.path.Path.{Path}
use Rattle.jr_path.proofs.Maps.{path_total}
use Rattle.jr_value.specs.declared.value.Kind.TheVariants as kind
use Rattle.jr_value.specs.declared.value.Property.{Property}
use Rattle.jr_value.specs.declared.value.Property.TheVariants.{Single, Many}
use Rattle.jr_value.specs.declared.value.Value.TheVariants as value
use Rattle.jr_tree.specs.declared.tree.Node.{Node}
use Rattle.jr_tree.specs.Trees.{Nodes, node_at, property_at, subtree_of}
use Rattle.jr_tree.specs.declared.edit.Write.TheVariants.{Put}
use Rattle.jr_tree.specs.Edits.{with_property_write}
use Rattle.jr_tree.proofs.AtPath.{node_at-fills}
use Rattle.jr_tree.proofs.EditLaw.{Orderly-all, fills_has}
use Rattle.jr_tree.proofs.Pointwise.{property_at-put}
use Rattle.jr_tree.proofs.Undated.{node_at-undated, undate}
use Rattle.jr_items.specs.Names.{base_version, is_checked_out, predecessors}
use Rattle.jr_items.specs.Items.{property_of, same_name, same_path}
use Rattle.jr_types.specs.declared.TypeDef.{TypeDef}
use Rattle.jcr_frozen.specs.Frozen.{frozen_copy, frozen_props, is_frozen_down}
use Rattle.jcr_restore.specs.declared.fates.Fate.{Fate}
use Rattle.jcr_restore.specs.Restored.{brought, brought_props, fate_below, is_brought, is_staying, restored}
use Rattle.jcr_restore.specs.BroughtBack.{CanComeBack, ComesBack, IsBack, is_checking_in, left_out}
use Rattle.jcr_ref.specs.Histories.{number_at, reference_to}
use Rattle.jcr_version.specs.Edits.{checked_in_writes}
use Rattle.jcr_restore.specs.Edits.{after_restore, frozen_of}
use Rattle.jcr_restore.specs.BroughtBack.ComesBack.{kept, primary, mixins, unkept, made}
use Rattle.jcr_restore.proofs.PropertiesBack.{OneNode, identifier_back, kept_back, left_back, mixins_back, primary_back}
use Rattle.jcr_restore.proofs.Standing.{frozen_below, node_below, restored_below, same_front}
use Rattle.jcr_restore.proofs.OnTheWay.{IsFrozenAs, brought_down, never_stays, none_either, stays_down}

if_some : (b : Bool) (f : Node → Node) (o : Option Node) → is_some (option_and_then (λ node. cond b (Some (f node)) None) o) ≡ (b && is_some o)
if_some b f None = sym (and_never b)
if_some true f (Some node) = refl
if_some false f (Some node) = refl

never : (f : Node → Node) (o : Option Node) → option_and_then (λ node. cond false (Some (f node)) None) o ≡ None
never f None = refl
never f (Some node) = refl

itself : (o : Option Node) → option_and_then (λ node. cond true (Some node) None) o ≡ o
itself None = refl
itself (Some node) = refl

module _ (types : List TypeDef) (old new : Nodes) (p f : Path) (can : CanComeBack types old new p f) where
  -- the frozen node by these names is that of the node that was there
  frozen_is : (ns : List Name) → option_map undate (node_at new (f ++ ns)) ≡ option_and_then (λ node. cond (is_frozen_down types old p ns) (Some (frozen_copy types node)) None) (node_at old (p ++ ns))
  frozen_is ns =
      sym (node_at-undated (subtree_of new f) (f ++ ns) ∙ ap (option_map undate) (node_below new f ns))
      ∙ (ap (λ (t : Nodes). node_at t (f ++ ns)) can.frozen ∙ frozen_below types old p f ns can.was)

  known : IsFrozenAs types old new p f
  known = record {
    kept = λ ns. sym (some_mapped undate (node_at new (f ++ ns))) ∙ (ap is_some (frozen_is ns) ∙ if_some (is_frozen_down types old p ns) (frozen_copy types) (node_at old (p ++ ns)));
    others = can.others;
  }

  frozen_found : (ns : List Name) (was : Node) → is_frozen_down types old p ns ≡ true → node_at old (p ++ ns) ≡ Some was → (frozen : Node) × (node_at new (f ++ ns) ≡ Some frozen) × (frozen.props ≡ frozen_props types was)
  frozen_found ns was down at = by (node_at new (f ++ ns)) refl
    where
      copy : option_map undate (node_at new (f ++ ns)) ≡ Some (frozen_copy types was)
      copy =
          frozen_is ns
          ∙ (ap (λ b. option_and_then (λ node. cond b (Some (frozen_copy types node)) None) (node_at old (p ++ ns))) down
          ∙ ap (option_and_then (λ node. Some (frozen_copy types node))) at)

      by : (o : Option Node) → node_at new (f ++ ns) ≡ o → (frozen : Node) × (o ≡ Some frozen) × (frozen.props ≡ frozen_props types was)
      by None h = absurd (none-some _ (sym (ap (option_map undate) h) ∙ copy))
      by (Some frozen) h = (frozen, refl, ap (λ (node : Node). node.props) (same_Some _ _ (sym (ap (option_map undate) h) ∙ copy)))

  -- a node that is kept is there, brought to its frozen node
  kept_node : (ns : List Name) (was frozen : Node) → is_frozen_down types old p ns ≡ true → node_at old (p ++ ns) ≡ Some was → node_at new (f ++ ns) ≡ Some frozen
      → node_at (restored types new p f) (p ++ ns) ≡ Some (brought types new (p ++ ns) frozen)
  kept_node ns was frozen down at there =
      restored_below types new p f ns can.is
      ∙ (ap (λ (o : Option Node). option_or (option_and_then (λ frozen. cond (is_brought (fate_below types new p f ns)) (Some (brought types new (p ++ ns) frozen)) None) o) (option_and_then (λ node. cond (is_staying (fate_below types new p f ns)) (Some node) None) (node_at new (p ++ ns)))) there
      ∙ ap (λ (x : Fate). option_or (cond (is_brought x) (Some (brought types new (p ++ ns) frozen)) None) (option_and_then (λ node. cond (is_staying x) (Some node) None) (node_at new (p ++ ns))))
      (brought_down types old new can.was can.is p f ns known down (ap is_some at)))

  -- nothing is there that wasn't
  none_back : (ns : List Name) → node_at old (p ++ ns) ≡ None → node_at (restored types new p f) (p ++ ns) ≡ None
  none_back ns at = restored_below types new p f ns can.is ∙ (ap (λ (o : Option Node). option_or o stayed) no_frozen ∙ by (is_frozen_down types new p ns) refl)
    where
      stayed : Option Node
      stayed = option_and_then (λ node. cond (is_staying (fate_below types new p f ns)) (Some node) None) (node_at new (p ++ ns))

      no_frozen : option_and_then (λ frozen. cond (is_brought (fate_below types new p f ns)) (Some (brought types new (p ++ ns) frozen)) None) (node_at new (f ++ ns)) ≡ None
      no_frozen =
          ap (option_and_then (λ frozen. cond (is_brought (fate_below types new p f ns)) (Some (brought types new (p ++ ns) frozen)) None))
          (none_of _ (known.kept ns ∙ (ap (λ (o : Option Node). is_frozen_down types old p ns && is_some o) at ∙ and_never (is_frozen_down types old p ns))))

      out : left_out types new p ns ≡ None
      out = can.others ns ∙ (ap (cond (is_frozen_down types old p ns) None) at ∙ none_either (is_frozen_down types old p ns))

      by : (b : Bool) → is_frozen_down types new p ns ≡ b → stayed ≡ None
      by true h = ap (λ b. option_and_then (λ node. cond b (Some node) None) (node_at new (p ++ ns))) (never_stays types new p f ns h) ∙ never (λ node. node) (node_at new (p ++ ns))
      by false h = ap (option_and_then (λ node. cond (is_staying (fate_below types new p f ns)) (Some node) None)) (sym (ap (λ b. cond b None (node_at new (p ++ ns))) h) ∙ out)

  -- a node that a version leaves out is as it was
  others_back : (ns : List Name) → is_frozen_down types old p ns ≡ false → node_at (restored types new p f) (p ++ ns) ≡ node_at old (p ++ ns)
  others_back ns apart = by (node_at old (p ++ ns)) refl
    where
      out : left_out types new p ns ≡ node_at old (p ++ ns)
      out = can.others ns ∙ ap (λ b. cond b None (node_at old (p ++ ns))) apart

      same : (was : Node) → node_at old (p ++ ns) ≡ Some was → (b : Bool) → is_frozen_down types new p ns ≡ b → node_at new (p ++ ns) ≡ Some was
      same was at true h = absurd (none-some was (sym (ap (λ b. cond b None (node_at new (p ++ ns))) h) ∙ (out ∙ at)))
      same was at false h = sym (ap (λ b. cond b None (node_at new (p ++ ns))) h) ∙ (out ∙ at)

      by : (o : Option Node) → node_at old (p ++ ns) ≡ o → node_at (restored types new p f) (p ++ ns) ≡ o
      by None at = none_back ns at
      by (Some was) at =
          restored_below types new p f ns can.is
          ∙ (ap (λ (x : Fate). option_or (option_and_then (λ frozen. cond (is_brought x) (Some (brought types new (p ++ ns) frozen)) None) (node_at new (f ++ ns))) (option_and_then (λ node. cond (is_staying x) (Some node) None) (node_at new (p ++ ns))))
          (stays_down types old new can.was can.is p f ns known apart (ap is_some at))
          ∙ (ap (λ (o : Option Node). option_or o (option_and_then (λ node. cond true (Some node) None) (node_at new (p ++ ns)))) (never (brought types new (p ++ ns)) (node_at new (f ++ ns)))
          ∙ (itself (node_at new (p ++ ns)) ∙ same was at (is_frozen_down types new p ns) refl)))

  nodes_back : (ns : List Name) → is_some (node_at (restored types new p f) (p ++ ns)) ≡ is_some (node_at old (p ++ ns))
  nodes_back ns = by (node_at old (p ++ ns)) refl (is_frozen_down types old p ns) refl
    where
      by : (o : Option Node) → node_at old (p ++ ns) ≡ o → (b : Bool) → is_frozen_down types old p ns ≡ b → is_some (node_at (restored types new p f) (p ++ ns)) ≡ is_some o
      by None at b h = ap is_some (none_back ns at)
      by (Some was) at true h =
          let found = frozen_found ns was h at in
          ap is_some (kept_node ns was found.0 h at found.1)
      by (Some was) at false h = ap is_some (others_back ns h ∙ at)

  one_node : (ns : List Name) (was frozen : Node) → node_at old (p ++ ns) ≡ Some was → node_at new (f ++ ns) ≡ Some frozen → frozen.props ≡ frozen_props types was → OneNode types was (node_at new (p ++ ns)) frozen
  one_node ns was frozen at there props = record {
    was_sorted = Orderly-all old can.was.names (p ++ ns) was at;
    found_sorted = Orderly-all new can.is.names (p ++ ns);
    frozen_sorted = Orderly-all new can.is.names (f ++ ns) frozen there;
    frozen_is = props;
  }

  -- a property that comes back, of one node
  property_back : (was frozen : Node) (found : Option Node) → OneNode types was found frozen → (n : Name) → ComesBack types was found n → lookup (is_at (name_cmp n)) (brought_props types found frozen) ≡ property_of was n
  property_back was frozen found one _ (kept n x is has plain) = kept_back types was found frozen one n x plain is has
  property_back was frozen found one _ primary = primary_back types was found frozen one
  property_back was frozen found one _ mixins = mixins_back types was found frozen one
  property_back was frozen found one _ (unkept n before same) = left_back types was found frozen one n same before
  property_back was frozen found one _ (made x none is) = identifier_back types was found frozen one x none is

  properties_back : (ns : List Name) (was : Node) (n : Name) → is_frozen_down types old p ns ≡ true → node_at old (p ++ ns) ≡ Some was → ComesBack types was (node_at new (p ++ ns)) n
      → property_at (restored types new p f) (p ++ ns) n ≡ property_of was n
  properties_back ns was n down at back =
      let found = frozen_found ns was down at in
      ap (λ (o : Option Node). option_and_then (λ node. property_of node n) o) (kept_node ns was found.0 down at found.1)
      ∙ property_back was found.0 (node_at new (p ++ ns)) (one_node ns was found.0 at found.1 found.2) n back

-- ---- the writes that check p in

paths : IsEquivalence (eq_by_cmp path_cmp)
paths = eq_by_cmp_equiv path_total

-- a write of another property leaves a property as it is
put_other : (t : Nodes) (p : Path) (m : Name) (x : Property) (q : Path) (n : Name) → (same_path q p && same_name n m) ≡ false → property_at (with_property_write t (Put p m x)) q n ≡ property_at t q n
put_other t p m x q n h = property_at-put t p m x q n ∙ by (same_path q p) (same_name n m) refl refl
  where
    by : (a b : Bool) → same_path q p ≡ a → same_name n m ≡ b → cond (eq_by_cmp path_cmp p q && (same_name n m && is_some (node_at t p))) (Some x) (property_at t q n) ≡ property_at t q n
    by false b e k = ap (λ c. cond (c && (same_name n m && is_some (node_at t p))) (Some x) (property_at t q n)) (paths.symm p q ∙ e)
    by true false e k = ap (λ c. cond (eq_by_cmp path_cmp p q && (c && is_some (node_at t p))) (Some x) (property_at t q n)) k ∙ ap (λ c. cond c (Some x) (property_at t q n)) (and_never (eq_by_cmp path_cmp p q))
    by true true e k = absurd (false≢true (sym h ∙ (ap (λ c. c && same_name n m) e ∙ k)))

-- of three names none is that of the property
none_of_three : (s a b c : Bool) → (s && (a || b || c)) ≡ false → ((s && a) ≡ false) × ((s && b) ≡ false) × ((s && c) ≡ false)
none_of_three false a b c h = (refl, refl, refl)
none_of_three true a b c h = let ab = or_parts _ _ h in let parts = or_parts _ _ ab.0 in (parts.0, parts.1, ab.1)

-- no other property is written
checked_in_other : (t : Nodes) (p : Path) (id : ℕ) (q : Path) (n : Name) → is_checking_in p q n ≡ false → property_at (fold with_property_write t (checked_in_writes p id)) q n ≡ property_at t q n
checked_in_other t p id q n h =
    let apart = none_of_three (same_path q p) (same_name n is_checked_out) (same_name n base_version) (same_name n predecessors) h in
    put_other _ p predecessors _ q n apart.2 ∙ (put_other _ p base_version _ q n apart.1 ∙ put_other t p is_checked_out _ q n apart.0)

-- no node comes or goes
checked_in_there : (t : Nodes) (p : Path) (id : ℕ) (q : Path) → is_some (node_at (fold with_property_write t (checked_in_writes p id)) q) ≡ is_some (node_at t q)
checked_in_there t p id q = ap is_some (node_at-fills q t (checked_in_writes p id)) ∙ fills_has q (node_at t q) (checked_in_writes p id)

-- a property that is put where a test holds
abbrev put_if : Bool → Name → Property → Option Node → Option Node
put_if b m x o = cond b (option_map {T = Node} (λ node. record node { props = insert_entry name_cmp node.props m x }) o) o

-- below p nothing is written
checked_in_below : (t : Nodes) (p : Path) (id : ℕ) (n : Name) (ns : List Name) → node_at (fold with_property_write t (checked_in_writes p id)) (p ++ n ∷ ns) ≡ node_at t (p ++ n ∷ ns)
checked_in_below t p id n ns =
    node_at-fills (p ++ n ∷ ns) t (checked_in_writes p id)
    ∙ ap (λ b. put_if b predecessors (Many kind.Reference []) (put_if b base_version (reference_to id) (put_if b is_checked_out (Single (value.Boolean false)) (node_at t (p ++ n ∷ ns))))) apart
  where
    apart : eq_by_cmp path_cmp (p ++ n ∷ ns) p ≡ false
    apart = ap (λ (q : Path). eq_by_cmp path_cmp (p ++ n ∷ ns) q) (sym (append-nil p)) ∙ same_front p (n ∷ ns) []

-- a restore brings back what can come back
pub comes_back : (types : List TypeDef) (old new : Nodes) (p v : Path) → CanComeBack types old new p (frozen_of v) → IsBack types old new p v
comes_back types old new p v can = record {
  nodes = λ ns. checked_in_there (restored types new p (frozen_of v)) p (number_at new v) (p ++ ns) ∙ nodes_back types old new p (frozen_of v) can ns;
  others = others;
  properties = λ ns was n down at back apart. checked_in_other (restored types new p (frozen_of v)) p (number_at new v) (p ++ ns) n apart ∙ properties_back types old new p (frozen_of v) can ns was n down at back;
}
  where
    others : (ns : List Name) → is_frozen_down types old p ns ≡ false → node_at (after_restore types new p v) (p ++ ns) ≡ node_at old (p ++ ns)
    others [] h = absurd (true≢false h)
    others (n ∷ ns) h = checked_in_below (restored types new p (frozen_of v)) p (number_at new v) n ns ∙ others_back types old new p (frozen_of v) can (n ∷ ns) h
