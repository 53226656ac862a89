-- When a restore brings a node back as it was at its check-in.
use Rattle.std.specs.Prelude.{◌≡◌, ◌++◌, ◌&&◌, ◌||◌, Bool, cond, List, Option, None, Some, IsTrue, IsFalse, is_some}
use Rattle.std.specs.Option.{option_and_then}
use Rattle.jr_path.specs.declared.name.Name.{Name}
use Rattle.jr_path.specs.declared.path.Path.{Path}
use Rattle.jr_value.specs.declared.value.Property.{Property}
use Rattle.jr_tree.specs.declared.tree.Node.{Node}
use Rattle.jr_tree.specs.Trees.{IsTree, Nodes, node_at, property_at, subtree_of, undated}
use Rattle.jr_items.specs.Names.{base_version, is_checked_out, mixin_types, predecessors, primary_type, uuid}
use Rattle.jr_items.specs.Items.{property_of, same_name, same_path}
use Rattle.jr_types.specs.declared.TypeDef.{TypeDef}
use Rattle.jcr_frozen.specs.declared.attributes.Asked.TheVariants as asked
use Rattle.jcr_frozen.specs.Attributes.{property_has}
use Rattle.jcr_frozen.specs.Frozen.{frozen_tree, is_frozen_down, is_frozen_name, is_unkept}
use Rattle.jcr_restore.specs.Edits.{after_restore}

-- the node by these names below p, where a version of p leaves it out
abbrev pub left_out : List TypeDef → Nodes → (p : Path) → List Name → Option Node
left_out types t p ns = cond (is_frozen_down types t p ns) None (node_at t (p ++ ns))

-- the node's property of that name, where a restore leaves it as it is
abbrev pub unkept_property : List TypeDef → Name → Node → Option Property
unkept_property types n node =
    option_and_then (λ x. cond (is_unkept types node n x) (Some x) None) (property_of node n)

-- the node at p, which was so in an older tree, can be brought back from the frozen node at f
pub record CanComeBack (types : List TypeDef) (old new : Nodes) (p f : Path) : Type 0 where
  -- the older tree is a tree
  pub was : IsTree old
  -- the tree that is restored in is a tree
  pub is : IsTree new
  -- at and below f stand the frozen nodes of p as it was, whoever added them
  pub frozen : undated (subtree_of new f) ≡ frozen_tree types old p f
  -- what a version of p leaves out is as it was: no node became versionable meanwhile, or stopped
  -- to be, and none without COPY or VERSION came, went or changed
  pub others : (ns : List Name) → left_out types new p ns ≡ left_out types old p ns

-- why a property of a node that was so is as it was, after a restore that found this node
pub data ComesBack (types : List TypeDef) (was : Node) (found : Option Node) : Name → Type 0 where
  -- the version keeps it: it has COPY or VERSION, and isn't named as one of a frozen node's own
  kept : (n : Name) (x : Property) → property_of was n ≡ Some x
      → IsTrue (property_has asked.Kept types was n x) → IsFalse (is_frozen_name n)
      → ComesBack types was found n
  -- it is the primary type
  primary : ComesBack types was found primary_type
  -- it is the mixins
  mixins : ComesBack types was found mixin_types
  -- the version doesn't keep it, or the node had none, and the restore finds and leaves it so
  unkept : (n : Name) → property_of was n ≡ unkept_property types n was
      → option_and_then (unkept_property types n) found ≡ property_of was n
      → ComesBack types was found n
  -- it is the identifier of a node that was removed
  made : (x : Property) → found ≡ None → property_of was uuid ≡ Some x
      → ComesBack types was found uuid

-- the property is one of those by which a restore checks p in
abbrev pub is_checking_in : (p : Path) → Path → Name → Bool
is_checking_in p q n =
    same_path q p
    && (same_name n is_checked_out || same_name n base_version || same_name n predecessors)

-- after a restore of p to the version at v, p and what is below it are as in the older tree
pub record IsBack (types : List TypeDef) (old new : Nodes) (p v : Path) : Type 0 where
  -- the same nodes are there
  pub nodes : (ns : List Name)
      → is_some (node_at (after_restore types new p v) (p ++ ns))
      ≡ is_some (node_at old (p ++ ns))
  -- a node that a version leaves out is the same
  pub others : (ns : List Name) → IsFalse (is_frozen_down types old p ns)
      → node_at (after_restore types new p v) (p ++ ns) ≡ node_at old (p ++ ns)
  -- of each other node the properties that come back are the same, but for those that check p in
  pub properties : (ns : List Name) (was : Node) (n : Name)
      → IsTrue (is_frozen_down types old p ns) → node_at old (p ++ ns) ≡ Some was
      → ComesBack types was (node_at new (p ++ ns)) n → IsFalse (is_checking_in p (p ++ ns) n)
      → property_at (after_restore types new p v) (p ++ ns) n ≡ property_of was n
