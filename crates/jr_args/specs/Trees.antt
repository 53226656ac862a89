-- The nodes of a `tree` argument, and the variables of a query.
use Rattle.std.specs.Prelude.{ℕ, Bool, true, false, ◌&&◌, List, [], ◌∷◌, ◌++◌, Option, Some, None, ◌+◌, cond, codes, is_some, unwrap_or}
use Rattle.std.specs.Str.{bytes_eq}
use Rattle.std.specs.BTreeMap.{insert_entry}
use Rattle.serde_json.specs.Data.{Data, Items, Members, null, boolean, number, string, array, object, no_items, item, no_members, member}
use Rattle.serde_json.specs.Find.{as_str, as_array, as_object, get}
use Rattle.jr_path.specs.Names.{name_cmp}
use Rattle.jr_path.specs.declared.name.Name.{Name}
use Rattle.jr_path.specs.declared.path.Path.{Path}
use Rattle.jr_value.specs.declared.value.Property.{Property}
use Rattle.jr_value.specs.declared.value.Value.{Value}
use Rattle.jcr_trans.specs.declared.command.TreeNode.{TreeNode}
use Rattle.jr_args.specs.Outcomes.{Means, Reading, is, Then, under}
use Rattle.jr_args.specs.Values.{name_of, property_read, value_of}
use Rattle.jr_args.specs.declared.fault.Step.TheVariants.{Key, Index}

-- ---- the JSON kinds

-- the JSON value is a text
abbrev pub is_json_text : Data → Bool
is_json_text d = is_some (as_str d)

-- the JSON value is an object
abbrev pub is_object : Data → Bool
is_object d = is_some (as_object d)

-- each item of a JSON list is a text
abbrev pub are_texts : Items → Bool
are_texts no_items = true
are_texts (item d ds) = is_json_text d && are_texts ds

-- the JSON value is a list of texts
abbrev pub is_list_of_texts : Data → Bool
is_list_of_texts (array ds) = are_texts ds
is_list_of_texts _ = false

-- A node of a tree is an object with no other keys than these four: `type`, a text; `mixins`, a list of texts; `props`,
-- an object; and `nodes`, an object of nodes.
abbrev pub is_field : List ℕ → Data → Bool → Bool
is_field key d are_nodes = cond (bytes_eq key (codes "type")) (is_json_text d)
    (cond (bytes_eq key (codes "mixins")) (is_list_of_texts d)
    (cond (bytes_eq key (codes "props")) (is_object d)
    (cond (bytes_eq key (codes "nodes")) are_nodes false)))

abbrev mutual
  -- the JSON value has the form of a node of a tree, with all nodes below
  pub is_tree : Data → Bool
  is_tree null = false
  is_tree (boolean b) = false
  is_tree (number n) = false
  is_tree (string t) = false
  is_tree (array ds) = false
  is_tree (object ms) = are_fields ms

  -- each member of an object is one that a node of a tree may have
  pub are_fields : Members → Bool
  are_fields no_members = true
  are_fields (member key d ms) = is_field key d (are_trees d) && are_fields ms

  -- the JSON value is an object whose members are all nodes of a tree
  pub are_trees : Data → Bool
  are_trees null = false
  are_trees (boolean b) = false
  are_trees (number n) = false
  are_trees (string t) = false
  are_trees (array ds) = false
  are_trees (object ms) = all_trees ms

  -- the value of each member of an object is a node of a tree
  pub all_trees : Members → Bool
  all_trees no_members = true
  all_trees (member key d ms) = is_tree d && all_trees ms

-- ---- what they mean

-- the text, the items and the members of a value of this JSON kind
abbrev pub json_text_in : Data → List ℕ
json_text_in d = unwrap_or (as_str d) []

-- the items of a JSON list, none where the value is no list
abbrev pub items_in : Data → Items
items_in d = unwrap_or (as_array d) no_items

-- the members of a JSON object, none where the value is no object
abbrev pub members_in : Data → Members
members_in d = unwrap_or (as_object d) no_members

-- each item, in order; i is the number of the first
abbrev pub list_of : {X : Type 0} → (Data → Reading X) → ℕ → Items → Reading (List X)
list_of M i no_items = is (Means [])
list_of M i (item d ds) = Then (under (Index i) (M d)) (λ x. Then (list_of M (i + 1) ds) (λ xs. is (Means (x ∷ xs))))

-- a member's key is a name
abbrev pub entry_of : {X : Type 0} → (Data → Reading X) → List ℕ → Data → Reading (Name × X)
entry_of M key d = Then (name_of key) (λ name. Then (M d) (λ x. is (Means (name, x))))

-- the map with each member put into it, in order
abbrev pub map_of : {X : Type 0} → (Data → Reading X) → List (Name × X) → Members → Reading (List (Name × X))
map_of M map no_members = is (Means map)
map_of M map (member key d ms) = Then (under (Key key) (entry_of M key d)) (λ e. map_of M (insert_entry name_cmp map e.0 e.1) ms)

-- a member that may be left out
abbrev pub optional_of : {X : Type 0} → List ℕ → X → (Data → Reading X) → Option Data → Reading X
optional_of key none M None = is (Means none)
optional_of key none M (Some d) = under (Key key) (M d)

-- a name that is there, from its text
abbrev pub some_name_of : List ℕ → Reading (Option Name)
some_name_of text = Then (name_of text) (λ name. is (Means (Some name)))

-- the primary type that a node of a tree names in its `type`
abbrev pub type_of : Data → Reading (Option Name)
type_of d = some_name_of (json_text_in d)

-- one mixin type of a node of a tree, from its text
abbrev pub mixin_of : Data → Reading Name
mixin_of d = name_of (json_text_in d)

-- the mixin types of a node of a tree, from the list of their texts
abbrev pub mixins_of : Data → Reading (List Name)
mixins_of d = list_of mixin_of 0 (items_in d)

-- the properties of a node of a tree, each at its name, from an object
abbrev pub properties_read : Data → Reading (List (Name × Property))
properties_read d = map_of property_read [] (members_in d)

-- the variables of a query, each name with its value, from an object
abbrev pub variables_of : Data → Reading (List (Name × Value))
variables_of d = map_of value_of [] (members_in d)

-- a node alone; paths are from the topmost node on, which is the root here
abbrev pub node_of : Path → Data → Reading TreeNode
node_of path d =
    Then (optional_of (codes "type") None type_of (get (codes "type") d)) (λ type.
    Then (optional_of (codes "mixins") [] mixins_of (get (codes "mixins") d)) (λ mixins.
    Then (optional_of (codes "props") [] properties_read (get (codes "props") d)) (λ props.
    is (Means (record { path = path; node_type = type; mixins = mixins; props = props })))))

-- the first reading where the condition holds, else the second
abbrev pub chosen_reading : {X : Type 0} → Bool → Reading X → Reading X → Reading X
chosen_reading true M N = M
chosen_reading false M N = N

-- a node and all below: in path order, as its own node comes first and then its children by key, each with all below
abbrev mutual
  pub tree_of : Path → Data → Reading (List TreeNode)
  tree_of path null = is (Means [])
  tree_of path (boolean b) = is (Means [])
  tree_of path (number n) = is (Means [])
  tree_of path (string t) = is (Means [])
  tree_of path (array ds) = is (Means [])
  tree_of path (object ms) = Then (node_of path (object ms)) (λ node. Then (nodes_of path ms) (λ nodes. is (Means (node ∷ nodes))))

  -- all nodes below the node at a path, which its member `nodes` describes; none without one
  pub nodes_of : Path → Members → Reading (List TreeNode)
  nodes_of path no_members = is (Means [])
  nodes_of path (member key d ms) = chosen_reading (bytes_eq key (codes "nodes")) (under (Key key) (below_of path d)) (nodes_of path ms)

  -- all nodes below the node at a path, from the value of its member `nodes`
  pub below_of : Path → Data → Reading (List TreeNode)
  below_of path null = is (Means [])
  below_of path (boolean b) = is (Means [])
  below_of path (number n) = is (Means [])
  below_of path (string t) = is (Means [])
  below_of path (array ds) = is (Means [])
  below_of path (object ms) = children_of path ms

  -- the children of the node at a path, in the order of an object's members, each with all below
  pub children_of : Path → Members → Reading (List TreeNode)
  children_of path no_members = is (Means [])
  children_of path (member key d ms) =
      Then (under (Key key) (Then (name_of key) (λ name. tree_of (path ++ name ∷ []) d))) (λ nodes.
      Then (children_of path ms) (λ more. is (Means (nodes ++ more))))

-- the child with this key
abbrev pub child_of : Path → List ℕ → Data → Reading (List TreeNode)
child_of path key d = Then (name_of key) (λ name. tree_of (path ++ name ∷ []) d)
