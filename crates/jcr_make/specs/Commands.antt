-- What `add` makes, and its refusals.
use Rattle.std.specs.Prelude.{List, Option, None, Some, is_some, Result, Ok, Err}
use Rattle.std.specs.Option.{option_and_then}
use Rattle.jr_path.specs.Names.{last_name}
use Rattle.jr_path.specs.declared.name.Name.{Name}
use Rattle.jr_path.specs.declared.path.Path.{Path}
use Rattle.jr_tree.specs.declared.shared.Refusal.{Refusal}
use Rattle.jr_tree.specs.declared.shared.Who.{Who}
use Rattle.jr_tree.specs.declared.tree.Node.{Node}
use Rattle.jr_tree.specs.Trees.{node_of_type}
use Rattle.jr_items.specs.Refusals.{breaks_rule, taken, when}
use Rattle.jr_types.specs.declared.TypeDef.{TypeDef}
use Rattle.jr_types.specs.Attributes.{default_type}
use Rattle.jr_overlay.specs.Drafts.{Steps, drafted}
use Rattle.jr_overlay.specs.Overlays.{View}
use Rattle.jcr_write.specs.Places.{above, types_of_node, of_node, path_refusal, unless_refused}
use Rattle.jcr_fill.specs.Steps.{and_then}
use Rattle.jcr_fill.specs.Makings.{Making, complete, unknown_type}

-- the type that an added node gets, which somebody registered
abbrev pub registered : List TypeDef → Name → Result Name Refusal
registered types n = unless_refused (unknown_type types n) (Ok n)

-- the default type of a child at the path, by the types of the node above
abbrev pub type_below : List TypeDef → (parent : Node) → Path → Option Name
type_below types parent p =
    option_and_then (default_type (types_of_node types parent)) (last_name p)

-- the default type, where there is one
abbrev pub type_by_default : List TypeDef → Path → Option Name → Result Name Refusal
type_by_default types p None = Err (breaks_rule 0 (above p) (last_name p))
type_by_default types p (Some n) = registered types n

-- the type of an added node: the one that its command names, or else the default one
abbrev pub added_type : List TypeDef → (parent : Node) → Path → (named : Option Name)
    → Result Name Refusal
added_type types parent p (Some n) = registered types n
added_type types parent p None = type_by_default types p (type_below types parent p)

-- a node stands at the path already
abbrev pub taken_place : View → Steps → Path → Option Refusal
taken_place view steps p = when (is_some (drafted view steps p)) (taken p)

-- the type of a node that is added to this one, where the place is free
abbrev pub chosen_below : List TypeDef → View → Steps → Path → (named : Option Name)
    → (parent : Node) → Result Name Refusal
chosen_below types view steps p named parent =
    unless_refused (taken_place view steps p) (added_type types parent p named)

-- the type of a node that is added, where there is a node above
abbrev pub chosen_type : List TypeDef → View → Steps → Path → (named : Option Name)
    → Result Name Refusal
chosen_type types view steps p named =
    of_node (above p) (drafted view steps (above p)) (chosen_below types view steps p named)

-- a new node of a type is put with all that belongs to it
abbrev pub completed_new : List TypeDef → Who → View → Path → Making → (type : Name)
    → Result Making Refusal
completed_new types who view p m n = complete types who view p (node_of_type n) m

-- what `add` makes: a node of the type that it names, or else of the default one, with all that
-- belongs to it
abbrev pub add_made : List TypeDef → Who → View → Path → (named : Option Name) → Making
    → Result Making Refusal
add_made types who view p named m = unless_refused (path_refusal p)
    (and_then (chosen_type types view m.steps p named) (completed_new types who view p m))
