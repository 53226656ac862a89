-- What `tree` makes: one node after the other, the topmost first.
use Rattle.std.specs.Prelude.{Bool, cond, List, ◌++◌, Option, Result, Ok}
use Rattle.std.specs.List.{list_any}
use Rattle.jr_path.specs.declared.name.Name.{Name}
use Rattle.jr_path.specs.declared.path.Path.{Path}
use Rattle.jr_value.specs.declared.value.Property.{Property}
use Rattle.jr_tree.specs.declared.shared.Refusal.{Refusal}
use Rattle.jr_tree.specs.declared.shared.Who.{Who}
use Rattle.jr_items.specs.Items.{is_empty, same_name}
use Rattle.jr_items.specs.Names.{versionable}
use Rattle.jr_items.specs.Refusals.{in_system, limit_refusal}
use Rattle.jr_types.specs.declared.TypeDef.{TypeDef}
use Rattle.jr_overlay.specs.Drafts.{Steps}
use Rattle.jr_overlay.specs.Overlays.{View}
use Rattle.jcr_trans.specs.declared.command.TreeNode.{TreeNode}
use Rattle.jcr_write.specs.Places.{unless_refused}
use Rattle.jcr_write.specs.Writes.{set_made}
use Rattle.jcr_make.specs.Commands.{add_made, chosen_type, completed_new}
use Rattle.jcr_mixin.specs.Histories.{mixin_made}
use Rattle.jcr_fill.specs.Makings.{Making, making}
use Rattle.jcr_fill.specs.Steps.{and_then, each}

-- a node of a type is made at a path within the limits
abbrev pub limited : List TypeDef → Who → View → Path → Making → (type : Name)
    → Result Making Refusal
limited types who view p m n =
    unless_refused (limit_refusal p) (completed_new types who view p m n)

-- what adding a node below the topmost one makes: as `add`, but that the limits come last
abbrev pub part_added : List TypeDef → Who → View → Path → (named : Option Name) → Making
    → Result Making Refusal
part_added types who view p named m = unless_refused (in_system p)
    (and_then (chosen_type types view m.steps p named) (limited types who view p m))

-- a property is set
abbrev pub with_set : List TypeDef → View → Path → Name × Property → Steps → Result Steps Refusal
with_set types view p x steps = set_made types view steps p x.0 x.1

-- each of the properties is set
abbrev pub with_sets : List TypeDef → View → Path → List (Name × Property) → Making
    → Result Making Refusal
with_sets types view p props m =
    and_then (each (with_set types view p) props m.steps) (λ steps. Ok (making steps m.ids))

-- a node's mixins, then its properties
abbrev pub furnished : List TypeDef → Who → View → Path → TreeNode → Making → Result Making Refusal
furnished types who view p part m =
    and_then (each (mixin_made types who view p) part.mixins m) (with_sets types view p part.props)

-- the node of a part: the topmost one as `add` adds it
abbrev pub part_node : List TypeDef → Who → View → Path → TreeNode → Making → Result Making Refusal
part_node types who view p part m = cond (is_empty part.path)
    (add_made types who view p part.node_type m) (part_added types who view p part.node_type m)

-- a part of a tree at a path: its node, then that one's mixins and properties
abbrev pub part_at : List TypeDef → Who → View → Path → TreeNode → Making → Result Making Refusal
part_at types who view p part m =
    and_then (part_node types who view p part m) (furnished types who view p part)

-- a part of a tree whose topmost node is at p
abbrev pub with_part : List TypeDef → Who → View → Path → TreeNode → Making → Result Making Refusal
with_part types who view p part m = part_at types who view (p ++ part.path) part m

-- what `tree` makes: each part on what those before it made, up to the first refusal
abbrev pub tree_made : List TypeDef → Who → View → Path → List TreeNode → Making
    → Result Making Refusal
tree_made types who view p parts m = each (with_part types who view p) parts m

-- the node of a part gets `mix:versionable`, and a history with it
abbrev pub makes_history : TreeNode → Bool
makes_history part = list_any (same_name versionable) part.mixins

-- the node of one of these parts gets a history
abbrev pub makes_histories : List TreeNode → Bool
makes_histories parts = list_any makes_history parts
