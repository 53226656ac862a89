-- What reading commands answer of a view.
use Rattle.std.specs.Prelude.{◌≡◌, Bool, true, false, List, [], Option, None, Some, Result, Ok, Err, codes, option_and_then, ℕ}
use Rattle.std.specs.Option.{option_map_or, unwrap_or}
use Rattle.std.specs.String.{string_bytes}
use Rattle.std.specs.declared.alloc.Global.{Global}
use Rattle.std.specs.declared.string.String.{String}
use Rattle.jr_path.specs.Ids.{path_text}
use Rattle.jr_path.specs.Names.{last_name, parent_of}
use Rattle.jr_path.specs.declared.path.Path.{Path}
use Rattle.jr_value.specs.declared.value.Property.{Property}
use Rattle.jr_tree.specs.declared.shared.Refusal.{Refusal}
use Rattle.jr_tree.specs.declared.tree.Node.{Node}
use Rattle.jr_tree.specs.Trees.{Nodes}
use Rattle.jr_items.specs.Items.{one_text, property_of}
use Rattle.jr_items.specs.Names.{uuid}
use Rattle.jr_items.specs.Refusals.{limit_refusal, no_identifier, no_item, out_of_memory}
use Rattle.jr_types.specs.declared.TypeDef.{TypeDef}
use Rattle.jcr_ref.specs.References.{node_by_id, referrers}
use Rattle.jcr_ref.specs.Histories.{version_history_of, version_names}
use Rattle.jcr_frozen.specs.Histories.{no_versions}
use Rattle.jcr_trans.specs.Answers.{Answer, Done, Refused, ShowsItems, ShowsNames, ShowsProperties, ShowsProperty, ShowsText}
use Rattle.jcr_trans.specs.Texts.{answer_text}
use Rattle.jcr_trans.specs.declared.command.Command.{Command}
use Rattle.jcr_trans.specs.declared.command.Command.TheVariants as command
use Rattle.jr_overlay.specs.Overlays.{View}
use Rattle.jr_order.specs.Order.{ordered}

-- a refusal as an answer
abbrev pub refused : Refusal → Answer
refused r = Refused r.number r.parts

-- refused, or else this answer
abbrev pub refused_or : Option Refusal → Answer → Answer
refused_or None a = a
refused_or (Some r) a = refused r

-- the text is that of the answer, or the answer is the refusal, unless memory was refused
abbrev pub Replies : Answer → Result (String Global) Refusal → Type 0
Replies a (Ok text) = string_bytes text ≡ answer_text a
Replies a (Err r) = ¬ (r ≡ out_of_memory) → a ≡ refused r

-- the property that a path names in a view: the last name's, of the node above; the root names none
abbrev pub property_named : View → Path → Option Property
property_named view p = option_and_then (λ q. option_and_then (λ n.
    option_and_then (λ node. property_of node n) (view.node q)) (last_name p)) (parent_of p)

-- the property that a path names
abbrev pub get_answer : View → Path → Answer
get_answer view p = refused_or (limit_refusal p)
    (option_map_or ShowsProperty (property_named view p) (refused (no_item p)))

-- what is shown of the node at p, where one is there
abbrev pub shown_node : View → Path → (Node → Answer) → Answer
shown_node view p shows = option_map_or shows (view.node p) (refused (no_item p))

-- the same, where the path keeps the limits
abbrev pub answer_at : View → Path → (Node → Answer) → Answer
answer_at view p shows = refused_or (limit_refusal p) (shown_node view p shows)

-- the names of a node's children, in their order
abbrev pub list_answer : List TypeDef → View → Path → Answer
list_answer types view p =
    answer_at view p (λ node. ShowsNames (ordered types node (view.children p)))

-- all properties of a node, by name
abbrev pub props_answer : View → Path → Answer
props_answer view p = answer_at view p (λ node. ShowsProperties node.props)

-- the identifier of the node at p: its `jcr:uuid` where that is one text, and else its path
abbrev pub node_identifier : Node → Path → List ℕ
node_identifier node p = unwrap_or (one_text (property_of node uuid)) (path_text p)

-- the identifier of a node
abbrev pub id_answer : View → Path → Answer
id_answer view p = answer_at view p (λ node. ShowsText (node_identifier node p))

-- the path of the first node that has an identifier
abbrev pub by_id_answer : View → List ℕ → Answer
by_id_answer view id = option_map_or (λ p. ShowsText (path_text p)) (node_by_id (view.below []) id)
    (refused (no_identifier id))

-- the properties that refer to a node
abbrev pub refs_answer : View → Path → Answer
refs_answer view p = answer_at view p
    (λ node. ShowsItems (referrers (view.below []) (node_identifier node p)))

-- the names of a node's versions in the order of making, whatever is pending
abbrev pub versions_answer : (base : Nodes) → Path → Answer
versions_answer base p = refused_or (no_versions (codes "versions") base p)
    (ShowsNames (version_names base (version_history_of base p)))

-- what a reading command answers
abbrev pub shown : List TypeDef → View → (base : Nodes) → Command → Answer
shown types view base (command.Get p) = get_answer view p
shown types view base (command.List p) = list_answer types view p
shown types view base (command.Props p) = props_answer view p
shown types view base (command.Id p) = id_answer view p
shown types view base (command.ById id) = by_id_answer view id
shown types view base (command.Refs p) = refs_answer view p
shown types view base (command.Versions p) = versions_answer base p
shown types view base _ = Done

-- the command reads the whole tree
abbrev pub reads_all : Command → Bool
reads_all (command.ById id) = true
reads_all (command.Refs p) = true
reads_all (command.Versions p) = true
reads_all _ = false
