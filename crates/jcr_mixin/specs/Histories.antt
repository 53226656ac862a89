-- What a mixin makes of a node; with `mix:versionable` also the history of its versions.
use Rattle.std.specs.Prelude.{ℕ, ◌+◌, Bool, true, cond, not, ◌&&◌, List, [], ◌∷◌, ◌++◌, Option, None, Some, is_some, map, Result, Ok}
use Rattle.std.specs.List.{fold}
use Rattle.std.specs.Option.{option_and_then, option_map_or, unwrap_or}
use Rattle.std.specs.BTreeMap.{insert_entry}
use Rattle.jr_path.specs.Names.{path_cmp}
use Rattle.jr_path.specs.declared.name.Name.{Name}
use Rattle.jr_path.specs.declared.path.Path.{Path}
use Rattle.jr_value.specs.declared.value.Property.{Property}
use Rattle.jr_value.specs.declared.value.Value.{Value}
use Rattle.jr_value.specs.declared.value.Value.TheVariants as value
use Rattle.jr_tree.specs.declared.shared.Refusal.{Refusal}
use Rattle.jr_tree.specs.declared.shared.Who.{Who}
use Rattle.jr_tree.specs.declared.tree.Node.{Node}
use Rattle.jr_tree.specs.Edits.{applied}
use Rattle.jr_tree.specs.Trees.{Nodes, property_at}
use Rattle.jr_items.specs.Items.{first_some, many_names, one_text, property_of, same_name}
use Rattle.jr_items.specs.Names.{mixin_types, uuid, version_storage, versionable}
use Rattle.jr_items.specs.Refusals.{breaks_rule, own_item_rule, when}
use Rattle.jr_types.specs.declared.TypeDef.{TypeDef}
use Rattle.jr_types.specs.Rules.{is_mixin}
use Rattle.jr_overlay.specs.Drafts.{Steps, drafted, with_step}
use Rattle.jr_overlay.specs.Overlays.{View}
use Rattle.jcr_ref.specs.Drawn.{too_many_ids}
use Rattle.jcr_ref.specs.Histories.{history_drawn, history_writes, root_of}
use Rattle.jcr_write.specs.Places.{at_place, unless_refused}
use Rattle.jcr_mixin.specs.Commands.{lists_mixin, with_mixins}
use Rattle.jcr_fill.specs.Filled.{next_text}
use Rattle.jcr_fill.specs.Makings.{Making, complete, unknown_type}
use Rattle.jr_path.specs.Named.{is_name}
use Rattle.jcr_fill.specs.Steps.{and_then}

-- a node has an identifier of its own
abbrev pub is_identified : Node → Bool
is_identified node = is_some (property_of node uuid)

-- the place of a history by an identifier that is a name
abbrev pub history_by : List ℕ → Option Path
history_by id = cond (is_name id) (Some (version_storage ++ id ∷ [])) None

-- the text of a node's identifier, where it has one
abbrev pub own_text : Option Node → Option (List ℕ)
own_text node = one_text (option_and_then (λ x. property_of x uuid) node)

-- where the history of a node that becomes versionable stands: by the identifier that it has, or
-- else by the session's next one
abbrev pub due_history : Who → (ids : ℕ) → Option Node → Option Path
due_history who ids node = history_by (unwrap_or (own_text node) (next_text who ids))

-- a history may stand by the node's identifier: one text that is a name, if the node has one at all
abbrev pub may_be_versioned : Node → Bool
may_be_versioned node = cond (is_identified node)
    (is_some (option_and_then history_by (one_text (property_of node uuid)))) true

-- why a node can't become versionable by a mixin
abbrev pub version_refusal : Path → Node → Name → Option Refusal
version_refusal p node n =
    when (same_name versionable n && not (may_be_versioned node)) (own_item_rule p uuid)

-- why a node can't have a mixin: nobody registered it, it is none, or the node's identifier
-- doesn't do
abbrev pub mixin_refusal : List TypeDef → Path → Node → Name → Option Refusal
mixin_refusal types p node n = first_some (unknown_type types n
    ∷ when (not (is_mixin types n)) (breaks_rule 2 p (Some mixin_types))
    ∷ version_refusal p node n ∷ [])

-- the list of mixins with one more at its end
abbrev pub mixins_with : Name → Option Property → List Value
mixins_with n o = map value.Name (many_names o) ++ value.Name n ∷ []

-- the node with one mixin more, the last of its list
abbrev pub mixed : Node → Name → Node
mixed node n = with_mixins node (mixins_with n (property_of node mixin_types))

-- what a node becomes by a mixin; none where it has the mixin
abbrev pub mixing : Node → Name → Option Node
mixing node n = cond (lists_mixin node n) None (Some (mixed node n))

-- nodes with the one that is seen at a path, where there is one
abbrev pub with_seen : View → Steps → Path → Nodes → Nodes
with_seen view steps p nodes =
    option_map_or (λ node. insert_entry path_cmp nodes p node) (drafted view steps p) nodes

-- the place of the history of the node at p, where the node's identifier is a name
abbrev pub named_history : Nodes → Path → Option Path
named_history nodes p = option_and_then history_by (one_text (property_at nodes p uuid))

-- nodes with a history and its root version, where they are there
abbrev pub with_history : View → Steps → Nodes → (history : Path) → Nodes
with_history view steps nodes h = with_seen view steps (root_of h) (with_seen view steps h nodes)

-- nodes with the history of the node at p, where it is there
abbrev pub with_own_history : View → Steps → Path → Nodes → Nodes
with_own_history view steps p nodes =
    option_map_or (with_history view steps nodes) (named_history nodes p) nodes

-- what counts for the history of a node that becomes versionable: the node, and the history by its
-- identifier where that is there
abbrev pub counting : View → Steps → Path → Nodes
counting view steps p = with_own_history view steps p (with_seen view steps p [])

-- a node is put in its place
abbrev pub with_put : Steps → Path × Node → Steps
with_put steps e = with_step steps e.0 (Some e.1)

-- each of these nodes is put in its place
abbrev pub all_put : Steps → Nodes → Steps
all_put steps nodes = fold with_put steps nodes

-- the nodes with what the node at p writes that becomes versionable
abbrev pub history_put : Nodes → Who → Path → Making → Making
history_put nodes who p m = record {
  steps = all_put m.steps
      (applied None nodes (history_writes nodes p (record who { ids = m.ids })));
  ids = m.ids + history_drawn nodes p;
}

-- a history is put where the session may draw as many identifiers
abbrev pub limited_history : Nodes → Who → Path → Making → Result Making Refusal
limited_history nodes who p m = unless_refused (too_many_ids (m.ids + history_drawn nodes p))
    (Ok (history_put nodes who p m))

-- the history of the node at p begins among these nodes, where its identifier is a name
abbrev pub begun_among : Nodes → Who → Path → Making → Result Making Refusal
begun_among nodes who p m =
    cond (is_some (named_history nodes p)) (limited_history nodes who p m) (Ok m)

-- with `mix:versionable` the history of the node at p begins, or is used where it is there
abbrev pub begun_by : Name → Who → View → Path → Making → Result Making Refusal
begun_by n who view p m =
    cond (same_name versionable n) (begun_among (counting view m.steps p) who p m) (Ok m)

-- a node that has a mixin now is put with what the mixin brings
abbrev pub mixin_put : List TypeDef → Who → View → Path → Name → Node → Making
    → Result Making Refusal
mixin_put types who view p n node m =
    and_then (complete types who view p node m) (begun_by n who view p)

-- what a mixin makes of a node that lacks it
abbrev pub mixin_given : List TypeDef → Who → View → Path → Name → Making → Option Node
    → Result Making Refusal
mixin_given types who view p n m None = Ok m
mixin_given types who view p n m (Some node) = mixin_put types who view p n node m

-- what the node at a place becomes by a mixin that it may have
abbrev pub place_mixing : List TypeDef → View → Steps → Path → Name → Result (Option Node) Refusal
place_mixing types view steps p n = at_place view steps p (λ node.
    unless_refused (mixin_refusal types p node n) (Ok (mixing node n)))

-- what `mixin` makes: the node with a mixin and what that one brings
abbrev pub mixin_made : List TypeDef → Who → View → Path → Name → Making → Result Making Refusal
mixin_made types who view p n m =
    and_then (place_mixing types view m.steps p n) (mixin_given types who view p n m)
