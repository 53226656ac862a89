-- What has to be known of the tree at the base before a command is made.
use Rattle.std.specs.Prelude.{◌++◌, ◌-◌, cond, Bool, false, List, [], ◌∷◌, length, slice_get, Option, None, Some}
use Rattle.std.specs.List.{fold}
use Rattle.std.specs.Option.{option_map_or}
use Rattle.std.specs.Ordering.{eq_by_cmp}
use Rattle.jr_path.specs.Names.{parent_of, path_cmp}
use Rattle.jr_path.specs.declared.path.Path.{Path}
use Rattle.jr_tree.specs.declared.edit.Write.{Write}
use Rattle.jr_tree.specs.declared.edit.Write.TheVariants.{Here, Gone, Put, Unset}
use Rattle.jr_tree.specs.declared.shared.Who.{Who}
use Rattle.jr_tree.specs.declared.tree.Node.{Node}
use Rattle.jr_items.specs.Items.{same_name}
use Rattle.jr_items.specs.Names.{version_storage, versionable}
use Rattle.jr_part.specs.Parts.{Knowledge, known_at}
use Rattle.jr_part.specs.declared.need.Need.{Need}
use Rattle.jr_part.specs.declared.need.Need.TheVariants as need
use Rattle.jr_overlay.specs.Overlays.{Changed, seen}
use Rattle.jcr_trans.specs.declared.command.Command.{Command}
use Rattle.jcr_trans.specs.declared.command.Command.TheVariants as command
use Rattle.jcr_trans.specs.declared.command.TreeNode.{TreeNode}
use Rattle.jcr_write.specs.Places.{above}
use Rattle.jcr_mixin.specs.Histories.{due_history}
use Rattle.jcr_make.specs.Subtrees.{makes_histories}

-- the children of p, where the base has a node there
abbrev pub children_needs : (known : Option (Option Node)) → Path → List Need
children_needs (Some (Some node)) p = need.Children p ∷ []
children_needs (Some None) p = []
children_needs None p = []

-- the node at p, and its children where one is there
abbrev pub listing_needs : Knowledge → Path → List Need
listing_needs k p = need.Node p ∷ children_needs (known_at k p) p

-- the history that stands at a path, where there is such a place
abbrev pub history_needs : Option Path → List Need
history_needs history = option_map_or (λ h. need.Subtree h ∷ []) history []

-- to become versionable a node must be known, with what is below it, and its history
abbrev pub versionable_needs : (known : Option (Option Node)) → Path → (history : Option Path)
    → List Need
versionable_needs None p history = need.Node p ∷ []
versionable_needs (Some known) p history = need.Subtree p ∷ history_needs history

-- the version storage, where the node of one of these parts gets a history
abbrev pub storage_needs : List TreeNode → List Need
storage_needs parts = cond (makes_histories parts) (need.Subtree version_storage ∷ []) []

-- the node above p, where there is one
abbrev pub parent_needs : Path → List Need
parent_needs p = option_map_or (λ q. need.Node q ∷ []) (parent_of p) []

-- what a command asks for, where so much is known and has changed
abbrev pub needs_of : Who → Knowledge → Changed → Command → List Need
needs_of who k c (command.Add p type) = need.Subtree p ∷ need.Node (above p) ∷ []
needs_of who k c (command.Tree p parts) =
    need.Subtree p ∷ need.Node (above p) ∷ storage_needs parts
needs_of who k c (command.Set p n x) = need.Node p ∷ []
needs_of who k c (command.Unset p n) = need.Node p ∷ []
needs_of who k c (command.Remove p) = need.Subtree p ∷ need.Node (above p) ∷ []
needs_of who k c (command.Move p q) =
    need.Subtree p ∷ need.Subtree q ∷ need.Node (above q) ∷ []
needs_of who k c (command.Mixin p n) = cond (same_name versionable n)
    (versionable_needs (known_at k p) p (due_history who who.ids (seen k.nodes c p)))
    (need.Subtree p ∷ [])
needs_of who k c (command.Unmixin p n) = need.Node p ∷ []
needs_of who k c (command.SetType p n) = need.Subtree p ∷ []
needs_of who k c (command.OrderBefore p n) = need.Node p ∷ listing_needs k (above p)
needs_of who k c (command.Get p) = parent_needs p
needs_of who k c (command.List p) = listing_needs k p
needs_of who k c (command.Props p) = need.Node p ∷ []
needs_of who k c (command.Id p) = need.Node p ∷ []
needs_of who k c (command.ById id) = need.All ∷ []
needs_of who k c (command.Refs p) = need.All ∷ []
needs_of who k c (command.Versions p) = need.All ∷ []
needs_of who k c _ = []

-- the need is of the node at p
abbrev pub is_node_at : Path → Need → Bool
is_node_at p (need.Node q) = eq_by_cmp path_cmp p q
is_node_at p _ = false

-- the last of some needs is of the node at p
abbrev pub ends_at : List Need → Path → Bool
ends_at needs p = option_map_or (is_node_at p) (slice_get needs (length needs - 1)) false

-- needs and the node at p, unless that stands last
abbrev pub and_node : List Need → Path → List Need
and_node needs p = cond (ends_at needs p) needs (needs ++ need.Node p ∷ [])

-- needs and what has to be known to make a write again on another tree
abbrev pub and_again : List Need → Write → List Need
and_again needs (Here p) = and_node (and_node needs (above p)) p
and_again needs (Gone p) = needs ++ need.Subtree p ∷ []
and_again needs (Put p n x) = and_node needs p
and_again needs (Unset p n) = and_node needs p

-- what has to be known to make writes again; writes of one node in a row name it once
abbrev pub needs_to_rebase : List Write → List Need
needs_to_rebase ws = fold and_again [] ws
