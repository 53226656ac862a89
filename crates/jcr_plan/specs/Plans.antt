-- When an edit may be committed on a tree.
use Rattle.std.specs.Prelude.{◌≡◌, ℕ, Bool, false, not, nat_le, List, [], ◌∷◌, length, None, IsTrue, option_to_list}
use Rattle.std.specs.Option.{option_map_or}
use Rattle.std.specs.List.{filter, list_any}
use Rattle.jr_path.specs.Names.{parent_of, last_name}
use Rattle.jr_path.specs.declared.path.Path.{Path}
use Rattle.jr_tree.specs.declared.edit.Write.{Write}
use Rattle.jr_tree.specs.declared.edit.Write.TheVariants.{Here, Gone, Put, Unset}
use Rattle.jr_tree.specs.Trees.{Nodes, property_at}
use Rattle.jr_tree.specs.Edits.{IsProper, applied}
use Rattle.jr_items.specs.Items.{same_path}
use Rattle.jr_types.specs.declared.OnParentVersion.TheVariants as opv
use Rattle.jr_types.specs.declared.TypeDef.{TypeDef}
use Rattle.jr_types.specs.Types.{is_opv}
use Rattle.jr_types.specs.Attributes.{child_passes, property_passes}
use Rattle.jr_types.specs.Rules.{TypesOk, node_types, child_at}
use Rattle.jcr_lock.specs.Locks.{locked_by, frozen_by}
use Rattle.jcr_ref.specs.References.{ReferencesOk}
use Rattle.oak_clash.specs.declared.mark.MarkAt.{MarkAt}
use Rattle.jcr_marks.specs.Marks.{marks_of}

-- the nodes that a write changes: its own, and the parent of one that is added or removed
abbrev pub changed_by : Write → List Path
changed_by (Here p) = p ∷ option_to_list (parent_of p)
changed_by (Gone p) = p ∷ option_to_list (parent_of p)
changed_by (Put p n x) = p ∷ []
changed_by (Unset p n) = p ∷ []

-- the node at a path is changed by one of the writes
abbrev pub is_changed : List Write → Path → Bool
is_changed ws p = list_any (λ w. list_any (same_path p) (changed_by w)) ws

-- the definition of a child has IGNORE
abbrev pub is_ignored_child : List TypeDef → Nodes → Path → Bool
is_ignored_child types t p =
    option_map_or (λ q. option_map_or
    (λ n. child_passes (is_opv opv.Ignore) types (node_types t q) n (child_at t q n))
    (last_name p) false) (parent_of p) false

-- the definition of the written item has IGNORE: by the types after the edit for what comes, by those before for what goes
abbrev pub is_ignored : List TypeDef → Nodes → Nodes → Write → Bool
is_ignored types t u (Here p) = is_ignored_child types u p
is_ignored types t u (Gone p) = is_ignored_child types t p
is_ignored types t u (Put p n x) =
    property_passes (is_opv opv.Ignore) types (node_types u p) n (property_at u p n)
is_ignored types t u (Unset p n) =
    property_passes (is_opv opv.Ignore) types (node_types t p) n (property_at t p n)

-- the writes that a checked-in node refuses
abbrev pub heeded : List TypeDef → Nodes → List Write → List Write
heeded types t ws = filter (λ w. not (is_ignored types t (applied None t ws) w)) ws

-- no node that the writes change is locked against the tokens, and none is covered by a checked-in node
pub record IsFree (types : List TypeDef) (t : Nodes) (tokens : List (List ℕ))
    (ws : List Write) : Type 0 where
  pub unlocked : (p : Path) → IsTrue (is_changed ws p) → locked_by t p tokens ≡ None
  pub checked_out : (p : Path) → IsTrue (is_changed (heeded types t ws) p) → frozen_by t p ≡ None

-- at most 100,000 nodes
abbrev pub has_few_nodes : Nodes → Bool
has_few_nodes t = nat_le (length t) 100000

-- the edit, with its marks, may be committed on the tree by one who holds the tokens
pub record PlanOk (types : List TypeDef) (t : Nodes) (tokens : List (List ℕ)) (ws : List Write)
    (marks : List MarkAt) : Type 0 where
  pub proper : IsProper t ws
  pub free : IsFree types t tokens ws
  pub typed : TypesOk types (applied None t ws)
  pub referring : ReferencesOk (applied None t ws)
  pub few : IsTrue (has_few_nodes (applied None t ws))
  pub marked : marks_of t ws ≡ marks
