-- Where the entries that count match the commits that a vector sees, the documents mean the node of its tree.
use Rattle.std.proofs.Common.{◌≡◌, inl, inr, Bool, true, false, cond, not, ◌&&◌, ◌||◌, Some, None, Option, List, [], ◌∷◌, ◌++◌, refl, sym, ap, ◌∙◌, is_some}
use Rattle.std.specs.Option.{option_and_then, option_map_or, option_map, option_or, option_flatten}
use Rattle.std.specs.Ordering.{is_eq, eq_by_cmp}
use Rattle.std.specs.Cmp.{tied_itself}
use Rattle.std.specs.FinMap.{is_sorted}
use Rattle.std.specs.Map.{lookup, keys_of}
use Rattle.std.specs.BTreeMap.{is_at}
use Rattle.std.specs.List.{filter, flat_map, list_any}
use Rattle.std.proofs.lemmas.Cmp.{nat_list_cmp_total}
use mathlib.Core.Bool.{false≢true}
use Rattle.jr_path.specs.Names.{name_cmp}
use Rattle.jr_path.specs.declared.name.Name.{Name}
use Rattle.jr_path.specs.declared.path.Path.{Path}
use Rattle.jr_path.specs.declared.path.DocId.TheVariants as id
use Rattle.jr_path.proofs.Maps.{name_exact}
use Rattle.jr_value.specs.declared.value.Property.{Property}
use Rattle.jr_rev.specs.declared.revision.Revision.{Revision}
use Rattle.jr_rev.specs.declared.vector.RevVec.{RevVec}
use Rattle.jr_rev.specs.Vectors.{sees}
use Rattle.jr_tree.specs.declared.tree.Node.{Node}
use Rattle.jr_tree.specs.Trees.{Nodes, born_of, born_at, node_at, property_at}
use Rattle.jr_tree.specs.Items.{put_of}
use Rattle.oak_doc.specs.declared.document.Document.{Document}
use Rattle.oak_doc.specs.Updates.{values_of_property}
use Rattle.oak_read.specs.Meaning.{Documents, is_committed, counting, entry_of, value_of, added_by, properties_in, documents_at, found_node, latest}
use Rattle.oak_read.specs.Shown.{with_previous}
use Rattle.core_read.specs.Commits.{last_entry}
use Rattle.core_read.proofs.Entries.{same_lists}
use Rattle.core_read.proofs.Found.{gathered_sorted, gathered_at}
use Rattle.core_keep.specs.Standing.{all_at, gone_of, shows_node, shows_value}
use Rattle.core_keep.specs.Keeps.{Course, Matches, Shows}

-- ---- what an entry shows

pub shown : {X Y : Type 0} (show : Revision × X → Option Y) (begun : Option Y) (j o : Option (Revision × X)) → Matches show begun j o → option_and_then show o ≡ option_map_or show j begun
shown show begun None o m = m
shown show begun (Some e) o (inl h) = ap (option_and_then show) h
shown show begun (Some e) o (inr h) = ap (option_and_then show) h.1 ∙ sym h.0

there_by : (o : Option (Revision × Bool)) → option_map_or not (option_map (λ (e : Revision × Bool). e.1) o) false ≡ is_some (option_and_then shows_node o)
there_by None = refl
there_by (Some (r, true)) = refl
there_by (Some (r, false)) = refl

added : (o : Option (Revision × Bool)) → is_some (option_and_then shows_node o) ≡ true → option_map (λ (e : Revision × Bool). e.0) o ≡ option_and_then shows_node o
added None h = refl
added (Some (r, true)) h = absurd (false≢true h)
added (Some (r, false)) h = refl

value_by : (o : Option (Revision × Option Property)) → option_flatten (option_map (λ (e : Revision × Option Property). e.1) o) ≡ option_and_then shows_value o
value_by None = refl
value_by (Some e) = refl

absent : {X : Type 0} (o : Option X) → is_some o ≡ false → o ≡ None
absent None h = refl
absent (Some x) h = absurd (false≢true (sym h))

-- ---- whether the node is there, and who added it, by the entries of `_deleted` alone

module _ (ds : Documents) (c : Course) (t v : RevVec) (p : Path) (node_matches : Matches shows_node (born_at c.tree p) (last_entry (gone_of p) (sees v) c.commits) (entry_of ds t v (λ d. d.deleted) (all_at ds p))) (tree : Nodes) (shows : Shows c (sees v) tree) where
  abbrev last_here : Option (Revision × Bool)
  last_here = entry_of ds t v (λ d. d.deleted) (all_at ds p)

  shows_here : option_and_then shows_node last_here ≡ born_at tree p
  shows_here = shown _ _ _ _ node_matches ∙ sym (shows.node p)

  stands_here : option_map_or not (value_of ds t v (λ e. e.deleted) (all_at ds p)) false ≡ is_some (node_at tree p)
  stands_here = there_by last_here ∙ (ap is_some shows_here ∙ sym (shows.dated p))

  abbrev made_of : List Document → Node
  made_of all = record { props = properties_in ds t v all; born = added_by ds t v all }

  abbrev made : List Document → Option Node
  made all = cond (option_map_or not (value_of ds t v (λ e. e.deleted) all) false) (Some (made_of all)) None

  some_cond : (b : Bool) (x : Node) → is_some (cond b (Some x) None) ≡ b
  some_cond true x = refl
  some_cond false x = refl

  -- there is nothing where there is no document
  none_here : ds (id.Node p) ≡ None → is_some (node_at tree p) ≡ false
  none_here is = sym stands_here ∙ ap (λ (o : Option Document). option_map_or not (value_of ds t v (λ e. e.deleted) (option_map_or (with_previous ds p) o [])) false) is

  made_there : is_some (made (all_at ds p)) ≡ is_some (node_at tree p)
  made_there = some_cond _ (made_of (all_at ds p)) ∙ stands_here

  made_born : born_of (made (all_at ds p)) ≡ born_at tree p
  made_born = by (option_map_or not (value_of ds t v (λ e. e.deleted) (all_at ds p)) false) refl
    where
      by : (b : Bool) → option_map_or not (value_of ds t v (λ e. e.deleted) (all_at ds p)) false ≡ b → born_of (cond b (Some (made_of (all_at ds p))) None) ≡ born_at tree p
      by true e = added last_here (ap is_some shows_here ∙ (sym (shows.dated p) ∙ (sym stands_here ∙ e))) ∙ shows_here
      by false e = sym (absent (born_at tree p) (sym (shows.dated p) ∙ (sym stands_here ∙ e)))

  -- the node is found where it is in the tree
  pub found_there : is_some (found_node ds t v p) ≡ is_some (node_at tree p)
  found_there = by (ds (id.Node p)) refl
    where
      by : (o : Option Document) → ds (id.Node p) ≡ o → is_some (option_and_then (λ d. made (documents_at ds t v p d)) o) ≡ is_some (node_at tree p)
      by (Some d) is = sym (ap (λ (o : Option Document). is_some (made (option_map_or (with_previous ds p) o []))) is) ∙ made_there
      by None is = sym (none_here is)

  -- and who added it is who added it there
  pub found_born : born_of (found_node ds t v p) ≡ born_at tree p
  found_born = by (ds (id.Node p)) refl
    where
      by : (o : Option Document) → ds (id.Node p) ≡ o → born_of (option_and_then (λ d. made (documents_at ds t v p d)) o) ≡ born_at tree p
      by (Some d) is = sym (ap (λ (o : Option Document). born_of (made (option_map_or (with_previous ds p) o []))) is) ∙ made_born
      by None is = sym (absent (born_at tree p) (sym (shows.dated p) ∙ none_here is))

-- ---- names

no_name : (n : Name) (ps : List (Name × List (Revision × Option Property))) (rest : List Name) → list_any (eq_by_cmp name_cmp n) (keys_of ps ++ rest) ≡ false → (lookup (is_at (name_cmp n)) ps ≡ None) × (list_any (eq_by_cmp name_cmp n) rest ≡ false)
no_name n [] rest h = (refl, h)
no_name n (e ∷ ps) rest h =
    (elim (eq_by_cmp name_cmp n e.0) as (λ b. (b || list_any (eq_by_cmp name_cmp n) (keys_of ps ++ rest)) ≡ false → (cond b (Some e.1) (lookup (is_at (name_cmp n)) ps) ≡ None) × (list_any (eq_by_cmp name_cmp n) rest ≡ false)) [
      | true ↦ λ k. absurd (false≢true (sym k))
      | false ↦ λ k. no_name n ps rest k
    ]) h

no_values : (ds : Documents) (t v : RevVec) (n : Name) (all : List Document) → list_any (eq_by_cmp name_cmp n) (flat_map (λ d. keys_of d.props) all) ≡ false → flat_map (counting ds t v (λ d. values_of_property d.props n)) all ≡ []
no_values ds t v n [] h = refl
no_values ds t v n (d ∷ all) h =
    let p = no_name n d.props (flat_map (λ d. keys_of d.props) all) h in
    ap (λ (o : Option (List (Revision × Option Property))). filter (λ e. sees v e.0 && is_committed ds t d e.0) (Rattle.std.specs.Option.unwrap_or o []) ++ flat_map (counting ds t v (λ d. values_of_property d.props n)) all) p.0 ∙ no_values ds t v n all p.1

module _ (ds : Documents) (c : Course) (t v : RevVec) (p : Path)
    (node_matches : Matches shows_node (born_at c.tree p) (last_entry (gone_of p) (sees v) c.commits) (entry_of ds t v (λ d. d.deleted) (all_at ds p)))
    (prop_matches : (n : Name) → Matches shows_value (property_at c.tree p n) (last_entry (put_of p n) (sees v) c.commits) (entry_of ds t v (λ d. values_of_property d.props n) (all_at ds p)))
    (tree : Nodes) (shows : Shows c (sees v) tree) where
  abbrev node_shown : Option (Revision × Bool)
  node_shown = entry_of ds t v (λ d. d.deleted) (all_at ds p)

  node_there : option_and_then shows_node node_shown ≡ born_at tree p
  node_there = shown _ _ _ _ node_matches ∙ sym (shows.node p)

  there : option_map_or not (value_of ds t v (λ e. e.deleted) (all_at ds p)) false ≡ is_some (node_at tree p)
  there = there_by node_shown ∙ (ap is_some node_there ∙ sym (shows.dated p))

  abbrev value_here : Name → Option Property
  value_here n = option_flatten (value_of ds t v (λ d. values_of_property d.props n) (all_at ds p))

  property_there : (n : Name) → value_here n ≡ property_at tree p n
  property_there n = value_by (entry_of ds t v (λ d. values_of_property d.props n) (all_at ds p)) ∙ (shown _ _ _ _ (prop_matches n) ∙ sym (shows.prop p n))

  nameless : (n : Name) → list_any (eq_by_cmp name_cmp n) (flat_map (λ d. keys_of d.props) (all_at ds p)) ≡ false → value_here n ≡ None
  nameless n h =
      ap (λ es. option_flatten (option_map (λ e. e.1) (latest es))) (no_values ds t v n (all_at ds p) h)

  properties_there : (node : Node) → node_at tree p ≡ Some node → properties_in ds t v (all_at ds p) ≡ node.props
  properties_there node e = same_lists name_cmp nat_list_cmp_total name_exact (properties_in ds t v (all_at ds p)) node.props
      (gathered_sorted value_here (flat_map (λ d. keys_of d.props) (all_at ds p)) [] refl) (shows.orderly p node e) (λ n. gathered_at value_here n (flat_map (λ d. keys_of d.props) (all_at ds p)) [] ∙ by n _ refl)
    where
      or_none : (o : Option Property) → option_or o None ≡ o
      or_none None = refl
      or_none (Some x) = refl

      looked : (n : Name) → value_here n ≡ lookup (is_at (name_cmp n)) node.props
      looked n = property_there n ∙ ap (λ (o : Option Node). option_and_then (λ node. lookup (is_at (name_cmp n)) node.props) o) e

      by : (n : Name) (b : Bool) → list_any (eq_by_cmp name_cmp n) (flat_map (λ d. keys_of d.props) (all_at ds p)) ≡ b → cond b (option_or (value_here n) None) None ≡ lookup (is_at (name_cmp n)) node.props
      by n true h = or_none (value_here n) ∙ looked n
      by n false h = sym (nameless n h) ∙ looked n

  added_there : (node : Node) → node_at tree p ≡ Some node → added_by ds t v (all_at ds p) ≡ node.born
  added_there node e = added node_shown (ap is_some node_there ∙ (sym (shows.dated p) ∙ ap is_some e)) ∙ (node_there ∙ ap born_of e)

  abbrev node_of : List Document → Node
  node_of all = record { props = properties_in ds t v all; born = added_by ds t v all }

  abbrev shape : List Document → Option Node
  shape all = cond (option_map_or not (value_of ds t v (λ e. e.deleted) all) false) (Some (node_of all)) None

  shaped : (o : Option Node) → node_at tree p ≡ o → shape (all_at ds p) ≡ o
  shaped None e = ap (λ b. cond b (Some (node_of (all_at ds p))) None) (there ∙ ap is_some e)
  shaped (Some node) e = ap (λ b. cond b (Some (node_of (all_at ds p))) None) (there ∙ ap is_some e) ∙ (λ i. Some (record { props = properties_there node e i; born = added_there node e i }))

  pub found_by : found_node ds t v p ≡ node_at tree p
  found_by = by (ds (id.Node p)) refl
    where
      by : (o : Option Document) → ds (id.Node p) ≡ o → option_and_then (λ d. shape (documents_at ds t v p d)) o ≡ node_at tree p
      by (Some d) is = sym (ap (λ (o : Option Document). shape (option_map_or (with_previous ds p) o [])) is) ∙ shaped (node_at tree p) refl
      by None is = sym (absent (node_at tree p) (sym there ∙ ap (λ (o : Option Document). option_map_or not (value_of ds t v (λ e. e.deleted) (option_map_or (with_previous ds p) o [])) false) is))
