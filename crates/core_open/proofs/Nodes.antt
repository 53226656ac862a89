-- The node that documents show at a path, by the entries that count.
use Rattle.std.proofs.Common.{◌≡◌, Bool, true, false, cond, not, ◌&&◌, ◌||◌, List, [], ◌∷◌, ◌++◌, Option, None, Some, refl, sym, ap, ◌∙◌, subst, is_some}
use Rattle.std.specs.Ordering.{is_eq, eq_by_cmp}
use Rattle.std.specs.Cmp.{tied_itself}
use Rattle.std.specs.FinMap.{is_sorted}
use Rattle.std.specs.List.{filter, filter_map, flat_map, list_any}
use Rattle.std.specs.Map.{keys_of, lookup}
use Rattle.std.specs.BTreeMap.{is_at}
use Rattle.std.specs.Option.{option_and_then, option_flatten, option_map, option_map_or, option_or, unwrap_or}
use Rattle.std.proofs.lemmas.Bool.{false≢true}
use Rattle.jr_path.specs.Names.{name_cmp}
use Rattle.jr_path.specs.declared.name.Name.{Name}
use Rattle.jr_path.specs.declared.path.Path.{Path}
use Rattle.jr_path.specs.declared.path.DocId.TheVariants as id
use Rattle.jr_value.specs.declared.value.Property.{Property}
use Rattle.jr_rev.specs.declared.revision.Revision.{Revision}
use Rattle.jr_rev.specs.declared.vector.RevVec.{RevVec}
use Rattle.jr_rev.specs.Vectors.{sees}
use Rattle.jr_tree.specs.declared.tree.Node.{Node}
use Rattle.jr_tree.specs.Trees.{born_of}
use Rattle.oak_doc.specs.declared.document.Document.{Document}
use Rattle.oak_doc.specs.Updates.{Props, values_of_property}
use Rattle.oak_read.specs.Meaning.{Documents, counting, entry_of, found_node, is_committed, latest, properties_in, value_of}
use Rattle.oak_read.specs.Shown.{with_previous}
use Rattle.core_read.proofs.Found.{gathered_at, gathered_sorted}
use Rattle.core_keep.specs.Standing.{all_at, shows_node, shows_value}

-- the node of the `_deleted` that counts
abbrev pub node_with : Option (Revision × Bool) → List (Name × Property) → Option Node
node_with o ps =
    cond (option_map_or not (option_map (λ e. e.1) o) false) (Some (record { props = ps; born = option_map (λ e. e.0) o })) None

born_with : (o : Option (Revision × Bool)) (ps : List (Name × Property)) → option_and_then shows_node o ≡ born_of (node_with o ps)
born_with None ps = refl
born_with (Some (r, true)) ps = refl
born_with (Some (r, false)) ps = refl

dated_with : (o : Option (Revision × Bool)) (ps : List (Name × Property)) → is_some (node_with o ps) ≡ is_some (born_of (node_with o ps))
dated_with None ps = refl
dated_with (Some (r, true)) ps = refl
dated_with (Some (r, false)) ps = refl

-- a node that is there has those properties
props_with : (o : Option (Revision × Bool)) (ps : List (Name × Property)) (node : Node) → node_with o ps ≡ Some node → node.props ≡ ps
props_with None ps node h = absurd (false≢true (ap is_some h))
props_with (Some (r, true)) ps node h = absurd (false≢true (ap is_some h))
props_with (Some (r, false)) ps node h = ap (λ (o : Option Node). option_map_or (λ n. n.props) o ps) (sym h)

value_by : (o : Option (Revision × Option Property)) → option_and_then shows_value o ≡ option_flatten (option_map (λ e. e.1) o)
value_by None = refl
value_by (Some e) = refl

module _ (ds : Documents) (t v : RevVec) where
  -- the properties over some documents
  abbrev value_at : List Document → Name → Option Property
  value_at all n = option_flatten (value_of ds t v (λ d. values_of_property d.props n) all)

  abbrev found_of : Path → Option Document → Option Node
  found_of p o = option_and_then (λ d. node_with (entry_of ds t v (λ e. e.deleted) (with_previous ds p d)) (properties_in ds t v (with_previous ds p d))) o

  -- the entry of `_deleted` that counts shows who added the node
  pub node_shown : (p : Path) → option_and_then shows_node (entry_of ds t v (λ d. d.deleted) (all_at ds p)) ≡ born_of (found_node ds t v p)
  node_shown p = by (ds (id.Node p))
    where
      by : (o : Option Document) → option_and_then shows_node (entry_of ds t v (λ d. d.deleted) (option_map_or (with_previous ds p) o [])) ≡ born_of (found_of p o)
      by None = refl
      by (Some d) = born_with _ _

  pub dated : (p : Path) → is_some (found_node ds t v p) ≡ is_some (born_of (found_node ds t v p))
  dated p = by (ds (id.Node p))
    where
      by : (o : Option Document) → is_some (found_of p o) ≡ is_some (born_of (found_of p o))
      by None = refl
      by (Some d) = dated_with _ _

  -- without its document there is no node; with it, it is that of the entries over its documents
  pub found_nowhere : (p : Path) → ds (id.Node p) ≡ None → found_node ds t v p ≡ None
  found_nowhere p h = ap (found_of p) h

  pub found_over : (p : Path) (d : Document) → ds (id.Node p) ≡ Some d
      → found_node ds t v p ≡ node_with (entry_of ds t v (λ e. e.deleted) (all_at ds p)) (properties_in ds t v (all_at ds p))
  found_over p d h =
      ap (found_of p) h
      ∙ sym (ap (λ o. node_with (entry_of ds t v (λ e. e.deleted) (option_map_or (with_previous ds p) o [])) (properties_in ds t v (option_map_or (with_previous ds p) o []))) h)

  -- its properties are those over its documents
  pub found_props : (p : Path) (d : Document) (node : Node) → ds (id.Node p) ≡ Some d → found_node ds t v p ≡ Some node
      → node.props ≡ properties_in ds t v (with_previous ds p d)
  found_props p d node is h =
      props_with (entry_of ds t v (λ e. e.deleted) (with_previous ds p d)) (properties_in ds t v (with_previous ds p d)) node
      (sym (ap (found_of p) is) ∙ h)

  pub props_sorted : (all : List Document) → is_sorted name_cmp (properties_in ds t v all) ≡ true
  props_sorted all = gathered_sorted (value_at all) (flat_map (λ d. keys_of d.props) all) [] refl

  nameless : (n : Name) (ps : Props) → list_any (eq_by_cmp name_cmp n) (keys_of ps) ≡ false → values_of_property ps n ≡ []
  nameless n [] h = refl
  nameless n (e ∷ ps) h = by (eq_by_cmp name_cmp n e.0) h (λ k. nameless n ps k)
    where
      by : (b : Bool) → (b || list_any (eq_by_cmp name_cmp n) (keys_of ps)) ≡ false
          → (list_any (eq_by_cmp name_cmp n) (keys_of ps) ≡ false → values_of_property ps n ≡ [])
          → unwrap_or (cond b (Some e.1) (lookup (is_at (name_cmp n)) ps)) [] ≡ []
      by true k rest = absurd (false≢true (sym k))
      by false k rest = rest k

  parted : (n : Name) (xs ys : List Name) → list_any (eq_by_cmp name_cmp n) (xs ++ ys) ≡ false
      → (list_any (eq_by_cmp name_cmp n) xs ≡ false) × (list_any (eq_by_cmp name_cmp n) ys ≡ false)
  parted n [] ys h = (refl, h)
  parted n (x ∷ xs) ys h = by (eq_by_cmp name_cmp n x) h (λ k. parted n xs ys k)
    where
      by : (b : Bool) → (b || list_any (eq_by_cmp name_cmp n) (xs ++ ys)) ≡ false
          → (list_any (eq_by_cmp name_cmp n) (xs ++ ys) ≡ false → (list_any (eq_by_cmp name_cmp n) xs ≡ false) × (list_any (eq_by_cmp name_cmp n) ys ≡ false))
          → ((b || list_any (eq_by_cmp name_cmp n) xs) ≡ false) × (list_any (eq_by_cmp name_cmp n) ys ≡ false)
      by true k rest = absurd (false≢true (sym k))
      by false k rest = rest k

  nothing : (n : Name) (all : List Document) → list_any (eq_by_cmp name_cmp n) (flat_map (λ d. keys_of d.props) all) ≡ false
      → flat_map (counting ds t v (λ d. values_of_property d.props n)) all ≡ []
  nothing n [] h = refl
  nothing n (d ∷ all) h =
      let parts = parted n (keys_of d.props) (flat_map (λ d. keys_of d.props) all) h in
      ap (λ l. l ++ flat_map (counting ds t v (λ d. values_of_property d.props n)) all)
      (ap (λ (es : List (Revision × Option Property)). filter (λ e. sees v e.0 && is_committed ds t d e.0) es) (nameless n d.props parts.0))
      ∙ nothing n all parts.1

  -- what they have at a name is the value that counts
  pub props_at : (all : List Document) (n : Name) → lookup (is_at (name_cmp n)) (properties_in ds t v all)
      ≡ option_and_then shows_value (entry_of ds t v (λ d. values_of_property d.props n) all)
  props_at all n =
      gathered_at (value_at all) n (flat_map (λ d. keys_of d.props) all) []
      ∙ by (list_any (eq_by_cmp name_cmp n) (flat_map (λ d. keys_of d.props) all)) refl
      ∙ sym (value_by (entry_of ds t v (λ d. values_of_property d.props n) all))
    where
      or_none : (o : Option Property) → option_or o None ≡ o
      or_none None = refl
      or_none (Some x) = refl

      by : (b : Bool) → list_any (eq_by_cmp name_cmp n) (flat_map (λ d. keys_of d.props) all) ≡ b
          → cond b (option_or (value_at all n) None) None ≡ value_at all n
      by true h = or_none (value_at all n)
      by false h = sym (ap (λ es. option_flatten (option_map (λ (e : Revision × Option Property). e.1) (latest es))) (nothing n all h))
