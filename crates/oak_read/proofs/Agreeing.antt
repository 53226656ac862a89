-- What documents mean at a node rests on few of them: its own, those that it lists, and commit roots.
use Rattle.std.proofs.Common.{◌≡◌, Bool, true, false, cond, ◌&&◌, ◌||◌, List, [], ◌∷◌, ◌++◌, Option, None, Some, map, fold, refl, sym, ap, ◌∙◌}
use Rattle.std.specs.Prelude.{not, is_some, unwrap_or}
use Rattle.std.specs.Option.{option_map, option_map_or, option_and_then, option_flatten}
use Rattle.std.specs.Map.{keys_of, lookup}
use Rattle.std.specs.BTreeMap.{insert_entry, is_at}
use Rattle.std.specs.List.{AllByRecursion, filter, filter_map, flat_map, cons_option}
use Rattle.std.proofs.lemmas.Bool.{false≢true}
use Rattle.jr_path.specs.Names.{name_cmp}
use Rattle.jr_path.specs.declared.name.Name.{Name}
use Rattle.jr_path.specs.declared.path.Path.{Path}
use Rattle.jr_path.specs.declared.path.DocId.{DocId}
use Rattle.jr_path.specs.declared.path.DocId.TheVariants as id
use Rattle.jr_value.specs.declared.value.Property.{Property}
use Rattle.jr_rev.specs.declared.revision.Revision.{Revision}
use Rattle.jr_rev.specs.declared.vector.RevVec.{RevVec}
use Rattle.jr_rev.specs.Vectors.{sees}
use Rattle.jr_tree.specs.declared.tree.Node.{Node}
use Rattle.jr_tree.specs.Trees.{born_of}
use Rattle.oak_doc.specs.declared.document.Document.{Document}
use Rattle.oak_doc.specs.declared.document.PrevEntry.{PrevEntry}
use Rattle.oak_doc.specs.Updates.{Props, of_revision, values_of_property}
use Rattle.oak_read.specs.Meaning.{Documents, commit_root_of, is_committed, counting, latest, entry_of, value_of, added_by, documents_at, properties_in, found_node}
use Rattle.oak_read.specs.Shown.{with_previous}
use Rattle.oak_read.specs.Wanted.{asked_roots, property_roots, roots_of, listed}

all_front : {X : Type 0} (P : X → Type 0) (xs ys : List X) → AllByRecursion P (xs ++ ys) → AllByRecursion P xs
all_front P [] ys h = tt
all_front P (x ∷ xs) ys h = (h.0, all_front P xs ys h.1)

all_back : {X : Type 0} (P : X → Type 0) (xs ys : List X) → AllByRecursion P (xs ++ ys) → AllByRecursion P ys
all_back P [] ys h = h
all_back P (x ∷ xs) ys h = all_back P xs ys h.1

same_fold : {A B : Type 0} (f g : A → B → A) → ((a : A) (b : B) → f a b ≡ g a b) → (xs : List B) (a : A) → fold f a xs ≡ fold g a xs
same_fold f g same [] a = refl
same_fold f g same (x ∷ xs) a = ap (λ b. fold f b xs) (same a x) ∙ same_fold f g same xs (g a x)

module _ (ds known : Documents) where
  -- both have the same document of an id
  abbrev pub Agree : DocId → Type 0
  Agree x = known x ≡ ds x

  -- the listed previous documents that are there
  pub previous_here : (p : Path) (d : Document) → AllByRecursion Agree (listed p d) → with_previous known p d ≡ with_previous ds p d
  previous_here p d agree = ap (λ all. d ∷ all) (over d.prev agree)
    where
      over : (es : List PrevEntry) → AllByRecursion Agree (map (λ e. id.Prev e.number p) es) → filter_map (λ e. known (id.Prev e.number p)) es ≡ filter_map (λ e. ds (id.Prev e.number p)) es
      over [] agree = refl
      over (e ∷ es) agree = ap (λ o. cons_option o (filter_map (λ e. known (id.Prev e.number p)) es)) agree.0 ∙ ap (λ all. cons_option (ds (id.Prev e.number p)) all) (over es agree.1)

module _ (ds known : Documents) (t v : RevVec) where
  committed_here : (d : Document) (r : Revision) → Agree ds known (commit_root_of d r) → is_committed known t d r ≡ is_committed ds t d r
  committed_here d r same = ap (λ o. sees t r || option_map_or (λ root. is_some (of_revision root.revisions r)) o false) same

  counts_here : (d : Document) (r : Revision) (a b : Bool) → sees v r ≡ a → sees t r ≡ b → ((a && not b) ≡ true → Agree ds known (commit_root_of d r)) → (sees v r && is_committed known t d r) ≡ (sees v r && is_committed ds t d r)
  counts_here d r false b seen swept same = rw seen refl
  counts_here d r true true seen swept same = rw (seen, swept) refl
  counts_here d r true false seen swept same = ap (λ c. sees v r && c) (committed_here d r (same refl))

  pub counting_here : {X : Type 0} (d : Document) (es : List (Revision × X)) → AllByRecursion (Agree ds known) (asked_roots t v d (keys_of es)) → filter (λ e. sees v e.0 && is_committed known t d e.0) es ≡ filter (λ e. sees v e.0 && is_committed ds t d e.0) es
  counting_here d [] all = refl
  counting_here {X} d (e ∷ es) all = by (sees v e.0 && not (sees t e.0)) refl all (λ rest. counting_here d es rest)
    where
      by : (b : Bool) → (sees v e.0 && not (sees t e.0)) ≡ b → AllByRecursion (Agree ds known) (map (commit_root_of d) (cond b (e.0 ∷ filter (λ r. sees v r && not (sees t r)) (keys_of es)) (filter (λ r. sees v r && not (sees t r)) (keys_of es))))
          → (AllByRecursion (Agree ds known) (asked_roots t v d (keys_of es)) → filter (λ e. sees v e.0 && is_committed known t d e.0) es ≡ filter (λ e. sees v e.0 && is_committed ds t d e.0) es)
          → filter (λ e. sees v e.0 && is_committed known t d e.0) (e ∷ es) ≡ filter (λ e. sees v e.0 && is_committed ds t d e.0) (e ∷ es)
      by true is all' go =
          ap (λ b. cond b (e ∷ filter (λ e. sees v e.0 && is_committed known t d e.0) es) (filter (λ e. sees v e.0 && is_committed known t d e.0) es)) (counts_here d e.0 (sees v e.0) (sees t e.0) refl refl (λ h. all'.0))
          ∙ ap (λ (rest : List (Revision × X)). cond (sees v e.0 && is_committed ds t d e.0) (e ∷ rest) rest) (go all'.1)
      by false is all' go =
          ap (λ b. cond b (e ∷ filter (λ e. sees v e.0 && is_committed known t d e.0) es) (filter (λ e. sees v e.0 && is_committed known t d e.0) es)) (counts_here d e.0 (sees v e.0) (sees t e.0) refl refl (λ h. absurd (false≢true (sym is ∙ h))))
          ∙ ap (λ (rest : List (Revision × X)). cond (sees v e.0 && is_committed ds t d e.0) (e ∷ rest) rest) (go all')

  -- what counts for an item, where the commit roots of its entries agree
  entry_here : {X : Type 0} (field : Document → List (Revision × X)) (all : List Document) → AllByRecursion (λ d. AllByRecursion (Agree ds known) (asked_roots t v d (keys_of (field d)))) all → entry_of known t v field all ≡ entry_of ds t v field all
  entry_here {X} field all agree = ap latest (over all agree)
    where
      over : (all : List Document) → AllByRecursion (λ d. AllByRecursion (Agree ds known) (asked_roots t v d (keys_of (field d)))) all → flat_map (counting known t v field) all ≡ flat_map (counting ds t v field) all
      over [] agree = refl
      over (d ∷ all) agree = ap (λ es. es ++ flat_map (counting known t v field) all) (counting_here d (field d) agree.0) ∙ ap (λ es. counting ds t v field d ++ es) (over all agree.1)

  value_here : {X : Type 0} (field : Document → List (Revision × X)) (all : List Document) → AllByRecursion (λ d. AllByRecursion (Agree ds known) (asked_roots t v d (keys_of (field d)))) all → value_of known t v field all ≡ value_of ds t v field all
  value_here field all agree = ap (option_map (λ e. e.1)) (entry_here field all agree)

  -- the commit roots of one property's entries are among those of all properties
  property_agrees : (d : Document) (n : Name) (ps : Props) → AllByRecursion (Agree ds known) (property_roots t v d ps) → AllByRecursion (Agree ds known) (asked_roots t v d (keys_of (values_of_property ps n)))
  property_agrees d n [] all = tt
  property_agrees d n (p ∷ ps) all = by (is_at (name_cmp n) p.0) (property_agrees d n ps (all_back (Agree ds known) (asked_roots t v d (keys_of p.1)) (property_roots t v d ps) all))
    where
      by : (b : Bool) → AllByRecursion (Agree ds known) (asked_roots t v d (keys_of (values_of_property ps n))) → AllByRecursion (Agree ds known) (asked_roots t v d (keys_of (unwrap_or (cond b (Some p.1) (lookup (is_at (name_cmp n)) ps)) [])))
      by true rest = all_front (Agree ds known) (asked_roots t v d (keys_of p.1)) (property_roots t v d ps) all
      by false rest = rest

  pub deleted_agree : (whole : Bool) (all : List Document) → AllByRecursion (Agree ds known) (flat_map (roots_of t v whole) all) → AllByRecursion (λ d. AllByRecursion (Agree ds known) (asked_roots t v d (keys_of d.deleted))) all
  deleted_agree whole [] agree = tt
  deleted_agree whole (d ∷ all) agree = (
    all_front (Agree ds known) (asked_roots t v d (keys_of d.deleted)) (cond whole (property_roots t v d d.props) []) (all_front (Agree ds known) (roots_of t v whole d) (flat_map (roots_of t v whole) all) agree),
    deleted_agree whole all (all_back (Agree ds known) (roots_of t v whole d) (flat_map (roots_of t v whole) all) agree),
  )

  pub properties_agree : (n : Name) (all : List Document) → AllByRecursion (Agree ds known) (flat_map (roots_of t v true) all) → AllByRecursion (λ d. AllByRecursion (Agree ds known) (asked_roots t v d (keys_of (values_of_property d.props n)))) all
  properties_agree n [] agree = tt
  properties_agree n (d ∷ all) agree = (
    property_agrees d n d.props (all_back (Agree ds known) (asked_roots t v d (keys_of d.deleted)) (property_roots t v d d.props) (all_front (Agree ds known) (roots_of t v true d) (flat_map (roots_of t v true) all) agree)),
    properties_agree n all (all_back (Agree ds known) (roots_of t v true d) (flat_map (roots_of t v true) all) agree),
  )

  properties_here : (all : List Document) → AllByRecursion (Agree ds known) (flat_map (roots_of t v true) all) → properties_in known t v all ≡ properties_in ds t v all
  properties_here all agree =
      same_fold (λ ps n. option_map_or (insert_entry name_cmp ps n) (option_flatten (value_of known t v (λ d. values_of_property d.props n) all)) ps) (λ ps n. option_map_or (insert_entry name_cmp ps n) (option_flatten (value_of ds t v (λ d. values_of_property d.props n) all)) ps)
      (λ ps n. ap (λ o. option_map_or (insert_entry name_cmp ps n) (option_flatten o) ps) (value_here (λ d. values_of_property d.props n) all (properties_agree n all agree)))
      (flat_map (λ d. keys_of d.props) all) []

  -- whether a `_deleted` of false counts
  abbrev is_there : Documents → List Document → Bool
  is_there ds' all = option_map_or not (value_of ds' t v (λ e. e.deleted) all) false

  there_here : (whole : Bool) (all : List Document) → AllByRecursion (Agree ds known) (flat_map (roots_of t v whole) all) → is_there known all ≡ is_there ds all
  there_here whole all agree = ap (λ o. option_map_or not o false) (value_here (λ e. e.deleted) all (deleted_agree whole all agree))

  added_here : (whole : Bool) (all : List Document) → AllByRecursion (Agree ds known) (flat_map (roots_of t v whole) all) → added_by known t v all ≡ added_by ds t v all
  added_here whole all agree = ap (option_map (λ e. e.0)) (entry_here (λ e. e.deleted) all (deleted_agree whole all agree))

  abbrev node_from : Documents → List Document → Node
  node_from ds' all = record { props = properties_in ds' t v all; born = added_by ds' t v all }

  abbrev found_from : Documents → List Document → Option Node
  found_from ds' all = cond (is_there ds' all) (Some (node_from ds' all)) None

  -- a node, where its document, those that it lists and the commit roots of all entries agree
  pub found_agrees : (p : Path) (d : Document) → known (id.Node p) ≡ Some d → ds (id.Node p) ≡ Some d → AllByRecursion (Agree ds known) (listed p d) → AllByRecursion (Agree ds known) (flat_map (roots_of t v true) (with_previous known p d)) → found_node known t v p ≡ found_node ds t v p
  found_agrees p d here there previous roots =
      ap (λ o. option_and_then (λ d. found_from known (documents_at known t v p d)) o) here
      ∙ ap (λ b. cond b (Some (node_from known (with_previous known p d))) None) (there_here true (with_previous known p d) roots)
      ∙ ap (λ (ps : List (Name × Property)). cond (is_there ds (with_previous known p d)) (Some (record { props = ps; born = added_by known t v (with_previous known p d) })) None) (properties_here (with_previous known p d) roots)
      ∙ ap (λ (born : Option Revision). cond (is_there ds (with_previous known p d)) (Some (record { props = properties_in ds t v (with_previous known p d); born = born })) None) (added_here true (with_previous known p d) roots)
      ∙ ap (found_from ds) (previous_here ds known p d previous)
      ∙ ap (λ o. option_and_then (λ d. found_from ds (documents_at ds t v p d)) o) (sym there)

  some_cond : {X : Type 0} (b : Bool) (x : X) → is_some (cond b (Some x) None) ≡ b
  some_cond true x = refl
  some_cond false x = refl

  some_born : (b : Bool) (node : Node) → born_of (cond b (Some node) None) ≡ cond b node.born None
  some_born true node = refl
  some_born false node = refl

  -- who added a node, where those of the entries of `_deleted` do
  pub birth_agrees : (p : Path) (d : Document) → known (id.Node p) ≡ Some d → ds (id.Node p) ≡ Some d → AllByRecursion (Agree ds known) (listed p d) → AllByRecursion (Agree ds known) (flat_map (roots_of t v false) (with_previous known p d)) → born_of (found_node known t v p) ≡ born_of (found_node ds t v p)
  birth_agrees p d here there previous roots =
      ap (λ o. born_of (option_and_then (λ d. found_from known (documents_at known t v p d)) o)) here
      ∙ some_born (is_there known (with_previous known p d)) (node_from known (with_previous known p d))
      ∙ ap (λ b. cond b (added_by known t v (with_previous known p d)) None) (there_here false (with_previous known p d) roots)
      ∙ ap (λ (born : Option Revision). cond (is_there ds (with_previous known p d)) born None) (added_here false (with_previous known p d) roots)
      ∙ ap (λ all. cond (is_there ds all) (added_by ds t v all) None) (previous_here ds known p d previous)
      ∙ sym (some_born (is_there ds (with_previous ds p d)) (node_from ds (with_previous ds p d)))
      ∙ ap (λ o. born_of (option_and_then (λ d. found_from ds (documents_at ds t v p d)) o)) (sym there)

  -- whether there is a node, where those of the entries of `_deleted` do
  pub presence_agrees : (p : Path) (d : Document) → known (id.Node p) ≡ Some d → ds (id.Node p) ≡ Some d → AllByRecursion (Agree ds known) (listed p d) → AllByRecursion (Agree ds known) (flat_map (roots_of t v false) (with_previous known p d)) → is_some (found_node known t v p) ≡ is_some (found_node ds t v p)
  presence_agrees p d here there previous roots =
      ap (λ o. is_some (option_and_then (λ d. found_from known (documents_at known t v p d)) o)) here
      ∙ some_cond (is_there known (with_previous known p d)) (node_from known (with_previous known p d))
      ∙ there_here false (with_previous known p d) roots
      ∙ ap (is_there ds) (previous_here ds known p d previous)
      ∙ sym (some_cond (is_there ds (with_previous ds p d)) (node_from ds (with_previous ds p d)))
      ∙ ap (λ o. is_some (option_and_then (λ d. found_from ds (documents_at ds t v p d)) o)) (sym there)

-- where there is no document there is no node
pub none_found : (ds : Documents) (t v : RevVec) (p : Path) → ds (id.Node p) ≡ None → found_node ds t v p ≡ None
none_found ds t v p none = rw none refl
