-- A reader of changes over documents at rest ends, and gives what they say.
use Rattle.std.proofs.Common.{◌≡◌, zero, suc, Bool, true, false, cond, inl, List, [], ◌∷◌, ◌++◌, Option, None, Some, map, refl, sym, ap, ◌∙◌, subst, append-nil, append_assoc}
use Rattle.std.specs.Prelude.{is_some, not, slice_get}
use Rattle.std.specs.Option.{option_map, option_map_or}
use Rattle.std.specs.declared.alloc.Global.{Global}
use Rattle.std.specs.declared.cmp.Ordering.TheVariants.{Less}
use Rattle.std.specs.List.{AllByRecursion, filter, flat_map}
use Rattle.std.specs.List.Sorted.{IsStrictlySortedBy}
use Rattle.std.specs.Map.{keys_of}
use Rattle.std.proofs.lemmas.List.Elements.{recursion_from_All}
use Rattle.jr_path.specs.Ids.{id_cmp}
use Rattle.jr_path.specs.declared.name.Name.{Name}
use Rattle.jr_path.specs.declared.path.Path.{Path}
use Rattle.jr_path.specs.declared.path.DocId.{DocId}
use Rattle.jr_path.specs.declared.path.DocId.TheVariants as id
use Rattle.jr_rev.specs.declared.revision.Revision.{Revision}
use Rattle.jr_rev.specs.declared.vector.Pin.{Pin}
use Rattle.jr_rev.specs.declared.vector.RevVec.{RevVec}
use Rattle.jr_tree.specs.declared.shared.CommitChanges.{CommitChanges}
use Rattle.oak_doc.specs.declared.document.Document.{Document}
use Rattle.oak_doc.specs.Updates.{values_of_property}
use Rattle.oak_read.specs.Meaning.{counting, Documents, documents_in}
use Rattle.oak_read.specs.Reading.{IsTable, answer, with_known}
use Rattle.oak_read.specs.Shown.{with_previous}
use Rattle.oak_read.specs.Wanted.{Ids, Known, asked_roots, left_of, listed, roots_of, unknown}
use Rattle.oak_read.specs.declared.wanted.Left.{Left}
use Rattle.oak_read.proofs.Agreeing.{Agree, counting_here, deleted_agree, previous_here, properties_agree}
use Rattle.oak_read.proofs.Ends.{Entries, all_behind, all_pass, behind, next_is, not_less_itself, passes_not}
use Rattle.oak_read.proofs.Walking.{Alike, Covered, IsRead, Within, all_both, all_first, all_of, all_second, covered_noted, each_covered, none_left, own_id, same_id, within_noted}
use Rattle.oak_changes.specs.Reading.{changes_reader, due, changes_ended, fed, fed_next, changes_on_main, changes_on_previous, changes_on_roots, with_document}
use Rattle.oak_changes.specs.Resting.{ChangesEndIn, ReadsChanges}
use Rattle.oak_changes.specs.Saying.{changes_said, document_said, grouped, item_said, path_said, property_said}
use Rattle.oak_changes.specs.declared.changes.ChangesReader.{ChangesReader}
use Rattle.oak_changes.specs.declared.changes.Step.{Step}
use Rattle.oak_changes.specs.declared.changes.Step.TheVariants as step
use Rattle.oak_changes.specs.declared.said.Said.{Said}

-- ---- what is known says what the documents say

same_flat : {X Y : Type 0} (f g : X → List Y) → ((x : X) → f x ≡ g x) → (xs : List X) → flat_map f xs ≡ flat_map g xs
same_flat f g same [] = refl
same_flat f g same (x ∷ xs) = λ i. same x i ++ same_flat f g same xs i

module _ (ds known : Documents) (t from to : RevVec) where
  counted : {X : Type 0} (field : Document → List (Revision × X)) (all : List Document) → AllByRecursion (λ d. AllByRecursion (Agree ds known) (asked_roots t to d (keys_of (field d)))) all → flat_map (counting known t to field) all ≡ flat_map (counting ds t to field) all
  counted field [] agree = refl
  counted field (d ∷ all) agree = λ i. counting_here ds known t to d (field d) agree.0 i ++ counted field all agree.1 i

  path_agrees : (p : Path) (all : List Document) → AllByRecursion (Agree ds known) (flat_map (roots_of t to true) all) → path_said known t from to p all ≡ path_said ds t from to p all
  path_agrees p all agree = λ i.
      item_said from (record { path = p; name = None }) (map (λ e. (e.0, not e.1)) (counted (λ d. d.deleted) all (deleted_agree ds known t to true all agree) i))
      ++ same_flat (property_said known t from to p all) (property_said ds t from to p all) (λ n. each n) (flat_map (λ d. keys_of d.props) all) i
    where
      each : (n : Name) → property_said known t from to p all n ≡ property_said ds t from to p all n
      each n = ap (λ (es : List (Revision × Option Rattle.jr_value.specs.declared.value.Property.Property)). item_said from (record { path = p; name = Some n }) (map (λ e. (e.0, is_some e.1)) es)) (counted (λ d. values_of_property d.props n) all (properties_agree ds known t to n all agree))

  pub said_agrees : (p : Path) (d : Document) → known (id.Node p) ≡ Some d → ds (id.Node p) ≡ Some d → AllByRecursion (Agree ds known) (listed p d) → AllByRecursion (Agree ds known) (flat_map (roots_of t to true) (with_previous known p d)) → document_said known t from to (id.Node p) ≡ document_said ds t from to (id.Node p)
  said_agrees p d here there previous roots =
      ap (λ o. option_map_or (λ d. path_said known t from to p (with_previous known p d)) o []) here
      ∙ (path_agrees p (with_previous known p d) roots
      ∙ (ap (path_said ds t from to p) (previous_here ds known p d previous)
      ∙ sym (ap (λ o. option_map_or (λ d. path_said ds t from to p (with_previous ds p d)) o []) there)))

-- ---- the steps of a reader

module _ (table : Entries) where
  ends_after : (r : ChangesReader) (o : List CommitChanges) → ChangesEndIn table (fed r (answer table (due r))) o → ChangesEndIn table r o
  ends_after r o e = (suc e.0, e.1)

  module _ (r : ChangesReader) (o : List CommitChanges) (kind : Left → Step) (next : Known → Step → ChangesReader)
      (goes_on : (known : Known) (left : Left) → fed (record r { known = known; step = kind left }) (answer table (due (record r { known = known; step = kind left })))
      ≡ option_map_or (λ more. record r { known = with_known known left.first (documents_in table left.first); step = kind more }) (left_of left.rest) (next (with_known known left.first (documents_in table left.first)) (kind left))) where
    -- the documents that are left are read one after another
    read_left : (rest : Ids) (first : DocId) (known : Known) (xs : List DocId) → Within table known → AllByRecursion (Covered table known ((first, tt) ∷ rest)) xs
        → ((known' : Known) (s : Step) → Within table known' → AllByRecursion (Alike table known') xs → ChangesEndIn table (next known' s) o)
        → ChangesEndIn table (record r { known = known; step = kind (record { first = first; rest = rest }) }) o
    read_left [] first known xs within covered then =
        ends_after (record r { known = known; step = kind (record { first = first; rest = [] }) }) o
        (subst (λ (r' : ChangesReader). ChangesEndIn table r' o) (sym (goes_on known (record { first = first; rest = [] })))
        (then (with_known known first (documents_in table first)) (kind (record { first = first; rest = [] })) (within_noted table known within first)
        (all_of (Covered table known ((first, tt) ∷ [])) (Alike table (with_known known first (documents_in table first))) (λ x c. none_left table (with_known known first (documents_in table first)) x (covered_noted table known within first [] x c)) xs covered)))
    read_left (e ∷ rest) first known xs within covered then =
        ends_after (record r { known = known; step = kind (record { first = first; rest = e ∷ rest }) }) o
        (subst (λ (r' : ChangesReader). ChangesEndIn table r' o) (sym (goes_on known (record { first = first; rest = e ∷ rest })))
        (read_left rest e.0 (with_known known first (documents_in table first)) xs (within_noted table known within first)
        (all_of (Covered table known ((first, tt) ∷ e ∷ rest)) (Covered table (with_known known first (documents_in table first)) (e ∷ rest)) (λ x c. covered_noted table known within first (e ∷ rest) x c) xs covered) then))

    -- those of some ids that aren't known are read, and then all of them are known
    read_unknown : (known : Known) (s : Step) (before xs : List DocId) → Within table known → AllByRecursion (Alike table known) before
        → ((known' : Known) (s : Step) → Within table known' → AllByRecursion (Alike table known') before → AllByRecursion (Alike table known') xs → ChangesEndIn table (next known' s) o)
        → ChangesEndIn table (option_map_or (λ left. record r { known = known; step = kind left }) (left_of (unknown known xs)) (next known s)) o
    read_unknown known s before xs within alike then = by (unknown known xs) (each_covered table known within xs [])
      where
        by : (ids : Ids) → AllByRecursion (Covered table known ids) xs → ChangesEndIn table (option_map_or (λ left. record r { known = known; step = kind left }) (left_of ids) (next known s)) o
        by [] covered = then known s within alike (all_of (Covered table known []) (Alike table known) (none_left table known) xs covered)
        by (e ∷ es) covered =
            read_left es e.0 known (before ++ xs) within
            (all_both (Covered table known (e ∷ es)) before xs (all_of (Alike table known) (Covered table known (e ∷ es)) (λ x h. inl h) before alike) covered)
            (λ known' s within' all. then known' s within' (all_first (Alike table known') before xs all) (all_second (Alike table known') before xs all))

  module _ (r : ChangesReader) (o : List CommitChanges) (d : Document) (there : documents_in table (id.Node r.at) ≡ Some d)
      (then : (known : Known) (s : Step) → IsRead table true r.pin.sweep r.pin.base r.at d known → ChangesEndIn table (changes_on_roots (record r { known = known; step = s })) o) where
    roots_end : (known : Known) (s : Step) → Within table known → documents_in known (id.Node r.at) ≡ Some d → AllByRecursion (Alike table known) (listed r.at d) → ChangesEndIn table (changes_on_previous (record r { known = known; step = s })) o
    roots_end known s within here previous =
        subst (λ ids. ChangesEndIn table (option_map_or (λ left. record r { known = known; step = step.Roots left }) (left_of ids) (changes_on_roots (record r { known = known; step = s }))) o)
        (sym (ap (λ o'. option_map_or (λ d. unknown known (flat_map (roots_of r.pin.sweep r.pin.base true) (with_previous (documents_in known) r.at d))) o' []) here))
        (read_unknown r o (λ left. step.Roots left) (λ known' s'. changes_on_roots (record r { known = known'; step = s' })) (λ known' left. refl)
        known s (id.Node r.at ∷ listed r.at d) (flat_map (roots_of r.pin.sweep r.pin.base true) (with_previous (documents_in known) r.at d)) within (here ∙ sym there, previous)
        (λ known' s' within' before roots.
        let same : with_previous (documents_in known) r.at d ≡ with_previous (documents_in known') r.at d =
        previous_here (documents_in table) (documents_in known) r.at d previous ∙ sym (previous_here (documents_in table) (documents_in known') r.at d before.1) in
        then known' s' (record {
          within = within';
          here = before.0 ∙ there;
          previous = before.1;
          roots = subst (λ ds. AllByRecursion (Alike table known') (flat_map (roots_of r.pin.sweep r.pin.base true) ds)) same roots;
        })))

    -- the node's document is known: the reader goes on until all is read that the node rests on
    main_end : Within table r.known → documents_in r.known (id.Node r.at) ≡ Some d → ChangesEndIn table (changes_on_main r) o
    main_end within here =
        subst (λ ids. ChangesEndIn table (option_map_or (λ left. record r { step = step.Previous left }) (left_of ids) (changes_on_previous r)) o)
        (sym (ap (λ o'. option_map_or (λ d. unknown r.known (listed r.at d)) o' []) here))
        (read_unknown r o (λ left. step.Previous left) (λ known' s'. changes_on_previous (record r { known = known'; step = s' })) (λ known' left. refl)
        r.known r.step (id.Node r.at ∷ []) (listed r.at d) within (here ∙ sym there, tt)
        (λ known' s' within' before previous. roots_end known' s' within' (before.0 ∙ there) previous))

-- ---- all documents

is_node : DocId → Bool
is_node (id.Node p) = true
is_node (id.Prev n p) = false
is_node id.Settings = false

module _ (table : Entries) (is : IsTable table) (a : Global) (from : RevVec) (pin : Pin) where
  abbrev reader : Path → Known → List Said → Step → ChangesReader
  reader at known said s = record { alloc = a; from = from; pin = pin; at = at; known = known; said = said; step = s }

  abbrev tells : DocId → List Said
  tells x = document_said (documents_in table) pin.sweep from pin.base x

  abbrev all_told : Entries → List Said
  all_told es = flat_map tells (keys_of es)

  all_named : AllByRecursion (λ e. e.1.id ≡ e.0) table
  all_named = recursion_from_All (λ e. e.1.id ≡ e.0) table is.named

  -- documents of no node, which stand behind those of nodes, tell nothing
  others : (x : DocId) → ((p : Path) → x ≡ id.Node p → ⊥) → (es : Entries) → AllByRecursion (λ y. id_cmp x y ≡ Less) (keys_of es) → all_told es ≡ []
  others x other [] h = refl
  others x other ((id.Node p, d) ∷ es) h = absurd (node x other h.0)
    where
      node : (x : DocId) → ((q : Path) → x ≡ id.Node q → ⊥) → id_cmp x (id.Node p) ≡ Less → ⊥
      node (id.Node q) other less = other q refl
      node (id.Prev n q) other less = cc
      node id.Settings other less = cc
  others x other ((id.Prev n p, d) ∷ es) h = others x other es h.1
  others x other ((id.Settings, d) ∷ es) h = others x other es h.1

  tells_none : (x : DocId) → ((p : Path) → x ≡ id.Node p → ⊥) → tells x ≡ []
  tells_none (id.Node p) other = absurd (other p refl)
  tells_none (id.Prev n p) other = refl
  tells_none id.Settings other = refl

  abbrev Goes : List Said → Entries → ChangesReader → Type 0
  Goes said rest r = ChangesEndIn table r (grouped (said ++ all_told rest))

  -- from a document on
  from_document : (e : DocId × Document) (more : Entries) (at : Path) (known : Known) (said : List Said) (s : Step) → documents_in table e.0 ≡ Some e.1 → AllByRecursion (λ y. id_cmp e.0 y ≡ Less) (keys_of more) → e.1.id ≡ e.0
      → ((q : Path) (known' : Known) (said' : List Said) → e.0 ≡ id.Node q → ChangesEndIn table (reader q known' said' step.Next) (grouped (said' ++ all_told more)))
      → ChangesEndIn table (with_document (reader at known said s) e.1.id e.1) (grouped (said ++ all_told (e ∷ more)))
  from_document e more at known said s found less named go = subst (λ (x : DocId). ChangesEndIn table (with_document (reader at known said s) x e.1) (grouped (said ++ all_told (e ∷ more)))) (sym named) (by e.0 refl)
    where
      stops : ((p : Path) → e.0 ≡ id.Node p → ⊥) → ChangesEndIn table (changes_ended (reader at known said s)) (grouped (said ++ all_told (e ∷ more)))
      stops other = (zero, ap (λ (l : List Said). step.Done (grouped l)) (sym (ap (λ (l : List Said). said ++ l) ((λ i. tells_none e.0 other i ++ others e.0 other more less i)) ∙ append-nil said)))

      by : (x : DocId) → e.0 ≡ x → ChangesEndIn table (with_document (reader at known said s) x e.1) (grouped (said ++ all_told (e ∷ more)))
      by (id.Node q) same =
          let there : documents_in table (id.Node q) ≡ Some e.1 = ap (documents_in table) (sym same) ∙ found in
          main_end table (reader q ((id.Node q, e.1) ∷ []) said s) (grouped (said ++ all_told (e ∷ more))) e.1 there
          (λ known' s' read. subst (λ (l : List Said). ChangesEndIn table (reader q known' (said ++ document_said (documents_in known') pin.sweep from pin.base (id.Node q)) step.Next) (grouped l))
          (append_assoc said (document_said (documents_in known') pin.sweep from pin.base (id.Node q)) (all_told more)
          ∙ ap (λ (l : List Said). said ++ (l ++ all_told more)) (said_agrees (documents_in table) (documents_in known') pin.sweep from pin.base q e.1 read.here there read.previous read.roots ∙ ap tells (sym same)))
          (go q known' (said ++ document_said (documents_in known') pin.sweep from pin.base (id.Node q)) same))
          (one q there) (ap (λ b. cond b (Some e.1) None) (own_id (id.Node q)))
        where
          one : (q : Path) → documents_in table (id.Node q) ≡ Some e.1 → Within table ((id.Node q, e.1) ∷ [])
          one q there x d h = at_id (Rattle.std.specs.Ordering.eq_by_cmp id_cmp x (id.Node q)) refl h
            where
              at_id : (b : Bool) → Rattle.std.specs.Ordering.eq_by_cmp id_cmp x (id.Node q) ≡ b → cond b (Some e.1) None ≡ Some d → documents_in table x ≡ Some d
              at_id true k h = ap (documents_in table) (same_id x (id.Node q) k) ∙ (there ∙ h)
              at_id false k h = cc
      by (id.Prev n q) same = stops (λ p h. let both : id.Prev n q ≡ id.Node p = sym same ∙ h in cc)
      by id.Settings same = stops (λ p h. let both : id.Settings ≡ id.Node p = sym same ∙ h in cc)

  -- where the documents that are left are these
  walk : (rest : Entries) (at : Path) (known : Known) (said : List Said) → behind (id.Node at) table ≡ rest → ChangesEndIn table (reader at known said step.Next) (grouped (said ++ all_told rest))
  walk [] at known said none =
      ends_after table (reader at known said step.Next) (grouped (said ++ []))
      (subst (λ (es : Entries). ChangesEndIn table (fed_next (reader at known said step.Next) (option_map (λ e. e.1) (slice_get es 0))) (grouped (said ++ []))) (sym none)
      (zero, ap (λ (l : List Said). step.Done (grouped l)) (sym (append-nil said))))
  walk (e ∷ more) at known said is_rest =
      let n = next_is (id.Node at) table e more is.ordered is_rest in
      let named : e.1.id ≡ e.0 = (subst (λ es. AllByRecursion (λ (e : DocId × Document). e.1.id ≡ e.0) es) is_rest (all_behind (λ e. e.1.id ≡ e.0) (id.Node at) table all_named)).0 in
      ends_after table (reader at known said step.Next) (grouped (said ++ all_told (e ∷ more)))
      (subst (λ (es : Entries). ChangesEndIn table (fed_next (reader at known said step.Next) (option_map (λ e. e.1) (slice_get es 0))) (grouped (said ++ all_told (e ∷ more)))) (sym is_rest)
      (from_document e more at known said step.Next n.found n.others named
      (λ q known' said' same. walk more q known' said' (subst (λ (x : DocId). behind x table ≡ more) same n.behind_it))))

  -- what stands before all others
  pub record IsFirst (e : DocId × Document) (more : Entries) : Type 0 where
    pub found : documents_in table e.0 ≡ Some e.1
    pub others_behind : AllByRecursion (λ y. id_cmp e.0 y ≡ Less) (keys_of more)
    pub behind_it : behind e.0 table ≡ more
    pub named : e.1.id ≡ e.0

  sorted_first : (e : DocId × Document) (more : Entries) → IsStrictlySortedBy id_cmp (keys_of (e ∷ more)) → AllByRecursion (λ y. id_cmp e.0 y ≡ Less) (keys_of more)
  unfolding IsStrictlySortedBy
  sorted_first e more sorted = sorted.0

  first_is : (e : DocId × Document) (more : Entries) → table ≡ e ∷ more → IsFirst e more
  first_is e more same =
      let less = sorted_first e more (subst (λ (es : Entries). IsStrictlySortedBy id_cmp (keys_of es)) same is.ordered) in
      record {
        found = ap (λ (es : Entries). documents_in es e.0) same ∙ ap (λ b. cond b (Some e.1) (documents_in more e.0)) (own_id e.0);
        others_behind = less;
        behind_it = ap (behind e.0) same ∙ (ap (λ b. cond b (e ∷ behind e.0 more) (behind e.0 more)) (passes_not e.0 e.0 (not_less_itself e.0)) ∙ all_pass e.0 more less);
        named = (subst (λ es. AllByRecursion (λ (e : DocId × Document). e.1.id ≡ e.0) es) same all_named).0;
      }

  pub reads_them : ChangesEndIn table (changes_reader a from pin) (changes_said (documents_in table) pin.sweep from pin.base (keys_of table))
  reads_them = ends_after table (changes_reader a from pin) (grouped (all_told table)) (by table refl)
    where
      by : (es : Entries) → table ≡ es → ChangesEndIn table (fed_next (changes_reader a from pin) (option_map (λ e. e.1) (slice_get es 0))) (grouped (all_told table))
      by [] none = (zero, ap (λ (es : Entries). step.Done (grouped (all_told es))) (sym none))
      by (e ∷ more) same =
          let f = first_is e more same in
          subst (λ (es : Entries). ChangesEndIn table (with_document (changes_reader a from pin) e.1.id e.1) (grouped (all_told es))) (sym same)
          (from_document e more [] [] [] step.First f.found f.others_behind f.named
          (λ q known' said' at_q. walk more q known' said' (subst (λ (x : DocId). behind x table ≡ more) at_q f.behind_it)))

pub reads_changes : ReadsChanges
reads_changes table a from pin is = reads_them table is a from pin
