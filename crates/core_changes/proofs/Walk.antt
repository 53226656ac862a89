-- A reader of changes tells just the changes of the nodes that it has passed, after each answer of the documents.
use Rattle.std.proofs.Common.{◌≡◌, ◌⊎◌, inl, inr, ℕ, Bool, true, false, cond, not, ◌||◌, Some, None, Option, List, [], ◌∷◌, ◌++◌, refl, sym, ap, ◌∙◌, subst, is_some}
use Rattle.std.specs.Prelude.{◌==◌, is_none, slice_get}
use Rattle.std.specs.Option.{option_map, option_map_or, option_or, unwrap_or}
use Rattle.std.specs.declared.cmp.Ordering.{Ordering}
use Rattle.std.specs.declared.cmp.Ordering.TheVariants.{Less, Equal, Greater}
use Rattle.std.specs.declared.alloc.Global.{Global}
use Rattle.std.specs.FinMap.Entries.{below_all}
use Rattle.std.specs.Ordering.{eq_by_cmp, is_eq, is_le, is_lt, ordering_reverse}
use Rattle.std.specs.List.{flat_map}
use Rattle.std.specs.List.Sorted.{IsStrictlySortedBy}
use Rattle.std.specs.Map.{keys_of, lookup}
use Rattle.std.specs.BTreeMap.{is_at}
use Rattle.std.proofs.lemmas.List.Elements.{recursion_from_All}
use mathlib.Core.Bool.{false≢true}
use Rattle.jr_path.specs.Ids.{id_cmp}
use Rattle.jr_path.specs.declared.name.Name.{Name}
use Rattle.jr_path.specs.declared.path.Path.{Path}
use Rattle.jr_path.specs.declared.path.DocId.{DocId}
use Rattle.jr_path.specs.declared.path.DocId.TheVariants as id
use Rattle.jr_path.proofs.Orders.{id_exact, id_total}
use Rattle.jr_rev.specs.declared.revision.Revision.{Revision}
use Rattle.jr_rev.specs.declared.vector.RevVec.{RevVec}
use Rattle.jr_rev.specs.declared.vector.Pin.{Pin}
use Rattle.jr_rev.specs.Vectors.{sees}
use Rattle.jr_rev.proofs.Entries.{number_same}
use Rattle.jr_tree.specs.Items.{here_of, put_of, written}
use Rattle.oak_changes.specs.Reading.{due, changes_ended, fed, fed_next, noted, changes_on_main, changes_on_previous, changes_on_roots, changes_settled, with_document}
use Rattle.oak_changes.specs.Saying.{document_said, path_said}
use Rattle.oak_changes.specs.declared.changes.ChangesReader.{ChangesReader}
use Rattle.oak_changes.specs.declared.changes.Step.{Step}
use Rattle.oak_changes.specs.declared.changes.Step.TheVariants as step
use Rattle.oak_changes.specs.declared.said.Said.{Said}
use Rattle.oak_doc.specs.declared.document.Document.{Document}
use Rattle.oak_doc.specs.declared.document.PrevEntry.{PrevEntry}
use Rattle.oak_machine.specs.Changed.{tree_below}
use Rattle.oak_machine.specs.History.{Past}
use Rattle.oak_read.proofs.Walking.{own_id, same_id}
use Rattle.oak_read.specs.Meaning.{commit_root_of, Documents, documents_in}
use Rattle.oak_read.specs.Reading.{answer, IsTable, with_known}
use Rattle.oak_read.specs.Shown.{with_previous}
use Rattle.oak_read.specs.Wanted.{Ids, Known, left_of, listed, previous_wanted, roots_of, roots_wanted, unknown}
use Rattle.oak_read.specs.declared.wanted.Left.{Left}
use Rattle.core_keep.proofs.AtPath.{same_listed}
use Rattle.core_begun.proofs.Collecting.{held_pair}
use Rattle.core_keep.proofs.Formers.{shown_copy, shown_found}
use Rattle.core_keep.proofs.Going.{itself as number_itself}
use Rattle.core_begun.proofs.Sound.{found as edit_is}
use Rattle.core_keep.proofs.Readers.{root_by}
use Rattle.core_keep.specs.Formers.{AreFormers, Former, Formers, IsShownIn}
use Rattle.core_keep.specs.From.{course_from}
use Rattle.core_begun.specs.Kept.{IsKeptSince}
use Rattle.core_keep.specs.Readers.{asked_too, gone_by, Knows, look_too, Reads}
use Rattle.core_keep.specs.Standing.{all_at, HasEntryOf, gone_in, values_in}
use Rattle.core_read.proofs.Entries.{first as first_part, is_less, second as second_part}
use Rattle.core_read.specs.Holds.{has_revision}
use Rattle.core_read.specs.Told.{IsIn}
use Rattle.core_read.specs.World.{Progress}
use Rattle.core_watch.proofs.Behind.{behind, each_found, Entries, has, IsNext, next_is, nothing_behind}
use Rattle.core_watch.proofs.Fed.{any_in, any_listed, beside, from_entry, in_flat, in_map, in_unknown, none_is, not_behind, or_else, or_first, or_false, prev_node, roots_are, some_none, to_entry}
use Rattle.core_watch.proofs.Left.{all_rising, all_unknown, among_roots, either, is_root, noted_at, noted_rising, now_known, same_known, still_known, still_unknown, unknown_left}
use Rattle.core_watch.specs.Reading.{is_asked, is_left}
use Rattle.core_watch.specs.Standing.{HasEntry, is_known_or_left}
use Rattle.core_changes.proofs.Grouping.{grouped_is}
use Rattle.core_changes.proofs.Members.{from_both, in_back, in_front}
use Rattle.core_changes.proofs.Saying.{document_is, said_all, said_each, written_gone}
use Rattle.core_changes.proofs.Telling.{between_held, itself_between, new_unbound, tells_copy, tells_found, tells_more}
use Rattle.core_changes.specs.Between.{change_of, IsBetween, IsChange}
use Rattle.core_changes.specs.Instants.{AreHeld, AreWriting}
use Rattle.core_changes.specs.Observing.{AreSaid, AreSaying, IsAskingChanges, IsObserving, AreChangeRootsAsked, is_before_node, is_up_to_node, Stands, TellsChanges}
use Rattle.std.specs.Cmp.{tied_itself}
use Rattle.oak_doc.specs.Updates.{of_revision}
use Rattle.oak_machine.specs.declared.event.Start.{Start}
use Rattle.core_changes.proofs.First.{none_below}

-- ---- orders of ids

below_up : (x y : DocId) → is_lt (id_cmp x y) ≡ true → is_le (id_cmp x y) ≡ true
below_up x y h = by (id_cmp x y) h
  where
    by : (o : Ordering) → is_lt o ≡ true → is_le o ≡ true
    by Less k = refl
    by Equal k = refl
    by Greater k = k

less_is : (o : Ordering) → is_lt o ≡ true → o ≡ Less
less_is Less h = refl
less_is Equal h = absurd (false≢true h)
less_is Greater h = absurd (false≢true h)

up_then : (x y z : DocId) → is_le (id_cmp x y) ≡ true → id_cmp y z ≡ Less → is_lt (id_cmp x z) ≡ true
up_then x y z h less = by (id_cmp x y) refl h
  where
    by : (o : Ordering) → id_cmp x y ≡ o → is_le o ≡ true → is_lt (id_cmp x z) ≡ true
    by Less e k = ap is_lt (id_total.trans x y z e less)
    by Equal e k = ap is_lt (id_total.congr x y z e ∙ less)
    by Greater e k = absurd (false≢true k)

up_itself : (x : DocId) → is_le (id_cmp x x) ≡ true
up_itself x = ap is_le (tied_itself id_total x)

-- up to: below, or the same
up_splits : (x y : DocId) → is_le (id_cmp x y) ≡ true → (is_lt (id_cmp x y) ≡ true) ⊎ (x ≡ y)
up_splits x y h = by (id_cmp x y) refl h
  where
    by : (o : Ordering) → id_cmp x y ≡ o → is_le o ≡ true → (is_lt (id_cmp x y) ≡ true) ⊎ (x ≡ y)
    by Less e k = inl (ap is_lt e)
    by Equal e k = inr (id_exact x y e)
    by Greater e k = absurd (false≢true k)

-- not up to: behind
not_up : (x y : DocId) → is_le (id_cmp x y) ≡ false → id_cmp y x ≡ Less
not_up x y h = id_total.antisymm y x ∙ by (id_cmp x y) h
  where
    by : (o : Ordering) → is_le o ≡ false → ordering_reverse o ≡ Less
    by Less k = absurd (false≢true (sym k))
    by Equal k = absurd (false≢true (sym k))
    by Greater k = refl

node_same : (p q : Path) → id.Node p ≡ id.Node q → p ≡ q
node_same p q h = cc

-- an id before others is none of them
none_behind : (x : DocId) (ids : Ids) → below_all id_cmp x ids ≡ true → lookup (is_at (id_cmp x)) ids ≡ None
none_behind x [] below = refl
none_behind x (e ∷ ids) below = ap (λ b. cond b (Some e.1) (lookup (is_at (id_cmp x)) ids)) (apart_less (id_cmp x e.0) (is_less (id_cmp x e.0) (first_part _ _ below))) ∙ none_behind x ids (second_part _ _ below)
  where
    apart_less : (o : Ordering) → o ≡ Less → is_eq o ≡ false
    apart_less o h = ap is_eq h

module _ (start : Start) where
  module _ (table : Entries) (is : IsTable table) (past : Past) (formers : Formers) (done : Progress) (a : Global) (from : RevVec) (pin : Pin) (world : IsKeptSince start (documents_in table) past done) (held : AreHeld start past from pin)
      (are : AreFormers (documents_in table) (course_from start past) formers) (writing : AreWriting past from pin.base) where
    abbrev ds : Documents
    ds = documents_in table

    abbrev to : RevVec
    to = pin.base

    abbrev t : RevVec
    t = pin.sweep

    abbrev reader : Path → Known → List Said → Step → ChangesReader
    reader at known said s = record { alloc = a; from = from; pin = pin; at = at; known = known; said = said; step = s }

    abbrev IsGoingOn : ChangesReader → Type 0
    IsGoingOn r = IsObserving start ds past formers r

    abbrev Asking : Known → Ids → Path → Type 0
    Asking known left p = IsAskingChanges start ds past formers from to t known left p

    abbrev Rooted : Known → Ids → Path → Type 0
    Rooted known left p = AreChangeRootsAsked start ds past from to t known left p

    abbrev Saying : Known → Type 0
    Saying known = AreSaying ds to t known

    abbrev Changed : (Path → Bool) → List Said → Type 0
    Changed passed said = AreSaid start past from to passed said

    -- ---- where there is no document nothing changes

    none_here : (p : Path) → ds (id.Node p) ≡ None → all_at ds p ≡ []
    none_here p none = ap (λ o. option_map_or (with_previous ds p) o []) none

    not_some : {X Y : Type 0} (f : X → Y) (o : Option X) (y : Y) → o ≡ None → option_map f o ≡ Some y → ⊥
    not_some f o y none h = false≢true (ap is_some (sym (ap (option_map f) none) ∙ h))

    changed_there : (s : Said) → IsChange start past from to s → is_some (ds (id.Node s.change.item.path)) ≡ true
    changed_there s c = by (ds (id.Node s.change.item.path)) refl
      where
        p : Path
        p = s.change.item.path

        no_here : ds (id.Node s.change.item.path) ≡ None → written (here_of s.change.item.path) c.edit ≡ None
        no_here none = back (written (here_of s.change.item.path) c.edit) (sym (written_gone s.change.item.path c.edit) ∙ (sym ((world.keeps s.change.item.path).node.exact s.revision c.edit (edit_is past s.revision ∙ c.is_edit) (new_unbound start past from pin held s.revision c.new))
            ∙ ap (λ all. of_revision (gone_in all) s.revision) (none_here s.change.item.path none)))
          where
            back : (o : Option Bool) → option_map not o ≡ None → o ≡ None
            back None h = refl
            back (Some b) h = absurd (false≢true (sym (ap is_some h)))

        no_put : (n : Name) → ds (id.Node s.change.item.path) ≡ None → written (put_of s.change.item.path n) c.edit ≡ None
        no_put n none = sym (((world.keeps s.change.item.path).prop n).exact s.revision c.edit (edit_is past s.revision ∙ c.is_edit) (new_unbound start past from pin held s.revision c.new))
            ∙ ap (λ all. of_revision (values_in n all) s.revision) (none_here s.change.item.path none)

        nothing : ds (id.Node s.change.item.path) ≡ None → (o : Option Name) → s.change.item.name ≡ o → ⊥
        nothing none None e = not_some _ (written (here_of s.change.item.path) c.edit) s.change (no_here none) (sym (ap (λ o. change_of (tree_below (Some start) past to s.revision) c.edit (record { path = s.change.item.path; name = o })) e) ∙ c.change)
        nothing none (Some n) e = not_some _ (written (put_of s.change.item.path n) c.edit) s.change (no_put n none) (sym (ap (λ o. change_of (tree_below (Some start) past to s.revision) c.edit (record { path = s.change.item.path; name = o })) e) ∙ c.change)

        by : (o : Option Document) → ds (id.Node s.change.item.path) ≡ o → is_some o ≡ true
        by (Some d) e = refl
        by None e = absurd (nothing e s.change.item.name refl)

    -- ---- all that a node takes is known

    module _ (known : Known) (saying : Saying known) (at : Path) (rooted : Rooted known [] at) where
      reads_to : Reads ds (course_from start past) (sees to) (sees t) at rooted.document (λ k. true) rooted.look
      reads_to = rooted.tells.reads to (itself_between start past from pin held)

      -- what the documents say of an entry is known
      known_says : (x : Document) → IsIn x (gone_by rooted.document rooted.look) → (r : Revision) → sees to r ≡ true → sees t r ≡ false → HasEntryOf r x → has_revision (documents_in known (commit_root_of x r)) r ≡ true
      known_says x i r seen unswept entry = by (documents_in known (commit_root_of x r)) refl (or_false _ (rooted.roots x i r seen unswept (to_entry x r entry)))
        where
          root : (q : Path) × (commit_root_of x r ≡ id.Node q)
          root = root_by ds (course_from start past) (sees to) (sees t) at rooted.document (λ k. true) rooted.look reads_to x i r

          says : has_revision (ds (commit_root_of x r)) r ≡ true
          says = reads_to.said x i r seen unswept entry

          by : (o : Option Document) → documents_in known (commit_root_of x r) ≡ o → is_some o ≡ true → has_revision o r ≡ true
          by None e h = absurd (false≢true h)
          by (Some d) e h = saying.said root.0 d (ap (documents_in known) (sym root.1) ∙ e) r seen unswept (ap (λ (j : DocId). has_revision (ds j) r) (sym root.1) ∙ says)

      knows : Knows (documents_in known) (sees to) (sees t) at rooted.document rooted.look
      knows = record { main = rooted.there; previous = rooted.found; said = known_says }

      -- the changes of the node join those before
      more_said : (said : List Said) → Changed (is_before_node at) said → Changed (is_up_to_node at) (said ++ document_said (documents_in known) t from to (id.Node at))
      more_said said changed = subst (λ (more : List Said). Changed (is_up_to_node at) (said ++ more)) (sym (document_is start ds past done world from pin held at rooted.document rooted.look rooted.tells (documents_in known) knows rooted.there)) (record {
        each = λ s i. elim (from_both said mine s i) [
          | inl j ↦ let c = changed.each s j in (c.0, below_up (id.Node s.change.item.path) (id.Node at) c.1)
          | inr j ↦ let c = said_each start ds past done world from pin held at rooted.document rooted.look rooted.tells (documents_in known) knows s j in (c.0, subst (λ (q : Path). is_le (id_cmp (id.Node q) (id.Node at)) ≡ true) (sym c.1) (up_itself (id.Node at)))
        ];
        all = λ s c passed. elim (up_splits (id.Node s.change.item.path) (id.Node at) passed) [
          | inl below ↦ in_front said mine s (changed.all s c below)
          | inr same ↦ in_back said mine s (said_all start ds past done world from pin held at rooted.document rooted.look rooted.tells (documents_in known) knows s c (node_same s.change.item.path at same))
        ];
      })
        where
          mine : List Said
          mine = path_said (documents_in known) t from to at (gone_by rooted.document rooted.look)

    roots_read : (at : Path) (known : Known) (said : List Said) (s : Step) → Saying known → Rooted known [] at → Changed (is_before_node at) said → IsGoingOn (changes_on_roots (reader at known said s))
    roots_read at known said s saying rooted changed = more_said known saying at rooted said changed

    -- ---- the commit roots

    -- with what is left: the next of it, or all is known
    roots_go_on : (at : Path) (known : Known) (said : List Said) (s : Step) (ids : Ids) → Saying known → Rooted known ids at → Changed (is_before_node at) said
        → IsGoingOn (option_map_or (λ left. record (reader at known said s) { step = step.Roots left }) (left_of ids) (changes_on_roots (reader at known said s)))
    roots_go_on at known said s [] saying rooted changed = roots_read at known said s saying rooted changed
    roots_go_on at known said s (e ∷ es) saying rooted changed = (rooted, saying, changed)

    -- ---- the previous documents

    -- all are asked for: the commit roots of what is gone by are wanted
    previous_read : (at : Path) (known : Known) (said : List Said) (s : Step) → Saying known → Asking known [] at → Changed (is_before_node at) said → IsGoingOn (changes_on_previous (reader at known said s))
    previous_read at known said s saying asking changed =
        subst (λ (ids : Ids). IsGoingOn (option_map_or (λ left. record (reader at known said s) { step = step.Roots left }) (left_of ids) (changes_on_roots (reader at known said s)))) (sym wanted_is)
        (roots_go_on at known said s wanted saying rooted changed)
      where
        wanted : Ids
        wanted = unknown known (flat_map (roots_of t to true) (gone_by asking.document asking.look))

        docs_are : with_previous (documents_in known) at asking.document ≡ gone_by asking.document asking.look
        docs_are = ap (λ l. asking.document ∷ l) (same_listed (λ e. documents_in known (id.Prev e.number at)) (λ e. asking.look e.number) asking.document.prev (λ e i. asking.found e i refl))

        wanted_is : roots_wanted t to known true at ≡ unknown known (flat_map (roots_of t to true) (gone_by asking.document asking.look))
        wanted_is =
            ap (λ (o : Option Document). option_map_or (λ d. unknown known (flat_map (roots_of t to true) (with_previous (documents_in known) at d))) o []) asking.there
            ∙ ap (λ l. unknown known (flat_map (roots_of t to true) l)) docs_are

        rooted : Rooted known (unknown known (flat_map (roots_of t to true) (gone_by asking.document asking.look))) at
        rooted = record {
          document = asking.document;
          there = asking.there;
          look = asking.look;
          tells = tells_more start ds past from to t at asking.document (is_asked [] at) (λ k. true) asking.look (λ k h. h) asking.tells;
          found = λ e i. asking.found e i refl;
          roots = λ x i q seen unswept entry. unknown_left known (commit_root_of x q) (flat_map (roots_of t to true) (gone_by asking.document asking.look)) []
              (any_in (is_root t to x q seen unswept) (roots_of t to true) (gone_by asking.document asking.look) x i (among_roots t to x q seen unswept true entry));
          waiting = record { rising = all_rising known (flat_map (roots_of t to true) (gone_by asking.document asking.look)) [] refl; unknown = all_unknown known (flat_map (roots_of t to true) (gone_by asking.document asking.look)) [] refl };
          nodes = in_unknown (λ x. (q : Path) × (x ≡ id.Node q)) known (flat_map (roots_of t to true) (gone_by asking.document asking.look)) []
              (in_flat (λ x. (q : Path) × (x ≡ id.Node q)) (roots_of t to true) (gone_by asking.document asking.look) (λ d i. roots_are t to true (λ x. (q : Path) × (x ≡ id.Node q)) d (λ r. root_by ds (course_from start past) (sees to) (sees t) at asking.document (is_asked [] at) asking.look (asking.tells.reads to (itself_between start past from pin held)) d i r)))
              (λ x h. absurd (false≢true h));
        }

    -- with what is left: the next of it, or all are asked for
    previous_go_on : (at : Path) (known : Known) (said : List Said) (s : Step) (ids : Ids) → Saying known → Asking known ids at → Changed (is_before_node at) said
        → IsGoingOn (option_map_or (λ left. record (reader at known said s) { step = step.Previous left }) (left_of ids) (changes_on_previous (reader at known said s)))
    previous_go_on at known said s [] saying asking changed = previous_read at known said s saying asking changed
    previous_go_on at known said s (e ∷ es) saying asking changed = (asking, saying, changed)

    -- the node's document is there, and alone known
    main_read : (at : Path) (said : List Said) (s : Step) (d : Document) → ds (id.Node at) ≡ Some d → Changed (is_before_node at) said → IsGoingOn (changes_on_main (reader at ((id.Node at, d) ∷ []) said s))
    main_read at said s d here changed =
        subst (λ (ids : Ids). IsGoingOn (option_map_or (λ left. record (reader at known said s) { step = step.Previous left }) (left_of ids) (changes_on_previous (reader at known said s)))) (sym wanted_is)
        (previous_go_on at known said s (unknown known (listed at d)) saying asking changed)
      where
        known : Known
        known = (id.Node at, d) ∷ []

        there : documents_in ((id.Node at, d) ∷ []) (id.Node at) ≡ Some d
        there = ap (λ b. cond b (Some d) None) (own_id (id.Node at))

        none : (k : ℕ) → documents_in ((id.Node at, d) ∷ []) (id.Prev k at) ≡ None
        none k = refl

        wanted_is : previous_wanted ((id.Node at, d) ∷ []) at ≡ unknown ((id.Node at, d) ∷ []) (listed at d)
        wanted_is = ap (λ (o : Option Document). option_map_or (λ d'. unknown ((id.Node at, d) ∷ []) (listed at d')) o []) there

        left_there : (e : PrevEntry) → IsIn e d.prev → is_some (lookup (is_at (id_cmp (id.Prev e.number at))) (unknown ((id.Node at, d) ∷ []) (listed at d))) ≡ true
        left_there e i = by (either (is_some (documents_in ((id.Node at, d) ∷ []) (id.Prev e.number at))) _ (unknown_left ((id.Node at, d) ∷ []) (id.Prev e.number at) (listed at d) [] (any_listed at d.prev e i)))
          where
            by : (is_some (documents_in ((id.Node at, d) ∷ []) (id.Prev e.number at)) ≡ true) ⊎ (is_some (lookup (is_at (id_cmp (id.Prev e.number at))) (unknown ((id.Node at, d) ∷ []) (listed at d))) ≡ true) → is_some (lookup (is_at (id_cmp (id.Prev e.number at))) (unknown ((id.Node at, d) ∷ []) (listed at d))) ≡ true
            by (inl h) = absurd (false≢true (ap is_some (sym (none e.number)) ∙ h))
            by (inr h) = h

        value : (x y : Document) → Some x ≡ Some y → x ≡ y
        value x y h = ap (λ o. unwrap_or o x) h

        saying : Saying ((id.Node at, d) ∷ [])
        saying = record { rising = refl; said = λ q x h r seen unswept has_it. by q x (eq_by_cmp id_cmp (id.Node q) (id.Node at)) refl h r has_it }
          where
            by : (q : Path) (x : Document) (b : Bool) → eq_by_cmp id_cmp (id.Node q) (id.Node at) ≡ b → cond b (Some d) None ≡ Some x → (r : Revision) → has_revision (ds (id.Node q)) r ≡ true → has_revision (Some x) r ≡ true
            by q x true e h r has_it = ap (λ (z : Option Document). has_revision z r) (sym h ∙ (sym here ∙ ap ds (sym (same_id (id.Node q) (id.Node at) e)))) ∙ has_it
            by q x false e h r has_it = absurd (false≢true (ap is_some h))

        asking : Asking ((id.Node at, d) ∷ []) (unknown ((id.Node at, d) ∷ []) (listed at d)) at
        asking = record {
          document = d;
          there = there;
          look = λ k. ds (id.Prev k at);
          tells = tells_more start ds past from to t at d (λ k. false) (is_asked (unknown ((id.Node at, d) ∷ []) (listed at d)) at) (λ k. ds (id.Prev k at)) (λ k h. refl) (tells_copy start ds past done world from pin held at d here);
          found = λ e i asked. some_none _ (left_there e i) asked;
          waiting = record { rising = all_rising ((id.Node at, d) ∷ []) (listed at d) [] refl; unknown = all_unknown ((id.Node at, d) ∷ []) (listed at d) [] refl };
          previous = in_unknown (λ x. (e : PrevEntry) × IsIn e d.prev × (x ≡ id.Prev e.number at)) ((id.Node at, d) ∷ []) (listed at d) [] (in_map (λ x. (e : PrevEntry) × IsIn e d.prev × (x ≡ id.Prev e.number at)) (λ e. id.Prev e.number at) d.prev (λ e i. (e, i, refl))) (λ x h. absurd (false≢true h));
          listed = λ e i. let l = are.listed at d here e i in (l.0, l.1, λ v between. shown_copy ds (course_from start past) (sees v) (sees pin.sweep) at d l.0 (held_pair start past v pin.sweep (between_held start past from pin held v between)) here l.2);
        }

    -- ---- the next document

    -- all are passed: what was told is what the commits change
    all_passed : (at : Path) (known : Known) (said : List Said) (s : Step) → Changed (λ p. true) said → IsGoingOn (changes_ended (reader at known said s))
    all_passed at known said s changed = grouped_is start past from to writing said changed

    no_node_above : (x : DocId) → ((q : Path) → x ≡ id.Node q → ⊥) → (p : Path) → is_lt (id_cmp (id.Node p) x) ≡ true
    no_node_above (id.Node q) other p = absurd (other q refl)
    no_node_above (id.Prev n q) other p = refl
    no_node_above id.Settings other p = refl

    -- where each document of a node is passed, or before a document, the changes so far are those before it
    module _ (at : Path) (known : Known) (said : List Said) (s : Step) (passed : Path → Bool) (changed : Changed passed said) where
      none_left : ((q : Path) → has (id.Node q) table ≡ true → passed q ≡ true) → IsGoingOn (changes_ended (reader at known said s))
      none_left each = all_passed at known said s (record { each = λ z i. ((changed.each z i).0, refl); all = λ z c h. changed.all z c (each z.change.item.path (changed_there z c)) })

      found_next : (e : DocId × Document) → documents_in table e.0 ≡ Some e.1 → ((q : Path) → passed q ≡ true → is_lt (id_cmp (id.Node q) e.0) ≡ true) → ((q : Path) → has (id.Node q) table ≡ true → is_lt (id_cmp (id.Node q) e.0) ≡ true → passed q ≡ true)
          → IsGoingOn (with_document (reader at known said s) e.0 e.1)
      found_next e found before least = by e.0 refl
        where
          by : (x : DocId) → e.0 ≡ x → IsGoingOn (with_document (reader at known said s) x e.1)
          by (id.Node q) same = main_read q said s e.1 (subst (λ (x : DocId). documents_in table x ≡ Some e.1) same found) (record {
            each = λ z i. let c = changed.each z i in (c.0, subst (λ (x : DocId). is_lt (id_cmp (id.Node z.change.item.path) x) ≡ true) same (before z.change.item.path c.1));
            all = λ z c h. changed.all z c (least z.change.item.path (changed_there z c) (subst (λ (x : DocId). is_lt (id_cmp (id.Node z.change.item.path) x) ≡ true) (sym same) h));
          })
          by (id.Prev n q) same = none_left (λ p there. least p there (subst (λ (x : DocId). is_lt (id_cmp (id.Node p) x) ≡ true) (sym same) refl))
          by id.Settings same = none_left (λ p there. least p there (subst (λ (x : DocId). is_lt (id_cmp (id.Node p) x) ≡ true) (sym same) refl))

    id_is : (e : DocId × Document) → documents_in table e.0 ≡ Some e.1 → e.1.id ≡ e.0
    id_is e found = each_found (λ x d. d.id ≡ x) table (recursion_from_All (λ e. e.1.id ≡ e.0) table is.named) e.0 e.1 found

    feed_next : (at : Path) (known : Known) (said : List Said) → Changed (is_up_to_node at) said → IsGoingOn (fed_next (reader at known said step.Next) (option_map (λ e. e.1) (slice_get (behind (id.Node at) table) 0)))
    feed_next at known said changed = by (behind (id.Node at) table) refl
      where
        by : (es : Entries) → behind (id.Node at) table ≡ es → IsGoingOn (fed_next (reader at known said step.Next) (option_map (λ e. e.1) (slice_get es 0)))
        by [] none = none_left at known said step.Next (is_up_to_node at) changed (λ q there. not_behind (id.Node q) (id.Node at) (nothing_behind (id.Node at) table none (id.Node q) there))
        by (e ∷ more) first = subst (λ (x : DocId). IsGoingOn (with_document (reader at known said step.Next) x e.1)) (sym (id_is e next.found))
            (found_next at known said step.Next (is_up_to_node at) changed e next.found
            (λ q passed. up_then (id.Node q) (id.Node at) e.0 passed next.above)
            (λ q there below. least q there below (is_le (id_cmp (id.Node q) (id.Node at))) refl))
          where
            next : IsNext (id.Node at) table e
            next = next_is (id.Node at) table e more is.ordered first

            least : (q : Path) → has (id.Node q) table ≡ true → is_lt (id_cmp (id.Node q) e.0) ≡ true → (b : Bool) → is_le (id_cmp (id.Node q) (id.Node at)) ≡ b → b ≡ true
            least q there below true h = refl
            least q there below false h = absurd (false≢true (sym (next.least (id.Node q) there (not_up (id.Node q) (id.Node at) h)) ∙ below))

    -- the first of all documents
    first_least : (e : DocId × Document) (more : Entries) → table ≡ e ∷ more → (documents_in table e.0 ≡ Some e.1) × ((q : Path) → has (id.Node q) table ≡ true → is_lt (id_cmp (id.Node q) e.0) ≡ true → ⊥)
    first_least e more same = subst (λ (es : Entries). (documents_in es e.0 ≡ Some e.1) × ((q : Path) → has (id.Node q) es ≡ true → is_lt (id_cmp (id.Node q) e.0) ≡ true → ⊥)) (sym same)
        (ap (λ b. cond b (Some e.1) (lookup (is_at (id_cmp e.0)) more)) (own_id e.0), λ q there below. none_below e more (subst (λ (es : Entries). IsStrictlySortedBy id_cmp (keys_of es)) same is.ordered) (id.Node q) there below)

    feed_first : (at : Path) (known : Known) → IsGoingOn (fed_next (reader at known [] step.First) (option_map (λ e. e.1) (slice_get table 0)))
    feed_first at known = by table refl
      where
        nothing : Changed (λ p. false) []
        nothing = record { each = λ s i. absurd i; all = λ s c h. absurd (false≢true h) }

        by : (es : Entries) → table ≡ es → IsGoingOn (fed_next (reader at known [] step.First) (option_map (λ e. e.1) (slice_get es 0)))
        by [] none = none_left at known [] step.First (λ p. false) nothing (λ q there. subst (λ (es : Entries). has (id.Node q) es ≡ true) none there)
        by (e ∷ more) same =
            let f = first_least e more same in
            subst (λ (x : DocId). IsGoingOn (with_document (reader at known [] step.First) x e.1)) (sym (id_is e f.0))
            (found_next at known [] step.First (λ p. false) nothing e f.0 (λ q h. absurd (false≢true h)) (λ q there below. absurd (f.1 q there below)))

    -- ---- a document is noted

    saying_noted : (known : Known) → Saying known → (y : DocId) → Saying (with_known known y (documents_in table y))
    saying_noted known saying y = record { rising = noted_rising known y (documents_in table y) saying.rising; said = λ p d h. at p d (eq_by_cmp id_cmp (id.Node p) y) refl (sym (noted_at known y (documents_in table y) (id.Node p)) ∙ h) }
      where
        Says : Path → Document → Type 0
        Says p d = (q : Revision) → sees to q ≡ true → sees t q ≡ false → has_revision (ds (id.Node p)) q ≡ true → has_revision (Some d) q ≡ true

        newest : (p : Path) (d : Document) (o : Option Document) → documents_in known (id.Node p) ≡ o → option_or o (documents_in table (id.Node p)) ≡ Some d → Says p d
        newest p d (Some c) e k = saying.said p d (e ∙ k)
        newest p d None e k = λ q seen unswept h. ap (λ o. has_revision o q) (sym k) ∙ h

        at : (p : Path) (d : Document) (b : Bool) → eq_by_cmp id_cmp (id.Node p) y ≡ b → cond b (option_or (documents_in known y) (documents_in table y)) (documents_in known (id.Node p)) ≡ Some d → Says p d
        at p d true e k = newest p d (documents_in known (id.Node p)) refl (ap (λ (z : DocId). option_or (documents_in known z) (documents_in table z)) (same_id (id.Node p) y e) ∙ k)
        at p d false e k = saying.said p d k

    first_left : (first : DocId) (rest : Ids) → is_left ((first, tt) ∷ rest) first ≡ true
    first_left first rest = ap (λ b. is_some (cond b (Some tt) (lookup (is_at (id_cmp first)) rest))) (own_id first)

    -- ---- a previous document

    -- the first that is left is read: what is found of it is known, or it is gone
    module _ (known : Known) (at : Path) (first : DocId) (rest : Ids) (asking : Asking known ((first, tt) ∷ rest) at) where
      abbrev asked_entry : (e : PrevEntry) × IsIn e asking.document.prev × (first ≡ id.Prev e.number at)
      asked_entry = asking.previous first (first_left first rest)

      abbrev k : ℕ
      k = (asking.previous first (first_left first rest)).0.number

      abbrev there : Option Document
      there = documents_in table (id.Prev (asking.previous first (first_left first rest)).0.number at)

      former : (f : Former) × (formers at k ≡ Some f) × ((v : RevVec) → IsBetween past from to v → IsShownIn (sees v) f (gone_by asking.document asking.look))
      former = asking.listed asked_entry.0 asked_entry.1

      unasked : is_asked ((first, tt) ∷ rest) at k ≡ false
      unasked = ap (λ b. is_none (cond b (Some tt) (lookup (is_at (id_cmp (id.Prev k at))) rest))) (ap (λ (x : DocId). eq_by_cmp id_cmp x first) (sym asked_entry.2) ∙ own_id first)

      way : (asking.look k ≡ documents_in table (id.Prev k at)) ⊎ (asking.look k ≡ None)
      way = (asking.tells.reads to (itself_between start past from pin held)).follows asked_entry.0 asked_entry.1 unasked

      not_again : is_none (lookup (is_at (id_cmp (id.Prev k at))) rest) ≡ true
      not_again = ap is_none (subst (λ (x : DocId). lookup (is_at (id_cmp x)) rest ≡ None) asked_entry.2 (none_behind first rest (first_part _ _ asking.waiting.rising)))

      -- what is left still wasn't asked for
      still_unasked : (j : ℕ) → is_asked rest at j ≡ false → asked_too (is_asked ((first, tt) ∷ rest) at) k j ≡ false
      still_unasked j h = by (j == k) refl
        where
          either_way : (b : Bool) → is_none (cond b (Some tt) (lookup (is_at (id_cmp (id.Prev j at))) rest)) ≡ false
          either_way true = refl
          either_way false = h

          by : (b : Bool) → (j == k) ≡ b → cond b true (is_asked ((first, tt) ∷ rest) at j) ≡ false
          by true same = absurd (false≢true (sym h ∙ (ap (λ (i : ℕ). is_none (lookup (is_at (id_cmp (id.Prev i at))) rest)) (number_same j k same) ∙ not_again)))
          by false same = either_way (eq_by_cmp id_cmp (id.Prev j at) first)

      found_tells : TellsChanges start ds past from to t at asking.document (is_asked rest at) (look_too asking.look k there)
      found_tells = tells_more start ds past from to t at asking.document (asked_too (is_asked ((first, tt) ∷ rest) at) k) (is_asked rest at) (look_too asking.look k there) still_unasked
          (tells_found start ds past done world from pin held at asking.document (is_asked ((first, tt) ∷ rest) at) asking.look asking.tells k former.0 (are.former at k former.0 former.1) (λ x h. are.copies at k former.0 x former.1 h) former.2 way)

      asking_noted : Asking (with_known known first (documents_in table first)) rest at
      asking_noted = record {
        document = asking.document;
        there = same_known known first (documents_in table first) (id.Node at) asking.document asking.there;
        look = look_too asking.look k there;
        tells = found_tells;
        found = λ e i asked. found e i asked (eq_by_cmp id_cmp (id.Prev e.number at) first) refl;
        waiting = record { rising = second_part _ _ asking.waiting.rising; unknown = still_unknown known first (documents_in table first) rest (first_part _ _ asking.waiting.rising) (second_part _ _ asking.waiting.unknown) };
        previous = λ x h. asking.previous x (later x (eq_by_cmp id_cmp x first) h);
        listed = λ e i. let l = asking.listed e i in (l.0, l.1, λ v between. shown_found (documents_in table) asking.document asking.look (sees v) at l.0 former.0 k (λ x h. are.copies at k former.0 x former.1 h) (former.2 v between) way (l.2 v between));
      }
        where
          later : (x : DocId) (b : Bool) → is_left rest x ≡ true → is_some (cond b (Some tt) (lookup (is_at (id_cmp x)) rest)) ≡ true
          later x true h = refl
          later x false h = h

          unknown_first : documents_in known first ≡ None
          unknown_first = none_is _ (first_part _ _ asking.waiting.unknown)

          number_of_id : DocId → ℕ
          number_of_id (id.Prev j q) = j
          number_of_id i = 0

          itself : (j : ℕ) → (j == j) ≡ true
          itself j = number_itself j

          found : (e : PrevEntry) → IsIn e asking.document.prev → is_asked rest at e.number ≡ true → (b : Bool) → eq_by_cmp id_cmp (id.Prev e.number at) first ≡ b → documents_in (with_known known first (documents_in table first)) (id.Prev e.number at) ≡ look_too asking.look k there e.number
          found e i asked true h =
              let one : e.number ≡ k = ap number_of_id (same_id (id.Prev e.number at) first h ∙ asked_entry.2) in
              noted_at known first (documents_in table first) (id.Prev e.number at)
              ∙ (ap (λ b. cond b (option_or (documents_in known first) (documents_in table first)) (documents_in known (id.Prev e.number at))) h
              ∙ (ap (λ o. option_or o (documents_in table first)) unknown_first
              ∙ (ap (documents_in table) asked_entry.2
              ∙ sym (ap (λ b. cond b there (asking.look e.number)) (ap (λ (j : ℕ). j == k) one ∙ itself k)))))
          found e i asked false h =
              noted_at known first (documents_in table first) (id.Prev e.number at)
              ∙ (ap (λ b. cond b (option_or (documents_in known first) (documents_in table first)) (documents_in known (id.Prev e.number at))) h
              ∙ (asking.found e i (ap (λ b. is_none (cond b (Some tt) (lookup (is_at (id_cmp (id.Prev e.number at))) rest))) h ∙ asked)
              ∙ sym (ap (λ b. cond b there (asking.look e.number)) (other (e.number == k) refl))))
            where
              other : (b : Bool) → (e.number == k) ≡ b → b ≡ false
              other false m = refl
              other true m = absurd (false≢true (sym h ∙ (ap (λ (x : DocId). eq_by_cmp id_cmp x first) (ap (λ (j : ℕ). id.Prev j at) (number_same e.number k m) ∙ sym asked_entry.2) ∙ own_id first)))

    feed_previous : (at : Path) (known : Known) (said : List Said) (left : Left) → Asking known ((left.first, tt) ∷ left.rest) at → Saying known → Changed (is_before_node at) said
        → IsGoingOn (changes_settled (noted (reader at known said (step.Previous left)) left.first (documents_in table left.first)))
    feed_previous at known said left asking saying changed =
        previous_go_on at (with_known known left.first (documents_in table left.first)) said (step.Previous left) left.rest (saying_noted known saying left.first)
        (asking_noted known at left.first left.rest asking) changed

    -- ---- a commit root

    -- the first that is left is read: where it is the root of an entry that `to` sees, it is there
    rooted_noted : (known : Known) (at : Path) (first : DocId) (rest : Ids) → Rooted known ((first, tt) ∷ rest) at → Rooted (with_known known first (documents_in table first)) rest at
    rooted_noted known at first rest rooted = record {
      document = rooted.document;
      there = same_known known first (documents_in table first) (id.Node at) rooted.document rooted.there;
      look = rooted.look;
      tells = rooted.tells;
      found = λ e i. beside known first (documents_in table first) (id.Prev e.number at) (λ h. prev_node e.number at node.0 (h ∙ node.1)) ∙ rooted.found e i;
      roots = λ x i q seen unswept entry. by x i q seen unswept entry (is_some (documents_in known (commit_root_of x q))) refl (eq_by_cmp id_cmp (commit_root_of x q) first) refl (rooted.roots x i q seen unswept entry);
      waiting = record { rising = second_part _ _ rooted.waiting.rising; unknown = still_unknown known first (documents_in table first) rest (first_part _ _ rooted.waiting.rising) (second_part _ _ rooted.waiting.unknown) };
      nodes = λ x h. rooted.nodes x (later x (eq_by_cmp id_cmp x first) h);
    }
      where
        node : (q : Path) × (first ≡ id.Node q)
        node = rooted.nodes first (first_left first rest)

        later : (x : DocId) (b : Bool) → is_left rest x ≡ true → is_some (cond b (Some tt) (lookup (is_at (id_cmp x)) rest)) ≡ true
        later x true h = refl
        later x false h = h

        there_by : (o : Option Document) (q : Revision) → has_revision o q ≡ true → is_some o ≡ true
        there_by None q h = h
        there_by (Some d) q h = refl

        by : (x : Document) → IsIn x (gone_by rooted.document rooted.look) → (q : Revision) → sees to q ≡ true → sees t q ≡ false → HasEntry true x q
            → (b : Bool) → is_some (documents_in known (commit_root_of x q)) ≡ b → (c : Bool) → eq_by_cmp id_cmp (commit_root_of x q) first ≡ c
            → (b || is_some (cond c (Some tt) (lookup (is_at (id_cmp (commit_root_of x q))) rest))) ≡ true
            → is_known_or_left (with_known known first (documents_in table first)) rest (commit_root_of x q) ≡ true
        by x i q seen unswept entry true is_known c is_first h = or_first _ _ (still_known known first (documents_in table first) (commit_root_of x q) is_known)
        by x i q seen unswept entry false is_known true is_first h =
            let same : commit_root_of x q ≡ first = same_id (commit_root_of x q) first is_first in
            or_first _ _ (subst (λ (y : DocId). is_some (documents_in (with_known known y (documents_in table y)) (commit_root_of x q)) ≡ true) same
            (now_known known (commit_root_of x q) (documents_in table (commit_root_of x q))
            (there_by (documents_in table (commit_root_of x q)) q ((rooted.tells.reads to (itself_between start past from pin held)).said x i q seen unswept (from_entry true x q entry)))))
        by x i q seen unswept entry false is_known false is_first h = or_else (is_some (documents_in (with_known known first (documents_in table first)) (commit_root_of x q))) _ h

    feed_roots : (at : Path) (known : Known) (said : List Said) (left : Left) → Rooted known ((left.first, tt) ∷ left.rest) at → Saying known → Changed (is_before_node at) said
        → IsGoingOn (changes_settled (noted (reader at known said (step.Roots left)) left.first (documents_in table left.first)))
    feed_roots at known said left rooted saying changed =
        roots_go_on at (with_known known left.first (documents_in table left.first)) said (step.Roots left) left.rest (saying_noted known saying left.first)
        (rooted_noted known at left.first left.rest rooted) changed

    -- ---- any step

    pub feed_step : (at : Path) (known : Known) (said : List Said) (s : Step) → Stands start ds past formers from to t at known said s → IsGoingOn (fed (reader at known said s) (answer table (due (reader at known said s))))
    feed_step at known said step.First stands = subst (λ (l : List Said). IsGoingOn (fed_next (reader at known l step.First) (option_map (λ e. e.1) (slice_get table 0)))) (sym stands) (feed_first at known)
    feed_step at known said step.Next stands = feed_next at known said stands
    feed_step at known said (step.Previous left) stands = feed_previous at known said left stands.0 stands.1 stands.2
    feed_step at known said (step.Roots left) stands = feed_roots at known said left stands.0 stands.1 stands.2
    feed_step at known said (step.Done o) stands = stands
