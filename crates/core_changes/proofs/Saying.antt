-- What the documents of a node that a reader knows in the end say are just the changes there.
use Rattle.std.proofs.Common.{◌≡◌, inl, inr, ℕ, Bool, true, false, cond, not, ◌||◌, Some, None, Option, List, [], ◌∷◌, map, refl, sym, ap, ◌∙◌, subst, is_some}
use Rattle.std.specs.Prelude.{unwrap_or}
use Rattle.std.specs.Option.{option_map, option_map_or, option_or}
use Rattle.std.specs.List.{filter, flat_map}
use Rattle.std.specs.Map.{keys_of, lookup}
use Rattle.std.specs.BTreeMap.{is_at}
use mathlib.Core.Bool.{false≢true}
use Rattle.jr_path.specs.Names.{name_cmp}
use Rattle.jr_path.proofs.Maps.{name_exact}
use Rattle.basics.proofs.Orders.{equal_of}
use Rattle.jr_path.specs.declared.path.Item.{Item}
use Rattle.jr_path.specs.declared.name.Name.{Name}
use Rattle.jr_path.specs.declared.path.Path.{Path}
use Rattle.jr_path.specs.declared.path.DocId.TheVariants as id
use Rattle.jr_value.specs.declared.value.Property.{Property}
use Rattle.jr_rev.specs.declared.revision.Revision.{Revision}
use Rattle.jr_rev.specs.declared.vector.RevVec.{RevVec}
use Rattle.jr_rev.specs.declared.vector.Pin.{Pin}
use Rattle.jr_rev.specs.Vectors.{sees}
use Rattle.jr_tree.specs.declared.edit.Write.{Write}
use Rattle.jr_tree.specs.Items.{here_of, put_of, written}
use Rattle.jr_tree.specs.Trees.{born_at, node_at, Nodes, property_at}
use Rattle.oak_changes.specs.declared.said.Said.{Said}
use Rattle.oak_changes.specs.Saying.{document_said, item_said, node_said, path_said, property_said, said_of, States, states_of, is_there, was_there}
use Rattle.oak_doc.specs.declared.document.Document.{Document}
use Rattle.oak_doc.specs.Updates.{of_revision, Props, values_of_property}
use Rattle.oak_machine.specs.Changed.{tree_below}
use Rattle.oak_machine.specs.History.{Past}
use Rattle.oak_read.specs.Meaning.{Documents}
use Rattle.oak_read.specs.Shown.{with_previous}
use Rattle.core_keep.proofs.AtPath.{same_listed, value_from}
use Rattle.core_keep.proofs.Found.{found_append}
use Rattle.core_keep.proofs.Item.{and_both, some_of}
use Rattle.core_begun.proofs.Sound.{found as edit_is}
use Rattle.core_keep.proofs.Readers.{all_count}
use Rattle.core_keep.specs.From.{course_from}
use Rattle.core_keep.specs.Journal.{Separate}
use Rattle.core_begun.specs.Kept.{IsKeptSince}
use Rattle.core_keep.specs.Keeps.{is_done, Shows}
use Rattle.core_keep.specs.Readers.{gone_by, Knows, Reads}
use Rattle.core_keep.specs.Standing.{gone_in, gone_of, HasEntryOf, shows_node, shows_value, values_in}
use Rattle.core_begun.specs.Told.{edit_since}
use Rattle.core_read.specs.Told.{IsIn}
use Rattle.core_begun.specs.Told.{IsToldSince}
use Rattle.core_read.specs.World.{Progress}
use Rattle.core_changes.proofs.Below.{sees_below, shows_below}
use Rattle.core_changes.proofs.Item.{after_is, before_is, state, state_written, written_state}
use Rattle.core_changes.proofs.Members.{from_both, from_filter, from_flat, from_map, in_back, in_filter, in_flat, in_front, in_map}
use Rattle.core_changes.proofs.Telling.{itself_between}
use Rattle.core_changes.specs.Between.{change_of, is_new, IsChange}
use Rattle.core_changes.specs.Instants.{AreHeld}
use Rattle.core_changes.specs.Observing.{TellsChanges}
use Rattle.oak_machine.specs.declared.event.Start.{Start}

-- ---- writes

not_twice : (b : Bool) → not (not b) ≡ b
not_twice true = refl
not_twice false = refl

pub written_gone : (p : Path) (ws : List Write) → written (gone_of p) ws ≡ option_map not (written (here_of p) ws)
written_gone p [] = refl
written_gone p (w ∷ ws) = ap (λ o. option_or o (option_map not (here_of p w))) (written_gone p ws) ∙ by (written (here_of p) ws)
  where
    by : (o : Option Bool) → option_or (option_map not o) (option_map not (here_of p w)) ≡ option_map not (option_or o (here_of p w))
    by None = refl
    by (Some b) = refl

some_map : {X Y : Type 0} (f : X → Y) (o : Option X) → is_some (option_map f o) ≡ is_some o
some_map f None = refl
some_map f (Some x) = refl

node_apart : (p : Path) (ws us : List Write) → Separate ws us → is_some (written (gone_of p) ws) ≡ true → written (gone_of p) us ≡ None
node_apart p ws us sep h = written_gone p us ∙ ap (option_map not) (sep.node p (sym (some_map not (written (here_of p) ws)) ∙ (sym (ap is_some (written_gone p ws)) ∙ h)))

prop_apart : (p : Path) (n : Name) (ws us : List Write) → Separate ws us → is_some (written (put_of p n) ws) ≡ true → written (put_of p n) us ≡ None
prop_apart p n ws us sep h = sep.prop p n h

node_shows : (e : Revision × Bool) → is_some (shows_node e) ≡ not e.1
node_shows (r, true) = refl
node_shows (r, false) = refl

-- ---- which document has an entry

gone_from : (all : List Document) (q : Revision) → is_some (of_revision (gone_in all) q) ≡ true → (x : Document) × IsIn x all × (is_some (of_revision x.deleted q) ≡ true)
gone_from [] q h = absurd (false≢true h)
gone_from (d ∷ all) q h = by (of_revision d.deleted q) refl (sym (ap is_some (found_append d.deleted (gone_in all) q)) ∙ h) (λ k. gone_from all q k)
  where
    by : (o : Option Bool) → of_revision d.deleted q ≡ o → is_some (option_or o (of_revision (gone_in all) q)) ≡ true → (is_some (of_revision (gone_in all) q) ≡ true → (x : Document) × IsIn x all × (is_some (of_revision x.deleted q) ≡ true)) → (x : Document) × IsIn x (d ∷ all) × (is_some (of_revision x.deleted q) ≡ true)
    by (Some b) k h rest = (d, inl refl, ap is_some k)
    by None k h rest = let r = rest h in (r.0, inr r.1, r.2)

-- a property that has an entry has a name in its document
named_there : (ps : Props) (n : Name) (q : Revision) → is_some (of_revision (values_of_property ps n) q) ≡ true → IsIn n (keys_of ps)
named_there [] n q h = absurd (false≢true h)
named_there (p ∷ ps) n q h = by (is_at (name_cmp n) p.0) refl h (λ k. named_there ps n q k)
  where
    by : (b : Bool) → is_at (name_cmp n) p.0 ≡ b → is_some (of_revision (unwrap_or (cond b (Some p.1) (lookup (is_at (name_cmp n)) ps)) []) q) ≡ true → (is_some (of_revision (values_of_property ps n) q) ≡ true → IsIn n (keys_of ps)) → IsIn n (keys_of (p ∷ ps))
    by true k h rest = inl (sym (name_exact n p.0 (equal_of (name_cmp n p.0) k)))
    by false k h rest = inr (rest h)

same_some : {X : Type 0} (x y : X) → Some x ≡ Some y → x ≡ y
same_some x y h = ap (λ o. unwrap_or o x) h

module _ (start : Start) where
  module _ (ds : Documents) (past : Past) (done : Progress) (world : IsKeptSince start ds past done) (from : RevVec) (pin : Pin) (held : AreHeld start past from pin) (p : Path) (document : Document) (look : ℕ → Option Document)
      (tells : TellsChanges start ds past from pin.base pin.sweep p document (λ k. true) look) (known : Documents) (knows : Knows known (sees pin.base) (sees pin.sweep) p document look) where
    abbrev to : RevVec
    to = pin.base

    abbrev told : IsToldSince start past
    told = world.told

    abbrev all : List Document
    all = gone_by document look

    reads : Reads ds (course_from start past) (sees to) (sees pin.sweep) p document (λ k. true) look
    reads = tells.reads to (itself_between start past from pin held)

    all_is : with_previous known p document ≡ all
    all_is = ap (λ l. document ∷ l) (same_listed (λ e. known (id.Prev e.number p)) (λ e. look e.number) document.prev (λ e i. knows.previous e i))

    -- an entry that `to` sees is done
    entry_done : (x : Document) → IsIn x all → (q : Revision) → sees to q ≡ true → HasEntryOf q x → is_done (course_from start past) q ≡ true
    entry_done x i q seen entry = reads.done x i q seen entry

    -- ---- the node

    abbrev gone : List (Revision × Bool)
    gone = gone_in all

    gone_done : (q : Revision) → sees to q ≡ true → is_some (of_revision gone q) ≡ true → is_done (course_from start past) q ≡ true
    gone_done q seen h = let f = gone_from all q h in entry_done f.0 f.1 q seen (inl f.2)

    abbrev node_item : Item
    node_item = record { path = p; name = None }

    abbrev node_states : States
    node_states = states_of known pin.sweep to (λ d. d.deleted) not all

    node_states_are : node_states ≡ map (state not) (filter (λ e. sees to e.0) gone)
    node_states_are = ap (map (state not)) (all_count ds (course_from start past) to pin.sweep p document (λ k. true) look reads known knows (λ d. d.deleted) (λ x r h. inl h) all (λ x i. i))

    -- ---- a property of it

    abbrev property_item : Name → Item
    property_item n = record { path = p; name = Some n }

    abbrev property_states : Name → States
    property_states n = states_of known pin.sweep to (λ d. values_of_property d.props n) is_some all

    property_states_are : (n : Name) → property_states n ≡ map (state is_some) (filter (λ e. sees to e.0) (values_in n all))
    property_states_are n = ap (map (state is_some)) (all_count ds (course_from start past) to pin.sweep p document (λ k. true) look reads known knows (λ d. values_of_property d.props n) (λ x r h. inr (n, h)) all (λ x i. i))

    prop_done : (n : Name) (q : Revision) → sees to q ≡ true → is_some (of_revision (values_in n all) q) ≡ true → is_done (course_from start past) q ≡ true
    prop_done n q seen h =
        let w = some_of (of_revision (values_in n all) q) h in
        let f = value_from n all q w.0 w.1 in
        entry_done f.0 f.1 q seen (inr (n, ap is_some f.2))

    -- what an edit writes of the node, by what it writes of `_deleted`
    wrote_here : (ws : List Write) (x : Bool) → written (gone_of p) ws ≡ Some x → written (here_of p) ws ≡ Some (not x)
    wrote_here ws x h = by (written (here_of p) ws) (sym (written_gone p ws) ∙ h)
      where
        by : (o : Option Bool) → option_map not o ≡ Some x → o ≡ Some (not x)
        by None h = absurd (false≢true (ap is_some h))
        by (Some b) h = ap Some (sym (not_twice b) ∙ ap not (same_some (not b) x h))

    module _ (r : Revision) (ws : List Write) (is : edit_since past r ≡ Some ws) (new : is_new from to r ≡ true) where
      abbrev tree : Nodes
      tree = tree_below (Some start) past to r

      shows : Shows (course_from start past) (sees_below to r) tree
      shows = shows_below start world.first past told to held.to.base r

      -- a new commit that writes the node
      module _ (x : Bool) (writes : written (gone_of p) ws ≡ Some x) where
        abbrev listed_states : States
        listed_states = map (state not) (filter (λ e. sees to e.0) gone)

        node_before : is_some (node_at tree p) ≡ was_there from r listed_states
        node_before = shows.dated p ∙ (ap is_some (shows.node p) ∙ sym (before_is start (gone_of p) (node_apart p) shows_node not node_shows past told world.separate from to held.used held.to.base held.below (born_at start.tree p) gone tells.node gone_done (λ v between. (tells.reads v between).node) r ws x is new writes))

        node_after : not x ≡ is_there r listed_states
        node_after = sym (after_is start (gone_of p) (node_apart p) shows_node not node_shows past told world.separate from to held.used held.to.base held.below (born_at start.tree p) gone tells.node gone_done (λ v between. (tells.reads v between).node) r ws x is new writes)

        pub node_change : (IsIn r (keys_of node_states)) × (change_of tree ws node_item ≡ Some (said_of from node_item node_states r).change)
        node_change = subst (λ (l : States). (IsIn r (keys_of l)) × (change_of tree ws node_item ≡ Some (said_of from node_item l r).change)) (sym node_states_are) (
          written_state start (gone_of p) (node_apart p) shows_node not node_shows past told world.separate from to held.used held.to.base held.below (born_at start.tree p) gone tells.node gone_done (λ v between. (tells.reads v between).node) r ws x is new writes,
          ap (option_map (λ there. record { item = node_item; before = is_some (node_at tree p); after = there })) (wrote_here ws x writes) ∙ (λ i. Some (record { item = node_item; before = node_before i; after = node_after i })),
        )

      -- a new commit that writes a property of it
      module _ (n : Name) (x : Option Property) (writes : written (put_of p n) ws ≡ Some x) where
        abbrev values : List (Revision × Option Property)
        values = values_in n all

        abbrev value_states : States
        value_states = map (state is_some) (filter (λ e. sees to e.0) values)

        prop_before : is_some (property_at tree p n) ≡ was_there from r value_states
        prop_before = ap is_some (shows.prop p n) ∙ sym (before_is start (put_of p n) (prop_apart p n) shows_value is_some (λ e. refl) past told world.separate from to held.used held.to.base held.below (property_at start.tree p n) values (tells.prop n) (prop_done n) (λ v between. (tells.reads v between).prop n) r ws x is new writes)

        prop_after : is_some x ≡ is_there r value_states
        prop_after = sym (after_is start (put_of p n) (prop_apart p n) shows_value is_some (λ e. refl) past told world.separate from to held.used held.to.base held.below (property_at start.tree p n) values (tells.prop n) (prop_done n) (λ v between. (tells.reads v between).prop n) r ws x is new writes)

        pub prop_change : (IsIn r (keys_of (property_states n))) × (change_of tree ws (property_item n) ≡ Some (said_of from (property_item n) (property_states n) r).change)
        prop_change = subst (λ (l : States). (IsIn r (keys_of l)) × (change_of tree ws (property_item n) ≡ Some (said_of from (property_item n) l r).change)) (sym (property_states_are n)) (
          written_state start (put_of p n) (prop_apart p n) shows_value is_some (λ e. refl) past told world.separate from to held.used held.to.base held.below (property_at start.tree p n) values (tells.prop n) (prop_done n) (λ v between. (tells.reads v between).prop n) r ws x is new writes,
          ap (option_map (λ x. record { item = property_item n; before = is_some (property_at tree p n); after = is_some x })) writes ∙ (λ i. Some (record { item = property_item n; before = prop_before i; after = prop_after i })),
        )

    -- ---- what is said of the node

    -- a change that is said of an item is one, where each new revision of the item's states is a commit that changes it
    each_item : (item : Item) (l : States) → ((r : Revision) → IsIn r (keys_of l) → not (sees from r) ≡ true → (ws : List Write) × (edit_since past r ≡ Some ws) × (is_new from to r ≡ true) × (change_of (tree_below (Some start) past to r) ws item ≡ Some (said_of from item l r).change))
        → (s : Said) → IsIn s (item_said from item l) → IsChange start past from to s × (s.change.item ≡ item)
    each_item item l each s i =
        let m = from_map (said_of from item l) (filter (λ r. not (sees from r)) (keys_of l)) s i in
        let k = from_filter (λ r. not (sees from r)) (keys_of l) m.0 m.1 in
        let c = each m.0 k.0 k.1 in
        subst (λ (z : Said). IsChange start past from to z × (z.change.item ≡ item)) m.2 (record { edit = c.0; is_edit = c.1; new = c.2; change = c.3 }, refl)

    -- and each such change is said
    all_item : (item : Item) (l : States) (s : Said) → s.change.item ≡ item → (ws : List Write) → is_new from to s.revision ≡ true → IsIn s.revision (keys_of l) → change_of (tree_below (Some start) past to s.revision) ws item ≡ Some (said_of from item l s.revision).change
        → change_of (tree_below (Some start) past to s.revision) ws s.change.item ≡ Some s.change → IsIn s (item_said from item l)
    all_item item l s is ws new there change its =
        let same : (said_of from item l s.revision).change ≡ s.change = same_some _ _ (sym change ∙ (ap (change_of (tree_below (Some start) past to s.revision) ws) (sym is) ∙ its)) in
        subst (λ (z : Said). IsIn z (item_said from item l)) (λ i. record { revision = s.revision; change = same i })
        (in_map (said_of from item l) (filter (λ r. not (sees from r)) (keys_of l)) s.revision (in_filter (λ r. not (sees from r)) (keys_of l) s.revision there (and_both (sees to s.revision) (not (sees from s.revision)) new).1))

    node_each : (r : Revision) → IsIn r (keys_of node_states) → not (sees from r) ≡ true → (ws : List Write) × (edit_since past r ≡ Some ws) × (is_new from to r ≡ true) × (change_of (tree_below (Some start) past to r) ws node_item ≡ Some (said_of from node_item node_states r).change)
    node_each r i out =
        let w = state_written start (gone_of p) (node_apart p) shows_node not node_shows past told world.separate from to held.used held.to.base held.below (born_at start.tree p) gone tells.node gone_done (λ v between. (tells.reads v between).node) r (subst (λ (l : States). IsIn r (keys_of l)) node_states_are i) out in
        (w.0, w.2, w.3, (node_change r w.0 w.2 w.3 w.1 w.4).1)

    prop_each : (n : Name) (r : Revision) → IsIn r (keys_of (property_states n)) → not (sees from r) ≡ true → (ws : List Write) × (edit_since past r ≡ Some ws) × (is_new from to r ≡ true) × (change_of (tree_below (Some start) past to r) ws (property_item n) ≡ Some (said_of from (property_item n) (property_states n) r).change)
    prop_each n r i out =
        let w = state_written start (put_of p n) (prop_apart p n) shows_value is_some (λ e. refl) past told world.separate from to held.used held.to.base held.below (property_at start.tree p n) (values_in n all) (tells.prop n) (prop_done n) (λ v between. (tells.reads v between).prop n) r (subst (λ (l : States). IsIn r (keys_of l)) (property_states_are n) i) out in
        (w.0, w.2, w.3, (prop_change r w.0 w.2 w.3 n w.1 w.4).1)

    abbrev names : List Name
    names = flat_map (λ d. keys_of d.props) all

    -- the documents of the node say just the changes of it and of its properties
    pub said_each : (s : Said) → IsIn s (path_said known pin.sweep from to p all) → IsChange start past from to s × (s.change.item.path ≡ p)
    said_each s i = elim (from_both (node_said known pin.sweep from to p all) (flat_map (property_said known pin.sweep from to p all) names) s i) [
      | inl j ↦ let c = each_item node_item node_states node_each s j in (c.0, ap (λ (z : Item). z.path) c.1)
      | inr j ↦ let f = from_flat (property_said known pin.sweep from to p all) names s j in let c = each_item (property_item f.0) (property_states f.0) (prop_each f.0) s f.2 in (c.0, ap (λ (z : Item). z.path) c.1)
    ]

    pub said_all : (s : Said) → IsChange start past from to s → s.change.item.path ≡ p → IsIn s (path_said known pin.sweep from to p all)
    said_all s c at = by s.change.item.name refl
      where
        item_is : (o : Option Name) → s.change.item.name ≡ o → s.change.item ≡ record { path = p; name = o }
        item_is o h = λ i. record { path = at i; name = h i }

        its : (o : Option Name) → s.change.item.name ≡ o → change_of (tree_below (Some start) past to s.revision) c.edit (record { path = p; name = o }) ≡ Some s.change
        its o h = ap (change_of (tree_below (Some start) past to s.revision) c.edit) (sym (item_is o h)) ∙ c.change

        by : (o : Option Name) → s.change.item.name ≡ o → IsIn s (path_said known pin.sweep from to p all)
        by None h = in_front (node_said known pin.sweep from to p all) _ s (one (written (here_of p) c.edit) refl (its None h))
          where
            one : (o : Option Bool) → written (here_of p) c.edit ≡ o → option_map (λ there. record { item = node_item; before = is_some (node_at (tree_below (Some start) past to s.revision) p); after = there }) o ≡ Some s.change → IsIn s (node_said known pin.sweep from to p all)
            one None e k = absurd (false≢true (ap is_some k))
            one (Some b) e k =
                let n = node_change s.revision c.edit c.is_edit c.new (not b) (written_gone p c.edit ∙ ap (option_map not) e) in
                all_item node_item node_states s (item_is None h) c.edit c.new n.0 n.1 c.change
        by (Some n) h = in_back (node_said known pin.sweep from to p all) (flat_map (property_said known pin.sweep from to p all) names) s (one (written (put_of p n) c.edit) refl (its (Some n) h))
          where
            one : (o : Option (Option Property)) → written (put_of p n) c.edit ≡ o → option_map (λ x. record { item = property_item n; before = is_some (property_at (tree_below (Some start) past to s.revision) p n); after = is_some x }) o ≡ Some s.change → IsIn s (flat_map (property_said known pin.sweep from to p all) names)
            one None e k = absurd (false≢true (ap is_some k))
            one (Some x) e k =
                let m = prop_change s.revision c.edit c.is_edit c.new n x e in
                let f = value_from n all s.revision x (tells.prop n s.revision c.edit c.is_edit c.new ∙ e) in
                in_flat (property_said known pin.sweep from to p all) names n s
                (in_flat (λ d. keys_of d.props) all f.0 n f.1 (named_there (f.0).props n s.revision (ap is_some f.2)))
                (all_item (property_item n) (property_states n) s (item_is (Some n) h) c.edit c.new m.0 m.1 c.change)

    -- so it is with what the reader is told
    pub document_is : known (id.Node p) ≡ Some document → document_said known pin.sweep from to (id.Node p) ≡ path_said known pin.sweep from to p all
    document_is main = ap (λ o. option_map_or (λ d. path_said known pin.sweep from to p (with_previous known p d)) o []) main ∙ ap (path_said known pin.sweep from to p) all_is
