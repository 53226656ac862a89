-- A reader that reads the tree at its base reads it after the documents' answer, too, where previous documents are listed and garbage goes.
use Rattle.std.proofs.Common.{◌≡◌, ◌-◌, ◌<◌, length, get_or, suc, arith, Bool, true, false, cond, ◌&&◌, ◌||◌, Some, None, Option, List, [], ◌∷◌, ◌++◌, refl, sym, ap, ◌∙◌, subst, is_some}
use Rattle.std.specs.Prelude.{◌==◌, All, codes, is_none, map, option_to_list, slice_get}
use Rattle.std.specs.Option.{option_map, option_map_or, option_or}
use Rattle.std.specs.declared.cmp.Ordering.{Ordering}
use Rattle.std.specs.declared.cmp.Ordering.TheVariants.{Less, Equal, Greater}
use Rattle.std.specs.declared.alloc.Global.{Global}
use Rattle.std.specs.Ordering.{eq_by_cmp, is_eq, is_lt, is_le, ordering_reverse}
use Rattle.std.specs.FinMap.{is_sorted}
use Rattle.std.specs.FinMap.Entries.{below_all}
use Rattle.std.specs.List.{AllByRecursion}
use Rattle.std.specs.Map.{lookup}
use Rattle.std.specs.BTreeMap.{is_at}
use Rattle.std.proofs.lemmas.List.Elements.{recursion_from_All}
use Rattle.std.proofs.lemmas.Option.{slice_get-get_or}
use mathlib.Core.Bool.{false≢true}
use Rattle.jr_path.specs.Grammar.{IsName}
use Rattle.jr_path.specs.Ids.{id_cmp}
use Rattle.jr_path.specs.Names.{name_cmp, path_cmp, last_name}
use Rattle.jr_path.specs.declared.name.Name.{Name}
use Rattle.jr_path.specs.declared.path.Path.{Path}
use Rattle.jr_path.specs.declared.path.DocId.{DocId}
use Rattle.jr_path.specs.declared.path.DocId.TheVariants as id
use Rattle.jr_path.proofs.Orders.{id_total, id_exact}
use Rattle.jr_path.proofs.Pieces.{AllNoSlash, all_no_slash, names_from_all}
use Rattle.jr_rev.specs.declared.vector.Pin.{Pin}
use Rattle.jr_rev.specs.declared.vector.RevVec.{RevVec}
use Rattle.jr_rev.specs.declared.revision.Revision.{Revision}
use Rattle.jr_rev.specs.Vectors.{sees}
use Rattle.jr_rev.proofs.Entries.{number_same}
use Rattle.jr_tree.specs.Trees.{Nodes, born_of, born_at, node_at, is_child_of}
use Rattle.oak_doc.specs.declared.document.Document.{Document}
use Rattle.oak_read.specs.Meaning.{Documents, documents_in, path_of, commit_root_of, child_found, found_node}
use Rattle.oak_read.specs.Wanted.{Known, Ids, unknown, listed, previous_wanted, roots_wanted, left_of}
use Rattle.oak_read.specs.Reading.{IsTable, answer, child_path_in, due, ended, fed, fed_main, fed_next, noted, on_main, on_previous, on_roots, settled, with_known}
use Rattle.oak_read.specs.declared.wanted.Left.{Left}
use Rattle.oak_read.specs.declared.reader.Reader.{Reader}
use Rattle.oak_read.specs.declared.reader.Step.{Step}
use Rattle.oak_read.specs.declared.reader.Step.TheVariants as step
use Rattle.oak_read.proofs.Agreeing.{none_found}
use Rattle.oak_read.proofs.Below.{child_path, own_child, own_name}
use Rattle.oak_read.proofs.Ranges.{child_between, none_before}
use Rattle.oak_read.proofs.Walking.{same_id}
use Rattle.oak_machine.specs.History.{Past}
use Rattle.oak_machine.specs.Commits.{tree_at}
use Rattle.core_read.specs.Holds.{has_revision}
use Rattle.core_read.proofs.Entries.{first as first_part, is_less, second as second_part}
use Rattle.std.proofs.Common.{◌⊎◌, inl, inr, ℕ, fold}
use Rattle.std.specs.Map.{keys_of}
use Rattle.std.specs.List.{flat_map, list_any}
use Rattle.std.specs.BTreeMap.{insert_entry}
use Rattle.jr_path.proofs.Maps.{lookup-insert_entry}
use Rattle.oak_doc.specs.declared.document.PrevEntry.{PrevEntry}
use Rattle.oak_doc.specs.Updates.{of_revision}
use Rattle.oak_read.specs.Shown.{with_previous}
use Rattle.oak_read.specs.Wanted.{asked_roots, property_roots, roots_of, with_unknown}
use Rattle.core_read.specs.Told.{IsIn}
use Rattle.core_read.specs.World.{Progress}
use Rattle.core_keep.specs.From.{course_from}
use Rattle.core_begun.specs.Kept.{IsHeldSince, IsKeptSince}
use Rattle.core_begun.specs.Told.{IsToldSince}
use Rattle.core_keep.specs.Keeps.{Course}
use Rattle.core_keep.specs.Standing.{HasEntryOf}
use Rattle.core_keep.specs.Readers.{gone_by}
use Rattle.core_keep.proofs.AtPath.{same_listed}
use Rattle.core_keep.specs.Formers.{AreFormers, Former, Formers, IsShownIn}
use Rattle.core_keep.specs.Keeps.{IsHeldPair}
use Rattle.core_keep.specs.Readers.{asked_too, look_too}
use Rattle.core_begun.proofs.Collecting.{held_pair, known_tree, world_copy}
use Rattle.core_keep.proofs.Formers.{reads_found, shown_copy, shown_found}
use Rattle.core_keep.proofs.Going.{itself as number_itself}
use Rattle.core_begun.proofs.Course.{reading_since, shows_at, tells_since}
use Rattle.core_begun.proofs.Told.{tree_since}
use Rattle.oak_machine.specs.declared.event.Start.{Start}
use Rattle.core_keep.proofs.Readers.{known_there, known_born, reads_more, root_by}
use Rattle.core_watch.specs.Standing.{HasEntry, is_known_or_left, Child, children_to, dated, HasNames, HasBegun, IsOnWay}
use Rattle.core_watch.specs.Reading.{IsCopy, AreCopies, is_left, is_asked, IsAsking, AreRootsAsked, IsUnknownBehind, Stands, ReadsTree}
use Rattle.core_watch.proofs.Left.{all_rising, all_unknown, among_roots, any_back, any_front, either, is_root, unknown_left, noted_at, noted_rising, still_known, still_unknown, same_known, now_known}
use Rattle.core_watch.proofs.Children.{child_order, dated_are, dated_more, one_more_child, no_children, all_children, same_children}
use Rattle.core_watch.proofs.Behind.{Entries, behind, has, each_found, IsNext, next_is, nothing_behind}

pub from_some : {X : Type 0} (o : Option X) → is_some o ≡ true → (x : X) × (o ≡ Some x)
from_some None h = absurd (false≢true h)
from_some (Some x) h = (x, refl)

pub is_some_map : {X Y : Type 0} (f : X → Y) (o : Option X) → is_some (option_map f o) ≡ is_some o
is_some_map f None = refl
is_some_map f (Some x) = refl

-- the path of a child ends in its name
child_name : (p q : Path) → is_child_of p q ≡ true → (m : Name) × (q ≡ p ++ m ∷ [])
child_name p [] h = absurd (false≢true h)
child_name p (n ∷ ns) h =
    let long : length (n ∷ ns) ≡ suc (length ns) = refl in
    let within : length (n ∷ ns) - 1 < length (n ∷ ns) = omega (arith, long) in
    (get_or (n ∷ ns) (length (n ∷ ns) - 1) n, child_path p (n ∷ ns) (get_or (n ∷ ns) (length (n ∷ ns) - 1) n) h (slice_get-get_or (n ∷ ns) (length (n ∷ ns) - 1) n within))

front_no_slash : (p q : Path) → AllNoSlash (p ++ q) → AllNoSlash p
front_no_slash [] q h = tt
front_no_slash (n ∷ p) q h = (h.0, front_no_slash p q h.1)

last_named : (p : Path) (n : Name) → All IsName (p ++ n ∷ []) → IsName n
last_named p n all = by p (names_from_all (p ++ n ∷ []) all)
  where
    by : (p : Path) → AllByRecursion IsName (p ++ n ∷ []) → IsName n
    by [] h = h.0
    by (m ∷ p) h = by p h.1

-- ---- orders of ids

-- not behind: before, or the same
pub not_behind : (x y : DocId) → is_lt (id_cmp y x) ≡ false → is_le (id_cmp x y) ≡ true
not_behind x y h = by (id_cmp x y) (ap is_lt (sym (id_total.antisymm y x)) ∙ h)
  where
    by : (o : Ordering) → is_lt (ordering_reverse o) ≡ false → is_le o ≡ true
    by Less k = refl
    by Equal k = refl
    by Greater k = absurd (false≢true (sym k))

pub or_first : (a b : Bool) → a ≡ true → (a || b) ≡ true
or_first true b h = refl
or_first false b h = absurd (false≢true h)

pub or_else : (a b : Bool) → b ≡ true → (a || b) ≡ true
or_else true b h = refl
or_else false b h = h

pub or_false : (a : Bool) → (a || false) ≡ true → a ≡ true
or_false true h = refl
or_false false h = h

pub some_none : {X A : Type 0} (o : Option X) → is_some o ≡ true → is_none o ≡ true → A
some_none None h k = absurd (false≢true h)
some_none (Some x) h k = absurd (false≢true k)

pub none_is : {X : Type 0} (o : Option X) → is_none o ≡ true → o ≡ None
none_is None h = refl
none_is (Some x) h = absurd (false≢true h)

-- ---- entries

pub to_entry : (x : Document) (r : Revision) → HasEntryOf r x → HasEntry true x r
to_entry x r (inl h) = inl (is_some_map Rattle.std.proofs.Common.not (of_revision x.deleted r) ∙ h)
to_entry x r (inr h) = inr (h.0, refl, h.1)

pub from_entry : (whole : Bool) (x : Document) (r : Revision) → HasEntry whole x r → HasEntryOf r x
from_entry whole x r (inl h) = inl (sym (is_some_map Rattle.std.proofs.Common.not (of_revision x.deleted r)) ∙ h)
from_entry whole x r (inr h) = inr (h.0, h.2)

gone_entry : (x : Document) (r : Revision) → is_some (of_revision x.deleted r) ≡ true → HasEntry false x r
gone_entry x r h = inl (is_some_map Rattle.std.proofs.Common.not (of_revision x.deleted r) ∙ h)

-- ---- which ids are left

-- each id that is left is one of those asked for, or was left before
pub in_unknown : (P : DocId → Type 0) (known : Known) (xs : List DocId) (ids : Ids) → ((x : DocId) → IsIn x xs → P x) → ((x : DocId) → is_left ids x ≡ true → P x) → (x : DocId) → is_left (fold (with_unknown known) ids xs) x ≡ true → P x
in_unknown P known [] ids each before x h = before x h
in_unknown P known (y ∷ xs) ids each before x h = in_unknown P known xs (with_unknown known ids y) (λ z i. each z (inr i)) (λ z. one z (is_some (lookup (is_at (id_cmp y)) known))) x h
  where
    one : (z : DocId) (b : Bool) → is_left (cond b ids (insert_entry id_cmp ids y tt)) z ≡ true → P z
    one z true k = before z k
    one z false k = by (eq_by_cmp id_cmp z y) refl (sym (ap is_some (lookup-insert_entry id_cmp id_total z y tt ids)) ∙ k)
      where
        by : (b : Bool) → eq_by_cmp id_cmp z y ≡ b → is_some (cond b (Some tt) (lookup (is_at (id_cmp z)) ids)) ≡ true → P z
        by true e l = subst P (sym (same_id z y e)) (each y (inl refl))
        by false e l = before z l

pub in_map : {X Y : Type 0} (P : Y → Type 0) (f : X → Y) (xs : List X) → ((x : X) → IsIn x xs → P (f x)) → (y : Y) → IsIn y (map f xs) → P y
in_map P f [] each y i = absurd i
in_map P f (x ∷ xs) each y (inl e) = subst P e (each x (inl refl))
in_map P f (x ∷ xs) each y (inr i) = in_map P f xs (λ z j. each z (inr j)) y i

pub in_append : {X : Type 0} (P : X → Type 0) (xs ys : List X) → ((x : X) → IsIn x xs → P x) → ((x : X) → IsIn x ys → P x) → (x : X) → IsIn x (xs ++ ys) → P x
in_append P [] ys f g x i = g x i
in_append P (y ∷ xs) ys f g x (inl e) = f x (inl e)
in_append P (y ∷ xs) ys f g x (inr i) = in_append P xs ys (λ z j. f z (inr j)) g x i

pub in_flat : {X Y : Type 0} (P : Y → Type 0) (f : X → List Y) (xs : List X) → ((x : X) → IsIn x xs → (y : Y) → IsIn y (f x) → P y) → (y : Y) → IsIn y (flat_map f xs) → P y
in_flat P f [] each y i = absurd i
in_flat P f (x ∷ xs) each y i = in_append P (f x) (flat_map f xs) (each x (inl refl)) (in_flat P f xs (λ z j. each z (inr j))) y i

-- each commit root that is wanted is one of a revision
pub roots_are : (t v : RevVec) (whole : Bool) (P : DocId → Type 0) (d : Document) → ((r : Revision) → P (commit_root_of d r)) → (x : DocId) → IsIn x (roots_of t v whole d) → P x
roots_are t v whole P d each = in_append P (asked_roots t v d (keys_of d.deleted)) (cond whole (property_roots t v d d.props) []) (in_map P (commit_root_of d) _ (λ r i. each r)) (by whole)
  where
    by : (b : Bool) → (x : DocId) → IsIn x (cond b (property_roots t v d d.props) []) → P x
    by true = in_flat P (λ p. asked_roots t v d (keys_of p.1)) d.props (λ p i. in_map P (commit_root_of d) _ (λ r j. each r))
    by false = λ x i. absurd i

pub any_in : (f : DocId → Bool) (g : Document → List DocId) (xs : List Document) (x : Document) → IsIn x xs → list_any f (g x) ≡ true → list_any f (flat_map g xs) ≡ true
any_in f g [] x i h = absurd i
any_in f g (y ∷ xs) x (inl e) h = any_front f (g y) (flat_map g xs) (subst (λ (z : Document). list_any f (g z) ≡ true) (sym e) h)
any_in f g (y ∷ xs) x (inr i) h = any_back f (g y) (flat_map g xs) (any_in f g xs x i h)

pub any_listed : (p : Path) (es : List PrevEntry) (e : PrevEntry) → IsIn e es → list_any (eq_by_cmp id_cmp (id.Prev e.number p)) (map (λ e. id.Prev e.number p) es) ≡ true
any_listed p [] e i = absurd i
any_listed p (f ∷ es) e (inl one) = or_first _ _ (subst (λ (g : PrevEntry). eq_by_cmp id_cmp (id.Prev e.number p) (id.Prev g.number p) ≡ true) (sym one) (Rattle.oak_read.proofs.Walking.own_id (id.Prev e.number p)))
any_listed p (f ∷ es) e (inr i) = or_else (eq_by_cmp id_cmp (id.Prev e.number p) (id.Prev f.number p)) _ (any_listed p es e i)

-- ---- ids that differ

pub apart : (x y : DocId) → (x ≡ y → ⊥) → eq_by_cmp id_cmp x y ≡ false
apart x y other = by (eq_by_cmp id_cmp x y) refl
  where
    by : (b : Bool) → eq_by_cmp id_cmp x y ≡ b → b ≡ false
    by true h = absurd (other (same_id x y h))
    by false h = refl

pub prev_node : (k : ℕ) (q y : Path) → id.Prev k q ≡ id.Node y → ⊥
prev_node k q y h = cc

pub node_prev : (k : ℕ) (q y : Path) → id.Node y ≡ id.Prev k q → ⊥
node_prev k q y h = cc

pub same_of_prev : (k j : ℕ) (q y : Path) → id.Prev k q ≡ id.Prev j y → q ≡ y
same_of_prev k j q y h = cc

-- an id that isn't noted is known as before
pub beside : (known : Known) (y : DocId) (o : Option Document) (x : DocId) → (x ≡ y → ⊥) → documents_in (with_known known y o) x ≡ documents_in known x
beside known y o x other = noted_at known y o x ∙ ap (λ b. cond b (option_or (documents_in known y) o) (documents_in known x)) (apart x y other)

-- the node behind another is another
behind_apart : (at q : Path) → is_lt (id_cmp (id.Node at) (id.Node q)) ≡ true → q ≡ at → ⊥
behind_apart at q h e = false≢true (sym (Rattle.core_watch.proofs.Behind.not_below_itself (id.Node at)) ∙ subst (λ (z : Path). is_lt (id_cmp (id.Node at) (id.Node z)) ≡ true) e h)

module _ (start : Start) where
  module _ (table : Entries) (is : IsTable table) (past : Past) (formers : Formers) (done : Progress) (a : Global) (pin : Pin) (world : IsKeptSince start (documents_in table) past done) (held : IsHeldSince start past pin.base pin.sweep)
      (are : AreFormers (documents_in table) (course_from start past) formers) where
    abbrev ds : Documents
    ds = documents_in table

    abbrev course : Course
    course = course_from start past

    abbrev tree : Nodes
    tree = tree_at (Some start) past pin.base

    abbrev Copies : Known → Type 0
    Copies known = AreCopies ds course formers pin.base pin.sweep known

    abbrev reader : Option Path → Path → Known → List Child → Step → Reader
    reader parent at known names s = record { alloc = a; pin = pin; parent = parent; at = at; known = known; names = names; step = s }

    abbrev Reads : Reader → Type 0
    Reads r = ReadsTree start ds past formers r

    abbrev Asking : Known → Ids → Path → Type 0
    Asking known left p = IsAsking ds course formers pin.base pin.sweep known left p

    abbrev Rooted : Known → Ids → Bool → Path → Type 0
    Rooted known left whole p = AreRootsAsked ds course pin.base pin.sweep known left whole p

    told : IsToldSince start past
    told = world.told

    pair : IsHeldPair (course_from start past) (sees pin.base) (sees pin.sweep)
    pair = held_pair start past pin.base pin.sweep held

    in_order : is_sorted path_cmp tree ≡ true
    in_order = subst (λ (t : Nodes). is_sorted path_cmp t ≡ true) (tree_since start past pin.base) (tells_since start past world.first.tree world.told (sees pin.base) held.base.closed).order

    meaning : (p : Path) → found_node ds pin.sweep pin.base p ≡ node_at tree p
    meaning p = reading_since start ds past done pin.base pin.sweep world held p

    -- a node of the tree has a document
    document_there : (p : Path) → is_some (node_at tree p) ≡ true → is_some (documents_in table (id.Node p)) ≡ true
    document_there p some = by (documents_in table (id.Node p)) refl
      where
        by : (o : Option Document) → documents_in table (id.Node p) ≡ o → is_some o ≡ true
        by (Some d) e = refl
        by None e = ap is_some (sym (none_found (documents_in table) pin.sweep pin.base p e)) ∙ (ap is_some (meaning p) ∙ some)

    -- the names of its path are names
    lawful_there : (x : DocId) → has x table ≡ true → All IsName (path_of x)
    lawful_there x some = let d = from_some (lookup (is_at (id_cmp x)) table) some in each_found (λ y d. All IsName (path_of y)) table (recursion_from_All (λ e. All IsName (path_of e.0)) table is.lawful) x d.0 d.1

    -- ---- all that a node takes is known

    module _ (known : Known) (copies : Copies known) (whole : Bool) (at : Path) (rooted : Rooted known [] whole at) where
      -- what the documents say of an entry is known
      known_says : (x : Document) → IsIn x (gone_by rooted.document rooted.look) → (r : Revision) → sees pin.base r ≡ true → sees pin.sweep r ≡ false → HasEntry whole x r → has_revision (documents_in known (commit_root_of x r)) r ≡ true
      known_says x i r seen unswept entry = by (documents_in known (commit_root_of x r)) refl (or_false _ (rooted.roots x i r seen unswept entry))
        where
          root : (q : Path) × (commit_root_of x r ≡ id.Node q)
          root = root_by ds course (sees pin.base) (sees pin.sweep) at rooted.document (λ k. true) rooted.look rooted.reads x i r

          says : has_revision (ds (commit_root_of x r)) r ≡ true
          says = rooted.reads.said x i r seen unswept (from_entry whole x r entry)

          by : (o : Option Document) → documents_in known (commit_root_of x r) ≡ o → is_some o ≡ true → has_revision o r ≡ true
          by None e h = absurd (false≢true h)
          by (Some d) e h = (copies.each root.0 d (ap (documents_in known) (sym root.1) ∙ e)).said r seen unswept (ap (λ (j : DocId). has_revision (ds j) r) (sym root.1) ∙ says)

      gone_says : (x : Document) → IsIn x (gone_by rooted.document rooted.look) → (r : Revision) → sees pin.base r ≡ true → sees pin.sweep r ≡ false → is_some (of_revision x.deleted r) ≡ true → has_revision (documents_in known (commit_root_of x r)) r ≡ true
      gone_says x i r seen unswept h = known_says x i r seen unswept (inl (is_some_map Rattle.std.proofs.Common.not (of_revision x.deleted r) ∙ h))

      known_node : whole ≡ true → found_node (documents_in known) pin.sweep pin.base at ≡ node_at tree at
      known_node all = known_tree start ds (documents_in known) past pin.base pin.sweep at rooted.document (λ k. true) rooted.look world.first told held.base rooted.reads
          (record { main = rooted.there; previous = rooted.found; said = λ x i r seen unswept entry. known_says x i r seen unswept (subst (λ (b : Bool). HasEntry b x r) (sym all) (to_entry x r entry)) })

      node_there : is_some (found_node (documents_in known) pin.sweep pin.base at) ≡ is_some (node_at tree at)
      node_there = known_there ds course pin.base pin.sweep at rooted.document (λ k. true) rooted.look rooted.reads (documents_in known) rooted.there rooted.found gone_says tree (shows_at start past world.first told pin.base held.base)

      node_born : born_of (found_node (documents_in known) pin.sweep pin.base at) ≡ born_at tree at
      node_born = known_born ds course pin.base pin.sweep at rooted.document (λ k. true) rooted.look rooted.reads (documents_in known) rooted.there rooted.found gone_says tree (shows_at start past world.first told pin.base held.base)

    roots_read : (parent : Option Path) (at : Path) (known : Known) (names : List Child) (s : Step) → Copies known → Rooted known [] (is_none parent) at → IsOnWay is_lt tree parent at names → IsUnknownBehind at known → Reads (on_roots (reader parent at known names s))
    roots_read None at known names s copies rooted way fresh = record { copies = copies; stands = known_node known copies true at rooted refl }
    roots_read (Some p) at known names s copies rooted way fresh = record { copies = copies; stands = (record { child = way.child; so_far = named (child_name p at way.child) }, fresh) }
      where
        named : (m : Name) × (at ≡ p ++ m ∷ []) → names ++ option_to_list (child_found (documents_in known) pin.sweep pin.base p (id.Node at)) ≡ map (dated tree p) (children_to is_le tree p at)
        named one =
            (λ i. names ++ option_to_list (cond ((ap (λ b. b && is_some (found_node (documents_in known) pin.sweep pin.base at)) way.child ∙ node_there known copies false at rooted) i) (option_map (λ n. (n, node_born known copies false at rooted i)) (last_name at)) None))
            ∙ (ap (λ (ns : List Child). ns ++ option_to_list (cond (is_some (node_at tree at)) (option_map (λ n. (n, born_at tree at)) (last_name at)) None)) way.so_far
            ∙ subst (λ (q : Path). map (dated tree p) (children_to is_lt tree p q) ++ option_to_list (cond (is_some (node_at tree q)) (option_map (λ n. (n, born_at tree q)) (last_name q)) None) ≡ map (dated tree p) (children_to is_le tree p q)) (sym one.1)
            (ap (λ (o : Option Name). map (dated tree p) (children_to is_lt tree p (p ++ one.0 ∷ [])) ++ option_to_list (cond (is_some (node_at tree (p ++ one.0 ∷ []))) (option_map (λ n. (n, born_at tree (p ++ one.0 ∷ []))) o) None)) (own_name p one.0)
            ∙ (dated_more tree p (children_to is_lt tree p (p ++ one.0 ∷ [])) (is_some (node_at tree (p ++ one.0 ∷ []))) (Some one.0)
            ∙ ap (map (dated tree p)) (one_more_child tree in_order p one.0))))

    -- ---- the commit roots

    roots_stand : (parent : Option Path) (at : Path) (known : Known) (names : List Child) (e : DocId × Unit {0}) (es : Ids) → Rooted known (e ∷ es) (is_none parent) at → IsOnWay is_lt tree parent at names → IsUnknownBehind at known
        → Stands ds course formers tree pin parent at known names (step.Roots (record { first = e.0; rest = es }))
    roots_stand None at known names e es rooted way fresh = (rooted, way, fresh)
    roots_stand (Some p) at known names e es rooted way fresh = (rooted, way, fresh)

    -- with what is left: the next of it, or all is known
    roots_go_on : (parent : Option Path) (at : Path) (known : Known) (names : List Child) (s : Step) (ids : Ids) → Copies known → Rooted known ids (is_none parent) at → IsOnWay is_lt tree parent at names → IsUnknownBehind at known
        → Reads (option_map_or (λ left. record (reader parent at known names s) { step = step.Roots left }) (left_of ids) (on_roots (reader parent at known names s)))
    roots_go_on parent at known names s [] copies rooted way fresh = roots_read parent at known names s copies rooted way fresh
    roots_go_on parent at known names s (e ∷ es) copies rooted way fresh = record { copies = copies; stands = roots_stand parent at known names e es rooted way fresh }

    -- ---- the previous documents

    -- all are asked for: the commit roots of what is gone by are wanted
    previous_read : (parent : Option Path) (at : Path) (known : Known) (names : List Child) (s : Step) → Copies known → Asking known [] at → IsOnWay is_lt tree parent at names → IsUnknownBehind at known → Reads (on_previous (reader parent at known names s))
    previous_read parent at known names s copies asking way fresh =
        subst (λ (ids : Ids). Reads (option_map_or (λ left. record (reader parent at known names s) { step = step.Roots left }) (left_of ids) (on_roots (reader parent at known names s)))) (sym wanted_is)
        (roots_go_on parent at known names s wanted copies rooted way fresh)
      where
        wanted : Ids
        wanted = unknown known (flat_map (roots_of pin.sweep pin.base (is_none parent)) (gone_by asking.document asking.look))

        docs_are : with_previous (documents_in known) at asking.document ≡ gone_by asking.document asking.look
        docs_are = ap (λ l. asking.document ∷ l) (same_listed (λ e. documents_in known (id.Prev e.number at)) (λ e. asking.look e.number) asking.document.prev (λ e i. asking.found e i refl))

        wanted_is : roots_wanted pin.sweep pin.base known (is_none parent) at ≡ unknown known (flat_map (roots_of pin.sweep pin.base (is_none parent)) (gone_by asking.document asking.look))
        wanted_is =
            ap (λ (o : Option Document). option_map_or (λ d. unknown known (flat_map (roots_of pin.sweep pin.base (is_none parent)) (with_previous (documents_in known) at d))) o []) asking.there
            ∙ ap (λ l. unknown known (flat_map (roots_of pin.sweep pin.base (is_none parent)) l)) docs_are

        rooted : Rooted known (unknown known (flat_map (roots_of pin.sweep pin.base (is_none parent)) (gone_by asking.document asking.look))) (is_none parent) at
        rooted = record {
          document = asking.document;
          there = asking.there;
          look = asking.look;
          reads = reads_more ds course (sees pin.base) (sees pin.sweep) at asking.document (is_asked [] at) (λ k. true) asking.look (λ k h. h) asking.reads;
          found = λ e i. asking.found e i refl;
          roots = λ x i q seen unswept entry. unknown_left known (commit_root_of x q) (flat_map (roots_of pin.sweep pin.base (is_none parent)) (gone_by asking.document asking.look)) []
              (any_in (is_root pin.sweep pin.base x q seen unswept) (roots_of pin.sweep pin.base (is_none parent)) (gone_by asking.document asking.look) x i (among_roots pin.sweep pin.base x q seen unswept (is_none parent) entry));
          waiting = record { rising = all_rising known (flat_map (roots_of pin.sweep pin.base (is_none parent)) (gone_by asking.document asking.look)) [] refl; unknown = all_unknown known (flat_map (roots_of pin.sweep pin.base (is_none parent)) (gone_by asking.document asking.look)) [] refl };
          nodes = in_unknown (λ x. (q : Path) × (x ≡ id.Node q)) known (flat_map (roots_of pin.sweep pin.base (is_none parent)) (gone_by asking.document asking.look)) []
              (in_flat (λ x. (q : Path) × (x ≡ id.Node q)) (roots_of pin.sweep pin.base (is_none parent)) (gone_by asking.document asking.look) (λ d i. roots_are pin.sweep pin.base (is_none parent) (λ x. (q : Path) × (x ≡ id.Node q)) d (λ r. root_by ds course (sees pin.base) (sees pin.sweep) at asking.document (is_asked [] at) asking.look asking.reads d i r)))
              (λ x h. absurd (false≢true h));
        }

    asking_stands : (parent : Option Path) (at : Path) (known : Known) (names : List Child) (e : DocId × Unit {0}) (es : Ids) → Asking known (e ∷ es) at → IsOnWay is_lt tree parent at names → IsUnknownBehind at known
        → Stands ds course formers tree pin parent at known names (step.Previous (record { first = e.0; rest = es }))
    asking_stands None at known names e es asking way fresh = (asking, way, fresh)
    asking_stands (Some p) at known names e es asking way fresh = (asking, way, fresh)

    -- with what is left: the next of it, or all are asked for
    previous_go_on : (parent : Option Path) (at : Path) (known : Known) (names : List Child) (s : Step) (ids : Ids) → Copies known → Asking known ids at → IsOnWay is_lt tree parent at names → IsUnknownBehind at known
        → Reads (option_map_or (λ left. record (reader parent at known names s) { step = step.Previous left }) (left_of ids) (on_previous (reader parent at known names s)))
    previous_go_on parent at known names s [] copies asking way fresh = previous_read parent at known names s copies asking way fresh
    previous_go_on parent at known names s (e ∷ es) copies asking way fresh = record { copies = copies; stands = asking_stands parent at known names e es asking way fresh }

    -- the node's document is known, and none of the previous documents that it lists
    main_read : (parent : Option Path) (at : Path) (known : Known) (names : List Child) (s : Step) → Copies known → (c : Document) → documents_in known (id.Node at) ≡ Some c → ((k : ℕ) → documents_in known (id.Prev k at) ≡ None) → IsOnWay is_lt tree parent at names → IsUnknownBehind at known → Reads (on_main (reader parent at known names s))
    main_read parent at known names s copies c there none way fresh =
        subst (λ (ids : Ids). Reads (option_map_or (λ left. record (reader parent at known names s) { step = step.Previous left }) (left_of ids) (on_previous (reader parent at known names s)))) (sym wanted_is)
        (previous_go_on parent at known names s (unknown known (listed at c)) copies asking way fresh)
      where
        wanted_is : previous_wanted known at ≡ unknown known (listed at c)
        wanted_is = ap (λ (o : Option Document). option_map_or (λ d. unknown known (listed at d)) o []) there

        left_there : (e : PrevEntry) → IsIn e c.prev → is_some (lookup (is_at (id_cmp (id.Prev e.number at))) (unknown known (listed at c))) ≡ true
        left_there e i = by (either (is_some (documents_in known (id.Prev e.number at))) _ (unknown_left known (id.Prev e.number at) (listed at c) [] (any_listed at c.prev e i)))
          where
            by : (is_some (documents_in known (id.Prev e.number at)) ≡ true) ⊎ (is_some (lookup (is_at (id_cmp (id.Prev e.number at))) (unknown known (listed at c))) ≡ true) → is_some (lookup (is_at (id_cmp (id.Prev e.number at))) (unknown known (listed at c))) ≡ true
            by (inl h) = absurd (false≢true (ap is_some (sym (none e.number)) ∙ h))
            by (inr h) = h

        asking : Asking known (unknown known (listed at c)) at
        asking = record {
          document = c;
          there = there;
          look = (copies.each at c there).look;
          reads = reads_more ds course (sees pin.base) (sees pin.sweep) at c (λ k. false) (is_asked (unknown known (listed at c)) at) (copies.each at c there).look (λ k h. refl) (copies.each at c there).reads;
          found = λ e i asked. some_none _ (left_there e i) asked;
          waiting = record { rising = all_rising known (listed at c) [] refl; unknown = all_unknown known (listed at c) [] refl };
          previous = in_unknown (λ x. (e : PrevEntry) × IsIn e c.prev × (x ≡ id.Prev e.number at)) known (listed at c) [] (in_map (λ x. (e : PrevEntry) × IsIn e c.prev × (x ≡ id.Prev e.number at)) (λ e. id.Prev e.number at) c.prev (λ e i. (e, i, refl))) (λ x h. absurd (false≢true h));
          listed = (copies.each at c there).listed;
        }

    -- ---- a document is noted

    own_copy : (p : Path) (d : Document) → documents_in table (id.Node p) ≡ Some d → IsCopy ds course formers pin.base pin.sweep p d
    own_copy p d here = record {
      look = λ k. documents_in table (id.Prev k p);
      reads = world_copy start ds past done pin.base pin.sweep p d world held here;
      said = λ q seen unswept h. ap (λ o. has_revision o q) (sym here) ∙ h;
      listed = λ e i. let l = are.listed p d here e i in (l.0, l.1, shown_copy ds course (sees pin.base) (sees pin.sweep) p d l.0 pair here l.2);
    }

    copies_noted : (known : Known) → Copies known → (y : DocId) → Copies (with_known known y (documents_in table y))
    copies_noted known copies y = record { rising = noted_rising known y (documents_in table y) copies.rising; each = λ p d h. at p d (eq_by_cmp id_cmp (id.Node p) y) refl (sym (noted_at known y (documents_in table y) (id.Node p)) ∙ h) }
      where
        newest : (p : Path) (d : Document) (o : Option Document) → documents_in known (id.Node p) ≡ o → option_or o (documents_in table (id.Node p)) ≡ Some d → IsCopy ds course formers pin.base pin.sweep p d
        newest p d (Some c) e k = copies.each p d (e ∙ k)
        newest p d None e k = own_copy p d k

        at : (p : Path) (d : Document) (b : Bool) → eq_by_cmp id_cmp (id.Node p) y ≡ b → cond b (option_or (documents_in known y) (documents_in table y)) (documents_in known (id.Node p)) ≡ Some d → IsCopy ds course formers pin.base pin.sweep p d
        at p d true e k = newest p d (documents_in known (id.Node p)) refl (ap (λ (z : DocId). option_or (documents_in known z) (documents_in table z)) (same_id (id.Node p) y e) ∙ k)
        at p d false e k = copies.each p d k

    -- a node's document that is noted is no previous one
    fresh_node : (at : Path) (known : Known) (y : Path) (o : Option Document) → IsUnknownBehind at known → IsUnknownBehind at (with_known known (id.Node y) o)
    fresh_node at known y o fresh q k h = beside known (id.Node y) o (id.Prev k q) (prev_node k q y) ∙ fresh q k h

    -- the document of the node is there: it is noted
    node_noted : (parent : Option Path) (at : Path) (known : Known) (names : List Child) (s : Step) → Copies known → (d : Document) → documents_in table (id.Node at) ≡ Some d → ((k : ℕ) → documents_in known (id.Prev k at) ≡ None) → IsOnWay is_lt tree parent at names → IsUnknownBehind at known
        → Reads (on_main (reader parent at (with_known known (id.Node at) (Some d)) names s))
    node_noted parent at known names s copies d there none way fresh =
        let c = from_some (documents_in (with_known known (id.Node at) (Some d)) (id.Node at)) (now_known known (id.Node at) (Some d) refl) in
        main_read parent at (with_known known (id.Node at) (Some d)) names s (subst (λ (o : Option Document). Copies (with_known known (id.Node at) o)) there (copies_noted known copies (id.Node at))) c.0 c.1
        (λ k. beside known (id.Node at) (Some d) (id.Prev k at) (prev_node k at at) ∙ none k) way (fresh_node at known at (Some d) fresh)

    -- ---- the first document

    -- no child has a lesser name than the least one
    none_lesser : (p : Path) (n : Name) → is_some (node_at tree (p ++ n ∷ [])) ≡ true → is_lt (id_cmp (id.Node (p ++ n ∷ [])) (id.Node (p ++ codes "!" ∷ []))) ≡ false
    none_lesser p n some = ap is_lt (child_order p n (codes "!")) ∙ by (name_cmp n (codes "!")) refl
      where
        by : (o : Ordering) → name_cmp n (codes "!") ≡ o → is_lt o ≡ false
        by Less h = absurd (none_before n (last_named p n (lawful_there (id.Node (p ++ n ∷ [])) (document_there (p ++ n ∷ []) some))) h)
        by Equal h = refl
        by Greater h = refl

    begins : (p : Path) (at : Path) (names : List Child) → HasBegun p at names → HasNames is_lt tree p at names
    begins p at names begun = record {
      child = ap (is_child_of p) begun.least ∙ own_child p (codes "!");
      so_far = begun.none ∙ subst (λ (q : Path). [] ≡ map (dated tree p) (children_to is_lt tree p q)) (sym begun.least) (ap (map (dated tree p)) (sym (no_children tree p is_lt (p ++ codes "!" ∷ []) (none_lesser p))));
    }

    -- nor is there one of the least name without a document
    passes_by : (p : Path) (at : Path) (names : List Child) → documents_in table (id.Node at) ≡ None → HasBegun p at names → HasNames is_le tree p at names
    passes_by p at names none begun = record {
      child = ap (is_child_of p) begun.least ∙ own_child p (codes "!");
      so_far = begun.none ∙ ap (map (dated tree p)) (sym (no_children tree p is_le at not_up_to));
    }
      where
        not_up_to : (n : Name) → is_some (node_at tree (p ++ n ∷ [])) ≡ true → is_le (id_cmp (id.Node (p ++ n ∷ [])) (id.Node at)) ≡ false
        not_up_to n some = by (id_cmp (id.Node (p ++ n ∷ [])) (id.Node at)) refl
          where
            by : (o : Ordering) → id_cmp (id.Node (p ++ n ∷ [])) (id.Node at) ≡ o → is_le o ≡ false
            by Less h = absurd (false≢true (sym (none_lesser p n some) ∙ ap is_lt (subst (λ (q : Path). id_cmp (id.Node (p ++ n ∷ [])) (id.Node q) ≡ Less) begun.least h)))
            by Equal h = absurd (false≢true (ap is_some (sym (ap (documents_in table) (id_exact (id.Node (p ++ n ∷ [])) (id.Node at) h) ∙ none)) ∙ document_there (p ++ n ∷ []) some))
            by Greater h = refl

    nothing_known : (known : Known) → known ≡ [] → (x : DocId) → documents_in known x ≡ None
    nothing_known known e x = ap (λ (ks : Known). documents_in ks x) e

    feed_main : (parent : Option Path) (at : Path) (known : Known) (names : List Child) → Copies known → Stands ds course formers tree pin parent at known names step.Main → Reads (fed_main (reader parent at known names step.Main) (documents_in table (id.Node at)))
    feed_main None at known names copies stands = by (documents_in table (id.Node at)) refl
      where
        by : (o : Option Document) → documents_in table (id.Node at) ≡ o → Reads (fed_main (reader None at known names step.Main) o)
        by None none = record { copies = copies; stands = sym (none_found (documents_in table) pin.sweep pin.base at none) ∙ meaning at }
        by (Some d) there = node_noted None at known names step.Main copies d there (λ k. nothing_known known stands (id.Prev k at)) tt (λ q k h. nothing_known known stands (id.Prev k q))
    feed_main (Some p) at known names copies stands = by (documents_in table (id.Node at)) refl
      where
        by : (o : Option Document) → documents_in table (id.Node at) ≡ o → Reads (fed_main (reader (Some p) at known names step.Main) o)
        by None none = record { copies = copies; stands = (passes_by p at names none stands.0, λ q k h. nothing_known known stands.1 (id.Prev k q)) }
        by (Some d) there = node_noted (Some p) at known names step.Main copies d there (λ k. nothing_known known stands.1 (id.Prev k at)) (begins p at names stands.0) (λ q k h. nothing_known known stands.1 (id.Prev k q))

    -- ---- the next document

    -- where there is no further document, or none of a child, all children are read
    ends : (p : Path) (at : Path) (known : Known) (names : List Child) → Copies known → HasNames is_le tree p at names
        → ((n : Name) → is_some (node_at tree (p ++ n ∷ [])) ≡ true → is_le (id_cmp (id.Node (p ++ n ∷ [])) (id.Node at)) ≡ true) → Reads (ended (reader (Some p) at known names step.Next))
    ends p at known names copies way all = record { copies = copies; stands = way.so_far ∙ (ap (map (dated tree p)) (all_children tree p is_le at all) ∙ sym (dated_are tree in_order p)) }

    -- the next document is none of a child
    strays : (p : Path) (at : Path) (e : DocId × Document) → is_child_of p at ≡ true → IsNext (id.Node at) table e → ((q : Path) → e.0 ≡ id.Node q → is_child_of p q ≡ false)
        → (n : Name) → is_some (node_at tree (p ++ n ∷ [])) ≡ true → is_le (id_cmp (id.Node (p ++ n ∷ [])) (id.Node at)) ≡ true
    strays p at e child next other n some = not_behind (id.Node (p ++ n ∷ [])) (id.Node at) (by (id_cmp (id.Node at) (id.Node (p ++ n ∷ []))) refl)
      where
        document : has (id.Node (p ++ n ∷ [])) table ≡ true
        document = document_there (p ++ n ∷ []) some

        names : AllNoSlash p
        names = front_no_slash p (n ∷ []) (all_no_slash (p ++ n ∷ []) (names_from_all (p ++ n ∷ []) (lawful_there (id.Node (p ++ n ∷ [])) document)))

        between : id_cmp e.0 (id.Node (p ++ n ∷ [])) ≡ Less → ⊥
        between less =
            let m = child_name p at child in
            let one = child_between p m.0 n e.0 names (all_no_slash (path_of e.0) (names_from_all (path_of e.0) (lawful_there e.0 (ap is_some next.found))))
            (subst (λ (q : Path). id_cmp (id.Node q) e.0 ≡ Less) m.1 next.above) less in
            false≢true (sym (other one.0 one.1) ∙ one.2)

        same : id_cmp e.0 (id.Node (p ++ n ∷ [])) ≡ Equal → ⊥
        same tie = false≢true (sym (other (p ++ n ∷ []) (id_exact e.0 (id.Node (p ++ n ∷ [])) tie)) ∙ own_child p n)

        by : (o : Ordering) → id_cmp (id.Node at) (id.Node (p ++ n ∷ [])) ≡ o → is_lt o ≡ false
        by Equal h = refl
        by Greater h = refl
        by Less h = at_next (id_cmp e.0 (id.Node (p ++ n ∷ []))) refl
          where
            at_next : (o : Ordering) → id_cmp e.0 (id.Node (p ++ n ∷ [])) ≡ o → true ≡ false
            at_next Less k = absurd (between k)
            at_next Equal k = absurd (same k)
            at_next Greater k = absurd (false≢true (sym (next.least (id.Node (p ++ n ∷ [])) document h) ∙ ap is_lt (id_total.antisymm (id.Node (p ++ n ∷ [])) e.0 ∙ ap ordering_reverse k)))

    -- the next document is that of a child: those up to the last one are those before it
    moves : (p : Path) (at q : Path) (names : List Child) (e : DocId × Document) → e.0 ≡ id.Node q → is_child_of p q ≡ true → IsNext (id.Node at) table e → HasNames is_le tree p at names → HasNames is_lt tree p q names
    moves p at q names e is_q child next way = record {
      child = child;
      so_far = way.so_far ∙ ap (map (dated tree p)) (same_children tree p is_le is_lt at q alike);
    }
      where
        above : id_cmp (id.Node at) (id.Node q) ≡ Less
        above = subst (λ (x : DocId). id_cmp (id.Node at) x ≡ Less) is_q next.above

        least : (y : DocId) → has y table ≡ true → id_cmp (id.Node at) y ≡ Less → is_lt (id_cmp y (id.Node q)) ≡ false
        least = subst (λ (x : DocId). (y : DocId) → has y table ≡ true → id_cmp (id.Node at) y ≡ Less → is_lt (id_cmp y x) ≡ false) is_q next.least

        alike : (n : Name) → is_some (node_at tree (p ++ n ∷ [])) ≡ true → is_le (id_cmp (id.Node (p ++ n ∷ [])) (id.Node at)) ≡ is_lt (id_cmp (id.Node (p ++ n ∷ [])) (id.Node q))
        alike n some = by (id_cmp (id.Node (p ++ n ∷ [])) (id.Node at)) refl
          where
            by : (o : Ordering) → id_cmp (id.Node (p ++ n ∷ [])) (id.Node at) ≡ o → is_le o ≡ is_lt (id_cmp (id.Node (p ++ n ∷ [])) (id.Node q))
            by Less h = sym (ap is_lt (id_total.trans (id.Node (p ++ n ∷ [])) (id.Node at) (id.Node q) h above))
            by Equal h = sym (ap is_lt (id_total.congr (id.Node (p ++ n ∷ [])) (id.Node at) (id.Node q) h ∙ above))
            by Greater h = sym (least (id.Node (p ++ n ∷ [])) (document_there (p ++ n ∷ []) some) (id_total.antisymm (id.Node at) (id.Node (p ++ n ∷ [])) ∙ ap ordering_reverse h))

    feed_next : (p : Path) (at : Path) (known : Known) (names : List Child) → Copies known → HasNames is_le tree p at names → IsUnknownBehind at known → Reads (fed_next (reader (Some p) at known names step.Next) (option_map (λ e. e.1) (slice_get (behind (id.Node at) table) 0)))
    feed_next p at known names copies way fresh = by (behind (id.Node at) table) refl
      where
        by : (es : Entries) → behind (id.Node at) table ≡ es → Reads (fed_next (reader (Some p) at known names step.Next) (option_map (λ e. e.1) (slice_get es 0)))
        by [] none = ends p at known names copies way (λ n some. not_behind (id.Node (p ++ n ∷ [])) (id.Node at) (nothing_behind (id.Node at) table none (id.Node (p ++ n ∷ [])) (document_there (p ++ n ∷ []) some)))
        by (e ∷ more) first =
            subst (λ (x : DocId). Reads (option_map_or (λ q. settled (noted (reader (Some p) q known names step.Next) x (Some e.1))) (child_path_in (Some p) x) (ended (reader (Some p) at known names step.Next)))) (sym id_is)
            (at_id e.0 refl)
          where
            next : IsNext (id.Node at) table e
            next = next_is (id.Node at) table e more is.ordered first

            id_is : e.1.id ≡ e.0
            id_is = each_found (λ x d. d.id ≡ x) table (recursion_from_All (λ e. e.1.id ≡ e.0) table is.named) e.0 e.1 next.found

            Goes : DocId → Option Path → Type 0
            Goes x o = Reads (option_map_or (λ q. settled (noted (reader (Some p) q known names step.Next) x (Some e.1))) o (ended (reader (Some p) at known names step.Next)))

            past_it : ((q : Path) → e.0 ≡ id.Node q → is_child_of p q ≡ false) → Reads (ended (reader (Some p) at known names step.Next))
            past_it other = ends p at known names copies way (strays p at e way.child next other)

            at_id : (x : DocId) → e.0 ≡ x → Goes x (child_path_in (Some p) x)
            at_id (id.Node q) same = at_node (is_child_of p q) refl
              where
                above : id_cmp (id.Node at) (id.Node q) ≡ Less
                above = subst (λ (x : DocId). id_cmp (id.Node at) x ≡ Less) same next.above

                is_less : (o : Ordering) → is_lt o ≡ true → o ≡ Less
                is_less Less h = refl
                is_less Equal h = absurd (false≢true h)
                is_less Greater h = absurd (false≢true h)

                at_node : (b : Bool) → is_child_of p q ≡ b → Goes (id.Node q) (cond b (Some q) None)
                at_node true child = node_noted (Some p) q known names step.Next copies e.1 (subst (λ (x : DocId). documents_in table x ≡ Some e.1) same next.found)
                    (λ k. fresh q k (ap is_lt above)) (moves p at q names e same child next way)
                    (λ z k h. fresh z k (ap is_lt (id_total.trans (id.Node at) (id.Node q) (id.Node z) above (is_less (id_cmp (id.Node q) (id.Node z)) h))))
                at_node false child = past_it (λ q' same'. let both : id.Node q ≡ id.Node q' = sym same ∙ same' in let one : q ≡ q' = cc in subst (λ (z : Path). is_child_of p z ≡ false) one child)
            at_id (id.Prev n q) same = past_it (λ q' same'. let both : id.Prev n q ≡ id.Node q' = sym same ∙ same' in cc)
            at_id id.Settings same = past_it (λ q' same'. let both : id.Settings ≡ id.Node q' = sym same ∙ same' in cc)

    -- ---- a previous document

    first_left : (first : DocId) (rest : Ids) → is_left ((first, tt) ∷ rest) first ≡ true
    first_left first rest = ap (λ b. is_some (cond b (Some tt) (lookup (is_at (id_cmp first)) rest))) (Rattle.oak_read.proofs.Walking.own_id first)

    -- an id before others is none of them
    none_behind : (x : DocId) (ids : Ids) → below_all id_cmp x ids ≡ true → lookup (is_at (id_cmp x)) ids ≡ None
    none_behind x [] below = refl
    none_behind x (e ∷ ids) below = ap (λ b. cond b (Some e.1) (lookup (is_at (id_cmp x)) ids)) (apart_less (id_cmp x e.0) (is_less (id_cmp x e.0) (first_part _ _ below))) ∙ none_behind x ids (second_part _ _ below)
      where
        apart_less : (o : Ordering) → o ≡ Less → is_eq o ≡ false
        apart_less o h = ap is_eq h

    -- the first that is left is read: what is found of it is known, or it is gone
    module _ (known : Known) (at : Path) (first : DocId) (rest : Ids) (asking : Asking known ((first, tt) ∷ rest) at) where
      abbrev asked_entry : (e : PrevEntry) × IsIn e asking.document.prev × (first ≡ id.Prev e.number at)
      asked_entry = asking.previous first (first_left first rest)

      abbrev k : ℕ
      k = (asking.previous first (first_left first rest)).0.number

      abbrev there : Option Document
      there = documents_in table (id.Prev (asking.previous first (first_left first rest)).0.number at)

      former : (f : Former) × (formers at k ≡ Some f) × IsShownIn (sees pin.base) f (gone_by asking.document asking.look)
      former = asking.listed asked_entry.0 asked_entry.1

      unasked : is_asked ((first, tt) ∷ rest) at k ≡ false
      unasked = ap (λ b. is_none (cond b (Some tt) (lookup (is_at (id_cmp (id.Prev k at))) rest))) (ap (λ (x : DocId). eq_by_cmp id_cmp x first) (sym asked_entry.2) ∙ Rattle.oak_read.proofs.Walking.own_id first)

      way : (asking.look k ≡ documents_in table (id.Prev k at)) ⊎ (asking.look k ≡ None)
      way = asking.reads.follows asked_entry.0 asked_entry.1 unasked

      not_again : is_none (lookup (is_at (id_cmp (id.Prev k at))) rest) ≡ true
      not_again = ap is_none (subst (λ (x : DocId). lookup (is_at (id_cmp x)) rest ≡ None) asked_entry.2 (none_behind first rest (first_part _ _ asking.waiting.rising)))

      -- what is left still wasn't asked for
      still_unasked : (j : ℕ) → is_asked rest at j ≡ false → asked_too (is_asked ((first, tt) ∷ rest) at) k j ≡ false
      still_unasked j h = by (j == k) refl
        where
          either_way : (b : Bool) → is_none (cond b (Some tt) (lookup (is_at (id_cmp (id.Prev j at))) rest)) ≡ false
          either_way true = refl
          either_way false = h

          by : (b : Bool) → (j == k) ≡ b → cond b true (is_asked ((first, tt) ∷ rest) at j) ≡ false
          by true same = absurd (false≢true (sym h ∙ (ap (λ (i : ℕ). is_none (lookup (is_at (id_cmp (id.Prev i at))) rest)) (number_same j k same) ∙ not_again)))
          by false same = either_way (eq_by_cmp id_cmp (id.Prev j at) first)

      found_reads : Rattle.core_keep.specs.Readers.Reads ds course (sees pin.base) (sees pin.sweep) at asking.document (is_asked rest at) (look_too asking.look k there)
      found_reads = reads_more ds course (sees pin.base) (sees pin.sweep) at asking.document (asked_too (is_asked ((first, tt) ∷ rest) at) k) (is_asked rest at) (look_too asking.look k there) still_unasked
          (reads_found ds course (sees pin.base) (sees pin.sweep) at asking.document (is_asked ((first, tt) ∷ rest) at) asking.look asking.reads pair k former.0 (are.former at k former.0 former.1) (λ x h. are.copies at k former.0 x former.1 h) former.2 way)

      asking_noted : Asking (with_known known first (documents_in table first)) rest at
      asking_noted = record {
        document = asking.document;
        there = same_known known first (documents_in table first) (id.Node at) asking.document asking.there;
        look = look_too asking.look k there;
        reads = found_reads;
        found = λ e i asked. found e i asked (eq_by_cmp id_cmp (id.Prev e.number at) first) refl;
        waiting = record { rising = second_part _ _ asking.waiting.rising; unknown = still_unknown known first (documents_in table first) rest (first_part _ _ asking.waiting.rising) (second_part _ _ asking.waiting.unknown) };
        previous = λ x h. asking.previous x (later x (eq_by_cmp id_cmp x first) h);
        listed = λ e i. let l = asking.listed e i in (l.0, l.1, shown_found ds asking.document asking.look (sees pin.base) at l.0 former.0 k (λ x h. are.copies at k former.0 x former.1 h) former.2 way l.2);
      }
        where
          later : (x : DocId) (b : Bool) → is_left rest x ≡ true → is_some (cond b (Some tt) (lookup (is_at (id_cmp x)) rest)) ≡ true
          later x true h = refl
          later x false h = h

          unknown_first : documents_in known first ≡ None
          unknown_first = none_is _ (first_part _ _ asking.waiting.unknown)

          number_of_id : DocId → ℕ
          number_of_id (id.Prev j q) = j
          number_of_id i = 0

          itself : (j : ℕ) → (j == j) ≡ true
          itself j = number_itself j

          found : (e : PrevEntry) → IsIn e asking.document.prev → is_asked rest at e.number ≡ true → (b : Bool) → eq_by_cmp id_cmp (id.Prev e.number at) first ≡ b → documents_in (with_known known first (documents_in table first)) (id.Prev e.number at) ≡ look_too asking.look k there e.number
          found e i asked true h =
              let one : e.number ≡ k = ap number_of_id (same_id (id.Prev e.number at) first h ∙ asked_entry.2) in
              noted_at known first (documents_in table first) (id.Prev e.number at)
              ∙ (ap (λ b. cond b (option_or (documents_in known first) (documents_in table first)) (documents_in known (id.Prev e.number at))) h
              ∙ (ap (λ o. option_or o (documents_in table first)) unknown_first
              ∙ (ap (documents_in table) asked_entry.2
              ∙ sym (ap (λ b. cond b there (asking.look e.number)) (ap (λ (j : ℕ). j == k) one ∙ itself k)))))
          found e i asked false h =
              noted_at known first (documents_in table first) (id.Prev e.number at)
              ∙ (ap (λ b. cond b (option_or (documents_in known first) (documents_in table first)) (documents_in known (id.Prev e.number at))) h
              ∙ (asking.found e i (ap (λ b. is_none (cond b (Some tt) (lookup (is_at (id_cmp (id.Prev e.number at))) rest))) h ∙ asked)
              ∙ sym (ap (λ b. cond b there (asking.look e.number)) (other (e.number == k) refl))))
            where
              other : (b : Bool) → (e.number == k) ≡ b → b ≡ false
              other false m = refl
              other true m = absurd (false≢true (sym h ∙ (ap (λ (x : DocId). eq_by_cmp id_cmp x first) (ap (λ (j : ℕ). id.Prev j at) (number_same e.number k m) ∙ sym asked_entry.2) ∙ Rattle.oak_read.proofs.Walking.own_id first)))

    fresh_previous : (at : Path) (known : Known) (k : ℕ) (y : DocId) (o : Option Document) → y ≡ id.Prev k at → IsUnknownBehind at known → IsUnknownBehind at (with_known known y o)
    fresh_previous at known k y o one fresh q j h = beside known y o (id.Prev j q) (λ e. behind_apart at q h (same_of_prev j k q at (e ∙ one))) ∙ fresh q j h

    feed_previous : (parent : Option Path) (at : Path) (known : Known) (names : List Child) (left : Left) → Copies known → Asking known ((left.first, tt) ∷ left.rest) at → IsOnWay is_lt tree parent at names → IsUnknownBehind at known
        → Reads (settled (noted (reader parent at known names (step.Previous left)) left.first (documents_in table left.first)))
    feed_previous parent at known names left copies asking way fresh =
        let k = asking.previous left.first (first_left left.first left.rest) in
        previous_go_on parent at (with_known known left.first (documents_in table left.first)) names (step.Previous left) left.rest (copies_noted known copies left.first)
        (asking_noted known at left.first left.rest asking) way (fresh_previous at known (k.0).number left.first (documents_in table left.first) k.2 fresh)

    -- ---- a commit root

    -- the first that is left is read: where it is the root of an entry that v sees, it is there
    rooted_noted : (known : Known) → Copies known → (whole : Bool) (at : Path) (first : DocId) (rest : Ids) → Rooted known ((first, tt) ∷ rest) whole at → Rooted (with_known known first (documents_in table first)) rest whole at
    rooted_noted known copies whole at first rest rooted = record {
      document = rooted.document;
      there = same_known known first (documents_in table first) (id.Node at) rooted.document rooted.there;
      look = rooted.look;
      reads = rooted.reads;
      found = λ e i. beside known first (documents_in table first) (id.Prev e.number at) (λ h. prev_node e.number at node.0 (h ∙ node.1)) ∙ rooted.found e i;
      roots = λ x i q seen unswept entry. by x i q seen unswept entry (is_some (documents_in known (commit_root_of x q))) refl (eq_by_cmp id_cmp (commit_root_of x q) first) refl (rooted.roots x i q seen unswept entry);
      waiting = record { rising = second_part _ _ rooted.waiting.rising; unknown = still_unknown known first (documents_in table first) rest (first_part _ _ rooted.waiting.rising) (second_part _ _ rooted.waiting.unknown) };
      nodes = λ x h. rooted.nodes x (later x (eq_by_cmp id_cmp x first) h);
    }
      where
        node : (q : Path) × (first ≡ id.Node q)
        node = rooted.nodes first (first_left first rest)

        later : (x : DocId) (b : Bool) → is_left rest x ≡ true → is_some (cond b (Some tt) (lookup (is_at (id_cmp x)) rest)) ≡ true
        later x true h = refl
        later x false h = h

        there_by : (o : Option Document) (q : Revision) → has_revision o q ≡ true → is_some o ≡ true
        there_by None q h = h
        there_by (Some d) q h = refl

        by : (x : Document) → IsIn x (gone_by rooted.document rooted.look) → (q : Revision) → sees pin.base q ≡ true → sees pin.sweep q ≡ false → HasEntry whole x q
            → (b : Bool) → is_some (documents_in known (commit_root_of x q)) ≡ b → (c : Bool) → eq_by_cmp id_cmp (commit_root_of x q) first ≡ c
            → (b || is_some (cond c (Some tt) (lookup (is_at (id_cmp (commit_root_of x q))) rest))) ≡ true
            → is_known_or_left (with_known known first (documents_in table first)) rest (commit_root_of x q) ≡ true
        by x i q seen unswept entry true is_known c is_first h = or_first _ _ (still_known known first (documents_in table first) (commit_root_of x q) is_known)
        by x i q seen unswept entry false is_known true is_first h =
            let same : commit_root_of x q ≡ first = same_id (commit_root_of x q) first is_first in
            or_first _ _ (subst (λ (y : DocId). is_some (documents_in (with_known known y (documents_in table y)) (commit_root_of x q)) ≡ true) same
            (now_known known (commit_root_of x q) (documents_in table (commit_root_of x q))
            (there_by (documents_in table (commit_root_of x q)) q (rooted.reads.said x i q seen unswept (from_entry whole x q entry)))))
        by x i q seen unswept entry false is_known false is_first h = or_else (is_some (documents_in (with_known known first (documents_in table first)) (commit_root_of x q))) _ h

    feed_roots : (parent : Option Path) (at : Path) (known : Known) (names : List Child) (left : Left) → Copies known → Rooted known ((left.first, tt) ∷ left.rest) (is_none parent) at → IsOnWay is_lt tree parent at names → IsUnknownBehind at known
        → Reads (settled (noted (reader parent at known names (step.Roots left)) left.first (documents_in table left.first)))
    feed_roots parent at known names left copies rooted way fresh =
        let n = rooted.nodes left.first (first_left left.first left.rest) in
        roots_go_on parent at (with_known known left.first (documents_in table left.first)) names (step.Roots left) left.rest (copies_noted known copies left.first)
        (rooted_noted known copies (is_none parent) at left.first left.rest rooted) way
        (subst (λ (y : DocId). IsUnknownBehind at (with_known known y (documents_in table y))) (sym n.1) (fresh_node at known n.0 (documents_in table (id.Node n.0)) fresh))

    -- ---- any step

    feed_step : (parent : Option Path) (at : Path) (known : Known) (names : List Child) (s : Step) → Copies known → Stands ds course formers tree pin parent at known names s → Reads (fed (reader parent at known names s) (answer table (due (reader parent at known names s))))
    feed_step None at known names step.Main copies stands = feed_main None at known names copies stands
    feed_step (Some p) at known names step.Main copies stands = feed_main (Some p) at known names copies stands
    feed_step None at known names step.Next copies stands = absurd stands
    feed_step (Some p) at known names step.Next copies stands = feed_next p at known names copies stands.0 stands.1
    feed_step None at known names (step.Previous left) copies stands = feed_previous None at known names left copies stands.0 stands.1 stands.2
    feed_step (Some p) at known names (step.Previous left) copies stands = feed_previous (Some p) at known names left copies stands.0 stands.1 stands.2
    feed_step None at known names (step.Roots left) copies stands = feed_roots None at known names left copies stands.0 stands.1 stands.2
    feed_step (Some p) at known names (step.Roots left) copies stands = feed_roots (Some p) at known names left copies stands.0 stands.1 stands.2
    feed_step None at known names (step.Done o) copies stands = record { copies = copies; stands = stands }
    feed_step (Some p) at known names (step.Done o) copies stands = record { copies = copies; stands = stands }

  pub reading_feeds : (table : Entries) (past : Past) (formers : Formers) (done : Progress) (r : Reader) → IsTable table → IsKeptSince start (documents_in table) past done → IsHeldSince start past r.pin.base r.pin.sweep
      → AreFormers (documents_in table) (course_from start past) formers → ReadsTree start (documents_in table) past formers r → ReadsTree start (documents_in table) past formers (fed r (answer table (due r)))
  reading_feeds table past formers done r is world held are reads = feed_step table is past formers done r.alloc r.pin world held are r.parent r.at r.known r.names r.step reads.copies reads.stands
