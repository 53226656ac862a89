-- A splitter over documents in which nobody else writes ends with what moves by their meaning.
use Rattle.std.proofs.Common.{◌≡◌, ℕ, zero, suc, ◌==◌, Bool, true, false, cond, ◌&&◌, ◌||◌, ◌⊎◌, inl, inr, List, [], ◌∷◌, ◌++◌, Option, None, Some, length, map, fold, refl, sym, ap, ◌∙◌, subst, arith}
use Rattle.std.specs.Prelude.{is_none, is_some, nat_lt}
use Rattle.std.specs.Option.{option_map_or}
use Rattle.std.specs.Ordering.{eq_by_cmp}
use Rattle.std.specs.BTreeMap.{insert_entry, is_at}
use Rattle.std.specs.Map.{keys_of, lookup}
use Rattle.std.specs.List.{AllByRecursion, filter, flat_map}
use Rattle.std.specs.declared.alloc.Global.{Global}
use Rattle.std.proofs.lemmas.Bool.{false≢true}
use Rattle.std.proofs.lemmas.List.Elements.{recursion_from_All}
use Rattle.jr_path.specs.Ids.{id_cmp}
use Rattle.jr_path.specs.declared.path.Path.{Path}
use Rattle.jr_path.specs.declared.path.DocId.{DocId}
use Rattle.jr_path.specs.declared.path.DocId.TheVariants as id
use Rattle.jr_path.proofs.Maps.{lookup-insert_entry}
use Rattle.jr_path.proofs.Orders.{id_total}
use Rattle.jr_rev.specs.declared.revision.Revision.{Revision}
use Rattle.jr_rev.specs.declared.vector.Pin.{Pin}
use Rattle.jr_rev.specs.Revisions.{revision_cmp}
use Rattle.jr_rev.specs.Vectors.{sees}
use Rattle.oak_doc.specs.declared.asks.SplitEnd.{SplitEnd}
use Rattle.oak_doc.specs.declared.asks.SplitEnd.TheVariants as end
use Rattle.oak_doc.specs.declared.document.Document.{Document}
use Rattle.oak_doc.specs.declared.document.PrevEntry.{PrevEntry}
use Rattle.oak_doc.specs.Updates.{Props}
use Rattle.oak_read.specs.Meaning.{Documents, documents_in, commit_root_of, is_committed, path_of}
use Rattle.oak_read.specs.Reading.{with_known}
use Rattle.oak_read.specs.Wanted.{Known, Ids}
use Rattle.oak_read.proofs.Walking.{Within, noted_at, own_id, same_id, within_noted}
use Rattle.oak_prev.specs.Moving.{documents_known, entries_of, entry_key, listing_entry, moved_entries, revisions_of}
use Rattle.oak_prev.proofs.Entries.{keys_are, listed_are}
use Rattle.oak_prev.specs.Resting.{SplitEndsIn, SplitsWhatMoves, splitter_answer, end_of, is_last, split_end}
use Rattle.oak_prev.specs.Splits.{entry_from, listed_as, moved_count, older, older_values}
use Rattle.oak_prev.specs.Splitting.{begun, due, fed, fed_read, on_next_root, statuses_known}
use Rattle.oak_prev.specs.declared.splitter.Step.{Step}
use Rattle.oak_prev.specs.Wanted.{asked_of, asked_roots, is_asked, roots_wanted, with_other_id}
use Rattle.oak_prev.specs.declared.splitter.Splitter.{Splitter}
use Rattle.oak_prev.specs.declared.splitter.Step.TheVariants as step

-- ---- what moves rests on the commit roots that are asked for

module _ (ds known : Documents) (pin : Pin) (d : Document) where
  -- both have the same document of an id
  abbrev Agree : DocId → Type 0
  Agree x = known x ≡ ds x

  committed_agrees : (r : Revision) → (is_asked pin r ≡ true → Agree (commit_root_of d r)) → (sees pin.base r && is_committed known pin.sweep d r) ≡ (sees pin.base r && is_committed ds pin.sweep d r)
  committed_agrees r agree = by (sees pin.base r) (sees pin.sweep r) refl refl
    where
      by : (b t : Bool) → sees pin.base r ≡ b → sees pin.sweep r ≡ t
          → (b && (t || option_map_or (λ root. is_some (lookup (is_at (revision_cmp r)) root.revisions)) (known (commit_root_of d r)) false))
          ≡ (b && (t || option_map_or (λ root. is_some (lookup (is_at (revision_cmp r)) root.revisions)) (ds (commit_root_of d r)) false))
      by false t is_b is_t = refl
      by true true is_b is_t = refl
      by true false is_b is_t = ap (λ o. option_map_or (λ root. is_some (lookup (is_at (revision_cmp r)) root.revisions)) o false) (agree (rw (is_b, is_t) refl))

  abbrev counts : Documents → {X : Type 0} → Revision × X → Bool
  counts docs e = sees pin.base e.0 && is_committed docs pin.sweep d e.0

  module _ {X : Type 0} where
    filter_agrees : (es : List (Revision × X)) → AllByRecursion Agree (map (commit_root_of d) (filter (is_asked pin) (keys_of es))) → filter (counts known) es ≡ filter (counts ds) es
    filter_agrees [] all = refl
    filter_agrees (e ∷ es) all = by (is_asked pin e.0) refl all (λ h. filter_agrees es h)
      where
        here : (is_asked pin e.0 ≡ true → Agree (commit_root_of d e.0)) → filter (counts known) es ≡ filter (counts ds) es → filter (counts known) (e ∷ es) ≡ filter (counts ds) (e ∷ es)
        here agree rest = ap (λ b. cond b (e ∷ filter (counts known) es) (filter (counts known) es)) (committed_agrees e.0 agree) ∙ ap (λ (fs : List (Revision × X)). cond (counts ds e) (e ∷ fs) fs) rest

        by : (b : Bool) → is_asked pin e.0 ≡ b → AllByRecursion Agree (map (commit_root_of d) (cond b (e.0 ∷ filter (is_asked pin) (keys_of es)) (filter (is_asked pin) (keys_of es))))
            → (AllByRecursion Agree (map (commit_root_of d) (filter (is_asked pin) (keys_of es))) → filter (counts known) es ≡ filter (counts ds) es) → filter (counts known) (e ∷ es) ≡ filter (counts ds) (e ∷ es)
        by true is h rest = here (λ a. h.0) (rest h.1)
        by false is h rest = here (λ a. absurd (false≢true (sym is ∙ a))) (rest h)

    -- of one entry nothing moves
    one_alone : (docs : Documents) (e : Revision × X) → older (filter (counts docs) (e ∷ [])) ≡ []
    one_alone docs e = by (counts docs e)
      where
        by : (b : Bool) → older (cond b (e ∷ []) []) ≡ []
        by true = refl
        by false = refl

    older_agrees : (es : List (Revision × X)) → AllByRecursion Agree (map (commit_root_of d) (asked_of pin es)) → older_values known pin d es ≡ older_values ds pin d es
    older_agrees [] all = refl
    older_agrees (e ∷ []) all = one_alone known e ∙ sym (one_alone ds e)
    older_agrees (e ∷ f ∷ es) all =
        let more : nat_lt 1 (length (e ∷ f ∷ es)) ≡ true = grind arith in
        ap older (filter_agrees (e ∷ f ∷ es) (subst (λ b. AllByRecursion Agree (map (commit_root_of d) (cond b (filter (is_asked pin) (keys_of (e ∷ f ∷ es))) []))) more all))

  all_front : (xs ys : List DocId) → AllByRecursion Agree (xs ++ ys) → AllByRecursion Agree xs
  all_front [] ys h = tt
  all_front (x ∷ xs) ys h = (h.0, all_front xs ys h.1)

  all_back : (xs ys : List DocId) → AllByRecursion Agree (xs ++ ys) → AllByRecursion Agree ys
  all_back [] ys h = h
  all_back (x ∷ xs) ys h = all_back xs ys h.1

  entries_by : (ps : Props) → AllByRecursion Agree (asked_roots pin d ps) → flat_map (λ p. entries_of p.0 (older_values known pin d p.1)) ps ≡ flat_map (λ p. entries_of p.0 (older_values ds pin d p.1)) ps
  entries_by [] all = refl
  entries_by (p ∷ ps) all =
      ap (λ es. entries_of p.0 es ++ flat_map (λ p. entries_of p.0 (older_values known pin d p.1)) ps) (older_agrees p.1 (all_front (map (commit_root_of d) (asked_of pin p.1)) (asked_roots pin d ps) all))
      ∙ ap (λ es. entries_of p.0 (older_values ds pin d p.1) ++ es) (entries_by ps (all_back (map (commit_root_of d) (asked_of pin p.1)) (asked_roots pin d ps) all))

  -- what moves is the same over both
  entries_agree : AllByRecursion Agree (asked_roots pin d d.props) → moved_entries known pin d ≡ moved_entries ds pin d
  entries_agree all = entries_by d.props all

  pub count_agrees : AllByRecursion Agree (asked_roots pin d d.props) → moved_count known pin d ≡ moved_count ds pin d
  count_agrees all = ap (λ ks. length ks) (sym (keys_are known pin d)) ∙ ap (λ es. length (map entry_key es)) (entries_agree all) ∙ ap (λ ks. length ks) (keys_are ds pin d)

  pub listing_agrees : AllByRecursion Agree (asked_roots pin d d.props) → listed_as known pin d ≡ listed_as ds pin d
  listing_agrees all = sym (listed_are known pin d) ∙ ap (λ es. listing_entry d.mod_count (revisions_of es)) (entries_agree all) ∙ listed_are ds pin d

-- the number under which a previous document is listed is the one that was read
number_is : (ds : Documents) (pin : Pin) (d : Document) (e : PrevEntry) → listed_as ds pin d ≡ Some e → e.number ≡ d.mod_count
number_is ds pin d e is = by (keys_of (revisions_of (moved_entries ds pin d))) refl (listed_are ds pin d ∙ is)
  where
    by : (rs : List Revision) → keys_of (revisions_of (moved_entries ds pin d)) ≡ rs → listing_entry d.mod_count (revisions_of (moved_entries ds pin d)) ≡ Some e → e.number ≡ d.mod_count
    by [] is_r h = let no : None ≡ Some e = rw is_r at h in cc
    by (r ∷ rs) is_r h = let some : Some (entry_from d.mod_count r rs) ≡ Some e = rw is_r at h in cc

-- a document that is found among documents under their ids has the id that was asked for
pub named_found : (es : List (DocId × Document)) → AllByRecursion (λ e. e.1.id ≡ e.0) es → (x : DocId) (d : Document) → lookup (is_at (id_cmp x)) es ≡ Some d → d.id ≡ x
named_found [] all x d h = cc
named_found (e ∷ es) all x d h = by (eq_by_cmp id_cmp x e.0) refl h (λ h'. named_found es all.1 x d h')
  where
    by : (b : Bool) → eq_by_cmp id_cmp x e.0 ≡ b → cond b (Some e.1) (lookup (is_at (id_cmp x)) es) ≡ Some d → (lookup (is_at (id_cmp x)) es ≡ Some d → d.id ≡ x) → d.id ≡ x
    by true is h' rest = let same : e.1 ≡ d = cc in sym (ap (λ d. d.id) same) ∙ all.0 ∙ sym (same_id x e.0 is)
    by false is h' rest = rest h'

-- ---- the steps of a splitter

module _ (table : List (DocId × Document)) (a : Global) (pin : Pin) (p : Path) where
  ends_after : (s : Splitter) (o : SplitEnd) → SplitEndsIn table (fed s (splitter_answer table (due s))) o → SplitEndsIn table s o
  ends_after s o e = (suc e.0, e.1)

  abbrev ds : Documents
  ds = documents_in table

  module _ (d : Document) (there : documents_in table (id.Node p) ≡ Some d) (own : d.id ≡ id.Node p) where
    -- a splitter that has read the document
    abbrev reading : Known → DocId → Ids → Step → Splitter
    reading roots asked left st = record (begun a pin p) { reading = record { document = d; roots = roots }; asked = asked; left = left; step = st }

    abbrev Alike : Known → DocId → Type 0
    Alike roots x = documents_known d roots x ≡ documents_in table x

    abbrev Covered : Known → Ids → DocId → Type 0
    Covered roots left x = Alike roots x ⊎ (is_some (lookup (is_at (id_cmp x)) left) ≡ true)

    own_alike : (roots : Known) (x : DocId) → eq_by_cmp id_cmp x d.id ≡ true → Alike roots x
    own_alike roots x e = ap (λ b. cond b (Some d) (documents_in roots x)) e ∙ sym there ∙ ap (documents_in table) (sym own ∙ sym (same_id x d.id e))

    other_alike : (roots : Known) (x : DocId) → eq_by_cmp id_cmp x d.id ≡ false → documents_in roots x ≡ documents_in table x → Alike roots x
    other_alike roots x e h = ap (λ b. cond b (Some d) (documents_in roots x)) e ∙ h

    other_known : (roots : Known) (x : DocId) → eq_by_cmp id_cmp x d.id ≡ false → Alike roots x → documents_in roots x ≡ documents_in table x
    other_known roots x e h = sym (ap (λ b. cond b (Some d) (documents_in roots x)) e) ∙ h

    -- the first of those that are left is read
    covered_noted : (roots : Known) → Within table roots → (y : DocId) (rest : Ids) (x : DocId) → Covered roots ((y, tt) ∷ rest) x → Covered (with_known roots y (documents_in table y)) rest x
    covered_noted roots within y rest x c = by (eq_by_cmp id_cmp x d.id) (eq_by_cmp id_cmp x y) refl refl c
      where
        noted : (b : Bool) → eq_by_cmp id_cmp x y ≡ b → documents_in (with_known roots y (documents_in table y)) x ≡ cond b (documents_in table y) (documents_in roots x)
        noted b e = noted_at table roots within y x ∙ ap (λ b. cond b (documents_in table y) (documents_in roots x)) e

        by : (o b : Bool) → eq_by_cmp id_cmp x d.id ≡ o → eq_by_cmp id_cmp x y ≡ b → Alike roots x ⊎ (is_some (cond b (Some tt) (lookup (is_at (id_cmp x)) rest)) ≡ true) → Covered (with_known roots y (documents_in table y)) rest x
        by true b is_own is_first h = inl (own_alike (with_known roots y (documents_in table y)) x is_own)
        by false true is_own is_first h = inl (other_alike (with_known roots y (documents_in table y)) x is_own (noted true is_first ∙ ap (documents_in table) (sym (same_id x y is_first))))
        by false false is_own is_first (inl h) = inl (other_alike (with_known roots y (documents_in table y)) x is_own (noted false is_first ∙ other_known roots x is_own h))
        by false false is_own is_first (inr h) = inr h

    all_of : (P Q : DocId → Type 0) → ((x : DocId) → P x → Q x) → (xs : List DocId) → AllByRecursion P xs → AllByRecursion Q xs
    all_of P Q f [] h = tt
    all_of P Q f (x ∷ xs) h = (f x h.0, all_of P Q f xs h.1)

    some_cond : {X : Type 0} (b : Bool) (x : X) (o : Option X) → is_some o ≡ true → is_some (cond b (Some x) o) ≡ true
    some_cond true x o h = refl
    some_cond false x o h = h

    stays : (x y : DocId) (left : Ids) → is_some (lookup (is_at (id_cmp x)) left) ≡ true → is_some (lookup (is_at (id_cmp x)) (with_other_id d left y)) ≡ true
    stays x y left h = by (eq_by_cmp id_cmp y d.id)
      where
        by : (b : Bool) → is_some (lookup (is_at (id_cmp x)) (cond b left (insert_entry id_cmp left y tt))) ≡ true
        by true = h
        by false = ap (λ o. is_some o) (lookup-insert_entry id_cmp id_total x y tt left) ∙ some_cond (eq_by_cmp id_cmp x y) tt (lookup (is_at (id_cmp x)) left) h

    stays_behind : (x : DocId) (ys : List DocId) (left : Ids) → is_some (lookup (is_at (id_cmp x)) left) ≡ true → is_some (lookup (is_at (id_cmp x)) (fold (with_other_id d) left ys)) ≡ true
    stays_behind x [] left h = h
    stays_behind x (y ∷ ys) left h = stays_behind x ys (with_other_id d left y) (stays x y left h)

    taken_up : (x : DocId) (left : Ids) → Covered [] (with_other_id d left x) x
    taken_up x left = by (eq_by_cmp id_cmp x d.id) refl
      where
        by : (b : Bool) → eq_by_cmp id_cmp x d.id ≡ b → Alike [] x ⊎ (is_some (lookup (is_at (id_cmp x)) (cond b left (insert_entry id_cmp left x tt))) ≡ true)
        by true e = inl (own_alike [] x e)
        by false e = inr (ap (λ o. is_some o) (lookup-insert_entry id_cmp id_total x x tt left) ∙ ap (λ b. is_some (cond b (Some tt) (lookup (is_at (id_cmp x)) left))) (own_id x))

    each_covered : (xs : List DocId) (left : Ids) → AllByRecursion (Covered [] (fold (with_other_id d) left xs)) xs
    each_covered [] left = tt
    each_covered (x ∷ xs) left = (by (taken_up x left), each_covered xs (with_other_id d left x))
      where
        by : Covered [] (with_other_id d left x) x → Covered [] (fold (with_other_id d) (with_other_id d left x) xs) x
        by (inl h) = inl h
        by (inr h) = inr (stays_behind x xs (with_other_id d left x) h)

    none_left : (roots : Known) (x : DocId) → Covered roots [] x → Alike roots x
    none_left roots x (inl h) = h
    none_left roots x (inr h) = absurd (false≢true h)

    -- the updates, and how they end
    updates_end : (roots : Known) (asked : DocId) (left : Ids) (e : PrevEntry) (n : ℕ) → e.number ≡ d.mod_count
        → SplitEndsIn table (reading roots asked left (step.Previous e n)) (cond (is_none (documents_in table (id.Prev d.mod_count p))) (cond (is_last d.mod_count) (end.Skipped d.mod_count d.mod_count) (end.Split n)) (end.Split 0))
    updates_end roots asked left e n number = by (documents_in table (id.Prev d.mod_count p)) refl
      where
        place : id.Prev d.mod_count (path_of d.id) ≡ id.Prev d.mod_count p
        place = ap (λ x. id.Prev d.mod_count (path_of x)) own

        mine : documents_in table d.id ≡ Some d
        mine = ap (documents_in table) own ∙ there

        same_number : (d.mod_count == d.mod_count) ≡ true
        same_number = grind arith

        goal : Option Document → SplitEnd
        goal o = cond (is_none o) (cond (is_last d.mod_count) (end.Skipped d.mod_count d.mod_count) (end.Split n)) (end.Split 0)

        by : (o : Option Document) → documents_in table (id.Prev d.mod_count p) ≡ o → SplitEndsIn table (reading roots asked left (step.Previous e n)) (goal o)
        by (Some x) h = ends_after (reading roots asked left (step.Previous e n)) (end.Split 0) (rw (place, h) (zero, refl))
        by None h =
            ends_after (reading roots asked left (step.Previous e n)) (goal None)
            (rw (place, h) (ends_after (reading roots asked left (step.Main e n)) (goal None) (last (is_last d.mod_count) refl)))
          where
            last : (b : Bool) → is_last d.mod_count ≡ b → SplitEndsIn table (fed (reading roots asked left (step.Main e n)) (splitter_answer table (due (reading roots asked left (step.Main e n))))) (cond b (end.Skipped d.mod_count d.mod_count) (end.Split n))
            last true is = rw (mine, same_number, is, number) (ends_after (reading roots asked left (step.Find d.mod_count (end.Skipped d.mod_count d.mod_count))) (end.Skipped d.mod_count d.mod_count) (rw h (zero, refl)))
            last false is = rw (mine, same_number, is) (zero, refl)

    settled_end : (roots : Known) (asked : DocId) (left : Ids) (st : Step) → AllByRecursion (Alike roots) (asked_roots pin d d.props) → SplitEndsIn table (statuses_known (reading roots asked left st)) (end_of ds pin p d)
    settled_end roots asked left st alike =
        let listing = listing_agrees ds (documents_known d roots) pin d alike in
        let count = count_agrees ds (documents_known d roots) pin d alike in
        rw (listing, count) (by (listed_as ds pin d) refl)
      where
        by : (o : Option PrevEntry) → listed_as ds pin d ≡ o
            → SplitEndsIn table (option_map_or (λ e. reading roots asked left (step.Previous e (moved_count ds pin d))) o (reading roots asked left (step.Done (end.Split 0))))
            (cond (is_some o && is_none (ds (id.Prev d.mod_count p))) (cond (is_last d.mod_count) (end.Skipped d.mod_count d.mod_count) (end.Split (moved_count ds pin d))) (end.Split 0))
        by None is = (zero, refl)
        by (Some e) is = updates_end roots asked left e (moved_count ds pin d) (number_is ds pin d e is)

    -- the commit roots that are left are read one after another
    roots_end : (left : Ids) (roots : Known) (asked : DocId) (st : Step) → Within table roots → AllByRecursion (Covered roots left) (asked_roots pin d d.props) → SplitEndsIn table (on_next_root (reading roots asked left st)) (end_of ds pin p d)
    roots_end [] roots asked st within covered = settled_end roots asked [] st (all_of (Covered roots []) (Alike roots) (none_left roots) (asked_roots pin d d.props) covered)
    roots_end (x ∷ xs) roots asked st within covered =
        ends_after (reading roots x.0 xs step.Root) (end_of ds pin p d)
        (roots_end xs (with_known roots x.0 (documents_in table x.0)) x.0 step.Root (within_noted table roots within x.0)
        (all_of (Covered roots (x ∷ xs)) (Covered (with_known roots x.0 (documents_in table x.0)) xs) (λ y c. covered_noted roots within x.0 xs y c) (asked_roots pin d d.props) covered))

    nothing_known : Within table []
    nothing_known x d h = cc

    read_end : SplitEndsIn table (fed_read (begun a pin p) d) (end_of ds pin p d)
    read_end = roots_end (roots_wanted pin d) [] id.Settings step.Read nothing_known (each_covered (asked_roots pin d d.props) [])

pub splits_what_moves : SplitsWhatMoves
splits_what_moves table a pin p is = ends_after table a pin p (begun a pin p) (split_end (documents_in table) pin p) (by (documents_in table (id.Node p)) refl)
  where
    by : (o : Option Document) → documents_in table (id.Node p) ≡ o
        → SplitEndsIn table (option_map_or (fed_read (begun a pin p)) o (record (begun a pin p) { step = step.Done (end.Split 0) })) (option_map_or (end_of (documents_in table) pin p) o (end.Split 0))
    by None none = (zero, refl)
    by (Some d) there = read_end table a pin p d there (named_found table (recursion_from_All _ table is.named) (id.Node p) d there)
