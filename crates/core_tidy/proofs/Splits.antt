-- Each step of a split: what it makes of the world, and what the split has read and written then.
use Rattle.std.proofs.Common.{◌≡◌, ◌⊎◌, inl, inr, ◌<◌, ◌≤◌, ◌-◌, ◌^◌, ℕ, Bool, true, false, cond, not, ◌&&◌, ◌||◌, List, [], ◌∷◌, Option, Some, None, Ok, Err, is_some, refl, sym, ap, ◌∙◌, subst, arith}
use Rattle.std.specs.Prelude.{◌==◌, nat_lt}
use Rattle.std.specs.Option.{option_map_or}
use Rattle.std.specs.Ordering.{eq_by_cmp}
use Rattle.std.proofs.lemmas.Bool.Decides.{nat_tests}
use mathlib.Core.Bool.{false≢true}
use Rattle.jr_path.specs.Ids.{id_cmp}
use Rattle.jr_path.specs.declared.path.DocId.{DocId}
use Rattle.jr_path.specs.declared.path.DocId.TheVariants as id
use Rattle.jr_path.specs.declared.path.Path.{Path}
use Rattle.jr_path.proofs.Maps.{lookup-insert_entry}
use Rattle.jr_rev.specs.declared.revision.Revision.{Revision}
use Rattle.jr_rev.specs.declared.vector.Pin.{Pin}
use Rattle.jr_rev.proofs.Entries.{number_same}
use Rattle.jr_tree.proofs.Entries.{tested}
use Rattle.oak_doc.specs.declared.asks.RemoveOut.{RemoveOut}
use Rattle.oak_doc.specs.declared.asks.RemoveOut.TheVariants as removal
use Rattle.oak_doc.specs.declared.asks.Reply.TheVariants as reply
use Rattle.oak_doc.specs.declared.asks.SplitEnd.{SplitEnd}
use Rattle.oak_doc.specs.declared.asks.SplitEnd.TheVariants as end
use Rattle.oak_doc.specs.declared.document.Document.{Document}
use Rattle.oak_doc.specs.declared.document.PrevEntry.{PrevEntry}
use Rattle.oak_doc.specs.declared.update.Cond.TheVariants.{Missing, Unchanged}
use Rattle.oak_doc.specs.declared.update.OpFault.{OpFault}
use Rattle.oak_doc.specs.declared.update.OpFault.TheVariants as fault
use Rattle.oak_doc.specs.declared.update.UpdateOp.{UpdateOp}
use Rattle.oak_doc.specs.Updates.{after_changes, is_met, update_refusal, updated}
use Rattle.oak_machine.specs.declared.event.StepKind.TheVariants as kind
use Rattle.oak_machine.specs.Laws.{Says, Starts, StartsProper}
use Rattle.oak_machine.specs.Runs.{is_skip, is_split_end}
use Rattle.oak_machine.specs.Sessions.{has_left, has_login}
use Rattle.oak_prev.specs.Moving.{documents_known}
use Rattle.oak_prev.specs.Splits.{entry_from, listed_as, main_write, moved_count, moved_revisions, previous_write}
use Rattle.oak_prev.specs.Splitting as splitting
use Rattle.oak_prev.specs.Splitting.{fed_read, known, on_next_root, split_ended}
use Rattle.oak_prev.specs.Wanted.{roots_wanted}
use Rattle.oak_prev.specs.declared.splitter.Splitter.{Splitter}
use Rattle.oak_prev.specs.declared.splitter.Step.TheVariants as step
use Rattle.oak_read.specs.Meaning.{Documents, documents_in, path_of}
use Rattle.oak_read.specs.Reading.{IsTable, with_known}
use Rattle.oak_read.specs.Wanted.{Ids}
use Rattle.oak_store.specs.Tables.{Table, found, next_number, removal_of}
use Rattle.oak_acts.specs.Acts.{replied, result_of}
use Rattle.oak_tidy.specs.declared.tidying.Tidying.TheVariants as tidying
use Rattle.oak_tidy.specs.Moves.{after_asking}
use Rattle.oak_tidy.specs.Tidyings.{tidy_events}
use Rattle.oak_tidy.proofs.Moving.{absent_stay, changed_stay, refusals_go, splits_copy, splits_list, splits_undo}
use Rattle.core_heads.specs.Sound.{IsGood, Seen}
use Rattle.core_keep.specs.Formers.{Formers, FormersGrow, former_now}
use Rattle.core_keep.specs.From.{course_from}
use Rattle.core_keep.specs.Steps.{IsUnlisted}
use Rattle.core_begun.specs.Kept.{IsHeldSince}
use Rattle.core_world.specs.Collecting.{MayRemovePrevious, after_copied, after_split, after_taken_back}
use Rattle.core_world.specs.Kept.{IsKept}
use Rattle.core_world.specs.Numbers.{AreNumbered, IsSplitting, last_number}
use Rattle.core_world.specs.States.{State, nodes_in, origin}
use Rattle.core_world.proofs.Copying.{copied_absent, copied_now, copied_passed}
use Rattle.core_world.proofs.Late.{splitting_begins, splitting_copies, splitting_knows, splitting_lists}
use Rattle.core_world.proofs.Numbers.{value}
use Rattle.core_world.proofs.Tables.{one_id}
use Rattle.jr_path.proofs.Orders.{id_total}
use Rattle.core_tidy.specs.Ordered.{AreAllInOrder}
use Rattle.core_tidy.specs.Splitting.{HasCopied, HasMoved, HasRead, HoldsCopy, IsBehind, MaySplitAt, Moves, TakesBack, copy_of}
use Rattle.core_tidy.specs.Steps.{Copied, Listed, Makes, Still, TakenBack, Went, lists_copy}
use Rattle.core_tidy.specs.Tidying.{HaveTheirNumbers, reader_at}
use Rattle.core_tidy.proofs.Beside.{has_read_on, moves_on, takes_back_on}
use Rattle.core_tidy.proofs.Making.{IsMade, made}
use Rattle.core_tidy.proofs.Ordered.{made_order}

-- ---- numbers and ends

-- a number is below another, or not
below : (a b : ℕ) → a ≤ b → (a < b) ⊎ (a ≡ b)
below a b most = by (nat_lt a b) refl
  where
    by : (t : Bool) → nat_lt a b ≡ t → (a < b) ⊎ (a ≡ b)
    by true h = inl (grind (arith, nat_tests))
    by false h = inr (let over : b ≤ a = grind (arith, nat_tests) in omega (arith, most, over))

-- the entry by which a previous document is listed has the number that was read
entry_number : (ds : Documents) (pin : Pin) (d : Document) (e : PrevEntry) → listed_as ds pin d ≡ Some e → e.number ≡ d.mod_count
entry_number ds pin d e h = by (moved_revisions ds pin d) h
  where
    listing : List Revision → Option PrevEntry
    listing [] = None
    listing (r ∷ rs) = Some (entry_from d.mod_count r rs)

    one : (a b : PrevEntry) → ◌≡◌ {A = Option PrevEntry} (Some a) (Some b) → a ≡ b
    one a b k = cc

    by : (rs : List Revision) → listing rs ≡ Some e → e.number ≡ d.mod_count
    by [] k = cc
    by (r ∷ rs) k = ap (λ (f : PrevEntry). f.number) (sym (one (entry_from d.mod_count r rs) e k))

-- where an update on a number is refused, the number is another, or the last one
pub refused_number : (found number : ℕ) → (found == number && not (number == 2 ^ 64 - 1)) ≡ false → (found ≡ number → ⊥) ⊎ (number ≡ last_number)
refused_number found number h = by (found == number) refl (number == 2 ^ 64 - 1) refl h
  where
    by : (a : Bool) → (found == number) ≡ a → (b : Bool) → (number == 2 ^ 64 - 1) ≡ b → (a && not b) ≡ false → (found ≡ number → ⊥) ⊎ (number ≡ last_number)
    by false k b l m = inl (λ same. grind (arith, nat_tests))
    by true k true l m = inr (number_same number (2 ^ 64 - 1) l)
    by true k false l m = absurd (false≢true (sym m))

pub skipped : (number found : ℕ) → (found ≡ number → ⊥) ⊎ (number ≡ last_number) → is_skip number found ≡ true
skipped number found (inl other) = by (number == found) refl
  where
    by : (b : Bool) → (number == found) ≡ b → (not b || number == 2 ^ 64 - 1) ≡ true
    by false h = refl
    by true h = absurd (other (sym (number_same number found h)))
skipped number found (inr last) = by (not (number == found)) (ap (λ (n : ℕ). n == 2 ^ 64 - 1) last)
  where
    by : (b : Bool) → (number == 2 ^ 64 - 1) ≡ true → (b || number == 2 ^ 64 - 1) ≡ true
    by true h = refl
    by false h = h

-- where it is met, the number is the document's, and not the last one
pub met_number : (found number : ℕ) → (found == number && not (number == 2 ^ 64 - 1)) ≡ true → (found ≡ number) × (number ≡ last_number → ⊥)
met_number found number h = by (found == number) refl (number == 2 ^ 64 - 1) refl h
  where
    by : (a : Bool) → (found == number) ≡ a → (b : Bool) → (number == 2 ^ 64 - 1) ≡ b → (a && not b) ≡ true → (found ≡ number) × (number ≡ last_number → ⊥)
    by true k false l m = (number_same found number k, λ last. false≢true (sym l ∙ ap (λ (n : ℕ). n == 2 ^ 64 - 1) last))
    by true k true l m = absurd (false≢true m)
    by false k b l m = absurd (false≢true m)

-- ---- what a splitter knows

-- a splitter comes to know a commit root that was found
knows_more : (t : Table) (d : Document) (roots : List (DocId × Document)) (asked : DocId) (q : Path) (c : Document)
    → documents_known d (with_known roots asked (documents_in t.documents asked)) (id.Node q) ≡ Some c → (documents_known d roots (id.Node q) ≡ Some c) ⊎ (nodes_in t q ≡ Some c)
knows_more t d roots asked q c = by (eq_by_cmp id_cmp (id.Node q) d.id) (documents_in t.documents asked) refl
  where
    put : (x : Document) → documents_in t.documents asked ≡ Some x → (b : Bool) → documents_in (cond b roots (Rattle.std.specs.BTreeMap.insert_entry id_cmp roots asked x)) (id.Node q) ≡ Some c → (documents_in roots (id.Node q) ≡ Some c) ⊎ (nodes_in t q ≡ Some c)
    put x is true h = inl h
    put x is false h = at (eq_by_cmp id_cmp (id.Node q) asked) refl (sym (lookup-insert_entry id_cmp id_total (id.Node q) asked x roots) ∙ h)
      where
        at : (b : Bool) → eq_by_cmp id_cmp (id.Node q) asked ≡ b → cond b (Some x) (documents_in roots (id.Node q)) ≡ Some c → (documents_in roots (id.Node q) ≡ Some c) ⊎ (nodes_in t q ≡ Some c)
        at true same k = inr (ap (documents_in t.documents) (one_id (id.Node q) asked same) ∙ (is ∙ k))
        at false same k = inl k

    by : (b : Bool) (o : Option Document) → documents_in t.documents asked ≡ o → cond b (Some d) (documents_in (with_known roots asked o) (id.Node q)) ≡ Some c → (cond b (Some d) (documents_in roots (id.Node q)) ≡ Some c) ⊎ (nodes_in t q ≡ Some c)
    by true o is h = inl h
    by false None is h = inl h
    by false (Some x) is h = put x is _ h

-- ---- the step

-- what a step of a splitter of session s makes of a world, and what it has read and written then
pub record SplitsTo (starts : Starts) (says : Says) (w : State) (s : ℕ) (x y : Splitter) (u : State) : Type 0 where
  pub makes : Makes w s u
  pub lists : (p : Path) (k : ℕ) → lists_copy makes p k → HoldsCopy x x.step p k
  pub holds : (p : Path) (k : ℕ) → HoldsCopy y y.step p k → HoldsCopy x x.step p k ⊎ (documents_in w.table.documents (id.Prev k p) ≡ None)
  pub may : MaySplitAt u s y y.step
  pub reader : reader_at y y.step ≡ None
  pub grow : FormersGrow w.formers u.formers

module _ (starts : Starts) (says : Says) (proper : StartsProper starts) (w : State) (kept : IsKept starts says w) (s : ℕ) (login : has_login w.past s ≡ true) (stays : has_left w.past s ≡ false) (numbered : AreNumbered w.table w.formers) (theirs : HaveTheirNumbers w.formers) (order : AreAllInOrder w.table) (table : IsTable w.table.documents) where
  abbrev ds : Documents
  ds = documents_in w.table.documents

  its_made : (u : State) (m : Makes w s u) → IsMade starts says w u (lists_copy m)
  its_made u m = made starts says proper w kept s login stays numbered theirs order u m

  -- no document lists the last number
  last_unlisted : (p : Path) (k : ℕ) → k ≡ last_number → IsUnlisted ds p k
  last_unlisted p k last d is e i same =
      let f = kept.sessions.readers.told.listed p d is e i in
      let early : e.number < last_number = (numbered.passed p e.number f.0 f.1).early in
      let at : e.number ≡ last_number = same ∙ last in
      absurd (omega (arith, early, at))

  copy_unlisted : (p : Path) (k : ℕ) (c : Document) → HasCopied w.table p k c → IsUnlisted ds p k
  copy_unlisted p k c (inl copied) = copied.unlisted
  copy_unlisted p k c (inr last) = last_unlisted p k last

  -- a step by which nothing but events changes
  module _ (x : Splitter) (u : State) (m : Makes w s u) (none : (p : Path) (k : ℕ) → lists_copy m p k → ⊥) where
    read_then : (z : Splitter) → HasRead w z → HasRead u z
    read_then z has = let now = its_made u m in has_read_on starts says proper w u kept now.kept now.lets.step (lists_copy m) now.lets z has

    back_then : (p : Path) (k : ℕ) (o : SplitEnd) → TakesBack w.table p k o → TakesBack u.table p k o
    back_then p k o takes = let now = its_made u m in takes_back_on starts says proper w u kept now.kept now.lets.step (lists_copy m) now.lets p k o (λ h. absurd (none p k h)) takes

    -- a splitter goes on to the commit roots that are left, or to what moves
    next_root : (z : Splitter) → HasRead u z → MaySplitAt u s (on_next_root z) (on_next_root z).step
    next_root z has = by z.left
      where
        status : (o : Option PrevEntry) → listed_as (known z) z.pin z.reading.document ≡ o
            → MaySplitAt u s (option_map_or (λ e. record z { left = []; step = step.Previous e (moved_count (known z) z.pin z.reading.document) }) o (split_ended (record z { left = [] }) (end.Split 0)))
            (option_map_or (λ e. record z { left = []; step = step.Previous e (moved_count (known z) z.pin z.reading.document) }) o (split_ended (record z { left = [] }) (end.Split 0))).step
        status None is = refl
        status (Some e) is = record { reads = record { good = has.good; splitting = has.splitting }; listed = is }

        by : (ids : Ids) → MaySplitAt u s (on_next_root (record z { left = ids })) (on_next_root (record z { left = ids })).step
        by [] = status (listed_as (known z) z.pin z.reading.document) refl
        by (i ∷ is) = record { good = has.good; splitting = has.splitting }

  no_copy : (z : Splitter) (p : Path) (k : ℕ) → HoldsCopy (on_next_root z) (on_next_root z).step p k → ⊥
  no_copy z p k = by z.left
    where
      status : (o : Option PrevEntry) → HoldsCopy (option_map_or (λ e. record z { left = []; step = step.Previous e (moved_count (known z) z.pin z.reading.document) }) o (split_ended (record z { left = [] }) (end.Split 0)))
          (option_map_or (λ e. record z { left = []; step = step.Previous e (moved_count (known z) z.pin z.reading.document) }) o (split_ended (record z { left = [] }) (end.Split 0))).step p k → ⊥
      status None h = h
      status (Some e) h = h

      by : (ids : Ids) → HoldsCopy (on_next_root (record z { left = ids })) (on_next_root (record z { left = ids })).step p k → ⊥
      by [] h = status (listed_as (known z) z.pin z.reading.document) h
      by (i ∷ is) h = h

  no_reader : (z : Splitter) → reader_at (on_next_root z) (on_next_root z).step ≡ None
  no_reader z = by z.left
    where
      status : (o : Option PrevEntry) → reader_at (option_map_or (λ e. record z { left = []; step = step.Previous e (moved_count (known z) z.pin z.reading.document) }) o (split_ended (record z { left = [] }) (end.Split 0)))
          (option_map_or (λ e. record z { left = []; step = step.Previous e (moved_count (known z) z.pin z.reading.document) }) o (split_ended (record z { left = [] }) (end.Split 0))).step ≡ None
      status None = refl
      status (Some e) = refl

      by : (ids : Ids) → reader_at (on_next_root (record z { left = ids })) (on_next_root (record z { left = ids })).step ≡ None
      by [] = status (listed_as (known z) z.pin z.reading.document)
      by (i ∷ is) = refl

  -- ---- each step

  -- the world once that is answered for which x asks, where so much is told of former documents
  abbrev to : Splitter → Formers → State
  to x f = record (after_asking w s (splitting.due x) (tidy_events s (tidying.Split x) (tidying.Split x))) { formers = f }

  abbrev Goes : Splitter → Splitter → Formers → Type 0
  Goes x y f = SplitsTo starts says w s x y (to x f)

  same_formers : FormersGrow w.formers w.formers
  same_formers p k f h = h

  -- the document is read
  module _ (x : Splitter) (good : IsGood w.begin w.past (Seen x.pin.base)) (held : IsHeldSince (origin w) w.past x.pin.base x.pin.sweep) where
    abbrev reading : Splitter
    reading = record x { step = step.Read }

    abbrev with_it : Document → Splitter
    with_it d = record x { reading = record { document = d; roots = [] }; left = roots_wanted x.pin d; step = step.Read }

    went : Makes w s (to reading w.formers)
    went = Went kind.Split refl refl refl

    has_it : (d : Document) → nodes_in w.table x.path ≡ Some d → HasRead w (with_it d)
    has_it d is = record {
      good = good;
      splitting = splitting_begins (origin w) w.past w.table _ kept.sessions.committing.kept w.formers (documents_known d []) x.pin x.path d numbered held is (order (id.Node x.path) d is) inside;
    }
      where
        path_of_id : DocId → Path
        path_of_id (id.Node p) = p
        path_of_id i = []

        inside : (q : Path) (c : Document) → documents_known d [] (id.Node q) ≡ Some c → nodes_in w.table q ≡ Some c
        inside q c = by (eq_by_cmp id_cmp (id.Node q) d.id) refl
          where
            by : (b : Bool) → eq_by_cmp id_cmp (id.Node q) d.id ≡ b → cond b (Some d) None ≡ Some c → nodes_in w.table q ≡ Some c
            by false m h = absurd (false≢true (ap is_some h))
            by true m h =
                let at : q ≡ x.path = ap path_of_id (one_id (id.Node q) d.id m ∙ (kept.sessions.committing.kept.keeps x.path).named d is) in
                ap (nodes_in w.table) at ∙ (is ∙ h)

    pub read_to : (o : Option Document) → nodes_in w.table x.path ≡ o → Goes reading (splitting.fed reading (reply.Found o)) w.formers
    unfolding went
    read_to None is = record { makes = went; lists = λ p k h. absurd h; holds = λ p k h. absurd h; may = refl; reader = refl; grow = same_formers }
    read_to (Some d) is = record {
      makes = went;
      lists = λ p k h. absurd h;
      holds = λ p k h. absurd (no_copy (with_it d) p k h);
      may = next_root x (to reading w.formers) went (λ p k h. h) (with_it d) (read_then x (to reading w.formers) went (λ p k h. h) (with_it d) (has_it d is));
      reader = no_reader (with_it d);
      grow = same_formers;
    }

  -- a commit root is read
  pub root_to : (x : Splitter) → HasRead w x → Goes (record x { step = step.Root }) (splitting.fed (record x { step = step.Root }) (reply.Found (documents_in w.table.documents x.asked))) w.formers
  root_to x has = record {
    makes = still;
    lists = λ p k h. absurd h;
    holds = λ p k h. absurd (no_copy z p k h);
    may = next_root x (to (record x { step = step.Root }) w.formers) still (λ p k h. h) z (record {
      good = has.good;
      splitting = splitting_knows (origin w) w.past w.table _ kept.sessions.committing.kept w.formers (known x) (known z) x.pin x.path x.reading.document has.splitting (λ q c h. knows_more w.table x.reading.document x.reading.roots x.asked q c h);
    });
    reader = no_reader z;
    grow = same_formers;
  }
    where
      z : Splitter
      z = record x { reading = record x.reading { roots = with_known x.reading.roots x.asked (documents_in w.table.documents x.asked) }; step = step.Root }

      still : Makes w s (to (record x { step = step.Root }) w.formers)
      still = Still refl

  -- the previous document is written
  module _ (x : Splitter) (e : PrevEntry) (n : ℕ) (moves : Moves w x e) where
    abbrev d : Document
    d = x.reading.document

    abbrev writing : Splitter
    writing = record x { step = step.Previous e n }

    abbrev op : UpdateOp
    op = previous_write (known x) x.pin d

    op_at : op.id ≡ id.Prev d.mod_count x.path
    op_at = ap (λ (i : DocId). id.Prev d.mod_count (path_of i)) moves.reads.splitting.named

    its_number : e.number ≡ d.mod_count
    its_number = entry_number (known x) x.pin d e moves.listed

    abbrev copy : Document
    copy = copy_of x (next_number w.table)

    -- where there is none
    module _ (none : found w.table op.id ≡ None) where
      none_there : ds (id.Prev d.mod_count x.path) ≡ None
      none_there = ap ds (sym op_at) ∙ none

      result : result_of w.table op ≡ Ok copy
      result = ap (λ (o : Option Document). updated o op (next_number w.table)) none

      is_copied : to writing w.formers ≡ after_copied w s x.path d.mod_count copy
      is_copied = splits_copy w s x.path d.mod_count copy op op_at result

      copies : Makes w s (to writing w.formers)
      copies = Copied x.path d.mod_count copy is_copied none_there (λ f h. splitting_copies (origin w) w.past w.table w.formers (known x) x.pin x.path d moves.reads.splitting (next_number w.table) f h) refl
          (made_order None op (next_number w.table) (λ c h. absurd (false≢true (ap is_some h))))

      stands : (d.mod_count < last_number) ⊎ (d.mod_count ≡ last_number) → HasCopied (to writing w.formers).table x.path e.number copy
      stands (inl early) =
          subst (λ (k : ℕ). HasCopied (to writing w.formers).table x.path k copy) (sym its_number)
          (subst (λ (t : State). HasCopied t.table x.path d.mod_count copy) (sym is_copied)
          (inl (copied_now w.table (course_from (origin w) w.past) w.formers kept.sessions.readers.told x.path d.mod_count copy (λ f h. theirs x.path d.mod_count f h) none_there early numbered.low moves.reads.splitting.read.within)))
      stands (inr last) = inr (its_number ∙ last)

      most : d.mod_count ≤ last_number
      most = let a : d.mod_count ≤ w.table.number = moves.reads.splitting.read.within in let b : w.table.number ≤ last_number = numbered.low in omega (arith, a, b)

      now_moves : Moves (to writing w.formers) (record x { step = step.Main e n }) e
      now_moves =
          let now = its_made (to writing w.formers) copies in
          moves_on starts says proper w (to writing w.formers) kept now.kept now.lets.step (lists_copy copies) now.lets (record x { step = step.Main e n }) e
          (record { reads = record { good = moves.reads.good; splitting = moves.reads.splitting }; listed = moves.listed })

      copied_to : Goes writing (record x { step = step.Main e n }) w.formers
      unfolding copies
      copied_to = record {
        makes = copies;
        lists = λ p k h. absurd h;
        holds = λ p k h. inr (subst (λ (z : Path). ds (id.Prev k z) ≡ None) h.0 (subst (λ (j : ℕ). ds (id.Prev j x.path) ≡ None) (sym its_number ∙ h.1) none_there));
        may = record { moves = now_moves; first = next_number w.table; copied = stands (below d.mod_count last_number most) };
        reader = refl;
        grow = same_formers;
      }

    pub previous_to : (o : Option Document) → found w.table op.id ≡ o → Goes writing (splitting.fed writing (replied o (updated o op (next_number w.table)))) w.formers
    previous_to None is = copied_to is
    previous_to (Some c) is = record {
      makes = Went kind.Split (refusals_go w s op (update_refusal (Some c) (Some Missing)) kind.Split (ap (λ (o : Option Document). updated o op (next_number w.table)) is)) refl refl;
      lists = λ p k h. absurd h;
      holds = λ p k h. absurd h;
      may = refl;
      reader = refl;
      grow = same_formers;
    }

  -- the document is updated, where it has the number that was read
  module _ (x : Splitter) (e : PrevEntry) (n : ℕ) (has : HasMoved w x e) where
    abbrev its : Document
    its = x.reading.document

    abbrev updating : Splitter
    updating = record x { step = step.Main e n }

    abbrev main_op : UpdateOp
    main_op = main_write (known x) x.pin its e

    abbrev split : IsSplitting (origin w) w.past w.table w.formers (known x) x.pin x.path its
    split = has.moves.reads.splitting

    main_number : e.number ≡ its.mod_count
    main_number = entry_number (known x) x.pin its e has.moves.listed

    -- the update is refused
    refused_to : (f : OpFault) (o : SplitEnd) → result_of w.table main_op ≡ Err f → IsBehind w.table x.path e.number → is_split_end o ≡ true → Goes updating (record x { step = step.Find e.number o }) w.formers
    refused_to f o is behind ends = record {
      makes = went_on;
      lists = λ p k h. absurd h;
      holds = λ p k h. inl h;
      may = back_then x (to updating w.formers) went_on (λ p k h. h) x.path e.number o (record { copy = copy_of x has.first; copied = has.copied; behind = behind; ends = ends });
      reader = refl;
      grow = same_formers;
    }
      where
        went_on : Makes w s (to updating w.formers)
        went_on = Went kind.Split (refusals_go w s main_op f kind.Split is) refl refl

    -- the number of the copy is behind where the document is another
    behind_of : (c : Document) → nodes_in w.table x.path ≡ Some c → (c.mod_count ≡ its.mod_count → ⊥) ⊎ (its.mod_count ≡ last_number) → IsBehind w.table x.path e.number
    behind_of c is (inl other) = elim has.copied [
      | inl copied ↦ inl (copied_passed w.table x.path e.number (copy_of x has.first) copied c is (λ same. other (same ∙ main_number)))
      | inr last ↦ inr last
    ]
    behind_of c is (inr last) = inr (main_number ∙ last)

    absent_behind : nodes_in w.table x.path ≡ None → IsBehind w.table x.path e.number
    absent_behind none = elim has.copied [ inl copied ↦ inl (copied_absent w.table x.path e.number (copy_of x has.first) copied none) | inr last ↦ inr last ]

    -- the update is made
    module _ (c : Document) (is : nodes_in w.table x.path ≡ Some c) (same : c.mod_count ≡ its.mod_count) (never : its.mod_count ≡ last_number → ⊥) (after : Document) (result : result_of w.table main_op ≡ Ok after) where
      early : its.mod_count < last_number
      early = elim (below its.mod_count last_number (let a : its.mod_count ≤ w.table.number = split.read.within in let b : w.table.number ≤ last_number = numbered.low in omega (arith, a, b))) [ inl h ↦ h | inr last ↦ absurd (never last) ]

      copied_there : ds (id.Prev e.number x.path) ≡ Some (after_changes None (previous_write (known x) x.pin its) has.first)
      copied_there = elim has.copied [ inl copied ↦ copied.there c is (same ∙ sym main_number) | inr last ↦ absurd (never (sym main_number ∙ last)) ]

      may_split : Rattle.core_world.specs.Collecting.MaySplit w (known x) x.pin x.path its e
      may_split = splitting_lists w w.formers (known x) x.pin x.path its c e has.first split is same early main_number copied_there

      abbrev more : Formers
      more = (after_split w s (known x) x.pin x.path its e).formers

      listing : Makes w s (to updating more)
      listing = Listed (known x) x.pin x.path its e (splits_list w s (known x) x.pin x.path its after e split.named may_split.there result) may_split early

      grown : FormersGrow w.formers more
      grown p k f h = by (eq_by_cmp Rattle.jr_path.specs.Names.path_cmp p x.path) refl (k == e.number) refl
        where
          new : (b c : Bool) → eq_by_cmp Rattle.jr_path.specs.Names.path_cmp p x.path ≡ b → (k == e.number) ≡ c → b ≡ true → c ≡ true → ⊥
          new b c m l p_is k_is = false≢true (ap is_some (sym (ap (w.formers x.path) main_number ∙ Rattle.core_world.proofs.Numbers.first_listed w.table w.formers numbered x.path its may_split.there)
              ∙ (ap (λ (j : ℕ). w.formers x.path j) (sym (number_same k e.number (l ∙ k_is))) ∙ (ap (λ (z : Path). w.formers z k) (sym (Rattle.jr_tree.proofs.Pointwise.same_path p x.path (m ∙ p_is))) ∙ h))))

          by : (b : Bool) → eq_by_cmp Rattle.jr_path.specs.Names.path_cmp p x.path ≡ b → (c : Bool) → (k == e.number) ≡ c → cond (b && c) (Some (former_now (course_from (origin w) w.past) its)) (w.formers p k) ≡ Some f
          by false m c l = h
          by true m false l = h
          by true m true l = absurd (new true true m l refl refl)

      listed_to : Goes updating (record x { step = step.Done (end.Split n) }) more
      unfolding listing
      listed_to = record { makes = listing; lists = λ p k h. h; holds = λ p k h. absurd h; may = refl; reader = refl; grow = grown }

    found_at : (o : Option Document) → nodes_in w.table x.path ≡ o → result_of w.table main_op ≡ updated o main_op (next_number w.table)
    found_at o is = ap (λ (i : DocId). updated (found w.table i) main_op (next_number w.table)) split.named ∙ ap (λ (o : Option Document). updated o main_op (next_number w.table)) is

    -- whatever the document is
    pub main_to : (o : Option Document) → nodes_in w.table x.path ≡ o → (f : Formers) × Goes updating (splitting.fed updating (replied o (updated o main_op (next_number w.table)))) f
    main_to None is = (w.formers, refused_to fault.Absent (end.Split 0) (found_at None is) (absent_behind is) refl)
    main_to (Some c) is = by (is_met (Some c) (Some (Unchanged its.mod_count))) refl (found_at (Some c) is)
      where
        by : (b : Bool) → is_met (Some c) (Some (Unchanged its.mod_count)) ≡ b → result_of w.table main_op ≡ cond b (Ok (after_changes (Some c) main_op (next_number w.table))) (Err (update_refusal (Some c) (Some (Unchanged its.mod_count))))
            → (f : Formers) × Goes updating (splitting.fed updating (replied (Some c) (cond b (Ok (after_changes (Some c) main_op (next_number w.table))) (Err (update_refusal (Some c) (Some (Unchanged its.mod_count))))))) f
        by true met result = let m = met_number c.mod_count its.mod_count met in (more c is m.0 m.1 (after_changes (Some c) main_op (next_number w.table)) result, listed_to c is m.0 m.1 (after_changes (Some c) main_op (next_number w.table)) result)
        by false met result =
            let r = refused_number c.mod_count its.mod_count met in (
              w.formers,
              refused_to (update_refusal (Some c) (Some (Unchanged its.mod_count))) (end.Skipped e.number c.mod_count) result (behind_of c is r)
                  (skipped e.number c.mod_count (elim r [ inl other ↦ inl (λ at. other (at ∙ main_number)) | inr last ↦ inr (main_number ∙ last) ])),
            )

  -- the copy is looked for
  pub find_to : (x : Splitter) (k : ℕ) (o : SplitEnd) → TakesBack w.table x.path k o → (d : Option Document) → Goes (record x { step = step.Find k o }) (splitting.fed (record x { step = step.Find k o }) (reply.Found d)) w.formers
  find_to x k o takes None = record { makes = Still refl; lists = λ p j h. absurd h; holds = λ p j h. absurd h; may = takes.ends; reader = refl; grow = same_formers }
  find_to x k o takes (Some d) = record { makes = Still refl; lists = λ p j h. absurd h; holds = λ p j h. inl h; may = takes; reader = refl; grow = same_formers }

  -- and taken away
  pub remove_to : (x : Splitter) (k number : ℕ) (o : SplitEnd) → TakesBack w.table x.path k o → (r : RemoveOut) → removal_of w.table (id.Prev k x.path) number ≡ r → Goes (record x { step = step.Remove k number o }) (record x { step = step.Done o }) w.formers
  remove_to x k number o takes r is = record { makes = by r is; lists = λ p j h. absurd (none r is p j h); holds = λ p j h. absurd h; may = takes.ends; reader = refl; grow = same_formers }
    where
      by : (r : RemoveOut) → removal_of w.table (id.Prev k x.path) number ≡ r → Makes w s (to (record x { step = step.Remove k number o }) w.formers)
      by removal.Removed is = TakenBack x.path k (splits_undo w s (id.Prev k x.path) number is) (record { sorted = tested id_cmp w.table.documents table.ordered; unlisted = copy_unlisted x.path k takes.copy takes.copied }) takes.behind
      by (removal.Changed f) is = Went kind.Split (changed_stay w s (id.Prev k x.path) number f kind.Split is) refl refl
      by removal.Absent is = Went kind.Split (absent_stay w s (id.Prev k x.path) number kind.Split is) refl refl

      none : (r : RemoveOut) (is : removal_of w.table (id.Prev k x.path) number ≡ r) (p : Path) (j : ℕ) → lists_copy (by r is) p j → ⊥
      none removal.Removed is p j h = h
      none (removal.Changed f) is p j h = h
      none removal.Absent is p j h = h
