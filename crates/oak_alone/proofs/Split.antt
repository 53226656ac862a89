-- A split that steps alone ends as over documents at rest: what it writes stands under an id that it doesn't ask for before it knows its end.
use Rattle.std.proofs.Common.{◌≡◌, ◌≢◌, inl, inr, ℕ, zero, suc, Bool, true, false, cond, List, [], ◌∷◌, Option, Some, None, Result, Ok, Err, refl, sym, ap, ◌∙◌, subst}
use Rattle.std.specs.BTreeMap.{is_at}
use Rattle.std.specs.Map.{remove_entry}
use Rattle.std.specs.Option.{option_map_or}
use Rattle.std.specs.Ordering.{eq_by_cmp}
use Rattle.std.specs.declared.alloc.Global.{Global}
use Rattle.std.proofs.lemmas.List.Elements.{recursion_from_All}
use Rattle.jr_path.specs.Ids.{id_cmp}
use Rattle.jr_path.specs.declared.path.DocId.{DocId}
use Rattle.jr_path.specs.declared.path.DocId.TheVariants as id
use Rattle.jr_path.specs.declared.path.Path.{Path}
use Rattle.jr_rev.specs.declared.vector.Pin.{Pin}
use Rattle.oak_doc.specs.declared.asks.Ask.TheVariants as ask
use Rattle.oak_doc.specs.declared.asks.RemoveOut.{RemoveOut}
use Rattle.oak_doc.specs.declared.asks.RemoveOut.TheVariants as removal
use Rattle.oak_doc.specs.declared.asks.Reply.TheVariants as reply
use Rattle.oak_doc.specs.declared.asks.SplitEnd.{SplitEnd}
use Rattle.oak_doc.specs.declared.asks.SplitEnd.TheVariants as end
use Rattle.oak_doc.specs.declared.document.Document.{Document}
use Rattle.oak_doc.specs.declared.document.PrevEntry.{PrevEntry}
use Rattle.oak_doc.specs.declared.update.Cond.TheVariants.{Unchanged}
use Rattle.oak_doc.specs.declared.update.OpFault.{OpFault}
use Rattle.oak_doc.specs.declared.update.UpdateOp.{UpdateOp}
use Rattle.oak_doc.specs.Updates.{after_changes, is_met, update_refusal, updated}
use Rattle.oak_machine.specs.declared.event.Event.{Event}
use Rattle.oak_machine.specs.declared.event.Event.TheVariants as event
use Rattle.oak_machine.specs.History.{Past}
use Rattle.oak_node.specs.Memory.{NodeState}
use Rattle.oak_port.specs.declared.task.TaskEnd.{TaskEnd}
use Rattle.oak_port.specs.declared.task.TaskEnd.TheVariants as ends
use Rattle.oak_prev.proofs.Resting.{named_found, splits_what_moves}
use Rattle.oak_prev.specs.Moving.{documents_known}
use Rattle.oak_prev.specs.Resting.{SplitEndsIn, split_end, splitter_after, splitter_answer, update_reply}
use Rattle.oak_prev.specs.Splits.{listed_as, main_write, moved_count, previous_write}
use Rattle.oak_prev.specs.Splitting.{begun, due, fed, fed_read, known, on_next_root, split_ended}
use Rattle.oak_prev.specs.Wanted.{roots_wanted}
use Rattle.oak_prev.specs.declared.reading.Reading.{Reading}
use Rattle.oak_prev.specs.declared.splitter.Splitter.{Splitter}
use Rattle.oak_prev.specs.declared.splitter.Step.{Step}
use Rattle.oak_prev.specs.declared.splitter.Step.TheVariants as step
use Rattle.oak_read.proofs.Walking.{Within, within_noted}
use Rattle.oak_read.specs.Meaning.{documents_in, path_of}
use Rattle.oak_read.specs.Reading.{IsTable, with_known}
use Rattle.oak_read.specs.Wanted.{Ids}
use Rattle.oak_store.specs.Tables.{Table, after_removal, found, next_number, removal_of}
use Rattle.core_world.proofs.Tables.{one_id, put_is}
use Rattle.core_world.specs.States.{nodes_in}
use Rattle.core_world.specs.Steps.{after_update, with_result}
use Rattle.oak_acts.specs.Acts.{replied}
use Rattle.oak_tidy.specs.declared.tidying.Tidying.{Tidying}
use Rattle.oak_tidy.specs.declared.tidying.Tidying.TheVariants as tidying
use Rattle.oak_tidy.specs.Replies.{all_parts, table_after, told_to}
use Rattle.oak_tidy.specs.Tidyings.{TidiesTo, tidying_ask}
use Rattle.oak_alone.specs.Alone.{HasMoved, HasSkipped, SplitsTo}
use Rattle.oak_alone.proofs.Steps.{IsKeptAlone, events_with, next_of}

-- ---- over documents at rest

module _ (rest : List (DocId × Document)) (out : SplitEnd) where
  -- a splitter ends so over them
  abbrev pub EndsSo : Splitter → Type 0
  EndsSo x = SplitEndsIn rest x out

  is_ended : (n : ℕ) (x : Splitter) (o : SplitEnd) → (splitter_after rest n (split_ended x o)).step ≡ step.Done out → o ≡ out
  is_ended zero x o h = cc
  is_ended (suc n) x o h = is_ended n x o h

  ended : (x : Splitter) (o : SplitEnd) → EndsSo (split_ended x o) → o ≡ out
  ended x o e = is_ended e.0 x o e.1

  -- no removal is answered there
  never : (n : ℕ) (x : Splitter) (k f : ℕ) (o : SplitEnd) → (splitter_after rest n (record x { step = step.Remove k f o })).step ≡ step.Done out → ⊥
  never zero x k f o h = cc
  never (suc n) x k f o h = never n x k f o h

  -- a splitter that has still to ask
  module _ (x : Splitter) (busy : (o : SplitEnd) → x.step ≡ step.Done o → ⊥) where
    one_more : EndsSo x → EndsSo (fed x (splitter_answer rest (due x)))
    one_more e = by e.0 e.1
      where
        by : (n : ℕ) → (splitter_after rest n x).step ≡ step.Done out → EndsSo (fed x (splitter_answer rest (due x)))
        by zero h = absurd (busy out h)
        by (suc n) h = (n, h)

  -- what takes back its copy ends as it is to
  takes_back : (x : Splitter) (k : ℕ) (o : SplitEnd) → EndsSo (record x { step = step.Find k o }) → o ≡ out
  takes_back x k o e = by (documents_in rest (id.Prev k x.path)) (one_more (record x { step = step.Find k o }) (λ p h. apart p h) e)
    where
      apart : (p : SplitEnd) → step.Find k o ≡ step.Done p → ⊥
      apart p h = cc

      by : (d : Option Document) → EndsSo (option_map_or (λ d. record x { step = step.Remove k d.mod_count o }) d (split_ended x o)) → o ≡ out
      by None h = ended x o h
      by (Some d) h = absurd (never h.0 x k d.mod_count o h.1)

-- ---- while it steps

-- a previous document is put in: the node's document stays
put_beside : (t : Table) (x : DocId) (n : ℕ) (q p : Path) (r : Result Document OpFault) → x ≡ id.Prev n q → documents_in (with_result t x r).documents (id.Node p) ≡ documents_in t.documents (id.Node p)
put_beside t x n q p (Ok d) is = put_is t x d (next_number t) (id.Node p) ∙ ap (λ (i : DocId). cond (eq_by_cmp id_cmp (id.Node p) i) (Some d) (documents_in t.documents (id.Node p))) is
put_beside t x n q p (Err e) is = refl

-- a previous document is taken away: each node's document stays
removed_beside : (k : ℕ) (p q : Path) (es : List (DocId × Document)) → documents_in (remove_entry (is_at (id_cmp (id.Prev k p))) es) (id.Node q) ≡ documents_in es (id.Node q)
removed_beside k p q [] = refl
removed_beside k p q (e ∷ es) = by (eq_by_cmp id_cmp (id.Prev k p) e.0) refl (removed_beside k p q es)
  where
    by : (b : Bool) → eq_by_cmp id_cmp (id.Prev k p) e.0 ≡ b → documents_in (remove_entry (is_at (id_cmp (id.Prev k p))) es) (id.Node q) ≡ documents_in es (id.Node q)
        → documents_in (cond b es (e ∷ remove_entry (is_at (id_cmp (id.Prev k p))) es)) (id.Node q) ≡ documents_in (e ∷ es) (id.Node q)
    by true same rest = sym (ap (λ (i : DocId). cond (eq_by_cmp id_cmp (id.Node q) i) (Some e.1) (documents_in es (id.Node q))) (sym (one_id (id.Prev k p) e.0 same)))
    by false other rest = ap (λ (o : Option Document). cond (eq_by_cmp id_cmp (id.Node q) e.0) (Some e.1) o) rest

gone_beside : (t : Table) (k : ℕ) (p q : Path) (r : RemoveOut) → nodes_in (after_removal t (id.Prev k p) r) q ≡ nodes_in t q
gone_beside t k p q removal.Removed = removed_beside k p q t.documents
gone_beside t k p q (removal.Changed n) = refl
gone_beside t k p q removal.Absent = refl

-- what a splitter has read: the node's document, and commit roots
pub record HasRead (t0 : Table) (p : Path) (r : Reading) : Type 0 where
  pub there : found t0 (id.Node p) ≡ Some r.document
  pub own : r.document.id ≡ id.Node p
  pub roots : Within t0.documents r.roots

-- what it knows it has of the documents
read_among : (t0 : Table) (p : Path) (r : Reading) → HasRead t0 p r → (i : DocId) (x : Document) → documents_known r.document r.roots i ≡ Some x → documents_in t0.documents i ≡ Some x
read_among t0 p r read i x = by (eq_by_cmp id_cmp i r.document.id) refl
  where
    by : (b : Bool) → eq_by_cmp id_cmp i r.document.id ≡ b → cond b (Some r.document) (documents_in r.roots i) ≡ Some x → documents_in t0.documents i ≡ Some x
    by true same h = ap (documents_in t0.documents) (one_id i r.document.id same ∙ read.own) ∙ (read.there ∙ h)
    by false other h = read.roots i x h

-- it moves so many entries to a previous document, which e is to list
pub record Moves (pin : Pin) (r : Reading) (e : PrevEntry) (n : ℕ) : Type 0 where
  pub listed : listed_as (documents_known r.document r.roots) pin r.document ≡ Some e
  pub counted : n ≡ moved_count (documents_known r.document r.roots) pin r.document

module _ (s : ℕ) (ms : List NodeState) (t0 : Table) (table : IsTable t0.documents) (pin : Pin) (p : Path) (out : SplitEnd) where
  abbrev pub Ends : Splitter → Type 0
  Ends x = EndsSo t0.documents out x

  -- what a splitter that stands at a step has read, and what there is then
  abbrev pub IsAtStep : Step → Table → Splitter → Type 0
  IsAtStep step.Read t x = (t ≡ t0) × Ends x
  IsAtStep step.Root t x = (t ≡ t0) × Ends x × HasRead t0 p x.reading
  IsAtStep (step.Previous e n) t x = (t ≡ t0) × Ends x × HasRead t0 p x.reading × Moves x.pin x.reading e n
  IsAtStep (step.Main e n) t x =
      (t ≡ after_update t0 (previous_write (known x) x.pin x.reading.document)) × ((q : Path) → nodes_in t q ≡ nodes_in t0 q) × Ends x × HasRead t0 p x.reading × Moves x.pin x.reading e n
  IsAtStep (step.Find k o) t x = (o ≡ out) × HasSkipped t0 t o
  IsAtStep (step.Remove k f o) t x = (o ≡ out) × HasSkipped t0 t o
  IsAtStep (step.Done o) t x = (o ≡ out) × SplitsTo pin p t0 t o

  pub record IsAt (x : Splitter) (t : Table) : Type 0 where
    pub path : x.path ≡ p
    pub at_pin : x.pin ≡ pin
    pub at : IsAtStep x.step t x

  module _ (x : Splitter) (path : x.path ≡ p) (at_pin : x.pin ≡ pin) where
    -- nothing moves
    ends_still : Ends (split_ended x (end.Split 0)) → IsAt (split_ended x (end.Split 0)) t0
    ends_still h = record { path = path; at_pin = at_pin; at = (ended t0.documents out x (end.Split 0) h, inl (refl, refl)) }

    -- it knows what moves
    moves : HasRead t0 p x.reading → (o : Option PrevEntry) → listed_as (known x) x.pin x.reading.document ≡ o
        → Ends (option_map_or (λ e. record x { step = step.Previous e (moved_count (known x) x.pin x.reading.document) }) o (split_ended x (end.Split 0)))
        → IsAt (option_map_or (λ e. record x { step = step.Previous e (moved_count (known x) x.pin x.reading.document) }) o (split_ended x (end.Split 0))) t0
    moves read None is h = ends_still h
    moves read (Some e) is h = record { path = path; at_pin = at_pin; at = (refl, h, read, record { listed = is; counted = refl }) }

  -- it has still to ask for commit roots, or knows what moves
  on_next : (x : Splitter) → x.path ≡ p → x.pin ≡ pin → HasRead t0 p x.reading → Ends (on_next_root x) → IsAt (on_next_root x) t0
  on_next x path at_pin read = by x.left
    where
      by : (left : Ids) → Ends (on_next_root (record x { left = left })) → IsAt (on_next_root (record x { left = left })) t0
      by [] h = moves (record x { left = [] }) path at_pin read (listed_as (known x) x.pin x.reading.document) refl h
      by (i ∷ is) h = record { path = path; at_pin = at_pin; at = (refl, h, read) }

  nothing_known : Within t0.documents []
  nothing_known x d h = cc

  module _ (x : Splitter) (path : x.path ≡ p) (at_pin : x.pin ≡ pin) where
    read_on : Ends (record x { step = step.Read }) → IsAt (fed (record x { step = step.Read }) (reply.Found (found t0 (id.Node x.path)))) t0
    read_on h = by (found t0 (id.Node x.path)) refl (one_more t0.documents out (record x { step = step.Read }) apart h)
      where
        apart : (o : SplitEnd) → step.Read ≡ step.Done o → ⊥
        apart o e = cc

        by : (o : Option Document) → found t0 (id.Node x.path) ≡ o → Ends (option_map_or (fed_read (record x { step = step.Read })) o (split_ended (record x { step = step.Read }) (end.Split 0)))
            → IsAt (option_map_or (fed_read (record x { step = step.Read })) o (split_ended (record x { step = step.Read }) (end.Split 0))) t0
        by None there h = ends_still x path at_pin h
        by (Some d) there h =
            let node : id.Node x.path ≡ id.Node p = ap (λ (q : Path). id.Node q) path in
            let own : d.id ≡ id.Node p = named_found t0.documents (recursion_from_All _ t0.documents table.named) (id.Node x.path) d there ∙ node in
            on_next (record x { reading = record { document = d; roots = [] }; left = roots_wanted x.pin d; step = step.Read }) path at_pin
            (record { there = sym (ap (found t0) node) ∙ there; own = own; roots = nothing_known }) h

    module _ (read : HasRead t0 p x.reading) where
      root_on : Ends (record x { step = step.Root }) → IsAt (fed (record x { step = step.Root }) (reply.Found (found t0 x.asked))) t0
      root_on h =
          on_next (record x { reading = record x.reading { roots = with_known x.reading.roots x.asked (found t0 x.asked) }; step = step.Root }) path at_pin
          (record { there = read.there; own = read.own; roots = within_noted t0.documents x.reading.roots read.roots x.asked })
          (one_more t0.documents out (record x { step = step.Root }) apart h)
        where
          apart : (o : SplitEnd) → step.Root ≡ step.Done o → ⊥
          apart o e = cc

      module _ (e : PrevEntry) (n : ℕ) (moved : Moves x.pin x.reading e n) where
        abbrev writes : UpdateOp
        writes = previous_write (known x) x.pin x.reading.document

        previous_on : Ends (record x { step = step.Previous e n }) → (o : Option Document) → found t0 writes.id ≡ o
            → IsAt (fed (record x { step = step.Previous e n }) (replied o (updated o writes (next_number t0)))) (with_result t0 writes.id (updated o writes (next_number t0)))
        previous_on h o there = by o there (subst (λ (o : Option Document). Ends (fed (record x { step = step.Previous e n }) (update_reply o (updated o writes 0)))) there (one_more t0.documents out (record x { step = step.Previous e n }) apart h))
          where
            apart : (o : SplitEnd) → step.Previous e n ≡ step.Done o → ⊥
            apart o e = cc

            by : (o : Option Document) → found t0 writes.id ≡ o → Ends (fed (record x { step = step.Previous e n }) (update_reply o (updated o writes 0)))
                → IsAt (fed (record x { step = step.Previous e n }) (replied o (updated o writes (next_number t0)))) (with_result t0 writes.id (updated o writes (next_number t0)))
            by None there h = record {
              path = path;
              at_pin = at_pin;
              at = (
                sym (ap (λ (o : Option Document). with_result t0 writes.id (updated o writes (next_number t0))) there),
                λ q. put_beside t0 writes.id x.reading.document.mod_count (path_of x.reading.document.id) q (Ok (after_changes None writes (next_number t0))) refl,
                h,
                read,
                moved,
              );
            }
            by (Some d) there h = ends_still (record x { step = step.Previous e n }) path at_pin h

        abbrev lists : UpdateOp
        lists = main_write (known x) x.pin x.reading.document e

        main_on : (t : Table) → t ≡ after_update t0 writes → ((q : Path) → nodes_in t q ≡ nodes_in t0 q) → Ends (record x { step = step.Main e n })
            → IsAt (fed (record x { step = step.Main e n }) (replied (found t lists.id) (updated (found t lists.id) lists (next_number t)))) (after_update t lists)
        main_on t copied same h =
            let then : found t0 lists.id ≡ Some x.reading.document = ap (found t0) read.own ∙ read.there in
            let now : found t lists.id ≡ Some x.reading.document = ap (found t) read.own ∙ (same p ∙ read.there) in
            subst (λ (o : Option Document). IsAt (fed (record x { step = step.Main e n }) (replied o (updated o lists (next_number t)))) (after_update t lists)) (sym now)
            (met (is_met (Some x.reading.document) (Some (Unchanged x.reading.document.mod_count))) (ap (λ (o : Option Document). with_result t lists.id (updated o lists (next_number t))) now)
            (subst (λ (o : Option Document). Ends (fed (record x { step = step.Main e n }) (update_reply o (updated o lists 0)))) then (one_more t0.documents out (record x { step = step.Main e n }) apart h)))
          where
            apart : (o : SplitEnd) → step.Main e n ≡ step.Done o → ⊥
            apart o e = cc

            has_moved : HasMoved x.pin p t0 (after_update t lists) (end.Split n)
            has_moved = record {
              read = known x;
              among = read_among t0 p x.reading read;
              document = x.reading.document;
              there = read.there;
              entry = e;
              listed = moved.listed;
              counted = ap (λ (k : ℕ). end.Split k) moved.counted;
              documents = ap (λ (u : Table). after_update u lists) copied;
            }

            met : (b : Bool)
                → after_update t lists ≡ with_result t lists.id (cond b (Ok (after_changes (Some x.reading.document) lists (next_number t))) (Err (update_refusal (Some x.reading.document) (Some (Unchanged x.reading.document.mod_count)))))
                → Ends (fed (record x { step = step.Main e n }) (update_reply (Some x.reading.document) (cond b (Ok (after_changes (Some x.reading.document) lists 0)) (Err (update_refusal (Some x.reading.document) (Some (Unchanged x.reading.document.mod_count)))))))
                → IsAt (fed (record x { step = step.Main e n }) (replied (Some x.reading.document) (cond b (Ok (after_changes (Some x.reading.document) lists (next_number t))) (Err (update_refusal (Some x.reading.document) (Some (Unchanged x.reading.document.mod_count))))))) (after_update t lists)
            met true left h = record {
              path = path;
              at_pin = at_pin;
              at = (ended t0.documents out (record x { step = step.Main e n }) (end.Split n) h, inr (inl (subst (λ (q : Pin). HasMoved q p t0 (after_update t lists) (end.Split n)) at_pin has_moved)));
            }
            met false left h = record {
              path = path;
              at_pin = at_pin;
              at = (takes_back t0.documents out (record x { step = step.Main e n }) e.number (end.Skipped e.number x.reading.document.mod_count) h, (e.number, x.reading.document.mod_count, refl, λ q. ap (λ (u : Table). nodes_in u q) left ∙ same q));
            }

  goes_by : (x : Splitter) (st : Step) (t : Table) → x.path ≡ p → x.pin ≡ pin → IsAtStep st t (record x { step = st })
      → IsAt (fed (record x { step = st }) (told_to (all_parts t ms []) (due (record x { step = st })))) (table_after t (due (record x { step = st })))
  goes_by x step.Read t path at_pin at = subst (λ (t : Table). IsAt (fed (record x { step = step.Read }) (reply.Found (found t (id.Node x.path)))) t) (sym at.0) (read_on x path at_pin at.1)
  goes_by x step.Root t path at_pin at = subst (λ (t : Table). IsAt (fed (record x { step = step.Root }) (reply.Found (found t x.asked))) t) (sym at.0) (root_on x path at_pin at.2 at.1)
  goes_by x (step.Previous e n) t path at_pin at =
      let op = previous_write (known x) x.pin x.reading.document in
      subst (λ (t : Table). IsAt (fed (record x { step = step.Previous e n }) (replied (found t op.id) (updated (found t op.id) op (next_number t)))) (with_result t op.id (updated (found t op.id) op (next_number t)))) (sym at.0)
      (previous_on x path at_pin at.2 e n at.3 at.1 (found t0 op.id) refl)
  goes_by x (step.Main e n) t path at_pin at = main_on x path at_pin at.3 e n at.4 t at.0 at.1 at.2
  goes_by x (step.Find k o) t path at_pin at = by (found t (id.Prev k x.path))
    where
      by : (d : Option Document) → IsAt (option_map_or (λ d. record x { step = step.Remove k d.mod_count o }) d (split_ended x o)) t
      by None = record { path = path; at_pin = at_pin; at = (at.0, inr (inr at.1)) }
      by (Some d) = record { path = path; at_pin = at_pin; at = at }
  goes_by x (step.Remove k f o) t path at_pin at =
      let gone = gone_beside t k x.path in
      record {
        path = path;
        at_pin = at_pin;
        at = (at.0, inr (inr (at.1.0, at.1.1, at.1.2, λ q. gone q (removal_of t (id.Prev k x.path) f) ∙ at.1.3 q)));
      }
  goes_by x (step.Done o) t path at_pin at = record { path = path; at_pin = at_pin; at = at }

  abbrev pub Splits : Tidying → Table → Past → Type 0
  Splits (tidying.Split x) t es = IsAt x t
  Splits (tidying.Collect c) t es = ⊥

  -- it has ended, and tells this
  abbrev pub HasEnded : Event → Table → Past → Type 0
  HasEnded told t es = (told ≡ event.Split s p out) × SplitsTo pin p t0 t out

  goes : (x : Tidying) (t : Table) (es : Past) → Splits x t es → tidying_ask (next_of ms t x) ≢ ask.Done → Splits (next_of ms t x) (table_after t (tidying_ask x)) (events_with s ms t x es)
  goes (tidying.Split x) t es is busy = goes_by x x.step t is.path is.at_pin is.at
  goes (tidying.Collect c) t es is busy = absurd is

  ends_so : (x : Tidying) (t : Table) (es : Past) → Splits x t es → (e : TaskEnd) (told : Event) → TidiesTo s (next_of ms t x) e told → HasEnded told (table_after t (tidying_ask x)) (events_with s ms t x es)
  ends_so (tidying.Split x) t es is (ends.Split k) told h =
      let y : Splitter = fed x (told_to (all_parts t ms []) (due x)) in
      let u : Table = table_after t (due x) in
      let then : IsAt y u = goes_by x x.step t is.path is.at_pin is.at in
      let so : (k ≡ out) × SplitsTo pin p t0 u k = subst (λ (st : Step). IsAtStep st u y) h.0 then.at in (
        h.1 ∙ (ap (λ (q : Path). event.Split s q k) then.path ∙ ap (λ (o : SplitEnd). event.Split s p o) so.0),
        subst (λ (o : SplitEnd). SplitsTo pin p t0 u o) so.0 so.1,
      )
  ends_so (tidying.Split x) t es is _ told h = absurd h
  ends_so (tidying.Collect c) t es is e told h = absurd is

  pub splits_alone : IsKeptAlone s ms Splits HasEnded
  splits_alone = record { goes = goes; ends = ends_so }

-- it begins
pub split_begins : (s : ℕ) (ms : List NodeState) (t0 : Table) (table : IsTable t0.documents) (a : Global) (pin : Pin) (p : Path)
    → Splits s ms t0 table pin p (split_end (documents_in t0.documents) pin p) (tidying.Split (begun a pin p)) t0 []
split_begins s ms t0 table a pin p = record { path = refl; at_pin = refl; at = (refl, splits_what_moves t0.documents a pin p table) }
