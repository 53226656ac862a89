-- Updates that list no previous document and unlist none: what is listed stays.
use Rattle.std.proofs.Common.{◌≡◌, ℕ, Bool, true, false, cond, not, ◌&&◌, ◌++◌, Some, None, Option, List, [], ◌∷◌, filter_map, is_none, refl, sym, ap, ◌∙◌, subst}
use Rattle.std.proofs.Math.Path.{fun_ext}
use Rattle.std.specs.Prelude.{Err, Ok, Result}
use Rattle.std.specs.List.{flat_map, fold, list_all}
use Rattle.std.specs.Option.{option_map_or}
use Rattle.std.specs.Ordering.{eq_by_cmp}
use mathlib.Core.Bool.{false≢true}
use Rattle.jr_path.specs.Names.{path_cmp}
use Rattle.jr_path.specs.declared.path.DocId.{DocId}
use Rattle.jr_path.specs.declared.path.DocId.TheVariants as id
use Rattle.jr_path.specs.declared.path.Path.{Path}
use Rattle.jr_rev.specs.declared.revision.Revision.{Revision}
use Rattle.jr_tree.specs.declared.edit.Write.{Write}
use Rattle.jr_tree.specs.declared.edit.Write.TheVariants.{Here, Gone, Put, Unset}
use Rattle.oak_clash.specs.declared.mark.Mark.{Mark}
use Rattle.oak_clash.specs.declared.mark.Mark.TheVariants.{Touch, Guard}
use Rattle.oak_clash.specs.declared.mark.MarkAt.{MarkAt}
use Rattle.oak_clash.specs.Clashes.{commit_root, marks_at}
use Rattle.oak_commit.specs.Clashing.{Met, mark_op}
use Rattle.oak_commit.specs.Writing.{entries_at, entry_of, last_op, marking_of, markings_at, rooting, write_op}
use Rattle.oak_doc.specs.declared.document.Document.{Document}
use Rattle.oak_doc.specs.declared.update.Change.{Change}
use Rattle.oak_doc.specs.declared.update.Change.TheVariants as change
use Rattle.oak_doc.specs.declared.update.OpFault.{OpFault}
use Rattle.oak_doc.specs.declared.update.OpFault.TheVariants as fault
use Rattle.oak_doc.specs.declared.update.Kept.TheVariants as kept
use Rattle.oak_doc.specs.declared.update.UpdateOp.{UpdateOp}
use Rattle.oak_doc.specs.Updates.{after_changes, changed, document_of, is_met, update_refusal, undone, updated}
use Rattle.oak_read.specs.Meaning.{documents_in}
use Rattle.oak_store.specs.Tables.{Table, after_undo, found, next_number, with_document}
use Rattle.core_clash.specs.Core.{root_of}
use Rattle.oak_commit.specs.Looking.{whole}
use Rattle.core_clash.specs.Sessions.{Running}
use Rattle.core_keep.proofs.Garbage.{same_parts}
use Rattle.core_world.specs.States.{State, listed_at, moved_in, nodes_in}
use Rattle.core_world.specs.Steps.{after_last, after_mark, after_undoing, after_update, after_write, after_write_in_want, lasted_by, marked_by, setting_op, with_result}
use Rattle.oak_sync.specs.Publishing.{back_op}
use Rattle.oak_sweep.specs.Sweeping.{sweep_op}
use Rattle.core_world.proofs.Tables.{lists_stay, put_is, put_main, undo_main, undo_none}
use Rattle.core_world.proofs.Writing.{all_append}

-- the change lists nothing and unlists nothing
abbrev pub is_still : Change → Bool
is_still (change.List e) = false
is_still (change.Unlist n) = false
is_still c = true

one_still : (c : Change) (d : Document) → is_still c ≡ true → (changed d c).prev ≡ d.prev
one_still (change.List e) d h = absurd (false≢true h)
one_still (change.Unlist n) d h = absurd (false≢true h)
one_still (change.Prune keys) d h = (same_parts keys d).0
one_still c d h = refl

pub still_prev : (cs : List Change) (d : Document) → list_all is_still cs ≡ true → (fold changed d cs).prev ≡ d.prev
still_prev [] d h = refl
still_prev (c ∷ cs) d h = by (still_prev cs (changed d c)) (is_still c) refl h
  where
    by : (list_all is_still cs ≡ true → (fold changed (changed d c) cs).prev ≡ (changed d c).prev) → (b : Bool) → is_still c ≡ b → (b && list_all is_still cs) ≡ true → (fold changed (changed d c) cs).prev ≡ d.prev
    by rest true e k = rest k ∙ one_still c d e
    by rest false e k = absurd (false≢true k)

-- a document that lists what it listed
pub still_document : (o : Option Document) (op : UpdateOp) (n : ℕ) → list_all is_still op.changes ≡ true → (after_changes o op n).prev ≡ option_map_or (λ d. d.prev) o []
still_document None op n h = still_prev op.changes (document_of None op.id) h
still_document (Some d) op n h = still_prev op.changes d h

-- an update that is done leaves such a document
made_prev : (o : Option Document) (op : UpdateOp) (n : ℕ) → list_all is_still op.changes ≡ true → (d : Document) → updated o op n ≡ Ok d → d.prev ≡ option_map_or (λ d. d.prev) o []
made_prev o op n all d h = by (is_none o && not op.create) (is_met o op.cond) h
  where
    out : Document → Result Document OpFault → Document
    out x (Ok y) = y
    out x (Err g) = x

    none : Result Document OpFault → Bool
    none (Ok y) = false
    none (Err g) = true

    by : (a b : Bool) → cond a (Err fault.Absent) (cond b (Ok (after_changes o op n)) (Err (update_refusal o op.cond))) ≡ Ok d → d.prev ≡ option_map_or (λ d. d.prev) o []
    by true b k = absurd (false≢true (sym (ap none k)))
    by false true k = subst (λ (x : Document). x.prev ≡ option_map_or (λ d. d.prev) o []) (ap (out d) k) (still_document o op n all)
    by false false k = absurd (false≢true (sym (ap none k)))

module _ (t : Table) where
  pub put_lists : (p : Path) (d : Document) (n : ℕ) → d.prev ≡ option_map_or (λ d. d.prev) (nodes_in t p) [] → listed_at (with_document t (id.Node p) d n) ≡ listed_at t
  put_lists p d n same = lists_stay t (with_document t (id.Node p) d n) p d (put_main t p d n) same

  pub update_lists : (p : Path) (op : UpdateOp) → op.id ≡ id.Node p → list_all is_still op.changes ≡ true → listed_at (after_update t op) ≡ listed_at t
  update_lists p op at all = by (is_none (found t op.id) && not op.create) (is_met (found t op.id) op.cond)
    where
      made : listed_at (with_document t op.id (after_changes (found t op.id) op (next_number t)) (next_number t)) ≡ listed_at t
      made = subst (λ (i : DocId). listed_at (with_document t i (after_changes (found t i) op (next_number t)) (next_number t)) ≡ listed_at t) (sym at)
          (put_lists p (after_changes (found t (id.Node p)) op (next_number t)) (next_number t) (still_document (found t (id.Node p)) op (next_number t) all))

      by : (a b : Bool) → listed_at (with_result t op.id (cond a (Err fault.Absent) (cond b (Ok (after_changes (found t op.id) op (next_number t))) (Err (update_refusal (found t op.id) op.cond))))) ≡ listed_at t
      by true b = refl
      by false true = made
      by false false = refl

  -- the settings are no node's document
  pub settings_lists : (c : Change) → listed_at (after_update t (setting_op c)) ≡ listed_at t
  settings_lists c = by (is_none (found t id.Settings) && true)
    where
      made : listed_at (with_document t id.Settings (after_changes (found t id.Settings) (setting_op c) (next_number t)) (next_number t)) ≡ listed_at t
      made = fun_ext (λ p. ap (λ (o : Option Document). option_map_or (λ d. d.prev) o []) (put_is t id.Settings (after_changes (found t id.Settings) (setting_op c) (next_number t)) (next_number t) (id.Node p)))

      by : (a : Bool) → listed_at (with_result t id.Settings (cond a (Err fault.Absent) (Ok (after_changes (found t id.Settings) (setting_op c) (next_number t))))) ≡ listed_at t
      by true = refl
      by false = made

  pub undo_lists : (p : Path) (r : Revision) → listed_at (after_undo t (id.Node p) r) ≡ listed_at t
  undo_lists p r = by (found t (id.Node p)) refl
    where
      by : (o : Option Document) → found t (id.Node p) ≡ o → listed_at (after_undo t (id.Node p) r) ≡ listed_at t
      by None is = ap (λ es. λ q. option_map_or (λ d. d.prev) (documents_in es (id.Node q)) []) (undo_none t p r is)
      by (Some d) is = lists_stay t (after_undo t (id.Node p) r) p (undone d r (next_number t)) (undo_main t p r d is) (sym (ap (λ (o : Option Document). option_map_or (λ d. d.prev) o []) is))

  -- where nothing is listed, nothing has moved, and the document is all
  pub none_moved : (p : Path) → listed_at t p ≡ [] → moved_in t p ≡ []
  none_moved p none = by (nodes_in t p) none
    where
      by : (o : Option Document) → option_map_or (λ d. d.prev) o [] ≡ [] → option_map_or (λ d. filter_map (λ e. documents_in t.documents (id.Prev e.number p)) d.prev) o [] ≡ []
      by None h = refl
      by (Some d) h = ap (filter_map (λ e. documents_in t.documents (id.Prev e.number p))) h

  pub whole_alone : (p : Path) → listed_at t p ≡ [] → whole p (nodes_in t p) (moved_in t p) ≡ nodes_in t p
  whole_alone p none = ap (whole p (nodes_in t p)) (none_moved p none)

-- ---- the write of a document

entries_still : (r : Revision) (p : Path) (ws : List Write) → list_all is_still (entries_at r p ws) ≡ true
entries_still r p [] = refl
entries_still r p (u ∷ us) = all_append is_still (entry_of r p u) (entries_at r p us) (one u) (entries_still r p us)
  where
    alone : (b : Bool) (c : Change) → is_still c ≡ true → list_all is_still (cond b (c ∷ []) []) ≡ true
    alone true c h = ap (λ b. b && true) h
    alone false c h = refl

    one : (u : Write) → list_all is_still (entry_of r p u) ≡ true
    one (Here q) = alone (eq_by_cmp path_cmp p q) (change.Deleted r false) refl
    one (Gone q) = alone (eq_by_cmp path_cmp p q) (change.Deleted r true) refl
    one (Put q m x) = alone (eq_by_cmp path_cmp p q) (change.Prop m r (Some x)) refl
    one (Unset q m) = alone (eq_by_cmp path_cmp p q) (change.Prop m r None) refl

rooting_still : (r : Revision) (p root : Path) → list_all is_still (rooting r p root) ≡ true
rooting_still r p root = by (eq_by_cmp path_cmp p root)
  where
    by : (b : Bool) → list_all is_still (cond b [] (change.CommitRoot r (Rattle.std.proofs.Common.length root) ∷ [])) ≡ true
    by true = refl
    by false = refl

markings_still : (r : Revision) (ms : List Mark) → list_all is_still (flat_map (marking_of r) ms) ≡ true
markings_still r [] = refl
markings_still r (m ∷ ms) = all_append is_still (marking_of r m) (flat_map (marking_of r) ms) (one m) (markings_still r ms)
  where
    one : (m : Mark) → list_all is_still (marking_of r m) ≡ true
    one Touch = refl
    one Guard = refl
    one m = refl

pub write_still : (r : Revision) (ws : List Write) (ms : List MarkAt) (p : Path) → list_all is_still (write_op r ws ms p).changes ≡ true
write_still r ws ms p = all_append is_still (entries_at r p ws) (rooting r p (commit_root ms) ++ markings_at r p ms) (entries_still r p ws)
    (all_append is_still (rooting r p (commit_root ms)) (markings_at r p ms) (rooting_still r p (commit_root ms)) (markings_still r (marks_at p ms)))

-- ---- the steps of committers

module _ (w : State) (s : ℕ) (x : Running) where
  pub write_lists : (p : Path) (rest : List Path) → listed_at (after_write w s x p rest).table ≡ listed_at w.table
  write_lists p rest = update_lists w.table p (write_op x.draw.revision x.draw.edit.writes x.draw.marks p) refl (write_still x.draw.revision x.draw.edit.writes x.draw.marks p)

  pub want_lists : (p : Path) (rest : List Path) → listed_at (after_write_in_want w s x p rest).table ≡ listed_at w.table
  want_lists p rest = update_lists w.table p (write_op x.draw.revision x.draw.edit.writes x.draw.marks p) refl (write_still x.draw.revision x.draw.edit.writes x.draw.marks p)

  marked_lists : (f : Met) (rest : List Met) (o : Result Document OpFault) → ((d : Document) → o ≡ Ok d → d.prev ≡ option_map_or (λ d. d.prev) (nodes_in w.table (root_of w.past f.other)) []) → listed_at (marked_by w s x f rest o).table ≡ listed_at w.table
  marked_lists f rest (Ok d) same = put_lists w.table (root_of w.past f.other) d (next_number w.table) (same d refl)
  marked_lists f rest (Err g) same = refl

  lasted_lists : (o : Result Document OpFault) → ((d : Document) → o ≡ Ok d → d.prev ≡ option_map_or (λ d. d.prev) (nodes_in w.table (commit_root x.draw.marks)) []) → listed_at (lasted_by w s x o).table ≡ listed_at w.table
  lasted_lists (Ok d) same = put_lists w.table (commit_root x.draw.marks) d (next_number w.table) (same d refl)
  lasted_lists (Err (fault.Unmet c (kept.Entry o item))) same = refl
  lasted_lists (Err g) same = refl

  pub mark_lists : (f : Met) (rest : List Met) → listed_at (after_mark w s x f rest).table ≡ listed_at w.table
  mark_lists f rest = marked_lists f rest _ (made_prev (nodes_in w.table (root_of w.past f.other)) (mark_op (root_of w.past f.other) f.other x.draw.revision f.theirs) (next_number w.table) refl)

  pub last_lists : listed_at (after_last w s x).table ≡ listed_at w.table
  last_lists = lasted_lists _ (made_prev (nodes_in w.table (commit_root x.draw.marks)) (last_op x.draw.revision x.draw.marks) (next_number w.table) refl)

  pub undoing_lists : (p : Path) (rest : List Path) → listed_at (after_undoing w s x p rest).table ≡ listed_at w.table
  undoing_lists p rest = undo_lists w.table p x.draw.revision

pub back_lists : (t : Table) (p : Path) (r : Revision) → listed_at (after_update t (back_op p r)) ≡ listed_at t
back_lists t p r = update_lists t p (back_op p r) refl refl

pub sweep_lists : (t : Table) (r : Revision) → listed_at (after_update t (sweep_op r)) ≡ listed_at t
sweep_lists t r = update_lists t [] (sweep_op r) refl refl
