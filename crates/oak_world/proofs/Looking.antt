-- What looks of committers come to, where the previous documents stay.
use mathlib.Core.Bool.{false≢true}
use Rattle.std.proofs.Common.{◌≡◌, ℕ, suc, Bool, true, false, cond, Option, Some, None, List, [], ◌∷◌, ◌++◌, length, map, fold, filter_map, refl, sym, ap, subst, ◌∙◌}
use Rattle.std.proofs.lemmas.List.{length-map}
use Rattle.std.specs.Prelude.{Result, Ok, Err}
use Rattle.std.specs.List.{flat_map}
use Rattle.std.specs.Map.{keys_of}
use Rattle.std.specs.Option.{option_map_or}
use Rattle.std.specs.Ordering.{eq_by_cmp}
use Rattle.jr_path.specs.Ids.{id_cmp, names_of}
use Rattle.jr_path.specs.declared.name.Name.{Name}
use Rattle.jr_path.specs.declared.path.DocId.{DocId}
use Rattle.jr_path.specs.declared.path.DocId.TheVariants as id
use Rattle.jr_path.specs.declared.path.Path.{Path}
use Rattle.jr_rev.specs.declared.revision.Revision.{Revision}
use Rattle.jr_value.specs.declared.value.Property.{Property}
use Rattle.oak_commit.proofs.Looks.{filled_whole}
use Rattle.oak_commit.specs.Committing.{Committing, looking_on, meeting, wanting, written, wrote}
use Rattle.oak_commit.specs.Looking.{entries_in, put_back, whole, with_found}
use Rattle.oak_commit.specs.declared.look.Look.{Look}
use Rattle.oak_doc.specs.declared.document.Document.{Document}
use Rattle.oak_doc.specs.declared.document.PrevEntry.{PrevEntry}
use Rattle.oak_doc.specs.declared.update.Change.{Change}
use Rattle.oak_doc.specs.declared.update.Change.TheVariants as change
use Rattle.oak_doc.specs.declared.update.OpFault.{OpFault}
use Rattle.oak_doc.specs.declared.update.UpdateOp.{UpdateOp}
use Rattle.oak_doc.specs.Updates.{Props, changed, undone, updated, values_of_property}
use Rattle.oak_read.specs.Meaning.{commit_root_of, documents_in}
use Rattle.oak_store.specs.Tables.{Table, after_undo, found, next_number, with_document}
use Rattle.core_clash.specs.Sound.{IsRooted}
use Rattle.core_world.specs.States.{State, listed_at, moved_in, nodes_in}
use Rattle.core_world.specs.Steps.{after_update, after_want, with_result}
use Rattle.core_world.proofs.Tables.{one_id, put_is, undo_at, undo_none}
use Rattle.oak_step.specs.declared.work.Work.{Work}
use Rattle.oak_step.specs.declared.work.Work.TheVariants as work
use Rattle.oak_saves.specs.Saves.{fed_previous}
use Rattle.oak_saves.proofs.Feeding.{fed_look}
use Rattle.oak_world.specs.Looks.{IsLooking}
use Rattle.oak_world.specs.Left.{looks_left}
use Rattle.oak_world.specs.Worlds.{filled_by, look_through, once_looked, running_as, running_of}

-- ---- previous documents stay

-- the previous documents of a table are those of another
abbrev pub SamePrevious : Table → Table → Type 0
SamePrevious t u = (k : ℕ) (p : Path) → documents_in u.documents (id.Prev k p) ≡ documents_in t.documents (id.Prev k p)

pub same_previous : (t u : Table) → u ≡ t → SamePrevious t u
same_previous t u same k p = ap (λ (v : Table). documents_in v.documents (id.Prev k p)) same

pub both_previous : (t u v : Table) → SamePrevious t u → v ≡ u → SamePrevious t v
both_previous t u v same is k p = ap (λ (x : Table). documents_in x.documents (id.Prev k p)) is ∙ same k p

-- the id is that of a previous document
abbrev pub is_previous : DocId → Bool
is_previous (id.Prev k p) = true
is_previous _ = false

apart : (k : ℕ) (q : Path) (i : DocId) → is_previous i ≡ false → eq_by_cmp id_cmp (id.Prev k q) i ≡ false
apart k q i other = by (eq_by_cmp id_cmp (id.Prev k q) i) refl
  where
    by : (b : Bool) → eq_by_cmp id_cmp (id.Prev k q) i ≡ b → b ≡ false
    by false h = refl
    by true h = absurd (false≢true (sym other ∙ ap is_previous (sym (one_id (id.Prev k q) i h))))

pub put_previous : (t : Table) (i : DocId) (d : Document) (n : ℕ) → is_previous i ≡ false → SamePrevious t (with_document t i d n)
put_previous t i d n other k q = put_is t i d n (id.Prev k q) ∙ ap (λ b. cond b (Some d) (documents_in t.documents (id.Prev k q))) (apart k q i other)

result_previous : (t : Table) (i : DocId) (r : Result Document OpFault) → is_previous i ≡ false → SamePrevious t (with_result t i r)
result_previous t i (Ok d) other = put_previous t i d (next_number t) other
result_previous t i (Err f) other = λ k q. refl

pub update_previous : (t : Table) (op : UpdateOp) → is_previous op.id ≡ false → SamePrevious t (after_update t op)
update_previous t op other = result_previous t op.id (updated (found t op.id) op (next_number t)) other

pub undo_previous : (t : Table) (p : Path) (r : Revision) → SamePrevious t (after_undo t (id.Node p) r)
undo_previous t p r k q = by (found t (id.Node p)) refl
  where
    by : (o : Option Document) → found t (id.Node p) ≡ o → documents_in (after_undo t (id.Node p) r).documents (id.Prev k q) ≡ documents_in t.documents (id.Prev k q)
    by None is = ap (λ es. documents_in es (id.Prev k q)) (undo_none t p r is)
    by (Some d) is = undo_at t p r d is (id.Prev k q) ∙ ap (λ b. cond b (Some (undone d r (next_number t))) (documents_in t.documents (id.Prev k q))) (apart k q (id.Node p) refl)

-- ---- looks

-- a committer that looks at no previous document
pub once_alone : (t : Table) (c : Committing) → c.looking ≡ None → once_looked t c ≡ c
once_alone t c none = ap (look_through t c) none

-- it commits the same revision
pub once_revision : (t : Table) (c : Committing) → (once_looked t c).revision ≡ c.revision
once_revision t c = by c.looking
  where
    by : (o : Option Look) → (look_through t c o).revision ≡ c.revision
    by None = refl
    by (Some k) = refl

-- at the same base
pub once_base : (t : Table) (c : Committing) → (once_looked t c).base ≡ c.base
once_base t c = by c.looking
  where
    by : (o : Option Look) → (look_through t c o).base ≡ c.base
    by None = refl
    by (Some k) = refl

-- and ends as it does
pub once_outcome : (t : Table) (c : Committing) → (once_looked t c).outcome ≡ c.outcome
once_outcome t c = by c.looking
  where
    by : (o : Option Look) → (look_through t c o).outcome ≡ c.outcome
    by None = refl
    by (Some k) = refl

-- with the same documents written
pub once_wrote : (t : Table) (c : Committing) → (once_looked t c).writer.written ≡ c.writer.written
once_wrote t c = by c.looking
  where
    by : (o : Option Look) → (look_through t c o).writer.written ≡ c.writer.written
    by None = refl
    by (Some k) = refl

abbrev pub ids_of : Path → List PrevEntry → List DocId
ids_of p es = map (λ e. id.Prev e.number p) es

module _ (t u : Table) (same : SamePrevious t u) where
  filled_same : (p : Path) (es : List PrevEntry) (d : Document) → filled_by u d (ids_of p es) ≡ filled_by t d (ids_of p es)
  filled_same p [] d = refl
  filled_same p (e ∷ es) d = filled_same p es (with_found d (documents_in u.documents (id.Prev e.number p))) ∙ ap (λ (o : Option Document). filled_by t (with_found d o) (ids_of p es)) (same e.number p)

  -- a look comes to the same where the previous documents stay
  pub once_same : (c : Committing) → ((k : Look) → c.looking ≡ Some k → IsLooking c k) → once_looked u c ≡ once_looked t c
  once_same c looks = by c.looking refl
    where
      by : (o : Option Look) → c.looking ≡ o → look_through u c o ≡ look_through t c o
      by None none = refl
      by (Some k) is = ap (λ (d : Document). meeting c (names_of k.first) (Some d)) (ap (filled_by u k.document) ids ∙ (filled_same (looks k is).path ((looks k is).entry ∷ (looks k is).entries) k.document ∙ sym (ap (filled_by t k.document) ids)))
        where
          ids : k.first ∷ k.rest ≡ ids_of (looks k is).path ((looks k is).entry ∷ (looks k is).entries)
          ids = ap (λ (i : DocId). i ∷ k.rest) (looks k is).asks ∙ ap (λ (more : List DocId). id.Prev (looks k is).entry.number (looks k is).path ∷ more) (looks k is).rest

  pub running_same : (q : ℕ) (v : Work) → ((c : Committing) → v ≡ work.Commit c → (k : Look) → c.looking ≡ Some k → IsLooking c k) → running_of u q v ≡ running_of t q v
  running_same q (work.Commit c) looks = ap (λ (d : Committing). Some (running_as q d)) (once_same c (looks c refl))
  running_same q work.Rest looks = refl
  running_same q work.Login looks = refl
  running_same q work.End looks = refl
  running_same q work.Refresh looks = refl
  running_same q (work.Read r) looks = refl
  running_same q (work.Changes r) looks = refl
  running_same q (work.Plan edit marks) looks = refl
  running_same q (work.Move r) looks = refl
  running_same q (work.Upkeep k) looks = refl
  running_same q (work.Tidy x) looks = refl
  running_same q (work.Told e) looks = refl

-- a committer that turns to undoing does so whatever it looks at
pub want_same : (w : State) (s : ℕ) (t : Table) (c : Committing) → after_want w s (running_as s (once_looked t c)) ≡ after_want w s (running_as s c)
want_same w s t c = by c.looking
  where
    by : (o : Option Look) → after_want w s (running_as s (look_through t c o)) ≡ after_want w s (running_as s c)
    by None = refl
    by (Some k) = refl

-- a committer that looks on at a document and at these previous ones
module _ (b : Committing) (p : Path) where
  pub once_on : (t : Table) (d : Document) (es : List PrevEntry) → once_looked t (looking_on b p d (ids_of p es)) ≡ meeting b p (Some (filled_by t d (ids_of p es)))
  once_on t d [] = refl
  once_on t d (e ∷ es) = refl

  pub left_on : (d : Document) (es : List PrevEntry) → looks_left (looking_on b p d (ids_of p es)).looking ≡ length es
  left_on d [] = refl
  left_on d (e ∷ es) = ap suc (length-map es (λ e. id.Prev e.number p))

  pub outcome_on : (d : Document) (es : List PrevEntry) → (looking_on b p d (ids_of p es)).outcome ≡ b.outcome
  outcome_on d [] = refl
  outcome_on d (e ∷ es) = refl

  pub revision_on : (d : Document) (es : List PrevEntry) → (looking_on b p d (ids_of p es)).revision ≡ b.revision
  revision_on d [] = refl
  revision_on d (e ∷ es) = refl

  pub ended_on : (d : Document) (es : List PrevEntry) → (looking_on b p d (ids_of p es)).ended ≡ b.ended
  ended_on d [] = refl
  ended_on d (e ∷ es) = refl

  -- its documents are written as before
  pub written_on : (d : Document) (es : List PrevEntry) → (looking_on b p d (ids_of p es)).writer.written ≡ b.writer.written
  written_on d [] = refl
  written_on d (e ∷ es) = refl

  pub wanting_on : (s : ℕ) (d : Document) (es : List PrevEntry) → running_as s (wanting (looking_on b p d (ids_of p es))) ≡ running_as s (wanting b)
  wanting_on s d [] = refl
  wanting_on s d (e ∷ es) = refl

-- ---- a document is written

module _ (c : Committing) (p : Path) (rest : List Path) where
  module _ (t u : Table) (same : SamePrevious t u) where
    mapped : (es : List PrevEntry) (d : Document) → filled_by u d (ids_of p es) ≡ fold (λ x e. with_found x (documents_in t.documents (id.Prev e.number p))) d es
    mapped [] d = refl
    mapped (e ∷ es) d = mapped es (with_found d (documents_in u.documents (id.Prev e.number p))) ∙ ap (λ (o : Option Document). fold (λ x e. with_found x (documents_in t.documents (id.Prev e.number p))) (with_found d o) es) (same e.number p)

    -- the committer is to mark what it meets in the whole of what stood at the write
    pub once_written : once_looked u (written c p rest (nodes_in t p)) ≡ meeting (wrote c p rest) p (whole p (nodes_in t p) (moved_in t p))
    once_written = by (nodes_in t p)
      where
        by : (o : Option Document) → once_looked u (written c p rest o) ≡ meeting (wrote c p rest) p (whole p o (option_map_or (λ d. filter_map (λ e. documents_in t.documents (id.Prev e.number p)) d.prev) o []))
        by None = refl
        by (Some d) = once_on (wrote c p rest) p u d d.prev ∙ ap (meeting (wrote c p rest) p) (ap Some (mapped d.prev d) ∙ filled_whole p (documents_in t.documents) d.prev d)

  pub left_written : (t : Table) → looks_left (written c p rest (nodes_in t p)).looking ≡ length (listed_at t p)
  left_written t = by (nodes_in t p)
    where
      by : (o : Option Document) → looks_left (written c p rest o).looking ≡ length (option_map_or (λ d. d.prev) o [])
      by None = refl
      by (Some d) = left_on (wrote c p rest) p d d.prev

  pub outcome_written : (o : Option Document) → (written c p rest o).outcome ≡ c.outcome
  outcome_written None = refl
  outcome_written (Some d) = outcome_on (wrote c p rest) p d d.prev

  pub revision_written : (o : Option Document) → (written c p rest o).revision ≡ c.revision
  revision_written None = refl
  revision_written (Some d) = revision_on (wrote c p rest) p d d.prev

  pub ended_written : (o : Option Document) → (written c p rest o).ended ≡ c.ended
  ended_written None = refl
  ended_written (Some d) = ended_on (wrote c p rest) p d d.prev

  pub written_written : (o : Option Document) → (written c p rest o).writer.written ≡ c.writer.written ++ p ∷ []
  written_written None = refl
  written_written (Some d) = written_on (wrote c p rest) p d d.prev

  pub wanting_written : (s : ℕ) (o : Option Document) → running_as s (wanting (written c p rest o)) ≡ running_as s (wanting (wrote c p rest))
  wanting_written s None = refl
  wanting_written s (Some d) = wanting_on (wrote c p rest) p s d d.prev

-- ---- a previous document is looked at

module _ (t : Table) (c : Committing) (k : Look) (is : c.looking ≡ Some k) (looks : IsLooking c k) where
  abbrev next : Document
  next = with_found k.document (documents_in t.documents k.first)

  -- the look goes on, or what is met is to be marked
  pub found_is : fed_previous t c ≡ looking_on c looks.path next (ids_of looks.path looks.entries)
  found_is =
      fed_look c looks.going k is t
      ∙ (ap (λ (i : DocId). looking_on c (names_of i) next k.rest) looks.asks
      ∙ ap (λ (ids : List DocId). looking_on c looks.path next ids) looks.rest)

  pub once_found : once_looked t (fed_previous t c) ≡ once_looked t c
  once_found =
      ap (once_looked t) found_is
      ∙ (once_on c looks.path t next looks.entries
      ∙ sym (ap (look_through t c) is
      ∙ (ap (λ (i : DocId). meeting c (names_of i) (Some (filled_by t next k.rest))) looks.asks
      ∙ ap (λ (ids : List DocId). meeting c looks.path (Some (filled_by t next ids))) looks.rest)))

  -- one previous document fewer is left
  pub left_found : suc (looks_left (fed_previous t c).looking) ≡ looks_left c.looking
  left_found =
      ap (λ (d : Committing). suc (looks_left d.looking)) found_is
      ∙ (ap suc (left_on c looks.path next looks.entries)
      ∙ sym (ap looks_left is ∙ (ap (λ (ids : List DocId). suc (length ids)) looks.rest ∙ ap suc (length-map looks.entries (λ e. id.Prev e.number looks.path)))))

  pub outcome_found : (fed_previous t c).outcome ≡ c.outcome
  outcome_found = ap (λ (d : Committing). d.outcome) found_is ∙ outcome_on c looks.path next looks.entries

  pub revision_found : (fed_previous t c).revision ≡ c.revision
  revision_found = ap (λ (d : Committing). d.revision) found_is ∙ revision_on c looks.path next looks.entries

  pub ended_found : (fed_previous t c).ended ≡ c.ended
  ended_found = ap (λ (d : Committing). d.ended) found_is ∙ ended_on c looks.path next looks.entries

  pub written_found : (fed_previous t c).writer.written ≡ c.writer.written
  written_found = ap (λ (d : Committing). d.writer.written) found_is ∙ written_on c looks.path next looks.entries

  pub wanting_found : (s : ℕ) → running_as s (wanting (fed_previous t c)) ≡ running_as s (wanting c)
  wanting_found s = ap (λ (d : Committing). running_as s (wanting d)) found_is ∙ wanting_on c looks.path s next looks.entries

-- ---- the commit roots that a document notes

-- a document has the id and the commit roots of another
pub record AreRootsOf (d e : Document) : Type 0 where
  pub named : e.id ≡ d.id
  pub roots : e.commit_root ≡ d.commit_root

roots_then : (d e f : Document) → AreRootsOf d e → AreRootsOf e f → AreRootsOf d f
roots_then d e f a b = record { named = b.named ∙ a.named; roots = b.roots ∙ a.roots }

fold_append : (d : Document) (xs ys : List Change) → fold changed d (xs ++ ys) ≡ fold changed (fold changed d xs) ys
fold_append d [] ys = refl
fold_append d (x ∷ xs) ys = fold_append (changed d x) xs ys

values_put : (n : Name) (vs : List (Revision × Option Property)) (d : Document) → AreRootsOf d (fold changed d (map (λ e. change.Prop n e.0 e.1) vs))
values_put n [] d = record { named = refl; roots = refl }
values_put n (v ∷ vs) d = let rest = values_put n vs (changed d (change.Prop n v.0 v.1)) in record { named = rest.named; roots = rest.roots }

names_put : (ps : Props) (ns : List Name) (d : Document) → AreRootsOf d (fold changed d (flat_map (λ n. map (λ e. change.Prop n e.0 e.1) (values_of_property ps n)) ns))
names_put ps [] d = record { named = refl; roots = refl }
names_put ps (n ∷ ns) d =
    let first = map (λ e. change.Prop n e.0 e.1) (values_of_property ps n) in
    subst (AreRootsOf d) (sym (fold_append d first (flat_map (λ n. map (λ e. change.Prop n e.0 e.1) (values_of_property ps n)) ns)))
    (roots_then d (fold changed d first) _ (values_put n (values_of_property ps n) d) (names_put ps ns (fold changed d first)))

root_same : (d e : Document) (r : Revision) → AreRootsOf d e → commit_root_of e r ≡ commit_root_of d r
root_same d e r same = ap (λ (i : DocId). commit_root_of (record e { id = i }) r) same.named ∙ ap (λ es. commit_root_of (record e { id = d.id; commit_root = es }) r) same.roots

-- with what moved put back, a document tells the same commit roots
pub whole_rooted : (p : Path) (xs : List Document) (o : Option Document) (r : Revision) (root : Path) → IsRooted o r root → IsRooted (whole p o xs) r root
whole_rooted p [] o r root h = h
whole_rooted p (x ∷ xs) None r root h = let never : None ≡ Some (id.Node root) = h in cc
whole_rooted p (x ∷ xs) (Some d) r root h = whole_rooted p xs (put_back p (Some d) x) r root (ap Some (root_same d (fold changed d (entries_in x)) r (names_put x.props (keys_of x.props) d)) ∙ h)

-- so does a document that is filled with what moved
pub filled_roots : (t : Table) (ids : List DocId) (d : Document) → AreRootsOf d (filled_by t d ids)
filled_roots t [] d = record { named = refl; roots = refl }
filled_roots t (i ∷ ids) d = by (filled_roots t ids) (documents_in t.documents i)
  where
    by : ((e : Document) → AreRootsOf e (filled_by t e ids)) → (o : Option Document) → AreRootsOf d (filled_by t (with_found d o) ids)
    by rest None = rest d
    by rest (Some x) = roots_then d (fold changed d (entries_in x)) _ (names_put x.props (keys_of x.props) d) (rest (fold changed d (entries_in x)))

-- and two that are filled with what moved tell the same
pub filled_alike : (t u : Table) (ids : List DocId) (d : Document) (r : Revision) → commit_root_of (filled_by u d ids) r ≡ commit_root_of (filled_by t d ids) r
filled_alike t u ids d r = root_same d (filled_by u d ids) r (filled_roots u ids d) ∙ sym (root_same d (filled_by t d ids) r (filled_roots t ids d))
