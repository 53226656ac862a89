-- A recovery undoes in a document a revision that has ended already, as the slower of two
-- recoveries of one cluster node may: the document has nothing of it, and shows what it showed.
use Rattle.std.proofs.Common.{◌≡◌, ◌⊎◌, inl, inr, ℕ, Bool, true, false, cond, not, ◌&&◌}
use Rattle.std.proofs.Common.{Some, None, Option, is_some, List, [], ◌∷◌}
use Rattle.std.proofs.Common.{refl, sym, ap, subst, ◌∙◌}
use Rattle.std.specs.List.{filter}
use mathlib.Core.Bool.{false≢true}
use Rattle.jr_path.specs.declared.name.Name.{Name}
use Rattle.jr_path.specs.declared.path.DocId.{DocId}
use Rattle.jr_path.specs.declared.path.DocId.TheVariants as id
use Rattle.jr_path.specs.declared.path.Path.{Path}
use Rattle.jr_rev.specs.declared.revision.Revision.{Revision}
use Rattle.jr_value.specs.declared.value.Property.{Property}
use Rattle.jr_rev.specs.Revisions.{is_same}
use Rattle.oak_clash.specs.Clashes.{commit_root}
use Rattle.oak_clash.specs.declared.mark.Mark.TheVariants.{Exists, Prop}
use Rattle.oak_commit.specs.Clashing.{Writer}
use Rattle.oak_doc.specs.declared.document.Document.{Document}
use Rattle.oak_doc.specs.declared.document.PrevEntry.{PrevEntry}
use Rattle.oak_doc.specs.Updates.{of_revision, undone, values_of_property, without_revision}
use Rattle.oak_machine.specs.Commits.{draw_of, is_drawn, is_ended, is_in_flight}
use Rattle.oak_machine.specs.declared.event.Draw.{Draw}
use Rattle.oak_machine.specs.declared.event.Event.TheVariants as event
use Rattle.oak_machine.specs.declared.event.StepKind.TheVariants as kind
use Rattle.oak_machine.specs.History.{Past}
use Rattle.oak_read.specs.Meaning.{Documents, documents_in}
use Rattle.oak_store.specs.Tables.{Table, after_undo, next_number}
use Rattle.core_read.specs.Committing.{IsPartly}
use Rattle.core_read.proofs.Updates.{other_without, own_without, undo_prop, undo_same}
use Rattle.core_clash.specs.Core.{IsDead, cleared, with_writer}
use Rattle.core_clash.specs.Views.{AreOrdered}
use Rattle.core_clash.proofs.Basics.{decide, same_revision, writer_other}
use Rattle.core_clash.proofs.Finished.{event_keeps}
use Rattle.core_clash.proofs.Undone.{clear_keeps}
use Rattle.core_keep.specs.Keeps.{Course}
use Rattle.core_keep.specs.Steps.{AreLeft, AreNotes, IsPruned}
use Rattle.core_watch.proofs.GoingOn.{on_pruned}
use Rattle.core_watch.proofs.StayingOn.{formers_pruned}
use Rattle.core_world.specs.Kept.{AreCommitting, IsFreeOf, has_written}
use Rattle.core_world.specs.States.{State, core_in, nodes_in, origin}
use Rattle.core_world.proofs.Freed.{effect, sound_undone}
use Rattle.core_world.proofs.Letting.{LetsRead, lets_event, lets_then, lets_change, lets_same}
use Rattle.core_world.proofs.Tables.{undo_main, undo_none}
use Rattle.core_world.proofs.Undoing.{not_dead}
use Rattle.core_begun.proofs.World.{kept_pruned}
use Rattle.core_begun.proofs.Events.{kept_idle}
use Rattle.core_begun.specs.Kept.{IsKeptSince}
use Rattle.core_keep.specs.From.{course_from}
use Rattle.core_begun.specs.Told.{edit_since}

-- ---- entries without those of a revision that has none

nothing : {X : Type 0} (o : Option X) → is_some o ≡ false → o ≡ None
nothing None h = refl
nothing (Some x) h = absurd (false≢true (sym h))

module _ {X : Type 0} (r : Revision) (es : List (Revision × X))
    (none : is_some (of_revision es r) ≡ false) where
  same_left : (q : Revision) → of_revision (without_revision r es) q ≡ of_revision es q
  same_left q = by (decide q r)
    where
      by : (q ≡ r) ⊎ (is_same q r ≡ false)
          → of_revision (without_revision r es) q ≡ of_revision es q
      by (inl e) =
          subst (λ (x : Revision). of_revision (without_revision r es) x ≡ of_revision es x)
          (sym e) (own_without r es ∙ sym (nothing (of_revision es r) none))
      by (inr other) = other_without r q other es

  all_left : (c : Course) → AreLeft c es (without_revision r es)
  all_left c = record { each = λ q. inl (same_left q) }

  same_notes : (c : Course) → AreNotes c es (without_revision r es)
  same_notes c = record {
    sub = λ q h. sym (ap (λ (o : Option X). is_some o) (same_left q)) ∙ h;
    kept = λ q k. same_left q;
  }

all_listed : (es : List PrevEntry) → filter (λ (e : PrevEntry). true) es ≡ es
all_listed [] = refl
all_listed (e ∷ es) = ap (λ (l : List PrevEntry). e ∷ l) (all_listed es)

-- undone, it has lost nothing
module _ (r : Revision) (p : Path) (f : Document) (ordered : AreOrdered p (Some f))
    (free : IsFreeOf r f) where
  abbrev values : Name → List (Revision × Option Property)
  values m = values_of_property f.props m

  same_values : (n : ℕ) (m : Name) (q : Revision)
      → of_revision (values_of_property (undone f r n).props m) q ≡ of_revision (values m) q
  same_values n m q = by (decide q r)
    where
      by : (q ≡ r) ⊎ (is_same q r ≡ false)
          → of_revision (values_of_property (undone f r n).props m) q ≡ of_revision (values m) q
      by (inl e) = subst
          (λ (x : Revision).
          of_revision (values_of_property (undone f r n).props m) x ≡ of_revision (values m) x)
          (sym e)
          (undo_prop r p f ordered.0 ordered.1 m
          ∙ sym (nothing (of_revision (values m) r) (free.marks (Prop m))))
      by (inr other) = ((undo_same r p f ordered.0 ordered.1).at q other).prop m

  pub loses_nothing : (ds : Documents) (c : Course) (n : ℕ) → IsPruned ds c p f (undone f r n)
  loses_nothing ds c n = record {
    deleted = all_left r f.deleted (free.marks Exists) c;
    props = λ m. record { each = λ q. inl (same_values n m q) };
    roots = same_notes r f.commit_root free.root c;
    revisions = same_notes r f.revisions free.said c;
    prev = ((λ e. true), sym (all_listed f.prev), λ e i k. absurd (false≢true (sym k)));
    named = ordered.0;
  }

-- it is dead and has ended, and the document of p has nothing of it
pub record IsAgain (w : State) (d : Draw) (p : Path) : Type 0 where
  pub dead : IsDead w.past d
  pub ended : is_ended w.past d.revision ≡ true
  pub free : (f : Document) → nodes_in w.table p ≡ Some f → IsFreeOf d.revision f

module _ (w : State) (a : AreCommitting (origin w) w.past w.table w.running) (d : Draw) (p : Path)
    (again : IsAgain w d p) where
  abbrev r : Revision
  r = d.revision

  abbrev ds : Documents
  ds = documents_in w.table.documents

  abbrev now : Table
  now = after_undo w.table (id.Node p) d.revision

  abbrev docs_now : Documents
  docs_now = documents_in (after_undo w.table (id.Node p) d.revision).documents

  abbrev changed_at : Document → Document
  changed_at f = undone f d.revision (next_number w.table)

  abbrev writers : Revision → Writer
  writers = with_writer a.writers d.revision (cleared (a.writers d.revision) p)

  -- ---- documents

  pruned : (f : Document) → nodes_in w.table p ≡ Some f
      → IsPruned ds (course_from (origin w) w.past) p f (changed_at f)
  pruned f is = loses_nothing d.revision p f
      (subst (λ (o : Option Document). AreOrdered p o) is (a.sound.ordered p))
      (again.free f is) ds (course_from (origin w) w.past) (next_number w.table)

  same_world : IsKeptSince (origin w) docs_now w.past (λ q. has_written (a.writers q))
  same_world = by (nodes_in w.table p) refl
    where
      by : (o : Option Document) → nodes_in w.table p ≡ o
          → IsKeptSince (origin w) docs_now w.past (λ q. has_written (a.writers q))
      by None is = subst
          (λ (es : List (DocId × Document)).
          IsKeptSince (origin w) (documents_in es) w.past (λ q. has_written (a.writers q)))
          (sym (undo_none w.table p d.revision is)) a.kept
      by (Some f) is = kept_pruned (origin w) ds docs_now w.past _ a.kept p f (changed_at f) is
          (undo_main w.table p d.revision f is) (pruned f is)

  -- it isn't in flight, so what its committer has written tells nothing
  grounded : is_in_flight w.past d.revision ≡ false
  grounded =
      ap (λ b. is_drawn w.past d.revision && not b) again.ended
      ∙ and_no (is_drawn w.past d.revision)
    where
      and_no : (b : Bool) → (b && false) ≡ false
      and_no true = refl
      and_no false = refl

  again_world : IsKeptSince (origin w) docs_now w.past (λ q. has_written (writers q))
  again_world = record {
    first = same_world.first;
    keeps = same_world.keeps;
    told = same_world.told;
    separate = same_world.separate;
    bounded = same_world.bounded;
    swept = same_world.swept;
    partly = λ q e at flying none. each q e at flying none (is_same q d.revision) refl;
  }
    where
      each : (q : Revision) (e : Draw) → draw_of w.past q ≡ Some e → is_in_flight w.past q ≡ true
          → edit_since w.past q ≡ None → (b : Bool) → is_same q d.revision ≡ b
          → IsPartly docs_now q e.edit.writes (commit_root e.marks)
          (has_written (cond b (cleared (a.writers d.revision) p) (a.writers q)))
      each q e at flying none false k = same_world.partly q e at flying none
      each q e at flying none true k = absurd (false≢true (sym grounded
          ∙ (ap (is_in_flight w.past) (sym (same_revision q d.revision k)) ∙ flying)))

  -- ---- readers

  lets_undo : LetsRead (origin w) w.table now w.past w.past
  lets_undo = by (nodes_in w.table p) refl
    where
      by : (o : Option Document) → nodes_in w.table p ≡ o → LetsRead (origin w) w.table now w.past w.past
      by None is = lets_same (origin w) w.table now w.past (undo_none w.table p d.revision is)
      by (Some f) is = lets_change (origin w) w.table now w.past a.kept.told
          (λ pin held. on_pruned (origin w) pin ds docs_now w.past _ a.kept held p f (changed_at f) is
          (undo_main w.table p d.revision f is) (pruned f is))
          (λ formers l. formers_pruned (origin w) ds docs_now w.past _ a.kept p f (changed_at f) is
          (undo_main w.table p d.revision f is) (pruned f is) formers l)

  module _ (s : ℕ) where
    abbrev then : Past
    then = event.Went s kind.Undo ∷ w.past

    pub again_lets : LetsRead (origin w) w.table (after_undo w.table (id.Node p) d.revision) w.past
        (event.Went s kind.Undo ∷ w.past)
    again_lets = lets_then (origin w) w.table now now w.past then _ again_world lets_undo
        (lets_event (origin w) now w.past _ again_world (event.Went s kind.Undo) (λ q. refl) (λ q. refl)
        (λ q. refl))

    -- ---- committers

    pub again_commits : AreCommitting (origin w) (event.Went s kind.Undo ∷ w.past)
        (after_undo w.table (id.Node p) d.revision) w.running
    again_commits = record {
      writers = writers;
      sound = sound_undone w.table a.sound.ordered p d.revision (origin w) then writers
          (event_keeps _ (event.Went s kind.Undo) refl
          (clear_keeps (core_in (origin w) w.past w.table a.writers) d a.sound again.dead p
          (next_number w.table) _ (effect w.table a.sound.ordered p d.revision)));
      theirs = λ q y h.
          let theirs = a.theirs q y h in
          record {
            session = theirs.session;
            draw = theirs.draw;
            unended = theirs.unended;
            committed = theirs.committed;
            writer = writer_other a.writers d.revision (cleared (a.writers d.revision) p)
                y.draw.revision (not_dead (origin w) w.past w.table w.running a d again.dead q y h)
                ∙ theirs.writer;
          };
      listed = a.listed;
      kept = kept_idle (origin w) docs_now w.past _ (event.Went s kind.Undo) refl again_world;
      unstopped = a.unstopped;
    }
