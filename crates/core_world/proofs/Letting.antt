-- Steps that let readers read on: what comes between is no bound, and what is told of former documents stays so.
use Rattle.std.proofs.Common.{◌≡◌, Bool, true, false, Some, List, ◌∷◌, refl, sym, subst, ◌∙◌}
use mathlib.Core.Bool.{false≢true}
use Rattle.jr_rev.specs.declared.revision.Revision.{Revision}
use Rattle.jr_rev.specs.declared.vector.Pin.{Pin}
use Rattle.jr_rev.specs.Vectors.{sees}
use Rattle.jr_path.specs.declared.path.DocId.{DocId}
use Rattle.jr_tree.specs.declared.edit.Write.{Write}
use Rattle.oak_changes.specs.declared.changes.ChangesReader.{ChangesReader}
use Rattle.oak_doc.specs.declared.document.Document.{Document}
use Rattle.oak_machine.specs.declared.event.Event.{Event}
use Rattle.oak_machine.specs.declared.event.Event.TheVariants as event
use Rattle.oak_machine.specs.History.{Past}
use Rattle.oak_machine.specs.Commits.{is_commit_of, is_in_base}
use Rattle.oak_read.specs.Meaning.{Documents, documents_in}
use Rattle.oak_read.specs.declared.reader.Reader.{Reader}
use Rattle.oak_store.specs.Tables.{Table}
use Rattle.core_read.specs.World.{Progress}
use Rattle.core_keep.specs.Journal.{is_bounded, is_swept}
use Rattle.core_keep.specs.Formers.{AreFormers, Formers, FormersGrow}
use Rattle.core_watch.specs.Reading.{ReadsTree, ReadsOn}
use Rattle.core_watch.proofs.GoingOn.{on_event}
use Rattle.core_watch.proofs.Lasting.{reading_lasts}
use Rattle.core_watch.proofs.StayingOn.{formers_event}
use Rattle.core_changes.specs.Instants.{AreHeld}
use Rattle.core_changes.specs.Observing.{IsObserving}
use Rattle.core_changes.proofs.Instants.{observing_lasts}
use Rattle.core_changes.proofs.Steps.{edit_stays}
use Rattle.core_changes.proofs.Telling.{between_held}
use Rattle.oak_machine.specs.declared.event.Start.{Start}
use Rattle.core_begun.specs.Kept.{IsHeldSince, IsKeptSince}
use Rattle.core_keep.specs.From.{course_from}
use Rattle.core_begun.specs.Told.{edit_since, IsToldSince}

-- what a reader of changes goes on by: the documents keep what is told later, its vectors are held then and now, and committed
-- revisions have the bases that they had
pub record CanGoOn (start : Start) (u : Table) (past later : Past) (r : ChangesReader) : Type 0 where
  pub done : Progress
  pub world : IsKeptSince start (documents_in u.documents) later done
  pub then : AreHeld start past r.from r.pin
  pub now : AreHeld start later r.from r.pin
  pub bases : (q : Revision) (ws : List Write) → edit_since past q ≡ Some ws → (o : Revision) → is_in_base later q o ≡ is_in_base past q o

-- each reader at a held pin still reads the tree, and a reader of changes still tells them; what is told of former documents is so; and no bound came
pub record LetsRead (start : Start) (t u : Table) (past later : Past) : Type 0 where
  pub reads : (formers : Formers) (r : Reader) → IsHeldSince start past r.pin.base r.pin.sweep → ReadsTree start (documents_in t.documents) past formers r → ReadsTree start (documents_in u.documents) later formers r
  pub observes : (formers : Formers) (r : ChangesReader) → CanGoOn start u past later r → IsObserving start (documents_in t.documents) past formers r → IsObserving start (documents_in u.documents) later formers r
  pub tells : (formers : Formers) → AreFormers (documents_in t.documents) (course_from start past) formers → AreFormers (documents_in u.documents) (course_from start later) formers
  pub bounds : (r : Revision) → is_bounded later r ≡ is_bounded past r
  pub sweeps : (r : Revision) → is_swept later r ≡ is_swept past r

-- what others let a reader of a document do they let a reader of changes do, of which the commits that its pin sees are the same
pub observes_on : (start : Start) (formers more : Formers) (ds : Documents) (u : Table) (past later : Past) → IsToldSince start past → FormersGrow formers more → (r : ChangesReader) → ((q : Revision) → sees r.pin.base q ≡ true → edit_since later q ≡ edit_since past q)
    → ((pin : Pin) → IsHeldSince start past pin.base pin.sweep → ReadsOn start pin ds (documents_in u.documents) past later) → CanGoOn start u past later r → IsObserving start ds past formers r → IsObserving start (documents_in u.documents) later more r
observes_on start formers more ds u past later told grows r edits on can observing = observing_lasts start formers more ds (documents_in u.documents) past later can.done r can.world can.now
    (record { told = told; edits = edits; bases = can.bases; reads = λ v between. on (record { base = v; sweep = r.pin.sweep }) (between_held start past r.from r.pin can.then v between) }) grows observing

-- by what others let a reader of a document do
pub lets_on : (start : Start) (t u : Table) (past later : Past) → IsToldSince start past → ((pin : Pin) → IsHeldSince start past pin.base pin.sweep → (q : Revision) → sees pin.base q ≡ true → edit_since later q ≡ edit_since past q)
    → ((pin : Pin) → IsHeldSince start past pin.base pin.sweep → ReadsOn start pin (documents_in t.documents) (documents_in u.documents) past later)
    → ((formers : Formers) → AreFormers (documents_in t.documents) (course_from start past) formers → AreFormers (documents_in u.documents) (course_from start later) formers) → ((r : Revision) → is_bounded later r ≡ is_bounded past r) → ((r : Revision) → is_swept later r ≡ is_swept past r) → LetsRead start t u past later
lets_on start t u past later told edits on tells bounds sweeps = record {
  reads = λ formers r held reading. reading_lasts start formers formers (documents_in t.documents) (documents_in u.documents) past later r (on r.pin held) (λ p k f h. h) reading;
  observes = λ formers r can observing. observes_on start formers formers (documents_in t.documents) u past later told (λ p k f h. h) r (edits r.pin can.then.to) on can observing;
  tells = tells;
  bounds = bounds;
  sweeps = sweeps;
}

-- documents alone change
pub lets_change : (start : Start) (t u : Table) (past : Past) → IsToldSince start past → ((pin : Pin) → IsHeldSince start past pin.base pin.sweep → ReadsOn start pin (documents_in t.documents) (documents_in u.documents) past past)
    → ((formers : Formers) → AreFormers (documents_in t.documents) (course_from start past) formers → AreFormers (documents_in u.documents) (course_from start past) formers) → LetsRead start t u past past
lets_change start t u past told on tells = lets_on start t u past past told (λ pin held q seen. refl) on tells (λ r. refl) (λ r. refl)

-- one after another, first documents alone
pub lets_then : (start : Start) (t mid u : Table) (past later : Past) (done : Progress) → IsKeptSince start (documents_in mid.documents) past done → LetsRead start t mid past past → LetsRead start mid u past later → LetsRead start t u past later
lets_then start t mid u past later done world a b = record {
  reads = λ formers r held reading. b.reads formers r held (a.reads formers r held reading);
  observes = λ formers r can observing. b.observes formers r can (a.observes formers r (record { done = done; world = world; then = can.then; now = can.then; bases = λ q ws e o. refl }) observing);
  tells = λ formers l. b.tells formers (a.tells formers l);
  bounds = λ r. b.bounds r ∙ a.bounds r;
  sweeps = λ r. b.sweeps r ∙ a.sweeps r;
}

-- nothing changes
pub lets_still : (start : Start) (t : Table) (past : Past) → LetsRead start t t past past
lets_still start t past = record { reads = λ formers r held reading. reading; observes = λ formers r can observing. observing; tells = λ formers l. l; bounds = λ r. refl; sweeps = λ r. refl }

-- documents are found as they were
pub lets_same : (start : Start) (t u : Table) (past : Past) → u.documents ≡ t.documents → LetsRead start t u past past
lets_same start t u past same = record {
  reads = λ formers r held reading. subst (λ (es : List (DocId × Document)). ReadsTree start (documents_in es) past formers r) (sym same) reading;
  observes = λ formers r can observing. subst (λ (es : List (DocId × Document)). IsObserving start (documents_in es) past formers r) (sym same) observing;
  tells = λ formers l. subst (λ (es : List (DocId × Document)). AreFormers (documents_in es) (course_from start past) formers) (sym same) l;
  bounds = λ r. refl;
  sweeps = λ r. refl;
}

-- an event that is no Commit and no Bound
pub lets_event : (start : Start) (t : Table) (past : Past) (done : Progress) → IsKeptSince start (documents_in t.documents) past done → (e : Event) → ((r : Revision) → is_commit_of r e ≡ false) → ((r : Revision) → is_bounded (e ∷ past) r ≡ is_bounded past r) → ((r : Revision) → is_swept (e ∷ past) r ≡ is_swept past r) → LetsRead start t t past (e ∷ past)
lets_event start t past done world e none bounds sweeps = lets_on start t t past (e ∷ past) world.told (λ pin held q seen. edit_stays past e none q) (λ pin held. on_event start pin (documents_in t.documents) past done world e none) (λ formers l. formers_event start (documents_in t.documents) past done world e none formers l) bounds sweeps

-- an event that is no bound: what is bounded and swept is as before
abbrev pub is_bound : Event → Bool
is_bound (event.Bound m t) = true
is_bound e = false

pub none_bounded : (past : Past) (e : Event) → is_bound e ≡ false → (r : Revision) → is_bounded (e ∷ past) r ≡ is_bounded past r
none_bounded past (event.Bound m t) h r = absurd (false≢true (sym h))
none_bounded past e h r = refl

pub none_swept : (past : Past) (e : Event) → is_bound e ≡ false → (r : Revision) → is_swept (e ∷ past) r ≡ is_swept past r
none_swept past (event.Bound m t) h r = absurd (false≢true (sym h))
none_swept past e h r = refl

pub lets_calm : (start : Start) (t : Table) (past : Past) (done : Progress) → IsKeptSince start (documents_in t.documents) past done → (e : Event) → ((r : Revision) → is_commit_of r e ≡ false) → is_bound e ≡ false → LetsRead start t t past (e ∷ past)
lets_calm start t past done world e none calm = lets_event start t past done world e none (none_bounded past e calm) (none_swept past e calm)
