-- Readers of changes that begin, are fed, last, and give.
use Rattle.std.proofs.Common.{◌≡◌, true, Some, None, Option, List, [], ◌∷◌, refl, sym, ◌∙◌, subst}
use Rattle.std.specs.Option.{option_map_or}
use Rattle.std.specs.declared.alloc.Global.{Global}
use Rattle.jr_path.specs.declared.path.DocId.{DocId}
use Rattle.jr_path.specs.declared.path.DocId.TheVariants as id
use Rattle.jr_rev.specs.declared.vector.RevVec.{RevVec}
use Rattle.jr_rev.specs.declared.vector.Pin.{Pin}
use Rattle.jr_tree.specs.declared.shared.CommitChanges.{CommitChanges}
use Rattle.oak_changes.specs.Reading.{changes_reader, due, fed, noted, changes_on_main, changes_on_previous, changes_on_roots, with_document}
use Rattle.oak_changes.specs.declared.changes.ChangesReader.{ChangesReader}
use Rattle.oak_changes.specs.declared.changes.Step.{Step}
use Rattle.oak_changes.specs.declared.changes.Step.TheVariants as step
use Rattle.oak_doc.specs.declared.asks.Reply.{Reply}
use Rattle.oak_doc.specs.declared.asks.Reply.TheVariants as reply
use Rattle.oak_doc.specs.declared.document.Document.{Document}
use Rattle.oak_machine.specs.Changed.{changes_between}
use Rattle.oak_machine.specs.History.{Past}
use Rattle.oak_read.specs.Meaning.{Documents, documents_in}
use Rattle.oak_read.specs.Reading.{answer, IsTable}
use Rattle.oak_read.specs.Wanted.{left_of, previous_wanted, roots_wanted}
use Rattle.oak_read.specs.declared.wanted.Left.{Left}
use Rattle.core_keep.specs.Formers.{AreFormers, Formers, FormersGrow}
use Rattle.core_keep.specs.From.{course_from}
use Rattle.core_begun.specs.Kept.{IsKeptSince}
use Rattle.core_read.specs.World.{Progress}
use Rattle.core_watch.specs.Instants.{documents_at, Instant}
use Rattle.core_changes.proofs.Lasting.{changes_same, stands_last}
use Rattle.core_changes.proofs.Walk.{feed_step}
use Rattle.core_changes.specs.Instants.{after_instants, AreHeld, AreObservable, AreWriting}
use Rattle.core_changes.specs.Observing.{IsObserving, ObservesOn, Stands}
use Rattle.oak_machine.specs.declared.event.Start.{Start}

-- ---- what a reader reads between stays

-- the vectors are the same
abbrev IsSame : ChangesReader → ChangesReader → Type 0
IsSame r q = (q.from ≡ r.from) × (q.pin ≡ r.pin)

previous_keeps : (r : ChangesReader) → IsSame r (changes_on_previous r)
previous_keeps r = by (left_of (roots_wanted r.pin.sweep r.pin.base r.known true r.at))
  where
    by : (o : Option Left) → IsSame r (option_map_or (λ left. record r { step = step.Roots left }) o (changes_on_roots r))
    by None = (refl, refl)
    by (Some left) = (refl, refl)

main_keeps : (r : ChangesReader) → IsSame r (changes_on_main r)
main_keeps r = by (left_of (previous_wanted r.known r.at))
  where
    by : (o : Option Left) → IsSame r (option_map_or (λ left. record r { step = step.Previous left }) o (changes_on_previous r))
    by None = previous_keeps r
    by (Some left) = (refl, refl)

previous_left : (r : ChangesReader) (o : Option Left) → IsSame r (option_map_or (λ more. record r { step = step.Previous more }) o (changes_on_previous r))
previous_left r None = previous_keeps r
previous_left r (Some left) = (refl, refl)

roots_left : (r : ChangesReader) (o : Option Left) → IsSame r (option_map_or (λ more. record r { step = step.Roots more }) o (changes_on_roots r))
roots_left r None = (refl, refl)
roots_left r (Some left) = (refl, refl)

document_keeps : (r : ChangesReader) (x : DocId) (d : Document) → IsSame r (with_document r x d)
document_keeps r (id.Node p) d = main_keeps (record r { at = p; known = (id.Node p, d) ∷ [] })
document_keeps r (id.Prev n p) d = (refl, refl)
document_keeps r id.Settings d = (refl, refl)

found_keeps : (r : ChangesReader) (found : Option Document) (s : Step) → IsSame r (fed (record r { step = s }) (reply.Found found))
found_keeps r None step.First = (refl, refl)
found_keeps r (Some d) step.First = document_keeps (record r { step = step.First }) d.id d
found_keeps r None step.Next = (refl, refl)
found_keeps r (Some d) step.Next = document_keeps (record r { step = step.Next }) d.id d
found_keeps r found (step.Previous left) = previous_left (noted (record r { step = step.Previous left }) left.first found) (left_of left.rest)
found_keeps r found (step.Roots left) = roots_left (noted (record r { step = step.Roots left }) left.first found) (left_of left.rest)
found_keeps r found (step.Done o) = (refl, refl)

pub reply_keeps : (r : ChangesReader) (x : Reply) → IsSame r (fed r x)
reply_keeps r (reply.Found found) = found_keeps r found r.step
reply_keeps r (reply.Updated found) = (refl, refl)
reply_keeps r (reply.Unmet c k) = (refl, refl)
reply_keeps r reply.Absent = (refl, refl)
reply_keeps r reply.NoMemory = (refl, refl)
reply_keeps r reply.Undone = (refl, refl)
reply_keeps r (reply.Removed o) = (refl, refl)
reply_keeps r reply.Finished = (refl, refl)
reply_keeps r reply.Learnt = (refl, refl)
reply_keeps r (reply.Pins h s ps) = (refl, refl)
reply_keeps r reply.Gone = (refl, refl)
reply_keeps r reply.Recovered = (refl, refl)

module _ (start : Start) where
  pub observing_begins : (ds : Documents) (past : Past) (formers : Formers) (a : Global) (from : RevVec) (pin : Pin) → IsObserving start ds past formers (changes_reader a from pin)
  observing_begins ds past formers a from pin = refl

  pub observing_feeds : (table : List (DocId × Document)) (past : Past) (formers : Formers) (done : Progress) (r : ChangesReader) → IsTable table → IsKeptSince start (documents_in table) past done → AreHeld start past r.from r.pin → AreFormers (documents_in table) (course_from start past) formers → AreWriting past r.from r.pin.base
      → IsObserving start (documents_in table) past formers r → IsObserving start (documents_in table) past formers (fed r (answer table (due r)))
  observing_feeds table past formers done r is world held lists writing reads = feed_step start table is past formers done r.alloc r.from r.pin world held lists writing r.at r.known r.said r.step reads

  pub observing_lasts : (formers more : Formers) (ds now : Documents) (past later : Past) (done : Progress) (r : ChangesReader) → IsKeptSince start now later done → AreHeld start later r.from r.pin → ObservesOn start r.from r.pin ds now past later → FormersGrow formers more → IsObserving start ds past formers r → IsObserving start now later more r
  observing_lasts formers more ds now past later done r world held on grows reads = stands_last start formers more ds now past later done world r.from r.pin held on grows r.at r.known r.said r.step reads

  pub observing_gives : (ds : Documents) (past : Past) (formers : Formers) (r : ChangesReader) (o : List CommitChanges) → IsObserving start ds past formers r → r.step ≡ step.Done o → o ≡ changes_between (Some start) past r.from r.pin.base
  observing_gives ds past formers r o reads done = by r.step done reads
    where
      by : (s : Step) → s ≡ step.Done o → Stands start ds past formers r.from r.pin.base r.pin.sweep r.at r.known r.said s → o ≡ changes_between (Some start) past r.from r.pin.base
      by s e stands = subst (λ (s : Step). Stands start ds past formers r.from r.pin.base r.pin.sweep r.at r.known r.said s) e stands

  -- ---- over any instants

  module _ (from : RevVec) (pin : Pin) where
    walk : (i : Instant) (is : List Instant) (r : ChangesReader) (o : List CommitChanges) → r.from ≡ from → r.pin ≡ pin → AreObservable start from pin i is → IsObserving start (documents_at i) i.moment.past i.formers r
        → (after_instants is r).step ≡ step.Done o → o ≡ changes_between (Some start) i.moment.past from pin.base
    walk i [] r o f p on reads done = observing_gives (documents_at i) i.moment.past i.formers r o reads done ∙ λ j. changes_between (Some start) i.moment.past (f j) (p j).base
    walk i (n ∷ ns) r o f p on reads done =
        let k = reply_keeps r (answer n.moment.table (due r)) in
        let held : AreHeld start n.moment.past r.from r.pin = subst (λ (v : RevVec). AreHeld start n.moment.past v r.pin) (sym f) (subst (λ (q : Pin). AreHeld start n.moment.past from q) (sym p) on.2.held) in
        let going : ObservesOn start r.from r.pin (documents_at i) (documents_at n) i.moment.past n.moment.past =
        subst (λ (v : RevVec). ObservesOn start v r.pin (documents_at i) (documents_at n) i.moment.past n.moment.past) (sym f) (subst (λ (q : Pin). ObservesOn start from q (documents_at i) (documents_at n) i.moment.past n.moment.past) (sym p) on.0) in
        let writing : AreWriting n.moment.past r.from r.pin.base = subst (λ (v : RevVec). AreWriting n.moment.past v r.pin.base) (sym f) (subst (λ (q : Pin). AreWriting n.moment.past from q.base) (sym p) on.2.writing) in
        let now = observing_lasts i.formers n.formers (documents_at i) (documents_at n) i.moment.past n.moment.past on.2.done r on.2.kept held going on.1 reads in
        let next = observing_feeds n.moment.table n.moment.past n.formers on.2.done r on.2.ordered on.2.kept held on.2.listed writing now in
        walk n ns (fed r (answer n.moment.table (due r))) o (k.0 ∙ f) (k.1 ∙ p) on.3 next done ∙ changes_same start i.moment.past n.moment.past pin.base on.0.edits from

  -- whatever comes between its steps, a reader of changes that is done gives what the commits change
  pub observing_done : (a : Global) (from : RevVec) (pin : Pin) (i : Instant) (is : List Instant) (o : List CommitChanges) → AreObservable start from pin i is → (after_instants is (changes_reader a from pin)).step ≡ step.Done o → o ≡ changes_between (Some start) i.moment.past from pin.base
  observing_done a from pin i is o on done = walk from pin i is (changes_reader a from pin) o refl refl on (observing_begins (documents_at i) i.moment.past i.formers a from pin) done
