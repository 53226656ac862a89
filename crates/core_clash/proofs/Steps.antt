-- Each step keeps what holds; each commit and each refusal may follow.
use Rattle.std.proofs.Common.{◌≡◌, ◌+◌, Bool, true, false, ◌||◌, ◌⊎◌, inl, inr, Some, Ok, Err, Result, List, [], ◌∷◌, ◌++◌, refl, sym, subst, ◌∙◌, is_some}
use Rattle.jr_path.specs.declared.path.Path.{Path}
use Rattle.jr_path.specs.declared.path.Item.{Item}
use Rattle.jr_rev.specs.declared.revision.Revision.{Revision}
use Rattle.jr_rev.specs.Vectors.{sees}
use Rattle.oak_clash.specs.declared.mark.Mark.{Mark}
use Rattle.oak_doc.specs.declared.document.Document.{Document}
use Rattle.oak_doc.specs.declared.update.OpFault.{OpFault}
use Rattle.oak_doc.specs.declared.update.OpFault.TheVariants as fault
use Rattle.oak_doc.specs.declared.update.Kept.TheVariants as kept
use Rattle.oak_doc.specs.declared.update.Cond.TheVariants.{NoCollision}
use Rattle.oak_doc.specs.Updates.{updated, after_changes}
use Rattle.oak_machine.specs.declared.event.Draw.{Draw}
use Rattle.oak_machine.specs.declared.event.Event.TheVariants as event
use Rattle.oak_machine.specs.declared.event.StepKind.TheVariants as kind
use Rattle.oak_machine.specs.Commits.{is_committed, is_drawn, is_refused, is_ended, is_in_base, are_clashing, marks_of}
use Rattle.oak_machine.specs.Runs.{IsOpen, MayCommit, MayRefuse}
use Rattle.oak_commit.specs.Writing.{write_op, last_op}
use Rattle.oak_commit.specs.Clashing.{Met, marked, noted, collision, found, mark_op}
use Rattle.core_clash.specs.Views.{In, mark_at}
use Rattle.core_clash.specs.Core.{Core, docs_after, with_document, with_writer, root_of, IsGoing, IsDone, MayWrite, MayMark, MayLast, core_written, core_after_mark, core_last, core_marked, core_lasted}
use Rattle.oak_commit.specs.Looking.{whole}
use Rattle.core_clash.specs.Sound.{Sound, Cause, Noticed, MarkStands, IsOf, IsRooted, has_moved, marked_in}
use Rattle.std.specs.List.{list_any}
use Rattle.core_clash.proofs.Whole.{whole_from}
use Rattle.core_keep.specs.Journal.{is_swept}
use Rattle.core_clash.proofs.Basics.{test, not_both, none_in}
use Rattle.core_clash.proofs.Pasts.{in_flight}
use Rattle.core_clash.proofs.Apart.{clash_from, apart_at_last}
use Rattle.core_clash.proofs.Updates.{write_is, writes, mark_is, marks, last_is, notes}
use Rattle.core_clash.proofs.Meetings.{meeting}
use Rattle.core_clash.proofs.Written.{write_keeps}
use Rattle.core_clash.proofs.Marked.{mark_keeps}
use Rattle.core_clash.proofs.Committed.{commit_keeps}
use Rattle.core_clash.proofs.Refused.{refuse_keeps}

pub write_step : (s : Core) (d : Draw) (p : Path) (rest : List Path) → Sound s → MayWrite s d p rest → Sound (core_written s d p rest)
write_step s d p rest sound may = subst
    (λ (x : Result Document OpFault). Sound (record {
      number = s.number + 1;
      docs = docs_after s.docs p x;
      moved = s.moved;
      old = s.old;
      past = event.Went d.session kind.Write ∷ s.past;
      writers = with_writer s.writers d.revision (record (s.writers d.revision) { left = rest; written = (s.writers d.revision).written ++ p ∷ []; due = found d.base d.revision p d.marks (whole p (s.docs p) (s.moved p)) });
    }))
    (sym (write_is (s.docs p) d p (s.number + 1)))
    (write_keeps s d p rest (s.number + 1) (with_document s.docs p (after_changes (s.docs p) (write_op d.revision d.edit.writes d.marks p) (s.number + 1))) (found d.base d.revision p d.marks (whole p (s.docs p) (s.moved p))) sound may (writes s.docs d p (s.number + 1) (sound.ordered p) (sound.edits d.revision d may.going.draw)) (meeting d.base d.revision p d.marks (whole p (s.docs p) (s.moved p))))

pub mark_step : (s : Core) (d : Draw) (f : Met) (rest : List Met) → Sound s → MayMark s d f rest → Sound (core_after_mark s d f rest)
mark_step s d f rest sound may = by (mark_is (s.docs (root_of s.past f.other)) s.past d.revision f (s.number + 1))
  where
    by : ((noted (s.docs (root_of s.past f.other)) f.other ≡ false) × (updated (s.docs (root_of s.past f.other)) (mark_op (root_of s.past f.other) f.other d.revision f.theirs) (s.number + 1) ≡ Ok (after_changes (s.docs (root_of s.past f.other)) (mark_op (root_of s.past f.other) f.other d.revision f.theirs) (s.number + 1)))) ⊎ ((g : OpFault) × (updated (s.docs (root_of s.past f.other)) (mark_op (root_of s.past f.other) f.other d.revision f.theirs) (s.number + 1) ≡ Err g)) → Sound (core_after_mark s d f rest)
    by (inl h) = subst (λ (x : Result Document OpFault). Sound (core_marked s d f rest x)) (sym h.1)
        (mark_keeps s d f rest (s.number + 1) (with_document s.docs (root_of s.past f.other) (after_changes (s.docs (root_of s.past f.other)) (mark_op (root_of s.past f.other) f.other d.revision f.theirs) (s.number + 1))) sound may (marks s.docs s.past d.revision f (s.number + 1) h.0))
    by (inr h) = subst (λ (x : Result Document OpFault). Sound (core_marked s d f rest x)) (sym h.1) (refuse_keeps s d f.mine f.other sound may.going (sound.due d.revision f (subst (λ (fs : List Met). In f fs) (sym may.next) (inl refl))).cause)

pub last_step : (s : Core) (d : Draw) → Sound s → MayLast s d → Sound (core_last s d)
last_step s d sound may = by (last_is (s.docs (root_of s.past d.revision)) s.past d.revision (s.number + 1))
  where
    by : ((is_some (collision (s.docs (root_of s.past d.revision)) d.revision) ≡ false) × (updated (s.docs (root_of s.past d.revision)) (last_op d.revision (marks_of s.past d.revision)) (s.number + 1) ≡ Ok (after_changes (s.docs (root_of s.past d.revision)) (last_op d.revision (marks_of s.past d.revision)) (s.number + 1)))) ⊎ ((e : Revision × Item) × (collision (s.docs (root_of s.past d.revision)) d.revision ≡ Some e) × (updated (s.docs (root_of s.past d.revision)) (last_op d.revision (marks_of s.past d.revision)) (s.number + 1) ≡ Err (fault.Unmet (NoCollision d.revision) (kept.Entry e.0 e.1)))) → Sound (core_last s d)
    by (inl h) = subst (λ (x : Result Document OpFault). Sound (core_lasted s d x)) (sym h.1)
        (commit_keeps s d (s.number + 1) (with_document s.docs (root_of s.past d.revision) (after_changes (s.docs (root_of s.past d.revision)) (last_op d.revision (marks_of s.past d.revision)) (s.number + 1))) sound may (notes s.docs s.past d.revision (s.number + 1) h.0))
    by (inr h) = subst (λ (x : Result Document OpFault). Sound (core_lasted s d x)) (sym h.2) (refuse_keeps s d h.0.1 h.0.0 sound may.going (sound.caused (root_of s.past d.revision) d.revision h.0.0 h.0.1 h.1))

-- who goes on is open
is_open : (s : Core) (d : Draw) → Sound s → IsGoing s d → IsOpen s.past d.revision
is_open s d sound going = record { running = going.running; in_flight = in_flight s.past d.revision d going.draw going.unended; not_committed = going.uncommitted; not_refused = by (test (is_refused s.past d.revision)) }
  where
    by : (is_refused s.past d.revision ≡ true) ⊎ (is_refused s.past d.revision ≡ false) → is_refused s.past d.revision ≡ false
    by (inl h) = not_both (s.writers d.revision).undoing (sound.refused d.revision h) going.going
    by (inr f) = f

-- the Commit of a last write may follow
pub may_commit : (s : Core) (d : Draw) → Sound s → MayLast s d → is_some (collision (s.docs (root_of s.past d.revision)) d.revision) ≡ false → MayCommit s.past d.revision
may_commit s d sound may free = record { open_ = is_open s d sound may.going; apart = apart_at_last s d sound may free }

by_cause : (s : Core) (d : Draw) (item : Item) (o : Revision) → Sound s → IsGoing s d → Cause s.past d.revision item o → MayRefuse s.past d.revision item o
by_cause s d item o sound going c = record { open_ = is_open s d sound going; met = c.met; outside = c.outside; live = c.live }

-- the Refuse of a mark may follow
pub may_refuse_at_mark : (s : Core) (d : Draw) (f : Met) (rest : List Met) → Sound s → MayMark s d f rest → MayRefuse s.past d.revision f.mine f.other
may_refuse_at_mark s d f rest sound may = by_cause s d f.mine f.other sound may.going (sound.due d.revision f (subst (λ (fs : List Met). In f fs) (sym may.next) (inl refl))).cause

-- the Refuse of a last write may follow
pub may_refuse_at_last : (s : Core) (d : Draw) (o : Revision) (item : Item) → Sound s → MayLast s d → collision (s.docs (root_of s.past d.revision)) d.revision ≡ Some (o, item) → MayRefuse s.past d.revision item o
may_refuse_at_last s d o item sound may h = by_cause s d item o sound may.going (sound.caused (root_of s.past d.revision) d.revision o item h)

-- of two committed revisions that clash, the base of one sees the other
pub no_unseen_clash : (s : Core) (r o : Revision) → Sound s → (r ≡ o → ⊥) → is_committed s.past r ≡ true → is_committed s.past o ≡ true → are_clashing s.past r o ≡ true → (is_in_base s.past r o ≡ true) ⊎ (is_in_base s.past o r ≡ true)
no_unseen_clash s r o sound apart cr co clashes =
    let c = clash_from (marks_of s.past r) (marks_of s.past o) clashes in
    by (sound.noticed r o c.path c.mine c.theirs apart (stands r cr c.path c.mine c.in_mine) (stands o co c.path c.theirs c.in_theirs) c.clashes)
  where
    wrote : (x : Revision) (p : Path) → (s.writers x).left ≡ [] → In p (s.writers x).written ⊎ In p (s.writers x).left → In p (s.writers x).written
    wrote x p none (inl h) = h
    wrote x p none (inr h) = absurd (none_in p _ none h)

    stands : (x : Revision) → is_committed s.past x ≡ true → (p : Path) (m : Mark) → In (mark_at p m) (marks_of s.past x) → MarkStands s x p m
    stands x cx p m h = let w = sound.whole x cx in record { written = wrote x p w.left (sound.covered x p m h w.going); going = w.going; mark = h }

    seen : (a b : Revision) → is_committed s.past a ≡ true → is_committed s.past b ≡ true → Noticed s a b → is_in_base s.past a b ≡ true
    seen a b ca cb (inl h) = h
    seen a b ca cb (inr (inl f)) = absurd (none_in f.0 _ (sound.whole a ca).due f.1)
    seen a b ca cb (inr (inr h)) = not_both _ h (sound.unmarked b cb)

    by : Noticed s r o ⊎ Noticed s o r → (is_in_base s.past r o ≡ true) ⊎ (is_in_base s.past o r ≡ true)
    by (inl h) = inl (seen r o cr co h)
    by (inr h) = inr (seen o r co cr h)

-- what ended without a commit has left no mark
pub undone_whole : (s : Core) (r : Revision) (p : Path) (m : Mark) → Sound s → s.old r ≡ false → is_ended s.past r ≡ true → is_committed s.past r ≡ false → marked_in (s.docs p) (s.moved p) r m ≡ false
undone_whole s r p m sound drawn ended uncommitted = by (test (marked_in (s.docs p) (s.moved p) r m))
  where
    none : IsDone s r → IsOf s p r m → ⊥
    none (inl c) h = not_both (is_committed s.past r) c uncommitted
    none (inr u) (inl e) = not_both (s.old r) e drawn
    none (inr u) (inr h) = none_in p _ u.1 h.0

    by : (marked_in (s.docs p) (s.moved p) r m ≡ true) ⊎ (marked_in (s.docs p) (s.moved p) r m ≡ false) → marked_in (s.docs p) (s.moved p) r m ≡ false
    by (inl h) = absurd (none (sound.ended r ended) (sound.origin r p m h))
    by (inr f) = f

-- neither in a document, nor in what moved from it
left_false : (a b : Bool) → (a || b) ≡ false → a ≡ false
left_false true b h = h
left_false false b h = refl

right_false : (a b : Bool) → (a || b) ≡ false → b ≡ false
right_false true b h = not_both true refl h
right_false false b h = h

pub undone_here : (s : Core) (r : Revision) (p : Path) (m : Mark) → Sound s → s.old r ≡ false → is_ended s.past r ≡ true → is_committed s.past r ≡ false → marked (s.docs p) r m ≡ false
undone_here s r p m sound drawn ended uncommitted = left_false (marked (s.docs p) r m) _ (undone_whole s r p m sound drawn ended uncommitted)

pub undone_moved : (s : Core) (r : Revision) (p : Path) (m : Mark) → Sound s → s.old r ≡ false → is_ended s.past r ≡ true → is_committed s.past r ≡ false → list_any (has_moved r m) (s.moved p) ≡ false
undone_moved s r p m sound drawn ended uncommitted = right_false (marked (s.docs p) r m) _ (undone_whole s r p m sound drawn ended uncommitted)

-- a document that has a mark of a revision tells its commit root
pub told_root : (s : Core) (r : Revision) (p : Path) (m : Mark) → Sound s → is_swept s.past r ≡ false → s.old r ≡ false → marked_in (s.docs p) (s.moved p) r m ≡ true → IsRooted (s.docs p) r (root_of s.past r)
told_root s r p m sound fresh other h = sound.rooted r p m fresh other h

-- the document that a committer writes next tells the commit root of each whom it meets there
pub found_root : (s : Core) (d : Draw) (p : Path) (rest : List Path) (f : Met) → Sound s → MayWrite s d p rest → In f (found d.base d.revision p d.marks (whole p (s.docs p) (s.moved p))) → IsRooted (s.docs p) f.other (root_of s.past f.other)
found_root s d p rest f sound may h =
    let met = (meeting d.base d.revision p d.marks (whole p (s.docs p) (s.moved p))).each f h in
    told_root s f.other p met.mark.0 sound (fresh met.outside (test (is_swept s.past f.other))) (other (test (s.old f.other))) (whole_from p f.other (s.docs p) (s.moved p) met.mark.0 met.mark.1)
  where
    drawn : is_drawn s.past d.revision ≡ true
    drawn = rw may.going.draw refl

    its : (o : Revision) → is_in_base s.past d.revision o ≡ sees d.base o
    its o = rw may.going.draw refl

    fresh : sees d.base f.other ≡ false → (is_swept s.past f.other ≡ true) ⊎ (is_swept s.past f.other ≡ false) → is_swept s.past f.other ≡ false
    fresh outside (inl h) = not_both (sees d.base f.other) (sym (its f.other) ∙ sound.bounds.below d.revision f.other (in_flight s.past d.revision d may.going.draw may.going.unended) (sound.bounds.swept f.other h)) outside
    fresh outside (inr k) = k

    -- its base sees all that there was from the beginning
    other : (s.old f.other ≡ true) ⊎ (s.old f.other ≡ false) → s.old f.other ≡ false
    other (inl e) = not_both (sees d.base f.other) (sym (its f.other) ∙ sound.start d.revision drawn f.other e) ((meeting d.base d.revision p d.marks (whole p (s.docs p) (s.moved p))).each f h).outside
    other (inr k) = k
