-- From the draw of its commit until its reply a session draws nothing.
use Rattle.std.proofs.Common.{◌≡◌, inl, inr, ℕ, Bool, true, false, cond, Some, [], ◌∷◌, ◌++◌, refl, sym, ◌∙◌, subst}
use Rattle.std.specs.Prelude.{◌==◌}
use Rattle.std.specs.Option.{option_map_or}
use Rattle.std.specs.List.{list_any}
use mathlib.Core.Bool.{false≢true}
use Rattle.jr_rev.specs.declared.revision.Revision.{Revision}
use Rattle.jr_rev.specs.Revisions.{is_same}
use Rattle.oak_machine.specs.declared.event.Draw.{Draw}
use Rattle.oak_machine.specs.declared.event.Event.TheVariants as event
use Rattle.oak_machine.specs.declared.event.StepKind.{StepKind}
use Rattle.oak_machine.specs.declared.event.StepKind.TheVariants as kind
use Rattle.oak_machine.specs.History.{History, Past}
use Rattle.oak_machine.specs.Commits.{draw_of}
use Rattle.oak_machine.specs.Laws.{AreOthers, Says, Starts, after, is_revision_of}
use Rattle.oak_machine.proofs.Induction.{neither}
use Rattle.oak_port.specs.Ports.{Awaiting, Collecting, Deciding, Detaching, Idle, IsFinish, Learning, Makes, Passing, Publishing, Shown, Starting, Steps, Sweeping}
use Rattle.oak_port.specs.Ports.{Telling, Undoing, Work, Writing, WritesOn}
use Rattle.oak_port.specs.declared.task.StepOut.{StepOut}
use Rattle.oak_port.specs.declared.task.StepOut.TheVariants as out
use Rattle.oak_port.specs.declared.task.TaskEnd.TheVariants as end
use Rattle.jcr_law.specs.declared.law.JcrLaw.{JcrLaw}
use Rattle.jcr_run.specs.declared.run.Pledge.{Pledge}
use Rattle.jcr_run.specs.declared.run.Phase.{Phase}
use Rattle.jcr_run.specs.declared.run.Phase.TheVariants as phase
use Rattle.jcr_run.specs.declared.run.SessionRun.{SessionRun}
use Rattle.jcr_run.specs.declared.turn.Turn.{Turn}
use Rattle.jcr_run.specs.declared.turn.Turn.TheVariants as turn
use Rattle.jcr_run.specs.Nearing.{DrawsNoOther, IsReply}
use Rattle.jcr_run.specs.Standing.{AreEnds, HasCounted, IsCommitting, IsGranted, Stands, StandsAt}
use Rattle.jcr_run.proofs.Others.{is_draw_of, no_draws}

-- ---- events with no draw of a session

-- a revision that is the session's was its own before them
undrawn : (added past : Past) (s : ℕ) (r : Revision) → list_any (is_draw_of s) added ≡ false → is_revision_of (added ++ past) s r ≡ true → is_revision_of past s r ≡ true
undrawn [] past s r none h = h
undrawn (event.Draw d ∷ added) past s r none h =
    let n = neither (d.session == s) _ none in
    undrawn added past s r n.1 (by (is_same r d.revision) n.0 h)
  where
    by : (b : Bool) → (d.session == s) ≡ false → option_map_or (λ (x : Draw). x.session == s) (cond b (Some d) (draw_of (added ++ past) r)) false ≡ true → is_revision_of (added ++ past) s r ≡ true
    by true other theirs = absurd (false≢true (sym other ∙ theirs))
    by false other theirs = theirs
undrawn (e ∷ added) past s r none h = undrawn added past s r (neither (is_draw_of s e) _ none).1 h

-- events of others, and then these
pub draws_none : (old new : Shown) (others own : Past) → new.history ≡ after own (after others old.history) → new.session ≡ old.session → AreOthers old.session others old.history.past → list_any (is_draw_of old.session) own ≡ false → DrawsNoOther old new
draws_none old new others own grown session theirs none r h =
    undrawn others old.history.past old.session r (no_draws (others ++ old.history.past) others old.session theirs)
    (undrawn own (others ++ old.history.past) old.session r none
    (subst (λ (x : History). is_revision_of x.past old.session r ≡ true) grown (subst (λ (s : ℕ). is_revision_of new.history.past s r ≡ true) session h)))

pub draws_neither : (old mid new : Shown) → DrawsNoOther old mid → DrawsNoOther mid new → DrawsNoOther old new
draws_neither old mid new first second r h = first r (second r h)

-- ---- a step of a commit

events_are : (n : ℕ) (own made : Past) → own ≡ made → list_any (is_draw_of n) made ≡ false → list_any (is_draw_of n) own ≡ false
events_are n own made is none = subst (λ (p : Past). list_any (is_draw_of n) p ≡ false) (sym is) none

finish_undrawn : (n : ℕ) (r : Revision) (own : Past) → IsFinish r own → list_any (is_draw_of n) own ≡ false
finish_undrawn n r own (inl same) = events_are n own (event.End r ∷ []) same refl
finish_undrawn n r own (inr (k, v, same)) = events_are n own (event.Head k v ∷ event.End r ∷ []) same refl

write_undrawn : (n s : ℕ) (r : Revision) (k : StepKind) (own : Past) (now : Work) → WritesOn s r k own now → list_any (is_draw_of n) own ≡ false
write_undrawn n s r k own now (inl (a, same, work)) = events_are n own (event.Went s kind.Write ∷ []) same refl
write_undrawn n s r k own now (inr (inl (a, same, work))) = events_are n own [] same refl
write_undrawn n s r k own now (inr (inr (inl (a, same, work)))) = events_are n own (event.Went s kind.Mark ∷ []) same refl
write_undrawn n s r k own now (inr (inr (inr (inl (a, same, work))))) = events_are n own (event.Commit r ∷ []) same refl
write_undrawn n s r k own now (inr (inr (inr (inr (item, o, mark, same, work))))) = events_are n own (event.Refuse r item o ∷ []) same refl

made_undrawn : (n : ℕ) (past : Past) (h : History) (s : ℕ) (w : Work) (answer : StepOut) (own : Past) (v : Work) → IsCommitting past s w → Makes h s w answer own v → list_any (is_draw_of n) own ≡ false
made_undrawn n past h s (Writing r) (out.Went k) own v c m = write_undrawn n s r k own v m
made_undrawn n past h s (Writing r) out.Memory own v c m = events_are n own [] m.0 refl
made_undrawn n past h s (Writing r) x own v c m = absurd m
made_undrawn n past h s (Undoing r e) (out.Went k) own v c m = events_are n own (event.Went s kind.Undo ∷ []) m.1 refl
made_undrawn n past h s (Undoing r e) (out.Ready (end.Commit f)) own v c m = finish_undrawn n r own m.1
made_undrawn n past h s (Undoing r e) x own v c m = absurd m
made_undrawn n past h s (Deciding r) (out.Went k) own v c m = finish_undrawn n r own m.1
made_undrawn n past h s (Deciding r) x own v c m = absurd m
made_undrawn n past h s (Awaiting r) (out.Wait q) own v c m = events_are n own [] m.0 refl
made_undrawn n past h s (Awaiting r) (out.Ready (end.Commit f)) own v c m = events_are n own (event.Refresh s m.2 ∷ []) m.4 refl
made_undrawn n past h s (Awaiting r) x own v c m = absurd m
made_undrawn n past h s Idle x own v c m = absurd c
made_undrawn n past h s (Starting t) x own v c m = absurd c
made_undrawn n past h s (Publishing r) x own v c m = absurd c
made_undrawn n past h s (Learning u) x own v c m = absurd c
made_undrawn n past h s (Passing r) x own v c m = absurd c
made_undrawn n past h s (Sweeping r) x own v c m = absurd c
made_undrawn n past h s Collecting x own v c m = absurd c
made_undrawn n past h s (Telling e) x own v c m = absurd c
made_undrawn n past h s (Detaching u) x own v c m = absurd c

pub step_undrawn : (law : JcrLaw) (old new : Shown) (run : SessionRun) (a : Pledge) → Stands law old run → run.phase ≡ phase.Committing a → (starts : Starts) (says : Says) (answer : StepOut) → Steps starts says old new answer → DrawsNoOther old new
step_undrawn law old new run a stands commits starts says answer steps =
    let committing = (subst (λ (f : Phase). StandsAt law old run f) commits stands.at).1.commits in
    draws_none old new steps.others steps.own steps.grows.grown steps.session steps.grows.theirs
    (made_undrawn old.session old.history.past (after steps.others old.history) old.session old.work answer steps.own new.work committing steps.makes)

-- ---- a reply

-- how a split or a collection ended draws nothing
ends_undrawn : (n s : ℕ) (ended : Past) → AreEnds s ended → list_any (is_draw_of n) ended ≡ false
ends_undrawn n s [] are = refl
ends_undrawn n s (event.Split t p e ∷ []) are = refl
ends_undrawn n s (event.Collected t c ∷ []) are = refl
ends_undrawn n s (e ∷ []) are = absurd (false≢true are)
ends_undrawn n s (e ∷ f ∷ ended) are = absurd are

pub reply_undrawn : (law : JcrLaw) (old new : Shown) (run now : SessionRun) (t : Turn) → Stands law old run → IsReply t → IsGranted t → HasCounted law old new run now t → DrawsNoOther old new
reply_undrawn law old new run now (turn.Said j) stands reply granted turned =
    draws_none old new turned.others turned.own turned.grows.grown (turned.stands.session ∙ (turned.same.0 ∙ sym stands.session)) turned.grows.theirs
    (events_are old.session turned.own (event.Said old.session run.index turned.tells.1 ∷ turned.tells.2) turned.tells.4
    (ends_undrawn old.session old.session turned.tells.2 turned.tells.3))
reply_undrawn law old new run now turn.Memory stands reply granted turned = absurd granted
reply_undrawn law old new run now t stands reply granted turned = absurd reply
