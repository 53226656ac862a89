-- What a session answers once its commit has ended.
use Rattle.std.proofs.Common.{◌≡◌, ◌++◌, List, nat_lt, true, false, not, Some, None, Option, is_some, refl, sym, ap, ◌∙◌, subst}
use Rattle.std.specs.Prelude.{IfSome, option_map, slice_get, string_bytes}
use Rattle.std.specs.Option.{option_map_or}
use Rattle.std.specs.declared.alloc.Global.{Global}
use Rattle.std.specs.declared.string.String.{String}
use mathlib.Core.Bool.{false≢true}
use Rattle.jr_path.specs.declared.name.Name.{Name}
use Rattle.jr_path.specs.declared.path.Item.{Item}
use Rattle.jr_path.specs.declared.path.Path.{Path}
use Rattle.jr_path.specs.Lists.{Text}
use Rattle.jr_rev.specs.declared.revision.Revision.{Revision}
use Rattle.jr_rev.specs.declared.vector.Pin.{Pin}
use Rattle.jr_rev.specs.declared.vector.RevVec.{RevVec}
use Rattle.jr_tree.specs.declared.edit.Edit.{Edit}
use Rattle.jr_tree.specs.declared.shared.Who.{Who}
use Rattle.jr_tree.specs.Edits.{IsProper, applied}
use Rattle.jr_tree.specs.Trees.{IsTree, Nodes, node_at}
use Rattle.jr_known.specs.Earlier.{SameButAt}
use Rattle.jr_items.specs.Refusals.{clash_refusal}
use Rattle.oak_machine.specs.Commits.{draw_of, is_committed, is_ended, tree_at}
use Rattle.oak_machine.specs.Laws.{after}
use Rattle.oak_machine.specs.Sessions.{base_of, is_drawing}
use Rattle.oak_port.specs.Ports.{HasRoom, OthersAlone, Shown, TellsChanges}
use Rattle.oak_commit.specs.declared.outcome.CommitEnd.{CommitEnd}
use Rattle.oak_commit.specs.declared.outcome.CommitEnd.TheVariants as commit
use Rattle.jcr_ref.specs.References.{ReferencesOk}
use Rattle.jcr_trans.specs.Answers.{ShowsRevision}
use Rattle.jcr_trans.specs.Texts.{answer_text, memory_text}
use Rattle.jcr_trans.specs.declared.command.Command.{Command}
use Rattle.jcr_trans.specs.declared.command.Command.TheVariants as command
use Rattle.jcr_law.specs.Since.{before_turn}
use Rattle.jcr_law.specs.declared.law.JcrLaw.{JcrLaw}
use Rattle.jcr_law.specs.Built.{Allowed}
use Rattle.jcr_law.specs.Growing.{HasAllOf, seen_edits, trees_same}
use Rattle.jcr_law.specs.Commits.{committed_answer, version_answer}
use Rattle.jcr_law.specs.Law.{MaySay, clashed, committed, no_text}
use Rattle.jcr_law.specs.Lasting.{says_of, starts_of}
use Rattle.jcr_law.specs.Starting.{call_based, call_has_base}
use Rattle.jcr_law.specs.State.{Call, accepted, is_ok_text}
use Rattle.jcr_law.specs.Calls.{call_moved}
use Rattle.jcr_call.specs.Comings.{accepted_text}
use Rattle.jcr_held.specs.Holds.{Holds}
use Rattle.jcr_held.specs.declared.held.Held.{Held}
use Rattle.jr_rev.specs.Alone.{IsNextAlone}
use Rattle.core_calls.specs.Replies.{is_refusing}
use Rattle.core_calls.proofs.Accepting.{answer_accepts}
use Rattle.core_calls.proofs.Alone.{tree_next}
use Rattle.core_calls.proofs.Draws.{draw_known}
use Rattle.core_calls.proofs.Unmoved.{drawn_where_begun}
use Rattle.jcr_steps.specs.declared.limits.TheConstants.{COMMIT_REPLY_BYTES}
use Rattle.jcr_run.specs.declared.run.Pledge.{Pledge}
use Rattle.jcr_run.specs.declared.next.Due.TheVariants as due
use Rattle.jcr_run.specs.declared.run.Phase.TheVariants as phase
use Rattle.jcr_run.specs.declared.run.SessionRun.{SessionRun}
use Rattle.jcr_run.specs.Asked.{IsAsked, MayAnswer, MayForgo, Settles, has_drawn}
use Rattle.jcr_session.specs.Begins.{HasClashed, SeesCommit}
use Rattle.jcr_run.specs.Standing.{HasCounted, IsAtEnd, IsBeside, IsCalled, IsMadeFor, IsUnmade, Stands, due_by}
use Rattle.jcr_run.specs.declared.turn.Turn.{Turn}
use Rattle.jcr_run.proofs.Calling.{may_behind, stands_law, turned_behind_place}
use Rattle.jcr_run.proofs.Staying.{stands_waits}
use Rattle.jcr_run.proofs.Waiting.{all_beside, by_waits}
use Rattle.jcr_session.proofs.Drawing.{commit_allowed, commit_detached}
use Rattle.jcr_run.proofs.Cursors.{accepts_by, cursor_refused, cursor_settled}
use Rattle.jcr_run.proofs.Lawful.{attached_still, forgo_answers, refused_text, says_allowed, says_idle, settled_asked, settled_attached, settled_leaves}
use Rattle.jcr_run.proofs.Lawful.{settled_says}
use Rattle.jcr_run.proofs.Nexts.{allowed_due, apart, due_at, due_number, sets_cursor, sets_none, unviewed_due}
use Rattle.jcr_run.proofs.Saying.{asked_like}
use Rattle.jcr_run.proofs.Telling.{rest_idle}

-- ---- the command whose commit has ended

module _ (law : JcrLaw) (p : Shown) (run : SessionRun) (e : CommitEnd) (a : Pledge) (stands : Stands law p (record run { phase = phase.Committed e a })) where
  abbrev ended : IsAtEnd law p (record run { phase = phase.Committed e a }) e a
  ended = stands.at.1

  pub end_room : HasRoom p.room COMMIT_REPLY_BYTES
  end_room = ended.for.place.told

  end_asked : (c : Call) → is_drawing p.history.past p.session ≡ false → IsCalled law p c → IsAsked law p run ended.for.command c
  end_asked c still is = record {
    inside = stands.at.0;
    session = stands.session;
    few = stands.few;
    commands = stands.commands;
    index = stands.index;
    rests = rest_idle p.session p.work ended.idle;
    unread = ended.unread;
    still = still;
    next = ended.for.next;
    call = is;
  }

-- it wasn't made
unmade_forgoes : (law : JcrLaw) (p : Shown) (run : SessionRun) (m : Command) (c : Call) (r : Revision) → IsAsked law p run m c → IsUnmade p.history.past p.session r → Holds c run.held → MayForgo law p run true
unmade_forgoes law p run m c r asked is holds = record {
  command = m;
  call = c;
  asked = asked;
  unmoved = is.unmoved;
  unpinned = is.unpinned;
  drew_is = ap is_some is.drawn;
  uncommitted = ap (λ (o : Option Revision). option_map_or (is_committed p.history.past) o false) is.drawn ∙ is.unmade;
  holds = holds;
}

module _ (law : JcrLaw) (p : Shown) (run : SessionRun) (a : Pledge) where
  pub memory_forgoes : Stands law p (record run { phase = phase.Committed commit.Memory a }) → MayForgo law p run true
  memory_forgoes stands =
      let x = stands.at.1 in
      unmade_forgoes law p run x.for.command x.call x.ended.0 (end_asked law p run commit.Memory a stands x.call x.ended.2.idle x.ended.1) x.ended.2 x.for.holds

  pub clash_ended : (item : Item) (o : Revision) → Stands law p (record run { phase = phase.Committed (commit.Clash item o) a }) → HasClashed law p run item o
  clash_ended item o stands =
      let x = stands.at.1 in record {
        command = x.for.command;
        call = x.call;
        asked = end_asked law p run (commit.Clash item o) a stands x.call x.ended.2.unmade.idle x.ended.1;
        idle = x.idle;
        revision = x.ended.0;
        clash = x.ended.2;
        commits = x.for.commits;
        holds = x.for.holds;
        room = x.for.place.told;
      }

module _ (law : JcrLaw) (p : Shown) (run now : SessionRun) (item : Item) (o : Revision) (has : HasClashed law p run item o) (settles : Settles run now false true None) where
  pub clash_forgoes : MayForgo law p run true
  clash_forgoes = unmade_forgoes law p run has.command has.call has.revision has.asked has.clash.unmade has.holds

  pub clash_memory : MayAnswer law p now memory_text
  clash_memory = forgo_answers law p run now true clash_forgoes settles

  pub clash_answers : MayAnswer law p now (no_text (clash_refusal item o))
  clash_answers = record {
    began = run.attached;
    command = has.command;
    call = has.call;
    asked = settled_asked law p run now false true None settles has.command has.call has.asked;
    says = settled_says law p run now false true None settles (no_text (clash_refusal item o))
        (says_idle law p run has.command has.call has.asked has.idle (no_text (clash_refusal item o))
        (says_allowed law p run has.command has.call has.asked (no_text (clash_refusal item o)) (commit_allowed run has.command has.asked.next has.commits)
        (clashed has.command has.revision o item has.clash.unmade.drawn has.clash.ended has.clash.told has.clash.unmade.unmoved)));
    leaves = settled_leaves law p run now false true None settles has.command has.call (no_text (clash_refusal item o)) has.asked.next has.holds (λ ok. absurd (false≢true ok)) (refused_text (clash_refusal item o)) clash_forgoes.drew_is;
    stands = attached_still law p run has.command has.call has.asked has.clash.unmade.unmoved ∙ sym (settled_attached law p run now false true None settles);
    cursor = cursor_refused p.history.past p.session (no_text (clash_refusal item o)) (has_drawn p) has.call has.command (refused_text (clash_refusal item o))
        (has.asked.inside.cursor has.call has.asked.call has.clash.unmade.unpinned);
  }

-- ---- it was made

-- moving the base changes nothing of what is told of a commit
moved_answer : (c : Call) (v : RevVec) (t on : Nodes) (r : Revision) (m : Command) → committed_answer (call_moved c v t) on r m ≡ committed_answer c on r m
moved_answer c v t on r (command.Lock p deep) = refl
moved_answer c v t on r (command.Checkin p) = refl
moved_answer c v t on r m = refl

-- nor of the tokens that are held then
moved_tokens : (c : Call) (v : RevVec) (t : Nodes) (m : Command) → due_by m ≡ due.Commit → (accepted (call_moved c v t) m).tokens ≡ (accepted c m).tokens
moved_tokens c v t command.Save h = refl
moved_tokens c v t (command.Lock p deep) h = refl
moved_tokens c v t (command.Unlock p) h = refl
moved_tokens c v t (command.Checkin p) h = refl
moved_tokens c v t (command.Checkout p) h = refl
moved_tokens c v t (command.Label p version label take) h = refl
moved_tokens c v t (command.Unlabel p label) h = refl
moved_tokens c v t (command.Restore p version) h = refl
moved_tokens c v t command.Head h = apart due.ShowBase due.Commit refl h
moved_tokens c v t (command.Refresh keep) h = apart due.Refresh due.Commit refl h
moved_tokens c v t (command.Query text vars) h = apart due.Query due.Commit refl h
moved_tokens c v t command.BackWrite h = apart due.Errand due.Commit refl h
moved_tokens c v t command.BackRead h = apart due.Errand due.Commit refl h
moved_tokens c v t command.Sweep h = apart due.Errand due.Commit refl h
moved_tokens c v t command.Checkpoint h = apart due.Errand due.Commit refl h
moved_tokens c v t (command.Release id) h = apart due.Errand due.Commit refl h
moved_tokens c v t (command.Attach id) h = apart due.Attach due.Commit refl h
moved_tokens c v t command.Detach h = apart due.Detach due.Commit refl h
moved_tokens c v t (command.Observe p deep mask) h = apart due.Observe due.Commit refl h
moved_tokens c v t command.Events h = apart due.Events due.Commit refl h
moved_tokens c v t (command.Split p) h = apart due.Split due.Commit refl h
moved_tokens c v t command.Collect h = apart due.Collect due.Commit refl h
moved_tokens c v t m h = apart due.See due.Commit refl h

-- and it is no refusal
version_shown : (n : Option Name) → is_refusing (version_answer n) ≡ false
version_shown None = refl
version_shown (Some n) = refl

committed_shown : (c : Call) (on : Nodes) (r : Revision) (m : Command) → is_refusing (committed_answer c on r m) ≡ false
committed_shown c on r (command.Lock p deep) = refl
committed_shown c on r (command.Checkin p) = version_shown _
committed_shown c on r m = refl

module _ (law : JcrLaw) (p : Shown) (run : SessionRun) (r : Revision) (a : Pledge) (stands : Stands law p (record run { phase = phase.Committed (commit.Committed r) a })) where
  abbrev here : IsAtEnd law p (record run { phase = phase.Committed (commit.Committed r) a }) (commit.Committed r) a
  here = stands.at.1

  abbrev c : Call
  c = here.call

  abbrev made : IsMadeFor law p.history p.session c r
  made = here.ended

  abbrev moved : Call
  moved = call_moved c made.base made.tree

  asked_made : IsAsked law p run here.for.command moved
  asked_made = end_asked law p run (commit.Committed r) a stands moved made.idle made.call

  allowed : due_by here.for.command ≡ due.Commit
  allowed = (allowed_due run.attached here.for.command due.Commit (sym (due_at run here.for.command here.for.next) ∙ here.for.commits) refl).1

  -- the base has moved to where the pin is
  pub made_pin : (o : Option Pin) (pin : Pin) → o ≡ Some pin → (Rattle.oak_machine.specs.Sessions.has_left p.history.past p.session ≡ false → option_map (λ x. x.base) o ≡ base_of p.history.past p.session) → pin.base ≡ made.base
  made_pin o pin is told =
      ap (λ (x : Option RevVec). elim x [ Some v ↦ v | None ↦ pin.base ])
      (sym (ap (option_map (λ (x : Pin). x.base)) is) ∙ (told stands.at.0.stays ∙ call_has_base law p.history.begin p.history.past p.session moved made.call))

  pub made_tree : IsTree made.tree
  made_tree = made.tree_is

  answer_is : accepted_text a.accepted r ≡ answer_text (committed_answer moved (tree_at p.history.begin p.history.past made.made.base) made.made.revision here.for.command)
  answer_is =
      here.for.accepts.text r
      ∙ (ap (λ (t : Nodes). answer_text (committed_answer c t r here.for.command)) (sym made.on)
      ∙ (ap (λ (q : Revision). answer_text (committed_answer c (tree_at p.history.begin p.history.past made.made.base) q here.for.command)) (sym made.revision)
      ∙ ap answer_text (sym (moved_answer c made.base made.tree (tree_at p.history.begin p.history.past made.made.base) made.made.revision here.for.command))))

  accepts : is_ok_text (accepted_text a.accepted r) ≡ true
  accepts = ap is_ok_text answer_is ∙ (answer_accepts (committed_answer moved (tree_at p.history.begin p.history.past made.made.base) made.made.revision here.for.command)
      ∙ ap not (committed_shown moved (tree_at p.history.begin p.history.past made.made.base) made.made.revision here.for.command))

  ended_made : is_ended p.history.past made.made.revision ≡ true
  ended_made = ap (is_ended p.history.past) made.revision ∙ made.ended

  committed_made : is_committed p.history.past made.made.revision ≡ true
  committed_made = ap (is_committed p.history.past) made.revision ∙ made.committed

  -- it was drawn at the base at which the command began
  begun_made : base_of (before_turn p.history.past p.session) p.session ≡ Some made.made.base
  begun_made = drawn_where_begun law p.history.clusters p.history.sessions p.history.begin p.session made.made p.history.past
      stands.at.0.run made.draw

  none_set : sets_cursor here.for.command ≡ false
  none_set = sets_none here.for.command (ap (λ (d : _). nat_lt (due_number d) 10) allowed)

  -- once what is held is moved to there, and accepted
  module _ (held : Held) (holds : Holds moved held) (now : SessionRun) (settles : Settles (record run { held = held }) now true true (Some a.accepted.tokens)) where
    pub made_answers : MayAnswer law p now (accepted_text a.accepted r)
    made_answers = record {
      began = run.attached;
      command = here.for.command;
      call = moved;
      asked = settled_asked law p (record run { held = held }) now true true (Some a.accepted.tokens) settles here.for.command moved (asked_like law here.for.command moved p run (record run { held = held }) refl refl refl refl refl asked_made);
      says = settled_says law p (record run { held = held }) now true true (Some a.accepted.tokens) settles (accepted_text a.accepted r)
          (says_idle law p run here.for.command moved asked_made here.idle (accepted_text a.accepted r)
          (says_allowed law p run here.for.command moved asked_made (accepted_text a.accepted r) (commit_allowed run here.for.command here.for.next here.for.commits)
          (subst (λ (t : Text). MaySay law p.history p.session (Allowed here.for.command) t) (sym answer_is)
          (committed here.for.command moved made.made made.base made.draw begun_made ended_made committed_made made.moved
          (ap (Rattle.jr_rev.specs.Vectors.sees made.base) made.revision ∙ made.seen) made.call))));
      leaves = settled_leaves law p (record run { held = held }) now true true (Some a.accepted.tokens) settles here.for.command moved (accepted_text a.accepted r) here.for.next holds
          (λ ok. accepts_by moved held here.for.command (Some a.accepted.tokens) none_set holds (here.for.accepts.tokens ∙ sym (moved_tokens c made.base made.tree here.for.command allowed))) accepts (ap is_some made.drawn);
      stands = made.detached ∙ sym (settled_attached law p (record run { held = held }) now true true (Some a.accepted.tokens) settles ∙ commit_detached run here.for.command here.for.next here.for.commits);
      cursor = cursor_settled p.history.past p.session (is_ok_text (accepted_text a.accepted r)) (has_drawn p) moved here.for.command none_set
          (stands.at.0.cursor moved made.call made.unpinned);
    }

-- the text that is told: that which was made before, or the revision
abbrev pub told_as : Revision → Option (String Global) → Text
told_as r o = option_map_or string_bytes o (answer_text (ShowsRevision r))

module _ (law : JcrLaw) (p : Shown) (run : SessionRun) (r : Revision) (a : Pledge) (stands : Stands law p (record run { phase = phase.Committed (commit.Committed r) a })) where
  abbrev at_end : IsAtEnd law p (record run { phase = phase.Committed (commit.Committed r) a }) (commit.Committed r) a
  at_end = stands.at.1

  abbrev made_it : IsMadeFor law p.history p.session at_end.call r
  made_it = at_end.ended

  -- the session has a base
  pub made_base : {A : Type 0} (o : Option Pin) → o ≡ None → (Rattle.oak_machine.specs.Sessions.has_left p.history.past p.session ≡ false → option_map (λ x. x.base) o ≡ base_of p.history.past p.session) → A
  made_base o none told = absurd (false≢true (ap is_some (sym (ap (option_map (λ (x : Pin). x.base)) none) ∙ (told stands.at.0.stays ∙ call_has_base law p.history.begin p.history.past p.session (call_moved at_end.call made_it.base made_it.tree) made_it.call))))

  -- the tree that the base moved to is that of the history there
  moved_tree : made_it.tree ≡ tree_at p.history.begin p.history.past made_it.base
  moved_tree = ap (λ (c : Call). c.base) (call_based law p.history.begin p.history.past p.session (call_moved at_end.call made_it.base made_it.tree) made_it.call)

  -- the tree that is held was that of the history where the session drew
  drawn_tree : tree_at p.history.begin p.history.past run.held.who.base ≡ at_end.call.base
  drawn_tree = subst (λ (v : RevVec). tree_at p.history.begin p.history.past v ≡ at_end.call.base) (at_end.for.drew made_it.made made_it.draw).0 made_it.on

  -- at paths that weren't told to have changed since, it is the one before
  pub made_same : (paths : List Path) → TellsChanges p.history p.session run.held.who.base paths → SameButAt paths at_end.call.base made_it.tree
  made_same paths tells path untold =
      ap (λ (t : Nodes). node_at t path) moved_tree
      ∙ (tells made_it.base path (call_has_base law p.history.begin p.history.past p.session (call_moved at_end.call made_it.base made_it.tree) made_it.call) untold
      ∙ ap (λ (t : Nodes). node_at t path) drawn_tree)

  -- what is told to have changed, once others have acted, was so before
  module _ (q : Shown) (waits : OthersAlone (starts_of law) (says_of law) p q p.work p.room) where
    abbrev beside : IsBeside law p q
    beside = by_waits law p q p.work p.room waits

    abbrev all : HasAllOf law p.history.begin p.session p.history.past (beside.others ++ p.history.past)
    all = all_beside law p q beside stands.nodes

    held_edits : seen_edits (beside.others ++ p.history.past) run.held.who.base ≡ seen_edits p.history.past run.held.who.base
    held_edits = subst (λ (v : RevVec). seen_edits (beside.others ++ p.history.past) v ≡ seen_edits p.history.past v) (at_end.for.drew made_it.made made_it.draw).0 (all.draw_edits made_it.made made_it.draw)

    pub told_before : (paths : List Path) → TellsChanges q.history q.session run.held.who.base paths → TellsChanges p.history p.session run.held.who.base paths
    told_before paths tells v path is untold =
        let there = subst (λ (n : _). TellsChanges (after beside.others p.history) n run.held.who.base paths) beside.session (subst (λ (h : _). TellsChanges h q.session run.held.who.base paths) beside.grows.grown tells) in
        sym (ap (λ (t : Nodes). node_at t path) (trees_same p.history.begin p.history.past (beside.others ++ p.history.past) v (all.edits v is)))
        ∙ (there v path (all.base ∙ is) untold
        ∙ ap (λ (t : Nodes). node_at t path) (trees_same p.history.begin p.history.past (beside.others ++ p.history.past) run.held.who.base held_edits))

  -- the tree that the base moved to is the one before with the edit, where that commit alone lies between
  made_alone : IsNextAlone at_end.call.who.base made_it.base r → made_it.tree ≡ applied (Some r) at_end.call.base a.edit.writes
  made_alone alone =
      let run_is = stands.at.0.run in
      let nodes = stands.at.0.nodes in
      let drew = at_end.for.drew made_it.made made_it.draw in
      let known = draw_known (starts_of law) (says_of law) p.history.clusters p.history.sessions nodes p.history.begin p.session made_it.made p.history.past run_is made_it.draw in
      let is : draw_of p.history.past r ≡ Some made_it.made = subst (λ (q : Revision). draw_of p.history.past q ≡ Some made_it.made) made_it.revision known.1 in
      let from : IsNextAlone made_it.made.base made_it.base r = subst (λ (v : RevVec). IsNextAlone v made_it.base r) (sym (drew.0 ∙ ap (λ (w : Who). w.base) at_end.for.holds.who)) alone in
      moved_tree
      ∙ (tree_next (starts_of law) (says_of law) p.history.clusters p.history.sessions nodes p.history.begin p.history.past run_is made_it.base r made_it.made is from made_it.committed
      ∙ (ap (λ (t : Nodes). applied (Some r) t made_it.made.edit.writes) made_it.on
      ∙ ap (λ (e : Edit). applied (Some r) at_end.call.base e.writes) drew.1))

  -- what is held once it moved there
  pub made_holds : (pin : Pin) → pin.base ≡ made_it.base → (held : Held) → (told : Option (List Path)) → IfSome told (λ paths. SameButAt paths at_end.call.base made_it.tree)
      → ((c : Call) (t : Nodes) → Holds c run.held → run.held.is_kept ≡ false → SeesCommit c a.edit r pin.base t → IfSome told (λ paths. SameButAt paths c.base t) → Holds (call_moved c pin.base t) held)
      → Holds (call_moved at_end.call made_it.base made_it.tree) held
  made_holds pin is held told same moves =
      subst (λ (v : RevVec). Holds (call_moved at_end.call v made_it.tree) held) is
      (moves at_end.call made_it.tree at_end.for.holds at_end.for.settled
      (subst (λ (v : RevVec). SeesCommit at_end.call a.edit r v made_it.tree) (sym is) record { proper = at_end.for.proper; referring = at_end.for.referring; tree_is = made_it.tree_is; alone = made_alone }) same)

  pub made_next : (m : Command) × (slice_get run.commands run.index ≡ Some m) × (Rattle.jcr_view.specs.Outcomes.is_viewed m ≡ false)
  made_next = (at_end.for.command, at_end.for.next, unviewed_due run.attached at_end.for.command (ap (λ (d : _). Rattle.std.proofs.Common.nat_eq (due_number d) 6) (sym (due_at run at_end.for.command at_end.for.next) ∙ at_end.for.commits)))

-- what is so of a value, if there is one, is so of it by another name
if_some : {X : Type 0} (o : Option X) (P Q : X → Type 0) → ((x : X) → P x → Q x) → IfSome o P → IfSome o Q
if_some None P Q f h = h
if_some (Some x) P Q f h = f x h

-- the pin was asked for, and what changed since the base that is held
module _ (law next last : JcrLaw) (at_next : next ≡ law) (at_last : last ≡ next) (p q z : Shown) (run : SessionRun) (r : Revision) (a : Pledge) (stands : Stands law p (record run { phase = phase.Committed (commit.Committed r) a })) (first : OthersAlone (starts_of law) (says_of law) p q p.work p.room) (second : OthersAlone (starts_of next) (says_of next) q z q.work q.room) where
  abbrev at_run : SessionRun
  at_run = record run { phase = phase.Committed (commit.Committed r) a }

  stands_next : Stands next q at_run
  stands_next = stands_law law next at_next q at_run (stands_waits law p q at_run stands first)

  told_same : (told : Option (List Path)) → IfSome told (TellsChanges z.history z.session run.held.who.base) → IfSome told (λ paths. SameButAt paths (at_end law p run r a stands).call.base (made_it law p run r a stands).tree)
  told_same told = if_some told _ _ (λ paths tells. made_same law p run r a stands paths (told_before law p run r a stands q first paths (told_before next q run r a stands_next z second paths tells)))

  -- what is held has moved to the pin, and is accepted
  module _ (pin : Pin) (is : pin.base ≡ (made_it law p run r a stands).base) (told : Option (List Path)) (tells : IfSome told (TellsChanges z.history z.session run.held.who.base)) (held : Held) (moves : (c : Call) (t : Nodes) → Holds c run.held → run.held.is_kept ≡ false → SeesCommit c a.edit r pin.base t → IfSome told (λ paths. SameButAt paths c.base t) → Holds (call_moved c pin.base t) held) (now : SessionRun) (settles : Settles (record run { held = held }) now true true (Some a.accepted.tokens)) where
    answers_first : MayAnswer law p now (accepted_text a.accepted r)
    answers_first = made_answers law p run r a stands held (made_holds law p run r a stands pin is held told (told_same told tells) moves) now settles

    answers_next : MayAnswer next q now (accepted_text a.accepted r)
    answers_next = may_behind law next at_next p q now (accepted_text a.accepted r) answers_first p.room first

    pub answers_last : MayAnswer last z now (accepted_text a.accepted r)
    answers_last = may_behind next last at_last q z now (accepted_text a.accepted r) answers_next q.room second

    pub turned_last : (new : Shown) (then : SessionRun) (t : Turn) → HasCounted last z new now then t → HasCounted law p new now then t
    turned_last new then t turned =
        turned_behind_place law next at_next p q now (accepted_text a.accepted r) answers_first p.room first new then t
        (turned_behind_place next last at_last q z now (accepted_text a.accepted r) answers_next q.room second new then t turned)

-- ---- what is held, behind a commit

module _ (c : Call) (t : Nodes) (old held : Held) (edit : Edit) (r : Revision) (v : RevVec) (holds : Holds c old) (settled : old.is_kept ≡ false) (sees : SeesCommit c edit r v t) where
  pub follows_commit : IsNextAlone old.who.base v r → ((d : Call) → Holds d old → old.is_kept ≡ false → IsProper d.base edit.writes → ReferencesOk (applied None d.base edit.writes) → Holds (call_moved d v (applied (Some r) d.base edit.writes)) held) → Holds (call_moved c v t) held
  follows_commit alone follows =
      subst (λ (x : Nodes). Holds (call_moved c v x) held) (sym (sees.alone (subst (λ (w : Who). IsNextAlone w.base v r) holds.who alone))) (follows c holds settled sees.proper sees.referring)
