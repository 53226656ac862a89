-- While others add events, a session stands where it stood.
use Rattle.std.proofs.Common.{◌≡◌, ℕ, Bool, true, false, ◌||◌, None, Some, Option, [], ◌∷◌, ◌++◌, sym, ap, ◌∙◌, subst}
use Rattle.std.specs.Option.{option_map_or}
use Rattle.std.specs.List.{list_any}
use Rattle.jr_path.specs.Lists.{Text}
use Rattle.jr_rev.specs.declared.revision.Revision.{Revision}
use Rattle.jr_rev.specs.declared.vector.RevVec.{RevVec}
use Rattle.jr_rev.specs.Revisions.{is_at_most}
use Rattle.oak_machine.specs.declared.event.Event.TheVariants as event
use Rattle.oak_machine.specs.declared.event.StepKind.TheVariants as kind
use Rattle.oak_machine.specs.History.{History, Past}
use Rattle.oak_machine.specs.Commits.{is_commit_of, is_committed, is_end_of}
use Rattle.oak_machine.specs.Heads.{local, published}
use Rattle.oak_machine.specs.Laws.{AreOthers, after, is_event_of}
use Rattle.oak_machine.specs.Runs.{AreNodes, IsRun}
use Rattle.oak_machine.specs.Sessions.{has_left, has_login, is_attached, is_login_of, next_index, refreshed_since, since}
use Rattle.oak_machine.proofs.Induction.{neither}
use Rattle.oak_machine.proofs.Stays.{any_later}
use Rattle.oak_port.specs.Ports.{Awaiting, Deciding, HasRoom, Idle, Shown, Starting, Undoing, OthersAlone, Work, Writing, Publishing, Learning, Passing, Sweeping, Collecting, Telling}
use Rattle.oak_port.specs.Ports.{Detaching}
use Rattle.oak_commit.specs.declared.outcome.CommitEnd.{CommitEnd}
use Rattle.oak_commit.specs.declared.outcome.CommitEnd.TheVariants as commit
use Rattle.core_heads.proofs.Passing.{next_stays}
use Rattle.jcr_law.specs.declared.law.JcrLaw.{JcrLaw}
use Rattle.jcr_law.specs.Growing.{HasAllOf, call_same, trees_same}
use Rattle.jcr_law.specs.Calls.{call_moved}
use Rattle.jcr_law.specs.Lasting.{grows_by_others, says_last, says_of, starts_of}
use Rattle.jcr_law.specs.Law.{SaysBy}
use Rattle.jcr_law.specs.Since.{before_turn, detached_among, is_unmoved, is_unpinned}
use Rattle.jcr_law.specs.State.{Call, call_of}
use Rattle.jcr_law.specs.Tasks.{knows_published}
use Rattle.jcr_trans.specs.declared.command.Command.{Command}
use Rattle.jcr_run.specs.declared.run.SessionRun.{SessionRun}
use Rattle.core_calls.proofs.Beginning.{attached_stays, cursor_stays}
use Rattle.jcr_steps.specs.declared.limits.TheConstants.{VECTOR_REPLY_BYTES}
use Rattle.jcr_run.specs.Standing.{HasCommitted, HasCursor, HasDrawn, HasSwept, IsAllLocal, IsAllOut, IsAllPublished, IsBeside, IsCalled, IsClash}
use Rattle.jcr_run.specs.Standing.{IsCommitting, IsFresh, IsHalfDetached, IsIn, IsOnCommand, IsToldEnd, IsUnmade, IsWorkFor}
use Rattle.jcr_run.specs.Standing.{KeepsCursor}
use Rattle.jcr_run.proofs.Cursors.{has_cursor_over}
use Rattle.jcr_run.proofs.Works.{WorkCase, learning, passing, publishing, sweeping, to_keep, to_observe, to_read, to_release, to_show, to_sweep, to_write, work_case}
use Rattle.jcr_run.proofs.Others.{last_others, refusal_own, revision_stays, uncommitted_own}

-- ---- whether it is in

pub login_stays : (whole added past : Past) (s : ℕ) → list_any (is_event_of whole s) added ≡ false → has_login past s ≡ false → has_login (added ++ past) s ≡ false
login_stays whole [] past s others h = h
login_stays whole (event.Login t v ∷ added) past s others h = let n = neither _ _ others in ap (λ b. b || has_login (added ++ past) s) n.0 ∙ login_stays whole added past s n.1 h
login_stays whole (e ∷ added) past s others h = login_stays whole added past s (neither (is_event_of whole s e) _ others).1 h

pub left_stays : (whole added past : Past) (s : ℕ) → list_any (is_event_of whole s) added ≡ false → has_left past s ≡ false → has_left (added ++ past) s ≡ false
left_stays whole [] past s others h = h
left_stays whole (event.Went t kind.End ∷ added) past s others h = let n = neither _ _ others in ap (λ b. b || has_left (added ++ past) s) n.0 ∙ left_stays whole added past s n.1 h
left_stays whole (e ∷ added) past s others h = left_stays whole added past s (neither (is_event_of whole s e) _ others).1 h

-- ---- by pasts

module _ (law : JcrLaw) (h : History) (s : ℕ) (added : Past) (nodes : AreNodes h.clusters h.sessions) (later : IsRun (starts_of law) (says_of law) (after added h)) (others : AreOthers s added h.past) where
  abbrev whole : Past
  whole = added ++ h.past

  pub all_same : HasAllOf law h.begin s h.past whole
  all_same = grows_by_others h.clusters h.sessions nodes h.begin (starts_of law) (says_of law) s law added h.past later others

  -- what the next command is run with
  pub call_still : call_of law h.begin whole s ≡ call_of law h.begin h.past s
  call_still = call_same law h.clusters h.sessions h.begin s h.past whole all_same

  pub fresh_still : IsFresh h.past s → IsFresh whole s
  fresh_still fresh = record { first = all_same.drawn ∙ fresh.first; idle = all_same.idle fresh.idle }

  drawn_still : (r : Revision) → HasDrawn h.past s r → HasDrawn whole s r
  drawn_still r has = record {
    unmoved = all_same.still ∙ has.unmoved;
    unpinned = all_same.unpinned ∙ has.unpinned;
    made = has.made;
    revision = has.revision;
    draw = all_same.draw ∙ has.draw;
    drawn = all_same.drawn ∙ has.drawn;
    base = all_same.base ∙ has.base;
    theirs = revision_stays h.clusters h.sessions nodes h.begin (starts_of law) (says_of law) added h.past later s r has.theirs;
    last = last_others whole r added h.past s others has.last;
  }

  open_still : (r : Revision) → HasDrawn h.past s r → is_committed h.past r ≡ false → is_committed whole r ≡ false
  open_still r has h1 = uncommitted_own h.clusters h.sessions nodes h.begin (starts_of law) (says_of law) s r added h.past later whole (drawn_still r has).theirs others h1

  told_still : (r : Revision) (e : CommitEnd) → HasDrawn h.past s r → IsToldEnd h.past r e → IsToldEnd whole r e
  told_still r (commit.Clash item o) has h1 = refusal_own h.clusters h.sessions nodes h.begin (starts_of law) (says_of law) s r added h.past whole (drawn_still r has).theirs others ∙ h1
  told_still r commit.Memory has h1 = tt
  told_still r (commit.Committed q) has h1 = h1

  pub committing_still : (work : Work) → IsCommitting h.past s work → IsCommitting whole s work
  committing_still (Writing r) (has, unmade) = (drawn_still r has, open_still r has unmade)
  committing_still (Undoing r e) (has, unmade, told) = (drawn_still r has, open_still r has unmade, told_still r e has told)
  committing_still (Deciding r) (has, made) = (drawn_still r has, any_later (is_commit_of r) added h.past made)
  committing_still (Awaiting r) (has, made, ended) = (drawn_still r has, any_later (is_commit_of r) added h.past made, any_later (is_end_of r) added h.past ended)
  committing_still Idle h1 = h1
  committing_still (Starting t) h1 = h1
  committing_still (Publishing r) h1 = h1
  committing_still (Learning u) h1 = h1
  committing_still (Passing r) h1 = h1
  committing_still (Sweeping r) h1 = h1
  committing_still Collecting h1 = h1
  committing_still (Telling e) h1 = h1
  committing_still (Detaching v) h1 = h1

  -- what was local, and what was published, when the command began
  local_still : (r : Revision) → IsAllLocal h s r → IsAllLocal (after added h) s r
  local_still r all k on = subst (λ (p : Past). is_at_most (local h.begin p k) r ≡ true) (sym all_same.before) (all k on)

  published_still : (v : RevVec) → IsAllPublished h s v → IsAllPublished (after added h) s v
  published_still v all k on = subst (λ (p : Past). knows_published h.clusters h.begin p k v ≡ true) (sym all_same.before) (all k on)

  out_still : (r : Revision) → IsAllOut h s r → IsAllOut (after added h) s r
  out_still r all k on = subst (λ (p : Past). is_at_most (published h.begin p k) r ≡ true) (sym all_same.before) (all k on)

  swept_still : (r : Revision) → HasSwept h s r → HasSwept (after added h) s r
  swept_still r (k, on, has) = (k, on, all_same.sweeps k r has)

  pub work_still : (c : Call) (m : Command) (w : Work) → IsWorkFor h s c m w → IsWorkFor (after added h) s c m w
  work_still c m w is = by m w (work_case h s c m w is)
    where
      by : (m : Command) (w : Work) → WorkCase h s c m w → IsWorkFor (after added h) s c m w
      by _ _ to_write = tt
      by _ _ (publishing r all) = local_still r all
      by _ _ to_read = tt
      by _ _ (learning v all) = published_still v all
      by _ _ to_sweep = tt
      by _ _ (passing r all) = out_still r all
      by _ _ (sweeping r all has) = (out_still r all, swept_still r has)
      by _ _ (to_keep id named counted) = (named, counted)
      by _ _ (to_release id i same) = same
      by _ _ (to_observe p deep mask within) = within
      by _ _ to_show = tt

  pub unmade_still : (r : Revision) → IsUnmade h.past s r → IsUnmade whole s r
  unmade_still r is = record {
    unmoved = all_same.still ∙ is.unmoved;
    unpinned = all_same.unpinned ∙ is.unpinned;
    drawn = all_same.drawn ∙ is.drawn;
    unmade =
        subst (λ (o : Option Revision). option_map_or (is_committed whole) o false ≡ false) is.drawn
        (all_same.uncommitted is.idle (ap (λ (o : Option Revision). option_map_or (is_committed h.past) o false) is.drawn ∙ is.unmade));
    idle = all_same.idle is.idle;
  }

  pub clash_still : (r : Revision) (e : CommitEnd) → IsClash h.past s r e → IsClash whole s r e
  clash_still r e is = record { unmade = unmade_still r is.unmade; ended = all_same.ended r is.ended; told = by e is.told }
    where
      by : (e : CommitEnd) → IsToldEnd h.past r e → IsToldEnd whole r e
      by (commit.Clash item o) told = all_same.refusal r is.ended ∙ told
      by commit.Memory told = tt
      by (commit.Committed q) told = told

-- ---- by what a port shows

module _ (law : JcrLaw) (old new : Shown) (beside : IsBeside law old new) where
  abbrev added : Past
  added = beside.others

  same : new.history ≡ after added old.history
  same = beside.grows.grown

  -- what holds of the history with the others' events holds of what is shown
  pub shown_beside : (F : History → ℕ → Type 0) → F (after beside.others old.history) old.session → F new.history new.session
  shown_beside F x = subst (λ (h : History). F h new.session) (sym same) (subst (λ (n : ℕ). F (after added old.history) n) (sym beside.session) x)

  pub next_beside : next_index new.history.past new.session ≡ next_index old.history.past old.session
  next_beside = shown_beside (λ h n. next_index h.past n ≡ next_index old.history.past old.session) (next_stays (added ++ old.history.past) added old.history.past old.session beside.grows.theirs)

  module _ (nodes : AreNodes old.history.clusters old.history.sessions) where
    later : IsRun (starts_of law) (says_of law) (after added old.history)
    later = subst (λ (h : History). IsRun (starts_of law) (says_of law) h) same beside.grows.run

    pub nodes_beside : AreNodes new.history.clusters new.history.sessions
    nodes_beside = shown_beside (λ h n. AreNodes h.clusters h.sessions) nodes

    pub all_beside : HasAllOf law old.history.begin old.session old.history.past (added ++ old.history.past)
    all_beside = all_same law old.history old.session added nodes later beside.grows.theirs

    -- the cursor stands where it stood
    cursor_beside : KeepsCursor law old.history old.session → KeepsCursor law new.history new.session
    cursor_beside keeps = shown_beside (λ h n. KeepsCursor law h n) (λ c is unpinned.
        has_cursor_over old.history.past (added ++ old.history.past) old.session c
        (cursor_stays (added ++ old.history.past) added old.history.past old.session beside.grows.theirs)
        (keeps c (sym (call_still law old.history old.session added nodes later beside.grows.theirs) ∙ is) (sym all_beside.unpinned ∙ unpinned)))

    pub in_beside : {attached : Bool} → IsIn law old attached → IsIn law new attached
    in_beside {attached = attached} inside = record {
      nodes = nodes_beside;
      trees = shown_beside (λ h n. Rattle.core_calls.specs.Seeing.SeesTrees law h.clusters h.sessions h.begin) inside.trees;
      typed = shown_beside (λ h n. Rattle.core_calls.specs.Seeing.SeesTyped law h.clusters h.sessions h.begin) inside.typed;
      run = beside.grows.run;
      login = shown_beside (λ h n. has_login h.past n ≡ true) (any_later (is_login_of old.session) added old.history.past inside.login);
      stays = shown_beside (λ h n. has_left h.past n ≡ false) (left_stays (added ++ old.history.past) added old.history.past old.session beside.grows.theirs inside.stays);
      began = shown_beside (λ h n. is_attached (before_turn h.past n) n ≡ attached) (ap (λ (p : Past). is_attached p old.session) all_beside.before ∙ inside.began);
      cursor = cursor_beside inside.cursor;
    }

    pub called_beside : (c : Call) → IsCalled law old c → IsCalled law new c
    called_beside c is = shown_beside (λ h n. call_of law h.begin h.past n ≡ Some c) (call_still law old.history old.session added nodes later beside.grows.theirs ∙ is)

    pub fresh_beside : IsFresh old.history.past old.session → IsFresh new.history.past new.session
    fresh_beside is = shown_beside (λ h n. IsFresh h.past n) (fresh_still law old.history old.session added nodes later beside.grows.theirs is)

    -- nor has its base moved
    pub unmoved_beside : is_unmoved old.history.past old.session ≡ true → is_unmoved new.history.past new.session ≡ true
    unmoved_beside is = shown_beside (λ h n. is_unmoved h.past n ≡ true) (all_beside.still ∙ is)

    -- nor has its cursor
    pub unpinned_beside : is_unpinned old.history.past old.session ≡ true → is_unpinned new.history.past new.session ≡ true
    unpinned_beside is = shown_beside (λ h n. is_unpinned h.past n ≡ true) (all_beside.unpinned ∙ is)

    -- the session is attached as it is
    pub attached_beside : is_attached new.history.past new.session ≡ is_attached old.history.past old.session
    attached_beside = shown_beside (λ h n. is_attached h.past n ≡ is_attached old.history.past old.session)
        (attached_stays (added ++ old.history.past) added old.history.past old.session beside.grows.theirs)

    -- where its cursor is pinned
    pub has_cursor_beside : (c : Call) → HasCursor old.history.past old.session c → HasCursor new.history.past new.session c
    has_cursor_beside c has = shown_beside (λ h n. HasCursor h.past n c)
        (has_cursor_over old.history.past (added ++ old.history.past) old.session c
        (cursor_stays (added ++ old.history.past) added old.history.past old.session beside.grows.theirs) has)

    pub command_beside : (run : SessionRun) (m : Command) (c : Call) → IsOnCommand law old run m c → IsOnCommand law new run m c
    command_beside run m c is = record {
      unread = is.unread;
      next = is.next;
      is = called_beside c is.is;
      holds = is.holds;
      fresh = fresh_beside is.fresh;
    }

    -- what the law lets be said it lets still
    pub says_beside : IsRun (starts_of law) (says_of law) old.history → (i : ℕ) (text : Text) → SaysBy law old.history old.session i text → SaysBy law new.history new.session i text
    says_beside run i text says = shown_beside (λ h n. SaysBy law h n i text)
        (says_last law old.history beside.others old.session i text
        (record { nodes = nodes; run = run; later = later; others = beside.grows.theirs }) says)

    -- a detach whose second step isn't made
    abbrev pub half_beside : (run : SessionRun) (v : RevVec) → new.room ≡ old.room → IsHalfDetached law old run v → IsHalfDetached law new run v
    half_beside run v room is = record {
      unread = is.unread;
      command = is.command;
      next = is.next;
      detaches = is.detaches;
      fresh = fresh_beside is.fresh;
      call = is.call;
      holds = is.holds;
      settled = is.settled;
      tree = is.tree;
      tree_is = is.tree_is;
      is = called_beside (call_moved is.call v is.tree) is.is;
      unpinned = unpinned_beside is.unpinned;
      stands = attached_beside ∙ is.stands;
      moved = shown_beside (λ h n. refreshed_since h.past n ≡ Some v) (all_beside.refreshed ∙ is.moved);
      whole = shown_beside (λ h n. detached_among (since h.past n) n ≡ None) (all_beside.detached ∙ is.whole);
      eight = is.eight;
      place = subst (λ (x : Option ℕ). HasRoom x VECTOR_REPLY_BYTES) (sym room) is.place;
    }

    pub work_beside : (c : Call) (m : Command) (w : Work) → IsWorkFor old.history old.session c m w → IsWorkFor new.history new.session c m
        w
    work_beside c m w is = shown_beside (λ h n. IsWorkFor h n c m w)
        (work_still law old.history old.session added nodes later beside.grows.theirs c m w is)

    pub committing_beside : (work : Work) → IsCommitting old.history.past old.session work → IsCommitting new.history.past new.session work
    committing_beside work is = shown_beside (λ h n. IsCommitting h.past n work) (committing_still law old.history old.session added nodes later beside.grows.theirs work is)

    pub clash_beside : (r : Revision) (e : CommitEnd) → IsClash old.history.past old.session r e → IsClash new.history.past new.session r e
    clash_beside r e is = shown_beside (λ h n. IsClash h.past n r e) (clash_still law old.history old.session added nodes later beside.grows.theirs r e is)

    pub committed_beside : (c : Call) (e : CommitEnd) → HasCommitted law old c e → HasCommitted law new c e
    committed_beside c (commit.Committed r) is = shown_beside (λ h n. Rattle.jcr_run.specs.Standing.IsMadeFor law h n c r) record {
      unpinned = all_beside.unpinned ∙ is.unpinned;
      detached = attached_stays (added ++ old.history.past) added old.history.past old.session beside.grows.theirs ∙ is.detached;
      made = is.made;
      revision = is.revision;
      draw = all_beside.draw ∙ is.draw;
      drawn = all_beside.drawn ∙ is.drawn;
      on = trees_same old.history.begin old.history.past (added ++ old.history.past) is.made.base (all_beside.draw_edits is.made is.draw) ∙ is.on;
      ended = all_beside.ended r is.ended;
      committed = all_beside.committed r is.committed;
      base = is.base;
      tree = is.tree;
      tree_is = is.tree_is;
      moved = all_beside.refreshed ∙ is.moved;
      seen = is.seen;
      idle = all_beside.idle is.idle;
      call = call_still law old.history old.session added nodes later beside.grows.theirs ∙ is.call;
    }
    committed_beside c (commit.Clash item o) (r, is, clash) = (r, called_beside c is, clash_beside r (commit.Clash item o) clash)
    committed_beside c commit.Memory (r, is, unmade) = (r, called_beside c is, shown_beside (λ h n. IsUnmade h.past n r) (unmade_still law old.history old.session added nodes later beside.grows.theirs r unmade))

pub by_waits : (law : JcrLaw) (old new : Shown) (work : Work) (room : Option ℕ) → OthersAlone (starts_of law) (says_of law) old new work room → IsBeside law old new
by_waits law old new work room waits = record { others = waits.others; grows = waits.grows; session = waits.session; beside = waits.beside; alone = waits.alone }
