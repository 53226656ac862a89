-- What the law lets start and say, it lets start and say at a later past that has all of what it
-- asks for.
use Rattle.std.proofs.Common.{◌≡◌, ℕ, Bool, true, false, cond, not, ◌&&◌, Option, None, Some, List, [], ◌∷◌, refl, sym, ap, ◌∙◌, subst}
use Rattle.std.specs.Prelude.{Contains, Ok, Err, Result, option_map, map}
use Rattle.std.specs.List.{filter}
use Rattle.std.specs.Option.{option_map_or}
use Rattle.jr_path.specs.declared.path.Item.{Item}
use Rattle.jr_path.specs.Lists.{Text}
use Rattle.jr_rev.specs.declared.revision.Revision.{Revision}
use Rattle.jr_rev.specs.declared.vector.RevVec.{RevVec}
use Rattle.jr_rev.specs.Revisions.{is_at_most, is_before}
use Rattle.jr_rev.specs.Vectors.{sees}
use Rattle.jr_tree.specs.declared.edit.Edit.{Edit}
use Rattle.jr_tree.specs.declared.edit.Write.{Write}
use Rattle.jr_tree.specs.declared.shared.CommitChanges.{CommitChanges}
use Rattle.jr_tree.specs.Trees.{Nodes}
use Rattle.oak_clash.specs.declared.mark.MarkAt.{MarkAt}
use Rattle.oak_machine.specs.declared.event.Draw.{Draw}
use Rattle.oak_machine.specs.declared.event.Event.{Event}
use Rattle.oak_machine.specs.declared.event.Event.TheVariants as event
use Rattle.oak_machine.specs.Changed.{changes_between, item_changes, tree_below}
use Rattle.oak_machine.specs.Commits.{applied_all, committed_edits, is_committed, is_ended, refusal_of, tree_at}
use Rattle.oak_machine.specs.Heads.{local, published}
use Rattle.oak_machine.specs.History.{Begin, History, Past, begin_tree}
use Rattle.oak_machine.specs.Sessions.{base_of, drawn_since, is_attached, is_drawing, is_stopped, next_index, refreshed_since, since}
use Rattle.jcr_observe.specs.declared.event.JcrEvent.{JcrEvent}
use Rattle.jcr_observe.specs.Observed.{observed_events}
use Rattle.jcr_plan.specs.Plans.{PlanOk}
use Rattle.jcr_trans.specs.Texts.{answer_text}
use Rattle.jcr_trans.specs.declared.command.Command.{Command}
use Rattle.jcr_trans.specs.declared.command.Command.TheVariants as command
use Rattle.jcr_law.specs.declared.law.JcrLaw.{JcrLaw}
use Rattle.jcr_law.specs.Built.{Asked, Allowed, asked}
use Rattle.jcr_law.specs.Commits.{committed_answer, edit_due}
use Rattle.jcr_law.specs.Law.{MayStart, MaySay, IsNext, asked_by, barred, stopped, memory, half_detached, viewed, head, queried, refreshed, refused_edit, unwritten, committed, clashed, observing, unobserved, uncursored, observed, told, learned, swept, kept, uncounted, attached, released, unattached, unreleased, detached, split, unsplit, collected, stopping, unstopped, restopped, recovered, unrecovered}
use Rattle.jcr_law.specs.Queries.{QueryAnswers, events_reply, events_since}
use Rattle.jcr_law.specs.Since.{before_turn, came, detached_among, draw_since, is_pinning, is_unmoved, is_unpinned, stop_position}
use Rattle.jcr_law.specs.declared.state.Cursor.{Cursor}
use Rattle.jcr_law.specs.declared.state.State.{State}
use Rattle.jcr_law.specs.State.{Call, call_at, call_of, command_at, session_state}
use Rattle.jcr_law.specs.Tasks.{finds_stopped, is_out, is_recovering, is_sweep, knows_published, misses}

-- the commits of a past that a vector sees
abbrev pub seen_edits : Past → RevVec → List (Revision × List Write)
seen_edits past v = filter (λ e. sees v e.0) (committed_edits past)

-- a later past has of session s all that an earlier one has
pub record HasAllOf (law : JcrLaw) (begin : Begin) (s : ℕ) (old new : Past) : Type 0 where
  pub index : next_index new s ≡ next_index old s
  pub drawn : drawn_since new s ≡ drawn_since old s
  pub draw : draw_since new s ≡ draw_since old s
  pub refreshed : refreshed_since new s ≡ refreshed_since old s
  pub base : base_of new s ≡ base_of old s
  pub state : session_state law begin new s ≡ session_state law begin old s
  pub before : before_turn new s ≡ before_turn old s
  pub still : is_unmoved new s ≡ is_unmoved old s
  pub unpinned : is_unpinned new s ≡ is_unpinned old s
  pub detached : detached_among (since new s) s ≡ detached_among (since old s) s
  pub edits : (v : RevVec) → base_of old s ≡ Some v → seen_edits new v ≡ seen_edits old v
  pub draw_edits : (d : Draw) → draw_since old s ≡ Some d
      → seen_edits new d.base ≡ seen_edits old d.base
  pub idle : is_drawing old s ≡ false → is_drawing new s ≡ false
  pub uncommitted : is_drawing old s ≡ false
      → option_map_or (is_committed old) (drawn_since old s) false ≡ false
      → option_map_or (is_committed new) (drawn_since old s) false ≡ false
  pub ended : (r : Revision) → is_ended old r ≡ true → is_ended new r ≡ true
  pub committed : (r : Revision) → is_committed old r ≡ true → is_committed new r ≡ true
  pub refusal : (r : Revision) → is_ended old r ≡ true → refusal_of new r ≡ refusal_of old r
  pub position : (k p : ℕ) → stop_position old k ≡ Some p → stop_position new k ≡ Some p
  pub has : (x : Event) → Contains (since old s) x → Contains (since new s) x
  pub stopped : (k : ℕ) → is_stopped (since old s) k ≡ true → is_stopped (since new s) k ≡ true
  pub pinned : came s (λ earlier e. is_pinning s e) old ≡ true
      → came s (λ earlier e. is_pinning s e) new ≡ true
  pub outs : (k : ℕ) (r : Revision) → came s (λ earlier e. is_out k r e) old ≡ true
      → came s (λ earlier e. is_out k r e) new ≡ true
  pub sweeps : (k : ℕ) (r : Revision) → came s (λ earlier e. is_sweep k r e) old ≡ true
      → came s (λ earlier e. is_sweep k r e) new ≡ true
  pub missed : (id : List ℕ) → came s (misses s id) old ≡ true → came s (misses s id) new ≡ true
  pub found : (k : ℕ) → came s (finds_stopped s k) old ≡ true
      → came s (finds_stopped s k) new ≡ true
  pub recovers : (k : ℕ) (r : Revision) → came s (is_recovering k r) old ≡ true
      → came s (is_recovering k r) new ≡ true

-- of a list that passes one test those that pass another
filter_both : {X : Type 0} (p q : X → Bool) (xs : List X)
    → filter (λ x. p x && q x) xs ≡ filter q (filter p xs)
filter_both p q [] = refl
filter_both p q (x ∷ xs) = by (p x) (filter_both p q xs)
  where
    by : (b : Bool) → filter (λ y. p y && q y) xs ≡ filter q (filter p xs)
        → cond (b && q x) (x ∷ filter (λ y. p y && q y) xs) (filter (λ y. p y && q y) xs)
        ≡ filter q (cond b (x ∷ filter p xs) (filter p xs))
    by true rest = ap (λ ys. cond (q x) (x ∷ ys) ys) rest
    by false rest = rest

module _ (begin : Begin) (old new : Past) (v : RevVec)
    (same : seen_edits new v ≡ seen_edits old v) where
  pub trees_same : tree_at begin new v ≡ tree_at begin old v
  trees_same = ap (applied_all (begin_tree begin)) same

  below_same : (r : Revision) → tree_below begin new v r ≡ tree_below begin old v r
  below_same r = ap (applied_all (begin_tree begin))
      (filter_both (λ (e : Revision × List Write). sees v e.0) (λ e. is_before e.0 r)
      (committed_edits new)
      ∙ (ap (filter (λ (e : Revision × List Write). is_before e.0 r)) same
      ∙ sym (filter_both (λ (e : Revision × List Write). sees v e.0) (λ e. is_before e.0 r)
      (committed_edits old))))

  -- the changes of a commit on a tree
  abbrev of : Revision × List Write → Nodes → CommitChanges
  of e t = record { revision = e.0; changes = item_changes t e.1 }

  pub changes_same : (from : RevVec)
      → changes_between begin new from v ≡ changes_between begin old from v
  changes_same from =
      all (filter (λ e. sees v e.0 && not (sees from e.0)) (committed_edits new))
      ∙ ap (map {B = CommitChanges} (λ e. of e (tree_below begin old v e.0)))
      (filter_both (λ (e : Revision × List Write). sees v e.0) (λ e. not (sees from e.0))
      (committed_edits new)
      ∙ (ap (filter (λ (e : Revision × List Write). not (sees from e.0))) same
      ∙ sym (filter_both (λ (e : Revision × List Write). sees v e.0) (λ e. not (sees from e.0))
      (committed_edits old))))
    where
      all : (es : List (Revision × List Write))
          → map {B = CommitChanges} (λ e. of e (tree_below begin new v e.0)) es
          ≡ map {B = CommitChanges} (λ e. of e (tree_below begin old v e.0)) es
      all [] = refl
      all (e ∷ es) = ap
          (λ (t : Nodes). of e t ∷ map {B = CommitChanges}
          (λ e. of e (tree_below begin new v e.0)) es) (below_same e.0)
          ∙ ap (λ (rest : List CommitChanges). of e (tree_below begin old v e.0) ∷ rest) (all es)

module _ (law : JcrLaw) (clusters : ℕ) (sessions : List ℕ) (begin : Begin) (s : ℕ) (old new : Past)
    (grows : HasAllOf law begin s old new) where
  -- the history with the old past
  abbrev pub at_old : History
  at_old = record { clusters = clusters; sessions = sessions; begin = begin; past = old }

  -- the history with the new past
  abbrev pub at_new : History
  at_new = record { clusters = clusters; sessions = sessions; begin = begin; past = new }

  -- what the next command is run with
  pub call_same : call_of law begin new s ≡ call_of law begin old s
  call_same = ap (λ (o : Option RevVec). option_map
      (λ v. call_at law begin new s v (session_state law begin new s)) o) grows.base
      ∙ (ap (λ (x : State). option_map (λ v. call_at law begin new s v x)
      (base_of old s)) grows.state
      ∙ by (base_of old s) (λ v is. trees_same begin old new v (grows.edits v is)))
    where
      by : (o : Option RevVec)
          → ((v : RevVec) → o ≡ Some v → tree_at begin new v ≡ tree_at begin old v)
          → option_map (λ v. call_at law begin new s v (session_state law begin old s)) o
          ≡ option_map (λ v. call_at law begin old s v (session_state law begin old s)) o
      by None h = refl
      by (Some v) h = ap
          (λ (t : Nodes). Some
          (record (call_at law begin old s v (session_state law begin old s)) { base = t }))
          (h v refl)

  pub asked_same : (m : Command) → asked_by at_new s m ≡ asked_by at_old s m
  asked_same m = ap (λ (p : Past). asked (is_attached p s) m) grows.before

  pub starts_grow : (edit : Edit) (marks : List MarkAt) → MayStart law at_old s edit marks
      → MayStart law at_new s edit marks
  starts_grow edit marks may = record {
    command = may.command;
    call = may.call;
    next = record {
      next = ap (command_at law s) grows.index ∙ may.next.next;
      call = call_same ∙ may.next.call;
    };
    allowed = asked_same may.command ∙ may.allowed;
    first = grows.drawn ∙ may.first;
    unmoved = grows.still ∙ may.unmoved;
    due = may.due;
    some = may.some;
    plan = may.plan;
  }

  -- the events since a cursor
  events_same : (v : RevVec) → base_of old s ≡ Some v → (o : Option Cursor)
      → events_since begin new v o ≡ events_since begin old v o
  events_same v is None = refl
  events_same v is (Some x) =
      ap (observed_events x.filter) (changes_same begin old new v (grows.edits v is) x.at)

  -- the base that a call is made at
  base_of_call : (c : Call) → call_of law begin old s ≡ Some c → base_of old s ≡ Some c.who.base
  base_of_call c is = by (base_of old s) is
    where
      by : (o : Option RevVec)
          → option_map (λ v. call_at law begin old s v (session_state law begin old s)) o ≡ Some c
          → o ≡ Some c.who.base
      by None h = cc
      by (Some v) h = ap (λ (x : Option Call). option_map (λ y. y.who.base) x) h

  pub says_grow : (a : Asked) (text : List ℕ) → MaySay law at_old s a text
      → MaySay law at_new s a text
  says_grow _ _ (barred m unmoved) = barred m (grows.still ∙ unmoved)
  says_grow _ _ (stopped a k p at is) = stopped a k p at (grows.position k p is)
  says_grow _ _ (memory a idle none unmoved unpinned) = memory a (grows.idle idle)
      (ap (λ (o : Option Revision). option_map_or (is_committed new) o false) grows.drawn
      ∙ grows.uncommitted idle none) (grows.still ∙ unmoved) (grows.unpinned ∙ unpinned)
  says_grow _ _ (half_detached v idle moved none) =
      half_detached v (grows.idle idle) (grows.refreshed ∙ moved) (grows.detached ∙ none)
  says_grow _ _ (viewed m c is call unmoved) =
      viewed m c is (call_same ∙ call) (grows.still ∙ unmoved)
  says_grow _ _ (head v is unmoved) = head v (grows.base ∙ is) (grows.still ∙ unmoved)
  says_grow _ _ (queried text vars c reply call answers unmoved) =
      queried text vars c reply (call_same ∙ call) answers (grows.still ∙ unmoved)
  says_grow _ _ (refreshed keep v is) = refreshed keep v (grows.refreshed ∙ is)
  says_grow _ _ (refused_edit m c due r none call is cause unmoved) =
      refused_edit m c due r (grows.drawn ∙ none) (call_same ∙ call) is cause
      (grows.still ∙ unmoved)
  says_grow _ _ (unwritten m c none call is unmoved) =
      unwritten m c (grows.drawn ∙ none) (call_same ∙ call) is (grows.still ∙ unmoved)
  says_grow _ _ (committed m c d v draw begun ended made moved seen call) =
      subst (λ (t : Nodes). MaySay law at_new s (Allowed m)
      (answer_text (committed_answer c t d.revision m)))
      (trees_same begin old new d.base (grows.draw_edits d draw))
      (committed m c d v (grows.draw ∙ draw) (ap (λ (p : Past). base_of p s) grows.before ∙ begun)
      (grows.ended d.revision ended) (grows.committed d.revision made)
      (grows.refreshed ∙ moved) seen (call_same ∙ call))
  says_grow _ _ (clashed m r o item drawn ended is unmoved) =
      clashed m r o item (grows.drawn ∙ drawn) (grows.ended r ended) (grows.refusal r ended ∙ is)
      (grows.still ∙ unmoved)
  says_grow _ _ (observing p deep mask within is unmoved) =
      observing p deep mask within (grows.pinned is) (grows.still ∙ unmoved)
  says_grow _ _ (unobserved p deep mask r is unmoved) =
      unobserved p deep mask r is (grows.still ∙ unmoved)
  says_grow _ _ (uncursored c call none unmoved) =
      uncursored c (call_same ∙ call) none (grows.still ∙ unmoved)
  says_grow _ _ (observed c call is unmoved) =
      subst (λ (es : List JcrEvent). MaySay law at_new s (Allowed command.Events) (events_reply es))
      (events_same c.who.base (base_of_call c call) c.state.cursor)
      (observed c (call_same ∙ call) (grows.pinned is) (grows.still ∙ unmoved))
  says_grow _ _ (told k r at is most unmoved) = told k r at (grows.outs k r is)
      (ap (λ (p : Past). is_at_most (local begin p k) r) grows.before ∙ most)
      (grows.still ∙ unmoved)
  says_grow _ _ (learned k v at is knows unmoved) = learned k v at (grows.has (event.In k v) is)
      (ap (λ (p : Past). knows_published clusters begin p k v) grows.before ∙ knows)
      (grows.still ∙ unmoved)
  says_grow _ _ (swept k r at is most unmoved) = swept k r at (grows.sweeps k r is)
      (ap (λ (p : Past). is_at_most (published begin p k) r) grows.before ∙ most)
      (grows.still ∙ unmoved)
  says_grow _ _ (kept c call is unmoved) =
      kept c (call_same ∙ call) (grows.has _ is) (grows.still ∙ unmoved)
  says_grow _ _ (uncounted c r call is unmoved) =
      uncounted c r (call_same ∙ call) is (grows.still ∙ unmoved)
  says_grow _ _ (attached id v is base) =
      attached id v (grows.has (event.Attach s id) is) (grows.base ∙ base)
  says_grow _ _ (released id is unmoved) =
      released id (grows.has (event.Release id) is) (grows.still ∙ unmoved)
  says_grow _ _ (unattached id is unmoved) =
      unattached id (grows.missed id is) (grows.still ∙ unmoved)
  says_grow _ _ (unreleased id is unmoved) =
      unreleased id (grows.missed id is) (grows.still ∙ unmoved)
  says_grow _ _ (detached v is) = detached v (grows.detached ∙ is)
  says_grow _ _ (split p e is unmoved) =
      split p e (grows.has (event.Split s p e) is) (grows.still ∙ unmoved)
  says_grow _ _ (unsplit p c r call is unmoved) =
      unsplit p c r (call_same ∙ call) is (grows.still ∙ unmoved)
  says_grow _ _ (collected x is unmoved) =
      collected x (grows.has (event.Collected s x) is) (grows.still ∙ unmoved)
  says_grow _ _ (stopping k is unmoved) = stopping k (grows.stopped k is) (grows.still ∙ unmoved)
  says_grow _ _ (unstopped k at unmoved) = unstopped k at (grows.still ∙ unmoved)
  says_grow _ _ (restopped k is unmoved) = restopped k (grows.found k is) (grows.still ∙ unmoved)
  says_grow _ _ (recovered k r is unmoved) =
      recovered k r (grows.recovers k r is) (grows.still ∙ unmoved)
  says_grow _ _ (unrecovered k is unmoved) =
      unrecovered k (ap (λ (p : Past). is_stopped p k) grows.before ∙ is) (grows.still ∙ unmoved)

  -- what a command may be answered with
  pub said_at : (m : Command) (text : List ℕ) → MaySay law at_old s (asked_by at_old s m) text
      → MaySay law at_new s (asked_by at_new s m) text
  said_at m text may =
      subst (λ (a : Asked). MaySay law at_new s a text) (sym (asked_same m))
      (says_grow (asked_by at_old s m) text may)
