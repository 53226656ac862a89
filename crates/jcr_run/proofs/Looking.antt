-- What a session reads before its turn leaves it where the history says.
use Rattle.std.proofs.Common.{◌≡◌, ◌≤◌, ◌||◌, inl, inr, ℕ, Bool, List, length, true, false, Some, None, Option, [], refl, sym, ap, ◌∙◌, subst, arith}
use Rattle.std.specs.Prelude.{slice_get}
use mathlib.Core.Bool.{false≢true}
use Rattle.jr_part.specs.declared.need.Need.TheVariants as need
use Rattle.oak_machine.specs.Runs.{AreNodes}
use Rattle.oak_machine.specs.Sessions.{next_index}
use Rattle.oak_port.specs.Ports.{Idle, Shown, Work}
use Rattle.jcr_trans.specs.declared.command.Command.{Command}
use Rattle.jcr_law.specs.declared.law.JcrLaw.{JcrLaw}
use Rattle.jcr_law.specs.State.{Call}
use Rattle.jcr_held.specs.Holds.{Holds}
use Rattle.jcr_run.specs.declared.limits.TheConstants.{MOST_COMMANDS}
use Rattle.jcr_run.specs.declared.run.Fetch.{Fetch}
use Rattle.jcr_run.specs.declared.run.Fetch.TheVariants as fetch
use Rattle.jcr_run.specs.declared.run.Phase.{Phase}
use Rattle.jcr_run.specs.declared.run.Phase.TheVariants as phase
use Rattle.jcr_run.specs.declared.run.SessionRun.{SessionRun}
use Rattle.jcr_run.specs.declared.turn.Turn.{Turn}
use Rattle.jcr_run.specs.declared.turn.Turn.TheVariants as turn
use Rattle.jcr_run.specs.Asked.{MayForgo}
use Rattle.jcr_run.specs.Standing.{HasTurned, is_between, is_committing, is_tidying}
use Rattle.jcr_run.specs.Standing.{AreSince, HasLooked, HasCounted, IsBeside, IsBetweenCommands, IsCalled, IsFetchFor, IsIn, IsReading, IsRefused, IsSame, IsTurned, IsWantedNext, Stands, StandsAt, is_revision_written, may_read, stage_at, stage_of}
use Rattle.jcr_run.proofs.Lawful.{at_between, between_forgoes}
use Rattle.jcr_run.proofs.Nexts.{reads_between, reads_due, reads_next, same_reads}
use Rattle.jcr_run.proofs.Reading.{beside_both, nobody}
use Rattle.jcr_run.proofs.Saying.{turned_like}
use Rattle.jcr_run.proofs.Turning.{Link, free, has_turned_later, is_awaiting, never_ends}
use Rattle.jcr_run.proofs.Waiting.{called_beside, fresh_beside, in_beside, next_beside, nodes_beside, shown_beside, unmoved_beside}
use Rattle.jcr_run.proofs.Waiting.{unpinned_beside}

-- ---- a session before a command for which it reads

module _ (law : JcrLaw) (old new : Shown) (run : SessionRun) (stands : Stands law old run) (reads : may_read run ≡ true) (beside : IsBeside law old new) where
  here : IsIn law old run.attached × IsBetweenCommands law old run
  here = at_between law old run stands (reads_between run reads)

  -- it stands where it stood, with what is read by now and what is being read
  module _ (now : SessionRun) (same : IsSame run now) (holds : (c : Call) → Holds c run.held → IsCalled law old c → Holds c now.held) (work : IsReading new.work now.fetch) (for : IsFetchFor now now.fetch)
      (since : (c : Call) → IsCalled law old c → AreSince old.history c run.changes → AreSince new.history c now.changes) where
    pub read_stands : ((c : Call) → IsCalled law old c → IsWantedNext c run → IsWantedNext c now) → Stands law new now
    read_stands wanted = record {
      nodes = nodes_beside law old new beside stands.nodes;
      trees = shown_beside law old new beside (λ h n. Rattle.core_calls.specs.Seeing.SeesTrees law h.clusters h.sessions h.begin) stands.trees;
      typed = shown_beside law old new beside (λ h n. Rattle.core_calls.specs.Seeing.SeesTyped law h.clusters h.sessions h.begin) stands.typed;
      run_is = beside.grows.run;
      session = beside.session ∙ (stands.session ∙ sym same.session);
      few = subst (λ (cs : List Command). length cs ≤ MOST_COMMANDS) (sym same.commands) stands.few;
      commands = λ i. ap (λ n. Rattle.jcr_law.specs.State.command_at law n i) same.session ∙ (stands.commands i ∙ ap (λ (cs : List Command). slice_get cs i) (sym same.commands));
      index = same.index ∙ (stands.index ∙ (ap (next_index old.history.past) (sym stands.session) ∙ (sym (next_beside law old new beside) ∙ ap (next_index new.history.past) (beside.session ∙ (stands.session ∙ sym same.session)))));
      within = subst (λ (cs : List Command). now.index ≤ length cs) (sym same.commands) (subst (λ (i : ℕ). i ≤ length run.commands) (sym same.index) stands.within);
      at = subst (λ (f : Phase). StandsAt law new now f) (sym (same.phase ∙ reads_between run reads)) (
        subst (λ (b : Bool). IsIn law new b) (sym same.attached) (in_beside law old new beside stands.nodes here.0),
        record {
          call = here.1.call;
          is = called_beside law old new beside stands.nodes here.1.call here.1.is;
          holds = holds here.1.call here.1.holds here.1.is;
          unmoved = unmoved_beside law old new beside stands.nodes here.1.unmoved;
          unpinned = unpinned_beside law old new beside stands.nodes here.1.unpinned;
          fresh = fresh_beside law old new beside stands.nodes here.1.fresh;
          reads = work;
          due = λ some. reads_due now (same_reads run now same.phase same.commands same.index same.attached ∙ reads);
          for = for;
          wanted = wanted here.1.call here.1.is here.1.wanted;
          changes = since here.1.call here.1.is here.1.changes;
        },
      );
    }

    pub read_looked : ((c : Call) → IsCalled law old c → IsWantedNext c run → IsWantedNext c now) → HasLooked law old new run now
    read_looked wanted = record {
      stands = read_stands wanted;
      same = same;
      beside = beside;
      still = λ none. absurd (false≢true (sym none ∙ reads));
    }

    pub read_refused : now.fetch ≡ None → IsRefused new now
    read_refused none = record {
      idle = subst (λ (o : Option Fetch). IsReading new.work o) none work;
      unread = none;
      reads = same_reads run now same.phase same.commands same.index same.attached ∙ reads;
    }

pub looked_both : (law later : JcrLaw) (a b c : Shown) (r s t : SessionRun) → later ≡ law → AreNodes a.history.clusters a.history.sessions → HasLooked law a b r s → HasLooked later b c s t → HasLooked law a c r t
looked_both law later a b c r s t laws nodes first then =
    let second : HasLooked law b c s t = subst (λ (l : JcrLaw). HasLooked l b c s t) laws then in record {
      stands = second.stands;
      same = record {
        session = second.same.session ∙ first.same.session;
        commands = second.same.commands ∙ first.same.commands;
        index = second.same.index ∙ first.same.index;
        phase = second.same.phase ∙ first.same.phase;
        attached = second.same.attached ∙ first.same.attached;
      };
      beside = beside_both law a b c nodes first.beside second.beside;
      still = λ read. (let x = first.still read in let y = second.still (ap may_read x.1 ∙ read) in (y.0 ∙ x.0, y.1 ∙ x.1));
    }

pub looked_reads : (law : JcrLaw) (a b : Shown) (r s : SessionRun) → HasLooked law a b r s → may_read s ≡ may_read r
looked_reads law a b r s looked = same_reads r s looked.same.phase looked.same.commands looked.same.index looked.same.attached

-- ---- memory was refused for reading: the command that reads is answered so

pub refused_forgoes : (law : JcrLaw) (p : Shown) (run : SessionRun) → Stands law p run → IsRefused p run → MayForgo law p run false
refused_forgoes law p run stands refused =
    let m = reads_next run refused.reads in between_forgoes law p run stands (reads_between run refused.reads) m.0 m.1 refused.unread

-- ---- a turn after the reading steps

-- a session that reads waits for nothing else
reading_unawaited : (w : Work) (o : Option Fetch) → IsReading w o → is_awaiting w ≡ false
reading_unawaited w None h = ap is_awaiting h
reading_unawaited w (Some (fetch.Tree (need.Node p))) h = ap is_awaiting h
reading_unawaited w (Some (fetch.Tree (need.Children p))) h = ap is_awaiting h
reading_unawaited w (Some (fetch.Changes v)) h = ap is_awaiting h
reading_unawaited w (Some (fetch.Tree (need.Subtree p))) h = absurd h
reading_unawaited w (Some (fetch.Tree need.All)) h = absurd h

reading_first : (w : Work) (o : Option Fetch) → IsReading w o → stage_of w ≡ 0
reading_first w None h = ap stage_of h
reading_first w (Some (fetch.Tree (need.Node p))) h = ap stage_of h
reading_first w (Some (fetch.Tree (need.Children p))) h = ap stage_of h
reading_first w (Some (fetch.Changes v)) h = ap stage_of h
reading_first w (Some (fetch.Tree (need.Subtree p))) h = absurd h
reading_first w (Some (fetch.Tree need.All)) h = absurd h

module _ (law : JcrLaw) (a b c : Shown) (run like now : SessionRun) (t : Turn) (old : Stands law a run) (reads : may_read run ≡ true) (looked : HasLooked law a b run like) where
  link_read : b.work ≡ Idle → Link a b
  link_read idle = free (ap is_revision_written idle) (ap is_awaiting idle) (reading_unawaited a.work run.fetch (at_between law a run old (reads_between run reads)).1.reads)
      (subst (λ (n : ℕ). n ≤ stage_of b.work) (sym (reading_first a.work run.fetch (at_between law a run old (reads_between run reads)).1.reads)) (let le : 0 ≤ stage_of b.work = omega arith in le))

  -- no reading step is due for a session that has ended
  ends_read : IsTurned law b c run now turn.Ended → b ≡ a
  ends_read turned = never_ends law b c run now (at_between law b like looked.stands (looked.same.phase ∙ reads_between run reads)).0 turned

  pub turned_behind : b.work ≡ Idle → HasCounted law b c like now t → HasCounted law a c run now t
  turned_behind idle turned =
      has_turned_later law a b c run now t old.nodes (link_read idle) looked.beside ends_read
      (turned_like law b c run like now t looked.same.session looked.same.commands looked.same.index (λ k is. subst (λ (f : Phase). stage_at run.phase b.work ≤ stage_at f b.work) (sym looked.same.phase) (let le : stage_at run.phase b.work ≤ stage_at run.phase b.work = omega arith in le)) turned)

  -- a turn, or a reading step of its own task
  pub turned_on : b.work ≡ Idle → HasTurned law b c like now t → HasTurned law a c run now t
  turned_on idle turned = by t turned
    where
      between : run.phase ≡ phase.Between
      between = reads_between run reads

      between_like : like.phase ≡ phase.Between
      between_like = looked.same.phase ∙ between

      counted : (x : Turn) → HasCounted law b c like now x → HasCounted law a c run now x
      counted x is =
          has_turned_later law a b c run now x old.nodes (link_read idle) looked.beside ends_read
          (turned_like law b c run like now x looked.same.session looked.same.commands looked.same.index (λ k same. subst (λ (f : Phase). stage_at run.phase b.work ≤ stage_at f b.work) (sym looked.same.phase) (let le : stage_at run.phase b.work ≤ stage_at run.phase b.work = omega arith in le)) is)

      by : (x : Turn) → HasTurned law b c like now x → HasTurned law a c run now x
      by (turn.Stepped k) is = counted (turn.Stepped k) is
      by (turn.Said i) is = counted (turn.Said i) is
      by (turn.Waiting q) is = counted (turn.Waiting q) is
      by turn.Ended is = counted turn.Ended is
      by turn.Memory is = tt
      by turn.Read (inl more) = inl (looked_both law law a b c run like now refl old.nodes looked more.0, reads)
      by turn.Read (inr (inl back)) = absurd (false≢true (sym (ap is_committing between_like) ∙ back.commits))
      by turn.Read (inr (inr on)) = inr (inr (record {
        before = ap (λ (f : Phase). is_between f || is_tidying f) between;
        behind = on.behind;
        stands = on.stands;
        same = record {
          session = on.same.session ∙ looked.same.session;
          commands = on.same.commands ∙ looked.same.commands;
          index = on.same.index ∙ looked.same.index;
          phase = refl;
          attached = on.same.attached ∙ looked.same.attached;
        };
        beside = beside_both law a b c old.nodes looked.beside on.beside;
      }))

-- a session that has left makes no step
pub over_ends : (law : JcrLaw) (p : Shown) (run : SessionRun) → Stands law p run → run.phase ≡ phase.Over → HasCounted law p p run run turn.Ended
over_ends law p run stands over = let gone = subst (λ (f : Phase). StandsAt law p run f) over stands.at in record {
  others = [];
  own = [];
  grows = record { grown = refl; theirs = refl; run = stands.run_is };
  beside = refl;
  alone = nobody p.beside.seats;
  tells = refl;
  made = (refl, gone.left, gone.all);
  in_order = tt;
  same = (refl, refl);
  stands = stands;
}
