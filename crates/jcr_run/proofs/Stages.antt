-- The counted steps of a command are made in the order of its stages.
use Rattle.std.proofs.Common.{◌≡◌, ◌⊎◌, inl, inr, ℕ, ◌≤◌, Bool, true, false, cond, Some, None, Option, List, [], ◌∷◌, ◌++◌, refl, sym, ap, ◌∙◌, subst, arith}
use Rattle.std.specs.Prelude.{slice_get}
use Rattle.std.specs.List.{list_any}
use mathlib.Core.Bool.{false≢true}
use Rattle.jr_path.specs.declared.path.Item.{Item}
use Rattle.jr_rev.specs.declared.revision.Revision.{Revision}
use Rattle.oak_machine.specs.declared.event.Event.{Event}
use Rattle.oak_machine.specs.declared.event.Event.TheVariants as event
use Rattle.oak_machine.specs.declared.event.StepKind.{StepKind}
use Rattle.oak_machine.specs.declared.event.StepKind.TheVariants as kind
use Rattle.oak_machine.specs.History.{History}
use Rattle.oak_machine.specs.Sessions.{has_login, is_login_of, next_index}
use Rattle.oak_machine.specs.Steps.{is_appended_by, is_kind, kinds_for}
use Rattle.oak_machine.proofs.Stays.{any_later}
use Rattle.oak_port.specs.Ports.{Shown, Work}
use Rattle.jcr_trans.specs.declared.command.Command.{Command}
use Rattle.jcr_trans.specs.declared.command.Command.TheVariants as command
use Rattle.jcr_law.specs.declared.law.JcrLaw.{JcrLaw}
use Rattle.jcr_law.specs.Makes.{commit_stages, commits, stages_of, steps_of}
use Rattle.jcr_law.specs.State.{command_at}
use Rattle.jcr_run.specs.declared.run.Pledge.{Pledge}
use Rattle.jcr_steps.specs.declared.errand.Told.TheVariants as told
use Rattle.jcr_steps.specs.declared.tidying.Tidied.TheVariants as tidied
use Rattle.jcr_run.specs.declared.run.Phase.{Phase}
use Rattle.jcr_run.specs.declared.run.Phase.TheVariants as phase
use Rattle.jcr_run.specs.declared.run.SessionRun.{SessionRun}
use Rattle.jcr_run.specs.declared.turn.Turn.{Turn}
use Rattle.jcr_run.specs.declared.turn.Turn.TheVariants as turn
use Rattle.jcr_run.specs.Standing.{IsBeside, AreInStageOrder, IsOfCommand, Stands, stage_at, stage_of}
use Rattle.jcr_run.proofs.Waiting.{login_stays, next_beside, shown_beside}

-- ---- the next command

pub next_is : (law : JcrLaw) (p : Shown) (run : SessionRun) → Stands law p run → command_at law p.session (next_index p.history.past p.session) ≡ slice_get run.commands run.index
next_is law p run stands = ap (λ (s : ℕ). command_at law s (next_index p.history.past s)) stands.session ∙ (ap (λ (i : ℕ). command_at law run.session i) (sym stands.index) ∙ stands.commands run.index)

module _ (law : JcrLaw) (p q : Shown) (beside : IsBeside law p q) where
  pub next_later : command_at law q.session (next_index q.history.past q.session) ≡ command_at law p.session (next_index p.history.past p.session)
  next_later = ap (λ (i : ℕ). command_at law q.session i) (next_beside law p q beside) ∙ ap (λ (s : ℕ). command_at law s (next_index p.history.past p.session)) beside.session

  out_later : has_login p.history.past p.session ≡ false → has_login q.history.past q.session ≡ false
  out_later out = shown_beside law p q beside (λ h n. has_login h.past n ≡ false) (login_stays (beside.others ++ p.history.past) beside.others p.history.past p.session beside.grows.theirs out)

  login_later : has_login p.history.past p.session ≡ true → has_login q.history.past q.session ≡ true
  login_later login = shown_beside law p q beside (λ h n. has_login h.past n ≡ true) (any_later (is_login_of p.session) beside.others p.history.past login)

-- ---- stages

stages_commit : (m : Command) → commits m ≡ true → stages_of m ≡ commit_stages
stages_commit (command.Refresh keep) h = absurd (false≢true h)
stages_commit (command.Observe p deep mask) h = absurd (false≢true h)
stages_commit command.Events h = absurd (false≢true h)
stages_commit command.BackWrite h = absurd (false≢true h)
stages_commit command.BackRead h = absurd (false≢true h)
stages_commit (command.Split p) h = absurd (false≢true h)
stages_commit command.Sweep h = absurd (false≢true h)
stages_commit command.Collect h = absurd (false≢true h)
stages_commit command.Checkpoint h = absurd (false≢true h)
stages_commit (command.Attach i) h = absurd (false≢true h)
stages_commit (command.Release i) h = absurd (false≢true h)
stages_commit command.Detach h = absurd (false≢true h)
stages_commit (command.Stop k) h = absurd (false≢true h)
stages_commit (command.Recover k) h = absurd (false≢true h)
stages_commit m h = ap (λ (b : Bool). cond b commit_stages []) h

pub commit_steps : (m : Command) → commits m ≡ true → steps_of m ≡ commit_stages ++ (kind.Say ∷ []) ∷ []
commit_steps m h = ap (λ (l : List (List StepKind)). l ++ (kind.Say ∷ []) ∷ []) (stages_commit m h)

-- as many stages are behind, or more
stage_later : (f : Phase) (w v : Work) → stage_of w ≤ stage_of v → stage_at f w ≤ stage_at f v
stage_later (phase.Moved x) w v h = let le : 1 ≤ 1 = omega arith in le
stage_later phase.Detaching w v h = let le : 1 ≤ 1 = omega arith in le
stage_later (phase.Committed e a) w v h = let le : 6 ≤ 6 = omega arith in le
stage_later (phase.Working e) w v h = h
stage_later (phase.Told (told.Learnt x)) w v h = let le : 2 ≤ 2 = omega arith in le
stage_later (phase.Told (told.Swept r)) w v h = let le : 2 ≤ 2 = omega arith in le
stage_later (phase.Told (told.Published r)) w v h = let le : 1 ≤ 1 = omega arith in le
stage_later (phase.Told (told.Observed f)) w v h = let le : 1 ≤ 1 = omega arith in le
stage_later (phase.Told told.Done) w v h = let le : 1 ≤ 1 = omega arith in le
stage_later (phase.Told (told.Text text)) w v h = let le : 1 ≤ 1 = omega arith in le
stage_later phase.Tidying w v h = h
stage_later (phase.Tidied (tidied.Split e)) w v h = let le : 1 ≤ 1 = omega arith in le
stage_later (phase.Tidied (tidied.Collected c)) w v h = let le : 2 ≤ 2 = omega arith in le
stage_later phase.Outside w v h = h
stage_later phase.Between w v h = h
stage_later (phase.Committing a) w v h = h
stage_later phase.Over w v h = h

-- none is behind before a commit is drawn
pub pledged_stage : (w : Work) (run : SessionRun) (a : Pledge) → run.phase ≡ phase.Between → stage_at run.phase w ≤ stage_at (phase.Committing a) w
pledged_stage w run a between = subst (λ (f : Phase). stage_at f w ≤ stage_of w) (sym between) (let le : stage_of w ≤ stage_of w = omega arith in le)

from_less : (o : Option Command) (less from until : ℕ) (k : StepKind) → less ≤ from → IsOfCommand o from until k → IsOfCommand o less until k
from_less None less from until k le is = is
from_less (Some m) less from until k le is = record {
  place = is.place;
  kinds = is.kinds;
  there = is.there;
  among = is.among;
  behind = both less from is.place le is.behind;
  before = is.before;
}
  where
    both : (a b c : ℕ) → a ≤ b → b ≤ c → a ≤ c
    both a b c h k = omega arith

-- ---- a counted step

module _ (law : JcrLaw) (old new : Shown) (run now : SessionRun) (k : StepKind) where
  pub outside_order : has_login old.history.past old.session ≡ false → k ≡ kind.Login → AreInStageOrder law old new run now (turn.Stepped k)
  outside_order out is = record { outside = λ none. is; inside = λ has. absurd (false≢true (sym out ∙ has)) }

  pub inside_order : has_login old.history.past old.session ≡ true → (o : Option Command) → command_at law old.session (next_index old.history.past old.session) ≡ o → IsOfCommand o (stage_at run.phase old.work) (stage_at now.phase new.work) k → AreInStageOrder law old new run now (turn.Stepped k)
  inside_order login o at is = record {
    outside = λ none. absurd (false≢true (sym none ∙ login));
    inside = λ has. subst (λ (x : Option Command). IsOfCommand x (stage_at run.phase old.work) (stage_at now.phase new.work) k) (sym at) is;
  }

  -- a step of a commit
  pub commit_order : has_login old.history.past old.session ≡ true → (m : Command) → commits m ≡ true → command_at law old.session (next_index old.history.past old.session) ≡ Some m → (n : ℕ) (kinds : List StepKind)
      → slice_get (commit_stages ++ (kind.Say ∷ []) ∷ []) n ≡ Some kinds → list_any (is_kind k) kinds ≡ true → stage_at run.phase old.work ≤ n → n ≤ stage_at now.phase new.work → AreInStageOrder law old new run now (turn.Stepped k)
  commit_order login m commits at n kinds there among behind before = inside_order login (Some m) at record {
    place = n;
    kinds = kinds;
    there = ap (λ (l : List (List StepKind)). slice_get l n) (commit_steps m commits) ∙ there;
    among = among;
    behind = behind;
    before = before;
  }

-- the same turn of a session behind as many stages, or fewer
pub order_like : (law : JcrLaw) (old new : Shown) (run like now : SessionRun) (t : Turn) → stage_at run.phase old.work ≤ stage_at like.phase old.work → AreInStageOrder law old new like now t → AreInStageOrder law old new run now t
order_like law old new run like now (turn.Stepped k) le h = record {
  outside = h.outside;
  inside = λ has. from_less (command_at law old.session (next_index old.history.past old.session)) (stage_at run.phase old.work) (stage_at like.phase old.work) (stage_at now.phase new.work) k le (h.inside has);
}
order_like law old new run like now turn.Read le h = tt
order_like law old new run like now (turn.Said i) le h = tt
order_like law old new run like now (turn.Waiting q) le h = tt
order_like law old new run like now turn.Ended le h = tt
order_like law old new run like now turn.Memory le h = tt

-- and behind events of others
pub order_later : (law : JcrLaw) (a b c : Shown) (run now : SessionRun) (t : Turn) → IsBeside law a b → stage_of a.work ≤ stage_of b.work → AreInStageOrder law b c run now t → AreInStageOrder law a c run now t
order_later law a b c run now (turn.Stepped k) waits le h = record {
  outside = λ out. h.outside (out_later law a b waits out);
  inside = λ has. subst (λ (o : Option Command). IsOfCommand o (stage_at run.phase a.work) (stage_at now.phase c.work) k) (next_later law a b waits)
      (from_less (command_at law b.session (next_index b.history.past b.session)) (stage_at run.phase a.work) (stage_at run.phase b.work) (stage_at now.phase c.work) k (stage_later run.phase a.work b.work le) (h.inside (login_later law a b waits has)));
}
order_later law a b c run now turn.Read waits le h = tt
order_later law a b c run now (turn.Said i) waits le h = tt
order_later law a b c run now (turn.Waiting q) waits le h = tt
order_later law a b c run now turn.Ended waits le h = tt
order_later law a b c run now turn.Memory waits le h = tt

-- ---- the kind of a refusal

of_kinds : (h : History) (s : ℕ) (k : StepKind) (e : Event) → is_appended_by h s k (e ∷ []) ≡ true → list_any (is_kind k) (kinds_for h s (e ∷ [])) ≡ true
of_kinds h s kind.Read e x = x
of_kinds h s k e x = x

-- it is made by a mark, or by the last write
pub refusal_kind : (h : History) (s : ℕ) (k : StepKind) (r o : Revision) (item : Item) → is_appended_by h s k (event.Refuse r item o ∷ []) ≡ true → (k ≡ kind.Mark) ⊎ (k ≡ kind.Last)
refusal_kind h s k r o item told = by k (Rattle.oak_machine.specs.Laws.is_revision_of h.past s r) (of_kinds h s k (event.Refuse r item o) told)
  where
    by : (k : StepKind) (b : Bool) → list_any (is_kind k) (cond b (kind.Mark ∷ kind.Last ∷ []) []) ≡ true → (k ≡ kind.Mark) ⊎ (k ≡ kind.Last)
    by k false x = absurd (false≢true x)
    by kind.Mark true x = inl refl
    by kind.Last true x = inr refl
    by k true x = absurd (false≢true x)
