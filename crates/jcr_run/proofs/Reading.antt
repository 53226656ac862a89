-- What others added one after another, and what the steps of reading find.
use Rattle.std.proofs.Common.{◌≡◌, ℕ, Some, None, Option, List, [], ◌++◌, refl, sym, ap, ◌∙◌, subst}
use Rattle.std.specs.Prelude.{IfSome}
use Rattle.std.specs.Option.{option_map_or}
use Rattle.jr_path.specs.declared.name.Name.{Name}
use Rattle.jr_path.specs.declared.path.Path.{Path}
use Rattle.jr_rev.specs.declared.revision.Revision.{Revision}
use Rattle.jr_rev.specs.declared.vector.RevVec.{RevVec}
use Rattle.jr_tree.specs.declared.tree.Node.{Node}
use Rattle.jr_tree.specs.Trees.{Nodes, dated_children_of, node_at}
use Rattle.oak_machine.specs.declared.event.StepKind.{StepKind}
use Rattle.oak_machine.specs.Commits.{tree_at}
use Rattle.oak_machine.specs.History.{Begin, History, Past, begin_tree}
use Rattle.oak_machine.specs.Laws.{AreOthers, after}
use Rattle.oak_machine.specs.Runs.{AreNodes, IsRun}
use Rattle.oak_port.specs.Ports.{Beside, Grows, Idle, Makes, Seat, Shown, Starting, Steps, Work, tree_of}
use Rattle.oak_port.specs.declared.task.StepOut.{StepOut}
use Rattle.oak_port.specs.declared.task.StepOut.TheVariants as out
use Rattle.oak_port.specs.declared.task.Task.{Task}
use Rattle.oak_port.specs.declared.task.Task.TheVariants as task
use Rattle.oak_port.specs.declared.task.TaskEnd.TheVariants as end
use Rattle.jcr_law.specs.declared.law.JcrLaw.{JcrLaw}
use Rattle.jcr_law.specs.Lasting.{says_of, starts_of}
use Rattle.jcr_law.specs.State.{Call, call_of}
use Rattle.jcr_law.specs.Starting.{call_based, call_has_base}
use Rattle.jcr_run.specs.Standing.{IsBeside, IsCalled}
use Rattle.jcr_run.proofs.Others.{append_assoc, others_both}
use Rattle.jcr_run.proofs.Waiting.{called_beside}

-- nothing was added
pub nobody : (o : Option (List Seat)) → IfSome o (λ seats. ◌≡◌ {A = Past} [] [])
nobody None = tt
nobody (Some seats) = refl

pub beside_itself : (law : JcrLaw) (p : Shown) → IsRun (starts_of law) (says_of law) p.history → IsBeside law p p
beside_itself law p run = record { others = []; grows = record { grown = refl; theirs = refl; run = run }; session = refl; beside = refl; alone = nobody p.beside.seats }

pub after_both : (later added : Past) (h : History) → after later (after added h) ≡ after (later ++ added) h
after_both later added h = ap (λ (p : Past). record h { past = p }) (sym (append_assoc later added h.past))

-- one after another
pub alone_both : (o : Option (List Seat)) (later added : Past) → IfSome o (λ seats. added ≡ []) → IfSome o (λ seats. later ≡ []) → IfSome o (λ seats. later ++ added ≡ [])
alone_both None later added first second = tt
alone_both (Some seats) later added first second = ap (λ (p : Past). p ++ added) second ∙ first

pub beside_both : (law : JcrLaw) (a b c : Shown) → AreNodes a.history.clusters a.history.sessions → IsBeside law a b → IsBeside law b c → IsBeside law a c
beside_both law a b c nodes first second = record {
  others = second.others ++ first.others;
  grows = record {
    grown = second.grows.grown ∙ (ap (λ (h : History). after second.others h) first.grows.grown ∙ after_both second.others first.others a.history);
    theirs = others_both a.history.clusters a.history.sessions nodes a.history.begin (starts_of law) (says_of law) a.session second.others first.others a.history.past
        (subst (λ (h : History). IsRun (starts_of law) (says_of law) h) (second.grows.grown ∙ ap (λ (h : History). after second.others h) first.grows.grown) second.grows.run)
        (subst (λ (h : History). IsRun (starts_of law) (says_of law) h) first.grows.grown first.grows.run)
        first.grows.theirs
        (subst (λ (s : ℕ). AreOthers s second.others (first.others ++ a.history.past)) first.session (subst (λ (h : History). AreOthers b.session second.others h.past) first.grows.grown second.grows.theirs));
    run = second.grows.run;
  };
  session = second.session ∙ first.session;
  beside = second.beside ∙ first.beside;
  alone = alone_both a.beside.seats second.others first.others first.alone (subst (λ (o : Option (List Seat)). IfSome o (λ seats. second.others ≡ [])) (ap (λ (x : Beside). x.seats) first.beside) second.alone);
}

-- the tree at the base of a session is that on which its next command is run
pub tree_called : (law : JcrLaw) (begin : Begin) (past : Past) (s : ℕ) (c : Call) → call_of law begin past s ≡ Some c → tree_of begin past s ≡ c.base
tree_called law begin past s c is =
    ap (λ (o : Option RevVec). option_map_or (tree_at begin past) o (begin_tree begin)) (call_has_base law begin past s c is)
    ∙ sym (ap (λ (x : Call). x.base) (call_based law begin past s c is))

-- ---- a step that adds nothing

module _ (law : JcrLaw) (old new : Shown) (t : Task) (answer : StepOut) (nodes : AreNodes old.history.clusters old.history.sessions) (busy : old.work ≡ Starting t) (steps : Steps (starts_of law) (says_of law) old new answer) where
  pub makes_it : Makes (after steps.others old.history) old.session (Starting t) answer steps.own new.work
  makes_it = subst (λ (w : Work). Makes (after steps.others old.history) old.session w answer steps.own new.work) busy steps.makes

  module _ (none : steps.own ≡ []) where
    pub step_beside : IsBeside law old new
    step_beside = record {
      others = steps.others;
      grows = subst (λ (own : Past). Grows (starts_of law) (says_of law) old.session old.history new.history steps.others own) none steps.grows;
      session = steps.session;
      beside = steps.beside;
      alone = steps.alone;
    }

    -- what is shown then
    pub step_shown : new.history ≡ after steps.others old.history
    step_shown = steps.grows.grown ∙ ap (λ (own : Past). after own (after steps.others old.history)) none

    -- what the next command is run with, where it reads
    pub step_called : (c : Call) → IsCalled law old c → call_of law old.history.begin (steps.others ++ old.history.past) old.session ≡ Some c
    step_called c is =
        subst (λ (n : ℕ). call_of law old.history.begin (steps.others ++ old.history.past) n ≡ Some c) steps.session
        (subst (λ (h : History). call_of law h.begin h.past new.session ≡ Some c) step_shown (called_beside law old new step_beside nodes c is))

    -- the tree that it reads
    pub step_tree : (c : Call) → IsCalled law old c → tree_of old.history.begin (steps.others ++ old.history.past) old.session ≡ c.base
    step_tree c is =
        tree_called law old.history.begin (steps.others ++ old.history.past) old.session c (step_called c is)

-- ---- reading steps

module _ (law : JcrLaw) (old new : Shown) (path : Path) (nodes : AreNodes old.history.clusters old.history.sessions) where
  pub record HasStepped (work : Work) : Type 0 where
    pub beside : IsBeside law old new
    pub work_is : new.work ≡ work

  pub node_went : (k : StepKind) → old.work ≡ Starting (task.Load path) → Steps (starts_of law) (says_of law) old new (out.Went k) → HasStepped (Starting (task.Load path))
  node_went k busy steps = let m = makes_it law old new (task.Load path) (out.Went k) nodes busy steps in
      record { beside = step_beside law old new (task.Load path) (out.Went k) nodes busy steps m.1; work_is = m.2 }

  pub node_found : (found : Option Node) → old.work ≡ Starting (task.Load path) → Steps (starts_of law) (says_of law) old new (out.Ready (end.Node found))
      → HasStepped Idle × ((c : Call) → IsCalled law old c → found ≡ node_at c.base path)
  node_found found busy steps = let m = makes_it law old new (task.Load path) (out.Ready (end.Node found)) nodes busy steps in (
    record { beside = step_beside law old new (task.Load path) (out.Ready (end.Node found)) nodes busy steps m.1; work_is = m.2 },
    λ c is. m.0 ∙ ap (λ (t : Nodes). node_at t path) (step_tree law old new (task.Load path) (out.Ready (end.Node found)) nodes busy steps m.1 c is),
  )

  pub node_refused : old.work ≡ Starting (task.Load path) → Steps (starts_of law) (says_of law) old new out.Memory → HasStepped Idle
  node_refused busy steps = let m = makes_it law old new (task.Load path) out.Memory nodes busy steps in
      record { beside = step_beside law old new (task.Load path) out.Memory nodes busy steps m.0; work_is = m.1 }

  pub list_went : (k : StepKind) → old.work ≡ Starting (task.List path) → Steps (starts_of law) (says_of law) old new (out.Went k) → HasStepped (Starting (task.List path))
  list_went k busy steps = let m = makes_it law old new (task.List path) (out.Went k) nodes busy steps in
      record { beside = step_beside law old new (task.List path) (out.Went k) nodes busy steps m.1; work_is = m.2 }

  pub list_found : (names : List (Name × Option Revision)) → old.work ≡ Starting (task.List path) → Steps (starts_of law) (says_of law) old new (out.Ready (end.Children names))
      → HasStepped Idle × ((c : Call) → IsCalled law old c → names ≡ dated_children_of c.base path)
  list_found names busy steps = let m = makes_it law old new (task.List path) (out.Ready (end.Children names)) nodes busy steps in (
    record { beside = step_beside law old new (task.List path) (out.Ready (end.Children names)) nodes busy steps m.1; work_is = m.2 },
    λ c is. m.0 ∙ ap (λ (t : Nodes). dated_children_of t path) (step_tree law old new (task.List path) (out.Ready (end.Children names)) nodes busy steps m.1 c is),
  )

  pub list_refused : old.work ≡ Starting (task.List path) → Steps (starts_of law) (says_of law) old new out.Memory → HasStepped Idle
  list_refused busy steps = let m = makes_it law old new (task.List path) out.Memory nodes busy steps in
      record { beside = step_beside law old new (task.List path) out.Memory nodes busy steps m.0; work_is = m.1 }
