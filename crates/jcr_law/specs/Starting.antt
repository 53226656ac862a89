-- What the law lets start is a plan on the tree at its session's base, so it is proper there.
use Rattle.std.proofs.Common.{◌≡◌, ℕ, Option, None, Some, List, refl, sym, ap, ◌∙◌, subst}
use Rattle.std.specs.Prelude.{option_map}
use Rattle.std.specs.Option.{option_map_or}
use Rattle.jr_rev.specs.declared.vector.RevVec.{RevVec}
use Rattle.jr_tree.specs.declared.edit.Edit.{Edit}
use Rattle.jr_tree.specs.Edits.{IsProper}
use Rattle.jr_tree.specs.Trees.{Nodes}
use Rattle.oak_clash.specs.declared.mark.MarkAt.{MarkAt}
use Rattle.oak_machine.specs.Commits.{tree_at}
use Rattle.oak_machine.specs.History.{Begin, History, Past, begin_tree}
use Rattle.oak_machine.specs.Laws.{AreOfWrites, StartsProper}
use Rattle.oak_machine.specs.Sessions.{base_of}
use Rattle.jcr_plan.specs.Plans.{PlanOk}
use Rattle.jcr_plan.proofs.OfWrites.{plan_proper}
use Rattle.jcr_law.specs.declared.law.JcrLaw.{JcrLaw}
use Rattle.jcr_law.specs.Law.{MayStart}
use Rattle.jcr_law.specs.State.{Call, base_tree, call_at, call_of, session_state, tokens_of}

-- the call of a session whose base is at v
pub call_there : (law : JcrLaw) (begin : Begin) (past : Past) (s : ℕ) (c : Call) (v : RevVec)
    → call_of law begin past s ≡ Some c
    → base_of past s ≡ Some v → c ≡ call_at law begin past s v (session_state law begin past s)
call_there law begin past s c v is base =
    ap (λ (o : Option Call). elim o [ Some x ↦ x | None ↦ c ])
    (sym is ∙ ap (λ (o : Option RevVec). option_map
    (λ w. call_at law begin past s w (session_state law begin past s)) o) base)

-- the call is one at the base
pub call_based : (law : JcrLaw) (begin : Begin) (past : Past) (s : ℕ) (c : Call)
    → call_of law begin past s ≡ Some c
    → c ≡ call_at law begin past s c.who.base (session_state law begin past s)
call_based law begin past s c is = by (base_of past s) is
  where
    by : (o : Option RevVec)
        → option_map (λ v. call_at law begin past s v (session_state law begin past s)) o ≡ Some c
        → c ≡ call_at law begin past s c.who.base (session_state law begin past s)
    by None h = cc
    by (Some v) h =
        let same : call_at law begin past s v (session_state law begin past s) ≡ c =
        ap (λ (x : Option Call). elim x [ Some y ↦ y | None ↦ c ]) h in
        sym same ∙ ap (λ (w : RevVec). call_at law begin past s w (session_state law begin past s))
        (ap (λ (x : Call). x.who.base) same)

-- the session has a base where it is called
pub call_has_base : (law : JcrLaw) (begin : Begin) (past : Past) (s : ℕ) (c : Call)
    → call_of law begin past s ≡ Some c
    → base_of past s ≡ Some c.who.base
call_has_base law begin past s c is = by (base_of past s) is
  where
    by : (o : Option RevVec)
        → option_map (λ v. call_at law begin past s v (session_state law begin past s)) o ≡ Some c
        → o ≡ Some c.who.base
    by None h = cc
    by (Some v) h = ap (λ (x : Option Call). option_map (λ y. y.who.base) x) h

-- what may start is a plan on the tree at the base, for the types of the law and the tokens of s
pub starts_plan : (law : JcrLaw) (h : History) (s : ℕ) (edit : Edit) (marks : List MarkAt)
    → MayStart law h s edit marks
    → PlanOk law.types (base_tree h.begin h.past s)
    (tokens_of law h.begin h.past s) edit.writes marks
starts_plan law h s edit marks may =
    subst (λ (t : Nodes). PlanOk law.types t (tokens_of law h.begin h.past s) edit.writes marks)
    (sym (ap (λ (o : Option RevVec). option_map_or (tree_at h.begin h.past) o (begin_tree h.begin))
    (call_has_base law h.begin h.past s may.call may.next.call)))
    (subst (λ (c : Call). PlanOk c.types c.base c.state.tokens edit.writes marks)
    (call_based law h.begin h.past s may.call may.next.call) may.plan)

-- an edit that the law lets start is proper on the tree at the base of its session, with the marks
-- of its writes
pub proper_starts : (law : JcrLaw) → StartsProper (λ h s edit marks. MayStart law h s edit marks)
proper_starts law h s edit marks v base may =
    subst (λ (t : Nodes). IsProper t edit.writes × AreOfWrites t edit marks)
    (ap (λ (o : Option RevVec). option_map_or (tree_at h.begin h.past) o (begin_tree h.begin)) base)
    (plan_proper law.types (base_tree h.begin h.past s) (tokens_of law h.begin h.past s) edit marks
    (starts_plan law h s edit marks may))
