-- Runs by a law that lets only plans start.
use Rattle.std.specs.Prelude.{ℕ, cond, List, [], ◌∷◌}
use Rattle.std.specs.Option.{option_map_or}
use Rattle.jr_rev.specs.declared.revision.Revision.{Revision}
use Rattle.jr_rev.specs.Revisions.{is_same}
use Rattle.jr_tree.specs.declared.edit.Edit.{Edit}
use Rattle.jr_tree.specs.Trees.{Nodes}
use Rattle.jr_types.specs.declared.TypeDef.{TypeDef}
use Rattle.jr_types.specs.Rules.{TypesOk}
use Rattle.oak_clash.specs.declared.mark.MarkAt.{MarkAt}
use Rattle.oak_machine.specs.declared.event.Event.TheVariants as event
use Rattle.oak_machine.specs.Commits.{tree_at}
use Rattle.oak_machine.specs.History.{History, Past, begin_tree}
use Rattle.oak_machine.specs.Laws.{Starts, Says}
use Rattle.oak_machine.specs.Runs.{IsRun, AreNodes}
use Rattle.oak_machine.specs.Sessions.{base_of}
use Rattle.jcr_plan.specs.Plans.{PlanOk}

-- the tokens that a session holds at a history
abbrev pub Tokens : Type 0
Tokens = History → ℕ → List (List ℕ)

-- the tree at a session's base
abbrev pub base_tree : History → ℕ → Nodes
base_tree h s = option_map_or (tree_at h.begin h.past) (base_of h.past s) (begin_tree h.begin)

-- an edit that may start is a plan on the tree at its session's base, for the tokens that it holds
abbrev pub StartsPlans : List TypeDef → Tokens → Starts → Type 0
StartsPlans types tokens starts = (h : History) (s : ℕ) (edit : Edit) (marks : List MarkAt)
    → starts h s edit marks → PlanOk types (base_tree h s) (tokens h s) edit.writes marks

-- a run of one to eight cluster nodes, by a law that lets only plans start, from whatever it begins
-- with, whose tree meets the rules of these types
pub record IsObeyingRun (types : List TypeDef) (tokens : Tokens) (starts : Starts) (says : Says)
    (h : History) : Type 0 where
  pub nodes : AreNodes h.clusters h.sessions
  pub run : IsRun starts says h
  pub plans : StartsPlans types tokens starts
  pub typed : TypesOk types (begin_tree h.begin)

-- what lay behind when r was drawn
abbrev pub before_draw : Past → Revision → Past
before_draw [] r = []
before_draw (event.Draw d ∷ past) r = cond (is_same r d.revision) past (before_draw past r)
before_draw (_ ∷ past) r = before_draw past r

-- the tokens that a session held when r was drawn
abbrev pub tokens_at_draw : Tokens → History → Revision → ℕ → List (List ℕ)
tokens_at_draw tokens h r s = tokens (record h { past = before_draw h.past r }) s
