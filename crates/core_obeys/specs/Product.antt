-- Runs by the law of the product.
use Rattle.jr_types.specs.Rules.{TypesOk}
use Rattle.oak_machine.specs.History.{History, begin_tree}
use Rattle.oak_machine.specs.Runs.{AreNodes, IsRun}
use Rattle.jcr_law.specs.declared.law.JcrLaw.{JcrLaw}
use Rattle.jcr_law.specs.Lasting.{says_of, starts_of}
use Rattle.jcr_law.specs.State.{tokens_of}
use Rattle.core_obeys.specs.Plans.{Tokens}

-- the lock tokens that each session holds by its replies
abbrev pub tokens_by : JcrLaw → Tokens
tokens_by law h s = tokens_of law h.begin h.past s

-- a run by the law of one to eight cluster nodes, from whatever it begins with, whose tree meets
-- the types of the script
pub record IsProductRun (law : JcrLaw) (h : History) : Type 0 where
  pub nodes : AreNodes h.clusters h.sessions
  pub run : IsRun (starts_of law) (says_of law) h
  pub typed : TypesOk law.types (begin_tree h.begin)
