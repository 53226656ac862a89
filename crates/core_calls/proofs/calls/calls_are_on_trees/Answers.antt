-- The call is made at the base.
use Rattle.std.proofs.Common.{subst, sym}
use Rattle.jr_tree.specs.Trees.{IsTree}
use Rattle.jcr_law.specs.State.{Call}
use Rattle.jcr_law.specs.Starting.{call_based, call_has_base}
use Rattle.core_calls.proofs.calls.calls_are_on_trees.Goals as goal

pub returns : goal.returns
returns c = λ law h s x trees run is.
    subst (λ (y : Call). IsTree y.base) (sym (call_based law h.begin h.past s x is))
    (trees h.past run s x.who.base (call_has_base law h.begin h.past s x is))
