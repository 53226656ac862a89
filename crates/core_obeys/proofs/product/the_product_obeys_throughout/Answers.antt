use Rattle.std.proofs.Common.{◌≡◌, ◌++◌, sym, subst}
use Rattle.oak_machine.specs.History.{History, Past}
use Rattle.oak_machine.specs.Runs.{IsRunOf}
use Rattle.jcr_law.specs.declared.law.JcrLaw.{JcrLaw}
use Rattle.jcr_law.specs.Lasting.{says_of, starts_of}
use Rattle.core_heads.proofs.Runs.{earlier_run}
use Rattle.core_obeys.specs.Product.{IsProductRun}
use Rattle.core_obeys.proofs.product.the_product_obeys_throughout.Goals as goal

-- a run was a run at each time before
before : (law : JcrLaw) (h : History) (later past : Past) → IsProductRun law h → later ++ past ≡ h.past → IsProductRun law (record h { past = past })
before law h later past m is = record {
  nodes = m.nodes;
  run = earlier_run h.clusters h.sessions m.nodes h.begin (starts_of law) (says_of law) later past
      (subst (λ (p : Past). IsRunOf (starts_of law) (says_of law) h.clusters h.sessions h.begin p) (sym is) m.run);
  typed = m.typed;
}

pub returns : goal.returns
returns c = λ law h m later past is.
    let at = before law h later past m is in
    let all = c.the_product_obeys.ensures in
    record {
      tree = all.trees law (record h { past = past }) at;
      types = all.types law (record h { past = past }) at;
      bases = λ s v seen. all.bases law (record h { past = past }) s v at seen;
      free = λ r d drawn may. all.free law (record h { past = past }) r d at drawn may;
      references = all.references law (record h { past = past }) at;
    }
