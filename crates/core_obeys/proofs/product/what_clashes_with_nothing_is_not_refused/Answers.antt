use Rattle.jcr_law.specs.Lasting.{says_of, starts_of}
use Rattle.jcr_law.proofs.Answered.{answered_after}
use Rattle.core_obeys.proofs.Unclashing.{no_clash_told, unrefused}
use Rattle.core_obeys.proofs.product.what_clashes_with_nothing_is_not_refused.Goals as goal

pub returns-clause-refusal : goal.returns-clause-refusal
returns-clause-refusal c = λ law h r is others apart.
    unrefused h.clusters h.sessions is.nodes h.begin (starts_of law) (says_of law) h.past r is.run others apart

pub returns-clause-reply : goal.returns-clause-reply
returns-clause-reply c = λ law h s m d text item o is others draw at apart says.
    no_clash_told law h s m d text item o
    (unrefused h.clusters h.sessions is.nodes h.begin (starts_of law) (says_of law) h.past d.revision is.run others apart)
    (answered_after law h s m d text is.run draw at says)
