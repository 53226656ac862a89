use Rattle.std.proofs.Common.{List, ℕ, sym, subst, ◌∙◌}
use Rattle.jr_docs_read.proofs.Answered.{no_fault, read_as}
use Rattle.jr_rev.specs.Grammar.{IsVectorText}
use Rattle.jr_rev.proofs.OneVector.{vector_text_is}
use Rattle.jr_docs_read.proofs.Ranged.{vector_fits}
use Rattle.jr_docs_read.proofs.texts.read_vector.Goals as goal

pub returns-in-Ok-clause-complete : goal.returns-in-Ok-clause-complete
returns-in-Ok-clause-complete c v within is = read_as c.parse.result _ v c.in-Ok.is (c.parse.ensures.read v (subst (λ (t : List ℕ). IsVectorText t v) (is ∙ sym c.as_bytes.ensures.value) (vector_text_is v within.vector within.fits)))

pub returns-in-Err-clause-complete : goal.returns-in-Err-clause-complete
returns-in-Err-clause-complete c v within is = absurd (no_fault c.parse.result v _ (c.parse.ensures.read v (subst (λ (t : List ℕ). IsVectorText t v) (is ∙ sym c.as_bytes.ensures.value) (vector_text_is v within.vector within.fits))) c.in-Err.is)

pub returns-in-Ok-clause-in_range : goal.returns-in-Ok-clause-in_range
returns-in-Ok-clause-in_range c = vector_fits _ _ c.in-Ok.ensures.found
