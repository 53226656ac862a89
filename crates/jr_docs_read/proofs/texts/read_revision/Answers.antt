use Rattle.std.proofs.Common.{List, ℕ, sym, subst, ◌∙◌}
use Rattle.jr_docs_read.proofs.Answered.{no_fault, read_as}
use Rattle.jr_rev.specs.Grammar.{IsRevisionText}
use Rattle.jr_rev.proofs.Hexadecimal.{revision_text_is}
use Rattle.jr_docs_read.proofs.Ranged.{revision_fits}
use Rattle.jr_docs_read.proofs.texts.read_revision.Goals as goal

pub returns-in-Ok-clause-complete : goal.returns-in-Ok-clause-complete
returns-in-Ok-clause-complete c r fits is = read_as c.parse.result _ r c.in-Ok.is (c.parse.ensures.read r (subst (λ (t : List ℕ). IsRevisionText t r) (is ∙ sym c.as_bytes.ensures.value) (revision_text_is r fits)))

pub returns-in-Err-clause-complete : goal.returns-in-Err-clause-complete
returns-in-Err-clause-complete c r fits is = absurd (no_fault c.parse.result r _ (c.parse.ensures.read r (subst (λ (t : List ℕ). IsRevisionText t r) (is ∙ sym c.as_bytes.ensures.value) (revision_text_is r fits))) c.in-Err.is)

pub returns-in-Ok-clause-in_range : goal.returns-in-Ok-clause-in_range
returns-in-Ok-clause-in_range c = revision_fits _ _ c.in-Ok.ensures.found
