use Rattle.std.proofs.Common.{[], refl}
use Rattle.core_obeys.proofs.Answering.{each_has_reason}
use Rattle.core_obeys.proofs.answers.the_product_answers_throughout.Goals as goal

-- an edit without writes leaves a tree as it is
pub returns : goal.returns
returns c = each_has_reason (λ t tree referring. c.what_no_write_changes_dangles_not.ensures t [] tree referring refl)
