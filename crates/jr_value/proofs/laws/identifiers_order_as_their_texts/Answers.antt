use Rattle.jr_value.proofs.IdentifierOrder.{identifiers_cmp}
use Rattle.jr_value.proofs.laws.identifiers_order_as_their_texts.Goals as goal

pub returns : goal.returns
returns c = identifiers_cmp
