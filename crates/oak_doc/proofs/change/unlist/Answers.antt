use Rattle.std.proofs.Common.{rules, ◌==◌, not}
use Rattle.std.proofs.lemmas.Fn.{filter_same}
use Rattle.oak_doc.proofs.change.unlist.Goals as goal

pub returns : goal.returns
returns c = rw c.inner_mut.ensures.shows at (filter_same _ (λ e. not (e.number == c.args.number)) _ (λ x b f' t. search rules) _ _ c.retain.ensures.filtered)
