use Rattle.std.proofs.Common.{rules}
use Rattle.std.proofs.lemmas.Fn.{filter_same}
use Rattle.jcr_lock.specs.Needed.{is_needed}
use Rattle.jcr_version.proofs.writes.needed.Goals as goal

pub returns : goal.returns
returns c = rw c.inner_mut.ensures.shows at (filter_same _ (is_needed c.args.tree.now) _ (λ x b f' t. search rules) _ _ c.retain.ensures.filtered)
