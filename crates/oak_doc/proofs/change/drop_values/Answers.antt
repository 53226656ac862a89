use Rattle.std.proofs.Common.{rules, not, nat_eq, length}
use Rattle.oak_doc.specs.Updates.{without_revision}
use Rattle.oak_doc.proofs.Entries.{kept_values}
use Rattle.oak_doc.proofs.change.drop_values.Goals as goal

pub returns : goal.returns
returns c = rw c.inner_mut.ensures.shows at (kept_values _ _ (without_revision c.args.r.now) (λ vs. not (nat_eq (length vs) 0)) (λ k v b w f' t. search rules) _ _ c.retain.ensures.filtered)
