use Rattle.std.proofs.Common.{ap, ◌∙◌}
use Rattle.std.specs.Map.{lookup}
use Rattle.std.specs.BTreeMap.{is_at}
use Rattle.jr_path.specs.Names.{name_cmp}
use Rattle.jcr_ref.proofs.targets.node_in.Goals as goal

pub returns : goal.returns
returns c = c.get.ensures ∙ ap (λ k. lookup (is_at (name_cmp k)) c.args.index.now) (c.of-text.ensures ∙ c.in_ok-uuid_text.ensures)
