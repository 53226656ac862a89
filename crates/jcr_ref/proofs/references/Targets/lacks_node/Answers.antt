use Rattle.std.proofs.Common.{ap, ◌∙◌, is_some}
use Rattle.std.specs.Map.{lookup}
use Rattle.std.specs.BTreeMap.{is_at}
use Rattle.jr_path.specs.Names.{name_cmp}
use Rattle.jcr_ref.proofs.Index.{lacks}
use Rattle.jcr_ref.proofs.references.Targets.lacks_node.Goals as goal

pub returns : goal.returns
returns c =
    lacks _ _ (c.contains.ensures ∙ (ap (λ k. is_some (lookup (is_at (name_cmp k)) c.args.self.now.index)) (c.of-id.ensures ∙ c.in_ok-uuid_text.ensures) ∙ c.requires.index c.args.number))
