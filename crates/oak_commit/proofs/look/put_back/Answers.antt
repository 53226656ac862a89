use Rattle.std.proofs.Common.{◌≡◌, subst}
use Rattle.std.specs.List.Sorted.{IsStrictlySortedBy}
use Rattle.std.specs.Map.{keys_of}
use Rattle.jr_path.specs.Names.{name_cmp}
use Rattle.oak_commit.specs.Looking.{with_properties}
use Rattle.oak_doc.specs.Updates.{Props}
use Rattle.oak_commit.proofs.Moved.{moved_put}
use Rattle.oak_commit.proofs.look.put_back.Goals as goal

pub returns : goal.returns
returns c = moved_put c.args.previous c.args.document.now c.put_properties.new.props
    (subst (λ (ps : Props). IsStrictlySortedBy name_cmp (keys_of ps)) c.replace-props.ensures.value c.len-names.ensures.ordered)
    (subst (λ (ps : Props). c.put_properties.new.props ≡ with_properties c.args.document.now.props ps) c.replace-props.ensures.value c.in_ok-put_properties.ensures)
