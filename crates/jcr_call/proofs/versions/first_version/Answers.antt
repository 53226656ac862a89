use Rattle.std.proofs.Common.{Some, [], ◌∷◌, refl, sym, ap, ◌∙◌}
use Rattle.jr_path.proofs.OwnNames.{plain_name}
use Rattle.jr_tree.specs.Trees.{children_of}
use Rattle.jr_items.specs.Items.{child_path}
use Rattle.jr_items.specs.Names.{version_storage}
use Rattle.jcr_call.proofs.Childless.{first_of}
use Rattle.jcr_call.proofs.versions.first_version.Goals as goal

pub of-requires : goal.of-requires
of-requires c = plain_name (118 ∷ 48 ∷ []) refl

pub returns : goal.returns
returns c =
    ap Some c.in_ok-of.ensures
    ∙ sym (first_of c.args.tree.now c.args.path.now
    (sym c.in_ok-is_checked_in.ensures ∙ c.if-branch.false)
    (ap (λ id. children_of c.args.tree.now (child_path version_storage id)) (sym c.requires.is)
    ∙ c.know_childless.ensures))
