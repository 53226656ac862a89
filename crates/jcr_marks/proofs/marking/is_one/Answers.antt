use Rattle.std.proofs.Common.{◌∙◌}
use Rattle.std.specs.Cmp.{eq_by_cmp_equiv}
use Rattle.std.proofs.lemmas.Cmp.{nat_list_cmp_total}
use Rattle.jr_items.specs.Own.{own_name}
use Rattle.jcr_marks.proofs.marking.is_one.Goals as goal

pub returns : goal.returns
returns c = c.is.ensures ∙ (eq_by_cmp_equiv nat_list_cmp_total).symm (own_name c.args.own) c.args.name.now
