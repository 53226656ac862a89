use Rattle.std.proofs.Common.{ap, sym, ◌∙◌}
use Rattle.std.specs.FinMap.{is_sorted}
use Rattle.jr_path.specs.Names.{name_cmp}
use Rattle.jr_part.specs.Follows.{Lists}
use Rattle.jr_part.proofs.Lists.{names_at}
use Rattle.jr_part.proofs.follow.drop_name.Goals as goal

pub remove_name-requires : goal.remove_name-requires
remove_name-requires c =
    ap (is_sorted name_cmp) c.inner_mut-in-Some.ensures.shows
    ∙ c.requires c.args.path.now c.in-Some.names.now (ap (λ (lists : Lists). names_at lists c.args.path.now) (sym c.inner_mut.ensures.shows) ∙ sym c.in-Some.ensures.value)
