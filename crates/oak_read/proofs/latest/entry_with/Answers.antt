use Rattle.std.proofs.Common.{◌∷◌, ◌++◌, [], cond, sym, ap, ◌∙◌}
use Rattle.std.specs.Prelude.{option_to_list}
use Rattle.oak_read.specs.Meaning.{latest}
use Rattle.oak_read.specs.Shown.{shown}
use Rattle.oak_read.proofs.Entries.{latest_alone}
use Rattle.oak_read.proofs.latest.entry_with.Goals as goal

pub returns-else-branch : goal.returns-else-branch
returns-else-branch g c =
    sym (latest_alone (shown c.args.best))
    ∙ ap (λ b. latest (option_to_list (shown c.args.best) ++ cond b ((c.args.r, c.args.value.now) ∷ []) [])) (sym c.if-branch.false ∙ c.in_ok-counts.ensures)
