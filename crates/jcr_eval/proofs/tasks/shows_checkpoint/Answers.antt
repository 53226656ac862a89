use Rattle.std.proofs.Common.{◌≡◌, reverse, subst}
use Rattle.std.specs.Prelude.{IfOk}
use Rattle.jr_path.specs.Lists.{Text}
use Rattle.jcr_eval.specs.Said.{shows_kept}
use Rattle.jcr_eval.proofs.tasks.shows_checkpoint.Goals as goal

pub returns : goal.returns
returns c = subst
    (λ (id : Text). IfOk c.shows_kept.result
    (λ b. b ≡ shows_kept (reverse c.args.events.now) c.args.session c.args.text.now id
    c.args.who.now.base)) c.in_ok-id.ensures c.shows_kept.ensures
