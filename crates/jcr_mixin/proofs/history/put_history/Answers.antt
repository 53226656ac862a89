use Rattle.std.proofs.Common.{◌∷◌, [], ◌++◌, ◌∙◌, ap}
use Rattle.std.proofs.lemmas.Result.{on_ok_weaker}
use Rattle.jr_overlay.specs.Overlays.{sighted}
use Rattle.jcr_mixin.specs.Histories.{with_seen}
use Rattle.jcr_mixin.proofs.history.put_history.Goals as goal

pub returns : goal.returns
returns c = on_ok_weaker c.put_seen-2.result (λ e. e
    ∙ (ap (with_seen (sighted c.args.draft.now.sight) c.args.draft.now.steps c.in_ok-root.root) c.in_ok-put_seen.ensures
    ∙ ap (λ r. with_seen (sighted c.args.draft.now.sight) c.args.draft.now.steps r (with_seen (sighted c.args.draft.now.sight) c.args.draft.now.steps c.args.history.now c.args.nodes.now))
    (c.in_ok-root.ensures ∙ ap (λ n. c.args.history.now ++ n ∷ []) c.in_ok-name.ensures))) c.put_seen-2.ensures
