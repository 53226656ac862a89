use Rattle.std.proofs.Common.{◌++◌, ◌∙◌, ap, sym}
use Rattle.std.proofs.lemmas.Result.{IfErr-weaker}
use Rattle.jr_path.specs.declared.path.Path.{Path}
use Rattle.jr_overlay.specs.Overlays.{sighted}
use Rattle.jcr_fill.specs.Makings.{making}
use Rattle.jcr_make.specs.Subtrees.{part_at}
use Rattle.jcr_make.proofs.subtree.add_part.Goals as goal

pub returns-in-Ok-clause-err : goal.returns-in-Ok-clause-err
returns-in-Ok-clause-err c = IfErr-weaker c.add_part_at.result _ _ (λ r is m.
    ap (λ (q : Path). part_at c.args.types.now c.args.who.now (sighted c.args.draft.now.sight) q c.args.part.now (making c.args.draft.now.steps c.args.ids.now))
    (sym (c.in-Ok.ensures ∙ ap (λ (ns : Path). c.args.path.now ++ ns) c.names.ensures)) ∙ is m) c.add_part_at.ensures.err
