use Rattle.std.proofs.Common.{◌≡◌, map, subst}
use Rattle.std.specs.Prelude.{IfOk}
use Rattle.std.specs.Map.Iter.{deref_pair}
use Rattle.jr_overlay.specs.Overlays.{Sighted, sighted}
use Rattle.jcr_write.specs.Writes.{remove_refusal}
use Rattle.jcr_write.proofs.Moving.{memory_any, of_made, on_any}
use Rattle.jcr_write.proofs.moves.leaving.Goals as goal

pub returns-in-Ok-clause-passed : goal.returns-in-Ok-clause-passed
returns-in-Ok-clause-passed c = on_any c.or_memory.result c.in-Ok.ensures.ok

pub returns-in-Ok-clause-ok : goal.returns-in-Ok-clause-ok
returns-in-Ok-clause-ok c = of_made (λ nodes. map deref_pair nodes.items ≡ (sighted c.args.draft.now.sight).below c.args.path.now)
    c.or_memory.result c.below.result
    (subst (λ (s : Sighted). IfOk c.below.result (λ nodes. map deref_pair nodes.items ≡ (sighted s).below c.args.path.now)) c.sight.ensures c.below.ensures)
    c.or_memory.ensures.ok

pub returns-in-Ok-clause-err : goal.returns-in-Ok-clause-err
returns-in-Ok-clause-err c = memory_any c.or_memory.result
    (remove_refusal c.args.types.now (sighted c.args.draft.now.sight) c.args.draft.now.steps c.args.path.now) c.or_memory.ensures.err
