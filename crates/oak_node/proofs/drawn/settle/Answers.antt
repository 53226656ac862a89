use Rattle.std.proofs.Common.{◌≡◌, List, filter, ap, sym, subst, ◌∙◌, rules}
use Rattle.std.proofs.lemmas.Fn.{filter_same}
use Rattle.jr_rev.specs.Revisions.{is_before}
use Rattle.oak_node.specs.declared.drawn.Drawn.{Drawn}
use Rattle.oak_node.specs.Heads.{with_end}
use Rattle.oak_node.proofs.Ends.{whole}
use Rattle.oak_node.proofs.Rests.{rises_ended}
use Rattle.oak_node.proofs.Settling.{RisesFrom}
use Rattle.oak_node.proofs.drawn.settle.Goals as goal

pub local-local-requires : goal.local-local-requires
local-local-requires c =
    let now : c.as_slice.result.now ≡ with_end c.args.drawn.now.items c.args.r =
    c.as_slice.ensures.value ∙ (whole _ _ _ (c.end.auto.drawn ∙ c.as_mut_slice.ensures.len) ∙ (c.end.ensures ∙ ap (λ ds. with_end ds c.args.r) c.as_mut_slice.ensures.value)) in
    subst (λ (ds : List Drawn). RisesFrom c.args.own ds) (sym now) (rises_ended c.args.own c.args.drawn.now.items c.args.r c.requires)

pub returns-clause-rest : goal.returns-clause-rest
returns-clause-rest c =
    let now = whole _ _ c.args.drawn.now.items (c.end.auto.drawn ∙ c.as_mut_slice.ensures.len) ∙ (c.end.ensures ∙ ap (λ ds. with_end ds c.args.r) c.as_mut_slice.ensures.value) in
    filter_same _ (λ (d : Drawn). is_before c.local-local.result d.revision) _ (λ x b f' k. search rules) _ _ c.retain.ensures.filtered ∙ ap (λ ds. filter (λ (d : Drawn). is_before c.local-local.result d.revision) ds) now
