use Rattle.std.proofs.Common.{◌≡◌, ap, sym, ◌∙◌, arith, rules}
use Rattle.std.proofs.lemmas.Bool.{OnFalse_from}
use Rattle.jr_rev.specs.Revisions.{is_before}
use Rattle.oak_node.specs.Memory.{own_entry}
use Rattle.oak_node.specs.Heads.{local_from, with_end}
use Rattle.oak_node.proofs.Kept.{finish_memory, local_node, own_now, head_still}
use Rattle.oak_node.proofs.memory.NodeMem.finish.Goals as goal

pub set-requires-clause-low : goal.set-requires-clause-low
set-requires-clause-low c =
    let own = c.own-own.ensures ∙ ap own_entry (sym c.self.view_is) in
    let local = c.settle-local.ensures.local ∙ ap (λ e. local_from e (with_end c.self.inside.above.items c.args.r)) own in
    let node = ap (λ q. q.cluster) local ∙ local_node _ c.args.r c.self.invariant in
    omega (arith, node, c.self.invariant.low)

pub set-requires-clause-high : goal.set-requires-clause-high
set-requires-clause-high c =
    let own = c.own-own.ensures ∙ ap own_entry (sym c.self.view_is) in
    let local = c.settle-local.ensures.local ∙ ap (λ e. local_from e (with_end c.self.inside.above.items c.args.r)) own in
    let node = ap (λ q. q.cluster) local ∙ local_node _ c.args.r c.self.invariant in
    omega (arith, node, c.self.invariant.high)

pub invariant_of-self : goal.invariant_of-self
invariant_of-self c =
    let own = c.own-own.ensures ∙ ap own_entry (sym c.self.view_is) in
    let local = c.settle-local.ensures.local ∙ ap (λ e. local_from e (with_end c.self.inside.above.items c.args.r)) own in
    finish_memory _ c.args.r c.settle-local.result _ _ c.self.invariant local c.set.ensures c.settle-local.ensures.rest

pub returns-clause-moved : goal.returns-clause-moved
returns-clause-moved c =
    let own = c.own-own.ensures ∙ ap own_entry (sym c.self.view_is) in
    let local = c.settle-local.ensures.local ∙ ap (λ e. local_from e (with_end c.self.inside.above.items c.args.r)) own in
    let less : c.lt.result ≡ is_before c.own-own.result c.settle-local.result = search rules in
    less ∙ (ap (λ q. is_before q c.settle-local.result) c.own-own.ensures ∙ ap (λ q. is_before (own_entry c.args.self.now) q) (sym (own_now _ c.args.r c.settle-local.result _ c.self.invariant local c.set.ensures)))

pub returns-clause-still : goal.returns-clause-still
returns-clause-still c =
    let own = c.own-own.ensures ∙ ap own_entry (sym c.self.view_is) in
    let local = c.settle-local.ensures.local ∙ ap (λ e. local_from e (with_end c.self.inside.above.items c.args.r)) own in
    let less : c.lt.result ≡ is_before c.own-own.result c.settle-local.result = search rules in
    OnFalse_from _ _ (λ h. c.set.ensures ∙ (head_still _ c.args.r c.settle-local.result c.self.invariant local (sym (less ∙ ap (λ q. is_before q c.settle-local.result) own) ∙ h) ∙ ap (λ s. s.head) c.self.view_is))
