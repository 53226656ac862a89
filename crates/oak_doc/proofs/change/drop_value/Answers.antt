use Rattle.std.proofs.Common.{sym, ◌∙◌, ap}
use Rattle.oak_doc.proofs.Entries.{dropped_none, dropped_others, dropped_last}
use Rattle.oak_doc.proofs.change.drop_value.Goals as goal

pub returns-in_default : goal.returns-in_default
returns-in_default c =
    ap (λ m. m.entries) c.get_mut.follows.holds-at-none ∙ c.inner_mut.ensures.shows
    ∙ dropped_none c.args.props.now c.args.name.now c.args.r.now (rw c.inner_mut.ensures.shows at (sym c.in_default.ensures.value))

pub returns-then-not-keeps_others : goal.returns-then-not-keeps_others
returns-then-not-keeps_others c =
    rw c.inner_mut.ensures.shows at
    (dropped_last c.inner_mut.result.now.entries c.args.name.now c.args.r.now c.in-Some.values.now c.keeps_others.new.values
    (c.get_mut.follows.lender c.keeps_others.new.values).entries c.remove.new.self
    (sym c.in-Some.ensures.value) c.keeps_others.ensures.values (sym c.keeps_others.ensures.left ∙ c.if-not-keeps_others.true)
    (c.get_mut.follows.holds c.keeps_others.new.values).0 c.remove.ensures.entries)

pub returns-else-not-keeps_others : goal.returns-else-not-keeps_others
returns-else-not-keeps_others c =
    rw c.inner_mut.ensures.shows at
    (dropped_others c.inner_mut.result.now.entries c.args.name.now c.args.r.now c.in-Some.values.now c.keeps_others.new.values
    (c.get_mut.follows.lender c.keeps_others.new.values).entries
    c.get_mut.ensures.ordered (sym c.in-Some.ensures.value) c.keeps_others.ensures.values (sym c.keeps_others.ensures.left ∙ c.if-not-keeps_others.false)
    (c.get_mut.follows.holds c.keeps_others.new.values).0)
