use Rattle.std.proofs.Common.{◌-◌, refl, length}
use Rattle.oak_machine.proofs.Deciding.{learned_then, learned_now, learned_last}
use Rattle.oak_past.proofs.machine.may_learn.Goals as goal

pub returns-then-is_same : goal.returns-then-is_same
returns-then-is_same c = (
  λ t. (
    length c.args.journal.now.events.list - c.loop-at.at,
    learned_then c.args.journal.now.clusters c.args.journal.now.start c.args.cluster _ _ c.loop-at.at c.args.v.now c.learned.result c.as_slice-events.ensures c.loop-at-test.true (c.is_same.ensures.0 c.if-is_same.true) c.learned.ensures,
  ),
  λ m. refl,
)

pub returns : goal.returns
returns c = (
  λ t. (0, learned_now c.args.journal.now.clusters c.args.journal.now.start c.args.cluster _ _ c.args.v.now c.learned-2.result c.as_slice-events.ensures (c.is_same-2.ensures.0 t) c.learned-2.ensures),
  λ m. learned_last c.args.journal.now.clusters c.args.journal.now.start c.args.cluster _ _ c.loop-at.at c.args.v.now c.learned-2.result c.is_same-2.result c.as_slice-events.ensures c.loop-at-test.false c.is_same-2.ensures.1 c.learned-2.ensures c.loop-at.invariant m.0 m.1,
)
