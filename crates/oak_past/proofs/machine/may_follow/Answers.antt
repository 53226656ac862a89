use Rattle.oak_machine.proofs.Deciding.{at_kind}
use Rattle.oak_past.proofs.machine.may_follow.Goals as goal

pub returns-in-Split : goal.returns-in-Split
returns-in-Split c = at_kind c.args.journal.now _ c.args.event.now _ c.may_split.result c.as_slice-events.ensures c.in-Split.is c.may_split.ensures

pub returns-in-Went : goal.returns-in-Went
returns-in-Went c = at_kind c.args.journal.now _ c.args.event.now _ c.may_go.result c.as_slice-events.ensures c.in-Went.is c.may_go.ensures

pub returns-in-Said : goal.returns-in-Said
returns-in-Said c = at_kind c.args.journal.now _ c.args.event.now _ c.is_next_index.result c.as_slice-events.ensures c.in-Said.is (λ t. (c.is_next_index.ensures.0 t, tt), λ p. c.is_next_index.ensures.1 p.0)
