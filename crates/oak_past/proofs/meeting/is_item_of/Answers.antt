use Rattle.oak_past.proofs.Equal.{is_property}
use Rattle.oak_past.proofs.meeting.is_item_of.Goals as goal

pub returns-in-Prop-Some : goal.returns-in-Prop-Some
returns-in-Prop-Some c = is_property c.in-Prop-Some.name c.in-Prop-Some.other c.args.mark.now c.args.item.now c.eq.result c.eq.ensures c.in-Prop-Some.is-0 c.in-Prop-Some.is-1
