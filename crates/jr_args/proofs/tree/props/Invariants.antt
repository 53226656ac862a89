use Rattle.serde_json.specs.View.{members_view, view}
use Rattle.jr_args.proofs.Lists.{IsPutTo}
use Rattle.jr_args.specs.Trees.{members_in}
use Rattle.jr_args.specs.Values.{property_read}
use Rattle.jr_args.proofs.tree.props.Given as goal

abbrev pub invariant-loop-key : goal.invariant-loop-key
invariant-loop-key l = IsPutTo property_read (members_in (view l.json)) (members_view l.key-iterator) l.props
