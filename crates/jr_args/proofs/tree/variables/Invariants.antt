use Rattle.serde_json.specs.View.{members_view, view}
use Rattle.jr_args.proofs.Lists.{IsPutTo}
use Rattle.jr_args.specs.Trees.{members_in}
use Rattle.jr_args.specs.Values.{value_of}
use Rattle.jr_args.proofs.tree.variables.Given as goal

abbrev pub invariant-loop-key : goal.invariant-loop-key
invariant-loop-key l = IsPutTo value_of (members_in (view l.json)) (members_view l.key-iterator) l.variables
