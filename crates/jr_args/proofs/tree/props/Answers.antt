use Rattle.serde_json.specs.View.{view}
use Rattle.jr_args.specs.Trees.{members_in}
use Rattle.jr_args.specs.Values.{property_read}
use Rattle.jr_args.proofs.Lists.{first_member, put_more, put_stop}
use Rattle.jr_args.proofs.tree.props.Goals as goal

pub returns-in-Err : goal.returns-in-Err
returns-in-Err c =
    put_stop property_read (members_in (view c.args.json.now)) _ _ _ _ _ _ _ _ _ c.loop-key.invariant (first_member _ _ _ _ c.in-Some.ensures.steps)
    c.as_str.ensures.value c.as_str-in-Err.ensures.value c.in_member.ensures c.in-Err.ensures

pub loop-key-preserved : goal.loop-key-preserved
loop-key-preserved c =
    put_more property_read (members_in (view c.args.json.now)) _ _ _ _ _ _ _ _ _ c.loop-key.invariant (first_member _ _ _ _ c.in-Some.ensures.steps)
    c.as_str.ensures.value c.in-Ok.ensures c.in_ok-put-in-Ok.ensures.ok
