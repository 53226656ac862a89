use Rattle.jr_items.specs.Refusals.{place_refusal}
use Rattle.jcr_frozen.specs.Histories.{unversioned}
use Rattle.jcr_frozen.proofs.Refused.{first_of_two, second_none, second_result}
use Rattle.jcr_frozen.proofs.histories.find_history.Goals as goal

pub returns-in-Ok-clause-ok : goal.returns-in-Ok-clause-ok
returns-in-Ok-clause-ok c =
    second_none c.versioned.result (place_refusal c.args.tree.now c.args.path.now) (unversioned c.args.command.now c.args.tree.now c.args.path.now) c.in-Ok.ensures.ok c.versioned.ensures.ok

pub returns-in-Ok-clause-err : goal.returns-in-Ok-clause-err
returns-in-Ok-clause-err c =
    second_result c.versioned.result (place_refusal c.args.tree.now c.args.path.now) (unversioned c.args.command.now c.args.tree.now c.args.path.now) c.in-Ok.ensures.ok c.versioned.ensures.err

pub returns-in-Err-clause-err : goal.returns-in-Err-clause-err
returns-in-Err-clause-err c = first_of_two (place_refusal c.args.tree.now c.args.path.now) (unversioned c.args.command.now c.args.tree.now c.args.path.now) c.in-Err.refusal c.in-Err.ensures.err
