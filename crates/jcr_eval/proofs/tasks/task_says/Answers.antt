use Rattle.oak_machine.specs.History.{history_of}
use Rattle.jcr_eval.proofs.TaskCauses.{any_recover_said, any_stop_said, checkpoint_said, collect_said, events_said, in_said, missed_said, observe_said, out_said, release_said, split_said, sweep_said, task_asked, task_read, task_said}
use Rattle.jcr_eval.proofs.tasks.task_says.Goals as goal

pub returns-in-BackWrite : goal.returns-in-BackWrite
returns-in-BackWrite c =
    task_said c.args.law.now (history_of c.args.journal.now) c.args.session _ _ c.args.text.now _ _
    c.in-BackWrite.is c.out_says.ensures
    (out_said (history_of c.args.journal.now) c.args.session c.args.text.now)

pub returns-in-BackRead : goal.returns-in-BackRead
returns-in-BackRead c =
    task_read c.args.law.now (history_of c.args.journal.now) c.args.session _ _ c.args.text.now
    c.in_says.result _ c.in-BackRead.is
    (in_said (history_of c.args.journal.now) c.args.session c.args.text.now)
    c.in_says.ensures

pub returns-in-Sweep : goal.returns-in-Sweep
returns-in-Sweep c =
    task_said c.args.law.now (history_of c.args.journal.now) c.args.session _ _ c.args.text.now _ _
    c.in-Sweep.is c.sweep_says.ensures
    (sweep_said (history_of c.args.journal.now) c.args.session c.args.text.now)

pub returns-in-Checkpoint : goal.returns-in-Checkpoint
returns-in-Checkpoint c =
    task_read c.args.law.now (history_of c.args.journal.now) c.args.session _ _ c.args.text.now
    c.checkpoint_says.result _ c.in-Checkpoint.is
    (checkpoint_said (history_of c.args.journal.now) c.args.session c.args.text.now
    c.args.law.now) c.checkpoint_says.ensures

pub returns-in-Attach : goal.returns-in-Attach
returns-in-Attach c =
    task_read c.args.law.now (history_of c.args.journal.now) c.args.session _ _ c.args.text.now
    c.refuses_checkpoint.result _ c.in-Attach.is
    (missed_said (history_of c.args.journal.now) c.args.session c.args.text.now _)
    c.refuses_checkpoint.ensures

pub returns-in-Release : goal.returns-in-Release
returns-in-Release c =
    task_read c.args.law.now (history_of c.args.journal.now) c.args.session _ _ c.args.text.now
    c.release_says.result _ c.in-Release.is
    (release_said (history_of c.args.journal.now) c.args.session c.args.text.now _)
    c.release_says.ensures

pub returns-in-Split : goal.returns-in-Split
returns-in-Split c =
    task_read c.args.law.now (history_of c.args.journal.now) c.args.session _ _ c.args.text.now
    c.split_says.result _ c.in-Split.is
    (split_said (history_of c.args.journal.now) c.args.session c.args.text.now
    c.args.law.now _) c.split_says.ensures

pub returns-in-Collect : goal.returns-in-Collect
returns-in-Collect c =
    task_read c.args.law.now (history_of c.args.journal.now) c.args.session _ _ c.args.text.now
    c.collect_says.result _ c.in-Collect.is
    (collect_said (history_of c.args.journal.now) c.args.session c.args.text.now)
    c.collect_says.ensures

pub returns-in-Stop : goal.returns-in-Stop
returns-in-Stop c =
    task_read c.args.law.now (history_of c.args.journal.now) c.args.session _ _ c.args.text.now
    c.any_stop_says.result _ c.in-Stop.is
    (any_stop_said (history_of c.args.journal.now) c.args.session c.args.text.now
    c.args.law.now _) c.any_stop_says.ensures

pub returns-in-Recover : goal.returns-in-Recover
returns-in-Recover c =
    task_read c.args.law.now (history_of c.args.journal.now) c.args.session _ _ c.args.text.now
    c.any_recover_says.result _ c.in-Recover.is
    (any_recover_said (history_of c.args.journal.now) c.args.session c.args.text.now
    c.args.law.now _) c.any_recover_says.ensures

pub returns-in-Observe : goal.returns-in-Observe
returns-in-Observe c =
    task_read c.args.law.now (history_of c.args.journal.now) c.args.session _ _ c.args.text.now
    c.observe_says.result _ c.in-Observe.is
    (observe_said (history_of c.args.journal.now) c.args.session c.args.text.now c.in-Observe.path)
    c.observe_says.ensures

pub returns-in-Events : goal.returns-in-Events
returns-in-Events c =
    task_read c.args.law.now (history_of c.args.journal.now) c.args.session _ _ c.args.text.now
    c.events_says.result _ c.in-Events.is
    (events_said (history_of c.args.journal.now) c.args.session c.args.text.now
    c.args.law.now) c.events_says.ensures

pub returns-in-Query : goal.returns-in-Query
returns-in-Query c =
    task_asked c.args.law.now (history_of c.args.journal.now) c.args.session _ _ c.args.text.now
    c.query_says.result c.in-Query.is c.query_says.ensures
