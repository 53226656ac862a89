use Rattle.jcr_trans.specs.declared.command.Command.TheVariants as command
use Rattle.jcr_run.proofs.Nexts.{next_there, none_there, same_next}
use Rattle.jcr_session.proofs.Tidying.{split_by, split_next}
use Rattle.jcr_session.proofs.tidy.next_split.Goals as goal

pub split_of-requires : goal.split_of-requires
split_of-requires c =
    let there = (let h = c.in-Some.ensures.lookup in next_there c.args.run.now.commands c.as_slice.result.now c.args.run.now.index c.in-Some.command.now c.as_slice.ensures h.3.0 h.1) in
    let split = split_next c.args.run.now c.requires.next in record {
      split = (split.0, same_next c.args.run.now.commands c.args.run.now.index c.in-Some.command.now (command.Split split.0) there split.1);
      ready = c.requires.ready.ready c.in-Some.command.now there;
    }

pub unreachable-requires : goal.unreachable-requires
unreachable-requires c =
    let split = split_next c.args.run.now c.requires.next in
    none_there c.args.run.now.commands c.as_slice.result.now c.args.run.now.index (command.Split split.0) c.as_slice.ensures c.in-None.ensures.lookup.0 split.1

pub returns : goal.returns
returns c =
    split_by c.args.run.now c.in-Some.command.now c.split_of.result
    (let h = c.in-Some.ensures.lookup in next_there c.args.run.now.commands c.as_slice.result.now c.args.run.now.index c.in-Some.command.now c.as_slice.ensures h.3.0 h.1)
    c.split_of.ensures
