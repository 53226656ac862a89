use Rattle.jr_args.specs.Commands.{command_of}
use Rattle.jr_script.proofs.Sessions.{few_enough, too_many}
use Rattle.jr_script.proofs.reading.counted_commands.Goals as goal

pub returns-then-items-gt-MAX_COMMANDS : goal.returns-then-items-gt-MAX_COMMANDS
returns-then-items-gt-MAX_COMMANDS c = too_many 10000 4 command_of c.args.items.now _ c.if-items-gt-MAX_COMMANDS.true c.here.ensures

pub returns : goal.returns
returns c = few_enough 10000 4 command_of c.args.items.now _ c.if-items-gt-MAX_COMMANDS.false c.command_list.ensures
