use Rattle.jr_script.specs.Schedules.{entry_of}
use Rattle.jr_script.proofs.Sessions.{few_enough, too_many}
use Rattle.jr_script.proofs.schedule.counted_entries.Goals as goal

pub returns-then-items-gt-MAX_ENTRIES : goal.returns-then-items-gt-MAX_ENTRIES
returns-then-items-gt-MAX_ENTRIES c = too_many 1000000 8 (entry_of c.args.sessions) c.args.items.now _ c.if-items-gt-MAX_ENTRIES.true c.here.ensures

pub returns : goal.returns
returns c = few_enough 1000000 8 (entry_of c.args.sessions) c.args.items.now _ c.if-items-gt-MAX_ENTRIES.false c.entry_list.ensures
