use Rattle.jr_script.proofs.Entries.{long_list, short_list}
use Rattle.jr_script.proofs.schedule.entry_of_list.Goals as goal

pub returns-in_default : goal.returns-in_default
returns-in_default c = short_list c.args.sessions c.args.items.now c.in_default.len_below

pub returns-in_default-more : goal.returns-in_default-more
returns-in_default-more c = long_list c.args.sessions c.args.items.now c.in_default-more.len_at_least
