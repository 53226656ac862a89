use Rattle.jr_script.specs.Scripts.{session_of}
use Rattle.jr_script.proofs.Sessions.{few_enough, too_many}
use Rattle.jr_script.proofs.reading.counted_sessions.Goals as goal

pub returns-then-items-gt-MAX_SESSIONS : goal.returns-then-items-gt-MAX_SESSIONS
returns-then-items-gt-MAX_SESSIONS c = too_many 64 4 (session_of c.args.clusters) c.args.items.now _ c.if-items-gt-MAX_SESSIONS.true c.here.ensures

pub returns : goal.returns
returns c = few_enough 64 4 (session_of c.args.clusters) c.args.items.now _ c.if-items-gt-MAX_SESSIONS.false c.session_list.ensures
