use Rattle.serde_json.specs.View.{items_view}
use Rattle.jr_script.specs.Scripts.{session_of}
use Rattle.jr_script.proofs.Sessions.{few_listed, list_view}
use Rattle.jr_script.proofs.reading.sessions.Goals as goal

pub returns-in-Array : goal.returns-in-Array
returns-in-Array c = few_listed 64 4 (session_of c.args.clusters) _ (items_view c.deref.result.now) _ (list_view _ _ _ c.in-Array.is c.deref.ensures.value) c.counted_sessions.ensures
