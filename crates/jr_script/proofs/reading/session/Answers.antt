use Rattle.std.proofs.Common.{sym, ◌∙◌}
use Rattle.serde_json.specs.View.{view}
use Rattle.jr_script.proofs.Sessions.{object_view, session_goes, session_keys}
use Rattle.jr_script.proofs.reading.session.Goals as goal

pub returns-then-not-are_keys : goal.returns-then-not-are_keys
returns-then-not-are_keys c = session_keys c.args.clusters (view c.args.json.now) _ _ (object_view _ _ c.in-Object.is) (sym c.are_keys.ensures ∙ c.if-not-are_keys.true) c.here-then-not-are_keys.ensures

pub returns : goal.returns
returns c = session_goes c.args.clusters (view c.args.json.now) _ _ (object_view _ _ c.in-Object.is) (sym c.are_keys.ensures ∙ c.if-not-are_keys.false) c.session_in.ensures
