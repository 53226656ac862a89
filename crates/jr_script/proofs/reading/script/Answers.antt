use Rattle.std.proofs.Common.{sym, ◌∙◌, true, false}
use Rattle.serde_json.specs.View.{view}
use Rattle.jr_script.proofs.Sessions.{no_sessions, object_view, script_goes, script_keys, there}
use Rattle.jr_script.proofs.reading.script.Goals as goal

pub returns-then-not-are_keys : goal.returns-then-not-are_keys
returns-then-not-are_keys c = script_keys (view c.args.json.now) _ _ (object_view _ _ c.in-Object.is) (sym c.are_keys.ensures ∙ c.if-not-are_keys.true) c.here-then-not-are_keys.ensures

pub returns-then-is_none : goal.returns-then-is_none
returns-then-is_none c =
    no_sessions (view c.args.json.now) _ _ (object_view _ _ c.in-Object.is) (sym c.are_keys.ensures ∙ c.if-not-are_keys.false) (there _ _ true _ c.get.ensures c.is_none.ensures c.if-is_none.true)
    c.here-then-is_none.ensures

pub returns : goal.returns
returns c =
    script_goes (view c.args.json.now) _ _ (object_view _ _ c.in-Object.is) (sym c.are_keys.ensures ∙ c.if-not-are_keys.false) (there _ _ false _ c.get.ensures c.is_none.ensures c.if-is_none.false)
    c.script_in.ensures
