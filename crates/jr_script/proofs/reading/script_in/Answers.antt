use Rattle.serde_json.specs.View.{view}
use Rattle.jr_args.proofs.Readings.{goes}
use Rattle.jr_script.proofs.Sessions.{over_goes}
use Rattle.jr_script.proofs.reading.script_in.Goals as goal

pub returns-in-Ok : goal.returns-in-Ok
returns-in-Ok c =
    goes _ _ _ _ c.in_ok-clusters.ensures (goes _ _ _ _ c.in_ok-types.ensures (over_goes (view c.args.json.now) _ _ _ _ c.in-Ok.is c.script_over.ensures))
