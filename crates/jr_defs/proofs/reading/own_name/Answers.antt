use Rattle.std.proofs.Common.{rules, ◌≡◌, Some}
use Rattle.std.specs.Prelude.{codes}
use Rattle.serde_json.specs.Find.{get}
use Rattle.serde_json.specs.View.{view}
use Rattle.jr_defs.specs.Reading.{IsNameJson}
use Rattle.jr_defs.proofs.ByParts.{member_there}
use Rattle.jr_defs.proofs.reading.own_name.Goals as goal

pub returns-in-Some : goal.returns-in-Some
returns-in-Some c =
    let e : Some (view c.in-Some.json.now) ≡ get (codes "name") (view c.args.json.now) = search rules in
    member_there IsNameJson _ _ _ e c.name_in.ensures
