use Rattle.std.proofs.Common.{rules, ◌≡◌, Some}
use Rattle.serde_json.specs.Find.{as_object}
use Rattle.serde_json.specs.View.{members_view, view}
use Rattle.jr_defs.proofs.ByParts.{of_object}
use Rattle.jr_defs.proofs.reading.is_object_of.Goals as goal

pub returns-in-Some : goal.returns-in-Some
returns-in-Some c =
    let e : as_object (view c.args.json.now) ≡ Some (members_view c.in-Some.members.now.entries) = search rules in
    of_object _ (view c.args.json.now) _ _ e c.are_keys.ensures
