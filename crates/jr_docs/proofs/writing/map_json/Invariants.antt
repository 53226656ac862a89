use Rattle.std.proofs.Common.{◌≡◌}
use Rattle.serde_json.specs.Data.{no_members}
use Rattle.serde_json.specs.View.{members_view}
use Rattle.jr_docs.specs.Members.{members_of_map, put_all}
use Rattle.jr_docs.proofs.writing.map_json.Given as goal

-- what is left, put to the members so far, comes to all of it
abbrev pub invariant-loop-key : goal.invariant-loop-key
invariant-loop-key g l =
    put_all (members_view l.members.entries) (members_of_map g.K.Spelled.text g.F.Form.shown l.key-iterator)
    ≡ put_all no_members (members_of_map g.K.Spelled.text g.F.Form.shown l.map)
