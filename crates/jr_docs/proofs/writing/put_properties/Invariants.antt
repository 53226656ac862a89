use Rattle.std.proofs.Common.{◌≡◌}
use Rattle.std.specs.Prelude.{map}
use Rattle.serde_json.specs.View.{members_view}
use Rattle.jr_docs.specs.Documents.{property_field}
use Rattle.jr_docs.specs.Members.{put_fields}
use Rattle.jr_docs.proofs.writing.put_properties.Given as goal

-- what is left, put to the members so far, comes to all of it
abbrev pub invariant-loop-name : goal.invariant-loop-name
invariant-loop-name l =
    put_fields (members_view l.members.entries) (map property_field l.name-iterator)
    ≡ put_fields (members_view l.initial.members.entries) (map property_field l.props)
