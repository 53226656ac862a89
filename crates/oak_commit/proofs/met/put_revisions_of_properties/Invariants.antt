use Rattle.std.proofs.Common.{◌≡◌}
use Rattle.std.specs.List.{flat_map}
use Rattle.std.specs.Map.{keys_of}
use Rattle.oak_commit.specs.Meeting.{with_revisions}
use Rattle.oak_commit.proofs.met.put_revisions_of_properties.Given as goal

-- what the properties that are left add to the revisions so far stays
abbrev pub invariant-loop-values : goal.invariant-loop-values
invariant-loop-values l = with_revisions l.revisions (flat_map (λ e. keys_of e.1) l.values-iterator) ≡ with_revisions l.initial.revisions (flat_map (λ e. keys_of e.1) l.document.props)
