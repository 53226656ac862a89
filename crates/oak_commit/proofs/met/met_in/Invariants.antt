use Rattle.std.proofs.Common.{◌≡◌, ◌++◌, map}
use Rattle.std.specs.List.{filter_map}
use Rattle.std.specs.Map.{keys_of}
use Rattle.oak_commit.specs.Meeting.{due_in, met_in, met_of}
use Rattle.oak_commit.proofs.met.met_in.Given as goal

-- the marks to make so far, and those of the revisions that are left
abbrev pub invariant-loop-other : goal.invariant-loop-other
invariant-loop-other l =
    l.dues.items ++ map (due_in l.document) (filter_map (met_of l.base l.r l.path l.mine l.document) (keys_of l.other-iterator))
    ≡ map (due_in l.document) (met_in l.base l.r l.path l.mine l.document)
