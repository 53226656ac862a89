use Rattle.std.proofs.Common.{◌≡◌, fold, map}
use Rattle.std.specs.List.{filter}
use Rattle.std.specs.Map.{keys_of}
use Rattle.oak_read.specs.Meaning.{commit_root_of}
use Rattle.oak_prev.specs.Wanted.{is_asked, with_other_id}
use Rattle.oak_prev.proofs.reading.add_roots.Given as goal

-- what the entries that are left add to the roots so far stays
abbrev pub invariant-loop-r : goal.invariant-loop-r
invariant-loop-r l =
    fold (with_other_id l.document) l.roots (map (commit_root_of l.document) (filter (is_asked l.pin) (keys_of l.r-iterator)))
    ≡ fold (with_other_id l.document) l.initial.roots (map (commit_root_of l.document) (filter (is_asked l.pin) (keys_of l.values)))
