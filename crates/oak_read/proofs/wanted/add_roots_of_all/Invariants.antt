use Rattle.std.proofs.Common.{◌≡◌, map, fold, take}
use Rattle.std.specs.List.{flat_map}
use Rattle.std.specs.Map.Iter.{deref}
use Rattle.oak_read.specs.Wanted.{roots_of, with_unknown}
use Rattle.oak_read.proofs.wanted.add_roots_of_all.Given as goal

-- the commit roots of the documents so far are added
abbrev pub invariant-loop-document : goal.invariant-loop-document
invariant-loop-document l = l.wanted ≡ fold (with_unknown l.known) l.initial.wanted (flat_map (roots_of l.pin.sweep l.pin.base l.whole) (map deref (take l.document-index l.all)))
