use Rattle.std.proofs.Common.{◌≡◌, drop, map}
use Rattle.std.specs.List.{filter_map}
use Rattle.std.specs.Map.Iter.{deref_pair}
use Rattle.jr_items.specs.Items.{first_of}
use Rattle.jcr_frozen.specs.Frozen.{aborting, aborting_at}
use Rattle.jcr_frozen.proofs.frozen.first_aborting.Given as goal

-- what is left decides
abbrev pub invariant-loop-at : goal.invariant-loop-at
invariant-loop-at l = first_of (filter_map (λ e. aborting_at l.types l.tree l.path e.0 e.1) (map deref_pair (drop l.at-index l.at-items))) ≡ aborting l.types l.tree l.path
