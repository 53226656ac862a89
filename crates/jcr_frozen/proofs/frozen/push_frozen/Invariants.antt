use Rattle.std.proofs.Common.{◌≡◌, ◌++◌, Some, None, cond, drop, length, map}
use Rattle.std.specs.List.{filter_map}
use Rattle.std.specs.Map.Iter.{deref_pair}
use Rattle.jcr_frozen.specs.Frozen.{frozen_copy, frozen_tree, is_frozen_with}
use Rattle.jcr_frozen.proofs.frozen.push_frozen.Given as goal

-- what is left leads there
abbrev pub invariant-loop-at : goal.invariant-loop-at
invariant-loop-at l =
    l.nodes.items ++ filter_map (λ e. cond (is_frozen_with l.types l.tree l.path e.0) (Some (l.place ++ drop (length l.path) e.0, frozen_copy l.types e.1)) None) (map deref_pair (drop l.at-index l.at-items))
    ≡ l.initial.nodes.items ++ frozen_tree l.types l.tree l.path l.place
