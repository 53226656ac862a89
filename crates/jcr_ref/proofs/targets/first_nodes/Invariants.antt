use Rattle.std.proofs.Common.{◌≡◌, ℕ}
use Rattle.std.specs.Option.{option_or}
use Rattle.std.specs.List.{find}
use Rattle.std.specs.Map.{keys_of}
use Rattle.jcr_ref.specs.References.{is_target, target_of}
use Rattle.jcr_ref.specs.Targets.{node_by_text}
use Rattle.jcr_ref.proofs.targets.first_nodes.Given as goal

-- what is noted, or else what is left, decides
abbrev pub invariant-loop-at : goal.invariant-loop-at
invariant-loop-at l = (id : ℕ) → option_or (node_by_text l.index id) (find (is_target l.tree id) (keys_of l.at-iterator)) ≡ target_of l.tree id
