use Rattle.std.proofs.Common.{◌≡◌}
use Rattle.std.specs.Map.{lookup}
use Rattle.std.specs.BTreeMap.{is_at}
use Rattle.jr_path.specs.Names.{name_cmp}
use Rattle.oak_checkpoint.specs.Settings.{checkpoint_of}
use Rattle.oak_checkpoint.proofs.settings.found.Given as goal

-- what is looked for is among the checkpoints that are left, if there is one
abbrev pub invariant-loop-key : goal.invariant-loop-key
invariant-loop-key l = lookup (is_at (name_cmp l.id)) l.key-iterator ≡ checkpoint_of l.before l.id
