use Rattle.std.proofs.Common.{◌≡◌, ◌||◌, ℕ, is_some}
use Rattle.std.specs.List.{find}
use Rattle.std.specs.Map.{keys_of, lookup}
use Rattle.std.specs.BTreeMap.{is_at}
use Rattle.jr_path.specs.Names.{name_cmp}
use Rattle.jcr_ref.specs.References.{is_target, target_of, uuid_text}
use Rattle.jcr_ref.proofs.references.index.Given as goal

-- what is left decides
abbrev pub invariant-loop-at : goal.invariant-loop-at
invariant-loop-at l = (id : ℕ) → (is_some (lookup (is_at (name_cmp (uuid_text id))) l.index) || is_some (find (is_target l.tree id) (keys_of l.at-iterator))) ≡ is_some (target_of l.tree id)
