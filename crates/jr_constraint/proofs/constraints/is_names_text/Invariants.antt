use Rattle.std.proofs.Common.{◌≡◌, drop}
use Rattle.jr_path.specs.Ids.{joined}
use Rattle.jr_value.specs.Values.{same_bytes}
use Rattle.jr_constraint.proofs.constraints.is_names_text.Given as goal

-- what is left of the text is that of the names that are left, exactly where the whole is
abbrev pub invariant-loop-name : goal.invariant-loop-name
invariant-loop-name l = same_bytes (joined (drop l.name-index l.names)) l.rest ≡ same_bytes (joined l.names) l.text
