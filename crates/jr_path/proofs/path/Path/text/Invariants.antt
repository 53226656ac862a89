use Rattle.std.proofs.Common.{◌≡◌, ◌++◌, take}
use Rattle.std.specs.String.{string_bytes}
use Rattle.jr_path.specs.Ids.{joined}
use Rattle.jr_path.proofs.path.Path.text.Given as goal

-- the names so far stand in the text
abbrev pub invariant-loop-name : goal.invariant-loop-name
invariant-loop-name l = string_bytes l.text ≡ string_bytes l.initial.text ++ joined (take l.name-index l.name-items)
