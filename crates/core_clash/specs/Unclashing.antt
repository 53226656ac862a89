-- Commits that clash with none outside their base.
use Rattle.std.specs.Prelude.{◌≢◌, IsFalse, IsTrue}
use Rattle.jr_rev.specs.declared.revision.Revision.{Revision}
use Rattle.oak_machine.specs.History.{Past}
use Rattle.oak_machine.specs.Commits.{are_clashing, is_drawn, is_in_base}

-- r clashes with no other draw that its base doesn't see
abbrev pub IsUnclashing : Past → Revision → Type 0
IsUnclashing past r = (o : Revision) → r ≢ o → IsTrue (is_drawn past o)
    → IsFalse (is_in_base past r o) → IsFalse (are_clashing past r o)
