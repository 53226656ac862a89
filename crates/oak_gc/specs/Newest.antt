-- Revisions beside the newest that supersedes them.
use Rattle.std.specs.Prelude.{Bool, false, Option}
use Rattle.std.specs.Option.{option_map_or}
use Rattle.jr_rev.specs.declared.revision.Revision.{Revision}
use Rattle.jr_rev.specs.Revisions.{is_before}

-- a revision stands before the newest, where there is one
abbrev pub is_older : Revision → Option Revision → Bool
is_older r newest = option_map_or (is_before r) newest false
