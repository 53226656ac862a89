-- What each committer has written.
use Rattle.std.specs.Prelude.{Bool}
use Rattle.jr_path.specs.declared.path.Path.{Path}
use Rattle.jr_rev.specs.declared.revision.Revision.{Revision}

-- the paths at which a revision is written
abbrev pub Progress : Type 0
Progress = Revision → Path → Bool
