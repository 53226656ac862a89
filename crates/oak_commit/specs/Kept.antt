-- What the fields of a committer mean.
use Rattle.std.specs.Prelude.{◌≡◌, ℕ, Bool, true, false, List, map, take, drop, Option, None, Some, Result, Ok, Err}
use Rattle.std.specs.declared.alloc.AllocError.{AllocError}
use Rattle.jr_path.specs.declared.path.Path.{Path}
use Rattle.jr_rev.specs.declared.revision.Revision.{Revision}
use Rattle.jr_rev.specs.declared.vector.RevVec.{RevVec}
use Rattle.oak_commit.specs.Clashing.{Met, Writer}
use Rattle.oak_commit.specs.Committing.{Committing, wanting, written_paths}
use Rattle.oak_commit.specs.Places.{Planned}
use Rattle.oak_commit.specs.declared.look.Look.{Look}
use Rattle.oak_commit.specs.declared.look.Looked.{Looked}
use Rattle.oak_commit.specs.declared.look.Looked.TheVariants as looked
use Rattle.oak_commit.specs.declared.met.Due.{Due}
use Rattle.oak_commit.specs.declared.outcome.CommitEnd.{CommitEnd}
use Rattle.oak_commit.specs.declared.outcome.CommitEnd.TheVariants as end

-- what a mark that is due says was met, without the commit root that it goes on
abbrev pub met_by : Due → Met
met_by d = record { other = d.other; mine = d.mine; theirs = d.theirs }

-- a committer that ends so undoes what it wrote: after a clash, or for want of memory
abbrev pub undoes : Option CommitEnd → Bool
undoes None = false
undoes (Some (end.Committed r)) = false
undoes (Some (end.Clash item o)) = true
undoes (Some end.Memory) = true

-- a committer that ends so undoes for want of memory
abbrev pub wants : Option CommitEnd → Bool
wants None = false
wants (Some (end.Committed r)) = false
wants (Some (end.Clash item o)) = false
wants (Some end.Memory) = true

-- of some documents so many are written, and so many of these undone
abbrev pub writer_of : List Path → ℕ → ℕ → List Due → Option CommitEnd → Writer
writer_of ps written undone dues outcome = record {
  paths = ps;
  left = drop written ps;
  written = drop undone (take written ps);
  due = map met_by dues;
  undoing = undoes outcome;
  wants = wants outcome;
}

-- the committer that the fields of the code stand for: of the documents of its plan so many are
-- written, and so many of these undone
abbrev pub shown : Revision → RevVec → Planned → ℕ → ℕ → List Due → Option Look → Option CommitEnd → Bool → Committing
shown r base plan written undone dues looking outcome ended = record {
  revision = r;
  base = base;
  edit = plan.edit;
  marks = plan.marks;
  writer = writer_of (written_paths plan.marks) written undone dues outcome;
  roots = map (λ d. d.root) dues;
  looking = looking;
  outcome = outcome;
  ended = ended;
}

-- ---- a look

-- these marks are to be made, or a previous document is to be asked for
abbrev pub with_look : Committing → Looked → Committing
with_look c (looked.Met dues) = record c { writer = record c.writer { due = map met_by dues }; roots = map (λ d. d.root) dues }
with_look c (looked.More k) = record c { looking = Some k }

-- what a look has come to is kept; or memory was refused for it, and the committer undoes
abbrev pub SettlesLook : Result Looked AllocError → Committing → Committing → Result Unit AllocError → Type 0
SettlesLook (Ok l) c d (Ok u) = d ≡ with_look c l
SettlesLook (Err e) c d (Err f) = d ≡ wanting c
SettlesLook _ c d _ = ⊥
