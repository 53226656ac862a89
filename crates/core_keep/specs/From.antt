-- Journals that begin with a start: the tree that is seen, and what a journal tells of documents.
use Rattle.std.specs.Prelude.{◌≡◌, cond, ◌||◌, List, [], ◌∷◌, Some, is_some, IsFalse}
use Rattle.jr_path.specs.declared.path.Path.{Path}
use Rattle.jr_rev.specs.declared.revision.Revision.{Revision}
use Rattle.jr_rev.specs.Vectors.{sees}
use Rattle.jr_tree.specs.declared.edit.Write.{Write}
use Rattle.jr_tree.specs.Trees.{Nodes, born_at, node_at, IsTree}
use Rattle.jr_tree.specs.Edits.{applied, IsProper}
use Rattle.oak_machine.specs.declared.event.Start.{Start}
use Rattle.oak_machine.specs.History.{Past}
use Rattle.oak_machine.specs.Commits.{committed_edits, is_in_flight}
use Rattle.core_read.specs.Commits.{Commits, Sight, Each, Closed, Apart}
use Rattle.core_read.specs.Holds.{onto}
use Rattle.core_keep.specs.Keeps.{Course}
use Rattle.core_keep.specs.Journal.{is_bounded, is_swept}

-- the tree that is seen, from a first one on: the edits that are seen, applied in ascending order,
-- each with its revision
abbrev pub tree_from : Nodes → Sight → Commits → Nodes
tree_from b s [] = b
tree_from b s (e ∷ es) = cond (s e.0) (applied (Some e.0) (tree_from b s es) e.1) (tree_from b s es)

-- an edit is proper on the tree of its base, which is closed, and it is apart from each earlier one
-- that its base doesn't see
pub record IsSoundFrom (b : Nodes) (base : Revision → Sight) (e : Revision × List Write)
    (es : Commits) : Type 0 where
  pub proper : IsProper (tree_from b (base e.0) es) e.1
  pub closed : Closed base (base e.0) es
  pub apart : Each (λ o. IsFalse (base e.0 o.0) → Apart e.1 o.1) es

-- each commit is sound over those before it, from a first tree on
abbrev pub AreSoundFrom : Nodes → (Revision → Sight) → Commits → Type 0
AreSoundFrom b base [] = Unit {0}
AreSoundFrom b base (e ∷ es) = IsSoundFrom b base e es × AreSoundFrom b base es

-- a first tree is one, and each of its nodes tells who added it
pub record IsFirst (b : Nodes) : Type 0 where
  pub tree : IsTree b
  pub dated : (p : Path) → is_some (node_at b p) ≡ is_some (born_at b p)

-- the committed edits of a journal, the greatest revision first
abbrev pub falling_from : Past → Commits
falling_from past = onto [] (committed_edits past)

-- what a journal that begins with a start tells of documents: its tree is there from the beginning,
-- and bounds and sweeps see its vector
abbrev pub course_from : Start → Past → Course
course_from start past = record {
  tree = start.tree;
  old = sees start.at;
  commits = falling_from past;
  flying = is_in_flight past;
  bound = λ r. sees start.at r || is_bounded past r;
  swept = λ r. sees start.at r || is_swept past r;
}
