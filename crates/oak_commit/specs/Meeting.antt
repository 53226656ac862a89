-- Parts of what a committer finds in a document, as code reads them.
use Rattle.std.specs.Prelude.{Bool, true, cond, ◌||◌, List, [], map, Option, None, Some}
use Rattle.std.specs.BTreeMap.{insert_entry}
use Rattle.std.specs.List.{filter_map, fold}
use Rattle.jr_path.specs.Ids.{names_of}
use Rattle.jr_path.specs.declared.path.Path.{Path}
use Rattle.jr_rev.specs.declared.revision.Revision.{Revision}
use Rattle.jr_rev.specs.declared.vector.RevVec.{RevVec}
use Rattle.jr_rev.specs.Revisions.{revision_cmp, is_same}
use Rattle.jr_rev.specs.Vectors.{sees}
use Rattle.oak_clash.specs.declared.mark.Mark.{Mark}
use Rattle.oak_doc.specs.declared.document.Document.{Document}
use Rattle.oak_read.specs.Meaning.{commit_root_of}
use Rattle.oak_commit.specs.Clashing.{Met, marks_in, met_among, met_with, marked_revisions}
use Rattle.oak_commit.specs.declared.met.Due.{Due}

-- with some revisions, in ascending order
abbrev pub with_revisions : List (Revision × Bool) → List Revision → List (Revision × Bool)
with_revisions = fold (λ es r. insert_entry revision_cmp es r true)

-- the path of the commit root that a document notes for a revision
abbrev pub root_in : Document → Revision → Path
root_in d o = names_of (commit_root_of d o)

module _ (base : RevVec) (r : Revision) (p : Path) (mine : List Mark) (d : Document) where
  -- what r, with these marks of its own at p, meets of o in a document
  abbrev pub met_of : Revision → Option Met
  met_of o = cond (is_same o r || sees base o) None (met_with o (met_among p mine (marks_in (Some d) o)) (met_among p (marks_in (Some d) o) mine))

  -- what it meets of all others there
  abbrev pub met_in : List Met
  met_in = filter_map met_of (marked_revisions (Some d))

-- a mark to make, of what was met in a document
abbrev pub due_in : Document → Met → Due
due_in d f = record { other = f.other; mine = f.mine; theirs = f.theirs; root = root_in d f.other }

-- the marks to make of what was met in the document before a write
abbrev pub dues_in : Option Document → List Met → List Due
dues_in None fs = []
dues_in (Some d) fs = map (due_in d) fs
