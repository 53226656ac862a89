-- The documents that a repository begins with that is opened from others.
use Rattle.std.specs.Prelude.{ℕ, ◌+◌, Bool, true, false, cond, not, ◌&&◌, ◌||◌, ◌==◌}
use Rattle.std.specs.Prelude.{List, [], ◌∷◌, ◌++◌, length, map}
use Rattle.std.specs.List.{filter, flat_map, list_all}
use Rattle.std.specs.Map.{keys_of, values_of}
use Rattle.jr_path.specs.declared.path.DocId.{DocId}
use Rattle.jr_path.specs.declared.path.DocId.TheVariants.{Node, Settings}
use Rattle.jr_rev.specs.declared.revision.Revision.{Revision}
use Rattle.jr_rev.specs.declared.vector.RevVec.{RevVec}
use Rattle.jr_rev.specs.declared.vector.Pin.{Pin}
use Rattle.jr_rev.specs.Vectors.{sees}
use Rattle.oak_doc.specs.declared.document.Document.{Document}
use Rattle.oak_doc.specs.Updates.{Props}
use Rattle.oak_read.specs.Meaning.{documents_in, is_committed}
use Rattle.oak_sound.specs.Meant.{ById, greatest_number, opened_pin}

-- the base sees the revision, and it is committed as it stands in the document
abbrev pub stays_opened : ById → Pin → Document → Revision → Bool
stays_opened ds pin d r = sees pin.base r && is_committed (documents_in ds) pin.sweep d r

-- the entries whose revisions pass a test
abbrev pub those : {X : Type 0} → (Revision → Bool) → List (Revision × X) → List (Revision × X)
those test es = filter (λ e. test e.0) es

-- the values that stay of a property, where there are some
abbrev pub values_left : (Revision → Bool) → Props → Props
values_left test ps = filter (λ p. not (length p.1 == 0)) (map (λ p. (p.0, those test p.1)) ps)

-- a document with what stays of it, and without collisions
abbrev pub cleaned : ById → Pin → Document → Document
cleaned ds pin d = record d {
  deleted = those (stays_opened ds pin d) d.deleted;
  commit_root = those (stays_opened ds pin d) d.commit_root;
  revisions = those (sees pin.base) d.revisions;
  collisions = [];
  touched = those (stays_opened ds pin d) d.touched;
  guard = those (stays_opened ds pin d) d.guard;
  props = values_left (stays_opened ds pin d) d.props;
}

-- the document is that of the root
abbrev pub is_root_id : DocId → Bool
is_root_id (Node []) = true
is_root_id id = false

-- the document is that of the settings
abbrev pub is_settings_id : DocId → Bool
is_settings_id Settings = true
is_settings_id id = false

-- the root is published and swept up to the vector; the settings lose checkpoints and readers, and
-- count so many sessions more
abbrev pub begun_anew : RevVec → ℕ → Document → Document
begun_anew v sessions d = record d {
  last_rev = cond (is_root_id d.id) v d.last_rev;
  sweep_rev = cond (is_root_id d.id) v d.sweep_rev;
  sessions = cond (is_settings_id d.id) (d.sessions + sessions) d.sessions;
  checkpoints = cond (is_settings_id d.id) [] d.checkpoints;
  readers = cond (is_settings_id d.id) [] d.readers;
}

-- the revisions of what goes where it doesn't stay
abbrev pub dated_in : Document → List Revision
dated_in d =
    keys_of d.deleted ++ keys_of d.commit_root ++ keys_of d.touched ++ keys_of d.guard
    ++ flat_map (λ p. keys_of p.1) d.props

-- nothing of a document goes
abbrev pub is_clean : ById → Pin → Document → Bool
is_clean ds pin d =
    list_all (stays_opened ds pin d) (dated_in d)
    && list_all (sees pin.base) (keys_of d.revisions)
    && length d.collisions == 0
    && list_all (λ p. not (length p.1 == 0)) d.props

-- opening changes the root, the settings, and each document of which something goes
abbrev pub changes_at_opening : ById → Pin → Document → Bool
changes_at_opening ds pin d = is_root_id d.id || is_settings_id d.id || not (is_clean ds pin d)

-- the number drawn last, after a document
abbrev pub number_after : ById → Pin → ℕ → Document → ℕ
number_after ds pin n d = cond (changes_at_opening ds pin d) (n + 1) n

-- an opened document, where that number was drawn last: one that changes gets the next
abbrev pub opened_document : ById → Pin → ℕ → ℕ → Document → Document
opened_document ds pin sessions n d =
    record (begun_anew pin.base sessions (cleaned ds pin d)) {
      mod_count = cond (changes_at_opening ds pin d) (n + 1) d.mod_count;
    }

-- the opened documents, and the last number
abbrev pub opened_from : ById → Pin → ℕ → ℕ → List Document → List Document × ℕ
opened_from ds pin sessions n [] = ([], n)
opened_from ds pin sessions n (d ∷ rest) =
    let more = opened_from ds pin sessions (number_after ds pin n d) rest in
    (opened_document ds pin sessions n d ∷ more.0, more.1)

-- the documents of a repository of so many cluster nodes that is opened from these for so many
-- sessions, in store order, and the last number
abbrev pub opened : ℕ → ℕ → ById → List Document × ℕ
opened clusters sessions ds =
    opened_from ds (opened_pin clusters ds) sessions (greatest_number ds) (values_of ds)
