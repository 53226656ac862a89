-- What documents keep of the commits, however far collections went.
use Rattle.std.specs.Prelude.{◌≡◌, ◌⊎◌, ℕ, Bool, ◌||◌, List, [], Option, None, Some, is_some, IsTrue, IsFalse}
use Rattle.std.specs.Option.{option_and_then, option_map_or}
use Rattle.std.specs.FinMap.{is_sorted}
use Rattle.jr_path.specs.Names.{name_cmp}
use Rattle.std.specs.List.{filter}
use Rattle.jr_path.specs.declared.name.Name.{Name}
use Rattle.jr_path.specs.declared.path.Path.{Path}
use Rattle.jr_path.specs.declared.path.DocId.TheVariants as id
use Rattle.jr_value.specs.declared.value.Property.{Property}
use Rattle.jr_rev.specs.declared.revision.Revision.{Revision}
use Rattle.jr_rev.specs.Revisions.{is_before}
use Rattle.jr_tree.specs.declared.edit.Write.{Write}
use Rattle.jr_tree.specs.declared.tree.Node.{Node}
use Rattle.jr_tree.specs.Trees.{Nodes, born_at, node_at, property_at}
use Rattle.jr_tree.specs.Items.{put_of, written}
use Rattle.oak_doc.specs.declared.document.Document.{Document}
use Rattle.oak_doc.specs.declared.document.PrevEntry.{PrevEntry}
use Rattle.oak_doc.specs.Updates.{of_revision, values_of_property}
use Rattle.oak_read.specs.Meaning.{Documents, commit_root_of, latest}
use Rattle.core_read.specs.Commits.{Commits, Sight, last_entry, Fall}
use Rattle.core_read.specs.Holds.{has_revision, root_entry}
use Rattle.core_read.specs.Told.{IsIn}
use Rattle.core_keep.specs.Standing.{all_at, gone_of, gone_in, values_in, shows_node, shows_value, HasEntryOf}

-- what a journal tells of documents: the tree that they began with and the revisions that this has;
-- the committed edits, the greatest revision first; the revisions in flight; and what some bound of
-- a collection sees, in its base and in its sweep vector
pub record Course : Type 0 where
  pub tree : Nodes
  pub old : Sight
  pub commits : Commits
  pub flying : Sight
  pub bound : Sight
  pub swept : Sight

-- the edit of a committed revision
abbrev pub edit_in : Course → Revision → Option (List Write)
edit_in c r = of_revision c.commits r

-- committed, or there from the beginning
abbrev pub is_done : Course → Revision → Bool
is_done c r = is_some (edit_in c r) || c.old r

-- the entry that stands last is the last write, or it stands no more and showed nothing; before any
-- write it shows what there was at the beginning
abbrev pub Matches : {X Y : Type 0} → (Revision × X → Option Y) → Option Y → Option (Revision × X)
    → Option (Revision × X) → Type 0
Matches show begun None o = option_and_then show o ≡ begun
Matches show begun (Some e) o = (o ≡ Some e) ⊎ ((show e ≡ None) × (o ≡ None))

-- the entries of an item, of which f tells what a write writes: a committed edit that no bound sees
-- has just its write; each entry is a write; nothing else has one but what is in flight; and of
-- what the bounds see the last is kept
pub record KeepsItem
    {X Y : Type 0} (f : Write → Option X) (show : Revision × X
    → Option Y) (begun : Option Y) (c : Course) (es : List (Revision × X)) : Type 0 where
  pub exact : (r : Revision) (ws : List Write) → edit_in c r ≡ Some ws → IsFalse (c.bound r)
      → of_revision es r ≡ written f ws
  pub genuine : (r : Revision) (ws : List Write) (x : X) → edit_in c r ≡ Some ws → of_revision es r
      ≡ Some x → written f ws ≡ Some x
  pub none_else : (r : Revision) → edit_in c r ≡ None → IsFalse (c.old r) → IsFalse (c.flying r)
      → of_revision es r ≡ None
  pub last :
      Matches show begun (last_entry f c.bound c.commits) (latest (filter (λ e. c.bound e.0) es))

-- a previous document that is listed and there has its name and no entry but of properties; these
-- are done writes, and behind each the document has a later one
pub record IsPrevious (c : Course) (p : Path) (d : Document) (k : ℕ) (x : Document) : Type 0 where
  pub named : x.id ≡ id.Prev k p
  pub plain : x.deleted ≡ []
  pub done : (n : Name) (r : Revision)
      → IsTrue (is_some (of_revision (values_of_property x.props n) r)) → IsTrue (is_done c r)
  pub genuine : (n : Name) (r : Revision) (ws : List Write) (v : Option Property) → edit_in c r
      ≡ Some ws → of_revision (values_of_property x.props n) r ≡ Some v → written (put_of p n) ws
      ≡ Some v
  pub behind : (n : Name) (r : Revision)
      → IsTrue (is_some (of_revision (values_of_property x.props n) r))
      → (q : Revision) × IsTrue (is_before r q) × IsTrue (is_done c q)
      × IsTrue (is_some (of_revision (values_of_property d.props n) q))

-- of the node at p, and of a property of it
abbrev pub KeepsNode : Course → Path → List (Revision × Bool) → Type 0
KeepsNode c p es = KeepsItem (gone_of p) shows_node (born_at c.tree p) c es

-- the entries of a property keep what the commits wrote of it
abbrev pub KeepsValue : Course → Path → Name → List (Revision × Option Property) → Type 0
KeepsValue c p n es = KeepsItem (put_of p n) shows_value (property_at c.tree p n) c es

-- the documents at a path keep the commits: the entries of its items, the status of each that no
-- swept bound sees, and nothing that was not committed
pub record KeepsAt (ds : Documents) (c : Course) (p : Path) : Type 0 where
  pub node : KeepsNode c p (gone_in (all_at ds p))
  pub prop : (n : Name) → KeepsValue c p n (values_in n (all_at ds p))
  -- the commit root of each entry of a commit says so, where no swept bound sees it
  pub rooted : (d : Document) → IsIn d (all_at ds p) → (r : Revision) (ws : List Write)
      → edit_in c r ≡ Some ws → IsFalse (c.swept r) → HasEntryOf r d
      → IsTrue (has_revision (ds (commit_root_of d r)) r)
  -- nothing else is said to be committed, or, once it isn't in flight, noted
  pub unsaid : (r : Revision) → edit_in c r ≡ None → IsFalse (c.old r)
      → IsFalse (has_revision (ds (id.Node p)) r)
  pub no_root : (r : Revision) → edit_in c r ≡ None → IsFalse (c.old r) → IsFalse (c.flying r)
      → root_entry (ds (id.Node p)) r ≡ None
  pub named : (d : Document) → ds (id.Node p) ≡ Some d → d.id ≡ id.Node p
  -- behind each listed previous document the document has later values
  pub previous : (d : Document) → ds (id.Node p) ≡ Some d → (e : PrevEntry) → IsIn e d.prev
      → (x : Document) → ds (id.Prev e.number p) ≡ Some x → IsPrevious c p d e.number x

-- the documents of each path keep the commits
abbrev pub Keeps : Documents → Course → Type 0
Keeps ds c = (p : Path) → KeepsAt ds c p

-- a later write of an item that is seen: the earlier one is seen too
abbrev pub IsWrittenBelow : {X : Type 0} → Course → Sight → (Write → Option X) → Type 0
IsWrittenBelow c s f =
    (r q : Revision) (ws us : List Write) → edit_in c r ≡ Some ws → edit_in c q ≡ Some us
    → IsTrue (is_some (written f ws)) → IsTrue (is_some (written f us)) → IsTrue (is_before q r)
    → IsTrue (s r) → IsTrue (s q)

-- with a write of an item that is seen, each earlier write of it is seen
pub record IsDownward (c : Course) (s : Sight) : Type 0 where
  pub node : (p : Path) → IsWrittenBelow c s (gone_of p)
  pub prop : (p : Path) (n : Name) → IsWrittenBelow c s (put_of p n)

-- the revisions fall; the bounds see no revision in flight that isn't committed, and all that was
-- there from the beginning, which is before every commit
pub record IsCourse (c : Course) : Type 0 where
  pub falls : Fall c.commits
  pub bound_done : (r : Revision) → IsTrue (c.flying r) → edit_in c r ≡ None → IsFalse (c.bound r)
  pub swept_done : (r : Revision) → IsTrue (c.flying r) → edit_in c r ≡ None → IsFalse (c.swept r)
  pub old_bound : (r : Revision) → IsTrue (c.old r) → IsTrue (c.bound r)
  pub old_swept : (r : Revision) → IsTrue (c.old r) → IsTrue (c.swept r)
  pub old_first : (r q : Revision) (ws : List Write) → IsTrue (c.old r) → edit_in c q ≡ Some ws
      → IsTrue (is_before r q)

-- a tree has at each item what the last commit that is seen writes there, or else what there was at
-- the beginning
pub record Shows (c : Course) (s : Sight) (t : Nodes) : Type 0 where
  pub orderly : (p : Path) (node : Node) → node_at t p ≡ Some node
      → IsTrue (is_sorted name_cmp node.props)
  pub node : (p : Path) → born_at t p
      ≡ option_map_or shows_node (last_entry (gone_of p) s c.commits) (born_at c.tree p)
  pub dated : (p : Path) → is_some (node_at t p) ≡ is_some (born_at t p)
  pub prop : (p : Path) (n : Name) → property_at t p n
      ≡ option_map_or shows_value (last_entry (put_of p n) s c.commits) (property_at c.tree p n)

-- a pair can be held: its base sees all that some bound sees, and its sweep vector what some bound
-- has swept, and nothing in flight that isn't committed
pub record IsHeldPair (c : Course) (v t : Sight) : Type 0 where
  pub base : (r : Revision) → IsTrue (c.bound r) → IsTrue (v r)
  pub sweep : (r : Revision) → IsTrue (c.swept r) → IsTrue (t r)
  pub done : (r : Revision) → IsTrue (t r) → edit_in c r ≡ None → IsFalse (c.flying r)
