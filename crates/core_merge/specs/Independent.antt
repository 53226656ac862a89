-- Edits that can be merged: neither touches what the other writes.
use Rattle.std.specs.Prelude.{◌≡◌, ℕ, Bool, List, Some, is_some, IsTrue, IsFalse}
use Rattle.std.specs.Ordering.{eq_by_cmp}
use Rattle.std.specs.List.{list_any}
use Rattle.jr_path.specs.Names.{path_cmp, parent_of}
use Rattle.jr_path.specs.declared.name.Name.{Name}
use Rattle.jr_path.specs.declared.path.Path.{Path}
use Rattle.jr_rev.specs.declared.revision.Revision.{Revision}
use Rattle.jr_rev.specs.Revisions.{is_before}
use Rattle.jr_tree.specs.declared.edit.Edit.{Edit}
use Rattle.jr_tree.specs.declared.edit.Write.{Write}
use Rattle.oak_clash.specs.declared.mark.MarkAt.{MarkAt}
use Rattle.oak_machine.specs.History.{History, Past}
use Rattle.oak_machine.specs.Commits.{is_in_base}
use Rattle.oak_machine.specs.Laws.{Starts, Says}
use Rattle.oak_machine.specs.Runs.{IsRun, AreNodes}
use Rattle.jr_tree.specs.Items.{here_of, put_of, written}
use Rattle.core_begun.specs.Told.{edit_since}

-- the edit adds or removes the node at p
abbrev pub writes_node : Path → List Write → Bool
writes_node p ws = is_some (written (here_of p) ws)

-- the edit sets or removes the property of that name of the node at p
abbrev pub writes_property : Path → Name → List Write → Bool
writes_property p n ws = is_some (written (put_of p n) ws)

-- some mark, of whatever kind, is at that path
abbrev pub is_marked : Path → List MarkAt → Bool
is_marked p ms = list_any (λ m. eq_by_cmp path_cmp p m.path) ms

-- the parent of each node that the edit adds or removes is marked
abbrev pub MarkParents : List MarkAt → List Write → Type 0
MarkParents ms ws =
    (p q : Path) → parent_of p ≡ Some q → IsTrue (writes_node p ws) → IsTrue (is_marked q ms)

-- an edit that may start marks the parent of each node that it adds or removes
abbrev pub StartsMarkingParents : Starts → Type 0
StartsMarkingParents starts = (h : History) (s : ℕ) (edit : Edit) (marks : List MarkAt)
    → starts h s edit marks → MarkParents marks edit.writes

-- a run of one to eight cluster nodes, from whatever it begins with, by a law that lets only such
-- edits start
pub record IsMergingRun (starts : Starts) (says : Says) (h : History) : Type 0 where
  pub nodes : AreNodes h.clusters h.sessions
  pub run : IsRun starts says h
  pub marking : StartsMarkingParents starts

-- two edits write no item both; and where one adds or removes a node, the other writes no property
-- of it and neither adds nor removes its parent
pub record AreIndependent (ws us : List Write) : Type 0 where
  pub nodes : (p : Path) → IsTrue (writes_node p ws) → IsFalse (writes_node p us)
  pub properties : (p : Path) (n : Name) → IsTrue (writes_property p n ws)
      → IsFalse (writes_property p n us)
  pub of_node : (p : Path) (n : Name) → IsTrue (writes_node p ws)
      → IsFalse (writes_property p n us)
  pub of_property : (p : Path) (n : Name) → IsTrue (writes_property p n ws)
      → IsFalse (writes_node p us)
  pub below : (p q : Path) → parent_of p ≡ Some q → IsTrue (writes_node p ws)
      → IsFalse (writes_node q us)
  pub above : (p q : Path) → parent_of p ≡ Some q → IsTrue (writes_node p us)
      → IsFalse (writes_node q ws)

-- each committed edit is independent of each earlier one that its base doesn't see
abbrev pub AreMergeable : Past → Type 0
AreMergeable past = (r o : Revision) (ws us : List Write) → edit_since past r ≡ Some ws
    → edit_since past o ≡ Some us → IsTrue (is_before o r) → IsFalse (is_in_base past r o)
    → AreIndependent ws us
