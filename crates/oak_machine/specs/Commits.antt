-- Draws and commits, and the tree that a vector sees.
use Rattle.std.specs.Prelude.{◌≡◌, Bool, false, cond, not, ◌&&◌, List, [], ◌∷◌, Option, None, Some, is_some, IsTrue}
use Rattle.std.specs.Option.{option_map_or}
use Rattle.std.specs.BTreeMap.{insert_entry}
use Rattle.std.specs.List.{filter, fold, list_any}
use Rattle.jr_path.specs.declared.path.Item.{Item}
use Rattle.jr_rev.specs.declared.revision.Revision.{Revision}
use Rattle.jr_rev.specs.declared.vector.RevVec.{RevVec}
use Rattle.jr_rev.specs.Revisions.{revision_cmp, is_same}
use Rattle.jr_rev.specs.Vectors.{sees, is_below}
use Rattle.jr_tree.specs.declared.edit.Write.{Write}
use Rattle.jr_tree.specs.Trees.{Nodes}
use Rattle.jr_tree.specs.Edits.{applied}
use Rattle.oak_clash.specs.declared.mark.MarkAt.{MarkAt}
use Rattle.oak_clash.specs.Clashes.{clashing}
use Rattle.oak_machine.specs.declared.event.Draw.{Draw}
use Rattle.oak_machine.specs.declared.event.Event.{Event}
use Rattle.oak_machine.specs.declared.event.Event.TheVariants as event
use Rattle.oak_machine.specs.History.{Begin, Past, begin_tree}

-- the event is the commit of revision r
abbrev pub is_commit_of : Revision → Event → Bool
is_commit_of r (event.Commit q) = is_same r q
is_commit_of r _ = false

-- the event is the refusal of revision r, for whatever item and other revision
abbrev pub is_refusal_of : Revision → Event → Bool
is_refusal_of r (event.Refuse q item o) = is_same r q
is_refusal_of r _ = false

-- the event is the end of revision r
abbrev pub is_end_of : Revision → Event → Bool
is_end_of r (event.End q) = is_same r q
is_end_of r _ = false

-- the draw of a revision
abbrev pub draw_of : Past → Revision → Option Draw
draw_of [] r = None
draw_of (event.Draw d ∷ past) r = cond (is_same r d.revision) (Some d) (draw_of past r)
draw_of (_ ∷ past) r = draw_of past r

-- revision r was drawn
abbrev pub is_drawn : Past → Revision → Bool
is_drawn past r = is_some (draw_of past r)

-- revision r was committed
abbrev pub is_committed : Past → Revision → Bool
is_committed past r = list_any (is_commit_of r) past

-- revision r was refused
abbrev pub is_refused : Past → Revision → Bool
is_refused past r = list_any (is_refusal_of r) past

-- revision r has ended
abbrev pub is_ended : Past → Revision → Bool
is_ended past r = list_any (is_end_of r) past

-- drawn, and not ended
abbrev pub is_in_flight : Past → Revision → Bool
is_in_flight past r = is_drawn past r && not (is_ended past r)

-- the marks of a draw
abbrev pub marks_of : Past → Revision → List MarkAt
marks_of past r = option_map_or (λ d. d.marks) (draw_of past r) []

-- the base of r sees o
abbrev pub is_in_base : Past → Revision → Revision → Bool
is_in_base past r o = option_map_or (λ d. sees d.base o) (draw_of past r) false

-- two draws clash
abbrev pub are_clashing : Past → Revision → Revision → Bool
are_clashing past r o = clashing (marks_of past r) (marks_of past o)

-- some edits in ascending order of their revisions, with that of r, where it was drawn
abbrev pub with_commit : Past → List (Revision × List Write) → Revision → List (Revision × List Write)
with_commit past edits r = option_map_or (λ d. insert_entry revision_cmp edits r d.edit.writes) (draw_of past r) edits

-- the committed edits, in ascending order of their revisions
abbrev pub committed_edits : Past → List (Revision × List Write)
committed_edits [] = []
committed_edits (event.Commit r ∷ past) = with_commit past (committed_edits past) r
committed_edits (_ ∷ past) = committed_edits past

-- a tree with some edits applied, each with its revision
abbrev pub applied_all : Nodes → List (Revision × List Write) → Nodes
applied_all tree edits = fold (λ t e. applied (Some e.0) t e.1) tree edits

-- the tree that v sees: that of the beginning, with the committed edits that v sees applied in ascending order
abbrev pub tree_at : Begin → Past → RevVec → Nodes
tree_at begin past v = applied_all (begin_tree begin) (filter (λ e. sees v e.0) (committed_edits past))

-- each drawn revision that v sees has ended
abbrev pub IsSettled : Past → RevVec → Type 0
IsSettled past v = (r : Revision) → IsTrue (is_drawn past r) → IsTrue (sees v r) → IsTrue (is_ended past r)

-- the base of each committed revision that v sees is at most v
abbrev pub IsClosed : Past → RevVec → Type 0
IsClosed past v = (r : Revision) (d : Draw) → IsTrue (is_committed past r) → draw_of past r ≡ Some d → IsTrue (sees v r) → IsTrue (is_below d.base v)

-- what a draw was refused for: its item and the other revision
abbrev pub refusal_of : Past → Revision → Option (Item × Revision)
refusal_of [] r = None
refusal_of (event.Refuse q item o ∷ past) r = cond (is_same r q) (Some (item, o)) (refusal_of past r)
refusal_of (_ ∷ past) r = refusal_of past r
