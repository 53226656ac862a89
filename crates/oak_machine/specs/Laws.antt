-- What a law is asked: an edit may start, a text may be said; and what it owes.
use Rattle.std.specs.Prelude.{◌≡◌, ◌≢◌, ℕ, Bool, true, false, ◌==◌, ◌++◌, List, [], Some, IsFalse}
use Rattle.std.specs.Option.{option_map_or}
use Rattle.std.specs.List.{filter, list_any}
use Rattle.jr_path.specs.Lists.{Text}
use Rattle.jr_rev.specs.declared.revision.Revision.{Revision}
use Rattle.jr_rev.specs.declared.vector.RevVec.{RevVec}
use Rattle.jr_tree.specs.declared.edit.Edit.{Edit}
use Rattle.jr_tree.specs.Trees.{Nodes}
use Rattle.jr_tree.specs.Edits.{IsProper}
use Rattle.oak_clash.specs.declared.mark.MarkAt.{MarkAt}
use Rattle.oak_clash.specs.declared.mark.Mark.{Mark}
use Rattle.oak_clash.specs.declared.mark.Mark.TheVariants.{Exists, Prop}
use Rattle.oak_machine.specs.Marks.{marks_for}
use Rattle.oak_machine.specs.declared.event.Event.{Event}
use Rattle.oak_machine.specs.declared.event.Event.TheVariants as event
use Rattle.oak_machine.specs.History.{History, Past}
use Rattle.oak_machine.specs.Commits.{draw_of, tree_at}
use Rattle.oak_machine.specs.Sessions.{base_of}

-- an edit with its marks may start for a session at a history
abbrev pub Starts : Type 1
Starts = History → ℕ → Edit → List MarkAt → Type 0

-- a text may be said as the reply of that index of a session at a history
abbrev pub Says : Type 1
Says = History → ℕ → ℕ → Text → Type 0

-- the command of that index of a session asks for such an event
abbrev pub Asks : Type 1
Asks = ℕ → ℕ → Event → Type 0

-- the revision is one of session s
abbrev pub is_revision_of : Past → ℕ → Revision → Bool
is_revision_of past s r = option_map_or (λ d. d.session == s) (draw_of past r) false

-- an event of session s that is no End; the events of a revision are those of its session
abbrev pub is_event_of : Past → ℕ → Event → Bool
is_event_of past s (event.Login t v) = t == s
is_event_of past s (event.Refresh t v) = t == s
is_event_of past s (event.Draw d) = d.session == s
is_event_of past s (event.Commit r) = is_revision_of past s r
is_event_of past s (event.Refuse r item o) = is_revision_of past s r
is_event_of past s (event.Attach t id) = t == s
is_event_of past s (event.Detach t) = t == s
is_event_of past s (event.Split t path e) = t == s
is_event_of past s (event.Collected t c) = t == s
is_event_of past s (event.Went t kind) = t == s
is_event_of past s (event.Said t i text) = t == s
is_event_of past s _ = false

-- the events added to a past are of other sessions, or Ends
abbrev pub AreOthers : ℕ → Past → Past → Type 0
AreOthers s added past = IsFalse (list_any (is_event_of (added ++ past) s) added)

-- the history after these events more, the newest first
abbrev pub after : Past → History → History
after added h = record h { past = added ++ h.past }

-- the base of a session, which has one
abbrev pub HasBase : History → ℕ → RevVec → Type 0
HasBase h s v = base_of h.past s ≡ Some v

-- the mark is of an item: an Exists of a node, or a Prop of a property
abbrev pub is_of_item_mark : Mark → Bool
is_of_item_mark Exists = true
is_of_item_mark (Prop n) = true
is_of_item_mark _ = false

-- an Exists or a Prop
abbrev pub is_of_item : MarkAt → Bool
is_of_item m = is_of_item_mark m.mark

-- the Exists and Props of the marks are those of the writes
abbrev pub AreOfWrites : Nodes → Edit → List MarkAt → Type 0
AreOfWrites t edit marks = filter is_of_item marks ≡ filter is_of_item (marks_for t edit.writes)

-- an edit that may start is proper on the tree at the base of its session, with the marks of its writes
abbrev pub StartsProper : Starts → Type 0
StartsProper starts = (h : History) (s : ℕ) (edit : Edit) (marks : List MarkAt) (v : RevVec) → HasBase h s v → starts h s edit marks → IsProper (tree_at h.begin h.past v) edit.writes × AreOfWrites (tree_at h.begin h.past v) edit marks

-- an edit that may start writes something: of a commit that writes nothing no document would tell
abbrev pub StartsWrite : Starts → Type 0
StartsWrite starts = (h : History) (s : ℕ) (edit : Edit) (marks : List MarkAt) →
    starts h s edit marks → edit.writes ≢ []
