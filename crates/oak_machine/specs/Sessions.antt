-- What a journal says of a session.
use Rattle.std.specs.Prelude.{ℕ, Bool, true, false, cond, not, ◌&&◌, ◌||◌, ◌==◌, List, [], ◌∷◌, Option, None, Some, slice_get}
use Rattle.std.specs.Ordering.{eq_by_cmp}
use Rattle.std.specs.List.{count_by, list_any}
use Rattle.std.specs.Option.{option_map_or}
use Rattle.jr_path.specs.Names.{name_cmp}
use Rattle.jr_path.specs.Lists.{Text}
use Rattle.jr_rev.specs.declared.revision.Revision.{Revision}
use Rattle.jr_rev.specs.declared.vector.RevVec.{RevVec}
use Rattle.oak_machine.specs.declared.event.StepKind.TheVariants as kind
use Rattle.oak_machine.specs.declared.event.Event.{Event}
use Rattle.oak_machine.specs.declared.event.Event.TheVariants as event
use Rattle.oak_machine.specs.History.{Past}
use Rattle.oak_machine.specs.Commits.{is_ended}

-- two texts are equal
abbrev pub is_text : Text → Text → Bool
is_text = eq_by_cmp name_cmp

-- the vector of the checkpoint of that id that was made last
abbrev pub last_checkpoint : Past → Text → Option RevVec
last_checkpoint [] id = None
last_checkpoint (event.Checkpoint other v ∷ past) id = cond (is_text other id) (Some v) (last_checkpoint past id)
last_checkpoint (_ ∷ past) id = last_checkpoint past id

-- the checkpoint of that id, where it was not released since
abbrev pub kept_checkpoint : Past → Text → Option RevVec
kept_checkpoint [] id = None
kept_checkpoint (event.Checkpoint other v ∷ past) id = cond (is_text other id) (Some v) (kept_checkpoint past id)
kept_checkpoint (event.Release other ∷ past) id = cond (is_text other id) None (kept_checkpoint past id)
kept_checkpoint (_ ∷ past) id = kept_checkpoint past id

-- the vector of the latest Login, Refresh or Attach of s
abbrev pub base_of : Past → ℕ → Option RevVec
base_of [] s = None
base_of (event.Login t v ∷ past) s = cond (t == s) (Some v) (base_of past s)
base_of (event.Refresh t v ∷ past) s = cond (t == s) (Some v) (base_of past s)
base_of (event.Attach t id ∷ past) s = cond (t == s) (last_checkpoint past id) (base_of past s)
base_of (_ ∷ past) s = base_of past s

-- the latest Login, Refresh or Attach of s is an Attach
abbrev pub is_attached : Past → ℕ → Bool
is_attached [] s = false
is_attached (event.Login t v ∷ past) s = cond (t == s) false (is_attached past s)
is_attached (event.Refresh t v ∷ past) s = cond (t == s) false (is_attached past s)
is_attached (event.Attach t id ∷ past) s = cond (t == s) true (is_attached past s)
is_attached (_ ∷ past) s = is_attached past s

-- s has an Attach without a later Detach
abbrev pub has_reader : Past → ℕ → Bool
has_reader [] s = false
has_reader (event.Attach t id ∷ past) s = cond (t == s) true (has_reader past s)
has_reader (event.Detach t ∷ past) s = cond (t == s) false (has_reader past s)
has_reader (_ ∷ past) s = has_reader past s

-- the event is a Login of session s
abbrev pub is_login_of : ℕ → Event → Bool
is_login_of s (event.Login t v) = t == s
is_login_of s _ = false

-- session s has logged in
abbrev pub has_login : Past → ℕ → Bool
has_login past s = list_any (is_login_of s) past

-- the event is the one with which session s leaves
abbrev pub is_end_of_session : ℕ → Event → Bool
is_end_of_session s (event.Went t kind.End) = t == s
is_end_of_session s _ = false

-- session s has left
abbrev pub has_left : Past → ℕ → Bool
has_left past s = list_any (is_end_of_session s) past

-- a draw of s is in flight
abbrev pub is_drawing_among : Past → Past → ℕ → Bool
is_drawing_among now [] s = false
is_drawing_among now (event.Draw d ∷ past) s = (d.session == s && not (is_ended now d.revision)) || is_drawing_among now past s
is_drawing_among now (_ ∷ past) s = is_drawing_among now past s

-- session s has a draw in flight
abbrev pub is_drawing : Past → ℕ → Bool
is_drawing past s = is_drawing_among past past s

-- the event is a Stop of cluster node k
abbrev pub is_stop_of : ℕ → Event → Bool
is_stop_of k (event.Stop m) = m == k
is_stop_of k _ = false

-- cluster node k was stopped
abbrev pub is_stopped : Past → ℕ → Bool
is_stopped past k = list_any (is_stop_of k) past

-- the event is a Recover of cluster node k
abbrev pub is_recovery_of : ℕ → Event → Bool
is_recovery_of k (event.Recover m) = m == k
is_recovery_of k _ = false

-- cluster node k was recovered
abbrev pub is_recovered : Past → ℕ → Bool
is_recovered past k = list_any (is_recovery_of k) past

-- the cluster node of s was stopped
abbrev pub is_stopped_under : List ℕ → Past → ℕ → Bool
is_stopped_under sessions past s = option_map_or (is_stopped past) (slice_get sessions s) false

-- the event is a reply of session s
abbrev pub is_reply_of : ℕ → Event → Bool
is_reply_of s (event.Said t i text) = t == s
is_reply_of s _ = false

-- the index of the next reply of s
abbrev pub next_index : Past → ℕ → ℕ
next_index past s = count_by (is_reply_of s) past

-- the events after the last reply of s, or after its login
abbrev pub since : Past → ℕ → Past
since [] s = []
since (e ∷ past) s = cond (is_reply_of s e || is_login_of s e) [] (e ∷ since past s)

-- the last revision that s drew among some events
abbrev pub drawn_among : Past → ℕ → Option Revision
drawn_among [] s = None
drawn_among (event.Draw d ∷ past) s = cond (d.session == s) (Some d.revision) (drawn_among past s)
drawn_among (_ ∷ past) s = drawn_among past s

-- the revision that s drew for the command that it has not answered yet
abbrev pub drawn_since : Past → ℕ → Option Revision
drawn_since past s = drawn_among (since past s) s

-- the vector of the last Refresh of s among some events
abbrev pub refreshed_among : Past → ℕ → Option RevVec
refreshed_among [] s = None
refreshed_among (event.Refresh t v ∷ past) s = cond (t == s) (Some v) (refreshed_among past s)
refreshed_among (_ ∷ past) s = refreshed_among past s

-- the vector of the last Refresh of s for the command that it has not answered yet
abbrev pub refreshed_since : Past → ℕ → Option RevVec
refreshed_since past s = refreshed_among (since past s) s

-- ---- pins

-- the vector of the latest Login or Refresh of s, at which its cluster node pinned it
abbrev pub pinned_at : Past → ℕ → Option RevVec
pinned_at [] s = None
pinned_at (event.Login t v ∷ past) s = cond (t == s) (Some v) (pinned_at past s)
pinned_at (event.Refresh t v ∷ past) s = cond (t == s) (Some v) (pinned_at past s)
pinned_at (_ ∷ past) s = pinned_at past s

-- the vector of the latest Login or Refresh of session s, from its login until it leaves
abbrev pub session_base : Past → ℕ → Option RevVec
session_base past s = cond (has_login past s && not (has_left past s)) (pinned_at past s) None

-- the vector at which session s pinned its cursor last, which is that of its own pin then, until it leaves
abbrev pub cursor_at : Past → ℕ → Option RevVec
cursor_at [] s = None
cursor_at (event.Went t kind.Pin ∷ past) s = cond (t == s) (session_base past s) (cursor_at past s)
cursor_at (event.Went t kind.End ∷ past) s = cond (t == s) None (cursor_at past s)
cursor_at (_ ∷ past) s = cursor_at past s
