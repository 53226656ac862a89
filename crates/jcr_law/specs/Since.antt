-- What came since the last reply of a session, or since its login.
use Rattle.std.specs.Prelude.{ℕ, Bool, true, false, cond, not, ◌&&◌, ◌||◌, ◌==◌, List, [], ◌∷◌, length, Option, None, Some}
use Rattle.std.specs.List.{list_any}
use Rattle.jr_rev.specs.declared.vector.RevVec.{RevVec}
use Rattle.oak_machine.specs.declared.event.StepKind.TheVariants as kind
use Rattle.oak_machine.specs.declared.event.Draw.{Draw}
use Rattle.oak_machine.specs.declared.event.Event.{Event}
use Rattle.oak_machine.specs.declared.event.Event.TheVariants as event
use Rattle.oak_machine.specs.History.{Past}
use Rattle.oak_machine.specs.Sessions.{is_login_of, is_reply_of, refreshed_among, since}

-- a command of s begins behind the event: its login, or a reply
abbrev pub is_beginning : ℕ → Event → Bool
is_beginning s e = is_reply_of s e || is_login_of s e

-- what lay behind when the command that s has not answered yet began
abbrev pub before_turn : Past → ℕ → Past
before_turn [] s = []
before_turn (e ∷ past) s = cond (is_beginning s e) (e ∷ past) (before_turn past s)

-- since the command of s began some event came that passes the test, which is told what lay behind
-- it
abbrev pub came : ℕ → (Past → Event → Bool) → Past → Bool
came s test [] = false
came s test (e ∷ past) = not (is_beginning s e) && (test past e || came s test past)

-- the last draw of s among some events
abbrev pub draw_among : Past → ℕ → Option Draw
draw_among [] s = None
draw_among (event.Draw d ∷ past) s = cond (d.session == s) (Some d) (draw_among past s)
draw_among (_ ∷ past) s = draw_among past s

-- the draw that s made for the command that it has not answered yet
abbrev pub draw_since : Past → ℕ → Option Draw
draw_since past s = draw_among (since past s) s

-- the base of s moves by the event, or its checkpoint is left
abbrev pub is_move_of : ℕ → Event → Bool
is_move_of s (event.Refresh t v) = t == s
is_move_of s (event.Attach t id) = t == s
is_move_of s (event.Detach t) = t == s
is_move_of s _ = false

-- the base of s hasn't moved since its command began that it has not answered yet
abbrev pub is_unmoved : Past → ℕ → Bool
is_unmoved past s = not (list_any (is_move_of s) (since past s))

-- s made a step that moves a pin
abbrev pub is_pinning : ℕ → Event → Bool
is_pinning s (event.Went t kind.Pin) = t == s
is_pinning s _ = false

-- the cursor of s hasn't moved since its command began that it has not answered yet
abbrev pub is_unpinned : Past → ℕ → Bool
is_unpinned past s = not (list_any (is_pinning s) (since past s))

-- s made a step on the settings that changed nothing
abbrev pub is_setting : ℕ → Event → Bool
is_setting s (event.Went t kind.Settings) = t == s
is_setting s _ = false

-- s made a step of a stop that changed nothing
abbrev pub is_stopping : ℕ → Event → Bool
is_stopping s (event.Went t kind.Stop) = t == s
is_stopping s _ = false

-- where the base of s stood when it was detached, if it was detached after its base moved
abbrev pub detached_among : Past → ℕ → Option RevVec
detached_among [] s = None
detached_among (event.Detach t ∷ past) s =
    cond (t == s) (refreshed_among past s) (detached_among past s)
detached_among (_ ∷ past) s = detached_among past s

-- the position in the journal, from 0 on, at which cluster node k was stopped
abbrev pub stop_position : Past → ℕ → Option ℕ
stop_position [] k = None
stop_position (event.Stop m ∷ past) k = cond (m == k) (Some (length past)) (stop_position past k)
stop_position (_ ∷ past) k = stop_position past k
