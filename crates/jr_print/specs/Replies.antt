-- The text of a journal: a line for each reply, by session, and the replies of a session in the order in which they were said.
use Rattle.std.specs.Prelude.{ℕ, cond, ◌==◌, List, [], ◌∷◌, ◌++◌, length, codes}
use Rattle.std.specs.Fmt.{decimal}
use Rattle.std.specs.List.{flat_map, range_with_len}
use Rattle.jr_path.specs.Lists.{Text}
use Rattle.oak_machine.specs.declared.event.Event.{Event}
use Rattle.oak_machine.specs.declared.event.Event.TheVariants as event
use Rattle.oak_machine.specs.declared.event.Journal.{Journal}

-- session, index and text, separated by a space
abbrev pub reply_line : ℕ → ℕ → Text → List ℕ
reply_line s i text = decimal s ++ codes " " ++ decimal i ++ codes " " ++ text ++ codes "\n"

-- the line of an event, where it is a reply of session s
abbrev pub line_of : ℕ → Event → List ℕ
line_of s (event.Said t i text) = cond (t == s) (reply_line t i text) []
line_of s _ = []

-- the lines of session s
abbrev pub lines_of : List Event → ℕ → List ℕ
lines_of events s = flat_map (line_of s) events

-- the reply lines of a journal
abbrev pub reply_text : Journal → List ℕ
reply_text j = flat_map (lines_of j.events.list) (range_with_len 0 (length j.sessions))
