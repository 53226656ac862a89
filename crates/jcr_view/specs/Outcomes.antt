-- What a command of a view comes to: what it answers, what it makes, and the identifiers it draws.
use Rattle.std.specs.Prelude.{ℕ, Bool, true, false, ◌||◌, cond, List, [], Result, Ok, Err}
use Rattle.jr_tree.specs.declared.shared.Refusal.{Refusal}
use Rattle.jr_tree.specs.declared.shared.Who.{Who}
use Rattle.jr_tree.specs.Trees.{Nodes}
use Rattle.jr_types.specs.declared.TypeDef.{TypeDef}
use Rattle.jr_overlay.specs.Drafts.{Steps, stepped}
use Rattle.jr_overlay.specs.Overlays.{View, whole_view}
use Rattle.jcr_trans.specs.Answers.{Answer, Done}
use Rattle.jcr_trans.specs.declared.command.Command.{Command}
use Rattle.jcr_trans.specs.declared.command.Command.TheVariants as command
use Rattle.jcr_write.specs.Writes.{move_made, order_made, remove_made, set_made, unset_made}
use Rattle.jcr_make.specs.Commands.{add_made}
use Rattle.jcr_mixin.specs.Commands.{type_made, unmixin_made}
use Rattle.jcr_mixin.specs.Histories.{mixin_made}
use Rattle.jcr_fill.specs.Makings.{Making, making}
use Rattle.jcr_make.specs.Subtrees.{tree_made}
use Rattle.jcr_read.specs.Reading.{refused, shown}

-- what a command answers, what it makes of a view, and the identifiers drawn then
pub record CommandOutcome : Type 0 where
  pub answer : Answer
  pub steps : Steps
  pub ids : ℕ

-- the command writes items
abbrev pub is_writing : Command → Bool
is_writing (command.Add p type) = true
is_writing (command.Tree p nodes) = true
is_writing (command.Set p n x) = true
is_writing (command.Unset p n) = true
is_writing (command.Remove p) = true
is_writing (command.Move p q) = true
is_writing (command.Mixin p n) = true
is_writing (command.Unmixin p n) = true
is_writing (command.SetType p n) = true
is_writing (command.OrderBefore p before) = true
is_writing _ = false

-- the command changes nothing of the view: it shows something of it, or takes or drops a lock token
abbrev pub is_reading : Command → Bool
is_reading (command.Get p) = true
is_reading (command.List p) = true
is_reading (command.Props p) = true
is_reading (command.Id p) = true
is_reading (command.ById id) = true
is_reading (command.Refs p) = true
is_reading (command.Versions p) = true
is_reading (command.Token token) = true
is_reading (command.DropToken token) = true
is_reading _ = false

-- the command is answered by the view; all others are the session's
abbrev pub is_viewed : Command → Bool
is_viewed command = is_writing command || is_reading command

-- steps for which no identifier is drawn
abbrev pub drawing_none : (ids : ℕ) → Result Steps Refusal → Result Making Refusal
drawing_none ids (Ok steps) = Ok (making steps ids)
drawing_none ids (Err r) = Err r

-- what a writing command makes of a view, on what was made before
abbrev pub written_outcome : List TypeDef → Who → View → Command → Making → Result Making Refusal
written_outcome types who view (command.Add p type) m = add_made types who view p type m
written_outcome types who view (command.Tree p nodes) m = tree_made types who view p nodes m
written_outcome types who view (command.Set p n x) m =
    drawing_none m.ids (set_made types view m.steps p n x)
written_outcome types who view (command.Unset p n) m =
    drawing_none m.ids (unset_made types view m.steps p n)
written_outcome types who view (command.Remove p) m = drawing_none m.ids (remove_made types view m.steps p)
written_outcome types who view (command.Move p q) m = drawing_none m.ids (move_made view m.steps p q)
written_outcome types who view (command.Mixin p n) m = mixin_made types who view p n m
written_outcome types who view (command.Unmixin p n) m =
    drawing_none m.ids (unmixin_made types view p n m.steps)
written_outcome types who view (command.SetType p n) m = type_made types who view p n m
written_outcome types who view (command.OrderBefore p before) m =
    drawing_none m.ids (order_made types view m.steps p before)
written_outcome types who view _ m = Ok m

-- what is made counts; of a command that is refused nothing does
abbrev pub made_outcome : (ids : ℕ) → Result Making Refusal → CommandOutcome
made_outcome ids (Ok m) = record { answer = Done; steps = m.steps; ids = m.ids }
made_outcome ids (Err r) = record { answer = refused r; steps = []; ids = ids }

-- a command that only shows something
abbrev pub shown_outcome : (ids : ℕ) → Answer → CommandOutcome
shown_outcome ids a = record { answer = a; steps = []; ids = ids }

-- what a command of a view comes to
abbrev pub outcome : List TypeDef → Who → View → (base : Nodes) → Command → CommandOutcome
outcome types who view base command = cond (is_writing command)
    (made_outcome who.ids (written_outcome types who view command (making [] who.ids)))
    (shown_outcome who.ids (shown types view base command))

-- what a command answers, the view after it, and the identifiers drawn then
pub record Evaluated : Type 0 where
  pub answer : Answer
  pub view : Nodes
  pub ids : ℕ

-- an outcome over a view of a tree
abbrev pub evaluated : (base view : Nodes) → CommandOutcome → Evaluated
evaluated base view o =
    record { answer = o.answer; view = stepped base view o.steps; ids = o.ids }

-- a command run on a view of a tree
abbrev pub eval : List TypeDef → Who → (base view : Nodes) → Command → Evaluated
eval types who base view command =
    evaluated base view (outcome types who (whole_view view) base command)
