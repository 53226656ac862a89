-- What a history says of a session: the view over its base, its lock tokens, its cursor, and its
-- identifiers.
use Rattle.std.specs.Prelude.{ℕ, ◌+◌, min, Bool, false, true, cond, not, ◌==◌, nat_eq, List, [], ◌∷◌, slice_get, codes, Option, None, Some, is_some, option_and_then, option_map}
use Rattle.std.specs.List.{filter, list_any, starts_with}
use Rattle.std.specs.Option.{option_map_or}
use Rattle.jr_path.specs.Lists.{Text}
use Rattle.jr_rev.specs.declared.vector.RevVec.{RevVec}
use Rattle.jr_value.specs.Values.{same_bytes}
use Rattle.jr_tree.specs.declared.edit.Write.{Write}
use Rattle.jr_tree.specs.declared.shared.Who.{Who}
use Rattle.jr_tree.specs.Edits.{changes}
use Rattle.jr_tree.specs.Trees.{Nodes}
use Rattle.jr_types.specs.declared.TypeDef.{TypeDef}
use Rattle.oak_machine.specs.declared.event.Event.TheVariants as event
use Rattle.oak_machine.specs.Commits.{tree_at}
use Rattle.oak_machine.specs.History.{Begin, Past, begin_tree}
use Rattle.oak_machine.specs.Sessions.{base_of, drawn_since, last_checkpoint}
use Rattle.jcr_ref.specs.References.{identifier}
use Rattle.jcr_trans.specs.declared.command.Command.{Command}
use Rattle.jcr_trans.specs.declared.command.Command.TheVariants as command
use Rattle.jcr_view.specs.Outcomes.{Evaluated, eval, is_viewed}
use Rattle.jcr_view.specs.Rebases.{moved_view}
use Rattle.jcr_law.specs.declared.law.JcrLaw.{JcrLaw}
use Rattle.jcr_law.specs.declared.state.Cursor.{Cursor}
use Rattle.jcr_law.specs.declared.state.State.{State}

-- what a command of a session is run with: the types, the session at its base, the tree there, and
-- the session's state
pub record Call : Type 0 where
  pub types : List TypeDef
  pub who : Who
  pub base : Nodes
  pub state : State

-- the command of that index of session s
abbrev pub command_at : JcrLaw → ℕ → ℕ → Option Command
command_at law s i = option_and_then (λ x. slice_get x.commands i) (slice_get law.sessions s)

-- the tree at the base of s
abbrev pub base_tree : Begin → Past → ℕ → Nodes
base_tree begin past s = option_map_or (tree_at begin past) (base_of past s) (begin_tree begin)

-- a reply that accepts
abbrev pub is_ok_text : Text → Bool
is_ok_text text = starts_with nat_eq text (codes "ok")

-- a session before its login
abbrev pub new_state : Begin → State
new_state begin = record { view = begin_tree begin; tokens = []; cursor = None; ids = 0 }

-- a session whose base is at a vector, with such a state
abbrev pub call_at : JcrLaw → Begin → Past → (s : ℕ) → RevVec → State → Call
call_at law begin past s v state = record {
  types = law.types;
  who = record { session = s; earlier = law.earlier; ids = state.ids; base = v };
  base = tree_at begin past v;
  state = state;
}

-- the pending edits
abbrev pub pending : Call → List Write
pending c = changes c.base c.state.view

-- the state after the base moved so
abbrev pub moved : (old new : Nodes) → State → State
moved old new state = record state { view = moved_view old new state.view }

-- the tokens with one more, or without one
abbrev pub with_token : List (List ℕ) → List ℕ → List (List ℕ)
with_token tokens t = cond (list_any (same_bytes t) tokens) tokens (t ∷ tokens)

-- the lock tokens without one
abbrev pub without_token : List (List ℕ) → List ℕ → List (List ℕ)
without_token tokens t = filter (λ u. not (same_bytes t u)) tokens

-- the text of the next identifier of a session
abbrev pub next_id : Who → List ℕ
next_id who = identifier (who.session + who.earlier) (who.ids + 1)

-- how many identifiers a command has used that is no command of the view: a lock or a check-in one
-- where it drew a revision, whatever came of it; a checkpoint one where it was accepted
abbrev pub used : (ok drew : Bool) → Command → ℕ
used ok drew (command.Lock p deep) = cond drew 1 0
used ok drew (command.Checkin p) = cond drew 1 0
used ok drew command.Checkpoint = cond ok 1 0
used ok drew _ = 0

-- a command of the view leaves the view and the identifiers that it comes to
abbrev pub viewed : Evaluated → State → State
viewed e state = record state { view = e.view; ids = e.ids }

-- what an accepted command leaves
abbrev pub accepted : Call → Command → State
accepted c command.Save = record c.state { view = c.base }
accepted c (command.Refresh false) = record c.state { view = c.base }
accepted c (command.Token t) = record c.state { tokens = with_token c.state.tokens t }
accepted c (command.DropToken t) = record c.state { tokens = without_token c.state.tokens t }
accepted c (command.Lock p deep) =
    record c.state { tokens = with_token c.state.tokens (next_id c.who) }
accepted c (command.Observe p deep mask) = record c.state {
  cursor =
      Some (record { at = c.who.base; filter = record { path = p; deep = deep; mask = mask } });
}
accepted c command.Events = record c.state {
  cursor = option_map {T = Cursor} (λ x. record x { at = c.who.base }) c.state.cursor;
}
accepted c m = cond (is_viewed m)
    (viewed (eval c.types c.who c.base c.state.view m) c.state) c.state

-- with the identifiers that the command used, up to the limit
abbrev pub counted : (ok drew : Bool) → Command → State → State
counted ok drew m state = record state { ids = min (state.ids + used ok drew m) 16777215 }

-- what a command leaves, as it was accepted or refused, and drew a revision or none
abbrev pub state_answered : (ok drew : Bool) → Call → Command → State
state_answered ok drew c m = counted ok drew m (cond ok (accepted c m) c.state)

-- what a reply of s leaves, if there is such a command and s has a base
abbrev pub state_replied : JcrLaw → Begin → Past → (s i : ℕ) → Text → State → State
state_replied law begin past s i text state = option_map_or (λ m. option_map_or (λ v.
    state_answered (is_ok_text text) (is_some (drawn_since past s))
    (call_at law begin past s v state) m)
    (base_of past s) state) (command_at law s i) state

-- what a history says of a session, event by event
abbrev pub session_state : JcrLaw → Begin → Past → ℕ → State
session_state law begin [] s = new_state begin
session_state law begin (event.Login t v ∷ past) s = cond (t == s)
    (record (new_state begin) { view = tree_at begin past v }) (session_state law begin past s)
session_state law begin (event.Refresh t v ∷ past) s = cond (t == s)
    (moved (base_tree begin past s) (tree_at begin past v) (session_state law begin past s))
    (session_state law begin past s)
session_state law begin (event.Attach t id ∷ past) s = cond (t == s)
    (moved (base_tree begin past s) (base_tree begin (event.Attach t id ∷ past) s)
    (session_state law begin past s)) (session_state law begin past s)
session_state law begin (event.Said t i text ∷ past) s = cond (t == s)
    (state_replied law begin past s i text (session_state law begin past s))
    (session_state law begin past s)
session_state law begin (_ ∷ past) s = session_state law begin past s

-- what the next command of s is run with, where s has a base
abbrev pub call_of : JcrLaw → Begin → Past → ℕ → Option Call
call_of law begin past s =
    option_map (λ v. call_at law begin past s v (session_state law begin past s)) (base_of past s)

-- the lock tokens that s holds
abbrev pub tokens_of : JcrLaw → Begin → Past → ℕ → List (List ℕ)
tokens_of law begin past s = (session_state law begin past s).tokens
