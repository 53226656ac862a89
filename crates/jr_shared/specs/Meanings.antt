-- What a world means under the lock: its journal, what each session owns of it, what never changes
-- of it, and what changes only with the journal.
use Rattle.std.specs.Prelude.{ℕ, cond, List, [], ◌∷◌, reverse, slice_get, Option}
use Rattle.oak_machine.specs.declared.event.Event.{Event}
use Rattle.oak_machine.specs.History.{Past}
use Rattle.oak_machine.specs.Laws.{is_event_of}
use Rattle.oak_world.specs.Worlds.{ActorState, WorldOf}
use Rattle.jr_shared.specs.declared.locked.WorldFrame.{WorldFrame}

-- the events of session s, the newest first
abbrev pub own_events : Past → ℕ → Past
own_events [] s = []
own_events (e ∷ past) s =
    cond (is_event_of (e ∷ past) s e) (e ∷ own_events past s) (own_events past s)

-- what a session owns of a world: what it does and what is kept for it, where it is one of the
-- world's, and its events
pub record Owned : Type 0 where
  pub seat : Option ActorState
  pub events : Past

module _ {L : Type 0} where
  -- the events so far, the first one first
  abbrev pub journal_of : WorldOf L → List Event
  journal_of w = reverse w.history.past

  -- what a session owns of a world: what it does, and its events
  abbrev pub owned_of : WorldOf L → ℕ → Owned
  owned_of w s = record { seat = slice_get w.actors s; events = own_events w.history.past s }

  -- the law, the cluster nodes and the sessions
  abbrev pub frame_of : WorldOf L → WorldFrame L
  frame_of w = record { law = w.law; clusters = w.history.clusters; sessions = w.history.sessions }

  -- the documents and the memories, which change only where the journal grows
  abbrev pub steady_of : WorldOf L → WorldOf L
  steady_of w = record w { history = record w.history { past = [] }; actors = [] }
