-- A journal that is cut so far: closed parts, and a part under way.
use Rattle.std.specs.Prelude.{◌≡◌, ◌⊎◌, ℕ, Bool, false, List, [], ◌∷◌, ◌++◌, reverse, Option, None}
use Rattle.std.specs.Prelude.{Some, IsTrue, IsFalse}
use Rattle.std.specs.Option.{option_map_or}
use Rattle.jr_path.specs.Lists.{Text}
use Rattle.jr_rev.specs.declared.revision.Revision.{Revision}
use Rattle.jr_rev.specs.declared.vector.RevVec.{RevVec}
use Rattle.oak_machine.specs.declared.event.Event.{Event}
use Rattle.oak_machine.specs.declared.event.Event.TheVariants as event
use Rattle.oak_machine.specs.declared.event.StepKind.{StepKind}
use Rattle.oak_machine.specs.declared.event.StepKind.TheVariants as kind
use Rattle.oak_machine.specs.History.{Past}
use Rattle.oak_machine.specs.Laws.{is_revision_of}
use Rattle.oak_machine.specs.Runs.{is_task_end}
use Rattle.oak_machine.specs.Sessions.{is_drawing}
use Rattle.oak_machine.specs.Steps.{is_kind, is_on, is_one_step}
use Rattle.jr_script.specs.declared.script.Script.{Script}
use Rattle.jr_script.specs.declared.script.Entry.TheVariants as entry
use Rattle.jr_stage.specs.Places.{history_at, is_commit, is_of_turn, is_own, is_resting}
use Rattle.jr_stage.specs.Places.{is_write_or_mark, next_of, tells_of_none}
use Rattle.jr_stage.specs.Parts.{Rule, by_entry, Part, part_session, is_part_over, goes_on, events_of}
use Rattle.jr_stage.specs.Parts.{IsCut}
use Rattle.jr_stage.specs.Growing.{knows_next}

-- ---- a step

-- the last write of a commit is what is due
abbrev pub is_last_due : Option StepKind → Bool
is_last_due due = option_map_or (is_kind kind.Last) due false

-- the event tells of no session, s may make it, and nothing of s is in flight
pub record IsUnnamed (script : Script) (past : Past) (s : ℕ) (e : Event) : Type 0 where
  pub none : IsTrue (tells_of_none e)
  pub made : IsTrue (is_of_turn script past s e)
  pub idle : IsFalse (is_drawing past s)

-- the event is one of session s, or one that s makes and that tells of no session
abbrev pub IsMadeBy : Script → Past → ℕ → Event → Type 0
IsMadeBy script past s e = IsTrue (is_own past s e) ⊎ IsUnnamed script past s e

-- one event that session s makes
pub record IsSingle (script : Script) (past : Past) (s : ℕ) (own : Past) : Type 0 where
  pub event : Event
  pub is : own ≡ event ∷ []
  pub made : IsMadeBy script past s event

-- the end of a revision of session s, and the head that it moved; between the two nothing of s is
-- in flight, and s doesn't rest
pub record IsDouble (script : Script) (past : Past) (s : ℕ) (own : Past) : Type 0 where
  pub cluster : ℕ
  pub head : RevVec
  pub revision : Revision
  pub is : own ≡ event.Head cluster head ∷ event.End revision ∷ []
  pub theirs : IsTrue (is_revision_of past s revision)
  pub near : IsTrue (is_on (history_at script past) s cluster)
  pub idle : IsFalse (is_drawing (event.End revision ∷ past) s)
  pub awake : IsFalse (is_resting script (event.End revision ∷ past) s)

-- the reply of session s, directly behind how its split or collection ended, where nothing of s is
-- in flight
pub record IsToldReply (past : Past) (s : ℕ) (own : Past) : Type 0 where
  pub index : ℕ
  pub text : Text
  pub told : Event
  pub is : own ≡ event.Said s index text ∷ told ∷ []
  pub ends : IsTrue (is_task_end s told)
  pub idle : IsFalse (is_drawing past s)

-- the events that session s makes in one step
abbrev pub AreMadeBy : Script → Past → ℕ → Past → Type 0
AreMadeBy script past s own =
    IsSingle script past s own ⊎ IsDouble script past s own ⊎ IsToldReply past s own

-- the events of one step of session s, the newest first, which doesn't rest: a Write, a Mark or
-- what tells of no session where no last write is due, a Commit where it is
pub record IsStepAt (script : Script) (past : Past) (s : ℕ) (due : Option StepKind) (own : Past)
    : Type 0 where
  pub events : AreMadeBy script past s own
  pub step : IsTrue (is_one_step (history_at script past) s (reverse own))
  pub awake : IsFalse (is_resting script past s)
  pub written : (e : Event) → own ≡ e ∷ [] → IsTrue (is_last_due due) → IsFalse (is_write_or_mark e)
  pub committed : (e : Event) → own ≡ e ∷ [] → IsTrue (is_commit e) → IsTrue (is_last_due due)
  pub unnamed : (e : Event) → own ≡ e ∷ [] → IsTrue (tells_of_none e) → IsFalse (is_last_due due)

-- ---- closed parts

-- no Write or Mark is next: another event is, or there is none yet, and the last write is due
abbrev pub IsQuietNext : Option Event → Option StepKind → Type 0
IsQuietNext (Some e) due = IsFalse (is_write_or_mark e)
IsQuietNext None due = IsTrue (is_last_due due)

-- a part that waits for a last write has come to its end anyway, or no Write or Mark of its session
-- is next
abbrev pub IsQuiet : Script → (ℕ → Option StepKind) → Rule → Past → Past → List Event → Type 0
IsQuiet script due (by_entry (entry.Last s)) before part later =
    IsTrue (knows_next s before part)
    × (IsTrue (is_part_over script (by_entry (entry.Last s)) before part)
    ⊎ IsQuietNext (next_of (part ++ before) s later) (due s))
IsQuiet script due rule before part later = Unit {0}

-- all parts are quiet, each over the parts before it
abbrev pub AreQuiet : Script → (ℕ → Option StepKind) → List Part → List Event → Type 0
AreQuiet script due [] later = Unit {0}
AreQuiet script due (p ∷ parts) later =
    IsQuiet script due p.rule (events_of parts) p.events later
    × AreQuiet script due parts (reverse p.events ++ later)

-- the past is cut into closed parts, the newest first, and the events of the part under way
pub record IsCutSoFar (script : Script) (due : ℕ → Option StepKind) (parts : List Part)
    (part past : Past) : Type 0 where
  pub whole : past ≡ part ++ events_of parts
  pub cut : IsCut script parts (reverse part)
  pub quiet : AreQuiet script due parts (reverse part)

-- ---- the part under way

-- the part under way goes on, and each place of it knows the next event that counts there
pub record IsUnderWay (script : Script) (rule : Rule) (before part : Past) : Type 0 where
  pub goes : IsTrue (goes_on script rule before part [])
  pub knows : IsTrue (knows_next (part_session rule) before part)
