-- The parts of the machine that go over all revisions, checkpoints or sessions, as tests of the events of a history.
use Rattle.std.specs.Prelude.{◌≡◌, ℕ, Bool, true, not, ◌&&◌, ◌||◌, List, [], ◌∷◌, Option, None, Some, IsFalse, ◌⊎◌}
use Rattle.std.specs.Option.{option_map_or}
use Rattle.std.specs.List.{filter, list_any}
use Rattle.jr_path.specs.declared.path.Path.{Path}
use Rattle.jr_rev.specs.declared.revision.Revision.{Revision}
use Rattle.jr_rev.specs.declared.vector.RevVec.{RevVec}
use Rattle.jr_rev.specs.Vectors.{is_below}
use Rattle.oak_clash.specs.declared.mark.Mark.{Mark}
use Rattle.oak_clash.specs.declared.mark.MarkAt.{MarkAt}
use Rattle.oak_clash.specs.Clashes.{clash, marks_at, first_mark}
use Rattle.oak_machine.specs.declared.event.Event.{Event}
use Rattle.oak_machine.specs.declared.event.Event.TheVariants as event
use Rattle.oak_machine.specs.History.{Past}
use Rattle.oak_machine.specs.Commits.{is_in_base, are_clashing}
use Rattle.oak_machine.specs.Sessions.{base_of, is_attached, is_stopped_under, kept_checkpoint}

-- no revision committed among some events, which the base of r doesn't see, clashes with r
abbrev pub is_apart_among : Past → Revision → Past → Bool
is_apart_among now r [] = true
is_apart_among now r (event.Commit o ∷ past) = (is_in_base now r o || not (are_clashing now r o)) && is_apart_among now r past
is_apart_among now r (_ ∷ past) = is_apart_among now r past

-- m is at most each checkpoint made among some events that is kept
abbrev pub is_below_kept_among : Past → RevVec → Past → Bool
is_below_kept_among now m [] = true
is_below_kept_among now m (event.Checkpoint id v ∷ past) = option_map_or (is_below m) (kept_checkpoint now id) true && is_below_kept_among now m past
is_below_kept_among now m (_ ∷ past) = is_below_kept_among now m past

-- the first of the marks at a path that clash there with one of the others
abbrev pub first_met : Path → List MarkAt → List MarkAt → Option Mark
first_met p ms os = first_mark (filter (λ m. list_any (clash m) (marks_at p os)) (marks_at p ms))

-- the session that gets a base by an event
abbrev pub based_by : Event → Option ℕ
based_by (event.Login s v) = Some s
based_by (event.Refresh s v) = Some s
based_by (event.Attach s id) = Some s
based_by _ = None

-- v is the base of the session, which isn't attached, and whose cluster node wasn't stopped
abbrev pub IsFreeBase : List ℕ → Past → RevVec → Option ℕ → Type 0
IsFreeBase sessions now v None = ⊥
IsFreeBase sessions now v (Some s) = (base_of now s ≡ Some v) × IsFalse (is_attached now s) × IsFalse (is_stopped_under sessions now s)

-- and the session is one that got a base among some events
abbrev pub IsFreeBaseAmong : List ℕ → Past → RevVec → Past → Type 0
IsFreeBaseAmong sessions now v [] = ⊥
IsFreeBaseAmong sessions now v (e ∷ past) = IsFreeBase sessions now v (based_by e) ⊎ IsFreeBaseAmong sessions now v past
