-- Which events the counted steps append. Reading steps append none.
use Rattle.std.specs.Prelude.{ℕ, Bool, true, false, cond, not, ◌&&◌, ◌==◌, List, [], ◌∷◌, reverse, slice_get}
use Rattle.std.specs.Option.{option_map_or}
use Rattle.std.specs.List.{list_any}
use Rattle.jr_rev.specs.declared.revision.Revision.{Revision}
use Rattle.jr_rev.specs.Revisions.{is_same}
use Rattle.oak_machine.specs.declared.event.StepKind.{StepKind}
use Rattle.oak_machine.specs.declared.event.StepKind.TheVariants as kind
use Rattle.oak_machine.specs.declared.event.Event.{Event}
use Rattle.oak_machine.specs.declared.event.Event.TheVariants as event
use Rattle.oak_machine.specs.History.{History}
use Rattle.oak_machine.specs.Heads.{flying, local}
use Rattle.oak_machine.specs.Sessions.{is_stopped}
use Rattle.oak_machine.specs.Laws.{is_revision_of}

-- s is a session of cluster node k
abbrev pub is_on : History → ℕ → ℕ → Bool
is_on h s k = option_map_or (λ m. m == k) (slice_get h.sessions s) false

-- the end of r moves the head of its cluster node
abbrev pub moves_head : History → Revision → Bool
moves_head h r = not (is_same (local h.begin (event.End r ∷ h.past) r.cluster) (local h.begin h.past r.cluster))

-- the steps of which a Went may be all that is appended: of the other kinds each step has an event of its own
abbrev pub leaves_went : StepKind → Bool
leaves_went kind.Login = false
leaves_went kind.Read = false
leaves_went kind.Draw = false
leaves_went kind.Last = false
leaves_went kind.Finish = false
leaves_went kind.Say = false
leaves_went _ = true

-- the memory's step of a recovery of cluster node k: the ends of some revisions, and then Recover
abbrev pub is_recovery : List Revision → ℕ → List Event → Bool
is_recovery [] k (event.Recover m ∷ []) = m == k
is_recovery (r ∷ rs) k (event.End q ∷ events) = is_same r q && is_recovery rs k events
is_recovery rs k events = false

-- the events are a recovery of the stopped cluster node k: the ends of all its revisions in
-- flight, in the order in which they were drawn, and then Recover
abbrev pub is_recovery_at : History → ℕ → List Event → Bool
is_recovery_at h k events = is_stopped h.past k && is_recovery (reverse (flying h.past k)) k events

-- the kinds, where the test holds
abbrev pub where_test : Bool → List StepKind → List StepKind
where_test b ks = cond b ks []

-- the kinds of the counted steps of session s that append just these events to the history
abbrev pub kinds_for : History → ℕ → List Event → List StepKind
kinds_for h s (event.Login t v ∷ []) = where_test (t == s) (kind.Login ∷ [])
kinds_for h s (event.Refresh t v ∷ []) = where_test (t == s) (kind.Pin ∷ [])
kinds_for h s (event.Draw d ∷ []) = where_test (d.session == s) (kind.Draw ∷ [])
kinds_for h s (event.Refuse r item o ∷ []) = where_test (is_revision_of h.past s r) (kind.Mark ∷ kind.Last ∷ [])
kinds_for h s (event.Commit r ∷ []) = where_test (is_revision_of h.past s r) (kind.Last ∷ [])
kinds_for h s (event.End r ∷ []) = where_test (is_revision_of h.past s r && not (moves_head h r)) (kind.Finish ∷ [])
kinds_for h s (event.End r ∷ event.Head k v ∷ []) = where_test (is_revision_of h.past s r && moves_head h r && r.cluster == k) (kind.Finish ∷ [])
kinds_for h s (event.End r ∷ e ∷ events) = where_test (is_recovery_at h r.cluster (event.End r ∷ e ∷ events)) (kind.Recover ∷ [])
kinds_for h s (event.Recover k ∷ []) = where_test (is_recovery_at h k (event.Recover k ∷ [])) (kind.Recover ∷ [])
kinds_for h s (event.Stop k ∷ []) = where_test (not (is_on h s k)) (kind.Stop ∷ [])
kinds_for h s (event.Out k r ∷ event.Sweep m q ∷ []) = where_test (is_stopped h.past k && m == k && is_same r q) (kind.Back ∷ [])
kinds_for h s (event.Out k r ∷ []) = where_test (is_on h s k) (kind.Back ∷ [])
kinds_for h s (event.In k v ∷ []) = where_test (is_on h s k) (kind.Learn ∷ [])
kinds_for h s (event.Sweep k r ∷ []) = where_test (is_on h s k) (kind.Sweep ∷ [])
kinds_for h s (event.Bound m t ∷ []) = kind.Bound ∷ []
kinds_for h s (event.Checkpoint id v ∷ []) = kind.Settings ∷ []
kinds_for h s (event.Release id ∷ []) = kind.Settings ∷ []
kinds_for h s (event.Attach t id ∷ []) = where_test (t == s) (kind.Settings ∷ [])
kinds_for h s (event.Detach t ∷ []) = where_test (t == s) (kind.Settings ∷ [])
kinds_for h s (event.Said t i text ∷ []) = where_test (t == s) (kind.Say ∷ [])
kinds_for h s (event.Split t path e ∷ event.Said u i text ∷ []) = where_test (t == s && u == s) (kind.Say ∷ [])
kinds_for h s (event.Collected t c ∷ event.Said u i text ∷ []) = where_test (t == s && u == s) (kind.Say ∷ [])
kinds_for h s (event.Went t k ∷ []) = where_test (t == s && leaves_went k) (k ∷ [])
kinds_for h s _ = []

-- the number of a kind
abbrev pub step_number : StepKind → ℕ
step_number kind.Login = 0
step_number kind.Pin = 1
step_number kind.Read = 2
step_number kind.Draw = 3
step_number kind.Write = 4
step_number kind.Mark = 5
step_number kind.Last = 6
step_number kind.Undo = 7
step_number kind.Finish = 8
step_number kind.Back = 9
step_number kind.Learn = 10
step_number kind.Split = 11
step_number kind.Sweep = 12
step_number kind.Bound = 13
step_number kind.Collect = 14
step_number kind.Settings = 15
step_number kind.Say = 16
step_number kind.End = 17
step_number kind.Stop = 18
step_number kind.Recover = 19

-- two kinds of steps are equal, by their numbers
abbrev pub is_kind : StepKind → StepKind → Bool
is_kind a b = step_number a == step_number b

-- a step of s of that kind appends these events to the history, and no others; a reading step none
abbrev pub is_appended_by : History → ℕ → StepKind → List Event → Bool
is_appended_by h s kind.Read [] = true
is_appended_by h s k events = list_any (is_kind k) (kinds_for h s events)

-- the events are those of one counted step of s
abbrev pub is_one_step : History → ℕ → List Event → Bool
is_one_step h s events = list_any (λ k. true) (kinds_for h s events)
