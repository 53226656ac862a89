-- What steps append, while two sessions have commits in flight.
use Rattle.std.proofs.Common.{◌≡◌, ℕ, true, false, None, [], ◌∷◌, refl}
use Rattle.jr_rev.specs.declared.revision.Revision.{Revision}
use Rattle.jr_rev.specs.Vectors.{Entries, start, with_entry}
use Rattle.oak_machine.specs.declared.event.Event.{Event}
use Rattle.oak_machine.specs.declared.event.Event.TheVariants as event
use Rattle.oak_machine.specs.declared.event.StepKind.TheVariants as kind
use Rattle.oak_machine.specs.History.{History}
use Rattle.oak_machine.specs.Steps.{kinds_for, is_appended_by, is_one_step}

abbrev at : ℕ → Revision
at t = record { time = t; counter = 0; cluster = 1 }

abbrev vector : ℕ → Entries
vector t = with_entry (start 1) (at t)

abbrev draw : ℕ → ℕ → Event
draw t s = event.Draw (record { revision = at t; session = s; base = vector 0; edit = record { writes = [] }; marks = [] })

-- session 0 has drawn the first revision, and session 1 the second
abbrev h : History
h = record { clusters = 1; sessions = 1 ∷ 1 ∷ []; begin = None; past = draw 2 1 ∷ draw 1 0 ∷ event.Login 1 (vector 0) ∷ event.Login 0 (vector 0) ∷ [] }

-- the later one ends and moves nothing; the earlier one ends and moves the head
later_ends : is_appended_by h 1 kind.Finish (event.End (at 2) ∷ []) ≡ true
later_ends = refl

earlier_ends : is_appended_by h 0 kind.Finish (event.End (at 1) ∷ event.Head 1 (vector 1) ∷ []) ≡ true
earlier_ends = refl

no_head : is_one_step h 1 (event.End (at 2) ∷ event.Head 1 (vector 0) ∷ []) ≡ false
no_head = refl

head_left_out : is_one_step h 0 (event.End (at 1) ∷ []) ≡ false
head_left_out = refl

-- a refusal comes of a mark or of the last write, and of its own session alone
refusal : kinds_for h 0 (event.Refuse (at 1) (record { path = []; name = None }) (at 2) ∷ []) ≡ kind.Mark ∷ kind.Last ∷ []
refusal = refl

of_another : is_one_step h 0 (event.Commit (at 2) ∷ []) ≡ false
of_another = refl

-- a reading step appends nothing, and no counted step does
nothing_read : is_appended_by h 0 kind.Read [] ≡ true
nothing_read = refl

nothing_counted : is_one_step h 0 [] ≡ false
nothing_counted = refl

-- what a step has an event for isn't told by its kind alone
no_went : is_one_step h 0 (event.Went 0 kind.Last ∷ []) ≡ false
no_went = refl

went : is_appended_by h 0 kind.Undo (event.Went 0 kind.Undo ∷ []) ≡ true
went = refl

-- the end of a split is said with its reply, and not alone
split_said : is_appended_by h 0 kind.Say (event.Split 0 [] (Rattle.oak_doc.specs.declared.asks.SplitEnd.TheVariants.Split 3) ∷ event.Said 0 0 [] ∷ []) ≡ true
split_said = refl

split_alone : is_one_step h 0 (event.Split 0 [] (Rattle.oak_doc.specs.declared.asks.SplitEnd.TheVariants.Split 3) ∷ []) ≡ false
split_alone = refl

-- cluster node 1 is stopped with both in flight: a session of another ends both, in the order in which they were drawn, and has it recovered
abbrev stopped : History
stopped = record { clusters = 2; sessions = 1 ∷ 1 ∷ 2 ∷ []; begin = None; past = event.Stop 1 ∷ h.past }

stops : is_appended_by (record { clusters = 2; sessions = 1 ∷ 1 ∷ 2 ∷ []; begin = None; past = h.past }) 2 kind.Stop (event.Stop 1 ∷ []) ≡ true
stops = refl

stops_itself : is_one_step (record { clusters = 2; sessions = 1 ∷ 1 ∷ 2 ∷ []; begin = None; past = h.past }) 0 (event.Stop 1 ∷ []) ≡ false
stops_itself = refl

recovers : is_appended_by stopped 2 kind.Recover (event.End (at 1) ∷ event.End (at 2) ∷ event.Recover 1 ∷ []) ≡ true
recovers = refl

leaves_one : is_one_step stopped 2 (event.End (at 1) ∷ event.Recover 1 ∷ []) ≡ false
leaves_one = refl

turns_them : is_one_step stopped 2 (event.End (at 2) ∷ event.End (at 1) ∷ event.Recover 1 ∷ []) ≡ false
turns_them = refl
