-- Two sessions on two cluster nodes write one property: steps computed from the start.
use Rattle.std.proofs.Common.{◌∙◌, ap, ◌≡◌, ℕ, Bool, true, false, Some, None, List, [], ◌∷◌, refl, pos}
use Rattle.std.specs.Option.{option_map_or}
use Rattle.std.specs.Prelude.{codes}
use Rattle.jr_path.specs.declared.name.Name.{Name}
use Rattle.jr_path.specs.declared.path.Path.{Path}
use Rattle.jr_rev.specs.declared.revision.Revision.{Revision}
use Rattle.jr_rev.specs.Vectors.{start, with_entry}
use Rattle.jr_tree.specs.declared.edit.Edit.{Edit}
use Rattle.jr_tree.specs.declared.edit.Write.TheVariants.{Put}
use Rattle.jr_value.specs.declared.value.Property.TheVariants.{Single}
use Rattle.jr_value.specs.declared.value.Value.TheVariants.{Long}
use Rattle.oak_clash.specs.declared.mark.Mark.TheVariants.{Prop}
use Rattle.oak_clash.specs.declared.mark.MarkAt.{MarkAt}
use Rattle.oak_clash.specs.Clashes.{marked_paths}
use Rattle.oak_commit.specs.Clashing.{Met}
use Rattle.oak_machine.specs.declared.event.Event.TheVariants as event
use Rattle.oak_machine.specs.declared.event.StepKind.TheVariants as kind
use Rattle.core_clash.specs.Sessions.{Running}
use Rattle.core_world.specs.Start.{start_state}
use Rattle.core_world.specs.States.{State}
use Rattle.core_world.specs.Steps.{after_draw, after_finish, after_last, after_login, after_mark, after_undoing, after_write}

abbrev pub p : Name
p = codes "p"

abbrev pub edit : ℕ → Edit
edit n = record { writes = Put [] p (Single (Long (pos n))) ∷ [] }

abbrev pub marks : List MarkAt
marks = record { path = []; mark = Prop p } ∷ []

abbrev pub at : ℕ → ℕ → Revision
at t k = record { time = t; counter = 0; cluster = k }

-- what a session's committer does next
abbrev pub goes_by : State → ℕ → Running → Bool → List Path → List Met → List Path → Bool → State
goes_by w s x true [] due left committed = after_finish w s x
goes_by w s x true (q ∷ rest) due left committed = after_undoing w s x q rest
goes_by w s x false written (f ∷ rest) left committed = after_mark w s x f rest
goes_by w s x false written [] (q ∷ rest) committed = after_write w s x q rest
goes_by w s x false written [] [] true = after_finish w s x
goes_by w s x false written [] [] false = after_last w s x

-- the next step of a session's committer
abbrev pub next : State → ℕ → State
next w s = option_map_or (λ x. goes_by w s x x.writer.undoing x.writer.written x.writer.due x.writer.left x.committed) (w.running s) w

-- one that has undone all ends
pub next_ends : (w : State) (s : ℕ) (x : Running) → w.running s ≡ Some x → x.writer.undoing ≡ true → x.writer.written ≡ [] → next w s ≡ after_finish w s x
next_ends w s x here undoing none =
    ap (λ o. option_map_or (λ x. goes_by w s x x.writer.undoing x.writer.written x.writer.due x.writer.left x.committed) o w) here
    ∙ (ap (λ b. goes_by w s x b x.writer.written x.writer.due x.writer.left x.committed) undoing ∙ ap (λ ps. goes_by w s x true ps x.writer.due x.writer.left x.committed) none)

-- both log in, on two cluster nodes, and draw; the second writes first
abbrev pub begins : State
begins = after_login (after_login (start_state 2 (1 ∷ 2 ∷ [])) 0) 1

abbrev pub drawn : State
drawn = after_draw (after_draw begins 0 (edit 1) marks (marked_paths marks)) 1 (edit 2) marks (marked_paths marks)

abbrev pub wrote : State
wrote = next (next drawn 1) 0

-- the first has met the second, marks it, and commits
abbrev pub first_done : State
first_done = next (next (next wrote 0) 0) 0

first_commits : first_done.past
    ≡ event.Head 1 (with_entry (start 2) (at 1 1)) ∷ event.End (at 1 1) ∷ event.Commit (at 1 1) ∷ event.Went 0 kind.Mark ∷ event.Went 0 kind.Write ∷ event.Went 1 kind.Write ∷ drawn.past
first_commits = refl

-- the second finds the mark at its last write, undoes and ends
abbrev pub second_done : State
second_done = next (next (next first_done 1) 1) 1

second_refused : second_done.past
    ≡ event.Head 2 (with_entry (start 2) (at 1 2)) ∷ event.End (at 1 2) ∷ event.Went 1 kind.Undo ∷ event.Refuse (at 1 2) (record { path = []; name = Some p }) (at 1 1) ∷ first_done.past
second_refused = refl

-- nobody is at work then
none_left : (second_done.running 0 ≡ None) × (second_done.running 1 ≡ None)
none_left = (refl, refl)
