-- What the past tells of a draw.
use Rattle.std.proofs.Common.{◌≡◌, Bool, true, false, cond, ◌||◌, Some, None, Option, List, [], ◌∷◌, refl, sym, ap, ◌∙◌, is_some}
use Rattle.std.specs.Option.{option_map_or}
use Rattle.std.specs.BTreeMap.{insert_entry}
use mathlib.Core.Bool.{false≢true}
use Rattle.jr_path.proofs.Maps.{lookup-insert_entry}
use Rattle.jr_rev.specs.declared.revision.Revision.{Revision}
use Rattle.jr_rev.specs.Revisions.{revision_cmp, is_same}
use Rattle.jr_rev.specs.Vectors.{sees}
use Rattle.jr_rev.proofs.Order.{revision_total}
use Rattle.jr_tree.specs.declared.edit.Write.{Write}
use Rattle.oak_doc.specs.Updates.{of_revision}
use Rattle.oak_machine.specs.declared.event.Draw.{Draw}
use Rattle.oak_machine.specs.declared.event.Event.{Event}
use Rattle.oak_machine.specs.declared.event.Event.TheVariants as event
use Rattle.oak_machine.specs.History.{Past}
use Rattle.oak_machine.specs.Commits.{draw_of, committed_edits, is_committed, is_in_base, marks_of}

-- an edit that is found is of a committed revision
pub edit_committed : (past : Past) (r : Revision) → is_some (of_revision (committed_edits past) r) ≡ true → is_committed past r ≡ true
edit_committed [] r h = absurd (false≢true h)
edit_committed (event.Commit q ∷ past) r h = by (draw_of past q) h (λ k. edit_committed past r k)
  where
    or_right : (a b : Bool) → b ≡ true → (a || b) ≡ true
    or_right true b h = refl
    or_right false b h = h

    one : (b c : Bool) (d : Draw) (o : Option (List Write)) → (is_some o ≡ true → c ≡ true) → is_some (cond b (Some d.edit.writes) o) ≡ true → (b || c) ≡ true
    one true c d o f h = refl
    one false c d o f h = f h

    by : (o : Option Draw) → is_some (of_revision (option_map_or (λ d. insert_entry revision_cmp (committed_edits past) q d.edit.writes) o (committed_edits past)) r) ≡ true
        → (is_some (of_revision (committed_edits past) r) ≡ true → is_committed past r ≡ true) → (is_same r q || is_committed past r) ≡ true
    by None h rest = or_right (is_same r q) _ (rest h)
    by (Some d) h rest = one (is_same r q) _ d (of_revision (committed_edits past) r) rest (sym (ap is_some (lookup-insert_entry revision_cmp revision_total r q d.edit.writes (committed_edits past))) ∙ h)
edit_committed (e ∷ past) r h = edit_committed past r h

-- the tests of a draw, at that draw
pub base_is : (past : Past) (r : Revision) (d : Draw) → draw_of past r ≡ Some d → (o : Revision) → is_in_base past r o ≡ sees d.base o
base_is past r d drawn o = ap (λ (x : Option Draw). option_map_or (λ d. sees d.base o) x false) drawn

pub marks_is : (past : Past) (r : Revision) (d : Draw) → draw_of past r ≡ Some d → marks_of past r ≡ d.marks
marks_is past r d drawn = ap (λ (x : Option Draw). option_map_or (λ d. d.marks) x []) drawn

-- ---- an End, and every event that is no Draw, Commit or End

-- an event adds an End at most
abbrev pub is_calm : Event → Bool
is_calm (event.Draw d) = false
is_calm (event.Commit r) = false
is_calm _ = true
