-- Each committed edit of a run writes something, where nothing may start that writes nothing.
use Rattle.std.proofs.Common.{◌≡◌, ℕ, Bool, true, false, cond, Some, None, List, [], ◌∷◌, is_some, refl, sym, ap, ◌∙◌}
use Rattle.std.specs.Prelude.{◌≢◌}
use Rattle.std.specs.Option.{option_map_or}
use Rattle.std.specs.Ordering.{eq_by_cmp}
use mathlib.Core.Bool.{false≢true}
use Rattle.jr_rev.specs.declared.revision.Revision.{Revision}
use Rattle.jr_rev.specs.declared.vector.RevVec.{RevVec}
use Rattle.jr_rev.specs.Revisions.{is_same, revision_cmp}
use Rattle.jr_tree.specs.declared.edit.Write.{Write}
use Rattle.oak_machine.specs.declared.event.Draw.{Draw}
use Rattle.oak_machine.specs.declared.event.Event.TheVariants as event
use Rattle.oak_machine.specs.History.{Begin, Past}
use Rattle.oak_machine.specs.Commits.{draw_of}
use Rattle.oak_machine.specs.Laws.{Says, Starts, StartsProper, StartsWrite}
use Rattle.oak_machine.specs.Runs.{AreNodes, IsRunOf}
use Rattle.core_begun.specs.Told.{edit_since}
use Rattle.core_begun.proofs.Runs.{told_run}
use Rattle.core_changes.specs.Instants.{AreWriting}

module _ (starts : Starts) (says : Says) (clusters : ℕ) (sessions : List ℕ) (begin : Begin) (writes : StartsWrite starts) where
  -- each draw of a run writes something
  pub draw_writes : (past : Past) → IsRunOf starts says clusters sessions begin past → (r : Revision) (d : Draw) → draw_of past r ≡ Some d → d.edit.writes ≢ []
  draw_writes [] run r d h = absurd (false≢true (ap is_some h))
  draw_writes (event.Draw f ∷ past) run r d h = by (λ k. draw_writes past run.1 r d k) (is_same r f.revision) h
    where
      by : (draw_of past r ≡ Some d → d.edit.writes ≢ []) → (b : Bool) → cond b (Some f) (draw_of past r) ≡ Some d → d.edit.writes ≢ []
      by rest true k = λ none. writes _ f.session f.edit f.marks run.0.lawful (ap (λ o. option_map_or (λ (x : Draw). x.edit.writes) o []) k ∙ none)
      by rest false k = rest k
  draw_writes (e ∷ past) run r d h = draw_writes past run.1 r d h

  -- and so does each edit that is committed
  pub edit_writes : AreNodes clusters sessions → StartsProper starts → (past : Past) → IsRunOf starts says clusters sessions begin past → (r : Revision) (ws : List Write) → edit_since past r ≡ Some ws → ws ≢ []
  edit_writes nodes proper past run r ws h = λ none.
      let d = (told_run starts says proper clusters sessions nodes begin past run).edits r ws h in
      draw_writes past run r d.0 d.1 (d.2 ∙ none)

  -- so there is something to tell of each commit between two vectors
  pub are_writing : AreNodes clusters sessions → StartsProper starts → (past : Past) → IsRunOf starts says clusters sessions begin past → (from to : RevVec) → AreWriting past from to
  are_writing nodes proper past run from to r ws h new = edit_writes nodes proper past run r ws h
