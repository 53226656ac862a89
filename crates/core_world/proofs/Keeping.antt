-- While no bound was taken, a kept world is one in which reading stays right through splits and collections.
use Rattle.std.proofs.Common.{◌≡◌, ℕ, Bool, true, false, cond, ◌||◌, Some, None, List, [], ◌∷◌, is_some, refl, sym, ap, subst, ◌∙◌}
use Rattle.std.specs.Option.{option_map_or}
use mathlib.Core.Bool.{false≢true}
use Rattle.jr_rev.specs.declared.revision.Revision.{Revision}
use Rattle.jr_rev.specs.Revisions.{is_before, is_same}
use Rattle.jr_rev.specs.Vectors.{sees}
use Rattle.jr_tree.specs.declared.edit.Write.{Write}
use Rattle.oak_machine.specs.declared.event.Draw.{Draw}
use Rattle.oak_machine.specs.declared.event.Event.TheVariants as event
use Rattle.oak_machine.specs.History.{Past, Begin}
use Rattle.oak_machine.specs.Commits.{draw_of, is_committed, is_drawn, is_in_base}
use Rattle.oak_machine.specs.Laws.{Says, Starts, StartsProper}
use Rattle.oak_machine.specs.Runs.{AreNodes, IsRunOf}
use Rattle.oak_read.specs.Meaning.{documents_in}
use Rattle.core_read.specs.Holds.{the_start}
use Rattle.core_read.proofs.Latest.{same_revision}
use Rattle.core_heads.proofs.Locals.{some_of}
use Rattle.core_heads.proofs.Orders.{and_both}
use Rattle.core_heads.proofs.Runs.{fresh_run}
use Rattle.core_keep.specs.Journal.{Separate}
use Rattle.core_world.specs.Kept.{AreSessionsKept, has_written}
use Rattle.core_world.specs.States.{State, origin}
use Rattle.core_begun.proofs.Course.{separate_commit}
use Rattle.core_begun.specs.Kept.{AreSeparateSince, IsKeptSince}
use Rattle.core_begun.proofs.Runs.{told_run}
use Rattle.core_begun.proofs.Told.{no_edit}
use Rattle.core_begun.specs.Told.{edit_since, start_in}

-- what is committed was drawn
committed_drawn : (starts : Starts) (says : Says) (clusters : ℕ) (sessions : List ℕ) (begin : Begin) (past : Past) → IsRunOf starts says clusters sessions begin past → (r : Revision) → is_committed past r ≡ true → is_drawn past r ≡ true
committed_drawn starts says clusters sessions begin [] run r h = absurd (false≢true h)
committed_drawn starts says clusters sessions begin (event.Commit q ∷ past) run r h = by (committed_drawn starts says clusters sessions begin past run.1 r) (is_same r q) refl h
  where
    by : (is_committed past r ≡ true → is_drawn past r ≡ true) → (b : Bool) → is_same r q ≡ b → (b || is_committed past r) ≡ true → is_drawn past r ≡ true
    by rest true e h = subst (λ (x : Revision). is_drawn past x ≡ true) (sym (same_revision r q e)) (and_both (is_drawn past q) _ run.0.open_.in_flight).0
    by rest false e h = rest h
committed_drawn starts says clusters sessions begin (event.Draw d ∷ past) run r h = by (committed_drawn starts says clusters sessions begin past run.1 r h) (is_same r d.revision)
  where
    by : is_drawn past r ≡ true → (b : Bool) → is_some (cond b (Some d) (draw_of past r)) ≡ true
    by rest true = refl
    by rest false = rest
committed_drawn starts says clusters sessions begin (e ∷ past) run r h = committed_drawn starts says clusters sessions begin past run.1 r h

-- of two commits of a run that write one item, the later one's base sees the earlier one
module _ (starts : Starts) (says : Says) (proper : StartsProper starts) (clusters : ℕ) (sessions : List ℕ) (begin : Begin) (nodes : AreNodes clusters sessions) where
  module _ (d : Draw) (past : Past) (run : IsRunOf starts says clusters sessions begin (event.Draw d ∷ past)) where
    fresh : draw_of past d.revision ≡ None
    fresh = (fresh_run clusters sessions nodes begin starts says d past run).fresh

    drawn_now : draw_of (event.Draw d ∷ past) d.revision ≡ Some d
    drawn_now = ap (λ b. cond b (Some d) (draw_of past d.revision)) (Rattle.core_clash.proofs.Basics.is_same_self d.revision)

    uncommitted : (b : Bool) → is_committed past d.revision ≡ b → b ≡ false
    uncommitted false h = refl
    uncommitted true h = absurd (false≢true (sym (ap is_some fresh) ∙ committed_drawn starts says clusters sessions begin past run.1 d.revision h))

    none : edit_since past d.revision ≡ None
    none = no_edit past d.revision (uncommitted (is_committed past d.revision) refl)

    other : (q : Revision) (us : List Write) → edit_since past q ≡ Some us → (b : Bool) → is_same q d.revision ≡ b → b ≡ false
    other q us e false h = refl
    other q us e true h = absurd (false≢true (sym (ap is_some none) ∙ (ap (λ (x : Revision). is_some (edit_since past x)) (sym (same_revision q d.revision h)) ∙ ap is_some e)))

    base_kept : (q : Revision) → is_same q d.revision ≡ false → is_in_base (event.Draw d ∷ past) q ≡ is_in_base past q
    base_kept q h = ap {B = Revision → Bool} (λ (b : Bool) (o : Revision). option_map_or (λ (e : Draw). sees e.base o) (cond b (Some d) (draw_of past q)) false) h

    separate_draw : AreSeparateSince past → AreSeparateSince (event.Draw d ∷ past)
    separate_draw separate q us e = subst (λ (s : Revision → Bool). (o : Revision) (vs : List Write) → edit_since past o ≡ Some vs → is_before o q ≡ true → s o ≡ false → Separate us vs) (sym (base_kept q (other q us e (is_same q d.revision) refl))) (separate q us e)

  pub separate_run : (past : Past) → IsRunOf starts says clusters sessions begin past → AreSeparateSince past
  separate_run [] run = λ r ws e. absurd (false≢true (ap is_some e))
  separate_run (event.Draw d ∷ past) run = separate_draw d past run (separate_run past run.1)
  separate_run (event.Commit r ∷ past) run =
      let d = some_of (draw_of past r) (and_both (is_drawn past r) _ run.0.open_.in_flight).0 in
      separate_commit (start_in clusters begin) past r d.0 (told_run starts says proper clusters sessions nodes begin past run.1) run.0 d.1 (separate_run past run.1)
  separate_run (e ∷ past) run = separate_run past run.1

module _ (starts : Starts) (says : Says) (proper : StartsProper starts) (w : State) (kept : AreSessionsKept starts says w) where
  pub world_kept : IsKeptSince (origin w) (documents_in w.table.documents) w.past (λ r. has_written (kept.committing.writers r))
  world_kept = kept.committing.kept
