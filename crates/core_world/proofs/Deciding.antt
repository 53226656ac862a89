-- What a document and its commit root say of a revision there is what the journal says.
use Rattle.std.proofs.Common.{◌≡◌, ℕ, Bool, true, false, not, ◌&&◌, ◌||◌, Some, None, Option, is_some, refl, sym, ap, subst, ◌∙◌}
use Rattle.std.specs.Prelude.{slice_get}
use Rattle.std.specs.Option.{option_map, option_map_or, unwrap_or}
use Rattle.jr_path.specs.declared.path.DocId.{DocId}
use Rattle.jr_path.specs.declared.path.DocId.TheVariants as id
use Rattle.jr_path.specs.declared.path.Path.{Path}
use Rattle.jr_rev.specs.declared.revision.Revision.{Revision}
use Rattle.jr_rev.specs.declared.vector.Pin.{Pin}
use Rattle.jr_rev.specs.Vectors.{sees, start_of}
use Rattle.oak_clash.specs.declared.mark.Mark.{Mark}
use Rattle.oak_commit.specs.Clashing.{has_mark, marked, noted}
use Rattle.oak_doc.specs.declared.document.Document.{Document}
use Rattle.oak_doc.specs.Updates.{of_revision}
use Rattle.oak_machine.specs.declared.event.Draw.{Draw}
use Rattle.oak_machine.specs.Commits.{draw_of, is_committed, is_drawn, is_ended}
use Rattle.oak_machine.specs.Laws.{Says, Starts, StartsProper}
use Rattle.oak_node.specs.Pins.{pin_of}
use Rattle.oak_read.specs.Meaning.{commit_root_of, documents_in}
use Rattle.oak_read.specs.Meaning as meaning
use Rattle.core_heads.proofs.Runs.{held_in_use}
use Rattle.core_keep.specs.Journal.{is_swept}
use Rattle.core_clash.specs.Core.{Core, root_of}
use Rattle.core_clash.proofs.Basics.{or_left, some_of, or_right}
use Rattle.core_clash.proofs.Shrinking.{status_is}
use Rattle.core_clash.proofs.Steps.{undone_here}
use Rattle.core_world.specs.Kept.{IsKept}
use Rattle.core_world.specs.States.{State, core_in, memory_of, nodes_in, origin}
use Rattle.core_world.proofs.Draws.{its_pair}
use Rattle.core_world.proofs.Lives.{told}
use Rattle.core_world.proofs.Readers.{pair_held}
use Rattle.core_world.proofs.Truths.{pin_held}
use Rattle.core_world.proofs.Whole.{pin_above}
use Rattle.core_begun.specs.Kept.{IsHeldSince as IsHeldPair}
use Rattle.core_begun.proofs.Told.{no_edit}
use Rattle.core_begun.specs.Told.{edit_since}

module _ (starts : Starts) (says : Says) (proper : StartsProper starts) (w : State) (kept : IsKept starts says w) (s : ℕ) (there : is_some (slice_get w.sessions s) ≡ true) (pin : Pin) (has : pin_of (memory_of w s) s ≡ Some pin) where
  pair : IsHeldPair (origin w) w.past pin.base pin.sweep
  pair = pair_held (origin w) w.past pin (held_in_use w.begin w.past pin.base (pin_held starts says proper w kept.sessions s there pin has)) (its_pair starts says proper w kept.sessions s there pin has) (pin_above starts says proper w kept s there pin has)

  module _ (p : Path) (d : Document) (is : nodes_in w.table p ≡ Some d) (r : Revision) (drawn : is_drawn w.past r ≡ true) (later : sees (origin w).at r ≡ false) (m : Mark) (mark : has_mark d r m ≡ true) where
    abbrev core : Core
    core = core_in (origin w) w.past w.table kept.sessions.committing.writers

    marked_there : marked (nodes_in w.table p) r m ≡ true
    marked_there = subst (λ (o : Option Document). marked o r m ≡ true) (sym is) mark

    -- what the sweep vector sees, and has a mark, is committed
    seen : sees pin.sweep r ≡ true → is_committed w.past r ≡ true
    seen e = by (is_committed w.past r) refl
      where
        dr : (f : Draw) × (draw_of w.past r ≡ Some f)
        dr = some_of (draw_of w.past r) drawn

        none : is_committed w.past r ≡ false → edit_since w.past r ≡ None
        none u = no_edit w.past r u

        over : (b : Bool) → is_ended w.past r ≡ b → is_committed w.past r ≡ false → true ≡ false
        over true h u = sym marked_there ∙ undone_here core r p m kept.sessions.committing.sound later h u
        over false h u = sym (ap (λ b. b && not (is_ended w.past r)) drawn ∙ ap not h) ∙ pair.quiet r e (none u)

        by : (b : Bool) → is_committed w.past r ≡ b → b ≡ true
        by true u = refl
        by false u = sym (over (is_ended w.past r) refl u)

    -- of what it doesn't see the commit root tells
    module _ (unseen : sees pin.sweep r ≡ false) where
      unswept : is_swept w.past r ≡ false
      unswept = by (is_swept w.past r) refl
        where
          by : (b : Bool) → is_swept w.past r ≡ b → b ≡ false
          by false h = refl
          by true h = sym (pair.swept r (or_right (sees (origin w).at r) _ h)) ∙ unseen

      root_is : commit_root_of d r ≡ id.Node (root_of w.past r)
      root_is =
          ap (λ (o : Option DocId). unwrap_or o (id.Node (root_of w.past r)))
          (ap (λ (o : Option Document). option_map (λ e. commit_root_of e r) o) (sym is)
          ∙ kept.sessions.committing.sound.rooted r p m unswept later (or_left _ _ marked_there))

      told_there : (o : Option Document) → option_map_or (λ root. is_some (of_revision root.revisions r)) o false ≡ noted o r
      told_there None = refl
      told_there (Some e) = refl

      tells : option_map_or (λ root. is_some (of_revision root.revisions r)) (documents_in w.table.documents (commit_root_of d r)) false ≡ is_committed w.past r
      tells =
          ap (λ x. option_map_or (λ root. is_some (of_revision root.revisions r)) (documents_in w.table.documents x) false) root_is
          ∙ (told_there (nodes_in w.table (root_of w.past r))
          ∙ status_is core kept.sessions.committing.sound r unswept later)

    pub decided : meaning.is_committed (documents_in w.table.documents) pin.sweep d r ≡ is_committed w.past r
    decided = by (sees pin.sweep r) refl
      where
        at_root : Bool
        at_root = option_map_or (λ root. is_some (of_revision root.revisions r)) (documents_in w.table.documents (commit_root_of d r)) false

        by : (b : Bool) → sees pin.sweep r ≡ b → (b || at_root) ≡ is_committed w.past r
        by true e = sym (seen e)
        by false e = tells e
