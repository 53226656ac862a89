-- What is true of each world that is kept.
use Rattle.core_nodes.proofs.Pins.{pinned_alive}
use Rattle.oak_clash.specs.declared.mark.Mark.{Mark}
use Rattle.core_clash.specs.Sound.{marked_in}
use Rattle.oak_commit.specs.Looking.{whole}
use Rattle.core_clash.proofs.Whole.{whole_from}
use Rattle.core_world.specs.States.{moved_in, origin}
use Rattle.core_world.specs.Kept.{IsAboveBounds}
use Rattle.core_world.proofs.Readers.{pair_held}
use Rattle.std.proofs.Common.{◌≡◌, ◌⊎◌, inl, inr, ℕ, ◌+◌, ◌≤◌, Bool, true, false, not, ◌&&◌, cond, Some, None, Option, List, [], ◌∷◌, length, is_some, refl, sym, ap, subst, ◌∙◌, arith}
use Rattle.std.specs.Prelude.{slice_get}
use Rattle.std.specs.Option.{option_map_or, unwrap_or}
use mathlib.Core.Bool.{false≢true}
use Rattle.jr_path.specs.declared.path.Path.{Path}
use Rattle.jr_path.specs.declared.path.Item.{Item}
use Rattle.jr_rev.specs.declared.revision.Revision.{Revision}
use Rattle.jr_rev.specs.declared.vector.Pin.{Pin}
use Rattle.jr_rev.specs.Revisions.{is_before, is_same}
use Rattle.jr_rev.specs.Vectors.{sees, start_of}
use Rattle.jr_tree.specs.Trees.{node_at}
use Rattle.oak_clash.specs.Clashes.{commit_root}
use Rattle.oak_commit.specs.Clashing.{Met, Writer, found, marked}
use Rattle.oak_doc.specs.declared.document.Document.{Document}
use Rattle.oak_machine.specs.declared.event.Draw.{Draw}
use Rattle.oak_machine.specs.declared.event.Event.{Event}
use Rattle.oak_machine.specs.declared.event.Event.TheVariants as event
use Rattle.oak_machine.specs.History.{Past, Begin}
use Rattle.oak_machine.specs.Commits.{IsClosed, IsSettled, are_clashing, draw_of, is_committed, is_drawn, is_ended, is_in_base, is_in_flight, is_refused, refusal_of, tree_at}
use Rattle.oak_machine.specs.Laws.{Says, Starts, StartsProper}
use Rattle.oak_machine.specs.Runs.{AreNodes, IsNode, IsRunOf}
use Rattle.oak_machine.specs.Sessions.{base_of, has_left, has_login, is_attached, is_stopped, is_stopped_under}
use Rattle.oak_node.specs.Heads.{IsInFlight, known_time}
use Rattle.oak_node.specs.Pins.{pin_of}
use Rattle.oak_read.specs.Meaning.{documents_in, found_node}
use Rattle.core_read.specs.Holds.{root_entry, the_start}
use Rattle.core_read.proofs.Told.{base_is as base_sees}
use Rattle.core_read.proofs.Vectors.{time_before}
use Rattle.core_heads.specs.Sound.{IsHeld}
use Rattle.core_heads.proofs.Runs.{closed_run, fresh_run, held_in_use, held_settled, sound_run}
use Rattle.core_clash.specs.Core.{root_of}
use Rattle.core_clash.specs.Sessions.{IsTheirs, Running}
use Rattle.core_clash.specs.Sound.{Cause, IsRooted}
use Rattle.core_clash.specs.Views.{In}
use Rattle.core_keep.specs.Journal.{is_swept}
use Rattle.core_clash.proofs.Basics.{not_both, or_left, same_revision, some_of, test}
use Rattle.core_clash.proofs.Complete.{complete, meets_clashing}
use Rattle.core_clash.proofs.Meetings.{meeting}
use Rattle.core_clash.proofs.Pasts.{in_flight, refused_for}
use Rattle.core_clash.proofs.Steps.{no_unseen_clash, told_root, undone_here}
use Rattle.core_nodes.specs.Nodes.{IsPair, base_of_pin, begin_time}
use Rattle.core_nodes.proofs.Times.{known_events}
use Rattle.core_nodes.proofs.Waits.{flying_is}
use Rattle.core_world.specs.Kept.{IsFreeOf, AreSessionsKept}
use Rattle.core_world.specs.States.{State, base_in, core_in, memory_at, memory_of, node_of, nodes_in}
use Rattle.core_world.proofs.Commits.{on_its_node}
use Rattle.core_world.proofs.Draws.{base_is, its_base, its_pair, some_pin}
use Rattle.core_world.proofs.Lives.{its_node, node_alive, session_there}
use Rattle.core_world.proofs.Readers.{HasBase, based_is, pinned_held}
use Rattle.core_begun.proofs.Told.{no_edit}
use Rattle.core_begun.specs.Told.{edit_since}
use Rattle.core_begun.proofs.Course.{reading_since}
use Rattle.core_begun.proofs.Sound.{found as edit_is}
use Rattle.core_begun.proofs.Runs.{tree_in}

-- the commit root of a drawn revision stays, whatever follows
pub root_stays : (starts : Starts) (says : Says) (clusters : ℕ) (sessions : List ℕ) (begin : Begin) → AreNodes clusters sessions → (e : Event) (past : Past) (r : Revision) → IsRunOf starts says clusters sessions begin (e ∷ past) → is_drawn past r ≡ true → root_of (e ∷ past) r ≡ root_of past r
root_stays starts says clusters sessions begin nodes (event.Draw d) past r run drawn = by (is_same r d.revision) refl
  where
    fresh : draw_of past d.revision ≡ None
    fresh = (fresh_run clusters sessions nodes begin starts says d past run).fresh

    by : (b : Bool) → is_same r d.revision ≡ b → commit_root (option_map_or (λ (e : Draw). e.marks) (cond b (Some d) (draw_of past r)) []) ≡ root_of past r
    by false h = refl
    by true h = absurd (false≢true (sym (ap (λ (o : Option Draw). is_some o) (ap (draw_of past) (same_revision r d.revision h) ∙ fresh)) ∙ drawn))
root_stays starts says clusters sessions begin nodes e past r run drawn = refl

module _ (starts : Starts) (says : Says) (proper : StartsProper starts) (w : State) (kept : AreSessionsKept starts says w) where
  -- ---- pins

  module _ (s : ℕ) (there : is_some (slice_get w.sessions s) ≡ true) (pin : Pin) (has_pin : pin_of (memory_of w s) s ≡ Some pin) where
    based : HasBase w.past s pin.base
    based = based_is w.past s pin.base (sym (its_base starts says proper w kept s there (pinned_alive w.sessions w.past (node_of w s) (memory_of w s) (kept.memories.pins (node_of w s) (its_node starts says proper w kept s there)) s pin has_pin)) ∙ ap base_of_pin has_pin)

    pub pin_held : IsHeld w.begin w.past pin.base
    pin_held = pinned_held starts says w.clusters w.sessions w.begin kept.nodes w.past kept.run s pin.base based.base

    pub pin_settled : IsSettled w.past pin.base
    pin_settled = held_settled w.begin w.past pin.base pin_held

    pub pin_closed : IsClosed w.past pin.base
    pin_closed = closed_run w.clusters w.sessions kept.nodes w.begin starts says w.past kept.run pin.base pin_held

    pub pin_shows : IsAboveBounds (origin w) w.past pin → (p : Path) → found_node (documents_in w.table.documents) pin.sweep pin.base p ≡ node_at (tree_at w.begin w.past pin.base) p
    pin_shows above p =
        reading_since (origin w) (documents_in w.table.documents) w.past _ pin.base pin.sweep kept.committing.kept
        (pair_held (origin w) w.past pin (held_in_use w.begin w.past pin.base pin_held) (its_pair starts says proper w kept s there pin has_pin) above) p
        ∙ ap (λ t. node_at t p) (tree_in w.clusters w.begin w.past pin.base)

  -- a session that is there has a pin, at its base
  pub pin_there : (s : ℕ) → is_stopped_under w.sessions w.past s ≡ false → has_login w.past s ≡ true → has_left w.past s ≡ false → (pin : Pin) × (pin_of (memory_of w s) s ≡ Some pin) × (pin.base ≡ base_in w s) × (is_attached w.past s ≡ false → base_of w.past s ≡ Some (base_in w s)) × IsPair pin.base pin.sweep
  pin_there s on login stays =
      let alive = node_alive starts says proper w kept s (session_there starts says proper w kept s login) on in
      let p = some_pin starts says proper w kept s alive login stays in (
        p.0,
        p.1,
        sym (ap (λ (o : Option Pin). option_map_or (λ (pin : Pin). pin.base) o (memory_of w s).head) p.1),
        base_is starts says proper w kept s alive login stays,
        its_pair starts says proper w kept s (session_there starts says proper w kept s login) p.0 p.1,
      )

  -- ---- committers

  module _ (s : ℕ) (x : Running) (here : w.running s ≡ Some x) where
    mine : IsTheirs w.past kept.committing.writers s x
    mine = kept.committing.theirs s x here

    on : slice_get w.sessions s ≡ Some x.draw.revision.cluster
    on = on_its_node starts says proper w kept s x here

    -- its revision is in flight by the memory of its node
    pub flies_there : IsInFlight (memory_of w s) x.draw.revision
    flies_there =
        let k = x.draw.revision.cluster in
        let node : IsNode w.clusters k = kept.nodes.node s k on in
        let flying = in_flight w.past x.draw.revision x.draw mine.draw mine.unended in
        subst (λ (j : ℕ). IsInFlight (memory_at w.memories j) x.draw.revision) (sym (ap (λ o. unwrap_or o 0) on))
        ((flying_is w.begin w.clusters w.sessions kept.nodes w.past (sound_run w.clusters w.sessions kept.nodes w.begin starts says w.past kept.run) k node (memory_at w.memories k) (kept.memories.memory k node) x.draw.revision).1 (refl, flying))

    -- what it is to mark was drawn
    pub due_drawn : (f : Met) → In f x.writer.due → is_drawn w.past f.other ≡ true
    due_drawn f h = (kept.committing.sound.due x.draw.revision f (subst (λ (v : Writer). In f v.due) (sym mine.writer) h)).cause.other

    -- the base of its draw sees the start
    sees_start : (o : Revision) → sees (origin w).at o ≡ true → sees x.draw.base o ≡ true
    sees_start o old = sym (base_sees w.past x.draw.revision x.draw mine.draw o) ∙ kept.committing.sound.start x.draw.revision (ap (λ (o : Option Draw). is_some o) mine.draw) o old

    new_outside : (o : Revision) → sees x.draw.base o ≡ false → (b : Bool) → sees (origin w).at o ≡ b → b ≡ false
    new_outside o outside false h = refl
    new_outside o outside true h = absurd (false≢true (sym outside ∙ sees_start o h))

    -- whom the base doesn't see no bound has swept
    fresh : (o : Revision) → sees x.draw.base o ≡ false → (b : Bool) → is_swept w.past o ≡ b → b ≡ false
    fresh o outside false h = refl
    fresh o outside true h = absurd (false≢true (sym outside ∙ (sym (base_sees w.past x.draw.revision x.draw mine.draw o)
        ∙ kept.committing.sound.bounds.below x.draw.revision o (in_flight w.past x.draw.revision x.draw mine.draw mine.unended) (kept.committing.sound.bounds.swept o h))))

    -- a document that has a mark of whom it doesn't see tells the commit root
    outside_rooted : (p : Path) (o : Revision) (m : Mark) → sees x.draw.base o ≡ false → marked_in (nodes_in w.table p) (moved_in w.table p) o m ≡ true → IsRooted (nodes_in w.table p) o (root_of w.past o)
    outside_rooted p o m outside mark = told_root (core_in (origin w) w.past w.table kept.committing.writers) o p m kept.committing.sound (fresh o outside (is_swept w.past o) refl)
        (new_outside o outside (sees (origin w).at o) refl) mark

    -- the document in which it meets another, there or in a previous one, tells the other's commit root
    pub met_rooted : (p : Path) (f : Met) → In f (found x.draw.base x.draw.revision p x.draw.marks (whole p (nodes_in w.table p) (moved_in w.table p))) → IsRooted (nodes_in w.table p) f.other (root_of w.past f.other)
    met_rooted p f h =
        let met = (meeting x.draw.base x.draw.revision p x.draw.marks (whole p (nodes_in w.table p) (moved_in w.table p))).each f h in
        outside_rooted p f.other met.mark.0 met.outside (whole_from p f.other (nodes_in w.table p) (moved_in w.table p) met.mark.0 met.mark.1)

    pub met_here : (p : Path) (f : Met) → In f (found x.draw.base x.draw.revision p x.draw.marks (nodes_in w.table p)) → IsRooted (nodes_in w.table p) f.other (root_of w.past f.other)
    met_here p f h =
        let met = (meeting x.draw.base x.draw.revision p x.draw.marks (nodes_in w.table p)).each f h in
        outside_rooted p f.other met.mark.0 met.outside (or_left (marked (nodes_in w.table p) f.other met.mark.0) _ met.mark.1)

  -- ---- commits

  pub no_clash_unseen : (r o : Revision) → (r ≡ o → ⊥) → is_committed w.past r ≡ true → is_committed w.past o ≡ true → are_clashing w.past r o ≡ true → (is_in_base w.past r o ≡ true) ⊎ (is_in_base w.past o r ≡ true)
  no_clash_unseen r o apart cr co clash = no_unseen_clash (core_in (origin w) w.past w.table kept.committing.writers) r o kept.committing.sound apart cr co clash

  pub has_cause : (r : Revision) (item : Item) (o : Revision) → refusal_of w.past r ≡ Some (item, o) → Cause w.past r item o
  has_cause r item o h = kept.committing.sound.refusal r item o h

  pub comes_through : (r : Revision) → is_ended w.past r ≡ true → ((o : Revision) → (r ≡ o → ⊥) → is_drawn w.past o ≡ true → is_in_base w.past r o ≡ false → are_clashing w.past r o ≡ false) → (is_committed w.past r ≡ true) ⊎ (((kept.committing.writers r).wants ≡ true) × (is_refused w.past r ≡ false)) ⊎ (is_stopped w.past r.cluster ≡ true)
  comes_through r ended apart = by (test (kept.committing.writers r).wants)
    where
      no_cause : (item : Item) (o : Revision) → Cause w.past r item o → ⊥
      no_cause item o c = not_both (are_clashing w.past r o) (meets_clashing _ _ item c.met) (apart o c.another c.other c.outside)

      unrefused : (b : Bool) → is_refused w.past r ≡ b → b ≡ false
      unrefused false h = refl
      unrefused true h = let c = refused_for w.past r h in absurd (no_cause c.0.0 c.0.1 (has_cause r c.0.0 c.0.1 c.1))

      going : (kept.committing.writers r).wants ≡ false → (b : Bool) → is_stopped w.past r.cluster ≡ b → (is_committed w.past r ≡ true) ⊎ (((kept.committing.writers r).wants ≡ true) × (is_refused w.past r ≡ false)) ⊎ (is_stopped w.past r.cluster ≡ true)
      going h true e = inr (inr e)
      going h false e = inl (complete (core_in (origin w) w.past w.table kept.committing.writers) r kept.committing.sound ended e h apart)

      by : ((kept.committing.writers r).wants ≡ true) ⊎ ((kept.committing.writers r).wants ≡ false) → (is_committed w.past r ≡ true) ⊎ (((kept.committing.writers r).wants ≡ true) × (is_refused w.past r ≡ false)) ⊎ (is_stopped w.past r.cluster ≡ true)
      by (inl h) = inr (inl (h, unrefused (is_refused w.past r) refl))
      by (inr h) = going h (is_stopped w.past r.cluster) refl

  -- what ended without a commit has left nothing
  module _ (r : Revision) (ended : is_ended w.past r ≡ true) (uncommitted : is_committed w.past r ≡ false) where
    drawn : (d : Draw) × (draw_of w.past r ≡ Some d)
    drawn = some_of (draw_of w.past r) (kept.committing.sound.ended_drawn r ended)

    no_start : sees (origin w).at r ≡ false
    no_start = kept.committing.sound.new r (kept.committing.sound.ended_drawn r ended)

    none : edit_since w.past r ≡ None
    none = no_edit w.past r uncommitted

    grounded : is_in_flight w.past r ≡ false
    grounded = ap (λ b. is_drawn w.past r && not b) ended ∙ and_no (is_drawn w.past r)
      where
        and_no : (b : Bool) → (b && false) ≡ false
        and_no true = refl
        and_no false = refl

    pub leaves_nothing : (p : Path) (d : Document) → nodes_in w.table p ≡ Some d → IsFreeOf r d
    leaves_nothing p d is = record {
      marks = λ m. subst (λ (o : Option Document). marked o r m ≡ false) is (undone_here (core_in (origin w) w.past w.table kept.committing.writers) r p m kept.committing.sound no_start ended uncommitted);
      root = ap (λ (o : Option ℕ). is_some o) (subst (λ (o : Option Document). root_entry o r ≡ None) is ((kept.committing.kept.keeps p).no_root r (edit_is w.past r ∙ none) no_start grounded));
      said = subst (λ (o : Option Document). Rattle.core_read.specs.Holds.has_revision o r ≡ false) is ((kept.committing.kept.keeps p).unsaid r (edit_is w.past r ∙ none) no_start);
    }

  -- ---- times

  pub time_known : (k : ℕ) → IsNode w.clusters k → known_time (memory_at w.memories k) ≤ begin_time w.begin + length w.past
  time_known k node = known_events w.begin w.clusters w.sessions kept.nodes starts says w.past kept.run k (memory_at w.memories k) node (kept.memories.memory k node)
