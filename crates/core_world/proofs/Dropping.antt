-- The settings drop what they keep for the sessions of stopped cluster nodes.
use Rattle.std.proofs.Common.{◌≡◌, inl, inr, ℕ, Bool, true, false, cond, Option, Some, None, List, [], ◌∷◌, fold, map, is_some, refl, sym, ap, subst, ◌∙◌}
use Rattle.std.specs.Prelude.{◌==◌}
use Rattle.std.specs.BTreeMap.{is_at}
use Rattle.std.specs.FinMap.{is_sorted}
use Rattle.std.specs.Map.{lookup, remove_entry, values_of}
use Rattle.std.specs.Option.{option_and_then, option_map_or}
use Rattle.std.specs.Ordering.{nat_cmp}
use mathlib.Core.Bool.{false≢true}
use Rattle.jr_path.specs.declared.path.DocId.TheVariants as id
use Rattle.jr_path.specs.Names.{name_cmp}
use Rattle.jr_path.specs.Lists.{Text}
use Rattle.jr_rev.specs.declared.vector.Pin.{Pin}
use Rattle.oak_doc.specs.declared.document.Document.{Document}
use Rattle.oak_doc.specs.declared.update.Change.{Change}
use Rattle.oak_doc.specs.declared.update.Change.TheVariants as change
use Rattle.oak_doc.specs.Updates.{after_changes, changed}
use Rattle.oak_machine.specs.declared.event.Event.{Event}
use Rattle.oak_machine.specs.declared.event.Event.TheVariants as event
use Rattle.oak_machine.specs.declared.event.StepKind.TheVariants as kind
use Rattle.oak_machine.specs.History.{Past}
use Rattle.oak_machine.specs.Laws.{Says, Starts, StartsProper}
use Rattle.oak_machine.specs.Sessions.{has_left, has_login, is_stopped_under, kept_checkpoint}
use Rattle.oak_read.specs.Meaning.{documents_in}
use Rattle.oak_read.specs.declared.reader.Reader.{Reader}
use Rattle.oak_store.specs.Tables.{Table, next_number}
use Rattle.core_read.specs.Told.{IsIn}
use Rattle.core_keep.specs.Bounds.{kept_pairs}
use Rattle.core_keep.specs.Holding.{IsHoldingStep}
use Rattle.core_nodes.specs.Nodes.{IsPair, base_of_pin}
use Rattle.core_world.specs.Held.{holding_in}
use Rattle.core_world.specs.Kept.{AreLayersKept, AreSettingsKept, IsKept, IsPinned, reader_at}
use Rattle.core_world.specs.States.{State, memory_at, origin}
use Rattle.core_world.specs.Steps.{after_drop_readers, after_update}
use Rattle.oak_checkpoint.specs.Settings.{settings_op}
use Rattle.core_world.proofs.Attaching.{number_test}
use Rattle.core_world.proofs.Backs.{with_table}
use Rattle.core_world.proofs.Checkpoints.{changed_there, nodes_left, previous_left, root_same}
use Rattle.core_world.proofs.Held.{holding, in_back, in_front, in_taken, in_whole, memory_still}
use Rattle.core_world.proofs.Lives.{told}
use Rattle.core_world.proofs.Roots.{root_quiet}
use Rattle.core_world.proofs.Telling.{nodes_commit, nodes_let}
use Rattle.core_world.proofs.Whole.{goes, layers_of}
use Rattle.std.proofs.lemmas.Cmp.{nat_cmp_total}
use Rattle.core_read.proofs.Entries.{lookup-remove, sorted_remove}
use Rattle.core_nodes.proofs.Pins.{lookup_left}
use Rattle.core_world.proofs.Flights.{same_number}
use Rattle.core_world.proofs.Seated.{alike, same_pinned}

-- ---- the settings' document

-- a document, once the readers of these sessions are dropped
abbrev pub without_readers : List ℕ → Document → Document
without_readers ss d = fold changed d (map change.Detach ss)

-- nothing more is kept then
kept_less : (ss : List ℕ) (d : Document) (x : Pin) → IsIn x (kept_pairs (without_readers ss d)) → IsIn x (kept_pairs d)
kept_less [] d x i = i
kept_less (s ∷ ss) d x i = one (kept_less ss (changed d (change.Detach s)) x i)
  where
    one : IsIn x (kept_pairs (changed d (change.Detach s))) → IsIn x (kept_pairs d)
    one j = elim (in_whole x (values_of d.checkpoints) (values_of (remove_entry (is_at (nat_cmp s)) d.readers)) j) [
      | inl h ↦ in_front x (values_of d.checkpoints) (values_of d.readers) h
      | inr h ↦ in_back x (values_of d.checkpoints) (values_of d.readers) (in_taken (is_at (nat_cmp s)) d.readers x h)
    ]

-- what is kept for the others stays
left_for : (q : ℕ) (ss : List ℕ) → ((x : ℕ) → IsIn x ss → (x == q) ≡ false) → (d : Document) → lookup (is_at (nat_cmp q)) (without_readers ss d).readers ≡ lookup (is_at (nat_cmp q)) d.readers
left_for q [] apart d = refl
left_for q (s ∷ ss) apart d = left_for q ss (λ x i. apart x (inr i)) (changed d (change.Detach s)) ∙ lookup_left s d.readers q (apart s (inl refl))

module _ (sessions : List ℕ) (past : Past) where
  -- the document keeps what the past says
  record IsSet (d : Document) : Type 0 where
    pub ordered : is_sorted name_cmp d.checkpoints ≡ true
    pub numbered : is_sorted nat_cmp d.readers ≡ true
    pub checkpoints : (i : Text) → base_of_pin (lookup (is_at (name_cmp i)) d.checkpoints) ≡ kept_checkpoint past i
    pub checkpoint_pairs : (i : Text) (pin : Pin) → lookup (is_at (name_cmp i)) d.checkpoints ≡ Some pin → IsPair pin.base pin.sweep
    pub readers : (q : ℕ) → is_stopped_under sessions past q ≡ false → base_of_pin (lookup (is_at (nat_cmp q)) d.readers) ≡ reader_at past q
    pub only : (q : ℕ) (pin : Pin) → lookup (is_at (nat_cmp q)) d.readers ≡ Some pin → reader_at past q ≡ Some pin.base
    pub reader_pairs : (q : ℕ) (pin : Pin) → lookup (is_at (nat_cmp q)) d.readers ≡ Some pin → IsPair pin.base pin.sweep

  module _ (s : ℕ) (stopped : is_stopped_under sessions past s ≡ true) (d : Document) (set : IsSet d) where
    -- but for the one that is dropped
    elsewhere : (q : ℕ) (pin : Pin) (b : Bool) → (s == q) ≡ b → lookup (is_at (nat_cmp q)) (remove_entry (is_at (nat_cmp s)) d.readers) ≡ Some pin → lookup (is_at (nat_cmp q)) d.readers ≡ Some pin
    elsewhere q pin true e h = absurd (false≢true (ap is_some (sym (gone q e) ∙ h)))
      where
        gone : (q : ℕ) → (s == q) ≡ true → lookup (is_at (nat_cmp q)) (remove_entry (is_at (nat_cmp s)) d.readers) ≡ None
        gone q e = lookup-remove nat_cmp nat_cmp_total q s d.readers set.numbered ∙ ap (λ b. cond b None (lookup (is_at (nat_cmp q)) d.readers)) (number_test q s ∙ e)
    elsewhere q pin false e h = sym (lookup_left s d.readers q e) ∙ h

    stays : (q : ℕ) → is_stopped_under sessions past q ≡ false → (b : Bool) → (s == q) ≡ b → base_of_pin (lookup (is_at (nat_cmp q)) (remove_entry (is_at (nat_cmp s)) d.readers)) ≡ reader_at past q
    stays q on true e = absurd (false≢true (sym on ∙ (ap (is_stopped_under sessions past) (sym (same_number s q e)) ∙ stopped)))
    stays q on false e = ap base_of_pin (lookup_left s d.readers q e) ∙ set.readers q on

    one_dropped : IsSet (changed d (change.Detach s))
    one_dropped = record {
      ordered = set.ordered;
      numbered = sorted_remove nat_cmp (is_at (nat_cmp s)) d.readers set.numbered;
      checkpoints = set.checkpoints;
      checkpoint_pairs = set.checkpoint_pairs;
      readers = λ q on. stays q on (s == q) refl;
      only = λ q pin h. set.only q pin (elsewhere q pin (s == q) refl h);
      reader_pairs = λ q pin h. set.reader_pairs q pin (elsewhere q pin (s == q) refl h);
    }

  all_dropped : (ss : List ℕ) → ((q : ℕ) → IsIn q ss → is_stopped_under sessions past q ≡ true) → (d : Document) → IsSet d → IsSet (without_readers ss d)
  all_dropped [] stopped d set = set
  all_dropped (s ∷ ss) stopped d set = all_dropped ss (λ q i. stopped q (inr i)) (changed d (change.Detach s)) (one_dropped s (stopped s (inl refl)) d set)

  set_of : (t : Table) (set : AreSettingsKept sessions past t) → IsSet set.document
  set_of t set = record { ordered = set.ordered; numbered = set.numbered; checkpoints = set.checkpoints; checkpoint_pairs = set.checkpoint_pairs; readers = set.readers; only = set.only; reader_pairs = set.reader_pairs }

-- ---- the world

module _ (starts : Starts) (says : Says) (proper : StartsProper starts) (w : State) (s : ℕ) (login : has_login w.past s ≡ true) (stays_in : has_left w.past s ≡ false) (ss : List ℕ) (stopped : (q : ℕ) → IsIn q ss → is_stopped_under w.sessions w.past q ≡ true) where
  abbrev e : Event
  e = event.Went s kind.Recover

  abbrev cs : List Change
  cs = map change.Detach ss

  abbrev u : Table
  u = after_update w.table (settings_op (map change.Detach ss))

  module _ (kept : AreLayersKept starts says w) where
    abbrev d : Document
    d = kept.settings.document

    made : documents_in (after_update w.table (settings_op (map change.Detach ss))).documents id.Settings ≡ Some (after_changes (Some kept.settings.document) (settings_op (map change.Detach ss)) (next_number w.table))
    made = changed_there w.table kept.settings.document kept.settings.there (map change.Detach ss)

    set : AreSettingsKept w.sessions (event.Went s kind.Recover ∷ w.past) (after_update w.table (settings_op (map change.Detach ss)))
    set =
        let is = all_dropped w.sessions w.past ss stopped kept.settings.document (set_of w.sessions w.past w.table kept.settings) in
        record {
          document = after_changes (Some kept.settings.document) (settings_op (map change.Detach ss)) (next_number w.table);
          there = made;
          ordered = is.ordered;
          numbered = is.numbered;
          checkpoints = is.checkpoints;
          checkpoint_pairs = is.checkpoint_pairs;
          readers = is.readers;
          only = is.only;
          reader_pairs = is.reader_pairs;
        }

    pub drop_layers : AreLayersKept starts says (after_drop_readers w s ss)
    drop_layers =
        let same = nodes_left w.table kept.settings.document kept.settings.there (map change.Detach ss) in
        let previous = previous_left w.table kept.settings.document kept.settings.there (map change.Detach ss) in
        record {
          sessions = with_table starts says proper w kept.sessions (event.Went s kind.Recover) (login, stays_in) refl (λ k. refl) (λ r. refl) refl refl (λ q. refl) refl (λ j. refl) refl (after_update w.table (settings_op (map change.Detach ss)))
              (nodes_commit (origin w) w.past w.table (after_update w.table (settings_op (map change.Detach ss))) w.running kept.sessions.committing (told starts says proper w kept.sessions) same previous)
              (nodes_let (origin w) w.past w.table (after_update w.table (settings_op (map change.Detach ss))) w.running kept.sessions.committing (told starts says proper w kept.sessions) same previous);
          root = root_quiet w.clusters w.begin w.past (after_update w.table (settings_op (map change.Detach ss))) (event.Went s kind.Recover) refl (root_same w.clusters w.begin w.past w.table (after_update w.table (settings_op (map change.Detach ss))) same kept.root);
          settings = set;
        }

    pub drop_rises : IsHoldingStep (holding_in w) (holding_in (after_drop_readers w s ss))
    drop_rises = holding starts says proper w kept (after_drop_readers w s ss) drop_layers (event.Went s kind.Recover ∷ []) refl refl refl refl
        (λ k on. memory_still (memory_at w.memories k) (memory_at w.memories k) refl refl)
        (λ x i. inl (subst (λ (o : Option Document). IsIn x (option_map_or kept_pairs o [])) (sym kept.settings.there) (kept_less ss kept.settings.document x (subst (λ (o : Option Document). IsIn x (option_map_or kept_pairs o [])) made i))))

    -- whoever reads is none of them
    apart : (q : ℕ) (r : Reader) → w.reading q ≡ Some r → (x : ℕ) → IsIn x ss → (x == q) ≡ false
    apart q r h x i = by (x == q) refl
      where
        by : (b : Bool) → (x == q) ≡ b → b ≡ false
        by true e = absurd (false≢true (sym (kept.sessions.working.reads q r h) ∙ (ap (is_stopped_under w.sessions w.past) (sym (same_number x q e)) ∙ stopped x i)))
        by false e = refl

    pub drop_pinned : IsPinned w → IsPinned (after_drop_readers w s ss)
    drop_pinned pinned = same_pinned starts says proper w kept pinned (after_drop_readers w s ss) refl refl (λ q r h. alike starts says proper w kept pinned (after_drop_readers w s ss) q refl
        (ap (λ (o : Option Document). option_and_then (λ d. lookup (is_at (nat_cmp q)) d.readers) o) made
        ∙ (left_for q ss (apart q r h) kept.settings.document
        ∙ sym (ap (λ (o : Option Document). option_and_then (λ d. lookup (is_at (nat_cmp q)) d.readers) o) kept.settings.there)))
        refl) (λ q r h. refl)

  -- the settings drop what they keep for sessions of stopped nodes
  pub drop_whole : IsKept starts says w → IsKept starts says (after_drop_readers w s ss)
  drop_whole kept =
      let layers = layers_of starts says w kept in
      goes starts says proper w kept (after_drop_readers w s ss) refl refl (drop_layers layers) (λ r. refl) (λ r. refl) (drop_rises layers) (drop_pinned layers kept.pinned)
