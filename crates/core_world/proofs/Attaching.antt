-- Sessions attach to checkpoints, and are detached.
use Rattle.std.proofs.Common.{◌≡◌, ℕ, Bool, true, false, cond, Option, Some, None, List, [], ◌∷◌, is_some, refl, sym, ap, subst, ◌∙◌, arith}
use Rattle.std.specs.Prelude.{◌==◌, IsSome}
use Rattle.std.specs.BTreeMap.{is_at, insert_entry}
use Rattle.std.specs.FinMap.{is_sorted}
use Rattle.std.specs.Map.{lookup, remove_entry}
use Rattle.std.specs.Option.{option_and_then, option_map_or, unwrap_or}
use Rattle.std.specs.Ordering.{eq_by_cmp, is_eq, nat_cmp}
use Rattle.std.proofs.lemmas.Bool.Decides.{nat_tests}
use Rattle.std.proofs.lemmas.Cmp.{nat_cmp_total}
use mathlib.Core.Bool.{false≢true}
use Rattle.jr_path.specs.Names.{name_cmp}
use Rattle.jr_path.specs.Lists.{Text}
use Rattle.jr_path.proofs.Maps.{lookup-insert_entry}
use Rattle.jr_rev.specs.declared.vector.Pin.{Pin}
use Rattle.jr_rev.specs.declared.vector.RevVec.{RevVec}
use Rattle.oak_doc.specs.declared.document.Document.{Document}
use Rattle.oak_doc.specs.declared.update.Change.{Change}
use Rattle.oak_doc.specs.declared.update.Change.TheVariants as change
use Rattle.oak_doc.specs.Updates.{after_changes}
use Rattle.oak_machine.specs.declared.event.Event.{Event}
use Rattle.oak_machine.specs.declared.event.Event.TheVariants as event
use Rattle.oak_machine.specs.declared.event.StepKind.TheVariants as kind
use Rattle.oak_machine.specs.History.{Past, Begin}
use Rattle.oak_machine.specs.Laws.{Says, Starts, StartsProper}
use Rattle.oak_machine.specs.Runs.{IsRunOf}
use Rattle.oak_machine.specs.Sessions.{base_of, has_left, has_login, has_reader, is_attached, is_recovered, is_stopped_under, kept_checkpoint, last_checkpoint}
use Rattle.oak_node.specs.Pins.{pin_of}
use Rattle.oak_store.specs.Tables.{Table, next_number}
use Rattle.core_read.proofs.Entries.{lookup-remove, sorted_insert, sorted_remove}
use Rattle.core_heads.proofs.Orders.{not_both, same_number}
use Rattle.core_heads.proofs.Runs.{kept_last}
use Rattle.core_clash.proofs.Basics.{same_name}
use Rattle.core_nodes.specs.Nodes.{IsPair, base_of_pin}
use Rattle.core_world.specs.Kept.{AreSettingsKept, AreLayersKept, live_base, reader_at, has_written}
use Rattle.core_world.specs.States.{State, actor_pin, memory_of, node_of, reader_pin, origin}
use Rattle.core_world.specs.Steps.{after_attach, after_detach, after_unfound, after_update, setting_op}
use Rattle.core_world.proofs.Backs.{with_table}
use Rattle.core_world.proofs.Checkpoints.{name_total, nodes_same, previous_same, root_same, settings_there}
use Rattle.core_world.proofs.Draws.{base_is, its_pair}
use Rattle.core_world.proofs.Finishing.{quiet_commits}
use Rattle.core_world.proofs.Flights.{work_quiet}
use Rattle.core_world.proofs.Lives.{session_there, told, reader_held}
use Rattle.core_world.proofs.Memories.{aside}
use Rattle.core_world.proofs.Readers.{apart_from, event_reads, is_live}
use Rattle.core_world.proofs.Roots.{root_quiet}
use Rattle.core_world.proofs.Telling.{nodes_commit, nodes_let, same_world}
use Rattle.core_world.proofs.Letting.{lets_calm, lets_then}
use Rattle.core_world.proofs.Observers.{event_observes}

-- ---- an attached session's base is that of its reader

pub attached_reader : (starts : Starts) (says : Says) (clusters : ℕ) (sessions : List ℕ) (begin : Begin) (past : Past) → IsRunOf starts says clusters sessions begin past → (s : ℕ) → is_attached past s ≡ true → base_of past s ≡ reader_at past s
attached_reader starts says clusters sessions begin [] run s h = absurd (false≢true h)
attached_reader starts says clusters sessions begin (event.Login t v ∷ past) run s h = by (attached_reader starts says clusters sessions begin past run.1 s) (t == s) h
  where
    by : (is_attached past s ≡ true → base_of past s ≡ reader_at past s) → (b : Bool) → cond b false (is_attached past s) ≡ true → cond b (Some v) (base_of past s) ≡ reader_at past s
    by rest true h = absurd (false≢true h)
    by rest false h = rest h
attached_reader starts says clusters sessions begin (event.Refresh t v ∷ past) run s h = by (attached_reader starts says clusters sessions begin past run.1 s) (t == s) h
  where
    by : (is_attached past s ≡ true → base_of past s ≡ reader_at past s) → (b : Bool) → cond b false (is_attached past s) ≡ true → cond b (Some v) (base_of past s) ≡ reader_at past s
    by rest true h = absurd (false≢true h)
    by rest false h = rest h
attached_reader starts says clusters sessions begin (event.Attach t i ∷ past) run s h = by (attached_reader starts says clusters sessions begin past run.1 s) (t == s) h
  where
    by : (is_attached past s ≡ true → base_of past s ≡ reader_at past s) → (b : Bool) → cond b true (is_attached past s) ≡ true → cond b (last_checkpoint past i) (base_of past s) ≡ cond b (last_checkpoint past i) (reader_at past s)
    by rest true h = refl
    by rest false h = rest h
attached_reader starts says clusters sessions begin (event.Detach t ∷ past) run s h = by (attached_reader starts says clusters sessions begin past run.1 s h) (t == s) refl
  where
    by : base_of past s ≡ reader_at past s → (b : Bool) → (t == s) ≡ b → base_of past s ≡ cond b None (reader_at past s)
    by rest true e = not_both (is_attached past s) h (subst (λ (n : ℕ). is_attached past n ≡ false) (same_number t s e) run.0.0)
    by rest false e = rest
attached_reader starts says clusters sessions begin (e ∷ past) run s h = attached_reader starts says clusters sessions begin past run.1 s h

-- ---- the settings

number_is : (q s : ℕ) → (s == q) ≡ true → is_eq (nat_cmp q s) ≡ true
number_is q s h = grind (arith, nat_tests)

number_other : (q s : ℕ) → (s == q) ≡ false → is_eq (nat_cmp q s) ≡ false
number_other q s h = grind (arith, nat_tests)

pub number_test : (q s : ℕ) → eq_by_cmp nat_cmp q s ≡ (s == q)
number_test q s = by (s == q) refl
  where
    by : (b : Bool) → (s == q) ≡ b → eq_by_cmp nat_cmp q s ≡ b
    by true h = number_is q s h
    by false h = number_other q s h

module _ (sessions : List ℕ) (past : Past) (t : Table) (set : AreSettingsKept sessions past t) (s : ℕ) where
  module _ (i : Text) (v : RevVec) (h : kept_checkpoint past i ≡ Some v) where
    abbrev made : Document
    made = after_changes (Some set.document) (setting_op (change.Attach s i)) (next_number t)

    module _ (pin : Pin) (e : lookup (is_at (name_cmp i)) set.document.checkpoints ≡ Some pin) where
      readers_are : (after_changes (Some set.document) (setting_op (change.Attach s i)) (next_number t)).readers ≡ insert_entry nat_cmp set.document.readers s pin
      readers_are = ap (λ (o : Option Pin). option_map_or (λ pin. insert_entry nat_cmp set.document.readers s pin) o set.document.readers) e

      found_then : (q : ℕ) → lookup (is_at (nat_cmp q)) (after_changes (Some set.document) (setting_op (change.Attach s i)) (next_number t)).readers ≡ cond (s == q) (Some pin) (lookup (is_at (nat_cmp q)) set.document.readers)
      found_then q =
          ap (λ (es : List (ℕ × Pin)). lookup (is_at (nat_cmp q)) es) readers_are
          ∙ (lookup-insert_entry nat_cmp nat_cmp_total q s pin set.document.readers
          ∙ ap (λ b. cond b (Some pin) (lookup (is_at (nat_cmp q)) set.document.readers)) (number_test q s))

      at_base : Some pin.base ≡ last_checkpoint past i
      at_base = ap base_of_pin (sym e) ∙ (set.checkpoints i ∙ (h ∙ sym (kept_last past i v h)))

      base_then : (q : ℕ) → is_stopped_under sessions past q ≡ false → (b : Bool) → base_of_pin (cond b (Some pin) (lookup (is_at (nat_cmp q)) set.document.readers)) ≡ cond b (last_checkpoint past i) (reader_at past q)
      base_then q on true = at_base
      base_then q on false = set.readers q on

      only_then : (q : ℕ) (x : Pin) (b : Bool) → cond b (Some pin) (lookup (is_at (nat_cmp q)) set.document.readers) ≡ Some x → cond b (last_checkpoint past i) (reader_at past q) ≡ Some x.base
      only_then q x true k = sym at_base ∙ ap base_of_pin k
      only_then q x false k = set.only q x k

      pair_then : (q : ℕ) (x : Pin) (b : Bool) → cond b (Some pin) (lookup (is_at (nat_cmp q)) set.document.readers) ≡ Some x → IsPair x.base x.sweep
      pair_then q x true k = subst (λ (p : Pin). IsPair p.base p.sweep) (ap (λ o. unwrap_or o pin) k) (set.checkpoint_pairs i pin e)
      pair_then q x false k = set.reader_pairs q x k

      attach_with : AreSettingsKept sessions (event.Attach s i ∷ past) (after_update t (setting_op (change.Attach s i)))
      attach_with = record {
        document = after_changes (Some set.document) (setting_op (change.Attach s i)) (next_number t);
        there = settings_there t set.document set.there (change.Attach s i);
        ordered = set.ordered;
        numbered = subst (λ (es : List (ℕ × Pin)). is_sorted nat_cmp es ≡ true) (sym readers_are) (sorted_insert nat_cmp nat_cmp_total s pin set.document.readers set.numbered);
        checkpoints = set.checkpoints;
        checkpoint_pairs = set.checkpoint_pairs;
        readers = λ q on. ap base_of_pin (found_then q) ∙ base_then q on (s == q);
        only = λ q x k. only_then q x (s == q) (sym (found_then q) ∙ k);
        reader_pairs = λ q x k. pair_then q x (s == q) (sym (found_then q) ∙ k);
      }

    pub attach_set : AreSettingsKept sessions (event.Attach s i ∷ past) (after_update t (setting_op (change.Attach s i)))
    attach_set = by (lookup (is_at (name_cmp i)) set.document.checkpoints) refl (set.checkpoints i ∙ h)
      where
        by : (o : Option Pin) → lookup (is_at (name_cmp i)) set.document.checkpoints ≡ o → base_of_pin o ≡ Some v → AreSettingsKept sessions (event.Attach s i ∷ past) (after_update t (setting_op (change.Attach s i)))
        by None e k = absurd (false≢true (ap is_some k))
        by (Some pin) e k = attach_with pin e

  -- there is no checkpoint of that id
  module _ (i : Text) (none : kept_checkpoint past i ≡ None) where
    none_there : lookup (is_at (name_cmp i)) set.document.checkpoints ≡ None
    none_there = by (lookup (is_at (name_cmp i)) set.document.checkpoints) (set.checkpoints i ∙ none)
      where
        by : (o : Option Pin) → base_of_pin o ≡ None → o ≡ None
        by None h = refl
        by (Some pin) h = absurd (false≢true (sym (ap is_some h)))

    same_readers : (after_changes (Some set.document) (setting_op (change.Attach s i)) (next_number t)).readers ≡ set.document.readers
    same_readers = ap (λ (o : Option Pin). option_map_or (λ pin. insert_entry nat_cmp set.document.readers s pin) o set.document.readers) none_there

    pub attach_unfound : AreSettingsKept sessions (event.Went s kind.Settings ∷ past) (after_update t (setting_op (change.Attach s i)))
    attach_unfound = record {
      document = after_changes (Some set.document) (setting_op (change.Attach s i)) (next_number t);
      there = settings_there t set.document set.there (change.Attach s i);
      ordered = set.ordered;
      numbered = subst (λ (es : List (ℕ × Pin)). is_sorted nat_cmp es ≡ true) (sym same_readers) set.numbered;
      checkpoints = set.checkpoints;
      checkpoint_pairs = set.checkpoint_pairs;
      readers = λ q on. ap (λ (es : List (ℕ × Pin)). base_of_pin (lookup (is_at (nat_cmp q)) es)) same_readers ∙ set.readers q on;
      only = λ q x k. set.only q x (sym (ap (λ (es : List (ℕ × Pin)). lookup (is_at (nat_cmp q)) es) same_readers) ∙ k);
      reader_pairs = λ q x k. set.reader_pairs q x (sym (ap (λ (es : List (ℕ × Pin)). lookup (is_at (nat_cmp q)) es) same_readers) ∙ k);
    }

    still : (q : Text) → lookup (is_at (name_cmp q)) (remove_entry (is_at (name_cmp i)) set.document.checkpoints) ≡ lookup (is_at (name_cmp q)) set.document.checkpoints
    still q = lookup-remove name_cmp name_total q i set.document.checkpoints set.ordered ∙ by (eq_by_cmp name_cmp q i) refl
      where
        by : (b : Bool) → eq_by_cmp name_cmp q i ≡ b → cond b None (lookup (is_at (name_cmp q)) set.document.checkpoints) ≡ lookup (is_at (name_cmp q)) set.document.checkpoints
        by true e = sym (ap (λ (x : Text). lookup (is_at (name_cmp x)) set.document.checkpoints) (same_name q i e) ∙ none_there)
        by false e = refl

    pub release_unfound : AreSettingsKept sessions (event.Went s kind.Settings ∷ past) (after_update t (setting_op (change.Release i)))
    release_unfound = record {
      document = after_changes (Some set.document) (setting_op (change.Release i)) (next_number t);
      there = settings_there t set.document set.there (change.Release i);
      ordered = sorted_remove name_cmp (is_at (name_cmp i)) set.document.checkpoints set.ordered;
      numbered = set.numbered;
      checkpoints = λ q. ap base_of_pin (still q) ∙ set.checkpoints q;
      checkpoint_pairs = λ q x k. set.checkpoint_pairs q x (sym (still q) ∙ k);
      readers = set.readers;
      only = set.only;
      reader_pairs = set.reader_pairs;
    }

  left_then : (q : ℕ) → lookup (is_at (nat_cmp q)) (remove_entry (is_at (nat_cmp s)) set.document.readers) ≡ cond (s == q) None (lookup (is_at (nat_cmp q)) set.document.readers)
  left_then q = lookup-remove nat_cmp nat_cmp_total q s set.document.readers set.numbered ∙ ap (λ b. cond b None (lookup (is_at (nat_cmp q)) set.document.readers)) (number_test q s)

  base_left : (q : ℕ) → is_stopped_under sessions past q ≡ false → (b : Bool) → base_of_pin (cond b None (lookup (is_at (nat_cmp q)) set.document.readers)) ≡ cond b None (reader_at past q)
  base_left q on true = refl
  base_left q on false = set.readers q on

  only_left : (q : ℕ) (x : Pin) (b : Bool) → cond b None (lookup (is_at (nat_cmp q)) set.document.readers) ≡ Some x → cond b None (reader_at past q) ≡ Some x.base
  only_left q x true k = absurd (false≢true (ap is_some k))
  only_left q x false k = set.only q x k

  pair_left : (q : ℕ) (x : Pin) (b : Bool) → cond b None (lookup (is_at (nat_cmp q)) set.document.readers) ≡ Some x → IsPair x.base x.sweep
  pair_left q x true k = absurd (false≢true (ap is_some k))
  pair_left q x false k = set.reader_pairs q x k

  pub detach_set : AreSettingsKept sessions (event.Detach s ∷ past) (after_update t (setting_op (change.Detach s)))
  detach_set = record {
    document = after_changes (Some set.document) (setting_op (change.Detach s)) (next_number t);
    there = settings_there t set.document set.there (change.Detach s);
    ordered = set.ordered;
    numbered = sorted_remove nat_cmp (is_at (nat_cmp s)) set.document.readers set.numbered;
    checkpoints = set.checkpoints;
    checkpoint_pairs = set.checkpoint_pairs;
    readers = λ q on. ap base_of_pin (left_then q) ∙ base_left q on (s == q);
    only = λ q x k. only_left q x (s == q) (sym (left_then q) ∙ k);
    reader_pairs = λ q x k. pair_left q x (s == q) (sym (left_then q) ∙ k);
  }

-- ---- the steps

module _ (starts : Starts) (says : Says) (proper : StartsProper starts) (w : State) (kept : AreLayersKept starts says w) (s : ℕ) (login : has_login w.past s ≡ true) (stays : has_left w.past s ≡ false) where
  pub attach_keeps : is_stopped_under w.sessions w.past s ≡ false → (i : Text) (v : RevVec) → is_attached w.past s ≡ false → w.reading s ≡ None → kept_checkpoint w.past i ≡ Some v → AreLayersKept starts says (after_attach w s i)
  attach_keeps on i v detached unread there =
      let c : Change = change.Attach s i in
      let e : Event = event.Attach s i in
      let same = nodes_same w.table kept.settings.document kept.settings.there c in
      let previous = previous_same w.table kept.settings.document kept.settings.there c in
      let u : Table = after_update w.table (setting_op c) in
      let run : IsRunOf starts says w.clusters w.sessions w.begin (e ∷ w.past) = ((subst (λ (o : Option RevVec). IsSome o) (sym there) refl, detached, on), kept.sessions.run) in
      let t = told starts says proper w kept.sessions in
      record {
        sessions = record {
          nodes = kept.sessions.nodes;
          run = run;
          committing = quiet_commits (origin w) w.past u w.running (nodes_commit (origin w) w.past w.table u w.running kept.sessions.committing t same previous) t e refl (λ k. refl);
          working = work_quiet w.sessions w.past w.running w.reading kept.sessions.working e refl (λ q. refl) (λ k. refl);
          memories = aside starts says w.clusters w.sessions w.begin kept.sessions.nodes w.past w.memories kept.sessions.memories e run (λ j. refl) (λ j. refl);
          readers = event_reads (origin w) w.past w.table w.formers w.reading kept.sessions.readers (reader_held starts says proper w kept.sessions) e u
              (lets_then (origin w) w.table u u w.past (e ∷ w.past) (λ r. has_written (kept.sessions.committing.writers r)) (same_world (origin w) w.past w.table u w.running kept.sessions.committing t same previous) (nodes_let (origin w) w.past w.table u w.running kept.sessions.committing t same previous) (lets_calm (origin w) u w.past (λ r. has_written (kept.sessions.committing.writers r)) (same_world (origin w) w.past w.table u w.running kept.sessions.committing t same previous) e (λ x. refl) refl))
              (apart_from (origin w) w.past w.table w.formers w.reading kept.sessions.readers (reader_held starts says proper w kept.sessions) s unread);
          observers = event_observes starts says w.clusters w.sessions w.begin kept.sessions.nodes proper w.past e run w.table u w.formers w.observing kept.sessions.observers (λ k. refl) (λ q r h. refl)
              _ (quiet_commits (origin w) w.past u w.running (nodes_commit (origin w) w.past w.table u w.running kept.sessions.committing t same previous) t e refl (λ k. refl)).kept
              (lets_then (origin w) w.table u u w.past (e ∷ w.past) (λ r. has_written (kept.sessions.committing.writers r)) (same_world (origin w) w.past w.table u w.running kept.sessions.committing t same previous) (nodes_let (origin w) w.past w.table u w.running kept.sessions.committing t same previous)
              (lets_calm (origin w) u w.past (λ r. has_written (kept.sessions.committing.writers r)) (same_world (origin w) w.past w.table u w.running kept.sessions.committing t same previous) e (λ x. refl) refl));
        };
        root = root_quiet w.clusters w.begin w.past u e refl (root_same w.clusters w.begin w.past w.table u same kept.root);
        settings = attach_set w.sessions w.past w.table kept.settings s i v there;
      }

  pub detach_keeps : is_attached w.past s ≡ false → has_reader w.past s ≡ true → AreLayersKept starts says (after_detach w s)
  detach_keeps detached reads =
      let c : Change = change.Detach s in
      let e : Event = event.Detach s in
      let same = nodes_same w.table kept.settings.document kept.settings.there c in
      let previous = previous_same w.table kept.settings.document kept.settings.there c in
      let u : Table = after_update w.table (setting_op c) in
      record {
        sessions = with_table starts says proper w kept.sessions e (detached, reads) refl (λ k. refl) (λ r. refl) refl refl (λ q. refl) refl (λ j. refl) refl u
            (nodes_commit (origin w) w.past w.table u w.running kept.sessions.committing (told starts says proper w kept.sessions) same previous)
            (nodes_let (origin w) w.past w.table u w.running kept.sessions.committing (told starts says proper w kept.sessions) same previous);
        root = root_quiet w.clusters w.begin w.past u e refl (root_same w.clusters w.begin w.past w.table u same kept.root);
        settings = detach_set w.sessions w.past w.table kept.settings s;
      }

  unfound : (c : Change) → AreSettingsKept w.sessions (event.Went s kind.Settings ∷ w.past) (after_update w.table (setting_op c)) → AreLayersKept starts says (after_unfound w s c)
  unfound c set =
      let e : Event = event.Went s kind.Settings in
      let same = nodes_same w.table kept.settings.document kept.settings.there c in
      let previous = previous_same w.table kept.settings.document kept.settings.there c in
      let u : Table = after_update w.table (setting_op c) in
      record {
        sessions = with_table starts says proper w kept.sessions e (login, stays) refl (λ k. refl) (λ r. refl) refl refl (λ q. refl) refl (λ j. refl) refl u
            (nodes_commit (origin w) w.past w.table u w.running kept.sessions.committing (told starts says proper w kept.sessions) same previous)
            (nodes_let (origin w) w.past w.table u w.running kept.sessions.committing (told starts says proper w kept.sessions) same previous);
        root = root_quiet w.clusters w.begin w.past u e refl (root_same w.clusters w.begin w.past w.table u same kept.root);
        settings = set;
      }

  pub attach_unfound_keeps : (i : Text) → kept_checkpoint w.past i ≡ None → AreLayersKept starts says (after_unfound w s (change.Attach s i))
  attach_unfound_keeps i none = unfound (change.Attach s i) (attach_unfound w.sessions w.past w.table kept.settings s i none)

  pub release_unfound_keeps : (i : Text) → kept_checkpoint w.past i ≡ None → AreLayersKept starts says (after_unfound w s (change.Release i))
  release_unfound_keeps i none = unfound (change.Release i) (release_unfound w.sessions w.past w.table kept.settings s i none)

  -- the pin at which it reads is at its base
  pub actor_based : is_recovered w.past (node_of w s) ≡ false → (pin : Pin) → actor_pin w s ≡ Some pin → base_of w.past s ≡ Some pin.base
  actor_based alive pin h = by (is_attached w.past s) refl h
    where
      by : (b : Bool) → is_attached w.past s ≡ b → cond b (reader_pin w.table s) (pin_of (memory_of w s) s) ≡ Some pin → base_of w.past s ≡ Some pin.base
      by true a k =
          attached_reader starts says w.clusters w.sessions w.begin w.past kept.sessions.run s a
          ∙ kept.settings.only s pin (sym (ap (λ (o : Option Document). option_and_then (λ d. lookup (is_at (nat_cmp s)) d.readers) o) kept.settings.there) ∙ k)
      by false a k = base_is starts says proper w kept.sessions s alive login stays a ∙ ap (λ (o : Option Pin). Some (option_map_or (λ (p : Pin). p.base) o (memory_of w s).head)) k

  pub actor_pair : (pin : Pin) → actor_pin w s ≡ Some pin → IsPair pin.base pin.sweep
  actor_pair pin h = by (is_attached w.past s) h
    where
      by : (b : Bool) → cond b (reader_pin w.table s) (pin_of (memory_of w s) s) ≡ Some pin → IsPair pin.base pin.sweep
      by true k = kept.settings.reader_pairs s pin (sym (ap (λ (o : Option Document). option_and_then (λ d. lookup (is_at (nat_cmp s)) d.readers) o) kept.settings.there) ∙ k)
      by false k = its_pair starts says proper w kept.sessions s (session_there starts says proper w kept.sessions s login) pin k

  pub actor_live : is_recovered w.past (node_of w s) ≡ false → (pin : Pin) → actor_pin w s ≡ Some pin → live_base w.past s ≡ Some pin.base
  actor_live alive pin h = is_live w.past s pin.base login stays (actor_based alive pin h)
