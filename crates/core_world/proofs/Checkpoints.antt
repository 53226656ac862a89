-- Checkpoints are made and released.
use Rattle.std.proofs.Common.{◌≡◌, ℕ, Bool, true, false, cond, Some, None, List, [], ◌∷◌, is_some, refl, sym, ap, subst, ◌∙◌}
use Rattle.std.specs.Prelude.{IsSome}
use Rattle.std.specs.BTreeMap.{is_at, insert_entry}
use Rattle.std.specs.Map.{lookup, remove_entry}
use Rattle.std.specs.Option.{unwrap_or}
use Rattle.std.specs.Cmp.{IsTotalOrder}
use Rattle.std.specs.Cmp.Lexicographic.{lists_total}
use Rattle.std.specs.Ordering.{eq_by_cmp, is_eq, ordering_reverse}
use Rattle.std.proofs.lemmas.Cmp.{nat_cmp_total}
use Rattle.std.specs.declared.cmp.Ordering.{Ordering}
use Rattle.std.specs.declared.cmp.Ordering.TheVariants.{Less, Equal, Greater}
use mathlib.Core.Bool.{false≢true}
use Rattle.jr_path.specs.Names.{name_cmp}
use Rattle.jr_path.specs.declared.path.Path.{Path}
use Rattle.jr_path.specs.declared.path.DocId.TheVariants as id
use Rattle.jr_path.specs.Lists.{Text}
use Rattle.jr_path.proofs.Maps.{lookup-insert_entry}
use Rattle.jr_rev.specs.declared.vector.Pin.{Pin}
use Rattle.oak_doc.specs.declared.document.Document.{Document}
use Rattle.oak_doc.specs.declared.update.Change.{Change}
use Rattle.oak_doc.specs.declared.update.Change.TheVariants as change
use Rattle.oak_doc.specs.Updates.{after_changes}
use Rattle.oak_machine.specs.declared.event.Event.{Event}
use Rattle.oak_machine.specs.declared.event.Event.TheVariants as event
use Rattle.oak_machine.specs.History.{Past, Begin}
use Rattle.oak_machine.specs.Laws.{Says, Starts, StartsProper}
use Rattle.oak_machine.specs.Sessions.{has_left, has_login, is_attached, is_stopped_under, kept_checkpoint}
use Rattle.oak_node.specs.Pins.{pin_of}
use Rattle.oak_read.specs.Meaning.{documents_in}
use Rattle.oak_store.specs.Tables.{Table, next_number, with_document}
use Rattle.core_read.proofs.Entries.{lookup-remove, sorted_insert, sorted_remove}
use Rattle.core_nodes.specs.Nodes.{IsPair, base_of_pin}
use Rattle.core_world.specs.Kept.{AreSettingsKept, AreLayersKept, IsRootKept}
use Rattle.core_world.specs.States.{State, memory_of, nodes_in, origin}
use Rattle.core_world.specs.Steps.{after_checkpoint, after_release, after_update, setting_op}
use Rattle.oak_checkpoint.specs.Settings.{settings_op}
use Rattle.core_world.proofs.Backs.{done_at, update_is, with_table}
use Rattle.core_world.proofs.Draws.{base_is, its_pair}
use Rattle.core_world.proofs.Lives.{node_alive, session_there, told}
use Rattle.core_world.proofs.Roots.{root_quiet}
use Rattle.core_world.proofs.Tables.{id_itself, put_is}
use Rattle.core_world.proofs.Telling.{nodes_commit, nodes_let}

-- ---- texts

pub name_total : IsTotalOrder name_cmp
name_total = lists_total nat_cmp_total

turned : (o : Ordering) → is_eq (ordering_reverse o) ≡ is_eq o
turned Less = refl
turned Equal = refl
turned Greater = refl

same_text : (a b : Text) → eq_by_cmp name_cmp a b ≡ eq_by_cmp name_cmp b a
same_text a b = ap is_eq (name_total.antisymm a b) ∙ turned (name_cmp b a)

-- ---- the settings after an update

module _ (t : Table) (d : Document) (there : documents_in t.documents id.Settings ≡ Some d) (cs : List Change) where
  abbrev made : Document
  made = after_changes (Some d) (settings_op cs) (next_number t)

  abbrev now : Table
  now = with_document t id.Settings (after_changes (Some d) (settings_op cs) (next_number t)) (next_number t)

  changed_is : after_update t (settings_op cs) ≡ with_document t id.Settings (after_changes (Some d) (settings_op cs) (next_number t)) (next_number t)
  changed_is = update_is t id.Settings (settings_op cs) refl refl refl ∙ ap (done_at t id.Settings (settings_op cs)) there

  pub changed_there : documents_in (after_update t (settings_op cs)).documents id.Settings ≡ Some (after_changes (Some d) (settings_op cs) (next_number t))
  changed_there = ap (λ (u : Table). documents_in u.documents id.Settings) changed_is ∙ (put_is t id.Settings made (next_number t) id.Settings ∙ ap (λ b. cond b (Some made) (documents_in t.documents id.Settings)) (id_itself id.Settings))

  pub nodes_left : (p : Path) → nodes_in (after_update t (settings_op cs)) p ≡ nodes_in t p
  nodes_left p = ap (λ (u : Table). nodes_in u p) changed_is ∙ put_is t id.Settings made (next_number t) (id.Node p)

  pub previous_left : (k : ℕ) (p : Path) → documents_in (after_update t (settings_op cs)).documents (id.Prev k p) ≡ documents_in t.documents (id.Prev k p)
  previous_left k p = ap (λ (u : Table). documents_in u.documents (id.Prev k p)) changed_is ∙ put_is t id.Settings made (next_number t) (id.Prev k p)

-- and after that for one change
module _ (t : Table) (d : Document) (there : documents_in t.documents id.Settings ≡ Some d) (c : Change) where
  pub settings_there : documents_in (after_update t (setting_op c)).documents id.Settings ≡ Some (after_changes (Some d) (setting_op c) (next_number t))
  settings_there = changed_there t d there (c ∷ [])

  pub nodes_same : (p : Path) → nodes_in (after_update t (setting_op c)) p ≡ nodes_in t p
  nodes_same = nodes_left t d there (c ∷ [])

  pub previous_same : (k : ℕ) (p : Path) → documents_in (after_update t (setting_op c)).documents (id.Prev k p) ≡ documents_in t.documents (id.Prev k p)
  previous_same = previous_left t d there (c ∷ [])

module _ (sessions : List ℕ) (past : Past) (t : Table) (set : AreSettingsKept sessions past t) where
  abbrev d : Document
  d = set.document

  -- a checkpoint is made
  module _ (i : Text) (pin : Pin) (pair : IsPair pin.base pin.sweep) where
    found_then : (q : Text) → lookup (is_at (name_cmp q)) (insert_entry name_cmp set.document.checkpoints i pin) ≡ cond (eq_by_cmp name_cmp q i) (Some pin) (lookup (is_at (name_cmp q)) set.document.checkpoints)
    found_then q = lookup-insert_entry name_cmp name_total q i pin set.document.checkpoints

    base_then : (q : Text) (b : Bool) → base_of_pin (cond b (Some pin) (lookup (is_at (name_cmp q)) set.document.checkpoints)) ≡ cond b (Some pin.base) (kept_checkpoint past q)
    base_then q true = refl
    base_then q false = set.checkpoints q

    pair_then : (q : Text) (x : Pin) (b : Bool) → cond b (Some pin) (lookup (is_at (name_cmp q)) set.document.checkpoints) ≡ Some x → IsPair x.base x.sweep
    pair_then q x true h = subst (λ (p : Pin). IsPair p.base p.sweep) (ap (λ o. unwrap_or o pin) h) pair
    pair_then q x false h = set.checkpoint_pairs q x h

    pub checkpoint_set : AreSettingsKept sessions (event.Checkpoint i pin.base ∷ past) (after_update t (setting_op (change.Checkpoint i pin)))
    checkpoint_set = record {
      document = after_changes (Some set.document) (setting_op (change.Checkpoint i pin)) (next_number t);
      there = settings_there t set.document set.there (change.Checkpoint i pin);
      ordered = sorted_insert name_cmp name_total i pin set.document.checkpoints set.ordered;
      numbered = set.numbered;
      checkpoints = λ q. ap base_of_pin (found_then q) ∙ (base_then q (eq_by_cmp name_cmp q i) ∙ ap (λ b. cond b (Some pin.base) (kept_checkpoint past q)) (same_text q i));
      checkpoint_pairs = λ q x h. pair_then q x (eq_by_cmp name_cmp q i) (sym (found_then q) ∙ h);
      readers = set.readers;
      only = set.only;
      reader_pairs = set.reader_pairs;
    }

  -- it is released
  module _ (i : Text) where
    left_then : (q : Text) → lookup (is_at (name_cmp q)) (remove_entry (is_at (name_cmp i)) set.document.checkpoints) ≡ cond (eq_by_cmp name_cmp q i) None (lookup (is_at (name_cmp q)) set.document.checkpoints)
    left_then q = lookup-remove name_cmp name_total q i set.document.checkpoints set.ordered

    base_left : (q : Text) (b : Bool) → base_of_pin (cond b None (lookup (is_at (name_cmp q)) set.document.checkpoints)) ≡ cond b None (kept_checkpoint past q)
    base_left q true = refl
    base_left q false = set.checkpoints q

    pair_left : (q : Text) (x : Pin) (b : Bool) → cond b None (lookup (is_at (name_cmp q)) set.document.checkpoints) ≡ Some x → IsPair x.base x.sweep
    pair_left q x true h = absurd (false≢true (ap is_some h))
    pair_left q x false h = set.checkpoint_pairs q x h

    pub release_set : AreSettingsKept sessions (event.Release i ∷ past) (after_update t (setting_op (change.Release i)))
    release_set = record {
      document = after_changes (Some set.document) (setting_op (change.Release i)) (next_number t);
      there = settings_there t set.document set.there (change.Release i);
      ordered = sorted_remove name_cmp (is_at (name_cmp i)) set.document.checkpoints set.ordered;
      numbered = set.numbered;
      checkpoints = λ q. ap base_of_pin (left_then q) ∙ (base_left q (eq_by_cmp name_cmp q i) ∙ ap (λ b. cond b None (kept_checkpoint past q)) (same_text q i));
      checkpoint_pairs = λ q x h. pair_left q x (eq_by_cmp name_cmp q i) (sym (left_then q) ∙ h);
      readers = set.readers;
      only = set.only;
      reader_pairs = set.reader_pairs;
    }

-- ---- the root, with the same documents of nodes

pub root_same : (clusters : ℕ) (begin : Begin) (past : Past) (t u : Table) → ((p : Path) → nodes_in u p ≡ nodes_in t p) → IsRootKept begin clusters past t → IsRootKept begin clusters past u
root_same clusters begin past t u same root = record { document = root.document; there = same [] ∙ root.there; tells = root.tells; begun = root.begun }

-- ---- the steps

module _ (starts : Starts) (says : Says) (proper : StartsProper starts) (w : State) (kept : AreLayersKept starts says w) where
  pub checkpoint_keeps : (s : ℕ) (i : Text) (pin : Pin) → is_stopped_under w.sessions w.past s ≡ false → has_login w.past s ≡ true → has_left w.past s ≡ false → is_attached w.past s ≡ false → pin_of (memory_of w s) s ≡ Some pin → AreLayersKept starts says (after_checkpoint w s i pin)
  checkpoint_keeps s i pin on login stays detached has =
      let c : Change = change.Checkpoint i pin in
      let e : Event = event.Checkpoint i pin.base in
      let same = nodes_same w.table kept.settings.document kept.settings.there c in
      let previous = previous_same w.table kept.settings.document kept.settings.there c in
      let u : Table = after_update w.table (setting_op c) in
      let base = base_is starts says proper w kept.sessions s (node_alive starts says proper w kept.sessions s (session_there starts says proper w kept.sessions s login) on) login stays detached ∙ ap (λ o. Some (Rattle.std.specs.Option.option_map_or (λ (p : Pin). p.base) o (memory_of w s).head)) has in
      record {
        sessions = with_table starts says proper w kept.sessions e (s, base, detached, on) refl (λ k. refl) (λ r. refl) refl refl (λ q. refl) refl (λ j. refl) refl u
            (nodes_commit (origin w) w.past w.table u w.running kept.sessions.committing (told starts says proper w kept.sessions) same previous)
            (nodes_let (origin w) w.past w.table u w.running kept.sessions.committing (told starts says proper w kept.sessions) same previous);
        root = root_quiet w.clusters w.begin w.past u e refl (root_same w.clusters w.begin w.past w.table u same kept.root);
        settings = checkpoint_set w.sessions w.past w.table kept.settings i pin (its_pair starts says proper w kept.sessions s (session_there starts says proper w kept.sessions s login) pin has);
      }

  pub release_keeps : (i : Text) → IsSome (kept_checkpoint w.past i) → AreLayersKept starts says (after_release w i)
  release_keeps i there =
      let c : Change = change.Release i in
      let e : Event = event.Release i in
      let same = nodes_same w.table kept.settings.document kept.settings.there c in
      let previous = previous_same w.table kept.settings.document kept.settings.there c in
      let u : Table = after_update w.table (setting_op c) in
      record {
        sessions = with_table starts says proper w kept.sessions e there refl (λ k. refl) (λ r. refl) refl refl (λ q. refl) refl (λ j. refl) refl u
            (nodes_commit (origin w) w.past w.table u w.running kept.sessions.committing (told starts says proper w kept.sessions) same previous)
            (nodes_let (origin w) w.past w.table u w.running kept.sessions.committing (told starts says proper w kept.sessions) same previous);
        root = root_quiet w.clusters w.begin w.past u e refl (root_same w.clusters w.begin w.past w.table u same kept.root);
        settings = release_set w.sessions w.past w.table kept.settings i;
      }
