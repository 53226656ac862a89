-- The causes of replies of commands of the cluster and of observation, decided of what came since
-- they began.
use Rattle.std.proofs.Common.{◌≡◌, ◌⊎◌, ℕ, ◌+◌, Bool, true, false, not, ◌&&◌, ◌||◌, inl, inr, List, Option, None, Some, refl, sym, ap, subst, ◌∙◌}
use Rattle.std.specs.Prelude.{◌↔◌, ◌==◌, slice_get, Contains, IfOk, IsTrue, Result, is_none}
use Rattle.std.specs.Option.{option_map_or}
use Rattle.std.proofs.lemmas.Bool.{true≢false}
use Rattle.std.proofs.lemmas.Bool.Decides.{Decides-eqb}
use Rattle.std.proofs.lemmas.Option.{none-some, same_Some}
use Rattle.std.proofs.lemmas.Result.{IfOk-weaker}
use Rattle.std.proofs.lemmas.Slice.Eq.{bytes_eq-Decides}
use Rattle.jr_path.specs.declared.path.Path.{Path}
use Rattle.jr_path.specs.Lists.{Text}
use Rattle.jr_tree.specs.declared.shared.Refusal.{Refusal}
use Rattle.jr_items.specs.Refusals.{limit_refusal, no_checkpoint}
use Rattle.oak_machine.specs.declared.event.Event.{Event}
use Rattle.oak_machine.specs.declared.event.Event.TheVariants as event
use Rattle.oak_machine.specs.Heads.{local, published}
use Rattle.oak_machine.specs.History.{History}
use Rattle.oak_machine.specs.Sessions.{is_stop_of, is_stopped, since}
use Rattle.jcr_ref.specs.Drawn.{too_many_ids}
use Rattle.jcr_trans.specs.Answers.{Done, ShowsText}
use Rattle.jcr_trans.specs.Texts.{answer_text}
use Rattle.jcr_trans.specs.declared.command.Command.{Command}
use Rattle.jcr_trans.specs.declared.command.Command.TheVariants as command
use Rattle.jcr_law.specs.declared.law.JcrLaw.{JcrLaw}
use Rattle.jcr_law.specs.declared.state.Cursor.{Cursor}
use Rattle.jcr_law.specs.Law.{no_support, no_text}
use Rattle.jcr_law.specs.Queries.{events_reply, events_since}
use Rattle.jcr_law.specs.Since.{before_turn, came, is_pinning}
use Rattle.jcr_law.specs.State.{call_of, next_id}
use Rattle.jcr_law.specs.Tasks.{finds_stopped, is_out, is_recovering, is_sweep, misses, split_refusal}
use Rattle.jcr_past.proofs.Coming.{came_any}
use Rattle.jcr_eval.proofs.Passing.{and_parts, and_whole, came_contains, came_some, contains_came, false_of, or_left, or_parts, or_right, some_came}
use Rattle.jcr_eval.proofs.Showing.{collection_is, collection_shown, in_is, in_shown, is_shown, keep_is, keep_passes, out_is, out_shown, recovery_is, recovery_shown, release_is, release_passes, shown_is, split_is, split_shown, sweep_is, sweep_shown}
use Rattle.jcr_eval.proofs.Options.{some_passed}
use Rattle.jcr_eval.specs.Said.{has_in, has_out, has_sweep, is_own_node, refuses_checkpoint, refuses_id, refuses_split, says_checkpoint, says_collect, says_events, says_in, says_observe, says_out, says_recover, says_release, says_split, says_stop, says_sweep, shows_checkpoint, shows_events}
use Rattle.jcr_past.specs.Shown.{is_answer, is_refusal, keeps, releases, shows_collection, shows_in, shows_out, shows_recovery, shows_split, shows_sweep}
use Rattle.jcr_eval.specs.TaskCauses.{CheckpointCause, CollectCause, EventsCause, InCause, MissCause, ObserveCause, OutCause, RecoverCause, ReleaseCause, SplitCause, StopCause, SweepCause, TaskCause}

abbrev Said : Bool → Type 0 → Type 0
Said b P = IsTrue b ↔ P

-- what holds of a thing that is there, or not at all
there_some : {X : Type 0} (f : X → Bool) (o : Option X) (x : X) → o ≡ Some x → f x ≡ true
    → option_map_or f o false ≡ true
there_some f o x is h = ap (λ p. option_map_or f p false) is ∙ h

same_some : {X : Type 0} (o : Option X) (x y : X) → o ≡ Some x → o ≡ Some y → x ≡ y
same_some o x y h g = ap (λ (p : Option _). elim p [ Some z ↦ z | None ↦ x ]) (sym h ∙ g)

is_refused : (text : List ℕ) (r : Refusal) → is_refusal text r ≡ true → text ≡ no_text r
is_refused text r h = (bytes_eq-Decides text (no_text r)).0 h

refused_is : (text : List ℕ) (r : Refusal) → text ≡ no_text r → is_refusal text r ≡ true
refused_is text r h = (bytes_eq-Decides text (no_text r)).1 h

-- `ok` where nothing refuses and a test holds, or else the refusal
done_or_refused : (text : List ℕ) (due : Option Refusal) (b : Bool)
    → Said (option_map_or (is_refusal text) due (b && is_answer text Done))
    (((due ≡ None) × IsTrue b × (text ≡ answer_text Done))
    ⊎ ((r : Refusal) × (due ≡ Some r) × (text ≡ no_text r)))
done_or_refused text None b = (
  λ t. let p = and_parts b _ t in inl (refl, p.0, is_shown text Done p.1),
  λ c. elim c [
    | inl here ↦ and_whole b _ here.1 (shown_is text Done here.2)
    | inr there ↦ absurd (none-some there.0 there.1)
  ],
)
done_or_refused text (Some r) b = (
  λ t. inr (r, refl, is_refused text r t),
  λ c. elim c [
    | inl here ↦ absurd (none-some r (sym here.0))
    | inr there ↦
        refused_is text r (there.2 ∙ ap no_text (sym (same_Some r there.0 there.1)))
  ],
)

module _ (h : History) (s : ℕ) (text : List ℕ) where
  pub out_said : Said (says_out h s text) (OutCause h s text)
  out_said = (
    λ t.
        let o = some_passed (has_out h s text) (slice_get h.sessions s) t in
        let p = came_some s
        (λ earlier e. shows_out o.0 (local h.begin (before_turn h.past s) o.0) text e) h.past
        o.2 in
        let e = out_is o.0 (local h.begin (before_turn h.past s) o.0) text p.which p.passes in (
          o.0,
          e.r,
          o.1,
          some_came s (λ earlier e'. is_out o.0 e.r e') h.past p.earlier p.which p.at e.out,
          e.low,
          e.shown,
        ),
    λ c.
        let p = came_some s (λ earlier e. is_out c.0 c.1 e) h.past c.3 in
        there_some (has_out h s text) (slice_get h.sessions s) c.0 c.2
        (some_came s (λ earlier e. shows_out c.0 (local h.begin (before_turn h.past s) c.0) text e)
        h.past p.earlier p.which p.at
        (out_shown c.0 (local h.begin (before_turn h.past s) c.0) text p.which c.1 p.passes c.4
        c.5)),
  )

  pub sweep_said : Said (says_sweep h s text) (SweepCause h s text)
  sweep_said = (
    λ t.
        let o = some_passed (has_sweep h s text) (slice_get h.sessions s) t in
        let p = came_some s
        (λ earlier e. shows_sweep o.0 (published h.begin (before_turn h.past s) o.0) text e)
        h.past o.2 in
        let e = sweep_is o.0 (published h.begin (before_turn h.past s) o.0) text p.which
        p.passes in (
          o.0,
          e.r,
          o.1,
          some_came s (λ earlier e'. is_sweep o.0 e.r e') h.past p.earlier p.which p.at e.sweep,
          e.low,
          e.shown,
        ),
    λ c.
        let p = came_some s (λ earlier e. is_sweep c.0 c.1 e) h.past c.3 in
        there_some (has_sweep h s text) (slice_get h.sessions s) c.0 c.2
        (some_came s
        (λ earlier e. shows_sweep c.0 (published h.begin (before_turn h.past s) c.0) text e)
        h.past p.earlier p.which p.at
        (sweep_shown c.0 (published h.begin (before_turn h.past s) c.0) text p.which c.1 p.passes
        c.4 c.5)),
  )

  pub in_said : Said (says_in h s text) (InCause h s text)
  in_said = (
    λ t.
        let o = some_passed (has_in h s text) (slice_get h.sessions s) t in
        let p = came_some s
        (λ earlier e. shows_in h.clusters h.begin (before_turn h.past s) o.0 text e) h.past
        o.2 in
        let e = in_is h.clusters h.begin (before_turn h.past s) o.0 text p.which p.passes in (
          o.0,
          e.v,
          o.1,
          subst (λ (x : Event). Contains (since h.past s) x) e.which
              (came_contains s h.past p.earlier p.which p.at),
          e.known,
          e.shown,
        ),
    λ c.
        let p = contains_came s h.past (event.In c.0 c.1) c.3 in
        there_some (has_in h s text) (slice_get h.sessions s) c.0 c.2
        (some_came s (λ earlier e. shows_in h.clusters h.begin (before_turn h.past s) c.0 text e)
        h.past p.0 (event.In c.0 c.1) p.1
        (in_shown h.clusters h.begin (before_turn h.past s) c.0 text c.1 c.4 c.5)),
  )

  pub collect_said : Said (says_collect h s text) (CollectCause h s text)
  collect_said = (
    λ t.
        let p = came_some s (λ earlier e. shows_collection s text e) h.past t in
        let e = collection_is s text p.which p.passes in (
          e.done,
          subst (λ (x : Event). Contains (since h.past s) x) e.which
              (came_contains s h.past p.earlier p.which p.at),
          e.shown,
        ),
    λ c.
        let p = contains_came s h.past (event.Collected s c.0) c.1 in
        some_came s (λ earlier e. shows_collection s text e) h.past p.0 (event.Collected s c.0) p.1
        (collection_shown s text c.0 c.2),
  )

  pub observe_said : (p : Path) → Said (says_observe h s p text) (ObserveCause h s p text)
  observe_said p = done_or_refused text (limit_refusal p) (came s (λ earlier e. is_pinning s e) h.past)

  pub missed_said : (id : Text) → Said (refuses_checkpoint h s id text) (MissCause h s id text)
  missed_said id = (
    λ t. let p = and_parts (came s (misses s id) h.past) _ t in
        (p.0, is_refused text (no_checkpoint id) p.1),
    λ c. and_whole (came s (misses s id) h.past) _ c.0 (refused_is text (no_checkpoint id) c.1),
  )

  pub release_said : (id : Text) → Said (says_release h s id text) (ReleaseCause h s id text)
  release_said id = (
    λ t. elim (or_parts (came s (λ earlier e. releases id e) h.past && is_answer text Done)
        (refuses_checkpoint h s id text) t) [
          | inl here ↦
              let p = and_parts (came s (λ earlier e. releases id e) h.past) _ here in
              let q = came_some s (λ earlier e. releases id e) h.past p.0 in
              inl (
                subst (λ (x : Event). Contains (since h.past s) x) (release_is id q.which q.passes)
                    (came_contains s h.past q.earlier q.which q.at),
                is_shown text Done p.1,
              )
          | inr there ↦ inr ((missed_said id).0 there)
        ],
    λ c. elim c [
      | inl here ↦
          let p = contains_came s h.past (event.Release id) here.0 in
          or_left _ (refuses_checkpoint h s id text)
          (and_whole (came s (λ earlier e. releases id e) h.past) (is_answer text Done)
          (some_came s (λ earlier e. releases id e) h.past p.0 (event.Release id) p.1
          (release_passes id)) (shown_is text Done here.1))
      | inr there ↦
          or_right (came s (λ earlier e. releases id e) h.past && is_answer text Done) _
          ((missed_said id).1 there)
    ],
  )

  pub checkpoint_said : (law : JcrLaw)
      → Said (says_checkpoint law h s text) (CheckpointCause law h s text)
  checkpoint_said law = (
    λ t.
        let o = some_passed (λ c. shows_checkpoint h.past s text c.who || refuses_id text c.who)
        (call_of law h.begin h.past s) t in
        elim (or_parts (shows_checkpoint h.past s text o.0.who) (refuses_id text o.0.who) o.2) [
          | inl here ↦
              let p = and_parts
              (came s (λ earlier e. keeps (next_id o.0.who) o.0.who.base e) h.past) _ here in
              let q = came_some s (λ earlier e. keeps (next_id o.0.who) o.0.who.base e) h.past
              p.0 in
              inl (
                o.0,
                o.1,
                subst (λ (x : Event). Contains (since h.past s) x)
                    (keep_is (next_id o.0.who) o.0.who.base q.which q.passes)
                    (came_contains s h.past q.earlier q.which q.at),
                is_shown text (ShowsText (next_id o.0.who)) p.1,
              )
          | inr there ↦ let r =
              some_passed (is_refusal text) (too_many_ids (o.0.who.ids + 1)) there in
              inr (o.0, r.0, o.1, r.1, is_refused text r.0 r.2)
        ],
    λ c. elim c [
      | inl here ↦
          let p = contains_came s h.past (event.Checkpoint (next_id here.0.who) here.0.who.base)
          here.2 in
          there_some (λ c. shows_checkpoint h.past s text c.who || refuses_id text c.who)
          (call_of law h.begin h.past s) here.0 here.1
          (or_left (shows_checkpoint h.past s text here.0.who) (refuses_id text here.0.who)
          (and_whole (came s (λ earlier e. keeps (next_id here.0.who) here.0.who.base e) h.past) _
          (some_came s (λ earlier e. keeps (next_id here.0.who) here.0.who.base e) h.past p.0
          (event.Checkpoint (next_id here.0.who) here.0.who.base) p.1
          (keep_passes (next_id here.0.who) here.0.who.base))
          (shown_is text (ShowsText (next_id here.0.who)) here.3)))
      | inr there ↦
          there_some (λ c. shows_checkpoint h.past s text c.who || refuses_id text c.who)
          (call_of law h.begin h.past s) there.0 there.2
          (or_right (shows_checkpoint h.past s text there.0.who) (refuses_id text there.0.who)
          (there_some (is_refusal text) (too_many_ids (there.0.who.ids + 1)) there.1 there.3
          (refused_is text there.1 there.4)))
    ],
  )

  pub split_said : (law : JcrLaw) (p : Path)
      → Said (says_split law h s p text) (SplitCause law h s p text)
  split_said law p = (
    λ t. elim (or_parts (came s (λ earlier e. shows_split s p text e) h.past) _ t) [
      | inl here ↦
          let q = came_some s (λ earlier e. shows_split s p text e) h.past here in
          let e = split_is s p text q.which q.passes in
          inl (
            e.end,
            subst (λ (x : Event). Contains (since h.past s) x) e.which
                (came_contains s h.past q.earlier q.which q.at),
            e.shown,
          )
      | inr there ↦
          let o = some_passed (λ c. refuses_split p text c.base) (call_of law h.begin h.past s)
          there in
          let r = some_passed (is_refusal text) (split_refusal o.0.base p) o.2 in
          inr (o.0, r.0, o.1, r.1, is_refused text r.0 r.2)
    ],
    λ c. elim c [
      | inl here ↦
          let q = contains_came s h.past (event.Split s p here.0) here.1 in
          or_left (came s (λ earlier e. shows_split s p text e) h.past) _
          (some_came s (λ earlier e. shows_split s p text e) h.past q.0 (event.Split s p here.0) q.1
          (split_shown s p text here.0 here.2))
      | inr there ↦
          or_right (came s (λ earlier e. shows_split s p text e) h.past) _
          (there_some (λ c. refuses_split p text c.base) (call_of law h.begin h.past s) there.0
          there.2
          (there_some (is_refusal text) (split_refusal there.0.base p) there.1 there.3
          (refused_is text there.1 there.4)))
    ],
  )

  pub stop_said : (k : ℕ) → Said (says_stop h s k text) (StopCause h s k text)
  stop_said k = (
    λ t. elim (or_parts (came s (λ earlier e. is_stop_of k e) h.past && is_answer text Done) _ t) [
      | inl here ↦
          let p = and_parts (came s (λ earlier e. is_stop_of k e) h.past) _ here in
          inl (sym (came_any s (is_stop_of k) h.past) ∙ p.0, is_shown text Done p.1)
      | inr there ↦
          let p = and_parts (is_own_node h s k || came s (finds_stopped s k) h.past) _ there in
          let is : text ≡ no_support (command.Stop (Some k)) =
          (bytes_eq-Decides text (no_support (command.Stop (Some k)))).0 p.1 in
          elim (or_parts (is_own_node h s k) (came s (finds_stopped s k) h.past) p.0) [
            | inl own ↦ let o = some_passed (λ m. m == k) (slice_get h.sessions s) own in
                inr (inl (o.1 ∙ ap Some ((Decides-eqb o.0 k).0 o.2), is))
            | inr found ↦ inr (inr (found, is))
          ]
    ],
    λ c. elim c [
      | inl here ↦
          or_left (came s (λ earlier e. is_stop_of k e) h.past && is_answer text Done) _
          (and_whole (came s (λ earlier e. is_stop_of k e) h.past) _
          (came_any s (is_stop_of k) h.past ∙ here.0) (shown_is text Done here.1))
      | inr (inl own) ↦
          refusing (or_left (is_own_node h s k) _
          (there_some (λ m. m == k) (slice_get h.sessions s) k own.0
          ((Decides-eqb k k).1 refl))) own.1
      | inr (inr found) ↦ refusing (or_right (is_own_node h s k) _ found.0) found.1
    ],
  )
    where
      refusing : (is_own_node h s k || came s (finds_stopped s k) h.past) ≡ true
          → text ≡ no_support (command.Stop (Some k)) → says_stop h s k text ≡ true
      refusing why is =
          or_right (came s (λ earlier e. is_stop_of k e) h.past && is_answer text Done) _
          (and_whole (is_own_node h s k || came s (finds_stopped s k) h.past) _ why
          ((bytes_eq-Decides text (no_support (command.Stop (Some k)))).1 is))

  pub recover_said : (k : ℕ) → Said (says_recover h s k text) (RecoverCause h s k text)
  recover_said k = (
    λ t. elim (or_parts (came s (shows_recovery k text) h.past) _ t) [
      | inl here ↦
          let p = came_some s (shows_recovery k text) h.past here in
          let e = recovery_is k text p.earlier p.which p.passes in
          inl (
            e.r,
            some_came s (is_recovering k e.r) h.past p.earlier p.which p.at e.recovering,
            e.shown,
          )
      | inr there ↦
          let p = and_parts (not (is_stopped (before_turn h.past s) k)) _ there in
          inr (
            false_of (is_stopped (before_turn h.past s) k) p.0,
            (bytes_eq-Decides text (no_support (command.Recover (Some k)))).0 p.1,
          )
    ],
    λ c. elim c [
      | inl here ↦
          let p = came_some s (is_recovering k here.0) h.past here.1 in
          or_left (came s (shows_recovery k text) h.past) _
          (some_came s (shows_recovery k text) h.past p.earlier p.which p.at
          (recovery_shown k text p.earlier p.which here.0 p.passes here.2))
      | inr there ↦
          or_right (came s (shows_recovery k text) h.past) _
          (and_whole (not (is_stopped (before_turn h.past s) k)) _ (ap not there.0)
          ((bytes_eq-Decides text (no_support (command.Recover (Some k)))).1 there.1))
    ],
  )

  pub events_said : (law : JcrLaw) → Said (says_events law h s text) (EventsCause law h s text)
  events_said law = (
    λ t.
        let o = some_passed (λ c. shows_events h s text c.who.base c.state.cursor)
        (call_of law h.begin h.past s) t in
        let p = and_parts (is_none o.0.state.cursor || came s (λ earlier e. is_pinning s e) h.past)
        _ o.2 in
        let is : text ≡ events_reply (events_since h.begin h.past o.0.who.base o.0.state.cursor) =
        (bytes_eq-Decides text _).0 p.1 in
        elim (or_parts (is_none o.0.state.cursor) _ p.0) [
          | inl none ↦ let n = none_is o.0.state.cursor none in
              inl (
                o.0,
                o.1,
                n,
                is ∙ ap (λ (x : Option Cursor). events_reply
                    (events_since h.begin h.past o.0.who.base x)) n,
              )
          | inr pinned ↦ inr (o.0, o.1, pinned, is)
        ],
    λ c. elim c [
      | inl here ↦
          there_some (λ c. shows_events h s text c.who.base c.state.cursor)
          (call_of law h.begin h.past s) here.0 here.1
          (and_whole (is_none here.0.state.cursor || came s (λ earlier e. is_pinning s e) h.past) _
          (or_left (is_none here.0.state.cursor) _ (ap is_none here.2))
          ((bytes_eq-Decides text
          (events_reply (events_since h.begin h.past here.0.who.base here.0.state.cursor))).1
          (here.3 ∙ sym
          (ap (λ (x : Option Cursor). events_reply
          (events_since h.begin h.past here.0.who.base x)) here.2))))
      | inr there ↦
          there_some (λ c. shows_events h s text c.who.base c.state.cursor)
          (call_of law h.begin h.past s) there.0 there.1
          (and_whole (is_none there.0.state.cursor || came s (λ earlier e. is_pinning s e) h.past) _
          (or_right (is_none there.0.state.cursor) _ there.2)
          ((bytes_eq-Decides text
          (events_reply (events_since h.begin h.past there.0.who.base there.0.state.cursor))).1
          there.3))
    ],
  )
    where
      none_is : (o : Option Cursor) → is_none o ≡ true → o ≡ None
      none_is None k = refl
      none_is (Some x) k = absurd (true≢false (sym k))

  -- of a number that no cluster node can have there is none
  pub any_stop_said : (law : JcrLaw) (o : Option ℕ)
      → Said (option_map_or (λ k. says_stop h s k text) o false)
      (TaskCause law h s (command.Stop o) text)
  any_stop_said law (Some k) = stop_said k
  any_stop_said law None = (λ t. true≢false (sym t), λ c. absurd c)

  pub any_recover_said : (law : JcrLaw) (o : Option ℕ)
      → Said (option_map_or (λ k. says_recover h s k text) o false)
      (TaskCause law h s (command.Recover o) text)
  any_recover_said law (Some k) = recover_said k
  any_recover_said law None = (λ t. true≢false (sym t), λ c. absurd c)

-- a command by what it is, and a test by what it says
pub task_said : (law : JcrLaw) (h : History) (s : ℕ) (m n : Command) (text : List ℕ) (r said : Bool)
    → m ≡ n → r ≡ said → Said said (TaskCause law h s n text) → Said r (TaskCause law h s m text)
task_said law h s m n text r said is was decides = (
  λ t. subst (λ (x : Command). TaskCause law h s x text) (sym is) (decides.0 (sym was ∙ t)),
  λ c. was ∙ decides.1 (subst (λ (x : Command). TaskCause law h s x text) is c),
)

pub task_read : {E : Type 0} (law : JcrLaw) (h : History) (s : ℕ) (m n : Command) (text : List ℕ)
    (r : Result Bool E) (said : Bool) → m ≡ n → Said said (TaskCause law h s n text)
    → IfOk r (λ b. b ≡ said) → IfOk r (λ b. Said b (TaskCause law h s m text))
task_read law h s m n text r said is decides ok =
    IfOk-weaker r _ _ (λ b was. task_said law h s m n text b said is was decides) ok

pub task_asked : {E : Type 0} (law : JcrLaw) (h : History) (s : ℕ) (m n : Command) (text : List ℕ)
    (r : Result Bool E) → m ≡ n
    → IfOk r (λ b. Said b (TaskCause law h s n text))
    → IfOk r (λ b. Said b (TaskCause law h s m text))
task_asked law h s m n text r is ok =
    IfOk-weaker r _ _
    (λ b said. subst (λ (x : Command). Said b (TaskCause law h s x text)) (sym is) said) ok
