-- The readers of changes of all sessions: their vectors are held, and they tell them still after a step of one.
use Rattle.std.proofs.Common.{◌≡◌, ℕ, Bool, true, false, cond, Some, None, Option, List, ◌∷◌, [], is_some, refl, sym, ap, subst, ◌∙◌, ◌||◌}
use Rattle.std.specs.Prelude.{◌==◌, slice_get}
use Rattle.std.specs.Option.{option_map_or, unwrap_or}
use Rattle.std.specs.Ordering.{eq_by_cmp}
use mathlib.Core.Bool.{false≢true}
use Rattle.jr_rev.specs.declared.revision.Revision.{Revision}
use Rattle.jr_rev.specs.declared.vector.RevVec.{RevVec}
use Rattle.jr_rev.specs.Revisions.{revision_cmp}
use Rattle.jr_rev.specs.Vectors.{sees}
use Rattle.jr_tree.specs.declared.edit.Write.{Write}
use Rattle.oak_changes.specs.declared.changes.ChangesReader.{ChangesReader}
use Rattle.oak_machine.specs.declared.event.Draw.{Draw}
use Rattle.oak_machine.specs.declared.event.Event.{Event}
use Rattle.oak_machine.specs.declared.event.Event.TheVariants as event
use Rattle.oak_machine.specs.declared.event.StepKind.TheVariants as kind
use Rattle.oak_machine.specs.History.{Past, Begin}
use Rattle.oak_machine.specs.Commits.{is_in_base}
use Rattle.oak_machine.specs.Heads.{head_of}
use Rattle.oak_machine.specs.Laws.{Says, Starts, StartsProper}
use Rattle.oak_machine.specs.Runs.{AreNodes, IsRunOf}
use Rattle.oak_machine.specs.Sessions.{base_of, cursor_at, is_attached, is_stop_of, pinned_at, session_base}
use Rattle.oak_read.specs.Meaning.{documents_in}
use Rattle.oak_store.specs.Tables.{Table}
use Rattle.core_read.specs.Holds.{the_start}
use Rattle.core_read.specs.World.{Progress}
use Rattle.core_read.proofs.Latest.{same_revision}
use Rattle.core_heads.specs.Sound.{IsHeld}
use Rattle.core_heads.proofs.Begins.{begins_run}
use Rattle.core_heads.proofs.Later.{held_kept}
use Rattle.core_heads.proofs.Runs.{fresh_run, held_in_use, later_run, sound_run}
use Rattle.core_keep.specs.Formers.{Formers}
use Rattle.core_keep.specs.Journal.{is_bounded, is_swept}
use Rattle.core_nodes.specs.Nodes.{moved_pin}
use Rattle.core_nodes.proofs.Pins.{base_left, cursor_left}
use Rattle.core_clash.proofs.Basics.{some_is, or_left}
use Rattle.core_changes.specs.Instants.{AreHeld}
use Rattle.core_changes.specs.Observing.{IsObserving}
use Rattle.core_changes.proofs.Steps.{base_stays}
use Rattle.core_world.specs.Kept.{AreObserving, IsBetweenPins}
use Rattle.core_world.proofs.Flights.{same_number, still_on}
use Rattle.core_world.proofs.Letting.{CanGoOn, LetsRead}
use Rattle.core_world.proofs.Logged.{login_node, some_number}
use Rattle.core_world.proofs.Readers.{based_is, pair_held, pinned_held}
use Rattle.core_begun.specs.Kept.{IsKeptSince}
use Rattle.core_begun.proofs.Runs.{told_run, in_use_since}
use Rattle.core_begun.specs.Told.{edit_since, start_in}

-- the event moves the pin of session s, or its cursor
abbrev pub moves_pin_of : ℕ → Event → Bool
moves_pin_of s e = option_map_or (λ t. t == s) (moved_pin e) false

module _ (starts : Starts) (says : Says) (clusters : ℕ) (sessions : List ℕ) (begin : Begin) (nodes : AreNodes clusters sessions) where
  abbrev IsRun : Past → Type 0
  IsRun past = IsRunOf starts says clusters sessions begin past

  abbrev held_on : (e : Event) (past : Past) → IsRun (e ∷ past) → (v : RevVec) → IsHeld begin past v → IsHeld begin (e ∷ past) v
  held_on e past run = held_kept clusters begin past (e ∷ past) (later_run clusters sessions nodes begin starts says e past run)

  -- ---- cursors

  -- a vector at which a session pinned its cursor is held
  pub cursor_held : (past : Past) → IsRun past → (s : ℕ) (v : RevVec) → cursor_at past s ≡ Some v → IsHeld begin past v
  cursor_held [] run s v h = absurd (false≢true (ap is_some h))
  cursor_held (event.Went t kind.Pin ∷ past) run s v h = held_on (event.Went t kind.Pin) past run v (by (λ k. cursor_held past run.1 s v k) (t == s) h)
    where
      by : (cursor_at past s ≡ Some v → IsHeld begin past v) → (b : Bool) → cond b (session_base past s) (cursor_at past s) ≡ Some v → IsHeld begin past v
      by rest true k = pinned_held starts says clusters sessions begin nodes past run.1 s v (based_is past s v k).base
      by rest false k = rest k
  cursor_held (event.Went t kind.End ∷ past) run s v h = held_on (event.Went t kind.End) past run v (by (λ k. cursor_held past run.1 s v k) (t == s) h)
    where
      by : (cursor_at past s ≡ Some v → IsHeld begin past v) → (b : Bool) → cond b None (cursor_at past s) ≡ Some v → IsHeld begin past v
      by rest true k = absurd (false≢true (ap is_some k))
      by rest false k = rest k
  cursor_held (e ∷ past) run s v h = held_on e past run v (cursor_held past run.1 s v h)

  module _ (s k : ℕ) (of : slice_get sessions s ≡ Some k) where
    abbrev rises : (e : Event) (past : Past) → IsRun (e ∷ past) → (x : Revision) → sees (head_of clusters begin past k) x ≡ true → sees (head_of clusters begin (e ∷ past) k) x ≡ true
    rises e past run = (later_run clusters sessions nodes begin starts says e past run).heads k (nodes.node s k of)

    -- the vector at which a session was pinned last is at most the head of its node
    pinned_headed : (past : Past) → IsRun past → (v : RevVec) → pinned_at past s ≡ Some v → (x : Revision) → sees v x ≡ true → sees (head_of clusters begin past k) x ≡ true
    pinned_headed [] run v h x seen = absurd (false≢true (ap is_some h))
    pinned_headed (event.Login t u ∷ past) run v h x seen = by (λ k. pinned_headed past run.1 v k x seen) (t == s) refl
      where
        by : (pinned_at past s ≡ Some v → sees (head_of clusters begin past k) x ≡ true) → (b : Bool) → (t == s) ≡ b → sees (head_of clusters begin (event.Login t u ∷ past) k) x ≡ true
        by rest true e = (sound_run clusters sessions nodes begin starts says (event.Login t u ∷ past) run).headed s k v of (ap (λ b. cond b false (is_attached past s)) e)
            (ap (λ b. cond b (Some u) (base_of past s)) e ∙ (sym (ap (λ b. cond b (Some u) (pinned_at past s)) e) ∙ h)) x seen
        by rest false e = rises (event.Login t u) past run x (rest (sym (ap (λ b. cond b (Some u) (pinned_at past s)) e) ∙ h))
    pinned_headed (event.Refresh t u ∷ past) run v h x seen = by (λ k. pinned_headed past run.1 v k x seen) (t == s) refl
      where
        by : (pinned_at past s ≡ Some v → sees (head_of clusters begin past k) x ≡ true) → (b : Bool) → (t == s) ≡ b → sees (head_of clusters begin (event.Refresh t u ∷ past) k) x ≡ true
        by rest true e = (sound_run clusters sessions nodes begin starts says (event.Refresh t u ∷ past) run).headed s k v of (ap (λ b. cond b false (is_attached past s)) e)
            (ap (λ b. cond b (Some u) (base_of past s)) e ∙ (sym (ap (λ b. cond b (Some u) (pinned_at past s)) e) ∙ h)) x seen
        by rest false e = rises (event.Refresh t u) past run x (rest (sym (ap (λ b. cond b (Some u) (pinned_at past s)) e) ∙ h))
    pinned_headed (e ∷ past) run v h x seen = rises e past run x (pinned_headed past run.1 v h x seen)

    -- and so is its cursor
    cursor_headed : (past : Past) → IsRun past → (v : RevVec) → cursor_at past s ≡ Some v → (x : Revision) → sees v x ≡ true → sees (head_of clusters begin past k) x ≡ true
    cursor_headed [] run v h x seen = absurd (false≢true (ap is_some h))
    cursor_headed (event.Went t kind.Pin ∷ past) run v h x seen = rises (event.Went t kind.Pin) past run x (by (λ i. cursor_headed past run.1 v i x seen) (t == s) h)
      where
        by : (cursor_at past s ≡ Some v → sees (head_of clusters begin past k) x ≡ true) → (b : Bool) → cond b (session_base past s) (cursor_at past s) ≡ Some v → sees (head_of clusters begin past k) x ≡ true
        by rest true i = pinned_headed past run.1 v (based_is past s v i).base x seen
        by rest false i = rest i
    cursor_headed (event.Went t kind.End ∷ past) run v h x seen = rises (event.Went t kind.End) past run x (by (λ i. cursor_headed past run.1 v i x seen) (t == s) h)
      where
        by : (cursor_at past s ≡ Some v → sees (head_of clusters begin past k) x ≡ true) → (b : Bool) → cond b None (cursor_at past s) ≡ Some v → sees (head_of clusters begin past k) x ≡ true
        by rest true i = absurd (false≢true (ap is_some i))
        by rest false i = rest i
    cursor_headed (e ∷ past) run v h x seen = rises e past run x (cursor_headed past run.1 v h x seen)

    -- a pin that moved is at the head
    moved : (past : Past) (t : ℕ) (o u : RevVec) (j : ℕ) → slice_get sessions t ≡ Some j → o ≡ head_of clusters begin past j → (t == s) ≡ true → Some o ≡ Some u → (x : Revision) → sees (head_of clusters begin past k) x ≡ true → sees u x ≡ true
    moved past t o u j on is e same x seen =
        let number : k ≡ j = some_is (sym on ∙ (ap (slice_get sessions) (same_number t s e) ∙ of)) in
        subst (λ (w : RevVec). sees w x ≡ true) (sym (some_is same ∙ (is ∙ ap (head_of clusters begin past) (sym number)))) seen

    -- a session's cursor is at most its own pin: the pin moves to the head of its node alone
    pub cursor_below : (past : Past) → IsRun past → (v u : RevVec) → cursor_at past s ≡ Some v → pinned_at past s ≡ Some u → (x : Revision) → sees v x ≡ true → sees u x ≡ true
    cursor_below [] run v u h i x seen = absurd (false≢true (ap is_some h))
    cursor_below (event.Login t o ∷ past) run v u h i x seen = by (λ j. cursor_below past run.1 v u h j x seen) (t == s) refl i
      where
        by : (pinned_at past s ≡ Some u → sees u x ≡ true) → (b : Bool) → (t == s) ≡ b → cond b (Some o) (pinned_at past s) ≡ Some u → sees u x ≡ true
        by rest true e j = moved past t o u run.0.head.0 run.0.head.1 run.0.head.2 e j x (cursor_headed past run.1 v h x seen)
        by rest false e j = rest j
    cursor_below (event.Refresh t o ∷ past) run v u h i x seen = by (λ j. cursor_below past run.1 v u h j x seen) (t == s) refl i
      where
        by : (pinned_at past s ≡ Some u → sees u x ≡ true) → (b : Bool) → (t == s) ≡ b → cond b (Some o) (pinned_at past s) ≡ Some u → sees u x ≡ true
        by rest true e j = moved past t o u run.0.head.0 run.0.head.1 run.0.head.2 e j x (cursor_headed past run.1 v h x seen)
        by rest false e j = rest j
    cursor_below (event.Went t kind.Pin ∷ past) run v u h i x seen = by (λ j. cursor_below past run.1 v u j i x seen) (t == s) h
      where
        by : (cursor_at past s ≡ Some v → sees u x ≡ true) → (b : Bool) → cond b (session_base past s) (cursor_at past s) ≡ Some v → sees u x ≡ true
        by rest true j = subst (λ (o : RevVec). sees o x ≡ true) (sym (some_is (sym (based_is past s v j).base ∙ i))) seen
        by rest false j = rest j
    cursor_below (event.Went t kind.End ∷ past) run v u h i x seen = by (λ j. cursor_below past run.1 v u j i x seen) (t == s) h
      where
        by : (cursor_at past s ≡ Some v → sees u x ≡ true) → (b : Bool) → cond b None (cursor_at past s) ≡ Some v → sees u x ≡ true
        by rest true j = absurd (false≢true (ap is_some j))
        by rest false j = rest j
    cursor_below (e ∷ past) run v u h i x seen = cursor_below past run.1 v u h i x seen

  -- ---- what a reader of changes lies between

  -- its vectors are held
  pub between_are_held : (past : Past) → IsRun past → (s : ℕ) (r : ChangesReader) → IsBetweenPins (start_in clusters begin) past s r → AreHeld (start_in clusters begin) past r.from r.pin
  between_are_held past run s r is =
      let own = based_is past s r.pin.base is.own in
      let there = some_number (slice_get sessions s) (login_node starts says clusters sessions begin past s run own.login) in
      record {
        to = pair_held (start_in clusters begin) past r.pin (held_in_use begin past r.pin.base (pinned_held starts says clusters sessions begin nodes past run s r.pin.base own.base)) is.pair is.above;
        used = in_use_since (start_in clusters begin) past r.from (held_in_use begin past r.from (cursor_held past run s r.from is.cursor)) (λ o old. is.above_cursor o (or_left (sees (start_in clusters begin).at o) _ old));
        above = is.above_cursor;
        below = λ x seen. cursor_below s (unwrap_or (slice_get sessions s) 0) there past run r.from r.pin.base is.cursor own.base x seen;
      }

  -- it lies there still after an event that moves neither and is no bound
  pub between_on : (past : Past) (e : Event) (s : ℕ) (r : ChangesReader) → moves_pin_of s e ≡ false → ((o : Revision) → is_bounded (e ∷ past) o ≡ is_bounded past o) → ((o : Revision) → is_swept (e ∷ past) o ≡ is_swept past o) → IsBetweenPins (start_in clusters begin) past s r → IsBetweenPins (start_in clusters begin) (e ∷ past) s r
  between_on past e s r stays bounds sweeps is = record {
    cursor = cursor_left past e s stays ∙ is.cursor;
    own = base_left past e s stays ∙ is.own;
    pair = is.pair;
    above = record { base = λ o h. is.above.base o (sym (ap (λ c. sees (start_in clusters begin).at o || c) (bounds o)) ∙ h); sweep = λ o h. is.above.sweep o (sym (ap (λ c. sees (start_in clusters begin).at o || c) (sweeps o)) ∙ h) };
    above_cursor = λ o h. is.above_cursor o (sym (ap (λ c. sees (start_in clusters begin).at o || c) (bounds o)) ∙ h);
  }

  -- ---- committed revisions keep their bases

  module _ (proper : StartsProper starts) where
    new_draw : (past : Past) (d : Draw) → IsRun (event.Draw d ∷ past) → edit_since past d.revision ≡ None
    new_draw past d run = by (edit_since past d.revision) refl
      where
        by : (o : Option (List Write)) → edit_since past d.revision ≡ o → o ≡ None
        by None h = refl
        by (Some ws) h =
            let f = (told_run starts says proper clusters sessions nodes begin past run.1).edits d.revision ws h in
            absurd (false≢true (ap is_some (sym (fresh_run clusters sessions nodes begin starts says d past run).fresh ∙ f.1)))

    bases_on : (past : Past) (e : Event) → IsRun (e ∷ past) → (q : Revision) (ws : List Write) → edit_since past q ≡ Some ws → (o : Revision) → is_in_base (e ∷ past) q o ≡ is_in_base past q o
    bases_on past e run q ws h o = base_stays past e (λ d is. new_draw past d (subst (λ (f : Event). IsRun (f ∷ past)) is run)) q ws h o

    -- ---- what all readers of changes tell

    -- over an event, with other documents and more former ones, where each lies between its pins then too
    pub still_tells : (past : Past) (e : Event) → IsRun (e ∷ past) → (t u : Table) (formers more : Formers) (observing : ℕ → Option ChangesReader) → AreObserving (start_in clusters begin) sessions past t formers observing
        → ((s : ℕ) (r : ChangesReader) → observing s ≡ Some r → IsBetweenPins (start_in clusters begin) (e ∷ past) s r) → (done : Progress) → IsKeptSince (start_in clusters begin) (documents_in u.documents) (e ∷ past) done
        → ((r : ChangesReader) → CanGoOn (start_in clusters begin) u past (e ∷ past) r → IsObserving (start_in clusters begin) (documents_in t.documents) past formers r → IsObserving (start_in clusters begin) (documents_in u.documents) (e ∷ past) more r)
        → (s : ℕ) (r : ChangesReader) → observing s ≡ Some r → IsObserving (start_in clusters begin) (documents_in u.documents) (e ∷ past) more r
    still_tells past e run t u formers more observing are between done world lets s r h = lets r
        (record {
          done = done;
          world = world;
          then = between_are_held past run.1 s r (are.between s r h);
          now = between_are_held (e ∷ past) run s r (between s r h);
          bases = bases_on past e run;
        })
        (are.tells s r h)

    -- so all go on over an event that is no stop
    pub observers_last : (past : Past) (e : Event) → IsRun (e ∷ past) → (t u : Table) (formers more : Formers) (observing : ℕ → Option ChangesReader) → AreObserving (start_in clusters begin) sessions past t formers observing
        → ((k : ℕ) → is_stop_of k e ≡ false) → ((s : ℕ) (r : ChangesReader) → observing s ≡ Some r → IsBetweenPins (start_in clusters begin) (e ∷ past) s r)
        → (done : Progress) → IsKeptSince (start_in clusters begin) (documents_in u.documents) (e ∷ past) done
        → ((r : ChangesReader) → CanGoOn (start_in clusters begin) u past (e ∷ past) r → IsObserving (start_in clusters begin) (documents_in t.documents) past formers r → IsObserving (start_in clusters begin) (documents_in u.documents) (e ∷ past) more r)
        → AreObserving (start_in clusters begin) sessions (e ∷ past) u more observing
    observers_last past e run t u formers more observing are on between done world lets = record {
      goes = λ s r h. still_on sessions past e on s ∙ are.goes s r h;
      apart = are.apart;
      between = between;
      tells = still_tells past e run t u formers more observing are between done world lets;
    }

    -- over an event that moves none of these pins, by which readers read on
    pub event_observes : (past : Past) (e : Event) → IsRun (e ∷ past) → (t u : Table) (formers : Formers) (observing : ℕ → Option ChangesReader) → AreObserving (start_in clusters begin) sessions past t formers observing
        → ((k : ℕ) → is_stop_of k e ≡ false) → ((s : ℕ) (r : ChangesReader) → observing s ≡ Some r → moves_pin_of s e ≡ false)
        → (done : Progress) → IsKeptSince (start_in clusters begin) (documents_in u.documents) (e ∷ past) done → LetsRead (start_in clusters begin) t u past (e ∷ past) → AreObserving (start_in clusters begin) sessions (e ∷ past) u formers observing
    event_observes past e run t u formers observing are on stays done world lets = observers_last past e run t u formers formers observing are on
        (λ s r h. between_on past e s r (stays s r h) lets.bounds lets.sweeps (are.between s r h)) done world (lets.observes formers)

-- ---- whose reader of changes it is

-- a session that reads no changes is another
pub apart_observing : (observing : ℕ → Option ChangesReader) (s : ℕ) → observing s ≡ None → (q : ℕ) (r : ChangesReader) → observing q ≡ Some r → (s == q) ≡ false
apart_observing observing s none q r h = by (s == q) refl
  where
    by : (b : Bool) → (s == q) ≡ b → b ≡ false
    by false e = refl
    by true e = absurd (false≢true (ap (λ (o : Option ChangesReader). is_some o) (sym none ∙ (ap observing (same_number s q e) ∙ h))))

-- an event that moves a pin of another session
pub moves_apart : (observing : ℕ → Option ChangesReader) (s : ℕ) → observing s ≡ None → (e : Event) → moved_pin e ≡ Some s → (q : ℕ) (r : ChangesReader) → observing q ≡ Some r → moves_pin_of q e ≡ false
moves_apart observing s none e moved q r h = ap (λ o. option_map_or (λ n. n == q) o false) moved ∙ apart_observing observing s none q r h

-- and one that moves no pin
pub moves_none : (e : Event) → moved_pin e ≡ None → (q : ℕ) → moves_pin_of q e ≡ false
moves_none e none q = ap (λ o. option_map_or (λ n. n == q) o false) none
