-- The readers of all sessions, after a step of one.
use Rattle.std.proofs.Common.{◌≡◌, ℕ, Bool, true, false, cond, not, ◌&&◌, ◌||◌, Some, None, Option, List, [], ◌∷◌, is_some, refl, sym, ap, ◌∙◌}
use Rattle.std.specs.Prelude.{◌==◌}
use Rattle.std.specs.Option.{option_map_or}
use mathlib.Core.Bool.{false≢true}
use Rattle.jr_rev.specs.declared.revision.Revision.{Revision}
use Rattle.jr_rev.specs.declared.vector.RevVec.{RevVec}
use Rattle.oak_machine.specs.declared.event.Event.{Event}
use Rattle.oak_machine.specs.History.{Past, Begin}
use Rattle.oak_machine.specs.Commits.{is_commit_of}
use Rattle.oak_machine.specs.declared.event.Event.TheVariants as event
use Rattle.oak_machine.specs.declared.event.StepKind.TheVariants as kind
use Rattle.oak_machine.specs.Sessions.{base_of, has_left, has_login, is_attached, last_checkpoint, pinned_at, session_base}
use Rattle.oak_read.specs.declared.reader.Reader.{Reader}
use Rattle.oak_read.specs.Meaning.{documents_in}
use Rattle.oak_store.specs.Tables.{Table}
use Rattle.core_nodes.specs.Nodes.{moved_pin}
use Rattle.oak_machine.specs.Laws.{Says, Starts}
use Rattle.oak_machine.specs.Runs.{AreNodes, IsRunOf}
use Rattle.core_heads.specs.Sound.{IsHeld}
use Rattle.core_heads.proofs.Later.{held_kept}
use Rattle.core_heads.proofs.Runs.{later_run, sound_run}
use Rattle.core_read.specs.World.{Progress}
use Rattle.core_nodes.specs.Nodes.{IsPair}
use Rattle.jr_rev.specs.declared.vector.Pin.{Pin}
use Rattle.jr_rev.specs.Vectors.{sees}
use Rattle.oak_machine.specs.Commits.{is_in_flight}
use Rattle.core_keep.specs.Formers.{Formers}
use Rattle.core_world.specs.Kept.{AreReading, IsAboveBounds, live_base}
use Rattle.core_world.proofs.Letting.{is_bound, LetsRead, lets_calm}
use Rattle.core_world.proofs.Flights.{same_number}
use Rattle.oak_machine.specs.declared.event.Start.{Start}
use Rattle.core_begun.specs.Kept.{IsHeldSince as IsHeldPair, IsKeptSince}
use Rattle.core_begun.specs.Told.{IsInUseSince}
use Rattle.core_begun.proofs.Runs.{in_use_since}
use Rattle.core_read.specs.Told.{IsInUse}
use Rattle.core_clash.proofs.Basics.{or_left}

-- ---- a pin of a session

-- the session has logged in and hasn't left, and was pinned at this vector
pub record HasBase (past : Past) (s : ℕ) (v : RevVec) : Type 0 where
  pub login : has_login past s ≡ true
  pub stays : has_left past s ≡ false
  pub base : pinned_at past s ≡ Some v

pub based_is : (past : Past) (s : ℕ) (v : RevVec) → session_base past s ≡ Some v → HasBase past s v
based_is past s v h = by (has_login past s) (has_left past s) refl refl h
  where
    by : (a b : Bool) → has_login past s ≡ a → has_left past s ≡ b → cond (a && not b) (pinned_at past s) None ≡ Some v → HasBase past s v
    by false b l m k = absurd (false≢true (ap is_some k))
    by true true l m k = absurd (false≢true (ap is_some k))
    by true false l m k = record { login = l; stays = m; base = k }

pub session_based : (past : Past) (s : ℕ) (v : RevVec) → has_login past s ≡ true → has_left past s ≡ false → pinned_at past s ≡ Some v → session_base past s ≡ Some v
session_based past s v l m b =
    ap (λ a. cond (a && not (has_left past s)) (pinned_at past s) None) l
    ∙ (ap (λ a. cond (not a) (pinned_at past s) None) m
    ∙ b)

-- the base of a session that isn't attached is the vector at which it was pinned
pub detached_base : (past : Past) (s : ℕ) → is_attached past s ≡ false → base_of past s ≡ pinned_at past s
detached_base [] s h = refl
detached_base (event.Login t v ∷ past) s h = by (λ d. detached_base past s d) (t == s) h
  where
    by : (is_attached past s ≡ false → base_of past s ≡ pinned_at past s) → (b : Bool) → cond b false (is_attached past s) ≡ false → cond b (Some v) (base_of past s) ≡ cond b (Some v) (pinned_at past s)
    by rest true d = refl
    by rest false d = rest d
detached_base (event.Refresh t v ∷ past) s h = by (λ d. detached_base past s d) (t == s) h
  where
    by : (is_attached past s ≡ false → base_of past s ≡ pinned_at past s) → (b : Bool) → cond b false (is_attached past s) ≡ false → cond b (Some v) (base_of past s) ≡ cond b (Some v) (pinned_at past s)
    by rest true d = refl
    by rest false d = rest d
detached_base (event.Attach t id ∷ past) s h = by (λ d. detached_base past s d) (t == s) h
  where
    by : (is_attached past s ≡ false → base_of past s ≡ pinned_at past s) → (b : Bool) → cond b true (is_attached past s) ≡ false → cond b (last_checkpoint past id) (base_of past s) ≡ pinned_at past s
    by rest true d = absurd (false≢true (sym d))
    by rest false d = rest d
detached_base (e ∷ past) s h = detached_base past s h

-- ---- bases

-- the session has logged in and hasn't left, and this is its base
pub record HasLive (past : Past) (s : ℕ) (v : RevVec) : Type 0 where
  pub login : has_login past s ≡ true
  pub stays : has_left past s ≡ false
  pub base : base_of past s ≡ Some v

pub live_is : (past : Past) (s : ℕ) (v : RevVec) → live_base past s ≡ Some v → HasLive past s v
live_is past s v h = by (has_login past s) (has_left past s) refl refl h
  where
    by : (a b : Bool) → has_login past s ≡ a → has_left past s ≡ b → cond (a && not b) (base_of past s) None ≡ Some v → HasLive past s v
    by false b l m k = absurd (false≢true (ap is_some k))
    by true true l m k = absurd (false≢true (ap is_some k))
    by true false l m k = record { login = l; stays = m; base = k }

pub is_live : (past : Past) (s : ℕ) (v : RevVec) → has_login past s ≡ true → has_left past s ≡ false → base_of past s ≡ Some v → live_base past s ≡ Some v
is_live past s v l m b =
    ap (λ a. cond (a && not (has_left past s)) (base_of past s) None) l
    ∙ (ap (λ a. cond (not a) (base_of past s) None) m
    ∙ b)

-- the session whose base the event moves, or which leaves
abbrev pub moved_base : Event → Option ℕ
moved_base (event.Attach s id) = Some s
moved_base e = moved_pin e

-- the event moves the base of session s
abbrev pub moves_base_of : ℕ → Event → Bool
moves_base_of s e = option_map_or (λ t. t == s) (moved_base e) false

pub live_left : (past : Past) (e : Event) (s : ℕ) → moves_base_of s e ≡ false → live_base (e ∷ past) s ≡ live_base past s
live_left past (event.Login t v) s h = ap (λ b. cond ((b || has_login past s) && not (has_left past s)) (cond b (Some v) (base_of past s)) None) h
live_left past (event.Refresh t v) s h = ap (λ b. cond (has_login past s && not (has_left past s)) (cond b (Some v) (base_of past s)) None) h
live_left past (event.Attach t id) s h = ap (λ b. cond (has_login past s && not (has_left past s)) (cond b (last_checkpoint past id) (base_of past s)) None) h
live_left past (event.Went t kind.End) s h = ap (λ b. cond (has_login past s && not (b || has_left past s)) (base_of past s) None) h
live_left past e s h = refl

-- a pair in use that is above the bounds so far is held
pub pair_held : (start : Start) (past : Past) (x : Pin) → IsInUse past x.base → IsPair x.base x.sweep → IsAboveBounds start past x → IsHeldPair start past x.base x.sweep
pair_held start past x used pair above = record { base = in_use_since start past x.base used (λ o old. above.base o (or_left (sees start.at o) _ old)); quiet = λ r seen none. by r seen (is_in_flight past r) refl; above = above.base; swept = above.sweep }
  where
    by : (r : Revision) → sees x.sweep r ≡ true → (b : Bool) → is_in_flight past r ≡ b → b ≡ false
    by r seen false f = refl
    by r seen true f = absurd (false≢true (sym (used.settled r f) ∙ pair.below r seen))

module _ (start : Start) (past : Past) (t : Table) (formers : Formers) (reading : ℕ → Option Reader) (are : AreReading start past t formers reading) (held : (s : ℕ) (r : Reader) → reading s ≡ Some r → IsHeldPair start past r.pin.base r.pin.sweep) where
  -- an event, with documents by which each reader reads on
  pub event_reads : (e : Event) (u : Table) → LetsRead start t u past (e ∷ past) → ((s : ℕ) (r : Reader) → reading s ≡ Some r → moves_base_of s e ≡ false) → AreReading start (e ∷ past) u formers reading
  event_reads e u lets apart = record {
    told = lets.tells formers are.told;
    reads = λ s r h. lets.reads formers r (held s r h) (are.reads s r h);
    above = λ s r h. record { base = λ q b. (are.above s r h).base q (sym (ap (λ c. sees start.at q || c) (lets.bounds q)) ∙ b); sweep = λ q b. (are.above s r h).sweep q (sym (ap (λ c. sees start.at q || c) (lets.sweeps q)) ∙ b) };
    at_base = λ s r h. live_left past e s (apart s r h) ∙ are.at_base s r h;
    pairs = are.pairs;
  }

  -- an event that is no Commit and no Bound, where no document is changed
  pub quiet_reads : (done : Progress) → IsKeptSince start (documents_in t.documents) past done → (e : Event) → ((q : Revision) → is_commit_of q e ≡ false) → is_bound e ≡ false → ((s : ℕ) (r : Reader) → reading s ≡ Some r → moves_base_of s e ≡ false) → AreReading start (e ∷ past) t formers reading
  quiet_reads done world e h calm apart = event_reads e t (lets_calm start t past done world e h calm) apart

  -- an event that moves the pin of one session, which reads nothing
  pub apart_from : (s : ℕ) → reading s ≡ None → (q : ℕ) (r : Reader) → reading q ≡ Some r → (s == q) ≡ false
  apart_from s none q r h = by (s == q) refl
    where
      by : (b : Bool) → (s == q) ≡ b → b ≡ false
      by false e = refl
      by true e = absurd (false≢true (ap (λ (o : Option Reader). is_some o) (sym none ∙ (ap reading (same_number s q e) ∙ h))))

  pub pin_reads : (done : Progress) → IsKeptSince start (documents_in t.documents) past done → (e : Event) (s : ℕ) → ((q : Revision) → is_commit_of q e ≡ false) → is_bound e ≡ false → moved_base e ≡ Some s → reading s ≡ None → AreReading start (e ∷ past) t formers reading
  pin_reads done world e s h calm moved none = quiet_reads done world e h calm (λ q r k. ap (λ o. option_map_or (λ n. n == q) o false) moved ∙ apart_from s none q r k)

-- ---- pins of memories

-- a session that has logged in was pinned
pub some_pinned : (past : Past) (s : ℕ) → has_login past s ≡ true → is_some (pinned_at past s) ≡ true
some_pinned [] s login = absurd (false≢true login)
some_pinned (event.Login t v ∷ past) s login = by (some_pinned past s) (t == s) login
  where
    by : (has_login past s ≡ true → is_some (pinned_at past s) ≡ true) → (b : Bool) → (b || has_login past s) ≡ true → is_some (cond b (Some v) (pinned_at past s)) ≡ true
    by rest true l = refl
    by rest false l = rest l
some_pinned (event.Refresh t v ∷ past) s login = by (some_pinned past s login) (t == s)
  where
    by : is_some (pinned_at past s) ≡ true → (b : Bool) → is_some (cond b (Some v) (pinned_at past s)) ≡ true
    by rest true = refl
    by rest false = rest
some_pinned (e ∷ past) s login = some_pinned past s login

-- a vector at which a session was pinned is held, also while it is attached
pub pinned_held : (starts : Starts) (says : Says) (clusters : ℕ) (sessions : List ℕ) (begin : Begin) (nodes : AreNodes clusters sessions) (past : Past) → IsRunOf starts says clusters sessions begin past → (s : ℕ) (v : RevVec) → pinned_at past s ≡ Some v → IsHeld begin past v
pinned_held starts says clusters sessions begin nodes [] run s v h = absurd (false≢true (ap is_some h))
pinned_held starts says clusters sessions begin nodes (event.Login t u ∷ past) run s v h = by (λ k. pinned_held starts says clusters sessions begin nodes past run.1 s v k) (t == s) refl
  where
    by : (pinned_at past s ≡ Some v → IsHeld begin past v) → (b : Bool) → (t == s) ≡ b → IsHeld begin (event.Login t u ∷ past) v
    by rest true e = (sound_run clusters sessions nodes begin starts says (event.Login t u ∷ past) run).bases s v (ap (λ b. cond b (Some u) (base_of past s)) e ∙ (sym (ap (λ b. cond b (Some u) (pinned_at past s)) e) ∙ h))
    by rest false e = held_kept clusters begin past (event.Login t u ∷ past) (later_run clusters sessions nodes begin starts says (event.Login t u) past run) v (rest (sym (ap (λ b. cond b (Some u) (pinned_at past s)) e) ∙ h))
pinned_held starts says clusters sessions begin nodes (event.Refresh t u ∷ past) run s v h = by (λ k. pinned_held starts says clusters sessions begin nodes past run.1 s v k) (t == s) refl
  where
    by : (pinned_at past s ≡ Some v → IsHeld begin past v) → (b : Bool) → (t == s) ≡ b → IsHeld begin (event.Refresh t u ∷ past) v
    by rest true e = (sound_run clusters sessions nodes begin starts says (event.Refresh t u ∷ past) run).bases s v (ap (λ b. cond b (Some u) (base_of past s)) e ∙ (sym (ap (λ b. cond b (Some u) (pinned_at past s)) e) ∙ h))
    by rest false e = held_kept clusters begin past (event.Refresh t u ∷ past) (later_run clusters sessions nodes begin starts says (event.Refresh t u) past run) v (rest (sym (ap (λ b. cond b (Some u) (pinned_at past s)) e) ∙ h))
pinned_held starts says clusters sessions begin nodes (e ∷ past) run s v h = held_kept clusters begin past (e ∷ past) (later_run clusters sessions nodes begin starts says e past run) v (pinned_held starts says clusters sessions begin nodes past run.1 s v h)
