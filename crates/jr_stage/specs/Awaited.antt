-- What a session awaits, and who keeps it waiting.
use Rattle.std.specs.Prelude.{◌≡◌, ℕ, Bool, ◌==◌, List, [], ◌∷◌, Option, Some, IsTrue, IsFalse}
use Rattle.std.specs.List.{list_any}
use Rattle.jr_rev.specs.declared.revision.Revision.{Revision}
use Rattle.oak_machine.specs.Commits.{is_in_flight}
use Rattle.oak_machine.specs.History.{Past}
use Rattle.oak_machine.specs.Laws.{is_revision_of}
use Rattle.oak_machine.specs.Sessions.{is_drawing}
use Rattle.oak_port.specs.Ports.{HoldsBack}
use Rattle.jr_script.specs.declared.script.Script.{Script}
use Rattle.jr_stage.specs.Places.{is_unseen}

-- of the commits of s that have ended the head sees all but the one that s awaits
abbrev pub IsSeenBut : Script → Past → ℕ → Option Revision → Type 0
IsSeenBut script past s awaited =
    (r : Revision) → IsTrue (is_revision_of past s r) → IsTrue (is_unseen script past r)
    → awaited ≡ Some r

-- ---- who keeps a session waiting

-- a commit of t that is in flight holds the head back from a revision of s
pub record KeepsWaiting (past : Past) (t s : ℕ) : Type 0 where
  pub holding : Revision
  pub held : Revision
  pub theirs : IsTrue (is_revision_of past t holding)
  pub own : IsTrue (is_revision_of past s held)
  pub holds : HoldsBack past holding held

-- no other session keeps s waiting
abbrev pub IsNextToReply : Past → ℕ → Type 0
IsNextToReply past s = (t : ℕ) → IsFalse (t == s) → KeepsWaiting past t s → ⊥

-- no session but s has a commit in flight
abbrev pub IsAlone : Past → ℕ → Type 0
IsAlone past s = (t : ℕ) → IsFalse (t == s) → IsFalse (is_drawing past t)

-- no session has a commit in flight
abbrev pub IsStill : Past → Type 0
IsStill past = (t : ℕ) → IsFalse (is_drawing past t)

-- ---- what turns of a session leave

-- of sessions other than s, the same have a commit in flight as before, and nothing was drawn and
-- nothing is in flight that wasn't
pub record LeavesOtherSessions (old new : Past) (s : ℕ) : Type 0 where
  pub drawing : (t : ℕ) → IsFalse (t == s) → is_drawing new t ≡ is_drawing old t
  pub drawn : (t : ℕ) (r : Revision) → IsFalse (t == s)
      → IsTrue (is_revision_of new t r) → IsTrue (is_revision_of old t r)
  pub flying : (t : ℕ) (r : Revision) → IsFalse (t == s)
      → IsTrue (is_revision_of new t r) → IsTrue (is_in_flight new r) → IsTrue (is_in_flight old r)

-- what s has drawn it had drawn before
abbrev pub DrawsNone : (old new : Past) → ℕ → Type 0
DrawsNone old new s = (r : Revision) → IsTrue (is_revision_of new s r)
    → IsTrue (is_revision_of old s r)

-- ---- sessions in turn

-- t is one of the sessions
abbrev pub is_among : ℕ → List ℕ → Bool
is_among t sessions = list_any (λ s. s == t) sessions

-- each of the sessions stands once, and no later one keeps it waiting
abbrev pub StandInTurn : Past → List ℕ → Type 0
StandInTurn past [] = Unit {0}
StandInTurn past (s ∷ later) =
    ((t : ℕ) → IsTrue (is_among t later) → IsFalse (t == s) × (KeepsWaiting past t s → ⊥))
    × StandInTurn past later

-- just these sessions have a commit in flight, and none is kept waiting by a later one
pub record AreInTurn (past : Past) (sessions : List ℕ) : Type 0 where
  pub flying : (t : ℕ) → is_drawing past t ≡ is_among t sessions
  pub ordered : StandInTurn past sessions
