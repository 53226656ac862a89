-- What a world keeps: the committer of each session whose draw is in flight; and how it carries
-- what holds.
use Rattle.std.specs.Prelude.{◌≡◌, ℕ, Bool, false, cond, ◌==◌, Option, Some}
use Rattle.jr_rev.specs.declared.revision.Revision.{Revision}
use Rattle.oak_machine.specs.declared.event.Draw.{Draw}
use Rattle.oak_machine.specs.History.{Past}
use Rattle.oak_machine.specs.Commits.{draw_of, is_committed, is_ended}
use Rattle.oak_commit.specs.Clashing.{Writer}
use Rattle.core_read.specs.Commits.{Sight}
use Rattle.core_clash.specs.Core.{Core, Docs, Moved}
use Rattle.core_clash.specs.Sound.{Sound}

-- a committer at work: its draw, where it stands, and whether it is past its commit point
pub record Running : Type 0 where
  pub draw : Draw
  pub writer : Writer
  pub committed : Bool

-- documents, previous documents and past, with the committer of each session that is at work
pub record Kept : Type 0 where
  pub number : ℕ
  pub docs : Docs
  pub moved : Moved
  pub old : Sight
  pub past : Past
  pub running : ℕ → Option Running

-- the core that is kept, with the writers of all draws, also of those that have ended
abbrev pub core_of : Kept → (Revision → Writer) → Core
core_of k writers =
    record {
      number = k.number;
      docs = k.docs;
      moved = k.moved;
      old = k.old;
      past = k.past;
      writers = writers;
    }

-- the committer of session s is the writer of its draw
pub record IsTheirs (past : Past) (writers : Revision → Writer) (s : ℕ) (x : Running) : Type 0 where
  pub session : x.draw.session ≡ s
  pub draw : draw_of past x.draw.revision ≡ Some x.draw
  pub unended : is_ended past x.draw.revision ≡ false
  pub committed : is_committed past x.draw.revision ≡ x.committed
  pub writer : writers x.draw.revision ≡ x.writer

-- there are writers of all draws with which the core is sound, and the committers are those of
-- their draws
pub record IsCarried (k : Kept) : Type 0 where
  pub writers : Revision → Writer
  pub sound : Sound (core_of k writers)
  pub theirs : (s : ℕ) (x : Running) → k.running s ≡ Some x → IsTheirs k.past writers s x

-- the committers of the sessions with this one, or none, for a session
abbrev pub with_running : (ℕ → Option Running) → ℕ → Option Running → ℕ → Option Running
with_running running s x q = cond (q == s) x (running q)
