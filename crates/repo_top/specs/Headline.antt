-- What is printed of a run: the reply lines of its history, and the lines of the documents that it
-- left.
use Rattle.std.specs.Prelude.{ℕ, Bool, true, false, List, ◌++◌, reverse}
use Rattle.oak_machine.specs.declared.event.Journal.{Journal}
use Rattle.oak_machine.specs.History.{History}
use Rattle.oak_world.specs.Worlds.{WorldOf, live}
use Rattle.jr_print.specs.Documents.{documents_text}
use Rattle.jr_print.specs.Replies.{reply_text}

-- a journal that tells this history
abbrev pub journal_of : History → Journal
journal_of h = record {
  clusters = h.clusters;
  sessions = h.sessions;
  events = record { list = reverse h.past; places = 0 };
  start = h.begin;
}

-- the replies of a history, as they are printed
abbrev pub replies_of : History → List ℕ
replies_of h = reply_text (journal_of h)

-- what is printed of a run that left this world: the replies of its history; and, where the
-- documents are asked for, behind them a line for each document of the world, in store order
abbrev pub printed_of : {L : Type 0} → Bool → WorldOf L → List ℕ
printed_of false world = replies_of (live world.history)
printed_of true world = replies_of (live world.history) ++ documents_text world.table
