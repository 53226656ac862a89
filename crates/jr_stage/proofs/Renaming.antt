-- Where a session stands doesn't hang on what stands beside it at its port, nor on what is due.
use Rattle.std.proofs.Common.{Bool, Option}
use Rattle.oak_machine.specs.declared.event.StepKind.{StepKind}
use Rattle.oak_port.specs.Ports.{Beside, Shown}
use Rattle.oak_commit.specs.declared.outcome.CommitEnd.{CommitEnd}
use Rattle.oak_commit.specs.declared.outcome.CommitEnd.TheVariants as commit
use Rattle.jcr_law.specs.declared.law.JcrLaw.{JcrLaw}
use Rattle.jcr_law.specs.State.{Call}
use Rattle.jr_rev.specs.declared.vector.RevVec.{RevVec}
use Rattle.jcr_run.specs.declared.run.Pledge.{Pledge}
use Rattle.jcr_run.specs.declared.run.Phase.{Phase}
use Rattle.jcr_run.specs.declared.run.Phase.TheVariants as phase
use Rattle.jcr_run.specs.declared.run.SessionRun.{SessionRun}
use Rattle.jcr_run.specs.Standing.{HasCommitted, IsFor, IsHalfDetached, IsIn, IsOnCommand, Stands, StandsAt}
use Rattle.jcr_trans.specs.declared.command.Command.{Command}

module _ (law : JcrLaw) (p : Shown) (b : Beside) (d : Option StepKind) (run : SessionRun) where
  abbrev q : Shown
  q = record p { beside = b; due = d }

  in_renamed : (attached : Bool) → IsIn law p attached → IsIn law q attached
  in_renamed attached i = record {
    nodes = i.nodes;
    trees = i.trees;
    typed = i.typed;
    run = i.run;
    login = i.login;
    stays = i.stays;
    began = i.began;
    cursor = i.cursor;
  }

  for_renamed : (c : Call) (a : Pledge) → IsFor p run c a → IsFor q run c a
  for_renamed c a i = record {
    command = i.command;
    next = i.next;
    commits = i.commits;
    holds = i.holds;
    settled = i.settled;
    accepts = i.accepts;
    place = i.place;
    proper = i.proper;
    referring = i.referring;
    drew = i.drew;
  }

  committed_renamed : (c : Call) (e : CommitEnd) → HasCommitted law p c e
      → HasCommitted law q c e
  committed_renamed c (commit.Committed r) h = h
  committed_renamed c (commit.Clash item o) h = h
  committed_renamed c commit.Memory h = h

  command_renamed : (m : Command) (c : Call) → IsOnCommand law p run m c → IsOnCommand law q run m c
  command_renamed m c h = record {
    unread = h.unread;
    next = h.next;
    is = h.is;
    holds = h.holds;
    fresh = h.fresh;
  }

  half_renamed : (v : RevVec) → IsHalfDetached law p run v → IsHalfDetached law q run v
  half_renamed v h = record {
    unread = h.unread;
    command = h.command;
    next = h.next;
    detaches = h.detaches;
    fresh = h.fresh;
    call = h.call;
    holds = h.holds;
    settled = h.settled;
    tree = h.tree;
    tree_is = h.tree_is;
    is = h.is;
    unpinned = h.unpinned;
    stands = h.stands;
    moved = h.moved;
    whole = h.whole;
    eight = h.eight;
    place = h.place;
  }

  at_renamed : (f : Phase) → StandsAt law p run f → StandsAt law q run f
  at_renamed phase.Outside h = record {
    idle = h.idle;
    first = h.first;
    out = h.out;
    unread = h.unread;
    unlisted = h.unlisted;
    holds = h.holds;
    still = h.still;
    detached = h.detached;
  }
  at_renamed phase.Between (i, h) = (
    in_renamed run.attached i,
    record {
      unmoved = h.unmoved;
      unpinned = h.unpinned;
      call = h.call;
      is = h.is;
      holds = h.holds;
      fresh = h.fresh;
      reads = h.reads;
      due = h.due;
      for = h.for;
      wanted = h.wanted;
      changes = h.changes;
    },
  )
  at_renamed (phase.Moved v) (i, h) = (
    in_renamed run.attached i,
    record {
      idle = h.idle;
      command = h.command;
      call = h.call;
      for = command_renamed h.command h.call h.for;
      moves = h.moves;
      unpinned = h.unpinned;
      stands = h.stands;
      says = h.says;
      eight = h.eight;
      place = h.place;
    },
  )
  at_renamed phase.Detaching (i, h) = (
    in_renamed run.attached i,
    record {
      vector = h.vector;
      works = h.works;
      half = half_renamed h.vector h.half;
    },
  )
  at_renamed (phase.Committing a) (i, h) = (
    in_renamed run.attached i,
    record {
      unread = h.unread;
      call = h.call;
      is = h.is;
      for = for_renamed h.call a h.for;
      commits = h.commits;
    },
  )
  at_renamed (phase.Committed e a) (i, h) = (
    in_renamed run.attached i,
    record {
      idle = h.idle;
      unread = h.unread;
      call = h.call;
      for = for_renamed h.call a h.for;
      ended = committed_renamed h.call e h.ended;
    },
  )
  at_renamed (phase.Working e) (i, h) = (
    in_renamed run.attached i,
    record {
      command = h.command;
      call = h.call;
      for = command_renamed h.command h.call h.for;
      errands = h.errands;
      unmoved = h.unmoved;
      unpinned = h.unpinned;
      works = h.works;
      kept = h.kept;
      place = h.place;
    },
  )
  at_renamed (phase.Told t) (i, h) = (
    in_renamed run.attached i,
    record {
      idle = h.idle;
      command = h.command;
      call = h.call;
      for = command_renamed h.command h.call h.for;
      tells = h.tells;
      unmoved = h.unmoved;
      says = h.says;
      by = h.by;
      cursor = h.cursor;
      place = h.place;
      eight = h.eight;
    },
  )
  at_renamed phase.Tidying (i, h) = (
    in_renamed run.attached i,
    record {
      command = h.command;
      call = h.call;
      for = command_renamed h.command h.call h.for;
      tidies = h.tidies;
      unmoved = h.unmoved;
      unpinned = h.unpinned;
      works = h.works;
      place = h.place;
    },
  )
  at_renamed (phase.Tidied t) (i, h) = (
    in_renamed run.attached i,
    record {
      command = h.command;
      call = h.call;
      for = command_renamed h.command h.call h.for;
      tidies = h.tidies;
      unmoved = h.unmoved;
      unpinned = h.unpinned;
      works = h.works;
      place = h.place;
    },
  )
  at_renamed phase.Over h = record { idle = h.idle; left = h.left; all = h.all; still = h.still }

  pub stands_renamed : Stands law p run → Stands law q run
  stands_renamed s = record {
    nodes = s.nodes;
    trees = s.trees;
    typed = s.typed;
    run_is = s.run_is;
    session = s.session;
    few = s.few;
    commands = s.commands;
    index = s.index;
    within = s.within;
    at = at_renamed run.phase s.at;
  }
