-- From step to step.
use Rattle.oak_node.specs.Memory.{begun}
use Rattle.oak_machine.specs.History.{begin_at}
use Rattle.core_nodes.proofs.changes_follow_the_journal.Goals as goal
use Rattle.core_nodes.proofs.Changes.{apart_changes, begun_changes, drawn_changes, dropped_changes, recovered_changes, recovered_past, tells}

pub returns-clause-begun : goal.returns-clause-begun
returns-clause-begun c = λ clusters begin k. begun_changes k (begun k (begin_at clusters begin))

pub returns-clause-drawn : goal.returns-clause-drawn
returns-clause-drawn c = drawn_changes

pub returns-clause-apart : goal.returns-clause-apart
returns-clause-apart c = apart_changes

pub returns-clause-ended : goal.returns-clause-ended
returns-clause-ended c = λ past k s r keeps. keeps

pub returns-clause-learned : goal.returns-clause-learned
returns-clause-learned c = λ past k s last sweep keeps. keeps

pub returns-clause-published : goal.returns-clause-published
returns-clause-published c = dropped_changes

pub returns-clause-pinned : goal.returns-clause-pinned
returns-clause-pinned c = λ past k s owner pin keeps. keeps

pub returns-clause-unpinned : goal.returns-clause-unpinned
returns-clause-unpinned c = λ past k s owner keeps. keeps

pub returns-clause-stopped : goal.returns-clause-stopped
returns-clause-stopped c = λ past k s keeps. keeps

pub returns-clause-recovered : goal.returns-clause-recovered
returns-clause-recovered c = recovered_changes

pub returns-clause-recovered_apart : goal.returns-clause-recovered_apart
returns-clause-recovered_apart c = recovered_past

pub returns-clause-told : goal.returns-clause-told
returns-clause-told c = tells
