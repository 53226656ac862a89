use Rattle.oak_tidy.proofs.Moving.{absent_stay, changed_stay, looks_go, nodes_tell, reads_stay, refusals_go}
use Rattle.oak_tidy.proofs.laws.looks_are_steps.Goals as goal

pub returns-clause-reads : goal.returns-clause-reads
returns-clause-reads c = reads_stay

pub returns-clause-looks : goal.returns-clause-looks
returns-clause-looks c = looks_go

pub returns-clause-nodes : goal.returns-clause-nodes
returns-clause-nodes c = nodes_tell

pub returns-clause-refused : goal.returns-clause-refused
returns-clause-refused c = refusals_go

pub returns-clause-changed : goal.returns-clause-changed
returns-clause-changed c = changed_stay

pub returns-clause-absent : goal.returns-clause-absent
returns-clause-absent c = absent_stay
