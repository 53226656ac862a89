-- By whether the session has a base.
use Rattle.jcr_law.specs.Starting.{call_based, call_has_base}
use Rattle.core_calls.proofs.Called.{called_at}
use Rattle.core_calls.proofs.calls.calls_are_at_bases.Goals as goal

pub returns-clause-base : goal.returns-clause-base
returns-clause-base c = call_has_base

pub returns-clause-call : goal.returns-clause-call
returns-clause-call c = call_based

pub returns-clause-called : goal.returns-clause-called
returns-clause-called c = called_at
