use Rattle.std.proofs.Common.{◌≡◌}
use Rattle.jr_docs_read.proofs.Answered.{by_memory}
use Rattle.jr_docs_read.proofs.Faults.{name_fault}
use Rattle.jr_path.specs.declared.name.Name.{Name}
use Rattle.jr_docs_read.proofs.fields.read_name.Goals as goal

pub returns-in-Err-clause-complete : goal.returns-in-Err-clause-complete
returns-in-Err-clause-complete c is = by_memory (λ (found : Name). found ≡ c.args.text.now) _ (c.fault_of.ensures (name_fault _ _ c.in-Err.ensures.fault is))

pub returns-in-Ok-clause-in_range : goal.returns-in-Ok-clause-in_range
returns-in-Ok-clause-in_range c = rw c.in-Ok.ensures.bytes c.in-Ok.ensures.grammar
