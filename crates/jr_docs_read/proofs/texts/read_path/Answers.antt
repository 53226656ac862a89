use Rattle.std.proofs.Common.{◌≡◌, sym, ◌∙◌}
use Rattle.jr_docs_read.proofs.Answered.{by_memory}
use Rattle.jr_docs_read.proofs.Faults.{path_fault}
use Rattle.jr_path.specs.declared.path.Path.{Path}
use Rattle.jr_path.proofs.Pieces.{names_from_all, one_path}
use Rattle.jr_docs_read.proofs.texts.read_path.Goals as goal

pub returns-in-Ok-clause-complete : goal.returns-in-Ok-clause-complete
returns-in-Ok-clause-complete c p names is = c.counted.ensures.same ∙ one_path _ p (names_from_all _ c.in-Ok.ensures.path.are_names) (names_from_all p names) (sym (is ∙ c.in-Ok.ensures.path.spelled))

pub returns-in-Err-clause-complete : goal.returns-in-Err-clause-complete
returns-in-Err-clause-complete c p names is = by_memory (λ (found : Path). found ≡ p) _ (c.fault_of.ensures (path_fault _ _ c.in-Err.ensures.fault (p, record { are_names = names; spelled = sym is })))

pub returns-in-Ok-clause-in_range : goal.returns-in-Ok-clause-in_range
returns-in-Ok-clause-in_range c = rw c.counted.ensures.same (record { names = c.in-Ok.ensures.path.are_names; depth = c.counted.ensures.depth })
