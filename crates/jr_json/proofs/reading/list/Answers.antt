use Rattle.jr_json.proofs.Lists.{list_fault}
use Rattle.jr_json.proofs.reading.list.Goals as goal

pub returns-in-None-clause-fault : goal.returns-in-None-clause-fault
returns-in-None-clause-fault c =
    list_fault c.args.items.now c.first-item.result c.form_begun-kind.result c.first_other.result c.in-len1-up.len_at_least c.first-item.is c.form_begun-kind.ensures c.first_other.ensures (rw c.in-None.is at c.in_ok-values.ensures)
