use Rattle.repo_top.proofs.top.unrun.Goals as goal

pub returns-in-Script : goal.returns-in-Script
returns-in-Script g c = rw c.in-Script.is c.broken.ensures

pub returns-in-ReadFault : goal.returns-in-ReadFault
returns-in-ReadFault g c = rw (c.in-ReadFault.is, ← c.as_bytes-in-ReadFault.ensures.value) c.written-in-ReadFault.ensures
