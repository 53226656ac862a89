use Rattle.jcr_call.proofs.rooted.leaves_tree.Goals as goal

pub returns-then-not-known : goal.returns-then-not-known
returns-then-not-known c = λ t same know. c.is_tree.ensures

pub returns : goal.returns
returns c = λ t same know. c.keeps_tree.ensures t same (know c.if-not-known.false)
