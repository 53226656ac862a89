use Rattle.std.proofs.Common.{◌++◌, ap, ◌∙◌, take}
use Rattle.std.proofs.lemmas.List.{take_all}
use Rattle.oak_node.specs.Notes.{notes_of}
use Rattle.oak_node.proofs.Noting.{noted_more}
use Rattle.oak_node.proofs.pending.put_each.Goals as goal

pub loop-path-preserved : goal.loop-path-preserved
loop-path-preserved c = noted_more c.args.r c.args.paths.now c.loop-path.path-index _ _ _ _ c.loop-path-test.true c.path-item.is c.loop-path.invariant c.in_ok-put_note.ensures.ok

pub returns-in_err-put_note-clause-front : goal.returns-in_err-put_note-clause-front
returns-in_err-put_note-clause-front c = (notes_of c.args.r (take c.loop-path.path-index c.args.paths.now), c.in_err-put_note.ensures.err ∙ c.loop-path.invariant)

pub returns-clause-ok : goal.returns-clause-ok
returns-clause-ok c = c.loop-path.invariant ∙ ap (λ ps. c.args.notes.now.items ++ notes_of c.args.r ps) (take_all c.loop-path.path-index c.args.paths.now c.loop-path-test.false)

pub returns-clause-front : goal.returns-clause-front
returns-clause-front c = (notes_of c.args.r (take c.loop-path.path-index c.args.paths.now), c.loop-path.invariant)
