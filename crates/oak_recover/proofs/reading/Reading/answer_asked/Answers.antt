use Rattle.std.proofs.Common.{ap, ◌∙◌}
use Rattle.std.specs.Option.{option_copied}
use Rattle.jr_path.specs.declared.path.DocId.{DocId}
use Rattle.oak_recover.specs.Reading.{root_answered}
use Rattle.oak_recover.specs.declared.reading.Reading.{Reading}
use Rattle.oak_recover.proofs.reading.Reading.answer_asked.Goals as goal

pub returns : goal.returns
returns c =
    ap (λ (s : Reading). record s { asked = c.replace-root.result }) c.answer.ensures
    ∙ ap (λ (x : DocId). record (root_answered c.args.self.now x (option_copied c.args.found)) { asked = x }) c.replace-root.ensures.value
