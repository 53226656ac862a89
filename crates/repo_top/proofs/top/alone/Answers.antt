use Rattle.repo_top.specs.Ends.{effect, input_of, output_of}
use Rattle.repo_top.proofs.Faulty.{steps_does}
use Rattle.repo_top.proofs.top.alone.Goals as goal

pub returns-in-Steps : goal.returns-in-Steps
returns-in-Steps g c =
    let e = effect (input_of g.S.Source c.args.source.now) (input_of g.S.Source c.steps-ran.new.source) (output_of g.K.Sink c.args.sink.now) (output_of g.K.Sink c.told.new.sink) c.told.new.left in
    record { does = rw c.in-Steps.is (steps_does c.in-Steps.documents e c.told.result c.steps-ran.result c.steps-ran.ensures.ran c.steps-ran.ensures.unread (c.told.ensures.ok, c.told.ensures.err)) }
