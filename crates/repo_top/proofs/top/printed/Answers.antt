use Rattle.std.proofs.Common.{◌≡◌, ◌∙◌, inl}
use Rattle.repo_top.specs.Ends.{output_of}
use Rattle.repo_top.specs.Headline.{printed_of}
use Rattle.repo_top.specs.declared.status.Status.TheVariants as status
use Rattle.repo_top.proofs.Faulty.{told_text}
use Rattle.repo_top.proofs.top.printed.Goals as goal

pub returns-in-Ok-clause-writes : goal.returns-in-Ok-clause-writes
returns-in-Ok-clause-writes g c =
    let e : c.as_slice.result.now ≡ printed_of c.args.documents c.args.world = c.as_slice.ensures.value ∙ c.in-Ok.ensures in
    inl (told_text (output_of g.K.Sink c.args.sink.now) (output_of g.K.Sink c.written.new.sink) c.as_slice.result.now (printed_of c.args.documents c.args.world) status.Done c.written.result e c.written.ensures)
