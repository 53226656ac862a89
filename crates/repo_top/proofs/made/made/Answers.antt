use Rattle.repo_top.proofs.Faulty.{none_left, printed_made}
use Rattle.repo_top.specs.Ends.{output_of}
use Rattle.repo_top.proofs.made.made.Goals as goal

pub returns-else-runs : goal.returns-else-runs
returns-else-runs g c = record {
  does = λ source. printed_made source (output_of g.K.Sink c.args.sink.now) (output_of g.K.Sink c.print_made.new.sink) c.args.left.now c.args.seed c.args.sessions c.args.runs c.print_made.result c.if-runs.false (none_left _ c.requires.none) c.print_made.ensures;
}
