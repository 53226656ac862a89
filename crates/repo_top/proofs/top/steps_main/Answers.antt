-- How a call ends that may run no threads.
use Rattle.std.proofs.Common.{false, map}
use Rattle.std.specs.String.{string_bytes}
use Rattle.repo_top.specs.Ends.{call, effect, input_of, output_of}
use Rattle.repo_top.proofs.Options.{meant_in_range}
use Rattle.repo_top.proofs.Faulty.{asks_alone, does_ends, none_left, meaningless, no_threads, taken_alone, wordless}
use Rattle.repo_top.proofs.top.steps_main.Goals as goal

pub alone-requires : goal.alone-requires
alone-requires g c = record {
  taken = taken_alone c.in-Some.meaning c.in_default-meaning.not-Run;
  range = meant_in_range (map string_bytes c.args.words.now) c.in-Some.meaning c.in-Some.ensures;
  none = c.leave_none.ensures;
}

pub returns-in_default : goal.returns-in_default
returns-in_default g c =
    let e = effect (input_of g.S.Source c.args.source.now) (input_of g.S.Source c.args.source.now) (output_of g.K.Sink c.args.sink.now) (output_of g.K.Sink c.unrun.new.sink) c.leave_none.new.left in
    record { ends = wordless (call false (map string_bytes c.args.words.now) e) c.unrun.result (none_left _ c.leave_none.ensures) (meaningless _ false e c.in_default.ensures) c.unrun.ensures }

pub returns-in-Run : goal.returns-in-Run
returns-in-Run g c =
    let e = effect (input_of g.S.Source c.args.source.now) (input_of g.S.Source c.args.source.now) (output_of g.K.Sink c.args.sink.now) (output_of g.K.Sink c.unrun-in-Run.new.sink) c.leave_none.new.left in
    record { ends = wordless (call false (map string_bytes c.args.words.now) e) c.unrun-in-Run.result (none_left _ c.leave_none.ensures) (no_threads _ e c.in-Some.meaning c.in-Run.workers c.in-Run.documents c.in-Some.ensures c.in-Run.is) c.unrun-in-Run.ensures }

pub returns-in_default-meaning : goal.returns-in_default-meaning
returns-in_default-meaning g c =
    let e = effect (input_of g.S.Source c.args.source.now) (input_of g.S.Source c.alone.new.source) (output_of g.K.Sink c.args.sink.now) (output_of g.K.Sink c.alone.new.sink) c.alone.new.left in
    record { ends = does_ends (call false (map string_bytes c.args.words.now) e) c.alone.result c.in-Some.meaning (asks_alone _ e c.in-Some.meaning c.in-Some.ensures (taken_alone c.in-Some.meaning c.in_default-meaning.not-Run)) c.alone.ensures.does }
