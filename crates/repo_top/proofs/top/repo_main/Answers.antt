-- How a call ends that may run threads.
use Rattle.std.proofs.Common.{true, map, subst}
use Rattle.std.specs.String.{string_bytes}
use Rattle.repo_top.specs.Ends.{call, effect, input_of, output_of}
use Rattle.repo_top.proofs.Options.{meant_in_range}
use Rattle.repo_top.specs.Words.{IsInRange}
use Rattle.repo_top.specs.declared.words.Words.{Words}
use Rattle.repo_top.proofs.Faulty.{asks_all, does_ends, none_left, does_run, meaningless, run_does, taken_alone, wordless}
use Rattle.repo_top.proofs.top.repo_main.Goals as goal

pub run-ran-requires-clause-some : goal.run-ran-requires-clause-some
run-ran-requires-clause-some g c κs within =
    let range = subst (λ (m : Words). IsInRange m) c.in-Run.is (meant_in_range (map string_bytes c.args.words.now) c.in-Some.meaning c.in-Some.ensures) in
    range.0

pub run-ran-requires-clause-few : goal.run-ran-requires-clause-few
run-ran-requires-clause-few g c κs within =
    let range = subst (λ (m : Words). IsInRange m) c.in-Run.is (meant_in_range (map string_bytes c.args.words.now) c.in-Some.meaning c.in-Some.ensures) in
    range.1

pub alone-requires : goal.alone-requires
alone-requires g c = record {
  taken = taken_alone c.in-Some.meaning c.in_default-meaning.not-Run;
  range = meant_in_range (map string_bytes c.args.words.now) c.in-Some.meaning c.in-Some.ensures;
  none = c.leave_none.ensures;
}

pub returns-in_default : goal.returns-in_default
returns-in_default g c =
    let e = effect (input_of g.S.Source c.args.source.now) (input_of g.S.Source c.args.source.now) (output_of g.K.Sink c.args.sink.now) (output_of g.K.Sink c.unrun.new.sink) c.leave_none.new.left in
    record { ends = wordless (call true (map string_bytes c.args.words.now) e) c.unrun.result (none_left _ c.leave_none.ensures) (meaningless _ true e c.in_default.ensures) c.unrun.ensures }

pub returns-in-Run : goal.returns-in-Run
returns-in-Run g c =
    let e = effect (input_of g.S.Source c.args.source.now) (input_of g.S.Source c.run-ran.new.source) (output_of g.K.Sink c.args.sink.now) (output_of g.K.Sink c.told.new.sink) c.told.new.left in
    let did = run_does c.in-Run.documents e c.told.result c.in-Run.workers c.run-ran.result c.run-ran.ensures.ran c.run-ran.ensures.unread (c.told.ensures.ok, c.told.ensures.err) in
    record { ends = does_run (call true (map string_bytes c.args.words.now) e) c.told.result c.in-Some.meaning c.in-Run.workers c.in-Run.documents c.in-Run.is (asks_all _ e c.in-Some.meaning c.in-Some.ensures) did }

pub returns-in_default-meaning : goal.returns-in_default-meaning
returns-in_default-meaning g c =
    let e = effect (input_of g.S.Source c.args.source.now) (input_of g.S.Source c.alone.new.source) (output_of g.K.Sink c.args.sink.now) (output_of g.K.Sink c.alone.new.sink) c.alone.new.left in
    record { ends = does_ends (call true (map string_bytes c.args.words.now) e) c.alone.result c.in-Some.meaning (asks_all _ e c.in-Some.meaning c.in-Some.ensures) c.alone.ensures.does }
