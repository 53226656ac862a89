use Rattle.std.proofs.Common.{◌≤◌, arith, map}
use Rattle.std.specs.String.{string_bytes}
use Rattle.repo_top.specs.Words.{table_row}
use Rattle.repo_top.proofs.Options.{seed_needed, sessions_fit, sessions_needed, workers_fit, workers_needed}
use Rattle.repo_top.proofs.words.meaning_of.Goals as goal

pub number_given-requires-clause-number : goal.number_given-requires-clause-number
number_given-requires-clause-number c = workers_needed (table_row c.args.row.now) c.requires.row c.in-Run.is

pub number_given-requires-in-Gen-clause-number : goal.number_given-requires-in-Gen-clause-number
number_given-requires-in-Gen-clause-number c = seed_needed (table_row c.args.row.now) c.requires.row c.in-Gen.is

pub number_given-requires-in-Gen-2-clause-number :
    goal.number_given-requires-in-Gen-2-clause-number
number_given-requires-in-Gen-2-clause-number c = sessions_needed (table_row c.args.row.now) c.requires.row c.in-Gen.is

pub overflow_cast-result : goal.overflow_cast-result
overflow_cast-result c =
    let few : c.number_given.result ≤ 16 = workers_fit (table_row c.args.row.now) c.requires.row c.in-Run.is c.requires.given.0 (map string_bytes c.args.words.now) c.requires.given.1.each c.number_given.result (c.number_given.ensures c.requires.given.0 c.requires.given.1.each) in
    omega (arith, few)

pub overflow_cast-result-in-Gen : goal.overflow_cast-result-in-Gen
overflow_cast-result-in-Gen c =
    let few : c.number_given-in-Gen-2.result ≤ 64 = sessions_fit (table_row c.args.row.now) c.requires.row c.in-Gen.is c.requires.given.0 (map string_bytes c.args.words.now) c.requires.given.1.each c.number_given-in-Gen-2.result (c.number_given-in-Gen-2.ensures c.requires.given.0 c.requires.given.1.each) in
    omega (arith, few)
