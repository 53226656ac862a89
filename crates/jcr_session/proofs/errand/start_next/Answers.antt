use Rattle.std.proofs.Common.{ap, sym, ◌∙◌}
use Rattle.jcr_run.specs.declared.next.Due.{Due}
use Rattle.jcr_run.specs.Standing.{lacks_for}
use Rattle.jcr_session.proofs.Begun.{errand_due, errand_next, starts_by}
use Rattle.jcr_run.proofs.Nexts.{errand_there, next_there, none_there}
use Rattle.jcr_session.proofs.errand.start_next.Goals as goal

pub start_of-requires : goal.start_of-requires
start_of-requires c =
    let there = (let h = c.in-Some.ensures.lookup in next_there c.args.run.now.commands c.as_slice.result.now c.args.run.now.index
    c.in-Some.command.now c.as_slice.ensures h.3.0 h.1) in record {
      next = (errand_there c.args.run.now c.in-Some.command.now c.requires.next there).1;
      read = ap (λ (d : Due). lacks_for c.args.run.now d) (sym (errand_due c.args.run.now c.in-Some.command.now c.requires.next there)) ∙ c.requires.read;
    }

pub returns : goal.returns
returns c = starts_by c.args.run.now c.in-Some.command.now c.start_of.result
    (let h = c.in-Some.ensures.lookup in next_there c.args.run.now.commands c.as_slice.result.now c.args.run.now.index
    c.in-Some.command.now c.as_slice.ensures h.3.0 h.1) c.start_of.ensures

pub unreachable-requires : goal.unreachable-requires
unreachable-requires c =
    (let m = errand_next c.args.run.now c.requires.next in none_there c.args.run.now.commands c.as_slice.result.now c.args.run.now.index m.0
    c.as_slice.ensures c.in-None.ensures.lookup.0 m.1)
