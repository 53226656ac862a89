use Rattle.std.proofs.Common.{◌∙◌, ap, sym}
use Rattle.std.specs.Prelude.{option_map}
use Rattle.jcr_call.specs.Dues.{writes_due}
use Rattle.jcr_held.proofs.Dues.{comes_to, whole_known}
use Rattle.jcr_held.proofs.held.Held.come.Goals as goal

pub footing-footing-requires-clause-known : goal.footing-footing-requires-clause-known
footing-footing-requires-clause-known c =
    whole_known c.args.self.now c.args.command.now c.requires.commits c.requires.ready.known

pub returns : goal.returns
returns c = λ d h typed.
    let on = c.footing-footing.ensures.on d h in
    let is = sym (c.in_ok-due.ensures.due d h on) ∙ ap (option_map writes_due) c.in-Some.is in
    comes_to d c.args.command.now c.in-Some.due c.come.result is (c.come.ensures.comes d on (c.footing-footing.ensures.assured d h typed) is)
