use Rattle.std.proofs.Common.{subst}
use Rattle.oak_tidy.specs.Replies.{all_parts, told_to}
use Rattle.oak_tidy.specs.Tidyings.{ComesTo, tidied_on, tidying_ask}
use Rattle.oak_tidy.specs.declared.tidying.Onward.{Onward}
use Rattle.oak_tidy.proofs.Lowering.{goes_lower_on}
use Rattle.oak_tidy.proofs.Staying.{goes_can}
use Rattle.oak_tidy.proofs.steps.tidy.Goals as goal

pub returns-in-Ok-Goes-clause-can : goal.returns-in-Ok-Goes-clause-can
returns-in-Ok-Goes-clause-can c =
    let h = subst (λ (o : Onward). ComesTo c.args.s (tidied_on (all_parts c.args.table.now c.args.memories.now c.args.events.now.list) c.args.tidying) o) c.in-Ok-Goes.field-0-is c.in-Ok-Goes.ensures.onward in
    goes_can _ c.args.tidying c.in-Ok-Goes.tidying (told_to (all_parts c.args.table.now c.args.memories.now c.args.events.now.list) (tidying_ask c.args.tidying)) c.requires.can.asks h.0 h.1

pub returns-in-Ok-Goes-clause-lowers : goal.returns-in-Ok-Goes-clause-lowers
returns-in-Ok-Goes-clause-lowers c =
    let h = subst (λ (o : Onward). ComesTo c.args.s (tidied_on (all_parts c.args.table.now c.args.memories.now c.args.events.now.list) c.args.tidying) o) c.in-Ok-Goes.field-0-is c.in-Ok-Goes.ensures.onward in
    goes_lower_on (all_parts c.args.table.now c.args.memories.now c.args.events.now.list) c.answered.new.table _ c.args.tidying c.in-Ok-Goes.tidying c.requires.table c.requires.can c.in-Ok-Goes.ensures.table h.0
