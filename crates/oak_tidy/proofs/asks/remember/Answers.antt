use Rattle.std.proofs.Common.{IfOk, ap, subst, sym, ◌∙◌}
use Rattle.oak_doc.specs.declared.asks.MemoryAsk.{MemoryAsk}
use Rattle.oak_doc.specs.declared.asks.Ask.TheVariants as ask
use Rattle.oak_gc.specs.Bounding.{node_reply}
use Rattle.oak_node.specs.Memory.{NodeState}
use Rattle.oak_tidy.specs.Replies.{node_tells, told_by_memories}
use Rattle.oak_tidy.specs.Tidyings.{ComesTo, tidying_fed}
use Rattle.oak_tidy.proofs.Looking.{memory_there, node_asked}
use Rattle.oak_tidy.proofs.asks.remember.Goals as goal

pub returns-clause-onward : goal.returns-clause-onward
returns-clause-onward c =
    let node = node_asked _ c.args.tidying c.in-Pins.k c.requires.asks (c.requires.asked ∙ ap ask.Memory c.in-Pins.is) in
    subst (λ (m : MemoryAsk). IfOk c.hear.result (ComesTo c.args.s (tidying_fed c.args.tidying (told_by_memories c.args.memories.now m)))) (sym c.in-Pins.is)
    (subst (λ (n : NodeState). IfOk c.hear.result (ComesTo c.args.s (tidying_fed c.args.tidying (node_reply (node_tells n))))) (sym (memory_there c.args.memories.now c.in-Pins.k c.index-memories-k.result node c.index-memories-k.is))
    c.hear.ensures.onward)
