use Rattle.std.proofs.Common.{◌∙◌, ap, refl}
use Rattle.jcr_law.specs.Calls.{call_moved}
use Rattle.jcr_held.specs.declared.held.Held.{Held}
use Rattle.jcr_held.specs.Alike.{moved_to}
use Rattle.jcr_held.proofs.Holding.{holds_alike, holds_along}
use Rattle.jcr_held.proofs.held.Held.move_along.Goals as goal

pub returns-clause-moved : goal.returns-clause-moved
returns-clause-moved c = λ d t h settled tree same.
    let mid = c.take_earlier-earlier.ensures.same in
    let to = c.move_to.ensures.same in
    holds_alike (call_moved d c.args.base t) (record (moved_to c.args.self.now c.args.base) { earlier = c.take_earlier-earlier.result }) _ (record {
      types = to.types ∙ ap (λ (x : Held). x.types) mid;
      who = to.who ∙ ap (λ (x : Held). record x.who { base = c.args.base }) mid;
      part = to.part;
      earlier = refl;
      pending = to.pending ∙ ap (λ (x : Held). x.pending) mid;
      is_kept = to.is_kept;
      references = to.references;
      tokens = to.tokens ∙ ap (λ (x : Held). x.tokens) mid;
      cursor = to.cursor ∙ ap (λ (x : Held). x.cursor) mid;
    }) (holds_along d c.args.self.now c.args.base t c.args.told c.take_earlier-earlier.result h settled tree
    c.take_earlier-earlier.ensures.part c.take_earlier-earlier.ensures.told same)
