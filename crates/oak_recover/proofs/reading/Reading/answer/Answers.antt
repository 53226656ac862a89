use Rattle.std.proofs.Common.{rules, ap, not, ◌∙◌}
use Rattle.std.specs.Prelude.{Option}
use Rattle.std.specs.Option.{option_copied}
use Rattle.std.proofs.lemmas.Map.Made.{filter_same_pairs}
use Rattle.jr_rev.specs.declared.revision.Revision.{Revision}
use Rattle.oak_recover.specs.Reading.{Doubts, root_answered, is_confirmed}
use Rattle.oak_recover.proofs.reading.Reading.answer.Goals as goal

pub returns : goal.returns
returns c =
    ap (λ (r : Option Revision). record c.args.self.now { doubts = c.retain.new.self.entries; committed = r }) c.confirmed_in-self.ensures
    ∙ ap (λ (es : Doubts). record (root_answered c.args.self.now c.args.root.now (option_copied c.args.found)) { doubts = es })
    (rw c.inner_mut.ensures.shows at (filter_same_pairs _ (λ e. not (is_confirmed c.args.root.now (option_copied c.args.found) e)) _ (λ k v b w f' t. search rules) _ _ c.retain.ensures.filtered))
