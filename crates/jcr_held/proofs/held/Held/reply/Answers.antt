use Rattle.std.proofs.Common.{◌≡◌, ap, ◌∙◌, subst, sym}
use Rattle.std.specs.String.{string_bytes}
use Rattle.jr_items.specs.Refusals.{out_of_memory}
use Rattle.jr_part.specs.Parts.{Knowledge, LacksNothing}
use Rattle.jr_part.specs.declared.need.Need.TheVariants as need
use Rattle.jr_overlay.specs.Overlays.{Changed}
use Rattle.jr_tree.specs.declared.shared.Who.{Who}
use Rattle.jcr_law.specs.Law.{no_text}
use Rattle.jcr_read.specs.Reading.{refused}
use Rattle.jcr_held.specs.Sees.{outcome_of}
use Rattle.jcr_held.proofs.Answering.{told_leaves}
use Rattle.jcr_held.proofs.Holding.{all_known_of, view_known_of}
use Rattle.jcr_held.proofs.held.Held.reply.Goals as goal

pub run-requires-clause-known : goal.run-requires-clause-known
run-requires-clause-known c = λ reads.
    subst (λ (k : Knowledge). LacksNothing k need.All) (sym c.as_part.ensures)
    (all_known_of c.args.self.now.part _
    (c.whole_trees_are_asked_for.ensures c.args.self.now.who c.args.self.now.part c.args.self.now.pending c.args.command.now reads)
    (view_known_of c.args.self.now c.args.command.now c.requires.viewed c.requires.ready.known))

pub returns-in-Err-clause-ok : goal.returns-in-Err-clause-ok
returns-in-Err-clause-ok c =
    told_leaves c.args.self.now _ c.args.command.now c.in-Err.refusal (λ text. string_bytes text ≡ no_text c.in-Err.refusal)
    c.cause_text.result
    (ap (λ (p : Changed). record c.args.self.now { pending = p; who = c.run.new.who }) c.in-Err.ensures.kept
    ∙ ap (λ (w : Who). record c.args.self.now { who = w }) c.in-Err.ensures.same)
    (subst (λ (k : Knowledge). ¬ (c.in-Err.refusal ≡ out_of_memory) → (outcome_of (record c.args.self.now { part = k }) c.args.command.now).answer ≡ refused c.in-Err.refusal) c.as_part.ensures c.in-Err.ensures.refused)
    c.cause_text.ensures
