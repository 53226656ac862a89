-- Refusals of commands that only show something.
use Rattle.std.proofs.Common.{◌≡◌, Bool, false, cond, List, [], ap, ◌∙◌}
use Rattle.std.specs.Prelude.{Result, Ok, Err, IfErr}
use Rattle.std.specs.declared.alloc.Global.{Global}
use Rattle.std.specs.declared.string.String.{String}
use Rattle.jr_tree.specs.Trees.{Nodes}
use Rattle.jr_tree.specs.declared.shared.Refusal.{Refusal}
use Rattle.jr_tree.specs.declared.shared.Who.{Who}
use Rattle.jr_items.specs.Refusals.{out_of_memory}
use Rattle.jr_overlay.specs.Overlays.{View}
use Rattle.jr_types.specs.declared.TypeDef.{TypeDef}
use Rattle.jcr_trans.specs.declared.command.Command.{Command}
use Rattle.jcr_fill.specs.Makings.{making}
use Rattle.jcr_view.specs.Outcomes.{is_writing, made_outcome, outcome, shown_outcome, written_outcome}
use Rattle.jcr_read.specs.Reading.{Replies, refused, shown}

pub shown_refused : (types : List TypeDef) (who : Who) (view : View) (base : Nodes) (command : Command)
    (result : Result (String Global) Refusal) → is_writing command ≡ false
    → Replies (shown types view base command) result
    → IfErr result (λ r. ¬ (r ≡ out_of_memory) → (outcome types who view base command).answer ≡ refused r)
shown_refused types who view base command (Ok text) reads is = tt
shown_refused types who view base command (Err r) reads is = λ m.
    ap (λ (b : Bool). (cond b (made_outcome who.ids (written_outcome types who view command (making [] who.ids)))
    (shown_outcome who.ids (shown types view base command))).answer) reads ∙ is m
