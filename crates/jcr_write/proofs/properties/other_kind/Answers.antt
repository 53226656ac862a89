use Rattle.std.proofs.Common.{◌∙◌, Bool, ap, cond, map, None, sym}
use Rattle.std.specs.Prelude.{option_and_then}
use Rattle.jr_items.specs.Items.{first_of}
use Rattle.jcr_write.proofs.Defs.{other_seen}
use Rattle.jcr_write.proofs.properties.other_kind.Goals as goal

pub returns-then-is_one_letting : goal.returns-then-is_one_letting
returns-then-is_one_letting c =
    sym (other_seen c.args.defs.now c.args.property.now c.is_one_letting.result c.is_one_letting.ensures
    ∙ ap (λ (b : Bool). cond b None (option_and_then (λ d. d.kind) (first_of (map (λ d. d.now) c.args.defs.now)))) c.if-is_one_letting.true)

pub returns : goal.returns
returns c = c.first_kind.ensures
    ∙ sym (other_seen c.args.defs.now c.args.property.now c.is_one_letting.result c.is_one_letting.ensures
    ∙ ap (λ (b : Bool). cond b None (option_and_then (λ d. d.kind) (first_of (map (λ d. d.now) c.args.defs.now)))) c.if-is_one_letting.false)
