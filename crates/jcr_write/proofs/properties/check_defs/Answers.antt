use Rattle.std.proofs.Common.{◌≡◌, ◌∙◌, Bool, Option, [], ◌∷◌, map, true, false}
use Rattle.std.specs.Prelude.{option_map}
use Rattle.std.specs.List.{list_any}
use Rattle.jr_value.specs.Values.{kind_of_property}
use Rattle.jr_tree.specs.declared.shared.Refusal.{Refusal}
use Rattle.jr_items.specs.Refusals.{own_item_rule, when, wrong_kind}
use Rattle.jcr_write.specs.Writes.{other_kind}
use Rattle.jcr_write.proofs.Defs.{protected_seen}
use Rattle.jcr_write.proofs.Due.{first_here, last_none, last_result, when_due, when_none}
use Rattle.jcr_write.proofs.properties.check_defs.Goals as goal

pub returns-then-is_one_protected-clause-err : goal.returns-then-is_one_protected-clause-err
returns-then-is_one_protected-clause-err c =
    let test : Bool = list_any (λ d. d.protected) (map (λ d. d.now) c.args.defs.now) in
    let other : Option Refusal = option_map (λ k. wrong_kind k (kind_of_property c.args.property.now)) (other_kind (map (λ d. d.now) c.args.defs.now) c.args.property.now) in
    let held : test ≡ true = protected_seen c.args.defs.now _ c.is_one_protected.ensures ∙ c.if-is_one_protected.true in
    first_here (when test (own_item_rule c.args.path.now c.args.name.now)) (other ∷ []) c.own_item_rule.result
    (when_due test (own_item_rule c.args.path.now c.args.name.now) c.own_item_rule.result held c.own_item_rule.ensures)

pub returns-clause-ok : goal.returns-clause-ok
returns-clause-ok c =
    let test : Bool = list_any (λ d. d.protected) (map (λ d. d.now) c.args.defs.now) in
    let other : Option Refusal = option_map (λ k. wrong_kind k (kind_of_property c.args.property.now)) (other_kind (map (λ d. d.now) c.args.defs.now) c.args.property.now) in
    let held : test ≡ false = protected_seen c.args.defs.now _ c.is_one_protected.ensures ∙ c.if-is_one_protected.false in
    last_none c.check_kind.result (when test (own_item_rule c.args.path.now c.args.name.now)) other
    (when_none test (own_item_rule c.args.path.now c.args.name.now) held) c.check_kind.ensures.ok

pub returns-clause-err : goal.returns-clause-err
returns-clause-err c =
    let test : Bool = list_any (λ d. d.protected) (map (λ d. d.now) c.args.defs.now) in
    let other : Option Refusal = option_map (λ k. wrong_kind k (kind_of_property c.args.property.now)) (other_kind (map (λ d. d.now) c.args.defs.now) c.args.property.now) in
    let held : test ≡ false = protected_seen c.args.defs.now _ c.is_one_protected.ensures ∙ c.if-is_one_protected.false in
    last_result c.check_kind.result (when test (own_item_rule c.args.path.now c.args.name.now)) other
    (when_none test (own_item_rule c.args.path.now c.args.name.now) held) c.check_kind.ensures.err
