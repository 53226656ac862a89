use Rattle.std.proofs.Common.{◌≡◌, true, false, sym, ◌∙◌}
use Rattle.std.specs.Prelude.{◌==◌}
use Rattle.serde_json.specs.View.{view}
use Rattle.jr_value.specs.Values.{kind_number}
use Rattle.jr_json.specs.Reading.{form_begun}
use Rattle.jr_json.proofs.Lists.{other_kind, own_kind}
use Rattle.jr_json.proofs.reading.value_of_kind.Goals as goal

pub returns-else-same_kind : goal.returns-else-same_kind
returns-else-same_kind c =
    let differs : (kind_number (form_begun (view c.args.json.now)) == kind_number c.args.kind) ≡ false = rw (← c.form_begun.ensures) (sym c.same_kind.ensures ∙ c.if-same_kind.false) in
    other_kind (view c.args.json.now) c.args.kind differs

pub returns-in_ok-value : goal.returns-in_ok-value
returns-in_ok-value c =
    let same : (kind_number (form_begun (view c.args.json.now)) == kind_number c.args.kind) ≡ true = rw (← c.form_begun.ensures) (sym c.same_kind.ensures ∙ c.if-same_kind.true) in
    own_kind (view c.args.json.now) c.args.kind same c.in_ok-value.field-0 c.in_ok-value.ensures
