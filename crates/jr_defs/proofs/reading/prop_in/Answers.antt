use Rattle.serde_json.specs.View.{view}
use Rattle.jr_defs.specs.Reading.{IsPropJson}
use Rattle.jr_defs.proofs.ByParts.{exits}
use Rattle.jr_defs.proofs.reading.prop_in.Goals as goal

pub returns-in_err-is_object_of : goal.returns-in_err-is_object_of
returns-in_err-is_object_of c = exits _ (IsPropJson (view c.args.json.now)) _ _ c.from_residual.ensures.1 c.in_err-is_object_of.ensures (λ t h. (tt, h.keys))

pub returns-in_err-kind : goal.returns-in_err-kind
returns-in_err-kind c = exits _ (IsPropJson (view c.args.json.now)) _ _ c.from_residual-in_err-kind.ensures.1 c.in_err-kind.ensures (λ t h. (t.kind, h.kind))

pub returns-in_err-mandatory : goal.returns-in_err-mandatory
returns-in_err-mandatory c = exits _ (IsPropJson (view c.args.json.now)) _ _ c.from_residual-in_err-mandatory.ensures.1 c.in_err-mandatory.ensures (λ t h. (t.mandatory, h.mandatory))

pub returns-in_err-autocreated : goal.returns-in_err-autocreated
returns-in_err-autocreated c = exits _ (IsPropJson (view c.args.json.now)) _ _ c.from_residual-in_err-autocreated.ensures.1 c.in_err-autocreated.ensures (λ t h. (t.autocreated, h.autocreated))

pub returns-in_err-protected : goal.returns-in_err-protected
returns-in_err-protected c = exits _ (IsPropJson (view c.args.json.now)) _ _ c.from_residual-in_err-protected.ensures.1 c.in_err-protected.ensures (λ t h. (t.protected, h.protected))

pub returns-in_err-multiple : goal.returns-in_err-multiple
returns-in_err-multiple c = exits _ (IsPropJson (view c.args.json.now)) _ _ c.from_residual-in_err-multiple.ensures.1 c.in_err-multiple.ensures (λ t h. (t.multiple, h.multiple))

pub returns-in_err-opv : goal.returns-in_err-opv
returns-in_err-opv c = exits _ (IsPropJson (view c.args.json.now)) _ _ c.from_residual-in_err-opv.ensures.1 c.in_err-opv.ensures (λ t h. (t.opv, h.opv))

pub returns-in_err-name : goal.returns-in_err-name
returns-in_err-name c = exits _ (IsPropJson (view c.args.json.now)) _ _ c.from_residual-in_err-name.ensures.1 c.in_err-name.ensures (λ t h. (t.name, h.name))

pub returns-in_err-defaults : goal.returns-in_err-defaults
returns-in_err-defaults c = exits _ (IsPropJson (view c.args.json.now)) _ _ c.from_residual-in_err-defaults.ensures.1 c.in_err-defaults.ensures (λ t h. (t.defaults, h.defaults))

pub returns-in_err-constraints : goal.returns-in_err-constraints
returns-in_err-constraints c = exits _ (IsPropJson (view c.args.json.now)) _ _ c.from_residual-in_err-constraints.ensures.1 c.in_err-constraints.ensures (λ t h. (t.constraints, h.constraints))

pub returns : goal.returns
returns c = record {
  keys = c.in_ok-is_object_of.ensures;
  kind = c.in_ok-kind.ensures;
  mandatory = c.in_ok-mandatory.ensures;
  autocreated = c.in_ok-autocreated.ensures;
  protected = c.in_ok-protected.ensures;
  multiple = c.in_ok-multiple.ensures;
  opv = c.in_ok-opv.ensures;
  name = c.in_ok-name.ensures;
  defaults = c.in_ok-defaults.ensures;
  constraints = c.in_ok-constraints.ensures;
}
