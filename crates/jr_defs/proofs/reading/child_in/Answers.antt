use Rattle.serde_json.specs.View.{view}
use Rattle.jr_defs.specs.Reading.{IsChildJson}
use Rattle.jr_defs.proofs.ByParts.{exits}
use Rattle.jr_defs.proofs.reading.child_in.Goals as goal

pub returns-in_err-is_object_of : goal.returns-in_err-is_object_of
returns-in_err-is_object_of c = exits _ (IsChildJson (view c.args.json.now)) _ _ c.from_residual.ensures.1 c.in_err-is_object_of.ensures (λ t h. (tt, h.keys))

pub returns-in_err-mandatory : goal.returns-in_err-mandatory
returns-in_err-mandatory c = exits _ (IsChildJson (view c.args.json.now)) _ _ c.from_residual-in_err-mandatory.ensures.1 c.in_err-mandatory.ensures (λ t h. (t.mandatory, h.mandatory))

pub returns-in_err-autocreated : goal.returns-in_err-autocreated
returns-in_err-autocreated c = exits _ (IsChildJson (view c.args.json.now)) _ _ c.from_residual-in_err-autocreated.ensures.1 c.in_err-autocreated.ensures (λ t h. (t.autocreated, h.autocreated))

pub returns-in_err-protected : goal.returns-in_err-protected
returns-in_err-protected c = exits _ (IsChildJson (view c.args.json.now)) _ _ c.from_residual-in_err-protected.ensures.1 c.in_err-protected.ensures (λ t h. (t.protected, h.protected))

pub returns-in_err-opv : goal.returns-in_err-opv
returns-in_err-opv c = exits _ (IsChildJson (view c.args.json.now)) _ _ c.from_residual-in_err-opv.ensures.1 c.in_err-opv.ensures (λ t h. (t.opv, h.opv))

pub returns-in_err-name : goal.returns-in_err-name
returns-in_err-name c = exits _ (IsChildJson (view c.args.json.now)) _ _ c.from_residual-in_err-name.ensures.1 c.in_err-name.ensures (λ t h. (t.name, h.name))

pub returns-in_err-default_type : goal.returns-in_err-default_type
returns-in_err-default_type c = exits _ (IsChildJson (view c.args.json.now)) _ _ c.from_residual-in_err-default_type.ensures.1 c.in_err-default_type.ensures (λ t h. (t.default_type, h.default_type))

pub returns-in_err-types : goal.returns-in_err-types
returns-in_err-types c = exits _ (IsChildJson (view c.args.json.now)) _ _ c.from_residual-in_err-types.ensures.1 c.in_err-types.ensures (λ t h. (t.types, h.types))

pub returns : goal.returns
returns c = record {
  keys = c.in_ok-is_object_of.ensures;
  mandatory = c.in_ok-mandatory.ensures;
  autocreated = c.in_ok-autocreated.ensures;
  protected = c.in_ok-protected.ensures;
  opv = c.in_ok-opv.ensures;
  name = c.in_ok-name.ensures;
  default_type = c.in_ok-default_type.ensures;
  types = c.in_ok-types.ensures;
}
