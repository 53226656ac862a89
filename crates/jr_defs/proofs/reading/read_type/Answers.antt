use Rattle.serde_json.specs.View.{view}
use Rattle.jr_defs.specs.Reading.{IsTypeJson}
use Rattle.jr_defs.proofs.ByParts.{exits}
use Rattle.jr_defs.proofs.reading.read_type.Goals as goal

pub returns-in_err-is_object_of : goal.returns-in_err-is_object_of
returns-in_err-is_object_of c = exits _ (IsTypeJson (view c.args.json.now)) _ _ c.from_residual.ensures.1 c.in_err-is_object_of.ensures (λ t h. (tt, h.keys))

pub returns-in_err-is_abstract : goal.returns-in_err-is_abstract
returns-in_err-is_abstract c = exits _ (IsTypeJson (view c.args.json.now)) _ _ c.from_residual-in_err-is_abstract.ensures.1 c.in_err-is_abstract.ensures (λ t h. (t.is_abstract, h.is_abstract))

pub returns-in_err-mixin : goal.returns-in_err-mixin
returns-in_err-mixin c = exits _ (IsTypeJson (view c.args.json.now)) _ _ c.from_residual-in_err-mixin.ensures.1 c.in_err-mixin.ensures (λ t h. (t.mixin, h.mixin))

pub returns-in_err-orderable : goal.returns-in_err-orderable
returns-in_err-orderable c = exits _ (IsTypeJson (view c.args.json.now)) _ _ c.from_residual-in_err-orderable.ensures.1 c.in_err-orderable.ensures (λ t h. (t.orderable, h.orderable))

pub returns-in_err-name : goal.returns-in_err-name
returns-in_err-name c = exits _ (IsTypeJson (view c.args.json.now)) _ _ c.from_residual-in_err-name.ensures.1 c.in_err-name.ensures (λ t h. (t.name, h.name))

pub returns-in_err-supertypes : goal.returns-in_err-supertypes
returns-in_err-supertypes c = exits _ (IsTypeJson (view c.args.json.now)) _ _ c.from_residual-in_err-supertypes.ensures.1 c.in_err-supertypes.ensures (λ t h. (t.supertypes, h.supertypes))

pub returns-in_err-primary_item : goal.returns-in_err-primary_item
returns-in_err-primary_item c = exits _ (IsTypeJson (view c.args.json.now)) _ _ c.from_residual-in_err-primary_item.ensures.1 c.in_err-primary_item.ensures (λ t h. (t.primary_item, h.primary_item))

pub returns-in_err-props : goal.returns-in_err-props
returns-in_err-props c = exits _ (IsTypeJson (view c.args.json.now)) _ _ c.from_residual-in_err-props.ensures.1 c.in_err-props.ensures (λ t h. (t.props, h.props))

pub returns-in_err-children : goal.returns-in_err-children
returns-in_err-children c = exits _ (IsTypeJson (view c.args.json.now)) _ _ c.from_residual-in_err-children.ensures.1 c.in_err-children.ensures (λ t h. (t.children, h.children))

pub returns : goal.returns
returns c = record {
  keys = c.in_ok-is_object_of.ensures;
  is_abstract = c.in_ok-is_abstract.ensures;
  mixin = c.in_ok-mixin.ensures;
  orderable = c.in_ok-orderable.ensures;
  name = c.in_ok-name.ensures;
  supertypes = c.in_ok-supertypes.ensures;
  primary_item = c.in_ok-primary_item.ensures;
  props = c.in_ok-props.ensures;
  children = c.in_ok-children.ensures;
}
