use Rattle.std.proofs.Common.{◌≡◌, ◌≢◌, [], Bool, true, false, Err, refl, sym, ap, ◌∙◌}
use Rattle.std.specs.Prelude.{filter, string_bytes}
use Rattle.std.specs.BTreeMap.{insert_entry}
use Rattle.std.proofs.lemmas.Result.{err_from_is_err_and}
use Rattle.serde_json.specs.View.{members_view}
use Rattle.jr_docs_read.specs.Printed.{has_entries}
use Rattle.jr_docs_read.specs.Ranges.{IsStorable}
use Rattle.jr_docs_read.specs.Reading.{Obtains, is_property, printed_members}
use Rattle.jr_docs_read.proofs.Answered.{handed}
use Rattle.jr_docs_read.proofs.Left.{Left, first_entry, next_left, others_left}
use Rattle.jr_docs_read.proofs.Properties.{of_properties, properties_begin}
use Rattle.jr_path.specs.Names.{name_cmp}
use Rattle.jr_path.specs.declared.path.DocId.TheVariants.{Settings}
use Rattle.oak_doc.specs.declared.document.Document.{Document}
use Rattle.jr_docs_read.proofs.fields.read_members_of.Goals as goal

pub returns-clause-in_range : goal.returns-clause-in_range
returns-clause-in_range c h = c.loop-name.invariant.1 h

pub loop-name-init : goal.loop-name-init
loop-name-init c = (
  λ d h other is none.
      let gives : c.into_iter-name-iterator.result ≡ c.args.members.now.entries = c.into_iter-name-iterator.ensures.into_iter_gives.0 in
      properties_begin d _ _ h other (is ∙ ap members_view (sym gives)) none,
  λ h. h,
)

pub loop-name-preserved : goal.loop-name-preserved
loop-name-preserved c = (λ d h other is none. by d h other is none (is_property (string_bytes c.in-Some.name.now)) refl, λ h. c.in_ok-read_property.ensures.in_range (c.loop-name.invariant.1 h))
  where
    by : (d : Document) → IsStorable d → d.id ≢ Settings → printed_members d ≡ members_view c.args.members.now.entries → c.args.props.now ≡ [] → (b : Bool) → is_property (string_bytes c.in-Some.name.now) ≡ b → Left of_properties (members_view c.next.new.self) c.read_property.new.props (filter has_entries d.props)
    by d h other is none true mine = next_left of_properties _ _ c.in-Some.name.now c.in-Some.value.now _ _ (filter has_entries d.props) c.in-Some.ensures.steps (c.loop-name.invariant.0 d h other is none) mine
        (λ e of. c.in_ok-read_property.ensures.complete e.0 e.1 of.0.0 of.0.1 (of.1 ∙ sym c.as_str.ensures.value) of.2)
    by d h other is none false not_mine = others_left of_properties _ _ c.in-Some.name.now c.in-Some.value.now _ _ (filter has_entries d.props) c.in-Some.ensures.steps (c.loop-name.invariant.0 d h other is none) not_mine
        (c.in_ok-read_property.ensures.other (ap is_property c.as_str.ensures.value ∙ not_mine))

pub returns-in_err-read_property-clause-complete : goal.returns-in_err-read_property-clause-complete
returns-in_err-read_property-clause-complete c d h other is none =
    let q = err_from_is_err_and c.from_residual.result c.from_residual.ensures.1 in
    rw (q.1, q.2) (by (is_property (string_bytes c.in-Some.name.now)) refl)
  where
    by : (b : Bool) → is_property (string_bytes c.in-Some.name.now) ≡ b → Obtains (λ (u : Unit {0}). c.read_property.new.props ≡ filter has_entries d.props) (Err c.in_err-read_property.field-0.0)
    by true mine =
        let x = first_entry of_properties _ _ c.in-Some.name.now c.in-Some.value.now _ (filter has_entries d.props) c.in-Some.ensures.steps (c.loop-name.invariant.0 d h other is none) mine in
        handed (λ (u : Unit {0}). c.read_property.new.props ≡ insert_entry name_cmp c.loop-name.props x.0.0 x.0.1) (λ (u : Unit {0}). c.read_property.new.props ≡ filter has_entries d.props) c.in_err-read_property.field-0.0 (c.in_err-read_property.ensures.complete x.0.0 x.0.1 x.1.0.0 x.1.0.1 (x.1.1 ∙ sym c.as_str.ensures.value) x.1.2)
    by false not_mine = handed (λ (u : Unit {0}). c.read_property.new.props ≡ c.loop-name.props) (λ (u : Unit {0}). c.read_property.new.props ≡ filter has_entries d.props) c.in_err-read_property.field-0.0 (c.in_err-read_property.ensures.other (ap is_property c.as_str.ensures.value ∙ not_mine))
