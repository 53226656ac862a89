use Rattle.std.proofs.Common.{◌≡◌, ◌<◌, ◌++◌, ◌∷◌, [], List, append_assoc, arith, get_or, length, sym, ap, take, ◌∙◌}
use Rattle.std.specs.Prelude.{map}
use Rattle.std.proofs.lemmas.List.{take_all, take_more}
use Rattle.std.proofs.lemmas.List.Elements.{All-push}
use Rattle.std.proofs.lemmas.Result.{err_from_is_err_and}
use Rattle.serde_json.specs.View.{view}
use Rattle.jr_docs.specs.Documents.{prev_data}
use Rattle.jr_docs_read.specs.Ranges.{IsListedInRange}
use Rattle.jr_docs_read.proofs.Answered.{handed}
use Rattle.jr_docs_read.proofs.Items.{mapped_at, mapped_length, no_listed, same_items}
use Rattle.oak_doc.specs.declared.document.PrevEntry.{PrevEntry}
use Rattle.jr_docs_read.proofs.fields.read_entries.Goals as goal

pub returns-in_err-read_entry-clause-complete : goal.returns-in_err-read_entry-clause-complete
returns-in_err-read_entry-clause-complete c p es path listed is =
    let same = same_items (map (prev_data p) es) (map view c.args.items.now) is in
    let size = mapped_length (prev_data p) view es c.args.items.now same in
    let k = c.loop-item.item-index in
    let lt : k < length es = omega (arith, size, c.loop-item-test.true) in
    let at = mapped_at (prev_data p) view es c.args.items.now k no_listed c.item-item.result same c.loop-item-test.true in
    let q = err_from_is_err_and c.from_residual.result c.from_residual.ensures.1 in
    rw (q.1, q.2) (handed (λ (found : PrevEntry). found ≡ get_or es k no_listed) (λ (u : Unit {0}). c.loop-item.prev ≡ c.args.prev.now ++ es) _ (c.in_err-read_entry.ensures.complete p (get_or es k no_listed) path (listed k no_listed lt) (at ∙ ap view (sym c.item-item.is))))

pub loop-item-preserved : goal.loop-item-preserved
loop-item-preserved c = (
  λ p es path listed is.
      let same = same_items (map (prev_data p) es) (map view c.args.items.now) is in
      let size = mapped_length (prev_data p) view es c.args.items.now same in
      let k = c.loop-item.item-index in
      let lt : k < length es = omega (arith, size, c.loop-item-test.true) in
      let at = mapped_at (prev_data p) view es c.args.items.now k no_listed c.item-item.result same c.loop-item-test.true in
      let read = c.in_ok-read_entry.ensures.complete p (get_or es k no_listed) path (listed k no_listed lt) (at ∙ ap view (sym c.item-item.is)) in
      c.in_ok-push.ensures.ok
      ∙ (ap (λ (xs : List PrevEntry). xs ++ c.in_ok-read_entry.field-0 ∷ []) (c.loop-item.invariant.0 p es path listed is)
      ∙ (append_assoc c.args.prev.now (take k es) (c.in_ok-read_entry.field-0 ∷ [])
      ∙ ap (λ (xs : List PrevEntry). c.args.prev.now ++ xs) (ap (λ (x : PrevEntry). take k es ++ x ∷ []) read ∙ sym (take_more es k no_listed lt)))),
  λ h. rw c.in_ok-push.ensures.ok (All-push IsListedInRange c.loop-item.prev c.in_ok-read_entry.field-0 (c.loop-item.invariant.1 h) c.in_ok-read_entry.ensures.in_range),
)

pub returns-clause-in_range : goal.returns-clause-in_range
returns-clause-in_range c h = c.loop-item.invariant.1 h

pub returns-clause-complete : goal.returns-clause-complete
returns-clause-complete c p es path listed is =
    let same = same_items (map (prev_data p) es) (map view c.args.items.now) is in
    let size = mapped_length (prev_data p) view es c.args.items.now same in
    let k = c.loop-item.item-index in
    c.loop-item.invariant.0 p es path listed is ∙ ap (λ (xs : List PrevEntry). c.args.prev.now ++ xs) (take_all k es (omega (arith, size, c.loop-item-test.false)))
