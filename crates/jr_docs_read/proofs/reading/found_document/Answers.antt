use Rattle.std.proofs.Common.{◌≡◌, sym}
use Rattle.std.specs.Borrow.{Bor}
use Rattle.std.specs.Prelude.{ℕ}
use Rattle.std.proofs.lemmas.Result.{err_from_is_err_and}
use Rattle.serde_json.specs.Data.{string}
use Rattle.serde_json.specs.View.{view}
use Rattle.serde_json.specs.declared.value.Value.{Value}
use Rattle.jr_docs.specs.Documents.{number_data}
use Rattle.jr_docs_read.specs.Printed.{as_printed}
use Rattle.jr_docs_read.proofs.Answered.{handed}
use Rattle.jr_docs_read.proofs.Built.{begun_with}
use Rattle.jr_docs_read.proofs.Named.{id_found, number_found}
use Rattle.jr_path.specs.Ids.{id_text}
use Rattle.jr_path.specs.declared.path.DocId.{DocId}
use Rattle.oak_doc.specs.declared.document.Document.{Document}
use Rattle.jr_docs_read.proofs.Stored.{begun_stored}
use Rattle.jr_docs_read.proofs.reading.found_document.Goals as goal

pub returns-in_err-member-clause-complete : goal.returns-in_err-member-clause-complete
returns-in_err-member-clause-complete c d h json =
    let q = err_from_is_err_and c.from_residual.result c.from_residual.ensures.1 in
    rw (q.1, q.2) (handed (λ (m : Bor Value). view m.now ≡ number_data d.mod_count) (λ (found : Document). found ≡ as_printed d) _ (c.in_err-member.ensures (number_data d.mod_count) (number_found d _ json)))

pub returns-in_err-number-clause-complete : goal.returns-in_err-number-clause-complete
returns-in_err-number-clause-complete c d h json =
    let q = err_from_is_err_and c.from_residual-in_err-number.result c.from_residual-in_err-number.ensures.1 in
    rw (q.1, q.2) (handed (λ (n : ℕ). n ≡ d.mod_count) (λ (found : Document). found ≡ as_printed d) _ (c.in_err-number.ensures d.mod_count (sym (c.in_ok-member.ensures (number_data d.mod_count) (number_found d _ json)))))

pub returns-in_err-member-2-clause-complete : goal.returns-in_err-member-2-clause-complete
returns-in_err-member-2-clause-complete c d h json =
    let q = err_from_is_err_and c.from_residual-in_err-member-2.result c.from_residual-in_err-member-2.ensures.1 in
    rw (q.1, q.2) (handed (λ (m : Bor Value). view m.now ≡ string (id_text d.id)) (λ (found : Document). found ≡ as_printed d) _ (c.in_err-member-2.ensures (string (id_text d.id)) (id_found d _ json)))

pub returns-in_err-id-clause-complete : goal.returns-in_err-id-clause-complete
returns-in_err-id-clause-complete c d h json =
    let q = err_from_is_err_and c.from_residual-in_err-id.result c.from_residual-in_err-id.ensures.1 in
    rw (q.1, q.2) (handed (λ (k : DocId). k ≡ d.id) (λ (found : Document). found ≡ as_printed d) _ (c.in_err-id.ensures.complete d.id h.id (sym (c.in_ok-member-2.ensures (string (id_text d.id)) (id_found d _ json)))))

pub returns-in_err-read_fields-clause-complete : goal.returns-in_err-read_fields-clause-complete
returns-in_err-read_fields-clause-complete c d h json =
    let number = c.in_ok-number.ensures d.mod_count (sym (c.in_ok-member.ensures (number_data d.mod_count) (number_found d _ json))) in
    let id = c.in_ok-id.ensures.complete d.id h.id (sym (c.in_ok-member-2.ensures (string (id_text d.id)) (id_found d _ json))) in
    let q = err_from_is_err_and c.from_residual-in_err-read_fields.result c.from_residual-in_err-read_fields.ensures.1 in
    rw (q.1, q.2) (handed (λ (u : Unit {0}). c.read_fields.new.document ≡ as_printed d) (λ (found : Document). found ≡ as_printed d) _ (c.in_err-read_fields.ensures.complete d h json (begun_with c.empty-document.result d _ _ c.empty-document.ensures id number)))

pub returns-clause-complete : goal.returns-clause-complete
returns-clause-complete c d h json =
    let number = c.in_ok-number.ensures d.mod_count (sym (c.in_ok-member.ensures (number_data d.mod_count) (number_found d _ json))) in
    let id = c.in_ok-id.ensures.complete d.id h.id (sym (c.in_ok-member-2.ensures (string (id_text d.id)) (id_found d _ json))) in
    c.in_ok-read_fields.ensures.complete d h json (begun_with c.empty-document.result d _ _ c.empty-document.ensures id number)

pub returns-clause-storable : goal.returns-clause-storable
returns-clause-storable c = (c.in_ok-read_fields.ensures.in_range (begun_stored c.empty-document.result _ _ c.empty-document.ensures c.in_ok-id.ensures.in_range)).storable
