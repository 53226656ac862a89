use Rattle.std.proofs.Common.{◌≡◌, ap, ◌∙◌}
use Rattle.std.specs.Prelude.{filter}
use Rattle.std.proofs.lemmas.Result.{err_from_is_err_and}
use Rattle.jr_docs_read.specs.Printed.{as_printed, has_entries}
use Rattle.jr_docs_read.proofs.Answered.{handed, weaker}
use Rattle.jr_docs_read.proofs.Built.{prev_built, prev_not_settings}
use Rattle.jr_docs_read.proofs.Named.{prev_commit_root}
use Rattle.oak_doc.specs.declared.document.Document.{Document}
use Rattle.jr_docs_read.proofs.Ranged.{on_ok}
use Rattle.jr_docs_read.proofs.Stored.{prev_stored}
use Rattle.jr_docs_read.proofs.fields.read_prev.Goals as goal

pub returns-in_err-read_map-clause-complete : goal.returns-in_err-read_map-clause-complete
returns-in_err-read_map-clause-complete c d n p h is json begun =
    let q = err_from_is_err_and c.from_residual.result c.from_residual.ensures.1 in
    rw (q.1, q.2) (handed (λ (u : Unit {0}). c.read_map.new.map ≡ d.commit_root) (λ (u : Unit {0}). record c.args.document.now { commit_root = c.read_map.new.map } ≡ as_printed d) _
    (c.in_err-read_map.ensures.complete d.commit_root h.commit_root (c.get.ensures ∙ prev_commit_root n p d _ is json) (ap (λ (x : Document). x.commit_root) begun)))

pub returns-clause-complete : goal.returns-clause-complete
returns-clause-complete c d n p h is json begun =
    let first = c.in_ok-read_map.ensures.complete d.commit_root h.commit_root (c.get.ensures ∙ prev_commit_root n p d _ is json) (ap (λ (x : Document). x.commit_root) begun) in
    weaker (λ (u : Unit {0}). c.read_properties.new.props ≡ filter has_entries d.props) _ c.read_properties.result (λ u second. prev_built d n p c.args.document.now _ _ is begun first second)
    (c.read_properties.ensures.complete d h (prev_not_settings d.id n p is) json (ap (λ (x : Document). x.props) begun))

pub returns-clause-in_range : goal.returns-clause-in_range
returns-clause-in_range c h =
    on_ok c.read_properties.result (λ second. prev_stored c.args.document.now _ _ (c.in_ok-read_map.ensures.in_range h.storable.commit_root) h second) (c.read_properties.ensures.in_range h.storable.props)
