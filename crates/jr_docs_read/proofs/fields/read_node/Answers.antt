use Rattle.std.proofs.Common.{◌≡◌, subst, ap, ◌∙◌}
use Rattle.std.specs.Prelude.{filter}
use Rattle.std.proofs.lemmas.Result.{err_from_is_err_and}
use Rattle.jr_docs_read.specs.Printed.{has_entries}
use Rattle.jr_docs_read.specs.Ranges.{IsIdInRange}
use Rattle.jr_docs_read.specs.Reading.{with_vectors}
use Rattle.jr_docs_read.proofs.Answered.{memory_only, weaker}
use Rattle.jr_docs_read.proofs.Built.{node_built, node_not_settings}
use Rattle.jr_docs_read.proofs.Named.{node_prev}
use Rattle.oak_doc.specs.declared.document.Document.{Document}
use Rattle.jr_docs_read.proofs.Ranged.{on_ok}
use Rattle.jr_docs_read.proofs.Stored.{node_stored}
use Rattle.jr_docs_read.proofs.fields.read_node.Goals as goal

pub returns-in_err-read_vectors-clause-complete : goal.returns-in_err-read_vectors-clause-complete
returns-in_err-read_vectors-clause-complete c d p h is json begun =
    let first = c.in_ok-read_commits.ensures.complete d p h is json (ap (λ (x : Document). x.deleted) begun) (ap (λ (x : Document). x.commit_root) begun) (ap (λ (x : Document). x.revisions) begun) in
    let second = c.in_ok-read_marks.ensures.complete d p h is json (ap (λ (x : Document). x.collisions) first ∙ ap (λ (x : Document). x.collisions) begun) (ap (λ (x : Document). x.touched) first ∙ ap (λ (x : Document). x.touched) begun) (ap (λ (x : Document). x.guard) first ∙ ap (λ (x : Document). x.guard) begun) in
    let q = err_from_is_err_and c.from_residual-in_err-read_vectors.result c.from_residual-in_err-read_vectors.ensures.1 in
    let memory = memory_only (λ (u : Unit {0}). c.read_vectors.new.document ≡ with_vectors p d c.read_marks.new.document) _
    (c.in_err-read_vectors.ensures.complete d p h is json
    (ap (λ (x : Document). x.id) second ∙ (ap (λ (x : Document). x.id) first ∙ (ap (λ (x : Document). x.id) begun ∙ is)))
    (ap (λ (x : Document). x.last_rev) second ∙ (ap (λ (x : Document). x.last_rev) first ∙ ap (λ (x : Document). x.last_rev) begun))
    (ap (λ (x : Document). x.sweep_rev) second ∙ (ap (λ (x : Document). x.sweep_rev) first ∙ ap (λ (x : Document). x.sweep_rev) begun))) in
    rw (q.1, q.2, memory) tt

pub returns-in_err-read_listed-clause-complete : goal.returns-in_err-read_listed-clause-complete
returns-in_err-read_listed-clause-complete c d p h is json begun =
    let first = c.in_ok-read_commits.ensures.complete d p h is json (ap (λ (x : Document). x.deleted) begun) (ap (λ (x : Document). x.commit_root) begun) (ap (λ (x : Document). x.revisions) begun) in
    let second = c.in_ok-read_marks.ensures.complete d p h is json (ap (λ (x : Document). x.collisions) first ∙ ap (λ (x : Document). x.collisions) begun) (ap (λ (x : Document). x.touched) first ∙ ap (λ (x : Document). x.touched) begun) (ap (λ (x : Document). x.guard) first ∙ ap (λ (x : Document). x.guard) begun) in
    let third = c.in_ok-read_vectors.ensures.complete d p h is json
    (ap (λ (x : Document). x.id) second ∙ (ap (λ (x : Document). x.id) first ∙ (ap (λ (x : Document). x.id) begun ∙ is)))
    (ap (λ (x : Document). x.last_rev) second ∙ (ap (λ (x : Document). x.last_rev) first ∙ ap (λ (x : Document). x.last_rev) begun))
    (ap (λ (x : Document). x.sweep_rev) second ∙ (ap (λ (x : Document). x.sweep_rev) first ∙ ap (λ (x : Document). x.sweep_rev) begun)) in
    let q = err_from_is_err_and c.from_residual-in_err-read_listed.result c.from_residual-in_err-read_listed.ensures.1 in
    let memory = memory_only (λ (u : Unit {0}). c.read_listed.new.prev ≡ d.prev) _
    (c.in_err-read_listed.ensures.complete p d.prev (subst IsIdInRange is h.id) h.prev (c.get.ensures ∙ node_prev p d _ is json)
    (ap (λ (x : Document). x.prev) third ∙ (ap (λ (x : Document). x.prev) second ∙ (ap (λ (x : Document). x.prev) first ∙ ap (λ (x : Document). x.prev) begun)))) in
    rw (q.1, q.2, memory) tt

pub returns-clause-complete : goal.returns-clause-complete
returns-clause-complete c d p h is json begun =
    let first = c.in_ok-read_commits.ensures.complete d p h is json (ap (λ (x : Document). x.deleted) begun) (ap (λ (x : Document). x.commit_root) begun) (ap (λ (x : Document). x.revisions) begun) in
    let second = c.in_ok-read_marks.ensures.complete d p h is json (ap (λ (x : Document). x.collisions) first ∙ ap (λ (x : Document). x.collisions) begun) (ap (λ (x : Document). x.touched) first ∙ ap (λ (x : Document). x.touched) begun) (ap (λ (x : Document). x.guard) first ∙ ap (λ (x : Document). x.guard) begun) in
    let third = c.in_ok-read_vectors.ensures.complete d p h is json
    (ap (λ (x : Document). x.id) second ∙ (ap (λ (x : Document). x.id) first ∙ (ap (λ (x : Document). x.id) begun ∙ is)))
    (ap (λ (x : Document). x.last_rev) second ∙ (ap (λ (x : Document). x.last_rev) first ∙ ap (λ (x : Document). x.last_rev) begun))
    (ap (λ (x : Document). x.sweep_rev) second ∙ (ap (λ (x : Document). x.sweep_rev) first ∙ ap (λ (x : Document). x.sweep_rev) begun)) in
    let fourth = c.in_ok-read_listed.ensures.complete p d.prev (subst IsIdInRange is h.id) h.prev (c.get.ensures ∙ node_prev p d _ is json)
    (ap (λ (x : Document). x.prev) third ∙ (ap (λ (x : Document). x.prev) second ∙ (ap (λ (x : Document). x.prev) first ∙ ap (λ (x : Document). x.prev) begun))) in
    weaker (λ (u : Unit {0}). c.read_properties.new.props ≡ filter has_entries d.props) _ c.read_properties.result (λ u fifth. node_built d p _ _ _ _ _ _ is begun first second third fourth fifth)
    (c.read_properties.ensures.complete d h (node_not_settings d.id p is) json
    (ap (λ (x : Document). x.props) third ∙ (ap (λ (x : Document). x.props) second ∙ (ap (λ (x : Document). x.props) first ∙ ap (λ (x : Document). x.props) begun))))

pub returns-clause-in_range : goal.returns-clause-in_range
returns-clause-in_range c h =
    let third = c.in_ok-read_vectors.ensures.in_range (c.in_ok-read_marks.ensures.in_range (c.in_ok-read_commits.ensures.in_range h)) in
    on_ok c.read_properties.result (λ fifth. node_stored _ _ _ (c.in_ok-read_listed.ensures.in_range third.storable.prev) third fifth) (c.read_properties.ensures.in_range third.storable.props)
