use Rattle.std.proofs.Common.{◌≡◌, [], sym, ap, ◌∙◌}
use Rattle.std.proofs.lemmas.Result.{err_from_is_err_and}
use Rattle.jr_docs_read.specs.Reading.{with_vectors}
use Rattle.jr_docs.specs.Documents.{sweep_field}
use Rattle.jr_docs_read.specs.Printed.{of_root}
use Rattle.jr_docs_read.proofs.Answered.{handed, weaker}
use Rattle.jr_docs_read.proofs.Built.{off_root, vectors_same}
use Rattle.jr_path.specs.declared.path.Path.{Path}
use Rattle.jr_docs_read.proofs.Named.{node_last_rev, node_sweep_rev}
use Rattle.jr_docs_read.proofs.Ranged.{on_ok}
use Rattle.jr_docs_read.proofs.Stored.{vectors_stored}
use Rattle.jr_docs_read.proofs.fields.read_vectors.Goals as goal

pub returns-in_err-read_vector_into-clause-complete : goal.returns-in_err-read_vector_into-clause-complete
returns-in_err-read_vector_into-clause-complete c d p h is json id last sweep =
    let q = err_from_is_err_and c.from_residual.result c.from_residual.ensures.1 in
    rw (q.1, q.2) (handed (λ (u : Unit {0}). c.read_vector_into.new.vector ≡ d.last_rev) (λ (u : Unit {0}). record c.args.document.now { last_rev = c.read_vector_into.new.vector } ≡ with_vectors p d c.args.document.now) _
    (c.in_err-read_vector_into.ensures.complete d.last_rev h.last_rev (c.get.ensures ∙ node_last_rev p d _ is json) last))

pub returns-then-is_root-clause-complete : goal.returns-then-is_root-clause-complete
returns-then-is_root-clause-complete c d p h is json id last sweep =
    let root : p ≡ [] = (c.is_root.ensures p id).0 c.if-is_root.true in
    let first = c.in_ok-read_vector_into.ensures.complete d.last_rev h.last_rev (c.get.ensures ∙ node_last_rev p d _ is json) last in
    weaker (λ (u : Unit {0}). c.read_vector_into-then-is_root.new.vector ≡ d.sweep_rev) _ c.read_vector_into-then-is_root.result (λ u second. vectors_same c.args.document.now d p _ _ first (second ∙ sym (ap (λ (r : Path). of_root r d.sweep_rev) root)))
    (c.read_vector_into-then-is_root.ensures.complete d.sweep_rev h.sweep_rev (c.get-then-is_root.ensures ∙ (node_sweep_rev p d _ is json ∙ ap (λ (r : Path). sweep_field r d.sweep_rev) root)) sweep)

pub returns-clause-complete : goal.returns-clause-complete
returns-clause-complete c d p h is json id last sweep =
    let first = c.in_ok-read_vector_into.ensures.complete d.last_rev h.last_rev (c.get.ensures ∙ node_last_rev p d _ is json) last in
    let other : p ≡ [] → ⊥ = λ root. (let yes' = (c.is_root.ensures p id).1 root in let not' = c.if-is_root.false in cc) in
    vectors_same c.args.document.now d p _ _ first (sweep ∙ off_root p d.sweep_rev other)

pub returns-then-is_root-clause-in_range : goal.returns-then-is_root-clause-in_range
returns-then-is_root-clause-in_range c h =
    on_ok c.read_vector_into-then-is_root.result (λ second. vectors_stored c.args.document.now _ _ (c.in_ok-read_vector_into.ensures.in_range h.storable.last_rev) second h) (c.read_vector_into-then-is_root.ensures.in_range h.storable.sweep_rev)

pub returns-clause-in_range : goal.returns-clause-in_range
returns-clause-in_range c h = vectors_stored c.args.document.now _ _ (c.in_ok-read_vector_into.ensures.in_range h.storable.last_rev) h.storable.sweep_rev h
