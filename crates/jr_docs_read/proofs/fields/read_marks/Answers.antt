use Rattle.std.proofs.Common.{◌≡◌, sym, ◌∙◌}
use Rattle.std.specs.Prelude.{map}
use Rattle.std.proofs.lemmas.Result.{err_from_is_err_and}
use Rattle.jr_docs_read.specs.Printed.{as_node}
use Rattle.jr_docs_read.specs.Reading.{with_marks_of}
use Rattle.jr_docs_read.proofs.Answered.{handed, weaker}
use Rattle.jr_docs_read.proofs.Built.{marks_same}
use Rattle.jr_docs_read.proofs.Named.{node_collisions, node_guard, node_touched}
use Rattle.jr_docs_read.proofs.Printed.{node_collisions_data, node_collisions_map}
use Rattle.jr_docs_read.proofs.Ranged.{on_ok}
use Rattle.jr_docs_read.proofs.Stored.{marks_stored}
use Rattle.jr_docs_read.proofs.fields.read_marks.Goals as goal

pub returns-in_err-read_map-clause-complete : goal.returns-in_err-read_map-clause-complete
returns-in_err-read_map-clause-complete c d p h is json none none' none'' =
    let q = err_from_is_err_and c.from_residual.result c.from_residual.ensures.1 in
    rw (q.1, q.2) (handed (λ (u : Unit {0}). c.read_map.new.map ≡ map as_node d.collisions) (λ (u : Unit {0}). record c.args.document.now { collisions = c.read_map.new.map } ≡ with_marks_of d c.args.document.now) _
    (c.in_err-read_map.ensures.complete (map as_node d.collisions) (node_collisions_map d.collisions h.collisions) (c.get.ensures ∙ (node_collisions p d _ is json ∙ sym (node_collisions_data d.collisions))) none))

pub returns-in_err-read_map-2-clause-complete : goal.returns-in_err-read_map-2-clause-complete
returns-in_err-read_map-2-clause-complete c d p h is json none none' none'' =
    let q = err_from_is_err_and c.from_residual-in_err-read_map-2.result c.from_residual-in_err-read_map-2.ensures.1 in
    rw (q.1, q.2) (handed (λ (u : Unit {0}). c.read_map-2.new.map ≡ d.touched) (λ (u : Unit {0}). record c.args.document.now { collisions = c.read_map.new.map; touched = c.read_map-2.new.map } ≡ with_marks_of d c.args.document.now) _
    (c.in_err-read_map-2.ensures.complete d.touched h.touched (c.get-2.ensures ∙ node_touched p d _ is json) none'))

pub returns-clause-complete : goal.returns-clause-complete
returns-clause-complete c d p h is json none none' none'' =
    let first = c.in_ok-read_map.ensures.complete (map as_node d.collisions) (node_collisions_map d.collisions h.collisions) (c.get.ensures ∙ (node_collisions p d _ is json ∙ sym (node_collisions_data d.collisions))) none in
    let second = c.in_ok-read_map-2.ensures.complete d.touched h.touched (c.get-2.ensures ∙ node_touched p d _ is json) none' in
    weaker (λ (u : Unit {0}). c.read_map-3.new.map ≡ d.guard) _ c.read_map-3.result (λ u third. marks_same c.args.document.now d _ _ _ first second third)
    (c.read_map-3.ensures.complete d.guard h.guard (c.get-3.ensures ∙ node_guard p d _ is json) none'')

pub returns-clause-in_range : goal.returns-clause-in_range
returns-clause-in_range c h =
    on_ok c.read_map-3.result (λ third. marks_stored c.args.document.now _ _ _ (c.in_ok-read_map.ensures.in_range h.nodes) (c.in_ok-read_map-2.ensures.in_range h.storable.touched) third h) (c.read_map-3.ensures.in_range h.storable.guard)
