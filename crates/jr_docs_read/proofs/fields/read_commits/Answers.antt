use Rattle.std.proofs.Common.{◌≡◌, ◌∙◌}
use Rattle.std.proofs.lemmas.Result.{err_from_is_err_and}
use Rattle.jr_docs_read.specs.Reading.{with_commits}
use Rattle.jr_docs_read.proofs.Answered.{handed, weaker}
use Rattle.jr_docs_read.proofs.Built.{commits_same}
use Rattle.jr_docs_read.proofs.Named.{node_commit_root, node_deleted, node_revisions}
use Rattle.jr_docs_read.proofs.Ranged.{on_ok}
use Rattle.jr_docs_read.proofs.Stored.{commits_stored}
use Rattle.jr_docs_read.proofs.fields.read_commits.Goals as goal

pub returns-in_err-read_map-clause-complete : goal.returns-in_err-read_map-clause-complete
returns-in_err-read_map-clause-complete c d p h is json none none' none'' =
    let q = err_from_is_err_and c.from_residual.result c.from_residual.ensures.1 in
    rw (q.1, q.2) (handed (λ (u : Unit {0}). c.read_map.new.map ≡ d.deleted) (λ (u : Unit {0}). record c.args.document.now { deleted = c.read_map.new.map } ≡ with_commits d c.args.document.now) _
    (c.in_err-read_map.ensures.complete d.deleted h.deleted (c.get.ensures ∙ node_deleted p d _ is json) none))

pub returns-in_err-read_map-2-clause-complete : goal.returns-in_err-read_map-2-clause-complete
returns-in_err-read_map-2-clause-complete c d p h is json none none' none'' =
    let q = err_from_is_err_and c.from_residual-in_err-read_map-2.result c.from_residual-in_err-read_map-2.ensures.1 in
    rw (q.1, q.2) (handed (λ (u : Unit {0}). c.read_map-2.new.map ≡ d.commit_root) (λ (u : Unit {0}). record c.args.document.now { deleted = c.read_map.new.map; commit_root = c.read_map-2.new.map } ≡ with_commits d c.args.document.now) _
    (c.in_err-read_map-2.ensures.complete d.commit_root h.commit_root (c.get-2.ensures ∙ node_commit_root p d _ is json) none'))

pub returns-clause-complete : goal.returns-clause-complete
returns-clause-complete c d p h is json none none' none'' =
    let first = c.in_ok-read_map.ensures.complete d.deleted h.deleted (c.get.ensures ∙ node_deleted p d _ is json) none in
    let second = c.in_ok-read_map-2.ensures.complete d.commit_root h.commit_root (c.get-2.ensures ∙ node_commit_root p d _ is json) none' in
    weaker (λ (u : Unit {0}). c.read_map-3.new.map ≡ d.revisions) _ c.read_map-3.result (λ u third. commits_same c.args.document.now d _ _ _ first second third)
    (c.read_map-3.ensures.complete d.revisions h.revisions (c.get-3.ensures ∙ node_revisions p d _ is json) none'')

pub returns-clause-in_range : goal.returns-clause-in_range
returns-clause-in_range c h =
    on_ok c.read_map-3.result (λ third. commits_stored c.args.document.now _ _ _ (c.in_ok-read_map.ensures.in_range h.storable.deleted) (c.in_ok-read_map-2.ensures.in_range h.storable.commit_root) third h) (c.read_map-3.ensures.in_range h.storable.revisions)
