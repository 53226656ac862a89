-- The documents of the start list no previous ones, and each has the id by which it is found.
use Rattle.std.proofs.Common.{◌≡◌, Bool, true, false, cond, Some, None, Option, [], sym, ap, is_some}
use Rattle.std.specs.Prelude.{codes}
use Rattle.std.specs.Option.{unwrap_or}
use Rattle.std.specs.Ordering.{eq_by_cmp}
use mathlib.Core.Bool.{false≢true}
use Rattle.jr_path.specs.Names.{path_cmp}
use Rattle.jr_path.specs.declared.path.Path.{Path}
use Rattle.jr_path.specs.declared.path.DocId.TheVariants as id
use Rattle.jr_rev.specs.declared.vector.RevVec.{RevVec}
use Rattle.oak_doc.specs.declared.document.Document.{Document}
use Rattle.core_read.specs.Start.{start_document, start_documents, path_of_system, versions}

-- the document, by which of the three paths it is
abbrev chosen : RevVec → Path → Bool → Bool → Bool → Option Document
chosen v p a b c =
    cond a (Some (start_document v p (codes "rep:versionStorage"))) (cond b (Some (start_document v p (codes "rep:system"))) (cond c (Some (start_document v p (codes "nt:unstructured"))) None))

from_some : (c d : Document) → Some c ≡ Some d → c ≡ d
from_some c d h = ap (λ o. unwrap_or o c) h

whole : (v : RevVec) (p : Path) (d : Document) (a b c : Bool) → chosen v p a b c ≡ Some d → (d.prev ≡ []) × (d.id ≡ id.Node p)
whole v p d true b c h = let e = from_some _ d h in (ap (λ (d : Document). d.prev) (sym e), ap (λ (d : Document). d.id) (sym e))
whole v p d false true c h = let e = from_some _ d h in (ap (λ (d : Document). d.prev) (sym e), ap (λ (d : Document). d.id) (sym e))
whole v p d false false true h = let e = from_some _ d h in (ap (λ (d : Document). d.prev) (sym e), ap (λ (d : Document). d.id) (sym e))
whole v p d false false false h = absurd (false≢true (ap is_some h))

pub start_whole : (v : RevVec) (p : Path) (d : Document) → start_documents v (id.Node p) ≡ Some d → (d.prev ≡ []) × (d.id ≡ id.Node p)
start_whole v p d = whole v p d (eq_by_cmp path_cmp p versions) (eq_by_cmp path_cmp p path_of_system) (eq_by_cmp path_cmp p [])
