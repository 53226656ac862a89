-- The documents of the start.
use Rattle.std.specs.Prelude.{ℕ, cond, List, [], ◌∷◌, None, Some, codes, false}
use Rattle.std.specs.Ordering.{eq_by_cmp}
use Rattle.jr_path.specs.Names.{path_cmp}
use Rattle.jr_path.specs.declared.path.Path.{Path}
use Rattle.jr_path.specs.declared.path.DocId.TheVariants as id
use Rattle.jr_value.specs.declared.value.Property.TheVariants.{Single}
use Rattle.jr_value.specs.declared.value.Value.TheVariants as value
use Rattle.jr_rev.specs.declared.vector.RevVec.{RevVec}
use Rattle.oak_doc.specs.declared.document.Document.{Document}
use Rattle.oak_doc.specs.Updates.{document_of}
use Rattle.oak_read.specs.Meaning.{Documents}
use Rattle.core_read.specs.Holds.{the_start}

-- a node's document, with the type of the node
abbrev pub start_document : RevVec → Path → List ℕ → Document
start_document v p type = record (document_of None (id.Node p)) {
  deleted = (the_start, false) ∷ [];
  props = (codes "jcr:primaryType", (the_start, Some (Single (value.Name type))) ∷ []) ∷ [];
  last_rev = v;
  sweep_rev = v;
}

-- the path of `jcr:system`
abbrev pub path_of_system : Path
path_of_system = codes "jcr:system" ∷ []

-- the path of the version storage, `jcr:versionStorage` in `jcr:system`
abbrev pub versions : Path
versions = codes "jcr:system" ∷ codes "jcr:versionStorage" ∷ []

-- the three documents of the start, with v as what is published and swept
abbrev pub start_documents : RevVec → Documents
start_documents v (id.Node p) =
    cond (eq_by_cmp path_cmp p versions) (Some (start_document v p (codes "rep:versionStorage")))
    (cond (eq_by_cmp path_cmp p path_of_system) (Some (start_document v p (codes "rep:system")))
    (cond (eq_by_cmp path_cmp p []) (Some (start_document v p (codes "nt:unstructured"))) None))
start_documents v (id.Prev n p) = None
start_documents v id.Settings = None
