-- A world before any step.
use Rattle.std.specs.Prelude.{ℕ, List, [], ◌∷◌, length, map, None, Some, codes, false}
use Rattle.std.specs.List.{range_with_len}
use Rattle.jr_path.specs.declared.path.Path.{Path}
use Rattle.jr_path.specs.declared.name.Name.{Name}
use Rattle.jr_path.specs.declared.path.DocId.TheVariants as id
use Rattle.jr_rev.specs.Vectors.{start, start_of}
use Rattle.jr_value.specs.declared.value.Property.TheVariants.{Single}
use Rattle.jr_value.specs.declared.value.Value.TheVariants as value
use Rattle.oak_doc.specs.declared.document.Document.{Document}
use Rattle.oak_doc.specs.Updates.{document_of}
use Rattle.oak_node.specs.Memory.{begun}
use Rattle.oak_store.specs.Tables.{Table, by_id}
use Rattle.core_world.specs.States.{State}

-- a document of the start: the node is there, with its type, at the revision of the start
abbrev pub node_of_start : Path → Name → ℕ → Document
node_of_start p type number = record (document_of None (id.Node p)) {
  mod_count = number;
  deleted = (start_of 1, false) ∷ [];
  props = (codes "jcr:primaryType", (start_of 1, Some (Single (value.Name type))) ∷ []) ∷ [];
}

-- the root also says what is published and what is swept
abbrev pub start_root : ℕ → Document
start_root clusters = record (node_of_start [] (codes "nt:unstructured") 1) {
  last_rev = start clusters;
  sweep_rev = start clusters;
}

-- the settings count the sessions
abbrev pub start_settings : ℕ → Document
start_settings sessions = record (document_of None id.Settings) {
  mod_count = 4;
  sessions = sessions;
}

-- the path of the system's node
abbrev pub system_path : Path
system_path = codes "jcr:system" ∷ []

-- the path of the node below which all histories stand
abbrev pub versions_path : Path
versions_path = codes "jcr:system" ∷ codes "jcr:versionStorage" ∷ []

-- the four documents of the start, in store order
abbrev pub documents_of_start : ℕ → ℕ → List Document
documents_of_start clusters sessions =
    start_root clusters
    ∷ node_of_start system_path (codes "rep:system") 2
    ∷ node_of_start versions_path (codes "rep:versionStorage") 3
    ∷ start_settings sessions
    ∷ []

-- the documents of the start have the numbers 1 to 4
abbrev pub start_table : ℕ → ℕ → Table
start_table clusters sessions = record {
  documents = by_id (documents_of_start clusters sessions);
  number = 4;
}

-- the world of these cluster nodes and sessions before any step
abbrev pub start_state : ℕ → List ℕ → State
start_state clusters sessions = record {
  clusters = clusters;
  sessions = sessions;
  begin = None;
  past = [];
  table = start_table clusters (length sessions);
  memories = map (λ k. begun k (start clusters)) (range_with_len 1 clusters);
  running = λ s. None;
  reading = λ s. None;
  observing = λ s. None;
  formers = λ p k. None;
}
