use Rattle.std.proofs.Common.{◌≡◌, ◌++◌, List, take}
use Rattle.std.specs.Prelude.{All, map}
use Rattle.serde_json.specs.Data.{array}
use Rattle.serde_json.specs.View.{items_of, view}
use Rattle.jr_docs.specs.Documents.{listed_data}
use Rattle.jr_docs_read.specs.Ranges.{IsListedInRange, IsPathInRange}
use Rattle.jr_path.specs.declared.path.Path.{Path}
use Rattle.oak_doc.specs.declared.document.PrevEntry.{PrevEntry}
use Rattle.jr_docs_read.proofs.fields.read_entries.Given as goal

-- the entries of the items so far are read, and in range
abbrev pub invariant-loop-item : goal.invariant-loop-item
invariant-loop-item l = ((p : Path) (es : List PrevEntry) → IsPathInRange p → All IsListedInRange es → listed_data p es ≡ array (items_of (map view l.items)) → l.prev ≡ l.fn.prev ++ take l.item-index es)
    × (All IsListedInRange l.fn.prev → All IsListedInRange l.prev)
