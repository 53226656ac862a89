-- A look of a committer at a document and at the previous documents that it listed, from its beginning to its end.
use Rattle.std.specs.Prelude.{◌≡◌, List, [], ◌∷◌, Option, None, Some}
use Rattle.std.specs.List.{filter_map, fold}
use Rattle.jr_path.specs.declared.path.DocId.{DocId}
use Rattle.jr_path.specs.declared.path.DocId.TheVariants as id
use Rattle.jr_path.specs.declared.path.Path.{Path}
use Rattle.oak_doc.specs.declared.asks.Reply.TheVariants as reply
use Rattle.oak_doc.specs.declared.document.Document.{Document}
use Rattle.oak_doc.specs.declared.document.PrevEntry.{PrevEntry}
use Rattle.oak_commit.specs.Committing.{Committing, fed}

-- the committer is to write the document of the node at p, and then those of `rest`
pub record IsWriting (c : Committing) (p : Path) (rest : List Path) : Type 0 where
  pub going : c.outcome ≡ None
  pub looked : c.looking ≡ None
  pub unmet : c.writer.due ≡ []
  pub next : c.writer.left ≡ p ∷ rest

module _ (p : Path) (ds : DocId → Option Document) where
  -- the previous documents of the node at p, of those listed, that are there
  abbrev pub previous_in : List PrevEntry → List Document
  previous_in es = filter_map (λ e. ds (id.Prev e.number p)) es

  -- what a committer keeps once it is told that the document is written, which was d before, and then of these previous ones what is there
  abbrev pub after_looks : Committing → Document → List PrevEntry → Committing
  after_looks c d es = fold (λ b e. fed b (reply.Found (ds (id.Prev e.number p)))) (fed c (reply.Updated (Some d))) es
