-- Where the commit root of a revision is.
use Rattle.std.proofs.Common.{◌≡◌, ℕ, take, Some, None, Option, refl, sym, ap, ◌∙◌}
use Rattle.std.specs.Option.{option_map_or}
use Rattle.jr_path.specs.declared.path.Path.{Path}
use Rattle.jr_path.specs.declared.path.DocId.{DocId}
use Rattle.jr_path.specs.declared.path.DocId.TheVariants as id
use Rattle.jr_rev.specs.declared.revision.Revision.{Revision}
use Rattle.oak_doc.specs.declared.document.Document.{Document}
use Rattle.oak_doc.specs.Updates.{of_revision}
use Rattle.oak_read.specs.Meaning.{commit_root_of, main_of, path_of}

-- where the commit root is
abbrev pub root_path : Path → Option ℕ → Path
root_path p None = p
root_path p (Some depth) = take depth p

pub commit_root_at : (d : Document) (p : Path) → d.id ≡ id.Node p → (q : Revision) → commit_root_of d q ≡ id.Node (root_path p (of_revision d.commit_root q))
commit_root_at d p h q = ap (λ (i : DocId). option_map_or (λ depth. id.Node (take depth (path_of i))) (of_revision d.commit_root q) (main_of i)) h ∙ by (of_revision d.commit_root q)
  where
    by : (o : Option ℕ) → option_map_or (λ depth. id.Node (take depth p)) o (id.Node p) ≡ id.Node (root_path p o)
    by None = refl
    by (Some depth) = refl

-- a document that was there is named the same and has the same commit root
pub same_root : (c d : Document) (p : Path) (q : Revision) → c.id ≡ id.Node p → d.id ≡ id.Node p → of_revision d.commit_root q ≡ of_revision c.commit_root q → commit_root_of d q ≡ commit_root_of c q
same_root c d p q h k e = commit_root_at d p k q ∙ (ap (λ o. id.Node (root_path p o)) e ∙ sym (commit_root_at c p h q))
