-- Committers that look at previous documents one after another, while others go on.
use Rattle.std.specs.Prelude.{◌≡◌, ◌==◌, ◌||◌, ◌++◌, ◌∷◌, ℕ, Bool, not, List, map, Option, None}
use Rattle.std.specs.List.{fold, list_any}
use Rattle.jr_path.specs.declared.path.DocId.TheVariants as id
use Rattle.jr_path.specs.declared.path.Path.{Path}
use Rattle.jr_rev.specs.Revisions.{is_same}
use Rattle.jr_rev.specs.Vectors.{sees}
use Rattle.oak_commit.specs.Committing.{Committing}
use Rattle.oak_commit.specs.Looking.{with_found}
use Rattle.oak_commit.specs.declared.look.Look.{Look}
use Rattle.oak_doc.specs.declared.document.Document.{Document}
use Rattle.oak_doc.specs.declared.document.PrevEntry.{PrevEntry}
use Rattle.oak_read.specs.Meaning.{documents_in}
use Rattle.oak_store.specs.Tables.{Table}
use Rattle.core_clash.specs.Views.{Once}
use Rattle.core_keep.specs.Formers.{Formers}
use Rattle.core_keep.specs.Lookers.{Looks}
use Rattle.core_read.specs.Commits.{Sight}
use Rattle.core_world.specs.States.{listed_at}

-- each previous document is listed once, by its number
abbrev pub AreOnce : List PrevEntry → Type 0
AreOnce es = Once (map (λ e. e.number) es)

-- each node's document lists each previous document once
abbrev pub AreListedOnce : Table → Type 0
AreListedOnce t = (p : Path) → AreOnce (listed_at t p)

-- a committer that looks is before its commit point, and asks for previous documents of one node,
-- by the entries that list them
pub record IsLooking (c : Committing) (k : Look) : Type 0 where
  pub going : c.outcome ≡ None
  pub path : Path
  pub entry : PrevEntry
  pub asks : k.first ≡ id.Prev entry.number path
  pub entries : List PrevEntry
  pub rest : k.rest ≡ map (λ e. id.Prev e.number path) entries

-- whether the previous document of a number is one of these
abbrev pub is_asked : List PrevEntry → ℕ → Bool
is_asked es k = list_any (λ e. e.number == k) es

-- a document with what moved to these previous ones put back, by what was found of each
abbrev pub filled_with : Document → (ℕ → Option Document) → List PrevEntry → Document
filled_with d found es = fold (λ x e. with_found x (found e.number)) d es

-- all that a committer's base doesn't see, but for its own revision
abbrev pub unseen_by : Committing → Sight
unseen_by c o = not (is_same o c.revision || sees c.base o)

-- the look of a committer finds just what stood at its write of what its base doesn't see
pub record IsLookingOn (t : Table) (formers : Formers) (c : Committing) (k : Look) : Type 0 where
  pub form : IsLooking c k
  -- the document as it was before the write, and what had moved from it then
  pub copy : Document
  pub moved : List Document
  -- the previous documents that were asked for so far, and what the look goes by of each
  pub asked : List PrevEntry
  pub found : ℕ → Option Document
  -- the others that were listed, each once, are still to be asked for
  pub lists : copy.prev ≡ asked ++ form.entry ∷ form.entries
  pub once : AreOnce copy.prev
  -- what was found is put back
  pub filled : k.document ≡ filled_with copy found asked
  pub stands : Looks (documents_in t.documents) formers (unseen_by c) form.path (copy ∷ moved) copy
      (is_asked asked) found
