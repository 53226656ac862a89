-- What opening answers.
use Rattle.std.specs.Prelude.{◌≡◌, ℕ, Option, Some}
use Rattle.oak_store.specs.Tables.{Table, by_id}
use Rattle.oak_sound.specs.Meant.{ById, opened_at, opened_tree}
use Rattle.oak_sound.specs.Sound.{AreSoundDocuments}
use Rattle.oak_open.specs.Opened.{opened}
use Rattle.oak_open.specs.declared.fault.OpenFault.{OpenFault}
use Rattle.oak_open.specs.declared.fault.OpenFault.TheVariants as fault
use Rattle.oak_open.specs.declared.open.Opened.{Opened}

-- the table of the opened documents, with the last number
abbrev pub opened_table : ℕ → ℕ → ById → Table
opened_table clusters sessions ds = record {
  documents = by_id (opened clusters sessions ds).0;
  number = (opened clusters sessions ds).1;
}

-- what a repository begins with that is opened from documents: they are sound, and it has the table
-- of the opened ones, the tree that they show, and how far they are committed
pub record IsOpened (clusters sessions : ℕ) (ds : ById) (begun : Opened) : Type 0 where
  pub sound : AreSoundDocuments clusters ds
  pub documents : begun.table ≡ opened_table clusters sessions ds
  pub shown : begun.tree ≡ opened_tree clusters ds
  pub committed : begun.start ≡ opened_at clusters ds

-- why documents can't be opened: the first broken rule with the first document that breaks it, as
-- these are; or memory was refused, which may always be
abbrev pub Blames : Option (ℕ × ℕ) → OpenFault → Type 0
Blames broken (fault.Unsound rule document) = broken ≡ Some (rule, document)
Blames broken fault.Memory = Unit {0}
