-- What an update makes of the settings' document.
use Rattle.std.specs.Prelude.{◌≡◌, ◌≢◌, ℕ, List, Contains, Option, None, Some, Ok}
use Rattle.std.specs.Option.{option_or}
use Rattle.std.specs.List.Sorted.{IsStrictlySortedBy}
use Rattle.std.specs.Map.{keys_of}
use Rattle.std.specs.Ordering.{nat_cmp}
use Rattle.jr_path.specs.Names.{name_cmp}
use Rattle.jr_path.specs.Lists.{Text}
use Rattle.jr_rev.specs.declared.vector.Pin.{Pin}
use Rattle.oak_doc.specs.declared.document.Document.{Document}
use Rattle.oak_doc.specs.declared.update.UpdateOp.{UpdateOp}
use Rattle.oak_doc.specs.Updates.{updated}
use Rattle.oak_checkpoint.specs.Settings.{checkpoint_of, reader_of}

-- a settings' document: its checkpoints by id, its readers by session, each once and in order
pub record AreSettings (d : Document) : Type 0 where
  pub ids : IsStrictlySortedBy name_cmp (keys_of d.checkpoints)
  pub sessions : IsStrictlySortedBy nat_cmp (keys_of d.readers)

-- the update is made of each settings' document, with any number; the document then is one too, and this is so of the two
abbrev pub MakesOfSettings : UpdateOp → (Document → Document → Type 0) → Type 0
MakesOfSettings op After = (d : Document) (number : ℕ) → AreSettings d → (e : Document) × (updated (Some d) op number ≡ Ok e) × AreSettings e × (e.mod_count ≡ number) × After d e

-- what is kept is x at one key, and at each other key what was kept there
pub record IsSetAt {K X : Type 0} (key : K) (x : Option X) (before after : K → Option X) : Type 0 where
  pub here : after key ≡ x
  pub others : (other : K) → other ≢ key → after other ≡ before other

-- nothing but the checkpoints differs, and the number
abbrev pub ElseSameButCheckpoints : Document → Document → Type 0
ElseSameButCheckpoints d e = e ≡ record d { checkpoints = e.checkpoints; mod_count = e.mod_count }

-- nothing but the readers differs, and the number
abbrev pub ElseSameButReaders : Document → Document → Type 0
ElseSameButReaders d e = e ≡ record d { readers = e.readers; mod_count = e.mod_count }

-- the pin is the checkpoint of the id
abbrev pub Creates : Text → Pin → Document → Document → Type 0
Creates id pin d e = IsSetAt id (Some pin) (checkpoint_of d) (checkpoint_of e) × ElseSameButCheckpoints d e

-- the id has no checkpoint
abbrev pub Releases : Text → Document → Document → Type 0
Releases id d e = IsSetAt id None (checkpoint_of d) (checkpoint_of e) × ElseSameButCheckpoints d e

-- the session reads at the pin of the checkpoint; where there is none, as before
abbrev pub Attaches : ℕ → Text → Document → Document → Type 0
Attaches session id d e = IsSetAt session (option_or (checkpoint_of d id) (reader_of d session)) (reader_of d) (reader_of e) × ElseSameButReaders d e

-- the session is no reader
abbrev pub Detaches : ℕ → Document → Document → Type 0
Detaches session d e = IsSetAt session None (reader_of d) (reader_of e) × ElseSameButReaders d e

-- none of the sessions is a reader; the others are as before
pub record AreDropped (sessions : List ℕ) (d e : Document) : Type 0 where
  pub gone : (s : ℕ) → Contains sessions s → reader_of e s ≡ None
  pub others : (s : ℕ) → (Contains sessions s → ⊥) → reader_of e s ≡ reader_of d s

-- none of the sessions is a reader any more, and nothing but the readers differs, and the number
abbrev pub DropsReaders : List ℕ → Document → Document → Type 0
DropsReaders sessions d e = AreDropped sessions d e × ElseSameButReaders d e
