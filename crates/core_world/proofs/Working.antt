-- What a committer at work may count on.
use Rattle.std.proofs.Common.{◌≡◌, ℕ, true, false, Some, None, Option, [], ap, subst, ◌∙◌, Bool, sym, refl}
use Rattle.std.specs.Option.{option_map_or}
use Rattle.jr_path.specs.declared.path.Path.{Path}
use Rattle.jr_rev.specs.declared.revision.Revision.{Revision}
use Rattle.jr_rev.specs.Revisions.{is_before}
use Rattle.oak_clash.specs.Clashes.{commit_root}
use Rattle.oak_commit.specs.Clashing.{Writer}
use Rattle.oak_machine.specs.declared.event.Draw.{Draw}
use Rattle.oak_machine.specs.History.{Past}
use Rattle.oak_machine.specs.Commits.{is_in_flight}
use Rattle.oak_read.specs.Meaning.{Documents, documents_in}
use Rattle.oak_store.specs.Tables.{Table}
use Rattle.core_read.specs.Holds.{the_start}
use Rattle.core_read.specs.World.{Progress}
use Rattle.oak_doc.specs.declared.document.Document.{Document}
use Rattle.jr_path.specs.declared.path.DocId.TheVariants as id
use Rattle.core_clash.specs.Core.{IsGoing, root_of}
use Rattle.core_clash.specs.Sessions.{IsTheirs, Running}
use Rattle.core_clash.proofs.Pasts.{in_flight}
use Rattle.core_world.specs.States.{core_in}
use Rattle.core_world.specs.Kept.{AreCommitting, has_written}
use Rattle.core_world.proofs.Progress.{partly_same}
use Rattle.oak_machine.specs.declared.event.Start.{Start}
use Rattle.core_begun.proofs.Told.{no_edit}
use Rattle.core_begun.specs.Kept.{IsKeptSince}
use Rattle.core_begun.specs.Told.{edit_since, IsToldSince}
use mathlib.Core.Bool.{false≢true}
use Rattle.jr_rev.specs.Vectors.{sees}

module _ (start : Start) (past : Past) (t : Table) (running : ℕ → Option Running) (a : AreCommitting start past t running) (told : IsToldSince start past) where
  -- the documents, the past and the progress of the writers
  pub world_of : IsKeptSince start (documents_in t.documents) past (λ r. has_written (a.writers r))
  world_of = a.kept

  module _ (s : ℕ) (x : Running) (here : running s ≡ Some x) where
    pub mine : IsTheirs past a.writers s x
    mine = a.theirs s x here

    pub flies : is_in_flight past x.draw.revision ≡ true
    flies = in_flight past x.draw.revision x.draw mine.draw mine.unended

    pub after_start : (o : Revision) → sees start.at o ≡ true → is_before o x.draw.revision ≡ true
    after_start = (told.draws x.draw.revision x.draw mine.draw).after

    pub not_start : sees start.at x.draw.revision ≡ false
    not_start = by (sees start.at x.draw.revision) refl
      where
        by : (b : Bool) → sees start.at x.draw.revision ≡ b → b ≡ false
        by false h = refl
        by true h = absurd (false≢true (sym (Rattle.core_read.proofs.Latest.before_itself x.draw.revision) ∙ after_start x.draw.revision h))

    pub root_is : root_of past x.draw.revision ≡ commit_root x.draw.marks
    root_is = ap (λ (o : Option Draw). commit_root (option_map_or (λ (d : Draw). d.marks) o [])) mine.draw

    pub pending : x.committed ≡ false → edit_since past x.draw.revision ≡ None
    pending uncommitted = no_edit past x.draw.revision (mine.committed ∙ uncommitted)

    pub goes : x.committed ≡ false → x.writer.undoing ≡ false → IsGoing (core_in start past t a.writers) x.draw
    goes uncommitted going = record { running = a.unstopped s x here; draw = mine.draw; unended = mine.unended; uncommitted = mine.committed ∙ uncommitted; going = ap (λ (w : Writer). w.undoing) mine.writer ∙ going }

-- what is written, by another measure of the same
pub world_by : (start : Start) (ds : Documents) (past : Past) (done more : Progress) → ((q : Revision) (p : Path) → done q p ≡ more q p) → IsKeptSince start ds past done → IsKeptSince start ds past more
world_by start ds past done more same world = record {
  first = world.first;
  keeps = world.keeps;
  told = world.told;
  separate = world.separate;
  bounded = world.bounded;
  swept = world.swept;
  partly = λ r d drawn flying none. partly_same ds r d.edit.writes (commit_root d.marks) (done r) (more r) (same r) (world.partly r d drawn flying none);
}

-- the node's document has its name
pub kept_name : (start : Start) (ds : Documents) (past : Past) (done : Progress) → IsKeptSince start ds past done → (p : Path) (d : Document) → ds (id.Node p) ≡ Some d → d.id ≡ id.Node p
kept_name start ds past done world p d h = (world.keeps p).named d h
