-- A split and a collection in a world in which nobody else adds an event.
use Rattle.std.proofs.Common.{ℕ, [], refl, sym, subst}
use Rattle.jr_path.specs.declared.path.DocId.TheVariants as id
use Rattle.oak_clean.proofs.Whole.{counts_what_goes, leaves_clean}
use Rattle.oak_clean.specs.Clean.{IsClean}
use Rattle.oak_gc.specs.Collecting as collecting
use Rattle.oak_machine.specs.Laws.{Says, Starts}
use Rattle.oak_prev.specs.Resting.{split_end}
use Rattle.oak_prev.specs.Splitting as splitting
use Rattle.oak_read.specs.Meaning.{documents_in}
use Rattle.oak_tidy.specs.declared.tidying.Tidying.TheVariants as tidying
use Rattle.oak_alone.proofs.Collected.{Collects, collection_begins, collects_alone as collects_on}
use Rattle.oak_alone.proofs.Quiet.{quietly_ends}
use Rattle.oak_alone.proofs.Split.{Splits, split_begins, splits_alone as splits_on}
use Rattle.oak_alone.proofs.Swept.{least_swept}
use Rattle.oak_alone.specs.Alone.{CollectsAlone, SplitsAlone, least_held}

module _ (starts : Starts) (says : Says) (L : Type 0) where
  pub splits_alone : SplitsAlone starts says L
  splits_alone s old new qs a pin p told is begins calls ends =
      let out = split_end (documents_in old.table.documents) pin p in
      let stands = quietly_ends s old.memories (Splits s old.memories old.table is.table pin p out) _ (splits_on s old.memories old.table is.table pin p out) old.history.past old new (tidying.Split (splitting.begun a pin p)) qs told refl refl begins
      (split_begins s old.memories old.table is.table a pin p) calls ends in
      record { counted = stands.does.0; documents = stands.does.1; memories = stands.memories }

  pub collects_alone : CollectsAlone starts says L
  collects_alone s old new qs a told is begins calls ends =
      let root = is.kept.root in
      let settings = is.kept.settings in
      let bound = least_held root.document old.memories settings.document in
      let keeps = collects_on s old.memories a old.table root.document settings.document root.there settings.there in
      let begun = collection_begins s old.memories a old.table root.document settings.document root.there settings.there is.table in
      let stands = quietly_ends s old.memories _ _ keeps old.history.past old new (tidying.Collect (collecting.begun a old.history.clusters)) qs told refl refl begins
      (subst (λ (n : ℕ). Collects s old.memories a old.table root.document settings.document root.there settings.there (tidying.Collect (collecting.begun a n)) old.table []) is.kept.sessions.memories.counted begun)
      calls ends in
      record {
        root = root.document;
        root_there = root.there;
        settings = settings.document;
        settings_there = settings.there;
        bound = bound;
        least = refl;
        events = stands.events;
        added = stands.added;
        bounds = stands.does.bounds;
        documents = stands.does.documents;
        clean = subst (IsClean bound) (sym stands.does.documents) (leaves_clean bound old.table is.table (least_swept starts says old is) (λ p d there. (is.tidying.order (id.Node p) d there).names));
        counted = stands.does.counted;
        gone = counts_what_goes bound old.table is.table;
        memories = stands.memories;
      }
