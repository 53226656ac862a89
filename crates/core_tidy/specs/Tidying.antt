-- The splits and collections of a world together.
use Rattle.std.specs.Prelude.{◌≡◌, ◌==◌, ℕ, Option, Some, None, IsTrue, IsFalse}
use Rattle.jr_path.specs.declared.path.Path.{Path}
use Rattle.oak_machine.specs.Sessions.{has_left, has_login}
use Rattle.oak_prev.specs.declared.splitter.Splitter.{Splitter}
use Rattle.oak_prev.specs.declared.splitter.Step.{Step}
use Rattle.oak_prev.specs.declared.splitter.Step.TheVariants as step
use Rattle.oak_read.specs.declared.reader.Reader.{Reader}
use Rattle.oak_read.specs.Reading.{node_reader}
use Rattle.oak_store.specs.Tables.{Table}
use Rattle.oak_tidy.specs.declared.tidying.Tidying.{Tidying}
use Rattle.oak_tidy.specs.declared.tidying.Tidying.TheVariants as tidying
use Rattle.core_keep.specs.Formers.{Former, Formers}
use Rattle.core_tidy.specs.Collecting.{MayCollectAt}
use Rattle.core_tidy.specs.Ordered.{AreAllInOrder}
use Rattle.core_tidy.specs.Splitting.{HoldsCopy, IsBehind, MaySplitAt}
use Rattle.core_world.specs.Bounding.{CanAllBound}
use Rattle.core_world.specs.Numbers.{AreNumbered}
use Rattle.core_world.specs.States.{State}

-- the reader as which a split stands that has read nothing
abbrev pub reader_at : Splitter → Step → Option Reader
reader_at x step.Read = Some (node_reader x.alloc x.pin x.path)
reader_at x _ = None

-- the reader as which something that tidies stands
abbrev pub reader_of : Tidying → Option Reader
reader_of (tidying.Split x) = reader_at x x.step
reader_of (tidying.Collect x) = None

-- what a split or a collection of session s has read, written and heard so far
abbrev pub HasTidied : State → ℕ → Tidying → Type 0
HasTidied w s (tidying.Split x) = MaySplitAt w s x x.step
HasTidied w s (tidying.Collect x) = MayCollectAt w s x x.step

-- what session s tidies it may tidy: the session has come, and not left
pub record MayTidy (w : State) (s : ℕ) (x : Tidying) : Type 0 where
  pub login : IsTrue (has_login w.past s)
  pub stays : IsFalse (has_left w.past s)
  pub so_far : HasTidied w s x

-- a split has written a previous document of number k, and has still to list it or to take it back
abbrev pub KeepsCopy : Tidying → Path → ℕ → Type 0
KeepsCopy (tidying.Split x) p k = HoldsCopy x x.step p k
KeepsCopy (tidying.Collect x) p k = ⊥

-- where two have written one of the same number, that is behind the node, or it is the last one
abbrev pub AreApart : Table → Tidying → Tidying → Type 0
AreApart t x y = (p : Path) (k : ℕ) → KeepsCopy x p k → KeepsCopy y p k → IsBehind t p k

-- each former document has the number under which it is told of
abbrev pub HaveTheirNumbers : Formers → Type 0
HaveTheirNumbers formers = (p : Path) (k : ℕ) (f : Former) → formers p k ≡ Some f
    → f.document.mod_count ≡ k

-- what all that tidies in a world rests on: numbers, order, what is held, and what each has done so
-- far
pub record AreTidying (w : State) (does : ℕ → Option Tidying) : Type 0 where
  pub numbered : AreNumbered w.table w.formers
  pub own : HaveTheirNumbers w.formers
  pub order : AreAllInOrder w.table
  pub bounds : CanAllBound w
  pub each : (s : ℕ) (x : Tidying) → does s ≡ Some x → MayTidy w s x
  pub apart : (s q : ℕ) → IsFalse (q == s) → (x y : Tidying) → does s ≡ Some x → does q ≡ Some y
      → AreApart w.table x y
