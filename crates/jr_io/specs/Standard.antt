-- A reader and a writer of std with its counts, as the callers of the adapters see them.
use Rattle.std.specs.Prelude.{ℕ}
use Rattle.std.specs.declared.alloc.Global.{Global}
use Rattle.std.specs.declared.io.buffered.BufWriter.{BufWriter}

-- the reader, how many bytes it has given, and how many calls have failed
pub record ReaderState (R : Type 0) : Type 0 where
  pub inner : R
  pub given : ℕ
  pub faults : ℕ

-- the writer behind its buffer, and how many calls have failed
pub record Writing (W : Type 0) : Type 0 where
  pub inner : BufWriter W Global
  pub faults : ℕ
