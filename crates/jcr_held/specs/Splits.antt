-- What a `split` of a session begins with.
use Rattle.std.specs.Prelude.{◌≡◌, None, Some, string_bytes}
use Rattle.jr_path.specs.declared.path.Path.{Path}
use Rattle.jr_tree.specs.declared.shared.Refusal.{Refusal}
use Rattle.jcr_law.specs.Law.{no_text}
use Rattle.jcr_law.specs.State.{Call}
use Rattle.jcr_law.specs.Tasks.{split_refusal}
use Rattle.jcr_held.specs.declared.splits.NextSplit.{NextSplit}
use Rattle.jcr_held.specs.declared.splits.NextSplit.TheVariants as next

-- what a `split` of the node at p begins with, run with c: that path, where the node may be split;
-- or the reply that says why it may not
abbrev pub IsNextSplit : Call → Path → NextSplit → Type 0
IsNextSplit c p (next.At at) = (at ≡ p) × (split_refusal c.base p ≡ None)
IsNextSplit c p (next.Refused reply) = (r : Refusal)
    × (split_refusal c.base p ≡ Some r) × (string_bytes reply ≡ no_text r)
