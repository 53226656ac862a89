-- The limits of the nodes that an edit adds.
use Rattle.std.specs.Prelude.{List, Option, None, map, Result}
use Rattle.jr_tree.specs.declared.edit.Write.{Write}
use Rattle.jr_tree.specs.declared.edit.Write.TheVariants.{Here}
use Rattle.jr_tree.specs.declared.shared.Refusal.{Refusal}
use Rattle.jr_items.specs.Items.{first_some}
use Rattle.jr_items.specs.Refusals.{limit_refusal, or_else}

-- the first limit that the path of the node passes which the write adds
abbrev pub write_limit : Write → Option Refusal
write_limit (Here p) = limit_refusal p
write_limit _ = None

-- the first refusal of the limits among the paths of the nodes that the writes add
abbrev pub added_limit : List Write → Option Refusal
added_limit ws = first_some (map write_limit ws)

-- the writes, where the paths of the nodes that they add keep the limits, or the first refusal
abbrev pub within_limits : List Write → Result (List Write) Refusal
within_limits ws = or_else (added_limit ws) ws
