-- What is so of a pair that is held: its sweep vector is at most its vector, and the documents show
-- the journal's tree there.
use Rattle.std.proofs.Common.{◌≡◌, true, ap, ◌∙◌}
use Rattle.jr_path.specs.declared.path.Path.{Path}
use Rattle.jr_rev.specs.declared.vector.Pin.{Pin}
use Rattle.jr_rev.specs.Vectors.{is_below}
use Rattle.jr_tree.specs.Trees.{node_at}
use Rattle.oak_machine.specs.Commits.{tree_at}
use Rattle.oak_machine.specs.Laws.{Says, Starts}
use Rattle.oak_read.specs.Meaning.{documents_in, found_node}
use Rattle.core_heads.specs.Sound.{IsHeld}
use Rattle.core_heads.proofs.Below.{seen_below}
use Rattle.core_heads.proofs.Runs.{held_in_use}
use Rattle.core_begun.proofs.Course.{reading_since}
use Rattle.core_begun.proofs.Runs.{tree_in}
use Rattle.core_nodes.specs.Nodes.{IsPair}
use Rattle.core_world.specs.Kept.{AreSessionsKept, IsAboveBounds}
use Rattle.core_world.specs.States.{State, origin}
use Rattle.core_world.proofs.Readers.{pair_held}

pub pair_below : (pin : Pin) → IsPair pin.base pin.sweep → is_below pin.sweep pin.base ≡ true
pair_below pin pair = seen_below pin.sweep pin.base pair.vector.stands pair.below

pub pair_shows : (starts : Starts) (says : Says) (w : State) (kept : AreSessionsKept starts says w) (pin : Pin) → IsHeld w.begin w.past pin.base → IsPair pin.base pin.sweep → IsAboveBounds (origin w) w.past pin
    → (p : Path) → found_node (documents_in w.table.documents) pin.sweep pin.base p ≡ node_at (tree_at w.begin w.past pin.base) p
pair_shows starts says w kept pin held pair above p =
    reading_since (origin w) (documents_in w.table.documents) w.past _ pin.base pin.sweep kept.committing.kept
    (pair_held (origin w) w.past pin (held_in_use w.begin w.past pin.base held) pair above) p
    ∙ ap (λ t. node_at t p) (tree_in w.clusters w.begin w.past pin.base)
