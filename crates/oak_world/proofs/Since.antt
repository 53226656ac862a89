-- What changed between a vector and the base of a session, by the memory of its cluster node.
use mathlib.Core.Bool.{false≢true}
use Rattle.std.proofs.Common.{◌≡◌, ℕ, Bool, true, false, not, ◌&&◌, cond, Option, Some, None, List, map, is_some, refl, sym, ap, subst, ◌∙◌, arith}
use Rattle.std.specs.Prelude.{Contains, IfSome, option_map, slice_get}
use Rattle.std.proofs.lemmas.List.{get_or-map, length-map}
use Rattle.jr_path.specs.declared.path.Path.{Path}
use Rattle.jr_rev.specs.declared.vector.Pin.{Pin}
use Rattle.jr_rev.specs.declared.vector.RevVec.{RevVec}
use Rattle.jr_tree.specs.Trees.{node_at}
use Rattle.oak_machine.specs.Commits.{tree_at}
use Rattle.oak_machine.specs.Laws.{Says, Starts, StartsProper}
use Rattle.oak_machine.specs.Runs.{IsNode}
use Rattle.oak_machine.specs.Sessions.{base_of, has_left, has_login, is_attached, is_stopped, pinned_at}
use Rattle.oak_node.specs.declared.pending.Note.{Note}
use Rattle.oak_node.specs.Pins.{pin_of}
use Rattle.oak_port.specs.Ports.{TellsChanges}
use Rattle.core_begun.proofs.Bases.{begun_of}
use Rattle.core_nodes.specs.Nodes.{TellsSince, base_of_pin}
use Rattle.core_nodes.proofs.Changes.{tells}
use Rattle.core_nodes.proofs.Untold.{untold_in}
use Rattle.core_world.specs.Kept.{IsKept}
use Rattle.core_world.specs.States.{State, actor_pin, history_in, memory_of, node_of, reader_pin}
use Rattle.core_world.proofs.Draws.{its_base}
use Rattle.core_world.proofs.Lives.{its_node, node_alive}
use Rattle.oak_node.specs.Changes.{changed_since}
use Rattle.oak_node.specs.Memory.{NodeState}
use Rattle.jr_rev.specs.Vectors.{is_below}
use Rattle.oak_world.specs.Changes.{IsToldUpTo, told_up_to}
use Rattle.oak_world.proofs.Attached.{reader_base}
use Rattle.oak_world.proofs.Pinning.{actor_base}
use Rattle.oak_world.proofs.StepsOf.{none_stopped}

-- the path of a note is among the paths of the notes
noted_path : (notes : List Note) (note : Note) → Contains notes note → Contains (map (λ n. n.path) notes) note.path
noted_path notes note there =
    let f : Note → Path = λ n. n.path in
    (there.0, omega (arith, there.1, length-map notes f), get_or-map f notes there.0 note note.path there.1 ∙ ap f there.2)

-- what is known to have changed is told of a base that the head sees
pub told_is : (s : NodeState) (since base : RevVec) (told : List Path) → told_up_to s since base ≡ Some told → IsToldUpTo s since base told
told_is s since base told = by (is_below since base) (is_below base s.head) (changed_since s since) refl refl refl
  where
    by : (a b : Bool) (o : Option (List Note)) → is_below since base ≡ a → is_below base s.head ≡ b → changed_since s since ≡ o
        → cond (a && b) (option_map (map (λ note. note.path)) o) None ≡ Some told → IsToldUpTo s since base told
    by true true (Some notes) above seen known is = record { above = above; seen = seen; notes = notes; known = known; paths = let e : Some (map (λ note. note.path) notes) ≡ Some told = is in cc }
    by true true None above seen known is = absurd (false≢true (ap is_some is))
    by true false o above seen known is = absurd (false≢true (ap is_some is))
    by false b o above seen known is = absurd (false≢true (ap is_some is))

-- what holds of each list that is told
pub if_told : {P : List Path → Type 0} (o : Option (List Path)) → ((paths : List Path) → o ≡ Some paths → P paths) → IfSome o P
if_told None holds = tt
if_told (Some paths) holds = holds paths refl

-- who has left has no base of its own
left_none : {X : Type 0} (login left : Bool) (o : Option X) → left ≡ true → cond (login && not left) o None ≡ None
left_none true true o h = refl
left_none false true o h = refl
left_none login false o h = absurd (false≢true h)

module _ (starts : Starts) (says : Says) (proper : StartsProper starts) (w : State) (kept : IsKept starts says w) (s : ℕ) (there : is_some (slice_get w.sessions s) ≡ true) (going : (k : ℕ) → is_stopped w.past k ≡ false) where
  -- a session that reads at a pin is at its base
  pub based : (pin : Pin) → actor_pin w s ≡ Some pin → base_of w.past s ≡ Some pin.base
  based pin has = by (has_left w.past s) (is_attached w.past s) refl refl
    where
      at : (b : Bool) → is_attached w.past s ≡ b → cond b (reader_pin w.table s) (pin_of (memory_of w s) s) ≡ Some pin
      at b is = ap (λ (b : Bool). cond b (reader_pin w.table s) (pin_of (memory_of w s) s)) (sym is) ∙ has

      by : (a b : Bool) → has_left w.past s ≡ a → is_attached w.past s ≡ b → base_of w.past s ≡ Some pin.base
      by false b stays is = sym (actor_base starts says proper w kept s there going stays) ∙ ap base_of_pin has
      by true true left is = sym (reader_base starts says proper w kept s is (none_stopped w.sessions w.past going s)) ∙ ap base_of_pin (at true is)
      by true false left is =
          absurd (false≢true (ap is_some (sym (left_none (has_login w.past s) (has_left w.past s) (pinned_at w.past s) left)
          ∙ (sym (its_base starts says proper w kept.sessions s there (node_alive starts says proper w kept.sessions s there (none_stopped w.sessions w.past going s)))
          ∙ ap base_of_pin (at false is)))))

  node : IsNode w.clusters (node_of w s)
  node = its_node starts says proper w kept.sessions s there

  -- what its cluster node's memory tells of what changed up to a base is all that changed
  told_since : (since base : RevVec) (told : List Path) (is : IsToldUpTo (memory_of w s) since base told) → TellsSince w.past (node_of w s) since base is.notes
  told_since since base told is =
      let memory = kept.sessions.memories.memory (node_of w s) node in
      tells w.past (node_of w s) (memory_of w s) since base is.notes memory.cluster memory.memory (kept.sessions.memories.changes (node_of w s) node) is.known is.seen

  -- so at a path that isn't told the node at the session's base is the one at the vector
  pub changes_told : (pin : Pin) → actor_pin w s ≡ Some pin → (since : RevVec) (told : List Path) → IsToldUpTo (memory_of w s) since pin.base told → TellsChanges (history_in w) s since told
  changes_told pin has since told is base p at silent = subst (λ (v : RevVec). node_at (tree_at w.begin w.past v) p ≡ node_at (tree_at w.begin w.past since) p) same stays
    where
      same : pin.base ≡ base
      same = let both : Some pin.base ≡ Some base = sym (based pin has) ∙ at in cc

      unnoted : (note : Note) → Contains is.notes note → note.path ≡ p → ⊥
      unnoted note noted here = silent (subst (λ (ps : List Path). Contains ps p) (sym is.paths) (subst (λ (q : Path). Contains (map (λ n. n.path) is.notes) q) here (noted_path is.notes note noted)))

      stays : node_at (tree_at w.begin w.past pin.base) p ≡ node_at (tree_at w.begin w.past since) p
      stays = untold_in w.clusters w.begin w.past (node_of w s) since pin.base is.notes p (begun_of w.clusters w.sessions kept.sessions.nodes w.begin starts says w.past kept.sessions.run) kept.sessions.committing.kept.told is.above (told_since since pin.base told is) unnoted
