-- What a session may still have to read of the tree at its base before a command.
use Rattle.std.specs.Prelude.{◌++◌, ◌+◌, ℕ, cond, List, [], ◌∷◌, length, map, Contains, Option, None, Some, IsFalse}
use Rattle.jr_path.specs.declared.path.Path.{Path}
use Rattle.jr_tree.specs.Trees.{node_at}
use Rattle.jr_known.specs.Earlier.{Earlier}
use Rattle.jr_part.specs.Parts.{knows, need_path}
use Rattle.jr_part.specs.declared.need.Need.{Need}
use Rattle.jr_overlay.specs.Overlays.{edit_of}
use Rattle.jcr_trans.specs.declared.command.Command.{Command}
use Rattle.jcr_trans.specs.declared.command.Command.TheVariants as command
use Rattle.jcr_view.specs.Needs.{needs_to_rebase}
use Rattle.jcr_view.specs.Outcomes.{is_viewed}
use Rattle.jcr_view.specs.Rounds.{loadable, nodes_at, paths_named, unknown_of}
use Rattle.jcr_law.specs.State.{Call}
use Rattle.jcr_held.specs.declared.held.Held.{Held}
use Rattle.jcr_held.specs.Looking.{touched_paths}

-- the paths that may be read before what is kept from an earlier base is made again: those asked
-- for, and the touched ones with those above them
abbrev pub kept_paths : Held → List Path
kept_paths x = cond x.is_kept
    (map need_path (needs_to_rebase (edit_of x.pending)) ++ touched_paths x.pending) []

-- the paths that a command names, run with c; the root, where it asks for the whole tree
abbrev pub asked_paths : Call → Command → List Path
asked_paths c (command.Split p) = p ∷ []
asked_paths c m = cond (is_viewed m) (paths_named c.who (node_at c.state.view) m) ([] ∷ [])

-- all that may be loaded before the command of the tree at the base: each node of it and its
-- children, and the nodes at these paths, there or not
abbrev pub base_load : Call → Held → Command → List Need
base_load c x m = loadable (kept_paths x ++ asked_paths c m) c.base

-- while a tree at an earlier base is held, the nodes at the told paths are to be read, and none of
-- these needs before
abbrev pub told_first : Option Earlier → List Need → List Need
told_first None needs = needs
told_first (Some e) needs = nodes_at e.told

-- how many of these needs wait until the told paths are read, at the most
abbrev pub waiting : Option Earlier → List Need → ℕ
waiting None needs = 0
waiting (Some e) needs = length needs

-- all that may be loaded next, before the command
abbrev pub may_load : Call → Held → Command → List Need
may_load c x m = told_first x.earlier (base_load c x m)

-- how much of that isn't known, and how much waits
abbrev pub unread : Call → Held → Command → ℕ
unread c x m = unknown_of x.part (may_load c x m) + waiting x.earlier (base_load c x m)

-- the need is one that may be loaded next before the command, and isn't known
pub record IsWanted (c : Call) (x : Held) (m : Command) (n : Need) : Type 0 where
  pub may : Contains (may_load c x m) n
  pub unknown_is : IsFalse (knows x.part n)
