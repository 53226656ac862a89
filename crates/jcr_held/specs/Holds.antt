-- What a session holds at its base, as the law has it.
use Rattle.std.specs.Prelude.{◌≡◌, ◌⊎◌, Bool, true, false, cond, List, [], ◌∷◌, Option, None, Some, IsTrue, ⊤}
use Rattle.std.specs.List.{All}
use Rattle.jr_tree.specs.Trees.{Nodes}
use Rattle.jr_known.specs.Earlier.{Earlier, IsEarlierThan}
use Rattle.jr_part.specs.Parts.{Knowledge, LacksNothing}
use Rattle.jr_part.specs.declared.need.Need.{Need}
use Rattle.jr_part.specs.declared.need.Need.TheVariants as need
use Rattle.jr_overlay.specs.Overlays.{Changed, edit_of, view_of}
use Rattle.jcr_trans.specs.declared.command.Command.{Command}
use Rattle.jcr_trans.specs.declared.command.Command.TheVariants as command
use Rattle.jcr_view.specs.Needs.{needs_of}
use Rattle.jcr_view.specs.Outcomes.{is_viewed}
use Rattle.jcr_view.specs.Parts.{IsPartOf}
use Rattle.jcr_view.specs.Rebases.{tree_again}
use Rattle.jcr_law.specs.State.{Call}
use Rattle.jcr_law.specs.Makes.{commits}
use Rattle.jcr_held.specs.References.{HoldsReferences, are_asked}
use Rattle.jcr_held.specs.declared.held.Held.{Held}

-- what is known and pending makes the view: pending over the tree at the base, or, kept from an
-- earlier base, not made again yet
abbrev pub HoldsView : Call → Knowledge → Changed → (kept : Bool) → Type 0
HoldsView c k pending false =
    IsPartOf c.base k pending × (view_of c.base pending ≡ c.state.view)
HoldsView c k pending true =
    IsPartOf c.base k [] × (tree_again c.base (edit_of pending) ≡ c.state.view)

-- what is known of the whole tree at an earlier base, where that is held, is so of one that differs
-- from this one at the told paths alone
abbrev pub HoldsEarlier : Nodes → Option Earlier → Type 0
HoldsEarlier t None = ⊤
HoldsEarlier t (Some e) = IsEarlierThan t e

-- what a session holds is what its next command is run with
pub record Holds (c : Call) (x : Held) : Type 0 where
  pub types : x.types ≡ c.types
  pub who : x.who ≡ c.who
  pub ids : c.who.ids ≡ c.state.ids
  pub tokens : x.tokens ≡ c.state.tokens
  pub cursor : x.cursor ≡ c.state.cursor
  pub view : HoldsView c x.part x.pending x.is_kept
  pub earlier : HoldsEarlier c.base x.earlier
  pub references : HoldsReferences c.base x.references

-- the command reads the view, or the tree at the base, or commits; a split reads its node there;
-- others need nothing of these, but that what is pending is made again
abbrev pub asks_for : Held → Command → List Need
asks_for x command.Head = []
asks_for x (command.Refresh keep) = []
asks_for x (command.Attach id) = []
asks_for x command.Detach = []
asks_for x (command.Observe p deep mask) = []
asks_for x command.Events = []
asks_for x (command.Split p) = need.Node p ∷ []
asks_for x m = cond (is_viewed m) (needs_of x.who x.part x.pending m) (need.All ∷ [])

-- no earlier tree is to be caught up with before these needs are looked at
abbrev pub HasCaughtUpFor : Held → List Need → Type 0
HasCaughtUpFor x needs = (x.earlier ≡ None) ⊎ (needs ≡ [])

-- what is kept is made again, and nothing lacks of what the command asks for
pub record IsReady (x : Held) (m : Command) : Type 0 where
  pub settled : x.is_kept ≡ false
  pub known : All (LacksNothing x.part) (asks_for x m)

-- before a command that commits it was asked whether a reference of the tree at the base dangles
abbrev pub HasAskedOfReferences : Held → Command → Type 0
HasAskedOfReferences x m = IsTrue (commits m) → IsTrue (are_asked x.references)
