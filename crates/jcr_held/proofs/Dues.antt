-- What is due of commands that commit.
use Rattle.std.proofs.Common.{◌≡◌, ◌∙◌, true, false, List, [], ◌∷◌, Option, None, Some, refl, sym, ap}
use Rattle.std.specs.Prelude.{IfOk, Ok, Err, Result, is_some, option_map}
use Rattle.std.specs.declared.alloc.AllocError.{AllocError}
use Rattle.std.specs.List.{All}
use Rattle.std.proofs.lemmas.Bool.{false≢true}
use Rattle.jr_part.specs.Parts.{LacksNothing}
use Rattle.jr_part.specs.declared.need.Need.TheVariants as need
use Rattle.jr_tree.specs.declared.edit.Write.{Write}
use Rattle.jr_tree.specs.declared.shared.Refusal.{Refusal}
use Rattle.jr_overlay.specs.Overlays.{edit_of}
use Rattle.jcr_trans.specs.declared.command.Command.{Command}
use Rattle.jcr_trans.specs.declared.command.Command.TheVariants as command
use Rattle.jcr_law.specs.Commits.{edit_due}
use Rattle.jcr_law.specs.State.{Call}
use Rattle.jcr_call.specs.declared.coming.Coming.{Coming}
use Rattle.jcr_call.specs.declared.due.Due.{Due}
use Rattle.jcr_call.specs.declared.footing.Footing.{Footing}
use Rattle.jcr_call.specs.Comings.{IsComing}
use Rattle.jcr_call.specs.Dues.{due_at_once, writes_due}
use Rattle.jcr_call.specs.Footings.{IsOn}
use Rattle.jcr_call.proofs.AtOnce.{at_once}
use Rattle.jcr_held.specs.declared.held.Held.{Held}
use Rattle.jcr_law.specs.Makes.{commits}
use Rattle.jcr_held.specs.Comes.{ComesTo}
use Rattle.jcr_held.specs.Holds.{Holds, asks_for}
use Rattle.jcr_held.proofs.Holding.{all_known_of, pending_changes}

asks_of_commit : (x : Held) (m : Command) → commits m ≡ true → asks_for x m ≡ need.All ∷ []
asks_of_commit x command.Save h = refl
asks_of_commit x (command.Lock p deep) h = refl
asks_of_commit x (command.Unlock p) h = refl
asks_of_commit x (command.Checkin p) h = refl
asks_of_commit x (command.Checkout p) h = refl
asks_of_commit x (command.Label p version label take) h = refl
asks_of_commit x (command.Unlabel p label) h = refl
asks_of_commit x (command.Restore p version) h = refl
asks_of_commit x m h = absurd (false≢true h)

-- a command that commits asks for the whole tree
pub whole_known : (x : Held) (m : Command) → commits m ≡ true → All (LacksNothing x.part) (asks_for x m)
    → LacksNothing x.part need.All
whole_known x m h known = all_known_of x.part (asks_for x m) (asks_of_commit x m h) known

-- the call of these borrows, with some view
abbrev call_on : Footing → Call
call_on f = record {
  types = f.types.now;
  who = f.who.now;
  base = f.base.now;
  state = record { view = []; tokens = f.tokens.now; cursor = None; ids = 0 };
}

is_on : (f : Footing) → IsOn f (call_on f)
is_on f = record { types = refl; who = refl; base = refl; tokens = refl }

due_there : (c : Call) (m : Command) → commits m ≡ true → ¬ (m ≡ command.Save) → is_some (due_at_once c m) ≡ true
due_there c command.Save h other = absurd (other refl)
due_there c (command.Lock p deep) h other = refl
due_there c (command.Unlock p) h other = refl
due_there c (command.Checkin p) h other = refl
due_there c (command.Checkout p) h other = refl
due_there c (command.Label p version label take) h other = refl
due_there c (command.Unlabel p label) h other = refl
due_there c (command.Restore p version) h other = refl
due_there c m h other = absurd (false≢true h)

some_of : (found : Option Due) (due : Option (Result (List Write) Refusal)) → option_map writes_due found ≡ due
    → is_some due ≡ true → is_some found ≡ true
some_of (Some d) due is some = refl
some_of None due is some = absurd (false≢true (ap is_some is ∙ some))

-- something is due of a command that commits, other than `save`
pub is_due : (f : Footing) (m : Command) → commits m ≡ true → ¬ (m ≡ command.Save) → (result : Result (Option Due) AllocError)
    → ((c : Call) → IsOn f c → IfOk result (λ found. option_map writes_due found ≡ due_at_once c m))
    → IfOk result (λ found. is_some found ≡ true)
is_due f m h other (Ok found) at_once = some_of found _ (at_once (call_on f) (is_on f)) (due_there (call_on f) m h other)
is_due f m h other (Err e) at_once = tt

pub due_as_law : (c : Call) (m : Command) → ¬ (m ≡ command.Save) → (result : Result (Option Due) AllocError)
    → IfOk result (λ found. option_map writes_due found ≡ due_at_once c m)
    → IfOk result (λ found. option_map writes_due found ≡ edit_due c m)
due_as_law c m other (Ok found) is = is ∙ at_once c m other
due_as_law c m other (Err e) is = tt

-- what is due comes to this
pub comes_to : (c : Call) (m : Command) (due : Due) (result : Result Coming AllocError) → edit_due c m ≡ Some (writes_due due)
    → IfOk result (IsComing c m (writes_due due)) → IfOk result (ComesTo c m)
comes_to c m due (Ok coming) is comes = record { due = writes_due due; is_due = is; comes = comes }
comes_to c m due (Err e) is comes = tt

abbrev due_edit : List Write → Option (Result (List Write) Refusal)
due_edit ws = Some (Ok ws)

-- of `save` what is pending is due
pub pending_due : (c : Call) (x : Held) (m : Command) (result : Result (Option Due) AllocError) → x.is_kept ≡ false → Holds c x
    → m ≡ command.Save → IfOk result (λ found. option_map writes_due found ≡ Some (Ok (edit_of x.pending)))
    → IfOk result (λ found. option_map writes_due found ≡ edit_due c m)
pending_due c x m (Ok found) settled h save is =
    is ∙ ap due_edit (pending_changes c x settled h)
    ∙ sym (ap (edit_due c) save)
pending_due c x m (Err e) settled h save is = tt
