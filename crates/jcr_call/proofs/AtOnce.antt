-- What is due of a command that commits at once: of one that isn't `save`, and of each that has an edit.
use Rattle.std.proofs.Common.{◌≡◌, ◌≢◌, ℕ, Bool, List, Option, Some, refl, sym, subst}
use Rattle.std.specs.Prelude.{IfOk, Result}
use Rattle.jr_path.specs.declared.name.Name.{Name}
use Rattle.jr_path.specs.declared.path.Path.{Path}
use Rattle.jr_tree.specs.declared.edit.Write.{Write}
use Rattle.jr_tree.specs.declared.shared.Refusal.{Refusal}
use Rattle.jr_tree.specs.Trees.{Nodes}
use Rattle.jcr_lock.specs.Locks.{lock_edit, unlock_edit}
use Rattle.jcr_restore.specs.Edits.{restore_edit}
use Rattle.jcr_version.specs.Edits.{checkin_edit, checkout_edit, label_edit, unlabel_edit}
use Rattle.jcr_trans.specs.declared.command.Command.{Command}
use Rattle.jcr_trans.specs.declared.command.Command.TheVariants as command
use Rattle.jcr_law.specs.Commits.{drawing_one, edit_due}
use Rattle.jcr_law.specs.State.{Call, next_id}
use Rattle.jcr_call.specs.Dues.{due_at_once}

-- it is what is due whatever is pending
pub at_once : (c : Call) (m : Command) → m ≢ command.Save → due_at_once c m ≡ edit_due c m
at_once c command.Save no_save = absurd (no_save refl)
at_once c m no_save = refl

-- what is found of a value is found of what it is
found_of : {D E X M : Type 0} (f : D → X) (g : M → X) (result : Result D E) (m v : M) → m ≡ v
    → IfOk result (λ d. f d ≡ g v) → IfOk result (λ d. f d ≡ g m)
found_of f g result m v is found = subst (λ n. IfOk result (λ d. f d ≡ g n)) (sym is) found

-- a lock
pub lock_due : {D E : Type 0} (f : D → Option (Result (List Write) Refusal)) (result : Result D E)
    (c : Call) (m : Command) (p : Path) (deep : Bool) → m ≡ command.Lock p deep
    → IfOk result (λ d. f d ≡ Some (drawing_one c (lock_edit c.base p deep (next_id c.who))))
    → IfOk result (λ d. f d ≡ due_at_once c m)
lock_due f result c m p deep is found =
    found_of f (due_at_once c) result m (command.Lock p deep) is found

pub unlock_due : {D E : Type 0} (f : D → Option (Result (List Write) Refusal)) (result : Result D E)
    (c : Call) (m : Command) (p : Path) → m ≡ command.Unlock p
    → IfOk result (λ d. f d ≡ Some (unlock_edit c.base p c.state.tokens))
    → IfOk result (λ d. f d ≡ due_at_once c m)
unlock_due f result c m p is found =
    found_of f (due_at_once c) result m (command.Unlock p) is found

-- a version
pub checkin_due : {D E : Type 0} (f : D → Option (Result (List Write) Refusal)) (result : Result D E)
    (c : Call) (m : Command) (p : Path) → m ≡ command.Checkin p
    → IfOk result (λ d. f d ≡ Some (checkin_edit c.types c.base p c.who))
    → IfOk result (λ d. f d ≡ due_at_once c m)
checkin_due f result c m p is found =
    found_of f (due_at_once c) result m (command.Checkin p) is found

pub checkout_due : {D E : Type 0} (f : D → Option (Result (List Write) Refusal)) (result : Result D E)
    (c : Call) (m : Command) (base : Nodes) (p : Path) → m ≡ command.Checkout p → base ≡ c.base
    → IfOk result (λ d. f d ≡ Some (checkout_edit base p))
    → IfOk result (λ d. f d ≡ due_at_once c m)
checkout_due f result c m base p is same found =
    found_of f (due_at_once c) result m (command.Checkout p) is
    (subst (λ b. IfOk result (λ d. f d ≡ Some (checkout_edit b p))) same found)

pub label_due : {D E : Type 0} (f : D → Option (Result (List Write) Refusal)) (result : Result D E)
    (c : Call) (m : Command) (base : Nodes) (p : Path) (version text : List ℕ) (label : Name)
    (take : Bool) → m ≡ command.Label p version label take → base ≡ c.base → text ≡ version
    → IfOk result (λ d. f d ≡ Some (label_edit base p text label take))
    → IfOk result (λ d. f d ≡ due_at_once c m)
label_due f result c m base p version text label take is same read found =
    found_of f (due_at_once c) result m (command.Label p version label take) is
    (subst (λ b. IfOk result (λ d. f d ≡ Some (label_edit b p version label take))) same
    (subst (λ t. IfOk result (λ d. f d ≡ Some (label_edit base p t label take))) read found))

pub unlabel_due : {D E : Type 0} (f : D → Option (Result (List Write) Refusal)) (result : Result D E)
    (c : Call) (m : Command) (base : Nodes) (p : Path) (label : Name)
    → m ≡ command.Unlabel p label → base ≡ c.base
    → IfOk result (λ d. f d ≡ Some (unlabel_edit base p label))
    → IfOk result (λ d. f d ≡ due_at_once c m)
unlabel_due f result c m base p label is same found =
    found_of f (due_at_once c) result m (command.Unlabel p label) is
    (subst (λ b. IfOk result (λ d. f d ≡ Some (unlabel_edit b p label))) same found)

pub restore_due : {D E : Type 0} (f : D → Option (Result (List Write) Refusal)) (result : Result D E)
    (c : Call) (m : Command) (p : Path) (version text : List ℕ) → m ≡ command.Restore p version
    → text ≡ version → IfOk result (λ d. f d ≡ Some (restore_edit c.types c.base p text))
    → IfOk result (λ d. f d ≡ due_at_once c m)
restore_due f result c m p version text is read found =
    found_of f (due_at_once c) result m (command.Restore p version) is
    (subst (λ t. IfOk result (λ d. f d ≡ Some (restore_edit c.types c.base p t))) read found)
