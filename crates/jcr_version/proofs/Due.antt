-- Which edit or refusal is due, from what was asked before.
use Rattle.std.proofs.Common.{◌≡◌, Option, None, List, sym, ap, subst}
use Rattle.std.specs.Prelude.{IfOk, IfErr, Result, Ok, Err}
use Rattle.jr_tree.specs.declared.edit.Edit.{Edit}
use Rattle.jr_tree.specs.declared.edit.Write.{Write}
use Rattle.jr_tree.specs.declared.shared.Refusal.{Refusal}
use Rattle.jr_items.specs.Refusals.{IsTheRefusal, or_else, out_of_memory}
use Rattle.jcr_lock.specs.Locks.{IsDue, IsDueRefusal}
use Rattle.jcr_version.specs.Edits.{unless_refused}

-- nothing was refused before
pub own_due : (result : Result Edit Refusal) (r : Option Refusal) (due : Result (List Write) Refusal) → r ≡ None → IfOk result (IsDue due) → IfOk result (IsDue (unless_refused r due))
own_due result r due h = subst (λ (x : Option Refusal). IfOk result (IsDue due) → IfOk result (IsDue (unless_refused x due))) (sym h) (λ is. is)

pub own_refused : (result : Result Edit Refusal) (r : Option Refusal) (due : Result (List Write) Refusal) → r ≡ None → IfErr result (IsDueRefusal due) → IfErr result (IsDueRefusal (unless_refused r due))
own_refused result r due h = subst (λ (x : Option Refusal). IfErr result (IsDueRefusal due) → IfErr result (IsDueRefusal (unless_refused x due))) (sym h) (λ is. is)

-- what was refused before
pub first_refused : (r : Option Refusal) (due : Result (List Write) Refusal) (refusal : Refusal) → IsTheRefusal r refusal → IsDueRefusal (unless_refused r due) refusal
first_refused r due refusal is m = ap (λ (x : Option Refusal). unless_refused x due) (is m)

-- the edit is due where nothing is refused
pub due_else : (result : Result Edit Refusal) (r : Option Refusal) (ws : List Write) → r ≡ None → IfOk result (λ edit. edit.writes ≡ ws) → IfOk result (IsDue (or_else r ws))
due_else (Ok edit) r ws h is = subst (λ (x : Option Refusal). or_else x ws ≡ Ok edit.writes) (sym h) (ap Ok (sym is))
due_else (Err e) r ws h is = is

pub else_refused : (r : Option Refusal) (ws : List Write) (refusal : Refusal) → IsTheRefusal r refusal → IsDueRefusal (or_else r ws) refusal
else_refused r ws refusal is m = ap (λ (x : Option Refusal). or_else x ws) (is m)

-- where memory is refused anything is due
pub else_memory : (result : Result Edit Refusal) (due : Result (List Write) Refusal) → IfErr result (λ r. r ≡ out_of_memory) → IfErr result (IsDueRefusal due)
else_memory (Ok edit) due is = is
else_memory (Err r) due is = λ m. absurd (m is)
