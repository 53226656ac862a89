-- Commands that commit: the edit that is due, and what is answered before and after a commit.
use Rattle.std.specs.Prelude.{◌+◌, cond, List, [], ◌∷◌, Option, None, Some, Result, Ok, Err}
use Rattle.std.specs.Option.{option_map_or}
use Rattle.jr_rev.specs.declared.revision.Revision.{Revision}
use Rattle.jr_tree.specs.declared.edit.Write.{Write}
use Rattle.jr_tree.specs.declared.shared.Refusal.{Refusal}
use Rattle.jr_tree.specs.Trees.{Nodes}
use Rattle.jr_items.specs.Names.{version_storage}
use Rattle.jr_items.specs.Refusals.{or_else, own_rule}
use Rattle.jr_path.specs.declared.name.Name.{Name}
use Rattle.jcr_lock.specs.Locks.{lock_edit, unlock_edit}
use Rattle.jcr_plan.specs.Refusals.{plan_refusal}
use Rattle.jcr_ref.specs.Drawn.{too_many_ids}
use Rattle.jcr_restore.specs.Edits.{restore_edit}
use Rattle.jcr_trans.specs.Answers.{Answer, ShowsNothing, ShowsRevision, ShowsText}
use Rattle.jcr_trans.specs.declared.command.Command.{Command}
use Rattle.jcr_trans.specs.declared.command.Command.TheVariants as command
use Rattle.jcr_version.specs.Edits.{checked_in_version, checkin_edit, checkout_edit, label_edit, unlabel_edit}
use Rattle.jcr_law.specs.Proper.{is_proper}
use Rattle.jcr_law.specs.State.{Call, next_id, pending}

-- writes for which one identifier is drawn
abbrev pub drawing_one : Call → Result (List Write) Refusal → Result (List Write) Refusal
drawing_one c (Ok ws) = or_else (too_many_ids (c.who.ids + 1)) ws
drawing_one c (Err r) = Err r

-- the edit of a command that commits, or its refusal: of `save` the pending edits, of the others an
-- edit on the tree at the base, whatever is pending; other commands have none
abbrev pub edit_due : Call → Command → Option (Result (List Write) Refusal)
edit_due c command.Save = Some (Ok (pending c))
edit_due c (command.Lock p deep) =
    Some (drawing_one c (lock_edit c.base p deep (next_id c.who)))
edit_due c (command.Unlock p) = Some (unlock_edit c.base p c.state.tokens)
edit_due c (command.Checkin p) = Some (checkin_edit c.types c.base p c.who)
edit_due c (command.Checkout p) = Some (checkout_edit c.base p)
edit_due c (command.Label p version label take) = Some (label_edit c.base p version label take)
edit_due c (command.Unlabel p label) = Some (unlabel_edit c.base p label)
edit_due c (command.Restore p version) = Some (restore_edit c.types c.base p version)
edit_due c _ = None

-- why the writes of a command can't be committed on the tree at the base: they are not proper
-- there, which comes of a version storage that isn't whole, or the plan is refused
abbrev pub refusal_of_plan : Call → List Write → Option Refusal
refusal_of_plan c [] = None
refusal_of_plan c (w ∷ ws) = cond (is_proper c.base (w ∷ ws))
    (plan_refusal c.types c.base c.state.tokens (w ∷ ws)) (Some (own_rule version_storage))

-- the first refusal of an edit that is due: the command's own, or the plan's
abbrev pub refusal_of_due : Call → Result (List Write) Refusal → Option Refusal
refusal_of_due c (Ok ws) = refusal_of_plan c ws
refusal_of_due c (Err r) = Some r

-- the name of a version, where there is one
abbrev pub version_answer : Option Name → Answer
version_answer n = option_map_or ShowsText n ShowsNothing

-- the answer where nothing has to be written: a check-in tells the version that is the node's base
abbrev pub unwritten_answer : Call → Command → Answer
unwritten_answer c (command.Checkin p) = version_answer (checked_in_version c.base p)
unwritten_answer c _ = ShowsNothing

-- the answer of a command whose commit was made: a lock tells its token, a check-in the version
-- that it made on the tree where it was drawn, each other one the revision
abbrev pub committed_answer : Call → (drawn_at : Nodes) → Revision → Command → Answer
committed_answer c drawn_at r (command.Lock p deep) = ShowsText (next_id c.who)
committed_answer c drawn_at r (command.Checkin p) = version_answer (checked_in_version drawn_at p)
committed_answer c drawn_at r _ = ShowsRevision r
