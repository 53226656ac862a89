-- Where the cursor stands of what a session's next command is run with.
use Rattle.std.proofs.Common.{◌≡◌, ℕ, Bool, true, false, cond, None, Some, Option, List, refl, sym, ap, ◌∙◌, subst}
use Rattle.std.specs.Prelude.{IfSome}
use Rattle.std.specs.Option.{unwrap_or}
use mathlib.Core.Bool.{false≢true}
use Rattle.jr_path.specs.Lists.{Text}
use Rattle.jr_rev.specs.declared.vector.RevVec.{RevVec}
use Rattle.jr_tree.specs.Trees.{Nodes}
use Rattle.oak_machine.specs.History.{History, Past}
use Rattle.oak_machine.specs.Sessions.{cursor_at}
use Rattle.jcr_trans.specs.declared.command.Command.{Command}
use Rattle.jcr_trans.specs.declared.command.Command.TheVariants as command
use Rattle.jcr_view.specs.Outcomes.{eval, is_viewed}
use Rattle.jcr_law.specs.declared.law.JcrLaw.{JcrLaw}
use Rattle.jcr_law.specs.declared.state.Cursor.{Cursor}
use Rattle.jcr_law.specs.Calls.{call_after, call_moved}
use Rattle.jcr_law.specs.Since.{is_unpinned}
use Rattle.jcr_law.specs.State.{Call, accepted, call_of, is_ok_text, viewed}
use Rattle.jcr_held.specs.Accepts.{AcceptsAs, cursor_behind}
use Rattle.jcr_held.specs.Holds.{Holds}
use Rattle.jcr_held.specs.declared.held.Held.{Held}
use Rattle.jcr_run.specs.Standing.{HasCursor, KeepsCursor}
use Rattle.jcr_run.proofs.Nexts.{sets_cursor}

-- ---- where it is pinned

-- it is pinned where it was
pub has_cursor_over : (old new : Past) (s : ℕ) (c : Call) → cursor_at new s ≡ cursor_at old s → HasCursor old s c → HasCursor new s c
has_cursor_over old new s c same has = by c.state.cursor has
  where
    by : (o : Option Cursor) → IfSome o (λ x. cursor_at old s ≡ Some x.at) → IfSome o (λ x. cursor_at new s ≡ Some x.at)
    by None h = tt
    by (Some x) h = same ∙ h

-- a call with the same cursor
pub has_cursor_like : (past : Past) (s : ℕ) (c d : Call) → d.state.cursor ≡ c.state.cursor → HasCursor past s c → HasCursor past s d
has_cursor_like past s c d same has = subst (λ (o : Option Cursor). IfSome o (λ x. cursor_at past s ≡ Some x.at)) (sym same) has

-- what the next command is run with
pub one_call : (c d : Call) → Some c ≡ Some d → c ≡ d
one_call c d h = ap (λ (o : Option Call). unwrap_or o c) h

pub cursor_of_call : (law : JcrLaw) (h : History) (s : ℕ) (c : Call) → call_of law h.begin h.past s ≡ Some c → (is_unpinned h.past s ≡ true → HasCursor h.past s c) → KeepsCursor law h s
cursor_of_call law h s c is has d at unpinned = subst (λ (x : Call). HasCursor h.past s x) (one_call c d (sym is ∙ at)) (has unpinned)

-- behind a move of the base it stands where it stood
pub cursor_moved : (law : JcrLaw) (old new : History) (s : ℕ) (c : Call) (v : RevVec) (t : Nodes) → call_of law old.begin old.past s ≡ Some c → call_of law new.begin new.past s ≡ Some (call_moved c v t)
    → cursor_at new.past s ≡ cursor_at old.past s → (is_unpinned new.past s ≡ true → is_unpinned old.past s ≡ true) → KeepsCursor law old s → KeepsCursor law new s
cursor_moved law old new s c v t was is same pins keeps =
    cursor_of_call law new s (call_moved c v t) is (λ unpinned. has_cursor_over old.past new.past s (call_moved c v t) same (keeps c was (pins unpinned)))

-- ---- behind a reply

-- a command that doesn't set the cursor leaves it
cursor_accepted : (c : Call) (m : Command) → sets_cursor m ≡ false → (accepted c m).cursor ≡ c.state.cursor
cursor_accepted c command.Save h = refl
cursor_accepted c (command.Refresh false) h = refl
cursor_accepted c (command.Token t) h = refl
cursor_accepted c (command.DropToken t) h = refl
cursor_accepted c (command.Lock p deep) h = refl
cursor_accepted c (command.Observe p deep mask) h = absurd (false≢true (sym h))
cursor_accepted c command.Events h = absurd (false≢true (sym h))
cursor_accepted c m h = by (is_viewed m)
  where
    by : (b : Bool) → (cond b (viewed (eval c.types c.who c.base c.state.view m) c.state) c.state).cursor ≡ c.state.cursor
    by true = refl
    by false = refl

pub cursor_after : (ok drew : Bool) (c : Call) (m : Command) → sets_cursor m ≡ false → (call_after ok drew c m).state.cursor ≡ c.state.cursor
cursor_after true drew c m h = cursor_accepted c m h
cursor_after false drew c m h = refl

pub cursor_settled : (past : Past) (s : ℕ) (ok drew : Bool) (c : Call) (m : Command) → sets_cursor m ≡ false → HasCursor past s c → HasCursor past s (call_after ok drew c m)
cursor_settled past s ok drew c m none has = has_cursor_like past s c (call_after ok drew c m) (cursor_after ok drew c m none) has

-- nor does a refused one set it
pub cursor_refused : (past : Past) (s : ℕ) (text : Text) (drew : Bool) (c : Call) (m : Command) → is_ok_text text ≡ false → HasCursor past s c → HasCursor past s (call_after (is_ok_text text) drew c m)
cursor_refused past s text drew c m refuses has = subst (λ (b : Bool). HasCursor past s (call_after b drew c m)) (sym refuses) has

-- and so does what is held
pub accepts_by : (c : Call) (x : Held) (m : Command) (tokens : Option (List (List ℕ))) → sets_cursor m ≡ false → Holds c x → unwrap_or tokens x.tokens ≡ (accepted c m).tokens → AcceptsAs x tokens c m
accepts_by c x m tokens none holds are = record {
  tokens_are = are;
  cursor_is = behind m none ∙ (holds.cursor ∙ sym (cursor_accepted c m none));
}
  where
    behind : (m : Command) → sets_cursor m ≡ false → cursor_behind x m ≡ x.cursor
    behind command.Events h = absurd (false≢true (sym h))
    behind m h = refl
