-- When the command of a session begins, what came since, and what leaves it attached and its cursor pinned as they are.
use Rattle.std.proofs.Common.{◌≡◌, ℕ, ◌+◌, Bool, true, false, cond, Some, [], ◌∷◌, ◌++◌, refl, ap, ◌∙◌}
use Rattle.std.specs.Prelude.{◌==◌, ◌||◌}
use Rattle.std.specs.List.{list_any}
use Rattle.basics.proofs.Bools.{number_itself}
use Rattle.jr_path.specs.Lists.{Text}
use Rattle.jr_rev.specs.declared.vector.RevVec.{RevVec}
use Rattle.oak_machine.specs.declared.event.Draw.{Draw}
use Rattle.oak_machine.specs.declared.event.Event.{Event}
use Rattle.oak_machine.specs.declared.event.Event.TheVariants as event
use Rattle.oak_machine.specs.declared.event.StepKind.TheVariants as kind
use Rattle.oak_machine.specs.History.{Past}
use Rattle.oak_machine.specs.Laws.{is_event_of}
use Rattle.oak_machine.specs.Sessions.{cursor_at, is_attached, next_index, refreshed_since, since}
use Rattle.oak_machine.proofs.Induction.{neither, other}
use Rattle.core_heads.proofs.Passing.{next_more}
use Rattle.jcr_law.specs.Since.{before_turn, draw_since, is_beginning}
use Rattle.core_calls.specs.Events.{is_calling}

pub begins_at_reply : (past : Past) (s i : ℕ) (text : Text) → before_turn (event.Said s i text ∷ past) s ≡ event.Said s i text ∷ past
begins_at_reply past s i text = ap (λ (b : Bool). cond (b || false) (event.Said s i text ∷ past) (before_turn past s)) (number_itself s)

pub begins_at_login : (past : Past) (s : ℕ) (v : RevVec) → before_turn (event.Login s v ∷ past) s ≡ event.Login s v ∷ past
begins_at_login past s v = ap (λ (b : Bool). cond b (event.Login s v ∷ past) (before_turn past s)) (number_itself s)

pub begun_before : (e : Event) (past : Past) (s : ℕ) → is_beginning s e ≡ false → before_turn (e ∷ past) s ≡ before_turn past s
begun_before e past s h = ap (λ (b : Bool). cond b (e ∷ past) (before_turn past s)) h

-- ---- what came since

pub since_reply : (past : Past) (s i : ℕ) (text : Text) → since (event.Said s i text ∷ past) s ≡ []
since_reply past s i text = ap (λ (b : Bool). cond (b || false) [] (event.Said s i text ∷ since past s)) (number_itself s)

pub since_login : (past : Past) (s : ℕ) (v : RevVec) → since (event.Login s v ∷ past) s ≡ []
since_login past s v = ap (λ (b : Bool). cond b [] (event.Login s v ∷ since past s)) (number_itself s)

pub next_reply : (past : Past) (s i : ℕ) (text : Text) → next_index (event.Said s i text ∷ past) s ≡ next_index past s + 1
next_reply past s i text = next_more s (event.Said s i text) past ∙ ap (λ (b : Bool). next_index past s + cond b 1 0) (number_itself s)

pub drawn_now : (past : Past) (d : Draw) → draw_since (event.Draw d ∷ past) d.session ≡ Some d
drawn_now past d = ap (λ (b : Bool). cond b (Some d) (draw_since past d.session)) (number_itself d.session)

pub refreshed_now : (past : Past) (s : ℕ) (v : RevVec) → refreshed_since (event.Refresh s v ∷ past) s ≡ Some v
refreshed_now past s v = ap (λ (b : Bool). cond b (Some v) (refreshed_since past s)) (number_itself s)

-- ---- attached to a checkpoint, or to none

-- events that don't call s leave it as it is
pub attached_over : (added past : Past) (s : ℕ) → list_any (is_calling s) added ≡ false → is_attached (added ++ past) s ≡ is_attached past s
attached_over [] past s h = refl
attached_over (event.Login t v ∷ added) past s h = let n = neither (t == s) _ h in other (t == s) _ _ _ n.0 (attached_over added past s n.1)
attached_over (event.Refresh t v ∷ added) past s h = let n = neither (t == s) _ h in other (t == s) _ _ _ n.0 (attached_over added past s n.1)
attached_over (event.Attach t id ∷ added) past s h = let n = neither (t == s) _ h in other (t == s) _ _ _ n.0 (attached_over added past s n.1)
attached_over (e ∷ added) past s h = attached_over added past s (neither (is_calling s e) _ h).1

-- so do events of others
pub attached_stays : (whole added past : Past) (s : ℕ) → list_any (is_event_of whole s) added ≡ false → is_attached (added ++ past) s ≡ is_attached past s
attached_stays whole [] past s h = refl
attached_stays whole (event.Login t v ∷ added) past s h = let n = neither (t == s) _ h in other (t == s) _ _ _ n.0 (attached_stays whole added past s n.1)
attached_stays whole (event.Refresh t v ∷ added) past s h = let n = neither (t == s) _ h in other (t == s) _ _ _ n.0 (attached_stays whole added past s n.1)
attached_stays whole (event.Attach t id ∷ added) past s h = let n = neither (t == s) _ h in other (t == s) _ _ _ n.0 (attached_stays whole added past s n.1)
attached_stays whole (e ∷ added) past s h = attached_stays whole added past s (neither (is_event_of whole s e) _ h).1

pub attached_now : (past : Past) (s : ℕ) (id : Text) → is_attached (event.Attach s id ∷ past) s ≡ true
attached_now past s id = ap (λ (b : Bool). cond b true (is_attached past s)) (number_itself s)

pub unattached_now : (past : Past) (s : ℕ) (v : RevVec) → is_attached (event.Refresh s v ∷ past) s ≡ false
unattached_now past s v = ap (λ (b : Bool). cond b false (is_attached past s)) (number_itself s)

-- ---- where the cursor is pinned

-- events of others leave that
pub cursor_stays : (whole added past : Past) (s : ℕ) → list_any (is_event_of whole s) added ≡ false → cursor_at (added ++ past) s ≡ cursor_at past s
cursor_stays whole [] past s h = refl
cursor_stays whole (event.Went t kind.Pin ∷ added) past s h = let n = neither (t == s) _ h in other (t == s) _ _ _ n.0 (cursor_stays whole added past s n.1)
cursor_stays whole (event.Went t kind.End ∷ added) past s h = let n = neither (t == s) _ h in other (t == s) _ _ _ n.0 (cursor_stays whole added past s n.1)
cursor_stays whole (e ∷ added) past s h = cursor_stays whole added past s (neither (is_event_of whole s e) _ h).1
