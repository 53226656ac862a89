-- What a session owns of a journal: its events have its replies, and its end.
use Rattle.std.proofs.Common.{◌≡◌, ℕ, ◌+◌, Bool, true, false, cond, ◌||◌, ◌&&◌, [], ◌∷◌, length, refl, sym, ap, ◌∙◌, arith}
use Rattle.std.specs.Prelude.{◌==◌}
use Rattle.oak_machine.specs.declared.event.Event.{Event}
use Rattle.oak_machine.specs.declared.event.Event.TheVariants as event
use Rattle.oak_machine.specs.declared.event.StepKind.TheVariants as kind
use Rattle.oak_machine.specs.History.{Past}
use Rattle.oak_machine.specs.Laws.{is_event_of}
use Rattle.oak_machine.specs.Sessions.{has_left, is_end_of_session, is_reply_of, next_index}
use Rattle.core_heads.proofs.Passing.{next_more}
use Rattle.jr_script.specs.declared.script.Script.{Script}
use Rattle.jr_shared.specs.Meanings.{own_events}
use Rattle.jr_stage.specs.Places.{commands_of, is_over}

module _ (s : ℕ) where
  -- an event that is no reply of the session counts neither among its events nor among all
  silent : (e : Event) (past own : Past) → is_reply_of s e ≡ false → next_index own s ≡ next_index past s → (b : Bool) → next_index (cond b (e ∷ own) own) s ≡ next_index (e ∷ past) s
  silent e past own none same true = next_more s e own ∙ (ap (λ n. n + cond (is_reply_of s e) 1 0) same ∙ sym (next_more s e past))
  silent e past own none same false = same ∙ sym (next_more s e past ∙ nothing_more (next_index past s) (is_reply_of s e) none)
    where
      nothing_more : (n : ℕ) (b : Bool) → b ≡ false → n + cond b 1 0 ≡ n
      nothing_more n true h = absurd (cc)
      nothing_more n false h = let same : n + 0 ≡ n = omega arith in same

  replied : (t : ℕ) (e : Event) (past own : Past) → is_reply_of s e ≡ (t == s) → next_index own s ≡ next_index past s → (b : Bool) → (t == s) ≡ b → next_index (cond b (e ∷ own) own) s ≡ next_index (e ∷ past) s
  replied t e past own is same true own_is = next_more s e own ∙ (ap (λ n. n + cond (is_reply_of s e) 1 0) same ∙ sym (next_more s e past))
  replied t e past own is same false own_is = silent e past own (is ∙ own_is) same false

  -- its replies are among its events
  own_next : (past : Past) → next_index (own_events past s) s ≡ next_index past s
  own_next [] = refl
  own_next (event.Said t i text ∷ past) = replied t (event.Said t i text) past (own_events past s) refl (own_next past) (t == s) refl
  own_next (e ∷ past) = silent e past (own_events past s) refl (own_next past) (is_event_of (e ∷ past) s e)

  -- an event that is not its end counts neither among its events nor among all
  passed : (e : Event) (past own : Past) → is_end_of_session s e ≡ false → has_left own s ≡ has_left past s → (b : Bool) → has_left (cond b (e ∷ own) own) s ≡ has_left (e ∷ past) s
  passed e past own none same true = ap (λ b. is_end_of_session s e || b) same
  passed e past own none same false = same ∙ sym (ap (λ b. b || has_left past s) none)

  left : (t : ℕ) (past own : Past) → has_left own s ≡ has_left past s → (b : Bool) → (t == s) ≡ b → has_left (cond b (event.Went t kind.End ∷ own) own) s ≡ has_left (event.Went t kind.End ∷ past) s
  left t past own same true own_is = ap (λ b. (t == s) || b) same
  left t past own same false own_is = passed (event.Went t kind.End) past own own_is same false

  -- its end is among its events
  own_left : (past : Past) → has_left (own_events past s) s ≡ has_left past s
  own_left [] = refl
  own_left (event.Went t kind.End ∷ past) = left t past (own_events past s) (own_left past) (t == s) refl
  own_left (e ∷ past) = passed e past (own_events past s) refl (own_left past) (is_event_of (e ∷ past) s e)

  -- so its events tell whether it is over
  pub own_over : (script : Script) (past : Past) → is_over script (own_events past s) s ≡ is_over script past s
  own_over script past =
      ap (λ n. n == length (commands_of script s) && has_left (own_events past s) s) (own_next past)
      ∙ ap (λ b. next_index past s == length (commands_of script s) && b) (own_left past)
