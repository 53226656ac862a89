-- What ended, wanted no memory and clashes with nothing outside its base is committed.
use Rattle.std.proofs.Common.{◌≡◌, true, false, ◌&&◌, ◌⊎◌, inl, inr, List}
use Rattle.std.specs.List.{list_any}
use Rattle.jr_path.specs.declared.path.Item.{Item}
use Rattle.jr_rev.specs.declared.revision.Revision.{Revision}
use Rattle.oak_clash.specs.declared.mark.MarkAt.{MarkAt}
use Rattle.oak_clash.specs.Clashes.{clash, clashing, marks_at, Meets}
use Rattle.oak_machine.specs.Commits.{is_drawn, is_committed, is_refused, is_ended, is_in_base, are_clashing, marks_of}
use Rattle.core_clash.specs.Views.{mark_at}
use Rattle.core_clash.specs.Core.{Core, is_path, IsDone}
use Rattle.core_clash.specs.Sound.{Sound, Cause, TurnedToUndo}
use Rattle.oak_machine.specs.Sessions.{is_stopped}
use Rattle.core_clash.proofs.Basics.{not_both, any_from, any_of, and_true, is_path_self}
use Rattle.core_clash.proofs.Documents.{In-from_marks_at}
use Rattle.core_clash.proofs.Firsts.{met_clash}
use Rattle.core_clash.proofs.Pasts.{refused_for}

-- who meets another clashes with it
pub meets_clashing : (ms os : List MarkAt) (item : Item) → Meets ms os item → clashing ms os ≡ true
meets_clashing ms os item h =
    let a = met_clash item.path (marks_at item.path ms) (marks_at item.path os) item h in
    let b = any_from (clash a.0) (marks_at item.path os) a.2 in
    any_of (λ m. list_any (λ o. is_path m.path o.path && clash m.mark o.mark) os) (mark_at item.path a.0) ms (In-from_marks_at item.path a.0 ms a.1)
    (any_of (λ o. is_path item.path o.path && clash a.0 o.mark) (mark_at item.path b.0) os (In-from_marks_at item.path b.0 os b.1) (and_true (is_path item.path item.path) _ (is_path_self item.path) b.2))

pub complete : (s : Core) (r : Revision) → Sound s → is_ended s.past r ≡ true → is_stopped s.past r.cluster ≡ false → (s.writers r).wants ≡ false → ((o : Revision) → (r ≡ o → ⊥) → is_drawn s.past o ≡ true → is_in_base s.past r o ≡ false → are_clashing s.past r o ≡ false) → is_committed s.past r ≡ true
complete s r sound ended running wants apart = by (sound.ended r ended)
  where
    no_cause : (item : Item) (o : Revision) → Cause s.past r item o → ⊥
    no_cause item o c = not_both (are_clashing s.past r o) (meets_clashing (marks_of s.past r) (marks_of s.past o) item c.met) (apart o c.another c.other c.outside)

    why : TurnedToUndo s.past r (s.writers r) → is_committed s.past r ≡ true
    why (inl h) = let c = refused_for s.past r h in absurd (no_cause c.0.0 c.0.1 (sound.refusal r c.0.0 c.0.1 c.1))
    why (inr (inl h)) = not_both _ h wants
    why (inr (inr h)) = not_both _ h running

    by : IsDone s r → is_committed s.past r ≡ true
    by (inl c) = c
    by (inr u) = why (sound.stopped r u.0)
