-- At the commit point: what is committed outside the base doesn't clash.
use Rattle.std.proofs.Common.{◌≡◌, true, false, ◌&&◌, ◌⊎◌, inl, inr, List, [], sym, subst, is_some}
use Rattle.std.specs.List.{list_any}
use Rattle.jr_path.specs.declared.path.Path.{Path}
use Rattle.jr_rev.specs.declared.revision.Revision.{Revision}
use Rattle.oak_clash.specs.declared.mark.Mark.{Mark}
use Rattle.oak_clash.specs.declared.mark.MarkAt.{MarkAt}
use Rattle.oak_clash.specs.Clashes.{clash, clashing}
use Rattle.oak_machine.specs.declared.event.Draw.{Draw}
use Rattle.oak_machine.specs.Commits.{marks_of, is_committed, is_in_base, are_clashing}
use Rattle.oak_commit.specs.Clashing.{collision}
use Rattle.core_clash.specs.Views.{In, mark_at}
use Rattle.core_clash.specs.Core.{Core, is_path, root_of, MayLast}
use Rattle.core_clash.specs.Sound.{Sound, Noticed, MarkStands}
use Rattle.core_clash.proofs.Pasts.{in_flight}
use Rattle.core_clash.proofs.Basics.{test, not_both, and_both, any_from, same_path, none_in}

-- marks that clash at a path
pub record Clash (ms os : List MarkAt) : Type 0 where
  pub path : Path
  pub mine : Mark
  pub theirs : Mark
  pub in_mine : In (mark_at path mine) ms
  pub in_theirs : In (mark_at path theirs) os
  pub clashes : clash mine theirs ≡ true

pub clash_from : (ms os : List MarkAt) → clashing ms os ≡ true → Clash ms os
clash_from ms os h =
    let a = any_from (λ m. list_any (λ o. is_path m.path o.path && clash m.mark o.mark) os) ms h in
    let b = any_from (λ o. is_path a.0.path o.path && clash a.0.mark o.mark) os a.2 in
    let c = and_both (is_path a.0.path b.0.path) _ b.2 in
    record {
      path = a.0.path;
      mine = a.0.mark;
      theirs = b.0.mark;
      in_mine = a.1;
      in_theirs = subst (λ (q : Path). In (mark_at q b.0.mark) os) (sym (same_path a.0.path b.0.path c.0)) b.1;
      clashes = c.1;
    }

module _ (s : Core) (d : Draw) (sound : Sound s) (may : MayLast s d) (unmarked : is_some (collision (s.docs (root_of s.past d.revision)) d.revision) ≡ false) where
  -- nobody noticed whom it commits beside
  unnoticed : (o : Revision) → is_committed s.past o ≡ true → is_in_base s.past d.revision o ≡ false → Noticed s d.revision o ⊎ Noticed s o d.revision → ⊥
  unnoticed o committed outside (inl (inl seen)) = not_both _ seen outside
  unnoticed o committed outside (inl (inr (inl due))) = none_in due.0 _ may.unmet due.1
  unnoticed o committed outside (inl (inr (inr marked))) = not_both _ marked (sound.unmarked o committed)
  unnoticed o committed outside (inr (inl seen)) = not_both _ seen (sound.settled o d.revision (in_flight s.past d.revision d may.going.draw may.going.unended))
  unnoticed o committed outside (inr (inr (inl due))) = none_in due.0 _ (sound.whole o committed).due due.1
  unnoticed o committed outside (inr (inr (inr marked))) = not_both _ marked unmarked

  wrote : (r : Revision) (p : Path) → (s.writers r).left ≡ [] → In p (s.writers r).written ⊎ In p (s.writers r).left → In p (s.writers r).written
  wrote r p none (inl h) = h
  wrote r p none (inr h) = absurd (none_in p _ none h)

  stands : (r : Revision) (p : Path) (m : Mark) → (s.writers r).left ≡ [] → (s.writers r).undoing ≡ false → In (mark_at p m) (marks_of s.past r) → MarkStands s r p m
  stands r p m none going mark = record { written = wrote r p none (sound.covered r p m mark going); going = going; mark = mark }

  no_clash : (o : Revision) → is_committed s.past o ≡ true → is_in_base s.past d.revision o ≡ false → Clash (marks_of s.past d.revision) (marks_of s.past o) → ⊥
  no_clash o committed outside c =
      let w = sound.whole o committed in
      unnoticed o committed outside
      (sound.noticed d.revision o c.path c.mine c.theirs
      (λ same. not_both (is_committed s.past o) committed (subst (λ (x : Revision). is_committed s.past x ≡ false) same may.going.uncommitted))
      (stands d.revision c.path c.mine may.none_left may.going.going c.in_mine)
      (stands o c.path c.theirs w.left w.going c.in_theirs)
      c.clashes)

  -- what is committed outside the base doesn't clash
  pub apart_at_last : (o : Revision) → is_committed s.past o ≡ true → is_in_base s.past d.revision o ≡ false → are_clashing s.past d.revision o ≡ false
  apart_at_last o committed outside = by (test (are_clashing s.past d.revision o))
    where
      by : (are_clashing s.past d.revision o ≡ true) ⊎ (are_clashing s.past d.revision o ≡ false) → are_clashing s.past d.revision o ≡ false
      by (inl clashes) = absurd (no_clash o committed outside (clash_from _ _ clashes))
      by (inr apart) = apart
