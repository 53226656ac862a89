-- A commit point keeps what holds.
use Rattle.std.proofs.Common.{◌≡◌, ℕ, true, false, ◌||◌, ◌⊎◌, inl, inr, Option, ◌∷◌, refl, sym, ap, subst, ◌∙◌, is_some}
use Rattle.jr_path.specs.declared.path.Path.{Path}
use Rattle.jr_path.specs.declared.path.Item.{Item}
use Rattle.jr_rev.specs.declared.revision.Revision.{Revision}
use Rattle.jr_rev.specs.Revisions.{is_same}
use Rattle.oak_clash.specs.declared.mark.Mark.{Mark}
use Rattle.oak_machine.specs.declared.event.Draw.{Draw}
use Rattle.oak_machine.specs.declared.event.Event.TheVariants as event
use Rattle.oak_machine.specs.Commits.{is_drawn, is_committed}
use Rattle.oak_commit.specs.Clashing.{noted, collision}
use Rattle.core_clash.specs.Core.{Core, Docs, root_of, IsDone, MayLast}
use Rattle.core_clash.specs.Sound.{Sound, Noticed, MarkStands, IsWhole, has_moved, marked_in}
use Rattle.core_clash.proofs.Basics.{same_revision, is_same_self, or_left, or_right, or_cases}
use Rattle.core_clash.proofs.Pasts.{cause_later, due_later}
use Rattle.core_clash.proofs.Effects.{Notes}
use Rattle.core_keep.specs.Journal.{is_swept}
use Rattle.std.specs.List.{list_any}

module _ (s : Core) (d : Draw) (number : ℕ) (docs : Docs) where
  abbrev r : Revision
  r = d.revision

  abbrev pub t : Core
  t = record { number = number; docs = docs; moved = s.moved; old = s.old; past = event.Commit r ∷ s.past; writers = s.writers }

  -- what holds of r and of the committed before holds of the committed
  of_committed : (P : Revision → Type 0) → P r → ((o : Revision) → is_committed s.past o ≡ true → P o) → (o : Revision) → is_committed t.past o ≡ true → P o
  of_committed P here there o h = by (or_cases (is_same o r) _ h)
    where
      by : (is_same o r ≡ true) ⊎ (is_committed s.past o ≡ true) → P o
      by (inl e) = subst P (sym (same_revision o r e)) here
      by (inr h) = there o h

  module _ (sound : Sound s) (may : MayLast s d) (notes : Notes s.docs docs (root_of s.past r) r) where
    drawn : is_drawn s.past r ≡ true
    drawn = rw may.going.draw refl

    ended : (o : Revision) → IsDone s o → IsDone t o
    ended o (inl c) = inl (or_right (is_same o r) _ c)
    ended o (inr u) = inr u

    only_committed : (o : Revision) → (s.old o ≡ true) ⊎ (is_committed s.past o ≡ true) → (s.old o ≡ true) ⊎ (is_committed t.past o ≡ true)
    only_committed o (inl e) = inl e
    only_committed o (inr c) = inr (or_right (is_same o r) _ c)

    same_marks : (q : Path) (o : Revision) (m : Mark) → marked_in (docs q) (s.moved q) o m ≡ marked_in (s.docs q) (s.moved q) o m
    same_marks q o m = ap (λ b. b || list_any (has_moved o m) (s.moved q)) (notes.marks q o m)

    noted_by : (q : Path) (o : Revision) → (noted (s.docs q) o ≡ true) ⊎ (o ≡ r) → (s.old o ≡ true) ⊎ (is_committed t.past o ≡ true)
    noted_by q o (inl h) = only_committed o (sound.only_committed q o h)
    noted_by q o (inr e) = inr (or_left (is_same o r) _ (rw e (is_same_self r)))

    same_collision : (q : Path) (o : Revision) → is_some (collision (docs q) o) ≡ is_some (collision (s.docs q) o)
    same_collision q o = ap (λ (x : Option (Revision × Item)). is_some x) (notes.collisions q o)

    noticed_later : (a b : Revision) → Noticed s a b → Noticed t a b
    noticed_later a b (inl seen) = inl seen
    noticed_later a b (inr (inl f)) = inr (inl f)
    noticed_later a b (inr (inr c)) = inr (inr (same_collision (root_of s.past b) b ∙ c))

    both_later : (a b : Revision) → Noticed s a b ⊎ Noticed s b a → Noticed t a b ⊎ Noticed t b a
    both_later a b (inl h) = inl (noticed_later a b h)
    both_later a b (inr h) = inr (noticed_later b a h)

    stood : (o : Revision) (q : Path) (m : Mark) → MarkStands t o q m → MarkStands s o q m
    stood o q m h = record { written = h.written; going = h.going; mark = h.mark }

    pub commit_keeps : Sound t
    commit_keeps = record {
      ordered = λ q. notes.ordered q (sound.ordered q);
      committed_drawn = of_committed (λ o. is_drawn s.past o ≡ true) drawn sound.committed_drawn;
      refused_drawn = sound.refused_drawn;
      ended_drawn = sound.ended_drawn;
      settled = sound.settled;
      start = sound.start;
      new = sound.new;
      bounds = record { settled = sound.bounds.settled; below = sound.bounds.below; swept = sound.bounds.swept };
      moved = λ o q m h. only_committed o (sound.moved o q m h);
      entries = λ o q m free h k. same_marks q o m ∙ sound.entries o q m free h k;
      origin = λ o q m h. sound.origin o q m (sym (same_marks q o m) ∙ h);
      edits = sound.edits;
      rooted = λ o q m fresh other h. notes.keeps_roots q o (root_of s.past o) (sound.rooted o q m fresh other (sym (same_marks q o m) ∙ h));
      unrooted = λ o q h. sound.unrooted o q (notes.only_roots q o h);
      once = sound.once;
      listed = sound.listed;
      stopped = sound.stopped;
      refusal = λ o item x h. cause_later _ s.past o item x refl refl (sound.refusal o item x h);
      covered = sound.covered;
      refused = sound.refused;
      ended = λ o h. ended o (sound.ended o h);
      due = λ o f h. due_later _ s.past o f refl refl (sound.due o f h);
      caused = λ q x o item h. cause_later _ s.past x item o refl refl (sound.caused q x o item (sym (notes.collisions q x) ∙ h));
      status = λ o fresh h. of_committed (λ o. is_swept s.past o ≡ false → noted (docs (root_of s.past o)) o ≡ true) (λ k. notes.adds) (λ o h k. notes.keeps (root_of s.past o) o (sound.status o k h)) o h fresh;
      only_committed = λ q o h. noted_by q o (notes.only q o h);
      whole = of_committed (λ o. IsWhole (s.writers o)) (record { left = may.none_left; due = may.unmet; going = may.going.going }) sound.whole;
      unmarked = of_committed (λ o. is_some (collision (docs (root_of s.past o)) o) ≡ false) (same_collision (root_of s.past r) r ∙ notes.free) (λ o h. same_collision (root_of s.past o) o ∙ sound.unmarked o h);
      noticed = λ a o q m n apart sa so c. both_later a o (sound.noticed a o q m n apart (stood a q m sa) (stood o q n so) c);
    }
