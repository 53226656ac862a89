-- Bounds, what collections drop, and what splits move keep what holds.
use Rattle.std.proofs.Common.{◌≡◌, ℕ, Bool, true, false, cond, ◌||◌, ◌&&◌, ◌⊎◌, inl, inr, Some, None, Option, List, [], ◌∷◌, filter, refl, sym, ap, subst, ◌∙◌, is_some}
use Rattle.std.specs.List.{list_all, list_any}
use Rattle.std.specs.Option.{option_or}
use mathlib.Core.Bool.{false≢true}
use Rattle.jr_path.specs.declared.name.Name.{Name}
use Rattle.jr_path.specs.declared.path.Path.{Path}
use Rattle.jr_path.specs.declared.path.Item.{Item}
use Rattle.jr_value.specs.declared.value.Property.{Property}
use Rattle.jr_rev.specs.declared.revision.Revision.{Revision}
use Rattle.jr_rev.specs.declared.vector.Pin.{Pin}
use Rattle.jr_rev.specs.declared.vector.RevVec.{RevVec}
use Rattle.jr_rev.specs.Vectors.{sees}
use Rattle.oak_clash.specs.declared.mark.Mark.{Mark}
use Rattle.oak_clash.specs.declared.mark.Mark.TheVariants.{Exists, Guard, Touch, Prop}
use Rattle.oak_doc.specs.declared.document.Document.{Document}
use Rattle.oak_doc.specs.declared.document.PrevEntry.{PrevEntry}
use Rattle.oak_doc.specs.declared.update.UpdateOp.{UpdateOp}
use Rattle.oak_doc.specs.Updates.{after_changes, of_revision, values_of_property}
use Rattle.oak_read.specs.Meaning.{Documents}
use Rattle.oak_machine.specs.declared.event.Event.TheVariants as event
use Rattle.oak_machine.specs.Commits.{is_committed, is_drawn, is_ended, is_in_base, is_in_flight}
use Rattle.oak_commit.specs.Clashing.{has, has_mark, noted, collision}
use Rattle.core_read.specs.Holds.{root_entry}
use Rattle.core_read.specs.Writes.{IsOrderedDocument}
use Rattle.core_keep.specs.Journal.{is_bounded, is_swept}
use Rattle.core_keep.specs.Dropping.{IsLeftAlone, IsSaidStill, IsDocumentWithin, IsWithout}
use Rattle.std.specs.Map.{keys_of}
use Rattle.core_keep.specs.Garbage.{is_absent, revisions_kept, is_garbage_previous}
use Rattle.core_keep.specs.Splits.{main_write, previous_write}
use Rattle.core_keep.specs.Steps.{IsParted}
use Rattle.core_keep.proofs.Splits.{split_parts, parted_counts}
use Rattle.core_keep.proofs.Unseen.{unseen_left, unswept_left, left_within, garbage_without, previous_seen}
use Rattle.core_clash.specs.Views.{In, AreOrdered}
use Rattle.core_clash.specs.Core.{Core, Docs, Moved, is_path, with_document, root_of, IsDone, after_event}
use Rattle.core_clash.specs.Sound.{Sound, Noticed, MarkStands, IsRooted, has_moved, marked_in}
use Rattle.core_clash.specs.Collecting.{MayBoundCore, MayPruneCore, MayRemoveCore, MaySplitCore, no_documents, with_moved}
use Rattle.core_clash.proofs.Basics.{and_true, not_both, or_left, or_right, or_cases, same_path, test}
use Rattle.core_clash.proofs.Pasts.{cause_later, due_later, marks_drawn}
use Rattle.core_clash.proofs.Updates.{root_moved}

neither : (a b : Bool) → a ≡ false → b ≡ false → (a || b) ≡ false
neither true b h k = absurd (false≢true (sym h))
neither false b h k = k

right : (a b : Bool) → (a || b) ≡ false → b ≡ false
right true b h = absurd (false≢true (sym h))
right false b h = h

-- what collections and splits do: of what no bound sees each mark and collision stays, in the document or in what moved from it; of what no bound has swept each status and commit root; and nothing comes
pub record Drops (a b : Docs) (am bm : Moved) (bound swept : Revision → Bool) : Type 0 where
  pub ordered : (q : Path) → AreOrdered q (a q) → AreOrdered q (b q)
  pub keeps : (q : Path) (o : Revision) (m : Mark) → bound o ≡ false → marked_in (a q) (am q) o m ≡ true → marked_in (b q) (bm q) o m ≡ true
  pub only : (q : Path) (o : Revision) (m : Mark) → marked_in (b q) (bm q) o m ≡ true → marked_in (a q) (am q) o m ≡ true
  pub keeps_notes : (q : Path) (o : Revision) → swept o ≡ false → noted (a q) o ≡ true → noted (b q) o ≡ true
  pub only_notes : (q : Path) (o : Revision) → noted (b q) o ≡ true → noted (a q) o ≡ true
  pub keeps_collisions : (q : Path) (o : Revision) → bound o ≡ false → collision (b q) o ≡ collision (a q) o
  pub only_collisions : (q : Path) (o : Revision) (e : Revision × Item) → collision (b q) o ≡ Some e → collision (a q) o ≡ Some e
  pub keeps_roots : (q : Path) (o : Revision) (m : Mark) (root : Path) → swept o ≡ false → marked_in (b q) (bm q) o m ≡ true → IsRooted (a q) o root → IsRooted (b q) o root
  pub only_roots : (q : Path) (o : Revision) → is_some (root_entry (b q) o) ≡ true → is_some (root_entry (a q) o) ≡ true

-- what there was from the beginning, and what a bound sees
abbrev may_go : Core → Revision → Bool
may_go s o = s.old o || is_bounded s.past o

module _ (s : Core) (number : ℕ) (docs : Docs) (moved : Moved) (sound : Sound s) (drops : Drops s.docs docs s.moved moved (may_go s) (is_swept s.past)) (done : (r : Revision) (p : Path) (m : Mark) → list_any (has_moved r m) (moved p) ≡ true → (s.old r ≡ true) ⊎ (is_committed s.past r ≡ true)) where
  abbrev dropped : Core
  dropped = record s { number = number; docs = docs; moved = moved }

  -- whom a bound sees has ended, so if it stands it is committed
  ended_done : (o : Revision) → is_drawn s.past o ≡ true → is_bounded s.past o ≡ true → (s.writers o).undoing ≡ false → is_committed s.past o ≡ true
  ended_done o drawn bounded going = by (test (is_ended s.past o))
    where
      its : IsDone s o → is_committed s.past o ≡ true
      its (inl c) = c
      its (inr u) = not_both (s.writers o).undoing u.0 going

      by : (is_ended s.past o ≡ true) ⊎ (is_ended s.past o ≡ false) → is_committed s.past o ≡ true
      by (inl h) = its (sound.ended o h)
      by (inr f) = not_both (is_bounded s.past o) bounded (sound.bounds.settled o (and_true (is_drawn s.past o) _ drawn (ap (λ b. Rattle.std.proofs.Common.not b) f)))

  stood : (o : Revision) (q : Path) (m : Mark) → MarkStands dropped o q m → MarkStands s o q m
  stood o q m h = record { written = h.written; going = h.going; mark = h.mark }

  noticed_later : (a b : Revision) (q : Path) (n : Mark) → MarkStands s b q n → Noticed s a b → Noticed dropped a b
  noticed_later a b q n so (inl seen) = inl seen
  noticed_later a b q n so (inr (inl f)) = inr (inl f)
  noticed_later a b q n so (inr (inr c)) = inr (inr (by (test (is_bounded s.past b))))
    where
      by : (is_bounded s.past b ≡ true) ⊎ (is_bounded s.past b ≡ false) → is_some (collision (docs (root_of s.past b)) b) ≡ true
      by (inl h) = not_both _ c (sound.unmarked b (ended_done b (marks_drawn s.past b _ so.mark) h so.going))
      by (inr f) = ap (λ (x : Option (Revision × Item)). is_some x) (drops.keeps_collisions (root_of s.past b) b (neither (s.old b) _ (sound.new b (marks_drawn s.past b _ so.mark)) f)) ∙ c

  less : {X : Type 0} (x y : Option X) → ((e : X) → x ≡ Some e → y ≡ Some e) → is_some y ≡ false → is_some x ≡ false
  less None y h n = refl
  less (Some e) y h n = not_both (is_some y) (ap (λ (z : Option _). is_some z) (h e refl)) n

  pub drop_keeps : Sound dropped
  drop_keeps = record {
    ordered = λ q. drops.ordered q (sound.ordered q);
    edits = sound.edits;
    committed_drawn = sound.committed_drawn;
    refused_drawn = sound.refused_drawn;
    ended_drawn = sound.ended_drawn;
    settled = sound.settled;
    start = sound.start;
    new = sound.new;
    bounds = sound.bounds;
    entries = λ o q m free h k. drops.keeps q o m (neither (s.old o) _ (sound.new o (marks_drawn s.past o _ k)) free) (sound.entries o q m free h k);
    origin = λ o q m h. sound.origin o q m (drops.only q o m h);
    moved = done;
    rooted = λ o q m fresh other h. drops.keeps_roots q o m (root_of s.past o) fresh h (sound.rooted o q m fresh other (drops.only q o m h));
    unrooted = λ o q h. sound.unrooted o q (drops.only_roots q o h);
    listed = sound.listed;
    once = sound.once;
    covered = sound.covered;
    refused = sound.refused;
    ended = sound.ended;
    stopped = sound.stopped;
    refusal = sound.refusal;
    due = sound.due;
    caused = λ q x o item h. sound.caused q x o item (drops.only_collisions q x (o, item) h);
    status = λ o fresh h. drops.keeps_notes (root_of s.past o) o fresh (sound.status o fresh h);
    only_committed = λ q o h. sound.only_committed q o (drops.only_notes q o h);
    whole = sound.whole;
    unmarked = λ o h. less _ _ (drops.only_collisions (root_of s.past o) o) (sound.unmarked o h);
    noticed = λ a o q m n apart sa so c. both a o q m n (stood a q m sa) (stood o q n so) (sound.noticed a o q m n apart (stood a q m sa) (stood o q n so) c);
  }
    where
      both : (a o : Revision) (q : Path) (m n : Mark) → MarkStands s a q m → MarkStands s o q n → Noticed s a o ⊎ Noticed s o a → Noticed dropped a o ⊎ Noticed dropped o a
      both a o q m n sa so (inl h) = inl (noticed_later a o q n so h)
      both a o q m n sa so (inr h) = inr (noticed_later o a q m sa h)

-- ---- a bound

pub bound_keeps : (s : Core) (m t : RevVec) → Sound s → MayBoundCore s.past m t → Sound (after_event s (event.Bound m t))
bound_keeps s m t sound may = record {
  ordered = sound.ordered;
  edits = sound.edits;
  committed_drawn = sound.committed_drawn;
  refused_drawn = sound.refused_drawn;
  ended_drawn = sound.ended_drawn;
  settled = sound.settled;
  start = sound.start;
  new = sound.new;
  bounds = record {
    settled = λ o h. neither (sees m o) _ (may.settled o h) (sound.bounds.settled o h);
    below = λ r o h k. below r o h (or_cases (sees m o) _ k);
    swept = λ o k. swept o (or_cases (sees t o) _ k);
  };
  entries = λ o q k free h l. sound.entries o q k (right (sees m o) _ free) h l;
  origin = sound.origin;
  moved = sound.moved;
  rooted = λ o q k fresh other h. sound.rooted o q k (right (sees t o) _ fresh) other h;
  unrooted = sound.unrooted;
  listed = sound.listed;
  once = sound.once;
  covered = sound.covered;
  refused = sound.refused;
  ended = sound.ended;
  stopped = sound.stopped;
  refusal = λ o item x h. cause_later _ s.past o item x refl refl (sound.refusal o item x h);
  due = λ o f h. due_later _ s.past o f refl refl (sound.due o f h);
  caused = λ p x o i h. cause_later _ s.past x i o refl refl (sound.caused p x o i h);
  status = λ o fresh h. sound.status o (right (sees t o) _ fresh) h;
  only_committed = sound.only_committed;
  whole = sound.whole;
  unmarked = sound.unmarked;
  noticed = λ a o p m n apart sa so c. sound.noticed a o p m n apart (record { written = sa.written; going = sa.going; mark = sa.mark }) (record { written = so.written; going = so.going; mark = so.mark }) c;
}
  where
    below : (r o : Revision) → is_in_flight s.past r ≡ true → (sees m o ≡ true) ⊎ (is_bounded s.past o ≡ true) → is_in_base s.past r o ≡ true
    below r o h (inl k) = may.below r o h k
    below r o h (inr k) = sound.bounds.below r o h k

    swept : (o : Revision) → (sees t o ≡ true) ⊎ (is_swept s.past o ≡ true) → (sees m o || is_bounded s.past o) ≡ true
    swept o (inl k) = or_left (sees m o) _ (may.swept o k)
    swept o (inr k) = or_right (sees m o) _ (sound.bounds.swept o k)

-- ---- one document is changed, and what moved from it

-- what holds of the changed place and of the others holds of each
at_place : (P : Path → Option Document → List Document → Type 0) (a : Docs) (am : Moved) (p : Path) (d : Option Document) (xs : List Document) (q : Path) → P p d xs → P q (a q) (am q) → P q (cond (is_path q p) d (a q)) (with_moved am p xs q)
at_place P a am p d xs q here there = by (is_path q p) refl
  where
    by : (b : Bool) → is_path q p ≡ b → P q (cond b d (a q)) (cond b xs (am q))
    by true t = subst (λ (x : Path). P x d xs) (sym (same_path q p t)) here
    by false f = there

-- what is changed at one place is dropped there
record DropsHere (p : Path) (old d : Option Document) (was xs : List Document) (bound swept : Revision → Bool) : Type 0 where
  ordered : AreOrdered p old → AreOrdered p d
  keeps : (o : Revision) (m : Mark) → bound o ≡ false → marked_in old was o m ≡ true → marked_in d xs o m ≡ true
  only : (o : Revision) (m : Mark) → marked_in d xs o m ≡ true → marked_in old was o m ≡ true
  keeps_notes : (o : Revision) → swept o ≡ false → noted old o ≡ true → noted d o ≡ true
  only_notes : (o : Revision) → noted d o ≡ true → noted old o ≡ true
  keeps_collisions : (o : Revision) → bound o ≡ false → collision d o ≡ collision old o
  only_collisions : (o : Revision) (e : Revision × Item) → collision d o ≡ Some e → collision old o ≡ Some e
  keeps_roots : (o : Revision) (m : Mark) (root : Path) → swept o ≡ false → marked_in d xs o m ≡ true → IsRooted old o root → IsRooted d o root
  only_roots : (o : Revision) → is_some (root_entry d o) ≡ true → is_some (root_entry old o) ≡ true

drops_at : (a : Docs) (am : Moved) (p : Path) (d : Option Document) (xs : List Document) (bound swept : Revision → Bool) → DropsHere p (a p) d (am p) xs bound swept → Drops a (λ q. cond (is_path q p) d (a q)) am (with_moved am p xs) bound swept
drops_at a am p d xs bound swept here = record {
  ordered = λ q. at_place (λ y doc ys. AreOrdered y (a y) → AreOrdered y doc) a am p d xs q here.ordered (λ h. h);
  keeps = λ q o m. at_place (λ y doc ys. bound o ≡ false → marked_in (a y) (am y) o m ≡ true → marked_in doc ys o m ≡ true) a am p d xs q (here.keeps o m) (λ f h. h);
  only = λ q o m. at_place (λ y doc ys. marked_in doc ys o m ≡ true → marked_in (a y) (am y) o m ≡ true) a am p d xs q (here.only o m) (λ h. h);
  keeps_notes = λ q o. at_place (λ y doc ys. swept o ≡ false → noted (a y) o ≡ true → noted doc o ≡ true) a am p d xs q (here.keeps_notes o) (λ f h. h);
  only_notes = λ q o. at_place (λ y doc ys. noted doc o ≡ true → noted (a y) o ≡ true) a am p d xs q (here.only_notes o) (λ h. h);
  keeps_collisions = λ q o. at_place (λ y doc ys. bound o ≡ false → collision doc o ≡ collision (a y) o) a am p d xs q (here.keeps_collisions o) (λ f. refl);
  only_collisions = λ q o e. at_place (λ y doc ys. collision doc o ≡ Some e → collision (a y) o ≡ Some e) a am p d xs q (here.only_collisions o e) (λ h. h);
  keeps_roots = λ q o m root. at_place (λ y doc ys. swept o ≡ false → marked_in doc ys o m ≡ true → IsRooted (a y) o root → IsRooted doc o root) a am p d xs q (here.keeps_roots o m root) (λ f h k. k);
  only_roots = λ q o. at_place (λ y doc ys. is_some (root_entry doc o) ≡ true → is_some (root_entry (a y) o) ≡ true) a am p d xs q (here.only_roots o) (λ h. h);
}

-- a list without some of its members
filtered : (f : Document → Bool) (keep : Document → Bool) (xs : List Document) → list_any f (filter keep xs) ≡ true → list_any f xs ≡ true
filtered f keep [] h = h
filtered f keep (x ∷ xs) h = by (λ k. filtered f keep xs k) (keep x) h
  where
    more : (list_any f (filter keep xs) ≡ true → list_any f xs ≡ true) → (f x ≡ true) ⊎ (list_any f (filter keep xs) ≡ true) → (f x || list_any f xs) ≡ true
    more rest (inl k) = or_left (f x) _ k
    more rest (inr k) = or_right (f x) _ (rest k)

    by : (list_any f (filter keep xs) ≡ true → list_any f xs ≡ true) → (b : Bool) → list_any f (cond b (x ∷ filter keep xs) (filter keep xs)) ≡ true → (f x || list_any f xs) ≡ true
    by rest true k = more rest (or_cases (f x) _ k)
    by rest false k = or_right (f x) _ (rest k)

kept_in : (f : Document → Bool) (keep : Document → Bool) (xs : List Document) → ((x : Document) → In x xs → keep x ≡ false → f x ≡ false) → list_any f xs ≡ true → list_any f (filter keep xs) ≡ true
kept_in f keep [] none h = h
kept_in f keep (x ∷ xs) none h = by (λ k. kept_in f keep xs (λ y i. none y (inr i)) k) (keep x) refl
  where
    stays : (list_any f xs ≡ true → list_any f (filter keep xs) ≡ true) → (f x ≡ true) ⊎ (list_any f xs ≡ true) → (f x || list_any f (filter keep xs)) ≡ true
    stays rest (inl k) = or_left (f x) _ k
    stays rest (inr k) = or_right (f x) _ (rest k)

    goes : (list_any f xs ≡ true → list_any f (filter keep xs) ≡ true) → keep x ≡ false → (f x ≡ true) ⊎ (list_any f xs ≡ true) → list_any f (filter keep xs) ≡ true
    goes rest e (inl k) = not_both (f x) k (none x (inl refl) e)
    goes rest e (inr k) = rest k

    by : (list_any f xs ≡ true → list_any f (filter keep xs) ≡ true) → (b : Bool) → keep x ≡ b → list_any f (cond b (x ∷ filter keep xs) (filter keep xs)) ≡ true
    by rest true e = stays rest (or_cases (f x) _ h)
    by rest false e = goes rest e (or_cases (f x) _ h)

some_from : {X Y : Type 0} (x : Option X) (y : Option Y) → ((is_some x ≡ true) → (is_some y ≡ true)) → is_some y ≡ false → is_some x ≡ false
some_from None y h n = refl
some_from (Some e) y h n = not_both (is_some y) (h refl) n

unseen : (a b : Bool) → (a ≡ true → b ≡ true) → b ≡ false → a ≡ false
unseen true b h f = not_both b (h refl) f
unseen false b h f = refl

-- ---- an update that drops garbage

module _ (s : Core) (m t : RevVec) (p : Path) (old : Document) (op : UpdateOp) (keep : Document → Bool) (sound : Sound s) (may : MayPruneCore s m t p old op keep) (number : ℕ) where
  abbrev pruned : Document
  pruned = after_changes (Some old) op number

  ordered_old : AreOrdered p (Some old)
  ordered_old = subst (λ (doc : Option Document). AreOrdered p doc) may.there (sound.ordered p)

  within : IsDocumentWithin old pruned
  within = left_within no_documents p m t may.bound.below old op number may.keys may.numbers ordered_old.1 may.garbage

  alone : (o : Revision) → is_bounded s.past o ≡ false → IsLeftAlone o old pruned
  alone o free = unseen_left no_documents p m t may.bound.below old op number may.keys may.numbers ordered_old.1 may.garbage o (unseen (sees m o) _ (may.bound.bounded o) free)

  still : (o : Revision) → is_swept s.past o ≡ false → IsSaidStill o old pruned
  still o fresh = unswept_left no_documents p m t may.bound.below old op number may.keys may.numbers ordered_old.1 may.garbage o (unseen (sees t o) _ (may.bound.swept o) fresh)

  mark_stays : (o : Revision) (k : Mark) → is_bounded s.past o ≡ false → has_mark pruned o k ≡ has_mark old o k
  mark_stays o Exists free = ap (λ (x : Option Bool). is_some x) (alone o free).deleted
  mark_stays o Guard free = ap (λ (x : Option (Unit {0})). is_some x) (alone o free).guard
  mark_stays o Touch free = ap (λ (x : Option (Unit {0})). is_some x) (alone o free).touched
  mark_stays o (Prop n) free = ap (λ (x : Option (Option Property)). is_some x) ((alone o free).props n)

  mark_was : (o : Revision) (k : Mark) → has_mark pruned o k ≡ true → has_mark old o k ≡ true
  mark_was o Exists h = within.deleted o h
  mark_was o Guard h = within.guard o h
  mark_was o Touch h = within.touched o h
  mark_was o (Prop n) h = within.props n o h

  moved_seen : (o : Revision) (k : Mark) (x : Document) → is_garbage_previous m t old x ≡ true → is_bounded s.past o ≡ false → has_moved o k x ≡ false
  moved_seen o (Prop n) x g free = unseen (has_moved o (Prop n) x) (is_bounded s.past o) (λ h. may.bound.bounded o (previous_seen m t old x g n o h)) free
  moved_seen o Exists x g free = refl
  moved_seen o Guard x g free = refl
  moved_seen o Touch x g free = refl

  here : DropsHere p (Some old) (Some pruned) (s.moved p) (filter keep (s.moved p)) (may_go s) (is_swept s.past)
  here = record {
    ordered = λ h. (within.named ∙ h.0, record { names = within.names });
    keeps = λ o k free h. keeps o k (right (s.old o) _ free) (or_cases (has_mark old o k) _ h);
    only = λ o k h. only o k (or_cases (has_mark pruned o k) _ h);
    keeps_notes = λ o fresh h. ap (λ (x : Option (Unit {0})). is_some x) (still o fresh).revisions ∙ h;
    only_notes = λ o h. within.revisions o h;
    keeps_collisions = λ o free. (alone o (right (s.old o) _ free)).collisions;
    only_collisions = λ o e h. within.collisions o e h;
    keeps_roots = λ o k root fresh h is. ap (λ x. Some x) (root_moved old pruned o within.named (still o fresh).roots) ∙ is;
    only_roots = λ o h. within.roots o h;
  }
    where
      keeps : (o : Revision) (k : Mark) → is_bounded s.past o ≡ false → (has_mark old o k ≡ true) ⊎ (list_any (has_moved o k) (s.moved p) ≡ true) → marked_in (Some pruned) (filter keep (s.moved p)) o k ≡ true
      keeps o k free (inl h) = or_left (has_mark pruned o k) _ (mark_stays o k free ∙ h)
      keeps o k free (inr h) = or_right (has_mark pruned o k) _ (kept_in (has_moved o k) keep (s.moved p) (λ x i e. moved_seen o k x (may.moved x i e) free) h)

      only : (o : Revision) (k : Mark) → (has_mark pruned o k ≡ true) ⊎ (list_any (has_moved o k) (filter keep (s.moved p)) ≡ true) → marked_in (Some old) (s.moved p) o k ≡ true
      only o k (inl h) = or_left (has_mark old o k) _ (mark_was o k h)
      only o k (inr h) = or_right (has_mark old o k) _ (filtered (has_moved o k) keep (s.moved p) h)

  done : (r : Revision) (q : Path) (k : Mark) → list_any (has_moved r k) (with_moved s.moved p (filter keep (s.moved p)) q) ≡ true → (s.old r ≡ true) ⊎ (is_committed s.past r ≡ true)
  done r q k = at_place (λ y doc ys. list_any (has_moved r k) ys ≡ true → (s.old r ≡ true) ⊎ (is_committed s.past r ≡ true)) s.docs s.moved p None (filter keep (s.moved p)) q (λ h. sound.moved r p k (filtered (has_moved r k) keep (s.moved p) h)) (λ h. sound.moved r q k h)

  pub prune_drops : Sound (record s { number = number; docs = with_document s.docs p pruned; moved = with_moved s.moved p (filter keep (s.moved p)) })
  prune_drops = drop_keeps s number _ _ sound (drops_at s.docs s.moved p (Some pruned) (filter keep (s.moved p)) _ _ (subst (λ (doc : Option Document). DropsHere p doc (Some pruned) (s.moved p) (filter keep (s.moved p)) (may_go s) (is_swept s.past)) (sym may.there) here)) done

-- ---- a document that goes

module _ (s : Core) (m t : RevVec) (p : Path) (old : Document) (sound : Sound s) (may : MayRemoveCore s m t p old) (number : ℕ) where
  without : (o : Revision) → is_bounded s.past o ≡ false → IsWithout o old
  without o free = garbage_without m t old may.garbage o (unseen (sees m o) _ (may.bound.bounded o) free)

  no_mark : (o : Revision) (k : Mark) → is_bounded s.past o ≡ false → has_mark old o k ≡ false
  no_mark o Exists free = ap (λ (x : Option Bool). is_some x) (without o free).deleted
  no_mark o Guard free = ap (λ (x : Option (Unit {0})). is_some x) (without o free).guard
  no_mark o Touch free = ap (λ (x : Option (Unit {0})). is_some x) (without o free).touched
  no_mark o (Prop n) free = ap (λ (x : Option (Option Property)). is_some x) ((without o free).props n)

  unsaid : (o : Revision) → is_swept s.past o ≡ false → has old.revisions o ≡ false
  unsaid o fresh = unseen (has old.revisions o) (is_swept s.past o) (λ h. may.bound.swept o (said_swept o h)) fresh
    where
      said_swept : (o : Revision) → has old.revisions o ≡ true → sees t o ≡ true
      said_swept o h = Rattle.core_keep.proofs.Garbage.all_of (sees t) (keys_of old.revisions) (Rattle.core_keep.proofs.Item.and_both (is_absent m t old && list_all (sees m) (revisions_kept old)) (list_all (sees t) (keys_of old.revisions)) may.garbage).1 o (Rattle.core_keep.proofs.Garbage.key_in old.revisions o h)

  gone : DropsHere p (Some old) None (s.moved p) [] (may_go s) (is_swept s.past)
  gone = record {
    ordered = λ h. tt;
    keeps = λ o k free h. keeps o k free (or_cases (has_mark old o k) _ h);
    only = λ o k h. absurd (false≢true h);
    keeps_notes = λ o fresh h. not_both (has old.revisions o) h (unsaid o fresh);
    only_notes = λ o h. absurd (false≢true h);
    keeps_collisions = λ o free. sym (without o (right (s.old o) _ free)).collisions;
    only_collisions = λ o e h. absurd (false≢true (ap (λ (x : Option (Revision × Item)). is_some x) h));
    keeps_roots = λ o k root fresh h is. absurd (false≢true h);
    only_roots = λ o h. absurd (false≢true h);
  }
    where
      keeps : (o : Revision) (k : Mark) → may_go s o ≡ false → (has_mark old o k ≡ true) ⊎ (list_any (has_moved o k) (s.moved p) ≡ true) → marked_in None [] o k ≡ true
      keeps o k free (inl h) = not_both (has_mark old o k) h (no_mark o k (right (s.old o) _ free))
      keeps o k free (inr h) = not_both (may_go s o) (may.moved o k h) free

  none_left : (r : Revision) (q : Path) (k : Mark) → list_any (has_moved r k) (with_moved s.moved p [] q) ≡ true → (s.old r ≡ true) ⊎ (is_committed s.past r ≡ true)
  none_left r q k = at_place (λ y doc ys. list_any (has_moved r k) ys ≡ true → (s.old r ≡ true) ⊎ (is_committed s.past r ≡ true)) s.docs s.moved p None [] q (λ h. absurd (false≢true h)) (λ h. sound.moved r q k h)

  pub remove_drops : Sound (record s { number = number; docs = λ q. cond (is_path q p) None (s.docs q); moved = with_moved s.moved p [] })
  remove_drops = drop_keeps s number _ _ sound (drops_at s.docs s.moved p None [] _ _ (subst (λ (doc : Option Document). DropsHere p doc None (s.moved p) [] (may_go s) (is_swept s.past)) (sym may.there) gone)) none_left

-- ---- what a split moves

module _ (s : Core) (read : Documents) (pin : Pin) (p : Path) (old : Document) (entry : PrevEntry) (first number : ℕ) (sound : Sound s) (may : MaySplitCore s read pin p old) where
  abbrev left : Document
  left = after_changes (Some old) (main_write read pin old entry) number

  abbrev fresh : Document
  fresh = after_changes None (previous_write read pin old) first

  parts : IsParted old left fresh
  parts = split_parts read pin old entry first number may.order

  or_some : {X : Type 0} (a b : Option X) → is_some (option_or a b) ≡ (is_some a || is_some b)
  or_some None b = refl
  or_some (Some a) b = refl

  join : (n : Name) (o : Revision) → (has (values_of_property left.props n) o || has (values_of_property fresh.props n) o) ≡ has (values_of_property old.props n) o
  join n o = sym (or_some (of_revision (values_of_property left.props n) o) _) ∙ ap (λ (x : Option (Option Property)). is_some x) (parts.props n o)

  sorted : IsOrderedDocument left
  sorted = record { names = left_sorted }
    where
      left_sorted : Rattle.std.specs.FinMap.is_sorted Rattle.jr_path.specs.Names.name_cmp left.props ≡ true
      left_sorted = Rattle.core_keep.proofs.Splits.split_sorted read pin old entry first number may.order

  other : (b : Bool) → (b || false) ≡ b
  other true = refl
  other false = refl

  same_mark : (o : Revision) (k : Mark) → (has_mark left o k || has_moved o k fresh) ≡ has_mark old o k
  same_mark o Exists = other _ ∙ ap (λ es. has es o) parts.deleted
  same_mark o Guard = other _ ∙ ap (λ es. has es o) parts.guard
  same_mark o Touch = other _ ∙ ap (λ es. has es o) parts.touched
  same_mark o (Prop n) = join n o

  or_all : (a b c : Bool) → (a || (b || c)) ≡ ((a || b) || c)
  or_all true b c = refl
  or_all false b c = refl

  same_marks : (o : Revision) (k : Mark) → marked_in (Some left) (fresh ∷ s.moved p) o k ≡ marked_in (Some old) (s.moved p) o k
  same_marks o k = or_all (has_mark left o k) (has_moved o k fresh) _ ∙ ap (λ b. b || list_any (has_moved o k) (s.moved p)) (same_mark o k)

  moves : DropsHere p (Some old) (Some left) (s.moved p) (fresh ∷ s.moved p) (may_go s) (is_swept s.past)
  moves = record {
    ordered = λ h. (parts.named ∙ h.0, sorted);
    keeps = λ o k free h. same_marks o k ∙ h;
    only = λ o k h. sym (same_marks o k) ∙ h;
    keeps_notes = λ o f h. ap (λ es. has es o) parts.revisions ∙ h;
    only_notes = λ o h. ap (λ es. has es o) (sym parts.revisions) ∙ h;
    keeps_collisions = λ o free. ap (λ es. of_revision es o) parts.collisions;
    only_collisions = λ o e h. ap (λ es. of_revision es o) (sym parts.collisions) ∙ h;
    keeps_roots = λ o k root f h is. ap (λ x. Some x) (root_moved old left o parts.named (ap (λ (es : List (Revision × ℕ)). of_revision es o) parts.roots)) ∙ is;
    only_roots = λ o h. ap (λ (es : List (Revision × ℕ)). has es o) (sym parts.roots) ∙ h;
  }

  moved_done : (r : Revision) (k : Mark) → has_moved r k fresh ≡ true → (s.old r ≡ true) ⊎ (is_committed s.past r ≡ true)
  moved_done r (Prop n) h = let c = parted_counts read pin old entry first number may.order n r h in may.counted n r c.0 c.1
  moved_done r Exists h = absurd (false≢true h)
  moved_done r Guard h = absurd (false≢true h)
  moved_done r Touch h = absurd (false≢true h)

  all_done : (r : Revision) (q : Path) (k : Mark) → list_any (has_moved r k) (with_moved s.moved p (fresh ∷ s.moved p) q) ≡ true → (s.old r ≡ true) ⊎ (is_committed s.past r ≡ true)
  all_done r q k = at_place (λ y doc ys. list_any (has_moved r k) ys ≡ true → (s.old r ≡ true) ⊎ (is_committed s.past r ≡ true)) s.docs s.moved p None (fresh ∷ s.moved p) q (λ h. by (or_cases (has_moved r k fresh) _ h)) (λ h. sound.moved r q k h)
    where
      by : (has_moved r k fresh ≡ true) ⊎ (list_any (has_moved r k) (s.moved p) ≡ true) → (s.old r ≡ true) ⊎ (is_committed s.past r ≡ true)
      by (inl h) = moved_done r k h
      by (inr h) = sound.moved r p k h

  pub split_drops : Sound (record s { number = number; docs = with_document s.docs p left; moved = with_moved s.moved p (fresh ∷ s.moved p) })
  split_drops = drop_keeps s number _ _ sound (drops_at s.docs s.moved p (Some left) (fresh ∷ s.moved p) _ _ (subst (λ (doc : Option Document). DropsHere p doc (Some left) (s.moved p) (fresh ∷ s.moved p) (may_go s) (is_swept s.past)) (sym may.there) moves)) all_done
