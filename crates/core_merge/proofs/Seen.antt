-- What a reader sees at an item is what the last commit that it sees and that writes the item left there.
use Rattle.std.proofs.Common.{◌≡◌, ◌⊎◌, inl, inr, Bool, true, false, cond, Some, None, Option, List, refl, sym, ap, ◌∙◌, subst, is_some}
use Rattle.std.specs.Option.{option_and_then, unwrap_or}
use mathlib.Core.Bool.{false≢true}
use Rattle.jr_path.specs.declared.path.Path.{Path}
use Rattle.jr_rev.specs.declared.revision.Revision.{Revision}
use Rattle.jr_rev.specs.Revisions.{is_at_most}
use Rattle.jr_tree.specs.declared.edit.Write.{Write}
use Rattle.jr_tree.specs.Trees.{IsTree, node_at}
use Rattle.oak_doc.specs.Updates.{of_revision}
use Rattle.oak_machine.specs.declared.event.Start.{Start}
use Rattle.oak_machine.specs.History.{Past}
use Rattle.jr_tree.specs.Items.{here_of, written}
use Rattle.core_read.specs.Commits.{Sight, last, last_entry}
use Rattle.core_read.proofs.Latest.{IsLast, IsLastEntry, only, writing, last_entry_last, last_last, last_moved, moved}
use Rattle.core_keep.specs.From.{falling_from, tree_from}
use Rattle.core_begun.specs.Told.{edit_since, IsClosedSince, IsToldSince}
use Rattle.core_begun.proofs.Course.{tells_since}
use Rattle.core_begun.proofs.Sound.{falls, found}
use Rattle.core_merge.specs.Independent.{writes_node}

-- the edit of a revision that is seen
abbrev pub edit_seen : Past → Sight → Revision → Option (List Write)
edit_seen past s r = cond (s r) (edit_since past r) None

-- what that edit writes
abbrev pub write_seen : {X : Type 0} → (Write → Option X) → Past → Sight → Revision → Option X
write_seen f past s r = option_and_then (written f) (edit_seen past s r)

seen_writes : {X : Type 0} (f : Write → Option X) (past : Past) (s : Sight) (r : Revision) → write_seen f past s r ≡ writing f s (of_revision (falling_from past) r) r
seen_writes f past s r = by (s r)
  where
    by : (b : Bool) → option_and_then (written f) (cond b (edit_since past r) None) ≡ cond b (option_and_then (written f) (of_revision (falling_from past) r)) None
    by false = refl
    by true = ap (option_and_then (written f)) (sym (found past r))

pub last_seen : {X : Type 0} (f : Write → Option X) (past : Past) (s : Sight) → IsLast (write_seen f past s) (last f s (falling_from past))
last_seen f past s = last_moved (λ r. writing f s (of_revision (falling_from past) r) r) (write_seen f past s) (seen_writes f past s) _ (last_last f s (falling_from past) (falls past))

-- the same, with the revision of that commit
pub last_entry_seen : {X : Type 0} (f : Write → Option X) (past : Past) (s : Sight) → IsLastEntry (write_seen f past s) (last_entry f s (falling_from past))
last_entry_seen f past s = moved (λ r. writing f s (of_revision (falling_from past) r) r) (write_seen f past s) (seen_writes f past s) _ (last_entry_last f s (falling_from past) (falls past))

pub to_seen : (past : Past) (s : Sight) (r : Revision) (ws : List Write) → edit_since past r ≡ Some ws → s r ≡ true → edit_seen past s r ≡ Some ws
to_seen past s r ws e h = ap (λ b. cond b (edit_since past r) None) h ∙ e

-- what is written is by an edit that is seen
pub from_seen : {X : Type 0} (f : Write → Option X) (past : Past) (s : Sight) (r : Revision) (o : Option X) → write_seen f past s r ≡ o → (G : Option X → Type 0) → G None
    → ((ws : List Write) → edit_since past r ≡ Some ws → s r ≡ true → G (written f ws)) → G o
from_seen f past s r o h G none some = by (s r) refl (edit_since past r) refl h
  where
    by : (b : Bool) → s r ≡ b → (e : Option (List Write)) → edit_since past r ≡ e → option_and_then (written f) (cond b e None) ≡ o → G o
    by false k e l m = subst G m none
    by true k None l m = subst G m none
    by true k (Some ws) l m = subst G m (some ws l k)

-- the last commit that is seen and adds or removes the node at p: it leaves the node there, or not
pub record IsLastWriter (past : Past) (s : Sight) (p : Path) (left : Bool) : Type 0 where
  pub revision : Revision
  pub writes : List Write
  pub is : edit_since past revision ≡ Some writes
  pub seen : s revision ≡ true
  pub wrote : written (here_of p) writes ≡ Some left
  pub last : (q : Revision) (us : List Write) → edit_since past q ≡ Some us → s q ≡ true → writes_node p us ≡ true → is_at_most q revision ≡ true

-- no commit that is seen adds or removes the node at p
abbrev pub IsUnwritten : Past → Sight → Path → Type 0
IsUnwritten past s p = (q : Revision) (us : List Write) → edit_since past q ≡ Some us → s q ≡ true → writes_node p us ≡ false

module _ (start : Start) where
  -- whether the node at p is seen
  abbrev pub there : Past → Sight → Path → Bool
  there past s p = is_some (node_at (tree_from start.tree s (falling_from past)) p)

module _ (past : Past) (s : Sight) (p : Path) where
  written_at : (r : Revision) (ws : List Write) → edit_since past r ≡ Some ws → s r ≡ true → write_seen (here_of p) past s r ≡ written (here_of p) ws
  written_at r ws e h = ap (option_and_then (written (here_of p))) (to_seen past s r ws e h)

  pub to_last : (left : Bool) → IsLast (write_seen (here_of p) past s) (Some left) → IsLastWriter past s p left
  to_last left l = by (s l.0) refl (edit_since past l.0) refl l.1
    where
      by : (b : Bool) → s l.0 ≡ b → (o : Option (List Write)) → edit_since past l.0 ≡ o → option_and_then (written (here_of p)) (cond b o None) ≡ Some left → IsLastWriter past s p left
      by false h o e k = absurd (false≢true (ap is_some k))
      by true h None e k = absurd (false≢true (ap is_some k))
      by true h (Some ws) e k = record { revision = l.0; writes = ws; is = e; seen = h; wrote = k; last = λ q us f g m. l.2 q (ap is_some (written_at q us f g) ∙ m) }

  unwritten : IsLast (write_seen (here_of p) past s) None → IsUnwritten past s p
  unwritten l q us e h = sym (ap is_some (written_at q us e h)) ∙ ap is_some (l q)

  from_last : (left : Bool) → IsLastWriter past s p left → last (here_of p) s (falling_from past) ≡ Some left
  from_last left w = only (write_seen (here_of p) past s) (write_seen (here_of p) past s) (λ r. refl) _ (Some left) (last_seen (here_of p) past s)
      (w.revision, written_at w.revision w.writes w.is w.seen ∙ w.wrote, λ q h. from_seen (here_of p) past s q _ refl (λ o. is_some o ≡ true → is_at_most q w.revision ≡ true) (λ k. absurd (false≢true k)) (λ us e k m. w.last q us e k m) h)

  from_unwritten : IsUnwritten past s p → last (here_of p) s (falling_from past) ≡ None
  from_unwritten none = by (last (here_of p) s (falling_from past)) (last_seen (here_of p) past s)
    where
      by : (o : Option Bool) → IsLast (write_seen (here_of p) past s) o → o ≡ None
      by None l = refl
      by (Some left) l = let w = to_last left l in absurd (false≢true (sym (none w.revision w.writes w.is w.seen) ∙ ap is_some w.wrote))

  module _ (start : Start) (tree : IsTree start.tree) (told : IsToldSince start past) (closed : IsClosedSince past s) where
    pub there_is : there start past s p ≡ unwrap_or (last (here_of p) s (falling_from past)) (is_some (node_at start.tree p))
    there_is = (tells_since start past tree told s closed).node p

    pub last_there : (left : Bool) → IsLastWriter past s p left → there start past s p ≡ left
    last_there left w = there_is ∙ ap (λ o. unwrap_or o (is_some (node_at start.tree p))) (from_last left w)

    pub still_there : IsUnwritten past s p → there start past s p ≡ is_some (node_at start.tree p)
    still_there none = there_is ∙ ap (λ o. unwrap_or o (is_some (node_at start.tree p))) (from_unwritten none)

    -- a node is as its last commit left it, or as at the start, where none is seen that adds or removes it
    pub left_last : (left : Bool) → there start past s p ≡ left → IsLastWriter past s p left ⊎ IsUnwritten past s p
    left_last left h = by (last (here_of p) s (falling_from past)) (last_seen (here_of p) past s) (sym there_is ∙ h)
      where
        by : (o : Option Bool) → IsLast (write_seen (here_of p) past s) o → unwrap_or o (is_some (node_at start.tree p)) ≡ left → IsLastWriter past s p left ⊎ IsUnwritten past s p
        by None l k = inr (unwritten l)
        by (Some b) l k = inl (to_last left (subst (λ (x : Bool). IsLast (write_seen (here_of p) past s) (Some x)) k l))
