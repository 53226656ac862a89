-- From the start a commit can be made whole: each step's premises can be met.
use Rattle.std.proofs.Common.{◌≡◌, inl, inr, ℕ, zero, suc, true, Option, Some, None, [], ◌∷◌, is_some, refl, ap, subst, sym, arith}
use Rattle.std.specs.Prelude.{slice_get}
use Rattle.std.specs.Option.{unwrap_or}
use mathlib.Core.Bool.{false≢true}
use Rattle.jr_rev.specs.declared.vector.RevVec.{RevVec}
use Rattle.jr_tree.specs.Edits.{IsProper}
use Rattle.oak_machine.specs.Commits.{tree_at}
use Rattle.oak_machine.specs.Laws.{AreOfWrites, HasBase, Starts, StartsProper}
use Rattle.oak_machine.specs.Runs.{AreNodes, IsNode, any_said}
use Rattle.core_clash.specs.Sessions.{Running}
use Rattle.core_world.specs.Kept.{AreSessionsKept}
use Rattle.core_world.specs.States.{State}
use Rattle.core_world.specs.Steps.{after_leave, after_refresh}
use Rattle.core_world.proofs.Begun.{start_kept}
use Rattle.core_world.proofs.Commits.{last_keeps, mark_keeps, undo_keeps, write_keeps}
use Rattle.core_world.proofs.Draws.{draw_keeps, finish_keeps}
use Rattle.core_world.proofs.Lives.{leave_keeps, login_keeps, refresh_keeps}
use Rattle.core_world.proofs.Rows.{begins, drawn, edit, first_done, marks, next, next_ends, second_done, wrote}

-- the law that lets each proper edit with its marks start
abbrev proper_starts : Starts
proper_starts h s e ms = (v : RevVec) → HasBase h s v → IsProper (tree_at h.begin h.past v) e.writes × AreOfWrites (tree_at h.begin h.past v) e ms

proper : StartsProper proper_starts
proper h s e ms v base starts = starts v base

two_nodes : AreNodes 2 (1 ∷ 2 ∷ [])
two_nodes = record { eight = omega arith; some = omega arith; node = each }
  where
    each : (s k : ℕ) → slice_get (1 ∷ 2 ∷ []) s ≡ Some k → IsNode 2 k
    each zero k h = let e : 1 ≡ k = ap (λ o. unwrap_or o 1) h in (omega arith, omega arith)
    each (suc zero) k h = let e : 2 ≡ k = ap (λ o. unwrap_or o 2) h in (omega arith, omega arith)
    each (suc (suc s)) k h = absurd (false≢true (ap is_some h))

-- nothing is committed yet, so each base sees the initial tree
lawful_first : (v : RevVec) → IsProper (tree_at None begins.past v) (edit 1).writes × AreOfWrites (tree_at None begins.past v) (edit 1) marks
lawful_first v = (record { tree = record { paths = refl; names = refl; root = refl; parents = refl }; once = refl; changing = refl; emptied = refl }, refl)

lawful_second : (v : RevVec) → IsProper (tree_at None begins.past v) (edit 2).writes × AreOfWrites (tree_at None begins.past v) (edit 2) marks
lawful_second v = (record { tree = record { paths = refl; names = refl; root = refl; parents = refl }; once = refl; changing = refl; emptied = refl }, refl)

some_running : (o : Option Running) → is_some o ≡ true → (x : Running) × (o ≡ Some x)
some_running None h = absurd (false≢true h)
some_running (Some x) h = (x, refl)

abbrev Kept : State → Type 0
Kept w = AreSessionsKept proper_starts any_said w

both_in : Kept begins
both_in = login_keeps proper_starts any_said proper _ (login_keeps proper_starts any_said proper _ (start_kept proper_starts any_said 2 (1 ∷ 2 ∷ []) two_nodes) 0 refl refl refl) 1 refl refl refl

both_drawn : Kept drawn
both_drawn = draw_keeps proper_starts any_said proper _ (draw_keeps proper_starts any_said proper begins both_in 0 refl refl refl refl refl refl (edit 1) marks (λ v base. lawful_first v) (λ o h. absurd (false≢true h))) 1 refl refl refl refl refl refl (edit 2) marks (λ v base. lawful_second v) (λ o h. absurd (false≢true h))

both_wrote : Kept wrote
both_wrote = write_keeps proper_starts any_said proper _ (write_keeps proper_starts any_said proper drawn both_drawn 1 _ refl refl refl [] [] refl refl) 0 _ refl refl refl [] [] refl refl

first_marked : Kept (next wrote 0)
first_marked = mark_keeps proper_starts any_said proper wrote both_wrote 0 _ refl refl refl _ [] refl

first_committed : Kept (next (next wrote 0) 0)
first_committed = last_keeps proper_starts any_said proper (next wrote 0) first_marked 0 _ refl refl refl refl refl

first_kept : Kept first_done
first_kept = finish_keeps proper_starts any_said proper (next (next wrote 0) 0) first_committed 0 _ refl (inl refl)

second_refused : Kept (next first_done 1)
second_refused = last_keeps proper_starts any_said proper first_done first_kept 1 _ refl refl refl refl refl

second_undone : Kept (next (next first_done 1) 1)
second_undone = undo_keeps proper_starts any_said proper (next first_done 1) second_refused 1 _ refl [] [] refl refl refl

second_kept : Kept second_done
unfolding some_running
second_kept =
    let x = some_running ((next (next first_done 1) 1).running 1) refl in
    subst (λ (w : State). AreSessionsKept proper_starts any_said w) (sym (next_ends (next (next first_done 1) 1) 1 x.0 x.1 refl refl)) (finish_keeps proper_starts any_said proper (next (next first_done 1) 1) second_undone 1 x.0 x.1 (inr (refl, refl)))

-- the first moves on to the head, and leaves
first_left : Kept (after_leave (after_refresh second_done 0) 0)
first_left = leave_keeps proper_starts any_said proper _ (refresh_keeps proper_starts any_said proper second_done second_kept 0 refl refl refl refl refl refl) 0 refl refl refl refl refl refl refl
