-- The places that a commit needs, from step to step.
use Rattle.std.proofs.Common.{◌≡◌, ◌≤◌, ◌+◌, ◌*◌, ℕ, List, [], ◌∷◌, ◌++◌, length, drop, Option, Some, None, ◌⊎◌, inl, inr, true, refl, sym, ap, subst, ◌∙◌, arith, length-append}
use Rattle.jr_path.specs.declared.path.DocId.{DocId}
use Rattle.jr_path.specs.declared.path.Path.{Path}
use Rattle.jr_rev.specs.declared.revision.Revision.{Revision}
use Rattle.jr_path.specs.Ids.{names_of}
use Rattle.oak_commit.specs.Clashing.{Writer}
use Rattle.oak_commit.specs.Looking.{with_found}
use Rattle.oak_commit.specs.Committing.{Committing, looking_on, wanting, with_undone, written, wrote}
use Rattle.oak_read.specs.Wanted.{listed}
use Rattle.oak_commit.specs.Kept.{undoes}
use Rattle.oak_commit.specs.Stages.{stage_of}
use Rattle.oak_commit.specs.declared.outcome.CommitEnd.{CommitEnd}
use Rattle.oak_commit.specs.declared.outcome.CommitEnd.TheVariants as end
use Rattle.oak_commit.specs.declared.stage.Stage.TheVariants as stage
use Rattle.oak_doc.specs.declared.document.Document.{Document}
use Rattle.oak_machine.specs.declared.event.Event.{Event}
use Rattle.oak_store.specs.Tables.{Table, found}
use Rattle.oak_saves.specs.Saves.{fed_previous, fed_made, IsLast, IsMarked, IsDocumentUndone, IsWritten, mark_made, needed_by, needed_for, op_due, saving}
use Rattle.oak_saves.proofs.Feeding.{blocked_last, blocked_mark, fed_last, fed_look, fed_mark, found_on, look_found, fed_undo, fed_write}
use Rattle.oak_saves.proofs.Stages.{IsLastStage, IsLookStage, IsMarkStage, IsUndoStage, IsWriteStage, last_stage, look_stage, mark_stage, undo_stage, write_stage}

-- before the commit point
going_needs : (c : Committing) → c.outcome ≡ None → needed_by c ≡ 2 * length c.writer.left + length c.writer.written + 4
going_needs c going = ap (needed_for c.writer) going

pub want_needs : (c : Committing) → c.outcome ≡ None → needed_by (wanting c) ≤ needed_by c
want_needs c going = let n = going_needs c going in omega (arith, n)

settled_by : (w : Writer) (e : CommitEnd) → 2 ≤ needed_for w (Some e)
settled_by w (end.Committed r) = omega arith
settled_by w (end.Clash item o) = omega arith
settled_by w end.Memory = omega arith

-- behind it: its end and the head
pub settled_needs : (c : Committing) (e : CommitEnd) → c.outcome ≡ Some e → 2 ≤ needed_by c
settled_needs c e is = subst (λ (o : Option CommitEnd). 2 ≤ needed_for c.writer o) (sym is) (settled_by c.writer e)

-- committed: the move of the base too
pub committed_needs : (c : Committing) (r : Revision) → c.outcome ≡ Some (end.Committed r) → needed_by c ≡ 3
committed_needs c r is = ap (needed_for c.writer) is

-- a look takes no place
looks_need : (b : Committing) (p : Path) (d : Document) (ids : List DocId) (o : Option CommitEnd) → needed_for (looking_on b p d ids).writer o ≡ needed_for b.writer o
looks_need b p d [] None = refl
looks_need b p d [] (Some (end.Committed r)) = refl
looks_need b p d [] (Some (end.Clash item r)) = refl
looks_need b p d [] (Some end.Memory) = refl
looks_need b p d (i ∷ is) o = refl

look_outcome : (b : Committing) (p : Path) (d : Document) (ids : List DocId) → (looking_on b p d ids).outcome ≡ b.outcome
look_outcome b p d [] = refl
look_outcome b p d (i ∷ is) = refl

look_count : (b : Committing) (p : Path) (d : Document) (ids : List DocId) → length (looking_on b p d ids).writer.written ≡ length b.writer.written
look_count b p d [] = refl
look_count b p d (i ∷ is) = refl

-- a look takes no place, whether or not memory is refused for what is found
pub look_needs : (t : Table) (c d : Committing) → stage_of c ≡ stage.Look → (d ≡ fed_previous t c) ⊎ (d ≡ wanting (fed_previous t c)) → needed_by d ≤ needed_by c
look_needs t c d h m = by (look_stage c h) m
  where
    kept : (at : IsLookStage c) → needed_by (found_on t c at.looking) ≡ needed_by c
    kept at = ap (needed_for (found_on t c at.looking).writer) (look_outcome c (names_of at.looking.first) (with_found at.looking.document (look_found t at.looking.first)) at.looking.rest) ∙ looks_need c (names_of at.looking.first) (with_found at.looking.document (look_found t at.looking.first)) at.looking.rest c.outcome

    by : IsLookStage c → (d ≡ fed_previous t c) ⊎ (d ≡ wanting (fed_previous t c)) → needed_by d ≤ needed_by c
    by at (inl e) =
        let k : needed_by d ≡ needed_by c = ap needed_by (e ∙ fed_look c at.going at.looking at.looked t) ∙ kept at in
        omega (arith, k)
    by at (inr e) =
        let k : needed_by d ≡ length c.writer.written + 2 = ap needed_by (e ∙ ap wanting (fed_look c at.going at.looking at.looked t)) ∙ ap (λ (n : ℕ). n + 2) (look_count c (names_of at.looking.first) (with_found at.looking.document (look_found t at.looking.first)) at.looking.rest) in
        let n = going_needs c at.going in
        omega (arith, k, n)

module _ (s : ℕ) (t u : Table) (es fs : List Event) (c d : Committing) where
  pub mark_needs : stage_of c ≡ stage.Mark → IsMarked s (saving t es c) (saving u fs d) → needed_by d ≤ needed_by c
  mark_needs h m = by (mark_stage c h) m
    where
      by : IsMarkStage c → IsMarked s (saving t es c) (saving u fs d) → needed_by d ≤ needed_by c
      by at (inl m) =
          let e : needed_by d ≡ needed_by (mark_made c at.rest) = ap needed_by (m.committer ∙ fed_mark c at.going at.looked at.first at.rest at.due (found t (op_due c).id)) in
          let n = going_needs c at.going in
          let k : needed_by (mark_made c at.rest) ≡ 2 * length c.writer.left + length c.writer.written + 4 = ap (needed_for (mark_made c at.rest).writer) at.going in
          omega (arith, e, n, k)
      by at (inr m) =
          let e : needed_by d ≡ length c.writer.written + 2 = ap needed_by (m.committer ∙ blocked_mark c at.going at.looked at.first at.rest at.due m.cause m.thing) in
          let n = going_needs c at.going in
          omega (arith, e, n)

  written_needs : (p : Path) (rest : List Path) (b : Option Document) (o : Option CommitEnd) → needed_for (written c p rest b).writer o ≡ needed_for (wrote c p rest).writer o
  written_needs p rest None None = refl
  written_needs p rest None (Some (end.Committed r)) = refl
  written_needs p rest None (Some (end.Clash item r)) = refl
  written_needs p rest None (Some end.Memory) = refl
  written_needs p rest (Some d) o = looks_need (wrote c p rest) p d (listed p d) o

  written_outcome : (p : Path) (rest : List Path) (b : Option Document) → (written c p rest b).outcome ≡ c.outcome
  written_outcome p rest None = refl
  written_outcome p rest (Some d) = look_outcome (wrote c p rest) p d (listed p d)

  written_count : (p : Path) (rest : List Path) (b : Option Document) → length (written c p rest b).writer.written ≡ length (c.writer.written ++ p ∷ [])
  written_count p rest None = refl
  written_count p rest (Some d) = look_count (wrote c p rest) p d (listed p d)

  pub write_needs : stage_of c ≡ stage.Write → IsWritten s (saving t es c) (saving u fs d) → needed_by d + 1 ≤ needed_by c
  write_needs h m = by (write_stage c h) m.committer
    where
      by : IsWriteStage c → (d ≡ fed_made t c) ⊎ (d ≡ wanting (fed_made t c)) → needed_by d + 1 ≤ needed_by c
      by at (inl e) =
          let now : d ≡ written c at.first at.rest (found t (op_due c).id) = e ∙ fed_write c at.going at.looked at.first at.rest at.unmet at.left (found t (op_due c).id) in
          let k : needed_by d ≡ 2 * length at.rest + length (c.writer.written ++ at.first ∷ []) + 4 = ap needed_by now ∙ (ap (needed_for (written c at.first at.rest (found t (op_due c).id)).writer) (written_outcome at.first at.rest (found t (op_due c).id)) ∙ (written_needs at.first at.rest (found t (op_due c).id) c.outcome ∙ ap (needed_for (wrote c at.first at.rest).writer) at.going)) in
          let n = going_needs c at.going in
          let l : length c.writer.left ≡ length at.rest + 1 = ap length at.left ∙ omega arith in
          let a = length-append c.writer.written (at.first ∷ []) in
          omega (arith, k, n, l, a)
      by at (inr e) =
          let now : d ≡ wanting (written c at.first at.rest (found t (op_due c).id)) = e ∙ ap wanting (fed_write c at.going at.looked at.first at.rest at.unmet at.left (found t (op_due c).id)) in
          let k : needed_by d ≡ length (c.writer.written ++ at.first ∷ []) + 2 = ap needed_by now ∙ ap (λ (n : ℕ). n + 2) (written_count at.first at.rest (found t (op_due c).id)) in
          let n = going_needs c at.going in
          let l : length c.writer.left ≡ length at.rest + 1 = ap length at.left ∙ omega arith in
          let a = length-append c.writer.written (at.first ∷ []) in
          omega (arith, k, n, l, a)

  pub last_needs : stage_of c ≡ stage.Last → IsLast (saving t es c) (saving u fs d) → needed_by d + 1 ≤ needed_by c
  last_needs h m = by (last_stage c h) m
    where
      by : IsLastStage c → IsLast (saving t es c) (saving u fs d) → needed_by d + 1 ≤ needed_by c
      by at (inl m) =
          let k : needed_by d ≡ 3 = ap needed_by (m.committer ∙ fed_last c at.going at.looked at.unmet at.none (found t (op_due c).id)) in
          let n = going_needs c at.going in
          omega (arith, k, n)
      by at (inr m) =
          let k : needed_by d ≡ length c.writer.written + 2 = ap needed_by (m.committer ∙ blocked_last c at.going at.looked at.unmet at.none m.cause m.other m.item) in
          let n = going_needs c at.going in
          omega (arith, k, n)

  pub undo_needs : stage_of c ≡ stage.Undo → IsDocumentUndone s (saving t es c) (saving u fs d) → needed_by d + 1 ≤ needed_by c
  undo_needs h m = by (undo_stage c h)
    where
      undoing_needs : (w : Writer) (o : Option CommitEnd) → undoes o ≡ true → needed_for w o ≡ length w.written + 2
      undoing_needs w None k = cc
      undoing_needs w (Some (end.Committed r)) k = cc
      undoing_needs w (Some (end.Clash item o)) k = refl
      undoing_needs w (Some end.Memory) k = refl

      by : IsUndoStage c → needed_by d + 1 ≤ needed_by c
      by at =
          let k : needed_by d ≡ length (drop 1 c.writer.written) + 2 = ap needed_by (m.committer ∙ fed_undo c at.undoing) ∙ undoing_needs (with_undone c).writer c.outcome at.undoing in
          let n : needed_by c ≡ length c.writer.written + 2 = undoing_needs c.writer c.outcome at.undoing in
          let l : length c.writer.written ≡ length at.rest + 1 = ap length at.written ∙ omega arith in
          let r : length (drop 1 c.writer.written) ≡ length at.rest = ap (λ (ps : List Path). length (drop 1 ps)) at.written in
          omega (arith, k, n, l, r)
