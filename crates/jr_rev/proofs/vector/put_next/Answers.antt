use Rattle.std.proofs.Common.{[], ◌∷◌, sym}
use Rattle.std.proofs.lemmas.List.{append-nil}
use Rattle.jr_rev.proofs.Joined.{some_front, two_fronts}
use Rattle.jr_rev.proofs.vector.put_next.Goals as goal
use Rattle.jr_rev.proofs.vector.put_next.Goals.{then-not-first+in_ok-push, else-not-first}

pub returns-clause-front : goal.returns-clause-front
returns-clause-front c =
    let put = some_front c.put_text.result _ _ _ c.put_text.ensures.ok c.put_text.ensures.err in
    elim c.if-not-first.branch [
      | then-not-first+in_ok-push w ↦ two_fronts c.args.out.now.items c.if-not-first.out.items _ (44 ∷ []) _ (rw w.out-is w.in_ok-push.ensures.items) put.1
      | else-not-first w ↦ two_fronts c.args.out.now.items c.if-not-first.out.items _ [] _ (rw w.out-is (sym (append-nil c.args.out.now.items))) put.1
    ]
