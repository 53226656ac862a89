use Rattle.std.proofs.Common.{◌≡◌, not, true, false, sym, ◌∙◌, ⊎_elim}
use Rattle.std.proofs.lemmas.List.Elements.{Contains-append_cases, Contains-append_left, Contains-append_right}
use Rattle.seat_lock.specs.Views.{is_one_of}
use Rattle.seat_lock.proofs.Lists.{contains_told, contains_retold, contains_filter, contains_filter_too, contains_told_too, contains_retold_too, one_of, is_one, is_none}
use Rattle.seat_lock.proofs.Steps.{not_true}
use Rattle.seat_lock.proofs.law.parts_after_calls.Goals as goal

pub returns-clause-new : goal.returns-clause-new
returns-clause-new g c x a q =
    let part = g.T.Counted.part x in
    let names = g.T.Counted.authors x in
    (contains_told part names a q, λ h. contains_told_too part names a q h.0 h.1)

pub returns-clause-release : goal.returns-clause-release
returns-clause-release g c x v a q =
    let part = g.T.Counted.part x in
    ((λ h. let t = contains_retold part v.parts a q h in (t.1, t.0)), λ h. contains_retold_too part v.parts a h.0.0 q h.0.1 h.1)

pub returns-clause-split : goal.returns-clause-split
returns-clause-split g c names v a q = (
  (λ h. let t = contains_filter (λ y. is_one_of names y.0) v.parts (a, q) h in (one_of names a t.0, t.1)),
  λ h. contains_filter_too (λ y. is_one_of names y.0) v.parts (a, q) (is_one names a h.0) h.1,
)

pub returns-clause-left : goal.returns-clause-left
returns-clause-left g c names v a q = (
  (λ h.
      let t = contains_filter (λ y. not (is_one_of names y.0)) v.parts (a, q) h in
      ((λ has. let clash : true ≡ false = sym (is_one names a has) ∙ not_true (is_one_of names a) t.0 in absurd (cc)), t.1)),
  λ h. contains_filter_too (λ y. not (is_one_of names y.0)) v.parts (a, q) (is_none names a h.0) h.1,
)

pub returns-clause-join : goal.returns-clause-join
returns-clause-join g c v w a q = (
  Contains-append_cases v.parts w.parts (a, q),
  ⊎_elim (Contains-append_left v.parts w.parts (a, q)) (Contains-append_right v.parts w.parts (a, q)),
)
