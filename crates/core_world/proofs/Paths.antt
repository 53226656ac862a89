-- The paths to write: each is marked, each marked one is among them, and none stands twice.
use Rattle.std.proofs.Common.{◌≡◌, inl, inr, true, false, List, [], ◌∷◌, map, sym, ap, subst, ◌∙◌}
use Rattle.std.specs.Ordering.{eq_by_cmp}
use mathlib.Core.Bool.{false≢true}
use Rattle.jr_path.specs.Ids.{id_cmp, names_of}
use Rattle.jr_path.specs.declared.path.Path.{Path}
use Rattle.jr_path.specs.declared.path.DocId.{DocId}
use Rattle.jr_path.specs.declared.path.DocId.TheVariants as id
use Rattle.oak_clash.specs.declared.mark.Mark.{Mark}
use Rattle.oak_clash.specs.declared.mark.MarkAt.{MarkAt}
use Rattle.core_clash.specs.Views.{In, Once, mark_at}
use Rattle.core_clash.proofs.Basics.{is_in}
use Rattle.core_read.specs.Commits.{Each}
use Rattle.core_read.specs.Told.{IsIn}
use Rattle.core_world.specs.Steps.{paths_to_write}
use Rattle.core_world.proofs.Ids.{AreDistinct, IsMarked, ids_all, ids_distinct, ids_marked}
use Rattle.core_world.proofs.Tables.{id_itself}

pub in_is : {X : Type 0} (x : X) (xs : List X) → IsIn x xs → In x xs
in_is x [] h = h
in_is x (y ∷ ys) (inl e) = inl (sym e)
in_is x (y ∷ ys) (inr h) = inr (in_is x ys h)

-- some mark is at p
pub record HasMark (marks : List MarkAt) (p : Path) : Type 0 where
  pub mark : Mark
  pub in_marks : In (mark_at p mark) marks

marked_at : (marks : List MarkAt) (i : DocId) → IsMarked marks i → HasMark marks (names_of i)
marked_at marks i m =
    let path : m.2.path ≡ names_of i = m.4 ∙ sym (ap names_of m.1) in
    record { mark = m.2.mark; in_marks = subst (λ (p : Path). In (mark_at p m.2.mark) marks) path (in_is m.2 marks m.3) }

each_marked : (marks : List MarkAt) (is : List DocId) → Each (IsMarked marks) is → (p : Path) → In p (map names_of is) → HasMark marks p
each_marked marks [] each p h = absurd h
each_marked marks (i ∷ is) each p (inl e) = subst (λ (q : Path). HasMark marks q) (sym e) (marked_at marks i each.0)
each_marked marks (i ∷ is) each p (inr h) = each_marked marks is each.1 p h

pub path_marked : (marks : List MarkAt) (p : Path) → In p (paths_to_write marks) → HasMark marks p
path_marked marks p h = each_marked marks (Rattle.oak_commit.specs.Writing.written_ids marks) (ids_marked marks) p h

map_in : (i : DocId) (is : List DocId) → IsIn i is → In (names_of i) (map names_of is)
map_in i [] h = absurd h
map_in i (j ∷ js) (inl e) = inl (ap names_of (sym e))
map_in i (j ∷ js) (inr h) = inr (map_in i js h)

pub mark_path : (marks : List MarkAt) (p : Path) (m : Mark) → In (mark_at p m) marks → In p (paths_to_write marks)
mark_path marks p m h = map_in (id.Node p) (Rattle.oak_commit.specs.Writing.written_ids marks) (ids_all marks (mark_at p m) (is_in (mark_at p m) marks h))

apart_from : (marks : List MarkAt) (i : DocId) → IsMarked marks i → (is : List DocId) → Each (IsMarked marks) is → Each (λ j. eq_by_cmp id_cmp j i ≡ false) is → In (names_of i) (map names_of is) → ⊥
apart_from marks i m [] each apart h = h
apart_from marks i m (j ∷ js) each apart (inl e) =
    let paths : m.0 ≡ each.0.0 = sym (ap names_of m.1) ∙ (e ∙ ap names_of each.0.1) in
    let same : j ≡ i = each.0.1 ∙ (ap (λ (p : Path). id.Node p) (sym paths) ∙ sym m.1) in
    false≢true (sym apart.0 ∙ subst (λ (x : DocId). eq_by_cmp id_cmp j x ≡ true) same (id_itself j))
apart_from marks i m (j ∷ js) each apart (inr h) = apart_from marks i m js each.1 apart.1 h

distinct_once : (marks : List MarkAt) (is : List DocId) → Each (IsMarked marks) is → AreDistinct is → Once (map names_of is)
distinct_once marks [] each apart = tt
distinct_once marks (i ∷ is) each apart = (apart_from marks i each.0 is each.1 apart.0, distinct_once marks is each.1 apart.1)

pub paths_once : (marks : List MarkAt) → Once (paths_to_write marks)
paths_once marks = distinct_once marks (Rattle.oak_commit.specs.Writing.written_ids marks) (ids_marked marks) (ids_distinct marks)
