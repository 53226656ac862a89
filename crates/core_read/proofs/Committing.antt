-- A committer's writes, one document after the other, and what others' writes leave of them.
use Rattle.std.proofs.Common.{◌≡◌, ℕ, length, take, Bool, true, false, cond, not, ◌&&◌, ◌||◌, Some, None, Option, List, [], ◌∷◌, ◌++◌, refl, sym, ap, ◌∙◌, subst, is_some}
use Rattle.std.specs.Option.{option_map, option_or, option_map_or}
use Rattle.std.specs.Ordering.{is_eq, eq_by_cmp}
use Rattle.std.specs.Cmp.{tied_itself}
use Rattle.std.specs.List.{fold, list_any, list_all}
use mathlib.Core.Bool.{false≢true}
use Rattle.jr_path.specs.Names.{name_cmp, path_cmp}
use Rattle.jr_path.specs.declared.name.Name.{Name}
use Rattle.jr_path.specs.declared.path.Path.{Path}
use Rattle.jr_path.specs.declared.path.DocId.TheVariants as id
use Rattle.jr_rev.specs.declared.revision.Revision.{Revision}
use Rattle.jr_rev.specs.Revisions.{is_same}
use Rattle.jr_rev.proofs.Order.{revision_total}
use Rattle.jr_tree.specs.declared.edit.Write.{Write}
use Rattle.jr_tree.specs.declared.edit.Write.TheVariants.{Here, Gone, Put, Unset}
use Rattle.oak_doc.specs.declared.document.Document.{Document}
use Rattle.oak_doc.specs.declared.update.UpdateOp.{UpdateOp}
use Rattle.oak_doc.specs.declared.update.Change.{Change}
use Rattle.oak_doc.specs.declared.update.Change.TheVariants as change
use Rattle.oak_doc.specs.Updates.{of_revision, with_revision, values_of_property, changed, document_of, after_changes}
use Rattle.oak_read.specs.Meaning.{Documents, commit_root_of, main_of, path_of}
use Rattle.jr_tree.specs.Items.{here_of, put_of, written}
use Rattle.core_read.specs.Holds.{here_entry, prop_entry, root_entry, is_at_path, IsWrite, IsSameAt, IsEditWhole, IsUndone}
use Rattle.core_read.specs.Committing.{entry_of, entries_at, rooting, is_marking, IsWriteOp, IsWrittenAt, IsUnwritten, IsPartly}
use Rattle.jr_tree.proofs.Pointwise.{same_path}
use Rattle.core_read.proofs.Updates.{own_with, values_with, some_not_empty}
use Rattle.core_read.proofs.Found.{here_there, put_there, writes_there}
use Rattle.core_read.proofs.Steps.{same_root, root_path, commit_root_at}
use Rattle.core_read.proofs.Entries.{first, second, both}
use Rattle.core_read.specs.Writes.{is_entry_of}

-- ---- what the entries of an edit make of a document

fold_append : {X S : Type 0} (f : S → X → S) (s : S) (xs ys : List X) → fold f s (xs ++ ys) ≡ fold f (fold f s xs) ys
fold_append f s [] ys = refl
fold_append f s (x ∷ xs) ys = fold_append f (f s x) xs ys

or_three : {X : Type 0} (a b c : Option X) → option_or a (option_or b c) ≡ option_or (option_or a b) c
or_three None b c = refl
or_three (Some x) b c = refl

module _ (r : Revision) (p : Path) where
  entry_here : (w : Write) (d : Document) → here_entry (Some (fold changed d (entry_of r p w))) r ≡ option_or (here_of p w) (here_entry (Some d) r)
  entry_here (Here q) d = elim (eq_by_cmp path_cmp p q) as (λ b. here_entry (Some (fold changed d (cond b (change.Deleted r false ∷ []) []))) r ≡ option_or (cond b (Some true) None) (here_entry (Some d) r)) [
    | true ↦ ap (option_map not) (own_with d.deleted r false)
    | false ↦ refl
  ]
  entry_here (Gone q) d = elim (eq_by_cmp path_cmp p q) as (λ b. here_entry (Some (fold changed d (cond b (change.Deleted r true ∷ []) []))) r ≡ option_or (cond b (Some false) None) (here_entry (Some d) r)) [
    | true ↦ ap (option_map not) (own_with d.deleted r true)
    | false ↦ refl
  ]
  entry_here (Put q m x) d = elim (eq_by_cmp path_cmp p q) as (λ b. here_entry (Some (fold changed d (cond b (change.Prop m r (Some x) ∷ []) []))) r ≡ here_entry (Some d) r) [ true ↦ refl | false ↦ refl ]
  entry_here (Unset q m) d = elim (eq_by_cmp path_cmp p q) as (λ b. here_entry (Some (fold changed d (cond b (change.Prop m r None ∷ []) []))) r ≡ here_entry (Some d) r) [ true ↦ refl | false ↦ refl ]

  pub entries_here : (ws : List Write) (d : Document) → here_entry (Some (fold changed d (entries_at r p ws))) r ≡ option_or (written (here_of p) ws) (here_entry (Some d) r)
  entries_here [] d = refl
  entries_here (w ∷ ws) d =
      ap (λ (e : Document). here_entry (Some e) r) (fold_append changed d (entry_of r p w) (entries_at r p ws))
      ∙ (entries_here ws (fold changed d (entry_of r p w)) ∙ (ap (option_or (written (here_of p) ws)) (entry_here w d) ∙ or_three (written (here_of p) ws) (here_of p w) (here_entry (Some d) r)))

  prop_put : (n m : Name) (x : _) (d : Document) → prop_entry (Some (changed d (change.Prop m r x))) n r ≡ option_or (cond (eq_by_cmp name_cmp n m) (Some x) None) (prop_entry (Some d) n r)
  prop_put n m x d =
      ap (λ (l : List (Revision × _)). of_revision l r) (values_with d.props m n (with_revision (values_of_property d.props m) r x) (λ e. some_not_empty _ r (ap is_some (own_with (values_of_property d.props m) r x)) _ e))
      ∙ elim (eq_by_cmp name_cmp n m) as (λ b. of_revision (cond b (with_revision (values_of_property d.props m) r x) (values_of_property d.props n)) r ≡ option_or (cond b (Some x) None) (of_revision (values_of_property d.props n) r)) [
        | true ↦ own_with (values_of_property d.props m) r x
        | false ↦ refl
      ]

  entry_prop : (n : Name) (w : Write) (d : Document) → prop_entry (Some (fold changed d (entry_of r p w))) n r ≡ option_or (put_of p n w) (prop_entry (Some d) n r)
  entry_prop n (Here q) d = elim (eq_by_cmp path_cmp p q) as (λ b. prop_entry (Some (fold changed d (cond b (change.Deleted r false ∷ []) []))) n r ≡ prop_entry (Some d) n r) [ true ↦ refl | false ↦ refl ]
  entry_prop n (Gone q) d = elim (eq_by_cmp path_cmp p q) as (λ b. prop_entry (Some (fold changed d (cond b (change.Deleted r true ∷ []) []))) n r ≡ prop_entry (Some d) n r) [ true ↦ refl | false ↦ refl ]
  entry_prop n (Put q m x) d = elim (eq_by_cmp path_cmp p q) as (λ b. prop_entry (Some (fold changed d (cond b (change.Prop m r (Some x) ∷ []) []))) n r ≡ option_or (cond (b && eq_by_cmp name_cmp n m) (Some (Some x)) None) (prop_entry (Some d) n r)) [
    | true ↦ prop_put n m (Some x) d
    | false ↦ refl
  ]
  entry_prop n (Unset q m) d = elim (eq_by_cmp path_cmp p q) as (λ b. prop_entry (Some (fold changed d (cond b (change.Prop m r None ∷ []) []))) n r ≡ option_or (cond (b && eq_by_cmp name_cmp n m) (Some None) None) (prop_entry (Some d) n r)) [
    | true ↦ prop_put n m None d
    | false ↦ refl
  ]

  pub entries_prop : (n : Name) (ws : List Write) (d : Document) → prop_entry (Some (fold changed d (entries_at r p ws))) n r ≡ option_or (written (put_of p n) ws) (prop_entry (Some d) n r)
  entries_prop n [] d = refl
  entries_prop n (w ∷ ws) d =
      ap (λ (e : Document). prop_entry (Some e) n r) (fold_append changed d (entry_of r p w) (entries_at r p ws))
      ∙ (entries_prop n ws (fold changed d (entry_of r p w)) ∙ (ap (option_or (written (put_of p n) ws)) (entry_prop n w d) ∙ or_three (written (put_of p n) ws) (put_of p n w) (prop_entry (Some d) n r)))

-- ---- the update by which a committer writes a document

marking_same : (c : Change) → is_marking c ≡ true → (d : Document) → ((changed d c).deleted ≡ d.deleted) × ((changed d c).props ≡ d.props) × ((changed d c).commit_root ≡ d.commit_root) × ((changed d c).id ≡ d.id)
marking_same (change.Collision q o item) h d = (refl, refl, refl, refl)
marking_same (change.Touched q) h d = (refl, refl, refl, refl)
marking_same (change.Guard q) h d = (refl, refl, refl, refl)
marking_same (change.LastRev q) h d = (refl, refl, refl, refl)
marking_same (change.SweepRev q) h d = (refl, refl, refl, refl)
marking_same c h d = absurd (false≢true h)

markings_same : (cs : List Change) → list_all is_marking cs ≡ true → (d : Document) → ((fold changed d cs).deleted ≡ d.deleted) × ((fold changed d cs).props ≡ d.props) × ((fold changed d cs).commit_root ≡ d.commit_root) × ((fold changed d cs).id ≡ d.id)
markings_same [] h d = (refl, refl, refl, refl)
markings_same (c ∷ cs) h d =
    let one = marking_same c (first _ _ h) d in
    let rest = markings_same cs (second _ _ h) (changed d c) in
    (rest.0 ∙ one.0, rest.1 ∙ one.1, rest.2 ∙ one.2, rest.3 ∙ one.3)

-- entries leave the commit roots and the id
entry_leaves : (r : Revision) (p : Path) (w : Write) (d : Document) → ((fold changed d (entry_of r p w)).commit_root ≡ d.commit_root) × ((fold changed d (entry_of r p w)).id ≡ d.id)
entry_leaves r p (Here q) d = elim (eq_by_cmp path_cmp p q) as (λ b. ((fold changed d (cond b (change.Deleted r false ∷ []) [])).commit_root ≡ d.commit_root) × ((fold changed d (cond b (change.Deleted r false ∷ []) [])).id ≡ d.id)) [ true ↦ (refl, refl) | false ↦ (refl, refl) ]
entry_leaves r p (Gone q) d = elim (eq_by_cmp path_cmp p q) as (λ b. ((fold changed d (cond b (change.Deleted r true ∷ []) [])).commit_root ≡ d.commit_root) × ((fold changed d (cond b (change.Deleted r true ∷ []) [])).id ≡ d.id)) [ true ↦ (refl, refl) | false ↦ (refl, refl) ]
entry_leaves r p (Put q m x) d = elim (eq_by_cmp path_cmp p q) as (λ b. ((fold changed d (cond b (change.Prop m r (Some x) ∷ []) [])).commit_root ≡ d.commit_root) × ((fold changed d (cond b (change.Prop m r (Some x) ∷ []) [])).id ≡ d.id)) [ true ↦ (refl, refl) | false ↦ (refl, refl) ]
entry_leaves r p (Unset q m) d = elim (eq_by_cmp path_cmp p q) as (λ b. ((fold changed d (cond b (change.Prop m r None ∷ []) [])).commit_root ≡ d.commit_root) × ((fold changed d (cond b (change.Prop m r None ∷ []) [])).id ≡ d.id)) [ true ↦ (refl, refl) | false ↦ (refl, refl) ]

entries_leave : (r : Revision) (p : Path) (ws : List Write) (d : Document) → ((fold changed d (entries_at r p ws)).commit_root ≡ d.commit_root) × ((fold changed d (entries_at r p ws)).id ≡ d.id)
entries_leave r p [] d = (refl, refl)
entries_leave r p (w ∷ ws) d =
    let shape = fold_append changed d (entry_of r p w) (entries_at r p ws) in
    let rest = entries_leave r p ws (fold changed d (entry_of r p w)) in
    let one = entry_leaves r p w d in
    (ap (λ (e : Document). e.commit_root) shape ∙ (rest.0 ∙ one.0), ap (λ (e : Document). e.id) shape ∙ (rest.1 ∙ one.1))

-- the commit root is noted, where it is another document
noted : (r : Revision) (p root : Path) (d : Document) → d.id ≡ id.Node p → of_revision d.commit_root r ≡ None → take (length root) p ≡ root → (b : Bool) → eq_by_cmp path_cmp p root ≡ b
    → commit_root_of (fold changed d (cond b [] (change.CommitRoot r (length root) ∷ []))) r ≡ id.Node root
noted r p root d named none below true h = commit_root_at d p named r ∙ (ap (λ o. id.Node (root_path p o)) none ∙ ap (λ (q : Path). id.Node q) (same_path p root h))
noted r p root d named none below false h =
    commit_root_at (changed d (change.CommitRoot r (length root))) p named r
    ∙ (ap (λ o. id.Node (root_path p o)) (own_with d.commit_root r (length root)) ∙ ap (λ (q : Path). id.Node q) below)

rooting_here : (r : Revision) (depth : ℕ) (d : Document) (b : Bool) → ((fold changed d (cond b [] (change.CommitRoot r depth ∷ []))).deleted ≡ d.deleted) × ((fold changed d (cond b [] (change.CommitRoot r depth ∷ []))).props ≡ d.props)
rooting_here r depth d true = (refl, refl)
rooting_here r depth d false = (refl, refl)

root_same : (d e : Document) (r : Revision) → e.commit_root ≡ d.commit_root → e.id ≡ d.id → commit_root_of e r ≡ commit_root_of d r
root_same d e r h k = ap (λ i. option_map_or (λ depth. id.Node (take depth (path_of i))) (of_revision e.commit_root r) (main_of i)) k ∙ ap (λ (es : List (Revision × ℕ)). option_map_or (λ depth. id.Node (take depth (path_of d.id))) (of_revision es r) (main_of d.id)) h

or_nothing : {X : Type 0} (a b : Option X) → b ≡ None → option_or a b ≡ a
or_nothing None b h = h
or_nothing (Some x) b h = refl

all_append : {X : Type 0} (test : X → Bool) (xs ys : List X) → list_all test xs ≡ true → list_all test ys ≡ true → list_all test (xs ++ ys) ≡ true
all_append test [] ys h k = k
all_append test (x ∷ xs) ys h k = both _ _ (first _ _ h) (all_append test xs ys (second _ _ h) k)

itself : (r : Revision) → is_same r r ≡ true
itself r = ap is_eq (tied_itself revision_total r)

-- a change or none
one_all : (r : Revision) (c : Change) (b : Bool) → is_entry_of r c ≡ true → list_all (is_entry_of r) (cond b (c ∷ []) []) ≡ true
one_all r c true h = both _ _ h refl
one_all r c false h = refl

entry_all : (r : Revision) (p : Path) (w : Write) → list_all (is_entry_of r) (entry_of r p w) ≡ true
entry_all r p (Here q) = one_all r (change.Deleted r false) _ (itself r)
entry_all r p (Gone q) = one_all r (change.Deleted r true) _ (itself r)
entry_all r p (Put q m x) = one_all r (change.Prop m r (Some x)) _ (itself r)
entry_all r p (Unset q m) = one_all r (change.Prop m r None) _ (itself r)

entries_all : (r : Revision) (p : Path) (ws : List Write) → list_all (is_entry_of r) (entries_at r p ws) ≡ true
entries_all r p [] = refl
entries_all r p (w ∷ ws) = all_append (is_entry_of r) (entry_of r p w) (entries_at r p ws) (entry_all r p w) (entries_all r p ws)

rooting_all : (r : Revision) (depth : ℕ) (b : Bool) → list_all (is_entry_of r) (cond b [] (change.CommitRoot r depth ∷ [])) ≡ true
rooting_all r depth true = refl
rooting_all r depth false = both _ _ (itself r) refl

marking_all : (r : Revision) (c : Change) → is_marking c ≡ true → is_entry_of r c ≡ true
marking_all r (change.Collision q o item) h = refl
marking_all r (change.Touched q) h = refl
marking_all r (change.Guard q) h = refl
marking_all r (change.LastRev q) h = refl
marking_all r (change.SweepRev q) h = refl
marking_all r c h = absurd (false≢true h)

pub markings_all : (r : Revision) (cs : List Change) → list_all is_marking cs ≡ true → list_all (is_entry_of r) cs ≡ true
markings_all r [] h = refl
markings_all r (c ∷ cs) h = both _ _ (marking_all r c (first _ _ h)) (markings_all r cs (second _ _ h))

module _ (op : UpdateOp) (r : Revision) (ws : List Write) (root p : Path) (marks : List Change) (o : Option Document) (number : ℕ) (wop : IsWriteOp op r ws root p marks) (named : (d : Document) → o ≡ Some d → d.id ≡ id.Node p) (clean : IsUnwritten o r) where
  abbrev start_ : Document
  start_ = document_of o (id.Node p)

  abbrev with_entries : Document
  with_entries = fold changed start_ (entries_at r p ws)

  abbrev with_root : Document
  with_root = fold changed with_entries (rooting r p root)

  abbrev final : Document
  final = fold changed with_root marks

  shape : fold changed (document_of o op.id) op.changes ≡ final
  shape = ap (λ i. fold changed (document_of o i) op.changes) wop.at ∙ (ap (λ (cs : List Change). fold changed start_ cs) wop.changes
      ∙ (fold_append changed start_ (entries_at r p ws) (rooting r p root ++ marks) ∙ fold_append changed with_entries (rooting r p root) marks))

  start_named : (o : Option Document) → ((d : Document) → o ≡ Some d → d.id ≡ id.Node p) → (document_of o (id.Node p)).id ≡ id.Node p
  start_named None named = refl
  start_named (Some d) named = named d refl

  start_here : (o : Option Document) → here_entry o r ≡ None → here_entry (Some (document_of o (id.Node p))) r ≡ None
  start_here None h = refl
  start_here (Some d) h = h

  start_prop : (n : Name) (o : Option Document) → prop_entry o n r ≡ None → prop_entry (Some (document_of o (id.Node p))) n r ≡ None
  start_prop n None h = refl
  start_prop n (Some d) h = h

  start_root : (o : Option Document) → root_entry o r ≡ None → of_revision (document_of o (id.Node p)).commit_root r ≡ None
  start_root None h = refl
  start_root (Some d) h = h

  pub op_written : IsWrittenAt (Some (after_changes o op number)) r ws root p
  op_written =
      let m = markings_same marks wop.marking with_root in
      let k = rooting_here r (length root) with_entries (eq_by_cmp path_cmp p root) in
      let e = entries_leave r p ws start_ in
      record {
        node = ap (λ (d : Document). here_entry (Some d) r) shape ∙ (ap (λ (es : List (Revision × Bool)). option_map not (of_revision es r)) (m.0 ∙ k.0)
            ∙ (entries_here r p ws start_ ∙ or_nothing (written (here_of p) ws) _ (start_here o clean.node)));
        prop = λ n. ap (λ (d : Document). prop_entry (Some d) n r) shape ∙ (ap (λ ps. of_revision (values_of_property ps n) r) (m.1 ∙ k.1)
            ∙ (entries_prop r p n ws start_ ∙ or_nothing (written (put_of p n) ws) _ (start_prop n o (clean.prop n))));
        rooted = λ _. ap (λ i. Some i) (ap (λ (d : Document). commit_root_of d r) shape ∙ (root_same with_root final r m.2 m.3
            ∙ noted r p root with_entries (e.1 ∙ start_named o named) (ap (λ (es : List (Revision × ℕ)). of_revision es r) e.0 ∙ start_root o clean.root) wop.below (eq_by_cmp path_cmp p root) refl));
      }

  -- each change of it is an entry of r
  pub op_all : list_all (is_entry_of r) op.changes ≡ true
  op_all = ap (list_all (is_entry_of r)) wop.changes
      ∙ all_append (is_entry_of r) (entries_at r p ws) _ (entries_all r p ws)
      (all_append (is_entry_of r) (rooting r p root) marks (rooting_all r (length root) (eq_by_cmp path_cmp p root)) (markings_all r marks wop.marking))

-- an update by marks alone leaves every entry
pub marks_same : (r : Revision) (p : Path) (o : Option Document) (op : UpdateOp) (number : ℕ) → op.id ≡ id.Node p → list_all is_marking op.changes ≡ true → IsSameAt r o (after_changes o op number)
marks_same r p o op number at all =
    let m = markings_same op.changes all (document_of o op.id) in
    record {
      here = ap (λ (es : List (Revision × Bool)). option_map not (of_revision es r)) m.0 ∙ here_of_start o;
      prop = λ n. ap (λ ps. of_revision (values_of_property ps n) r) m.1 ∙ prop_of_start n o;
      root = ap (λ (es : List (Revision × ℕ)). of_revision es r) m.2 ∙ root_of_start o;
    }
  where
    here_of_start : (o : Option Document) → here_entry (Some (document_of o op.id)) r ≡ here_entry o r
    here_of_start None = refl
    here_of_start (Some d) = refl

    prop_of_start : (n : Name) (o : Option Document) → prop_entry (Some (document_of o op.id)) n r ≡ prop_entry o n r
    prop_of_start n None = refl
    prop_of_start n (Some d) = refl

    root_of_start : (o : Option Document) → root_entry (Some (document_of o op.id)) r ≡ root_entry o r
    root_of_start None = refl
    root_of_start (Some d) = refl

-- ---- the steps of a committer

module _ (ds now : Documents) (p : Path) (d : Document) (wrote : IsWrite ds now p d) where
  -- the document at p, and every other as it was
  at_path : (P : Path → Option Document → Type 0) → P p (Some d) → (q : Path) → (eq_by_cmp path_cmp q p ≡ false → P q (ds (id.Node q))) → P q (now (id.Node q))
  at_path P here q others = by (eq_by_cmp path_cmp q p) refl
    where
      by : (b : Bool) → eq_by_cmp path_cmp q p ≡ b → P q (now (id.Node q))
      by true h = subst (λ (x : Path). P x (now (id.Node x))) (sym (same_path q p h)) (subst (P p) (sym wrote.at) here)
      by false h = subst (P q) (sym (wrote.else_ q h)) (others h)

  -- one document more is written
  pub more_written : (r : Revision) (ws : List Write) (root : Path) (done : Path → Bool) → IsPartly ds r ws root done → IsWrittenAt (Some d) r ws root p → IsPartly now r ws root (λ q. eq_by_cmp path_cmp q p || done q)
  more_written r ws root done part here = record {
    written_ = λ q h. at_path (λ q o. IsWrittenAt o r ws root q) here q (λ k. part.written_ q (ap (λ b. b || done q) (sym k) ∙ h));
    left = λ q h. by q (eq_by_cmp path_cmp q p) refl h;
  }
    where
      by : (q : Path) (b : Bool) → eq_by_cmp path_cmp q p ≡ b → (b || done q) ≡ false → IsUnwritten (now (id.Node q)) r
      by q true k h = absurd (false≢true (sym h))
      by q false k h = subst (λ o. IsUnwritten o r) (sym (wrote.else_ q k)) (part.left q h)

  -- one document more is undone
  pub less_written : (r : Revision) (ws : List Write) (root : Path) (done : Path → Bool) → IsPartly ds r ws root done → IsUnwritten (Some d) r → IsPartly now r ws root (λ q. not (eq_by_cmp path_cmp q p) && done q)
  less_written r ws root done part here = record {
    written_ = λ q h. by q (eq_by_cmp path_cmp q p) refl h;
    left = λ q h. at_path (λ q o. IsUnwritten o r) here q (λ k. part.left q (ap (λ b. not b && done q) (sym k) ∙ h));
  }
    where
      by : (q : Path) (b : Bool) → eq_by_cmp path_cmp q p ≡ b → (not b && done q) ≡ true → IsWrittenAt (now (id.Node q)) r ws root q
      by q true k h = absurd (false≢true h)
      by q false k h = subst (λ o. IsWrittenAt o r ws root q) (sym (wrote.else_ q k)) (part.written_ q h)

  -- a write of another revision leaves what a committer has written
  pub others_leave : (r : Revision) (ws : List Write) (root : Path) (done : Path → Bool) → ((x : Path) (c : Document) → ds (id.Node x) ≡ Some c → c.id ≡ id.Node x) → d.id ≡ id.Node p → IsSameAt r (ds (id.Node p)) d
      → IsPartly ds r ws root done → IsPartly now r ws root done
  others_leave r ws root done names named same part = record {
    written_ = λ q h. at_path (λ q o. done q ≡ true → IsWrittenAt o r ws root q) (λ h. kept (part.written_ p h)) q (λ k h. part.written_ q h) h;
    left = λ q h. at_path (λ q o. done q ≡ false → IsUnwritten o r) (λ h. let u = part.left p h in record { node = same.here ∙ u.node; prop = λ n. same.prop n ∙ u.prop n; root = same.root ∙ u.root }) q (λ k h. part.left q h) h;
  }
    where
      root_of : (o : Option Document) → ds (id.Node p) ≡ o → option_map (λ d. commit_root_of d r) o ≡ Some (id.Node root) → option_map (λ d. commit_root_of d r) (Some d) ≡ Some (id.Node root)
      root_of None e h = absurd (false≢true (ap is_some h))
      root_of (Some c) e h = ap (λ i. Some i) (same_root c d p r (names p c e) named (same.root ∙ ap (λ o. root_entry o r) e)) ∙ h

      kept : IsWrittenAt (ds (id.Node p)) r ws root p → IsWrittenAt (Some d) r ws root p
      kept w = record { node = same.here ∙ w.node; prop = λ n. same.prop n ∙ w.prop n; rooted = λ h. root_of (ds (id.Node p)) refl (w.rooted h) }

-- ---- its ends

silent_at : {X : Type 0} (W : Option X) (b : Bool) → (is_some W ≡ true → b ≡ true) → b ≡ false → W ≡ None
silent_at None b f h = refl
silent_at (Some x) b f h = absurd (false≢true (sym h ∙ f refl))

-- each path of the edit is written: the edit is whole
pub whole_of : (ds : Documents) (r : Revision) (ws : List Write) (root : Path) (done : Path → Bool) → IsPartly ds r ws root done → ((p : Path) → list_any (is_at_path p) ws ≡ true → done p ≡ true) → IsEditWhole ds r ws root
whole_of ds r ws root done part all = record {
  node = λ p. by p (done p) refl;
  prop = λ p n. by_prop p n (done p) refl;
  rooted = λ p h. (part.written_ p (all p h)).rooted h;
}
  where
    by : (p : Path) (b : Bool) → done p ≡ b → here_entry (ds (id.Node p)) r ≡ written (here_of p) ws
    by p true h = (part.written_ p h).node
    by p false h = (part.left p h).node ∙ sym (silent_at (written (here_of p) ws) (done p) (λ k. all p (writes_there (here_of p) (is_at_path p) (here_there p) ws k)) h)

    by_prop : (p : Path) (n : Name) (b : Bool) → done p ≡ b → prop_entry (ds (id.Node p)) n r ≡ written (put_of p n) ws
    by_prop p n true h = (part.written_ p h).prop n
    by_prop p n false h = (part.left p h).prop n ∙ sym (silent_at (written (put_of p n) ws) (done p) (λ k. all p (writes_there (put_of p n) (is_at_path p) (put_there p n) ws k)) h)

-- none is left: all is undone
pub undone_of : (ds : Documents) (r : Revision) (ws : List Write) (root : Path) (done : Path → Bool) → IsPartly ds r ws root done → ((p : Path) → done p ≡ false) → IsUndone ds r
undone_of ds r ws root done part none = record { node = λ p. (part.left p (none p)).node; prop = λ p n. (part.left p (none p)).prop n; root = λ p. (part.left p (none p)).root }
