-- What an update by a committer changes, and what it leaves.
use Rattle.std.proofs.Common.{◌≡◌, ℕ, suc, arith, Bool, true, false, cond, not, nat_eq, length, Some, None, Option, List, [], ◌∷◌, refl, sym, ap, ◌∙◌, subst, is_some}
use Rattle.std.specs.Option.{option_map, unwrap_or}
use Rattle.std.specs.Ordering.{is_eq, eq_by_cmp}
use Rattle.std.specs.Cmp.{tied_itself}
use Rattle.std.specs.FinMap.{is_sorted}
use Rattle.std.specs.Map.{lookup}
use Rattle.std.specs.BTreeMap.{is_at}
use Rattle.std.specs.List.{fold, list_all}
use Rattle.std.proofs.lemmas.Cmp.{nat_list_cmp_total}
use Rattle.std.proofs.lemmas.Bool.Decides.{nat_tests}
use mathlib.Core.Bool.{false≢true}
use Rattle.jr_path.specs.Names.{name_cmp}
use Rattle.jr_path.specs.declared.name.Name.{Name}
use Rattle.jr_path.specs.declared.path.Path.{Path}
use Rattle.jr_path.specs.declared.path.DocId.TheVariants as id
use Rattle.jr_path.proofs.Maps.{lookup-insert_entry}
use Rattle.jr_value.specs.declared.value.Property.{Property}
use Rattle.jr_rev.specs.declared.revision.Revision.{Revision}
use Rattle.jr_rev.specs.Revisions.{revision_cmp, is_same}
use Rattle.jr_rev.proofs.Order.{revision_total}
use Rattle.oak_doc.specs.declared.document.Document.{Document}
use Rattle.oak_doc.specs.declared.update.UpdateOp.{UpdateOp}
use Rattle.oak_doc.specs.declared.update.Change.{Change}
use Rattle.oak_doc.specs.declared.update.Change.TheVariants as change
use Rattle.oak_doc.specs.Updates.{of_revision, with_revision, without_revision, Props, props_without_revision, values_of_property, with_values, changed, document_of, after_changes}
use Rattle.core_read.specs.Holds.{here_entry, prop_entry, root_entry, has_revision, IsSameAt, IsSameBut}
use Rattle.core_read.specs.Writes.{is_entry_of, IsOrderedDocument}
use Rattle.core_read.proofs.Entries.{exactly, first, second, sorted_insert, sorted_remove, lookup-remove, none_below}
use Rattle.core_read.proofs.Latest.{same_revision}
use Rattle.jr_tree.proofs.Proper.{same_name}

-- ---- entries by revision

other_with : {X : Type 0} (es : List (Revision × X)) (r q : Revision) (x : X) → eq_by_cmp revision_cmp q r ≡ false → of_revision (with_revision es r x) q ≡ of_revision es q
other_with es r q x h = lookup-insert_entry revision_cmp revision_total q r x es ∙ ap (λ b. cond b (Some x) (of_revision es q)) h

pub own_with : {X : Type 0} (es : List (Revision × X)) (r : Revision) (x : X) → of_revision (with_revision es r x) r ≡ Some x
own_with es r x = lookup-insert_entry revision_cmp revision_total r r x es ∙ ap (λ o. cond (is_eq o) (Some x) (of_revision es r)) (tied_itself revision_total r)

pub other_without : {X : Type 0} (r q : Revision) → eq_by_cmp revision_cmp q r ≡ false → (es : List (Revision × X)) → of_revision (without_revision r es) q ≡ of_revision es q
other_without r q h [] = refl
other_without r q h (e ∷ es) =
    elim (eq_by_cmp revision_cmp r e.0) as (λ b. eq_by_cmp revision_cmp r e.0 ≡ b → of_revision (cond (not b) (e ∷ without_revision r es) (without_revision r es)) q ≡ of_revision (e ∷ es) q) [
      | true ↦ λ k. other_without r q h es ∙ sym (ap (λ b. cond b (Some e.1) (of_revision es q)) (subst (λ (x : Revision). eq_by_cmp revision_cmp q x ≡ false) (same_revision r e.0 k) h))
      | false ↦ λ k. ap (cond (eq_by_cmp revision_cmp q e.0) (Some e.1)) (other_without r q h es)
    ] refl

pub own_without : {X : Type 0} (r : Revision) (es : List (Revision × X)) → of_revision (without_revision r es) r ≡ None
own_without r [] = refl
own_without r (e ∷ es) =
    elim (eq_by_cmp revision_cmp r e.0) as (λ b. eq_by_cmp revision_cmp r e.0 ≡ b → of_revision (cond (not b) (e ∷ without_revision r es) (without_revision r es)) r ≡ None) [
      | true ↦ λ k. own_without r es
      | false ↦ λ k. ap (λ b. cond b (Some e.1) (of_revision (without_revision r es) r)) k ∙ own_without r es
    ] refl

-- ---- values by name

values_put : (ps : Props) (n m : Name) (e : Revision × Option Property) (es : List (Revision × Option Property)) → values_of_property (with_values ps n (e ∷ es)) m ≡ cond (eq_by_cmp name_cmp m n) (e ∷ es) (values_of_property ps m)
values_put ps n m e es = ap (λ o. unwrap_or o []) (lookup-insert_entry name_cmp nat_list_cmp_total m n (e ∷ es) ps) ∙ by (eq_by_cmp name_cmp m n)
  where
    by : (b : Bool) → unwrap_or (cond b (Some (e ∷ es)) (lookup (is_at (name_cmp m)) ps)) [] ≡ cond b (e ∷ es) (values_of_property ps m)
    by true = refl
    by false = refl

-- values that are some, or names that are in order
pub values_with : (ps : Props) (n m : Name) (l : List (Revision × Option Property)) → (l ≡ [] → is_sorted name_cmp ps ≡ true) → values_of_property (with_values ps n l) m ≡ cond (eq_by_cmp name_cmp m n) l (values_of_property ps m)
values_with ps n m [] h = ap (λ o. unwrap_or o []) (lookup-remove name_cmp nat_list_cmp_total m n ps (h refl)) ∙ by (eq_by_cmp name_cmp m n)
  where
    by : (b : Bool) → unwrap_or (cond b None (lookup (is_at (name_cmp m)) ps)) [] ≡ cond b [] (values_of_property ps m)
    by true = refl
    by false = refl
values_with ps n m (e ∷ es) h = values_put ps n m e es

pub sorted_with : (ps : Props) (n : Name) (l : List (Revision × Option Property)) → is_sorted name_cmp ps ≡ true → is_sorted name_cmp (with_values ps n l) ≡ true
sorted_with ps n [] s = sorted_remove name_cmp (is_at (name_cmp n)) ps s
sorted_with ps n (e ∷ es) s = sorted_insert name_cmp nat_list_cmp_total n (e ∷ es) ps s

pub some_not_empty : (l : List (Revision × Option Property)) (r : Revision) → is_some (of_revision l r) ≡ true → (G : Type 0) → l ≡ [] → G
some_not_empty l r h G e = absurd (false≢true (sym (ap (λ (k : List (Revision × Option Property)). is_some (of_revision k r)) e) ∙ h))

-- a value of another revision stays
other_put : (ps : Props) (n m : Name) (r q : Revision) (x : Option Property) → eq_by_cmp revision_cmp q r ≡ false
    → of_revision (values_of_property (with_values ps n (with_revision (values_of_property ps n) r x)) m) q ≡ of_revision (values_of_property ps m) q
other_put ps n m r q x h =
    let l : List (Revision × Option Property) = with_revision (values_of_property ps n) r x in
    ap (λ (es : List (Revision × Option Property)). of_revision es q) (values_with ps n m l (λ e. some_not_empty l r (ap is_some (own_with (values_of_property ps n) r x)) _ e)) ∙ by (eq_by_cmp name_cmp m n) refl
  where
    by : (b : Bool) → eq_by_cmp name_cmp m n ≡ b → of_revision (cond b (with_revision (values_of_property ps n) r x) (values_of_property ps m)) q ≡ of_revision (values_of_property ps m) q
    by true k = other_with (values_of_property ps n) r q x h ∙ ap (λ (a : Name). of_revision (values_of_property ps a) q) (sym (same_name m n k))
    by false k = refl

-- ---- changes of a write

-- one revision, and another than r
moved : (r s q : Revision) → is_same s r ≡ true → eq_by_cmp revision_cmp q r ≡ false → eq_by_cmp revision_cmp q s ≡ false
moved r s q h k = subst (λ (x : Revision). eq_by_cmp revision_cmp q x ≡ false) (sym (same_revision s r h)) k

nothing : (r : Revision) (p : Path) (d : Document) → d.id ≡ id.Node p → IsSameBut r p (Some d) d
nothing r p d named = record { at = λ q h. record { here = refl; prop = λ n. refl; root = refl }; said = λ q h. refl; whole = refl; named = named }

pub changed_same : (r : Revision) (p : Path) (d : Document) → d.id ≡ id.Node p → (c : Change) → is_entry_of r c ≡ true → IsSameBut r p (Some d) (changed d c)
changed_same r p d named (change.Deleted s b) h = record {
  at = λ q k. record { here = ap (option_map not) (other_with d.deleted s q b (moved r s q h k)); prop = λ n. refl; root = refl };
  said = λ q k. refl;
  whole = refl;
  named = named;
}
changed_same r p d named (change.CommitRoot s depth) h = record {
  at = λ q k. record { here = refl; prop = λ n. refl; root = other_with d.commit_root s q depth (moved r s q h k) };
  said = λ q k. refl;
  whole = refl;
  named = named;
}
changed_same r p d named (change.Prop n s x) h = record {
  at = λ q k. record { here = refl; prop = λ m. other_put d.props n m s q x (moved r s q h k); root = refl };
  said = λ q k. refl;
  whole = refl;
  named = named;
}
changed_same r p d named (change.Collision s o item) h = record { at = λ q k. record { here = refl; prop = λ n. refl; root = refl }; said = λ q k. refl; whole = refl; named = named }
changed_same r p d named (change.Touched s) h = record { at = λ q k. record { here = refl; prop = λ n. refl; root = refl }; said = λ q k. refl; whole = refl; named = named }
changed_same r p d named (change.Guard s) h = record { at = λ q k. record { here = refl; prop = λ n. refl; root = refl }; said = λ q k. refl; whole = refl; named = named }
changed_same r p d named (change.LastRev s) h = record { at = λ q k. record { here = refl; prop = λ n. refl; root = refl }; said = λ q k. refl; whole = refl; named = named }
changed_same r p d named (change.SweepRev s) h = record { at = λ q k. record { here = refl; prop = λ n. refl; root = refl }; said = λ q k. refl; whole = refl; named = named }
changed_same r p d named c h = absurd (false≢true h)

-- and `_revisions` is left altogether
changed_said : (r : Revision) (d : Document) (c : Change) → is_entry_of r c ≡ true → (changed d c).revisions ≡ d.revisions
changed_said r d (change.Deleted s b) h = refl
changed_said r d (change.CommitRoot s depth) h = refl
changed_said r d (change.Prop n s x) h = refl
changed_said r d (change.Collision s o item) h = refl
changed_said r d (change.Touched s) h = refl
changed_said r d (change.Guard s) h = refl
changed_said r d (change.LastRev s) h = refl
changed_said r d (change.SweepRev s) h = refl
changed_said r d c h = absurd (false≢true h)

pub same_trans : (r : Revision) (p : Path) (o : Option Document) (d c : Document) → IsSameBut r p o d → IsSameBut r p (Some d) c → IsSameBut r p o c
same_trans r p o d c a b = record {
  at = λ q h. record { here = (b.at q h).here ∙ (a.at q h).here; prop = λ n. (b.at q h).prop n ∙ (a.at q h).prop n; root = (b.at q h).root ∙ (a.at q h).root };
  said = λ q h. b.said q h ∙ a.said q h;
  whole = b.whole ∙ a.whole;
  named = b.named;
}

folded_same : (r : Revision) (p : Path) (o : Option Document) (cs : List Change) (d : Document) → IsSameBut r p o d → list_all (is_entry_of r) cs ≡ true → IsSameBut r p o (fold changed d cs)
folded_same r p o [] d same h = same
folded_same r p o (c ∷ cs) d same h = folded_same r p o cs (changed d c) (same_trans r p o d (changed d c) same (changed_same r p d same.named c (first _ _ h))) (second _ _ h)

folded_said : (r : Revision) (cs : List Change) (d : Document) → list_all (is_entry_of r) cs ≡ true → (fold changed d cs).revisions ≡ d.revisions
folded_said r [] d h = refl
folded_said r (c ∷ cs) d h = folded_said r cs (changed d c) (second _ _ h) ∙ changed_said r d c (first _ _ h)

-- the document that there is, or an empty one
begun_same : (r : Revision) (p : Path) (o : Option Document) → ((d : Document) → o ≡ Some d → d.id ≡ id.Node p) → IsSameBut r p o (document_of o (id.Node p))
begun_same r p None named = record { at = λ q h. record { here = refl; prop = λ n. refl; root = refl }; said = λ q h. refl; whole = refl; named = refl }
begun_same r p (Some d) named = nothing r p d (named d refl)

-- an update of the node at p with entries of r alone
pub update_same : (r : Revision) (p : Path) (o : Option Document) (op : UpdateOp) (number : ℕ) → op.id ≡ id.Node p → ((d : Document) → o ≡ Some d → d.id ≡ id.Node p) → list_all (is_entry_of r) op.changes ≡ true → IsSameBut r p o (after_changes o op number)
update_same r p o op number at named h =
    let same : IsSameBut r p o (fold changed (document_of o op.id) op.changes) = subst (λ i. IsSameBut r p o (fold changed (document_of o i) op.changes)) (sym at) (folded_same r p o op.changes (document_of o (id.Node p)) (begun_same r p o named) h) in
    record { at = λ q k. record { here = (same.at q k).here; prop = (same.at q k).prop; root = (same.at q k).root }; said = same.said; whole = same.whole; named = same.named }

-- it says nothing committed
pub update_said : (r : Revision) (o : Option Document) (op : UpdateOp) (number : ℕ) → list_all (is_entry_of r) op.changes ≡ true → has_revision o r ≡ false → has_revision (Some (after_changes o op number)) r ≡ false
update_said r o op number h unsaid = ap (λ (es : List (Revision × Unit {0})). is_some (of_revision es r)) (folded_said r op.changes (document_of o op.id) h) ∙ by o unsaid
  where
    by : (o : Option Document) → has_revision o r ≡ false → is_some (of_revision (document_of o op.id).revisions r) ≡ false
    by None k = refl
    by (Some d) k = k

-- an update with no status leaves what a document has in `_revisions`
pub update_says : (r q : Revision) (o : Option Document) (op : UpdateOp) (number : ℕ) → list_all (is_entry_of r) op.changes ≡ true → has_revision (Some (after_changes o op number)) q ≡ has_revision o q
update_says r q o op number h = ap (λ (es : List (Revision × Unit {0})). is_some (of_revision es q)) (folded_said r op.changes (document_of o op.id) h) ∙ by o
  where
    by : (o : Option Document) → is_some (of_revision (document_of o op.id).revisions q) ≡ has_revision o q
    by None = refl
    by (Some d) = refl

-- ---- the last write

module _ (r : Revision) (p : Path) (o : Option Document) (op : UpdateOp) (number : ℕ) (at : op.id ≡ id.Node p) (named : (d : Document) → o ≡ Some d → d.id ≡ id.Node p) (only : op.changes ≡ change.Revisions r ∷ []) where
  shape : after_changes o op number ≡ record (changed (document_of o (id.Node p)) (change.Revisions r)) { mod_count = number }
  shape = ap (λ i. record (fold changed (document_of o i) op.changes) { mod_count = number }) at ∙ ap (λ (cs : List Change). record (fold changed (document_of o (id.Node p)) cs) { mod_count = number }) only

  said_of : (o : Option Document) → ((d : Document) → o ≡ Some d → d.id ≡ id.Node p) → IsSameBut r p o (record (changed (document_of o (id.Node p)) (change.Revisions r)) { mod_count = number })
  said_of None named = record { at = λ q h. record { here = refl; prop = λ n. refl; root = refl }; said = λ q h. ap is_some (other_with [] r q tt h); whole = refl; named = refl }
  said_of (Some d) named = record { at = λ q h. record { here = refl; prop = λ n. refl; root = refl }; said = λ q h. ap is_some (other_with d.revisions r q tt h); whole = refl; named = named d refl }

  own_of : (o : Option Document) → IsSameAt r o (record (changed (document_of o (id.Node p)) (change.Revisions r)) { mod_count = number })
  own_of None = record { here = refl; prop = λ n. refl; root = refl }
  own_of (Some d) = record { here = refl; prop = λ n. refl; root = refl }

  pub last_same : IsSameBut r p o (after_changes o op number)
  last_same = subst (λ (d : Document). IsSameBut r p o d) (sym shape) (said_of o named)

  pub last_own : IsSameAt r o (after_changes o op number)
  last_own = subst (λ (d : Document). IsSameAt r o d) (sym shape) (own_of o)

  pub last_said : has_revision (Some (after_changes o op number)) r ≡ true
  last_said = ap (λ (d : Document). has_revision (Some d) r) shape ∙ ap is_some (own_with (document_of o (id.Node p)).revisions r tt)

-- ---- undoing

filled : (n : ℕ) → not (nat_eq (suc n) 0) ≡ true
filled n = grind (arith, nat_tests)

-- the values of a name, where no name stands twice, without those of r
values_without : (r : Revision) (m : Name) (ps : Props) → is_sorted name_cmp ps ≡ true → values_of_property (props_without_revision r ps) m ≡ without_revision r (values_of_property ps m)
values_without r m [] s = refl
values_without r m (e ∷ ps) s = by (eq_by_cmp name_cmp m e.0) refl (without_revision r e.1) refl (values_without r m ps (second _ _ s))
  where
    none : eq_by_cmp name_cmp m e.0 ≡ true → lookup (is_at (name_cmp m)) ps ≡ None
    none k = none_below name_cmp nat_list_cmp_total m e.0 (exactly (name_cmp m e.0) k) ps (first _ _ s)

    by : (b : Bool) → eq_by_cmp name_cmp m e.0 ≡ b → (l : List (Revision × Option Property)) → without_revision r e.1 ≡ l → values_of_property (props_without_revision r ps) m ≡ without_revision r (values_of_property ps m)
        → values_of_property (cond (not (nat_eq (length l) 0)) ((e.0, l) ∷ props_without_revision r ps) (props_without_revision r ps)) m ≡ without_revision r (unwrap_or (cond b (Some e.1) (lookup (is_at (name_cmp m)) ps)) [])
    by true k [] is rest = rest ∙ (ap (λ o. without_revision r (unwrap_or o [])) (none k) ∙ sym is)
    by false k [] is rest = rest
    by true k (x ∷ xs) is rest = ap (λ c. values_of_property (cond c ((e.0, x ∷ xs) ∷ props_without_revision r ps) (props_without_revision r ps)) m) (filled (length xs)) ∙ (ap (λ b. unwrap_or (cond b (Some (x ∷ xs)) (lookup (is_at (name_cmp m)) (props_without_revision r ps))) []) k ∙ sym is)
    by false k (x ∷ xs) is rest = ap (λ c. values_of_property (cond c ((e.0, x ∷ xs) ∷ props_without_revision r ps) (props_without_revision r ps)) m) (filled (length xs)) ∙ (ap (λ b. unwrap_or (cond b (Some (x ∷ xs)) (lookup (is_at (name_cmp m)) (props_without_revision r ps))) []) k ∙ rest)

module _ (r : Revision) (p : Path) (d : Document) (named : d.id ≡ id.Node p) (rise : IsOrderedDocument d) where
  pub undo_same : IsSameBut r p (Some d) (changed d (change.Undo r))
  undo_same = record {
    at = λ q h. record {
      here = ap (option_map not) (other_without r q h d.deleted);
      prop = λ n. ap (λ (es : List (Revision × Option Property)). of_revision es q) (values_without r n d.props rise.names) ∙ other_without r q h (values_of_property d.props n);
      root = other_without r q h d.commit_root;
    };
    said = λ q h. ap is_some (other_without r q h d.revisions);
    whole = refl;
    named = named;
  }

  pub undo_here : here_entry (Some (changed d (change.Undo r))) r ≡ None
  undo_here = ap (option_map not) (own_without r d.deleted)

  pub undo_root : root_entry (Some (changed d (change.Undo r))) r ≡ None
  undo_root = own_without r d.commit_root

  pub undo_prop : (n : Name) → prop_entry (Some (changed d (change.Undo r))) n r ≡ None
  undo_prop n = ap (λ (es : List (Revision × Option Property)). of_revision es r) (values_without r n d.props rise.names) ∙ own_without r (values_of_property d.props n)

  pub undo_said : has_revision (Some d) r ≡ false → has_revision (Some (changed d (change.Undo r))) r ≡ false
  undo_said h = ap is_some (own_without r d.revisions)
