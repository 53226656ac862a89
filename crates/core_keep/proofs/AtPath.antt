-- The documents at a path: what they have is what the node's document has, and then the previous ones that it lists.
use Rattle.std.proofs.Common.{◌≡◌, inl, inr, Bool, true, false, not, Some, None, Option, List, [], ◌∷◌, ◌++◌, refl, sym, ap, ◌∙◌, subst, is_some}
use Rattle.std.specs.Option.{option_and_then, option_map_or, option_map, option_or, unwrap_or}
use Rattle.std.specs.Ordering.{eq_by_cmp}
use Rattle.std.specs.List.{filter_map, cons_option}
use mathlib.Core.Bool.{false≢true}
use Rattle.jr_path.specs.Names.{path_cmp}
use Rattle.jr_path.specs.declared.name.Name.{Name}
use Rattle.jr_path.specs.declared.path.Path.{Path}
use Rattle.jr_path.specs.declared.path.DocId.{DocId}
use Rattle.jr_path.specs.declared.path.DocId.TheVariants as id
use Rattle.jr_value.specs.declared.value.Property.{Property}
use Rattle.jr_rev.specs.declared.revision.Revision.{Revision}
use Rattle.jr_tree.specs.declared.edit.Write.{Write}
use Rattle.jr_tree.proofs.Pointwise.{same_path}
use Rattle.oak_doc.specs.declared.document.Document.{Document}
use Rattle.oak_doc.specs.declared.document.PrevEntry.{PrevEntry}
use Rattle.oak_doc.specs.Updates.{of_revision, values_of_property}
use Rattle.oak_read.specs.Meaning.{Documents, commit_root_of}
use Rattle.oak_read.specs.Shown.{with_previous}
use Rattle.core_read.specs.Holds.{here_entry, prop_entry, has_revision}
use Rattle.core_read.specs.Told.{IsIn}
use Rattle.core_keep.specs.Standing.{all_at, gone_in, values_in}
use Rattle.core_keep.specs.Keeps.{Course, edit_in, Keeps, KeepsAt, KeepsNode, KeepsValue}
use Rattle.core_keep.specs.Steps.{IsChangeAt}
use Rattle.core_keep.proofs.Named.{root_is_node}
use Rattle.core_keep.proofs.Found.{found_append}

-- what a document, if there is one, has in `_deleted` for r
abbrev pub gone_entry : Option Document → Revision → Option Bool
gone_entry o r = option_and_then (λ d. of_revision d.deleted r) o

-- the previous documents that a document lists and that are there
abbrev pub listed : Documents → Path → Option Document → List Document
listed ds p o = filter_map (λ e. ds (id.Prev e.number p)) (option_map_or (λ d. d.prev) o [])

not_both : (a b : Bool) → Some (not a) ≡ Some (not b) → Some a ≡ Some b
not_both true true h = refl
not_both false false h = refl
not_both true false h = absurd (false≢true (ap (λ o. unwrap_or o true) h))
not_both false true h = absurd (false≢true (sym (ap (λ o. unwrap_or o true) h)))

not_maps : (a b : Option Bool) → option_map not a ≡ option_map not b → a ≡ b
not_maps None None h = refl
not_maps (Some a) (Some b) h = not_both a b h
not_maps None (Some b) h = absurd (false≢true (ap is_some h))
not_maps (Some a) None h = absurd (false≢true (sym (ap is_some h)))

pub here_is : (o : Option Document) (r : Revision) → here_entry o r ≡ option_map not (gone_entry o r)
here_is None r = refl
here_is (Some d) r = refl

pub gone_same : (o e : Option Document) (r : Revision) → here_entry o r ≡ here_entry e r → gone_entry o r ≡ gone_entry e r
gone_same o e r h = not_maps _ _ (sym (here_is o r) ∙ (h ∙ here_is e r))

-- what stands at a path
pub gone_split : (ds : Documents) (p : Path) (o : Option Document) (q : Revision) → of_revision (gone_in (option_map_or (with_previous ds p) o [])) q ≡ option_or (gone_entry o q) (of_revision (gone_in (listed ds p o)) q)
gone_split ds p None q = refl
gone_split ds p (Some d) q = found_append d.deleted (gone_in (listed ds p (Some d))) q

pub value_split : (ds : Documents) (p : Path) (o : Option Document) (n : Name) (q : Revision) → of_revision (values_in n (option_map_or (with_previous ds p) o [])) q ≡ option_or (prop_entry o n q) (of_revision (values_in n (listed ds p o)) q)
value_split ds p None n q = refl
value_split ds p (Some d) n q = found_append (values_of_property d.props n) (values_in n (listed ds p (Some d))) q

-- the same of each that is listed
pub same_listed : {A B : Type 0} (f g : A → Option B) (es : List A) → ((e : A) → IsIn e es → f e ≡ g e) → filter_map f es ≡ filter_map g es
same_listed f g [] same = refl
same_listed f g (e ∷ es) same = ap (λ o. cons_option o (filter_map f es)) (same e (inl refl)) ∙ ap (cons_option (g e)) (same_listed f g es (λ x i. same x (inr i)))

pub same_all : (ds now : Documents) (p q : Path) → now (id.Node q) ≡ ds (id.Node q) → ((d : Document) (e : PrevEntry) → ds (id.Node q) ≡ Some d → IsIn e d.prev → now (id.Prev e.number q) ≡ ds (id.Prev e.number q)) → all_at now q ≡ all_at ds q
same_all ds now p q node previous = ap (λ o. option_map_or (with_previous now q) o []) node ∙ by (ds (id.Node q)) refl
  where
    by : (o : Option Document) → ds (id.Node q) ≡ o → option_map_or (with_previous now q) o [] ≡ option_map_or (with_previous ds q) o []
    by None h = refl
    by (Some d) h = ap (λ l. d ∷ l) (same_listed (λ e. now (id.Prev e.number q)) (λ e. ds (id.Prev e.number q)) d.prev (λ e i. previous d e h i))

-- ---- a step on the documents at a path

module _ (ds now : Documents) (c : Course) (keeps : Keeps ds c) (said : (x : Path) (r : Revision) (ws : List Write) → edit_in c r ≡ Some ws → c.swept r ≡ false → has_revision (ds (id.Node x)) r ≡ true → has_revision (now (id.Node x)) r ≡ true) where
  -- a status that is said is said still
  pub still_said : (q : Path) (x : Document) → IsIn x (all_at ds q) → (r : Revision) (ws : List Write) → edit_in c r ≡ Some ws → c.swept r ≡ false → (i : DocId) → commit_root_of x r ≡ i → has_revision (ds i) r ≡ true → has_revision (now i) r ≡ true
  still_said q x i r ws e s j same h =
      let root = root_is_node ds c q (keeps q) x i r in
      let one : j ≡ id.Node root.0 = sym same ∙ root.1 in
      subst (λ (k : DocId). has_revision (now k) r ≡ true) (sym one) (said root.0 r ws e s (ap (λ k. has_revision (ds k) r) (sym one) ∙ h))

  -- where the documents of a path stay as they are
  pub same_keeps : (q : Path) → now (id.Node q) ≡ ds (id.Node q) → ((d : Document) (e : PrevEntry) → ds (id.Node q) ≡ Some d → IsIn e d.prev → now (id.Prev e.number q) ≡ ds (id.Prev e.number q)) → KeepsAt now c q
  same_keeps q node previous =
      let at : KeepsAt ds c q = keeps q in
      let all : all_at now q ≡ all_at ds q = same_all ds now q q node previous in
      record {
        node = subst (λ l. KeepsNode c q (gone_in l)) (sym all) at.node;
        prop = λ n. subst (λ l. KeepsValue c q n (values_in n l)) (sym all) (at.prop n);
        rooted = λ x i r ws e s entry. let j : IsIn x (all_at ds q) = subst (λ l. IsIn x l) all i in still_said q x j r ws e s _ refl (at.rooted x j r ws e s entry);
        unsaid = λ r e o. ap (λ d. has_revision d r) node ∙ at.unsaid r e o;
        no_root = λ r e o f. ap (λ d. Rattle.core_read.specs.Holds.root_entry d r) node ∙ at.no_root r e o f;
        named = λ d h. at.named d (sym node ∙ h);
        previous = λ d h e i x there. at.previous d (sym node ∙ h) e i x (sym (previous d e (sym node ∙ h) i) ∙ there);
      }

  pub step_keeps : (p : Path) → IsChangeAt ds now p → KeepsAt now c p → Keeps now c
  step_keeps p elsewhere here q = by (eq_by_cmp path_cmp q p) refl
    where
      by : (b : Bool) → eq_by_cmp path_cmp q p ≡ b → KeepsAt now c q
      by true h = subst (λ (x : Path). KeepsAt now c x) (sym (same_path q p h)) here
      by false h = same_keeps q (elsewhere.node q h) (λ d e k i. elsewhere.previous e.number q h)

-- ---- what is listed

-- no previous document has an entry of `_deleted`
pub plain_listed : (ds : Documents) (c : Course) (p : Path) (d : Document) → ((e : PrevEntry) → IsIn e d.prev → (x : Document) → ds (id.Prev e.number p) ≡ Some x → x.deleted ≡ []) → gone_in (listed ds p (Some d)) ≡ []
plain_listed ds c p d plain = over d.prev plain
  where
    over : (es : List PrevEntry) → ((e : PrevEntry) → IsIn e es → (x : Document) → ds (id.Prev e.number p) ≡ Some x → x.deleted ≡ []) → gone_in (filter_map (λ e. ds (id.Prev e.number p)) es) ≡ []
    over [] plain = refl
    over (e ∷ es) plain = by (ds (id.Prev e.number p)) refl (over es (λ f i. plain f (inr i)))
      where
        by : (o : Option Document) → ds (id.Prev e.number p) ≡ o → gone_in (filter_map (λ e. ds (id.Prev e.number p)) es) ≡ [] → gone_in (cons_option o (filter_map (λ e. ds (id.Prev e.number p)) es)) ≡ []
        by None h rest = rest
        by (Some x) h rest = ap (λ l. l ++ gone_in (filter_map (λ e. ds (id.Prev e.number p)) es)) (plain e (inl refl) x h) ∙ rest

-- a value over some documents is one of them
pub value_from : (n : Name) (all : List Document) (q : Revision) (v : Option Property) → of_revision (values_in n all) q ≡ Some v → (x : Document) × IsIn x all × (of_revision (values_of_property x.props n) q ≡ Some v)
value_from n [] q v h = absurd (false≢true (ap is_some h))
value_from n (d ∷ all) q v h = by (λ k. value_from n all q v k) (of_revision (values_of_property d.props n) q) refl (sym (found_append (values_of_property d.props n) (values_in n all) q) ∙ h)
  where
    by : (of_revision (values_in n all) q ≡ Some v → (x : Document) × IsIn x all × (of_revision (values_of_property x.props n) q ≡ Some v)) → (o : Option (Option Property)) → of_revision (values_of_property d.props n) q ≡ o
        → option_or o (of_revision (values_in n all) q) ≡ Some v → (x : Document) × IsIn x (d ∷ all) × (of_revision (values_of_property x.props n) q ≡ Some v)
    by rest (Some w) e h = (d, inl refl, e ∙ h)
    by rest None e h = let r = rest h in (r.0, inr r.1, r.2)
