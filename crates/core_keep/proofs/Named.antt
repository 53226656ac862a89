-- The names of the documents at a path, and where their commit roots are.
use Rattle.std.proofs.Common.{◌≡◌, inl, inr, ℕ, take, Some, None, Option, List, [], ◌∷◌, refl, sym, ap, ◌∙◌}
use Rattle.std.specs.Option.{option_map_or, unwrap_or}
use Rattle.std.specs.List.{filter_map, cons_option}
use Rattle.jr_path.specs.declared.path.Path.{Path}
use Rattle.jr_path.specs.declared.path.DocId.TheVariants as id
use Rattle.jr_rev.specs.declared.revision.Revision.{Revision}
use Rattle.oak_doc.specs.declared.document.Document.{Document}
use Rattle.oak_doc.specs.declared.document.PrevEntry.{PrevEntry}
use Rattle.oak_doc.specs.Updates.{of_revision}
use Rattle.oak_read.specs.Meaning.{Documents, commit_root_of, main_of, path_of}
use Rattle.oak_read.specs.Shown.{with_previous}
use Rattle.core_read.specs.Told.{IsIn}
use Rattle.core_keep.specs.Standing.{all_at}
use Rattle.core_keep.specs.Keeps.{Course, KeepsAt}

-- a listed previous document that is there is among them
pub previous_in : (ds : Documents) (p : Path) (es : List PrevEntry) (x : Document) → IsIn x (filter_map (λ e. ds (id.Prev e.number p)) es) → (e : PrevEntry) × IsIn e es × (ds (id.Prev e.number p) ≡ Some x)
previous_in ds p [] x i = absurd i
previous_in ds p (e ∷ es) x i = by (λ j. let q = previous_in ds p es x j in (q.0, inr q.1, q.2)) (ds (id.Prev e.number p)) refl i
  where
    by : (IsIn x (filter_map (λ e. ds (id.Prev e.number p)) es) → (f : PrevEntry) × IsIn f (e ∷ es) × (ds (id.Prev f.number p) ≡ Some x)) → (o : Option Document) → ds (id.Prev e.number p) ≡ o → IsIn x (cons_option o (filter_map (λ e. ds (id.Prev e.number p)) es)) → (f : PrevEntry) × IsIn f (e ∷ es) × (ds (id.Prev f.number p) ≡ Some x)
    by rest None h i = rest i
    by rest (Some y) h (inl same) = (e, inl refl, h ∙ ap (λ (z : Document). Some z) same)
    by rest (Some y) h (inr i) = rest i

module _ (ds : Documents) (c : Course) (p : Path) (at : KeepsAt ds c p) where
  -- the document of the node has its name, and so has each that it lists
  pub main_named : (x : Document) → IsIn x (all_at ds p) → main_of x.id ≡ id.Node p
  main_named x i = by (ds (id.Node p)) refl i
    where
      by : (o : Option Document) → ds (id.Node p) ≡ o → IsIn x (option_map_or (with_previous ds p) o []) → main_of x.id ≡ id.Node p
      by None h i = absurd i
      by (Some d) h (inl same) = ap (λ (y : Document). main_of y.id) (sym same) ∙ ap main_of (at.named d h)
      by (Some d) h (inr i) =
          let q = previous_in ds p d.prev x i in
          ap main_of (at.previous d h q.0 q.1 x q.2).named

  pub root_is_node : (x : Document) → IsIn x (all_at ds p) → (r : Revision) → (q : Path) × (commit_root_of x r ≡ id.Node q)
  root_is_node x i r = by (of_revision x.commit_root r)
    where
      by : (o : Option ℕ) → (q : Path) × (option_map_or (λ depth. id.Node (take depth (path_of x.id))) o (main_of x.id) ≡ id.Node q)
      by None = (p, main_named x i)
      by (Some depth) = (take depth (path_of x.id), refl)
