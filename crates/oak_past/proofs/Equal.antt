-- What `==` says of names and vectors.
use Rattle.std.proofs.Common.{◌≡◌, ℕ, Bool, true, false, ◌&&◌, ◌==◌, Option, Some, None, List, refl, sym, ap, subst, ◌∙◌}
use Rattle.std.specs.Prelude.{is_some, unwrap_or}
use Rattle.std.specs.Bool.{Decides}
use Rattle.std.specs.Option.{option_eq}
use Rattle.std.specs.declared.cmp.Ordering.{Ordering}
use Rattle.std.specs.declared.cmp.Ordering.TheVariants.{Less, Equal, Greater}
use Rattle.std.specs.Ordering.{eq_by_cmp, is_eq}
use Rattle.std.specs.Cmp.Lexicographic.{pointwise}
use Rattle.std.proofs.lemmas.Cmp.{tied_itself}
use Rattle.jr_path.specs.Names.{name_cmp}
use Rattle.jr_path.proofs.Maps.{name_exact}
use Rattle.std.specs.Cmp.{IsTotalOrder}
use Rattle.std.specs.Cmp.Lexicographic.{lists_total}
use Rattle.std.proofs.lemmas.Cmp.{nat_cmp_total}
use Rattle.std.proofs.lemmas.Bool.Decides.{Decides-eqb}
use Rattle.std.proofs.lemmas.Slice.Eq.{slice_eq-Decides}
use mathlib.Core.Bool.{false≢true}
use Rattle.jr_path.specs.declared.name.Name.{Name}
use Rattle.jr_path.specs.declared.path.Item.{Item}
use Rattle.oak_clash.specs.declared.mark.Mark.{Mark}
use Rattle.oak_clash.specs.declared.mark.Mark.TheVariants.{Prop}
use Rattle.oak_clash.specs.Clashes.{marked_item}
use Rattle.jr_rev.specs.declared.revision.Revision.{Revision}

tied : (o : Ordering) → is_eq o ≡ true → o ≡ Equal
tied Less h = absurd (false≢true h)
tied Equal h = refl
tied Greater h = absurd (false≢true h)

name_total : IsTotalOrder name_cmp
name_total = lists_total nat_cmp_total

same_names : (m n : Name) (r : Bool) → r ≡ eq_by_cmp name_cmp m n → Decides r (m ≡ n)
same_names m n r e = (
  λ t. name_exact m n (tied (name_cmp m n) (sym e ∙ t)),
  λ p. e ∙ ap is_eq (subst (λ (x : Name). name_cmp m x ≡ Equal) p (tied_itself name_total m)),
)

-- the item of a property
pub is_property : (m n : Name) (mark : Mark) (item : Item) (r : Bool) → r ≡ eq_by_cmp name_cmp m n → mark ≡ Prop m → item.name ≡ Some n → Decides r (marked_item item.path mark ≡ item)
is_property m n mark item r e marked named =
    let d = same_names m n r e in (
      λ t. ap (marked_item item.path) marked ∙ ap (λ (x : Option Name). record { path = item.path; name = x }) (ap Some (d.0 t) ∙ sym named),
      λ p. d.1 (ap (λ (x : Option Name). unwrap_or x m) (ap (λ (i : Item). i.name) (sym (ap (marked_item item.path) marked) ∙ p) ∙ named)),
    )

abbrev pub same_revision : Revision → Revision → Bool
same_revision a b = a.time == b.time && (a.counter == b.counter && a.cluster == b.cluster)

both : (a b : Bool) → (a && b) ≡ true → (a ≡ true) × (b ≡ true)
both true b h = (refl, h)
both false b h = absurd (false≢true h)

join : (a b : Bool) → a ≡ true → b ≡ true → (a && b) ≡ true
join true b h k = k
join false b h k = absurd (false≢true h)

same_parts : (a b : Revision) → a.time ≡ b.time → a.counter ≡ b.counter → a.cluster ≡ b.cluster → a ≡ b
same_parts a b e f g =
    ap (λ (x : ℕ). record { time = x; counter = a.counter; cluster = a.cluster }) e
    ∙ (ap (λ (x : ℕ). record { time = b.time; counter = x; cluster = a.cluster }) f ∙ ap (λ (x : ℕ). record { time = b.time; counter = b.counter; cluster = x }) g)

same_revisions : (a b : Revision) → Decides (same_revision a b) (a ≡ b)
same_revisions a b = (
  λ h.
      let p = both (a.time == b.time) _ h in
      let q = both (a.counter == b.counter) (a.cluster == b.cluster) p.1 in
      same_parts a b ((Decides-eqb a.time b.time).0 p.0) ((Decides-eqb a.counter b.counter).0 q.0) ((Decides-eqb a.cluster b.cluster).0 q.1),
  λ e. join (a.time == b.time) _ ((Decides-eqb a.time b.time).1 (ap (λ (r : Revision). r.time) e))
      (join (a.counter == b.counter) (a.cluster == b.cluster) ((Decides-eqb a.counter b.counter).1 (ap (λ (r : Revision). r.counter) e)) ((Decides-eqb a.cluster b.cluster).1 (ap (λ (r : Revision). r.cluster) e))),
)

same_entries : (a b : Option Revision) → Decides (option_eq same_revision a b) (a ≡ b)
same_entries None None = (λ h. refl, λ e. refl)
same_entries None (Some b) = (λ h. absurd (false≢true h), λ e. absurd (false≢true (ap is_some e)))
same_entries (Some a) None = (λ h. absurd (false≢true h), λ e. absurd (false≢true (sym (ap is_some e))))
same_entries (Some a) (Some b) = (λ h. ap Some ((same_revisions a b).0 h), λ e. (same_revisions a b).1 (ap (λ (x : Option Revision). unwrap_or x a) e))

pub same_vectors : (v w : List (Option Revision)) (r : Bool) → r ≡ pointwise (option_eq same_revision) v w → Decides r (v ≡ w)
same_vectors v w r e = slice_eq-Decides same_entries v w r e
