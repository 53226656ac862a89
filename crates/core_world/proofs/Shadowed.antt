-- Whom a committer would meet in a previous document, there is a later one in the document itself whom it meets in the same property.
use Rattle.std.proofs.Common.{◌≡◌, ◌⊎◌, ℕ, Bool, true, false, Some, None, Option, List, [], filter_map, is_some, refl, sym, ap, ◌∙◌, subst, inl, inr}
use Rattle.std.specs.List.{list_any}
use Rattle.std.specs.Option.{option_map_or, option_or, unwrap_or}
use mathlib.Core.Bool.{false≢true}
use Rattle.jr_path.specs.declared.name.Name.{Name}
use Rattle.jr_path.specs.declared.path.DocId.TheVariants as id
use Rattle.jr_path.specs.declared.path.Path.{Path}
use Rattle.jr_rev.specs.declared.revision.Revision.{Revision}
use Rattle.jr_rev.specs.Revisions.{is_before}
use Rattle.jr_rev.specs.Vectors.{sees, start_of}
use Rattle.jr_tree.specs.Items.{put_of, written}
use Rattle.jr_value.specs.declared.value.Property.{Property}
use Rattle.oak_clash.specs.declared.mark.Mark.TheVariants.{Prop}
use Rattle.oak_commit.specs.Clashing.{marked}
use Rattle.oak_doc.specs.declared.document.Document.{Document}
use Rattle.oak_doc.specs.declared.document.PrevEntry.{PrevEntry}
use Rattle.oak_doc.specs.Updates.{of_revision, values_of_property}
use Rattle.oak_machine.specs.Commits.{is_committed}
use Rattle.oak_machine.specs.Laws.{Says, Starts, StartsProper}
use Rattle.oak_read.specs.Meaning.{documents_in}
use Rattle.oak_read.specs.Shown.{with_previous}
use Rattle.core_read.specs.Told.{IsIn}
use Rattle.core_heads.proofs.Runs.{held_in_use}
use Rattle.core_clash.specs.Sessions.{IsTheirs, Running}
use Rattle.core_clash.specs.Sound.{has_moved}
use Rattle.core_keep.specs.Standing.{all_at, values_in}
use Rattle.core_keep.proofs.AtPath.{listed, value_split}
use Rattle.core_keep.proofs.Item.{some_of}
use Rattle.core_world.specs.Kept.{AreSessionsKept}
use Rattle.core_world.specs.States.{State, moved_in, nodes_in, origin}
use Rattle.core_world.proofs.Bounded.{flying_pinned}
use Rattle.core_world.proofs.Collects.{in_listed}
use Rattle.core_world.proofs.Readers.{pinned_held}
use Rattle.core_world.proofs.Splitting.{any_in, edit_done, edit_or_old, later_edit}
use Rattle.core_begun.proofs.Sound.{found as edit_is}
use Rattle.core_begun.proofs.Course.{downward}
use Rattle.core_begun.specs.Told.{IsInUseSince}
use Rattle.core_begun.proofs.Runs.{in_use_since}
use Rattle.core_keep.specs.Keeps.{edit_in, is_done}
use Rattle.core_keep.specs.From.{course_from}
use Rattle.core_read.proofs.Told.{base_is as base_sees}
use Rattle.jr_tree.specs.declared.edit.Write.{Write}

module _ (starts : Starts) (says : Says) (proper : StartsProper starts) (w : State) (kept : AreSessionsKept starts says w) (s : ℕ) (x : Running) (here : w.running s ≡ Some x) where
  its : IsTheirs w.past kept.committing.writers s x
  its = kept.committing.theirs s x here

  -- its base is in use still
  pub base_used : IsInUseSince (origin w) w.past x.draw.base
  base_used = in_use_since (origin w) w.past x.draw.base (held_in_use w.begin w.past x.draw.base
      (pinned_held starts says w.clusters w.sessions w.begin kept.nodes w.past kept.run x.draw.session x.draw.base (flying_pinned starts says w.clusters w.sessions w.begin w.past x.draw.revision x.draw kept.run its.draw its.unended)))
      (λ o old. sym (base_sees w.past x.draw.revision x.draw its.draw o) ∙ kept.committing.sound.start x.draw.revision (ap is_some its.draw) o old)

  -- what it doesn't see wasn't there from the beginning
  own_edit : (o : Revision) → sees x.draw.base o ≡ false → is_done (course_from (origin w) w.past) o ≡ true → (us : List Write) × (edit_in (course_from (origin w) w.past) o ≡ Some us)
  own_edit o outside d = elim (edit_or_old (origin w) w.past o d) [ inl e ↦ e | inr old ↦ absurd (false≢true (sym outside ∙ base_used.begun o old)) ]

  pub shadowed : (p : Path) (o : Revision) (n : Name) → list_any (has_moved o (Prop n)) (moved_in w.table p) ≡ true → sees x.draw.base o ≡ false
      → (q : Revision) × (is_before o q ≡ true) × (sees x.draw.base q ≡ false) × ((sees (origin w).at q ≡ true) ⊎ (is_committed w.past q ≡ true)) × (marked (nodes_in w.table p) q (Prop n) ≡ true)
  shadowed p o n h outside = by (nodes_in w.table p) refl
    where
      old_case : (old : Document) → nodes_in w.table p ≡ Some old → (f : Document) × IsIn f (moved_in w.table p) × (has_moved o (Prop n) f ≡ true)
          → (q : Revision) × (is_before o q ≡ true) × (sees x.draw.base q ≡ false) × ((sees (origin w).at q ≡ true) ⊎ (is_committed w.past q ≡ true)) × (marked (nodes_in w.table p) q (Prop n) ≡ true)
      old_case old there f =
          let world = kept.committing.kept in
          let l = in_listed (λ (e : PrevEntry). documents_in w.table.documents (id.Prev e.number p)) old.prev f.0
          (subst (λ (l : List Document). IsIn f.0 l) (ap (λ (o : Option Document). option_map_or (λ d. filter_map (λ (e : PrevEntry). documents_in w.table.documents (id.Prev e.number p)) d.prev) o []) there) f.1) in
          let y = (world.keeps p).previous old there l.0 l.1 f.0 l.2 in
          let has : is_some (of_revision (values_of_property (f.0).props n) o) ≡ true = f.2 in
          let b = y.behind n o has in
          let us = own_edit o outside (y.done n o has) in
          let vs = later_edit (origin w) w.past world.told o b.0 b.1 us.0 us.1 b.2 in
          let mine = some_of (of_revision (values_of_property (f.0).props n) o) has in
          let late = some_of (of_revision (values_of_property old.props n) b.0) b.3 in
          let wrote : written (put_of p n) us.0 ≡ Some mine.0 = y.genuine n o us.0 mine.0 us.1 mine.1 in
          let stands : of_revision (values_in n (all_at (documents_in w.table.documents) p)) b.0 ≡ Some late.0 =
          ap (λ (o : Option Document). of_revision (values_in n (option_map_or (with_previous (documents_in w.table.documents) p) o [])) b.0) there
          ∙ (value_split (documents_in w.table.documents) p (Some old) n b.0 ∙ ap (λ (o : Option (Option Property)). option_or o (of_revision (values_in n (listed (documents_in w.table.documents) p (Some old))) b.0)) late.1) in
          let wrote_late : written (put_of p n) vs.0 ≡ Some late.0 = ((world.keeps p).prop n).genuine b.0 vs.0 late.0 vs.1 stands in (
            b.0,
            b.1,
            unseen b.0 (sees x.draw.base b.0) refl ((downward (origin w) w.past world.told world.separate (sees x.draw.base) base_used.closed).prop p n b.0 o vs.0 us.0 vs.1 us.1 (ap is_some wrote_late) (ap is_some wrote) b.1),
            edit_done (origin w) w.past b.0 b.2,
            ap (λ (d : Option Document). marked d b.0 (Prop n)) there ∙ b.3,
          )
        where
          unseen : (q : Revision) (b : Bool) → sees x.draw.base q ≡ b → (sees x.draw.base q ≡ true → sees x.draw.base o ≡ true) → sees x.draw.base q ≡ false
          unseen q false e down = e
          unseen q true e down = absurd (false≢true (sym outside ∙ down e))

      by : (d : Option Document) → nodes_in w.table p ≡ d → (q : Revision) × (is_before o q ≡ true) × (sees x.draw.base q ≡ false) × ((sees (origin w).at q ≡ true) ⊎ (is_committed w.past q ≡ true)) × (marked (nodes_in w.table p) q (Prop n) ≡ true)
      by None is = absurd (false≢true (subst (λ (l : List Document). list_any (has_moved o (Prop n)) l ≡ true) (ap (λ (d : Option Document). option_map_or (λ d. filter_map (λ (e : PrevEntry). documents_in w.table.documents (id.Prev e.number p)) d.prev) d []) is) h))
      by (Some old) is = old_case old is (any_in (has_moved o (Prop n)) (moved_in w.table p) h)
