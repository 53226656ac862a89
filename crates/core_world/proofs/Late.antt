-- What a split keeps of the document that it has read, while others go on; so what it writes late is a copy of what the former document had.
use Rattle.std.proofs.Common.{◌≡◌, ◌<◌, ◌⊎◌, inl, inr, ℕ, Bool, true, false, cond, ◌&&◌, ◌||◌, Some, None, Option, List, [], refl, sym, ap, ◌∙◌, subst, is_some}
use Rattle.std.specs.Prelude.{◌==◌}
use Rattle.std.specs.Option.{option_map_or, unwrap_or}
use Rattle.std.specs.Ordering.{eq_by_cmp}
use mathlib.Core.Bool.{false≢true}
use Rattle.jr_path.specs.Names.{path_cmp}
use Rattle.jr_path.specs.declared.name.Name.{Name}
use Rattle.jr_path.specs.declared.path.DocId.TheVariants as id
use Rattle.jr_path.specs.declared.path.Path.{Path}
use Rattle.jr_rev.specs.declared.revision.Revision.{Revision}
use Rattle.jr_rev.specs.declared.vector.Pin.{Pin}
use Rattle.jr_rev.specs.Vectors.{sees}
use Rattle.jr_rev.proofs.Entries.{number_same}
use Rattle.jr_tree.specs.declared.edit.Write.{Write}
use Rattle.jr_tree.proofs.Pointwise.{same_path}
use Rattle.oak_doc.specs.declared.document.Document.{Document}
use Rattle.oak_doc.specs.declared.document.PrevEntry.{PrevEntry}
use Rattle.oak_doc.specs.Updates.{after_changes, of_revision, values_of_property}
use Rattle.oak_machine.specs.History.{Past}
use Rattle.oak_read.specs.Meaning.{Documents, commit_root_of, documents_in, is_committed, main_of}
use Rattle.oak_read.specs.Shown.{with_previous}
use Rattle.oak_store.specs.Tables.{Table}
use Rattle.core_read.specs.Holds.{has_revision}
use Rattle.core_read.specs.World.{Progress}
use Rattle.core_keep.specs.Formers.{Former, former_now, Formers, IsCopyOf, with_former}
use Rattle.core_keep.specs.Keeps.{edit_in, KeepsAt, is_done}
use Rattle.core_keep.specs.Splits.{previous_write, IsInOrder}
use Rattle.core_keep.specs.Standing.{all_at, values_in}
use Rattle.core_keep.proofs.Found.{among}
use Rattle.core_keep.proofs.Item.{and_both, either_true}
use Rattle.core_keep.proofs.Splits.{split_copies}
use Rattle.core_keep.proofs.Staying.{root_named}
use Rattle.core_world.specs.Collecting.{MaySplit}
use Rattle.core_world.specs.Numbers.{last_number, AreNumbered, IsNumberStep, IsSplitting}
use Rattle.core_world.specs.States.{State, nodes_in, origin}
use Rattle.core_world.proofs.Numbers.{first_listed, read_now, read_on}
use Rattle.oak_machine.specs.declared.event.Start.{Start}
use Rattle.core_begun.proofs.Sound.{found as edit_is}
use Rattle.core_begun.proofs.Collecting.{held_pair}
use Rattle.core_begun.specs.Kept.{IsHeldSince, IsKeptSince}
use Rattle.core_keep.specs.From.{course_from}
use Rattle.core_begun.specs.Told.{edit_since, IsToldSince}

-- ---- a split reads the document

module _ (start : Start) (past : Past) (t : Table) (done : Progress) (world : IsKeptSince start (documents_in t.documents) past done) where
  abbrev at : (p : Path) → KeepsAt (documents_in t.documents) (course_from start past) p
  at p = world.keeps p

  -- what a document says is committed
  said_now : (q : Path) (d : Document) → documents_in t.documents (id.Node q) ≡ Some d → (r : Revision) → has_revision (Some d) r ≡ true → is_done (course_from start past) r ≡ true
  said_now q d is r says = by (edit_in (course_from start past) r) refl (sees start.at r) refl
    where
      by : (o : Option (List Write)) → edit_in (course_from start past) r ≡ o → (b : Bool) → sees start.at r ≡ b → (is_some o || b) ≡ true
      by (Some ws) e b f = refl
      by None e true f = refl
      by None e false f = absurd (false≢true (sym (ap (λ o. has_revision o r) (sym is) ∙ (at q).unsaid r e f) ∙ says))

  pub splitting_begins : (formers : Formers) (known : Documents) (pin : Pin) (p : Path) (old : Document) → AreNumbered t formers → IsHeldSince start past pin.base pin.sweep → nodes_in t p ≡ Some old → IsInOrder old
      → ((q : Path) (d : Document) → known (id.Node q) ≡ Some d → nodes_in t q ≡ Some d) → IsSplitting start past t formers known pin p old
  splitting_begins formers known pin p old numbered held is order inside = record {
    named = (at p).named old is;
    order = order;
    read = read_now t formers numbered (id.Node p) old is;
    swept = λ n r there seen. swept n r there seen (edit_in (course_from start past) r) refl (sees start.at r) refl;
    said = λ q d h r says. said_now q d (inside q d h) r says;
    former = λ f h. absurd (false≢true (ap is_some (sym (first_listed t formers numbered p old is) ∙ h)));
  }
    where
      swept : (n : Name) (r : Revision) → is_some (of_revision (values_of_property old.props n) r) ≡ true → sees pin.sweep r ≡ true → (o : Option (List Write)) → edit_in (course_from start past) r ≡ o → (b : Bool) → sees start.at r ≡ b → (is_some o || b) ≡ true
      swept n r there seen (Some ws) e b f = refl
      swept n r there seen None e true f = refl
      swept n r there seen None e false f =
          let stands : is_some (of_revision (values_in n (all_at (documents_in t.documents) p)) r) ≡ true =
          among (λ d. values_of_property d.props n) (all_at (documents_in t.documents) p) old (subst (λ l. Rattle.core_read.specs.Told.IsIn old l) (sym (ap (λ o. option_map_or (with_previous (documents_in t.documents) p) o []) is)) (inl refl)) r there in
          absurd (false≢true (sym (ap is_some (((at p).prop n).none_else r e f ((held_pair start past pin.base pin.sweep held).done r seen e))) ∙ stands))

  -- it comes to know more commit roots
  pub splitting_knows : (formers : Formers) (known more : Documents) (pin : Pin) (p : Path) (old : Document) → IsSplitting start past t formers known pin p old → ((q : Path) (d : Document) → more (id.Node q) ≡ Some d → (known (id.Node q) ≡ Some d) ⊎ (nodes_in t q ≡ Some d)) → IsSplitting start past t formers more pin p old
  splitting_knows formers known more pin p old splits inside = record {
    named = splits.named;
    order = splits.order;
    read = splits.read;
    swept = splits.swept;
    said = λ q d h r says. elim (inside q d h) [ inl was ↦ splits.said q d was r says | inr now ↦ said_now q d now r says ];
    former = splits.former;
  }

-- ---- others go on

-- steps by which no former document comes
pub splitting_on : (start : Start) (t u : Table) (past later : Past) (formers : Formers) (known : Documents) (pin : Pin) (p : Path) (old : Document) → IsNumberStep t u → ((r : Revision) → is_done (course_from start past) r ≡ true → is_done (course_from start later) r ≡ true)
    → ((r : Revision) → sees pin.base r ≡ true → is_done (course_from start later) r ≡ true → is_done (course_from start past) r ≡ true) → IsSplitting start past t formers known pin p old → IsSplitting start later u formers known pin p old
splitting_on start t u past later formers known pin p old step edits settled splits = record {
  named = splits.named;
  order = splits.order;
  read = read_on t u step (id.Node p) old splits.read;
  swept = λ n r there seen. edits r (splits.swept n r there seen);
  said = λ q d h r says. edits r (splits.said q d h r says);
  former = λ f h. let g = splits.former f h in (g.0, λ r seen e. g.1 r seen (settled r seen e));
}

-- another split lists its previous document
pub splitting_beside : (start : Start) (t u : Table) (past : Past) (formers : Formers) (known : Documents) (pin : Pin) (p q : Path) (old its : Document) → IsNumberStep t u → nodes_in t q ≡ Some its → its.mod_count < last_number → IsSplitting start past t formers known pin p old → IsToldSince start past
    → IsSplitting start past u (with_former formers q its.mod_count (former_now (course_from start past) its)) known pin p old
splitting_beside start t u past formers known pin p q old its step is early splits told = record {
  named = splits.named;
  order = splits.order;
  read = read_on t u step (id.Node p) old splits.read;
  swept = splits.swept;
  said = splits.said;
  former = λ f h. by f h (eq_by_cmp path_cmp p q) refl (old.mod_count == its.mod_count) refl;
}
  where
    g : Former
    g = former_now (course_from start past) its

    by : (f : Former) → with_former formers q its.mod_count (former_now (course_from start past) its) p old.mod_count ≡ Some f → (a : Bool) → eq_by_cmp path_cmp p q ≡ a → (b : Bool) → (old.mod_count == its.mod_count) ≡ b
        → (f.document ≡ old) × ((r : Revision) → sees pin.base r ≡ true → is_done (course_from start past) r ≡ true → f.done r ≡ true)
    by f h false m b n = splits.former f (sym (ap (λ c. cond (c && (old.mod_count == its.mod_count)) (Some (former_now (course_from start past) its)) (formers p old.mod_count)) m) ∙ h)
    by f h true m false n = splits.former f (sym (ap (λ c. cond (c && (old.mod_count == its.mod_count)) (Some (former_now (course_from start past) its)) (formers p old.mod_count)) m ∙ ap (λ c. cond c (Some (former_now (course_from start past) its)) (formers p old.mod_count)) n) ∙ h)
    by f h true m true n =
        let one : former_now (course_from start past) its ≡ f = ap (λ o. unwrap_or o (former_now (course_from start past) its)) (sym (ap (λ c. cond (c && (old.mod_count == its.mod_count)) (Some (former_now (course_from start past) its)) (formers p old.mod_count)) m ∙ ap (λ c. cond c (Some (former_now (course_from start past) its)) (formers p old.mod_count)) n) ∙ h) in
        let number : old.mod_count ≡ its.mod_count = number_same old.mod_count its.mod_count n in
        let same : its ≡ old = splits.read.same (subst (λ (k : ℕ). k < last_number) (sym number) early) its (ap (nodes_in t) (same_path p q m) ∙ is) (sym number) in
        (ap (λ (x : Former). x.document) (sym one) ∙ same, λ r seen e. ap (λ (x : Former). x.done r) (sym one) ∙ e)

-- ---- what it writes

module _ (start : Start) (past : Past) (t : Table) (formers : Formers) (known : Documents) (pin : Pin) (p : Path) (old : Document) (splits : IsSplitting start past t formers known pin p old) where
  -- what counts in what it has read is committed
  pub splitting_counts : (n : Name) (r : Revision) → is_some (of_revision (values_of_property old.props n) r) ≡ true → (sees pin.base r && is_committed known pin.sweep old r) ≡ true → is_done (course_from start past) r ≡ true
  splitting_counts n r there h = by (either_true (sees pin.sweep r) _ (and_both (sees pin.base r) _ h).1)
    where
      root : (q : Path) × (commit_root_of old r ≡ id.Node q)
      root = root_named old p (ap main_of splits.named) r

      says : (o : Option Document) → known (id.Node root.0) ≡ o → has_revision o r ≡ true → is_done (course_from start past) r ≡ true
      says None e k = absurd (false≢true k)
      says (Some d) e k = splits.said root.0 d e r k

      by : (sees pin.sweep r ≡ true) ⊎ (has_revision (known (commit_root_of old r)) r ≡ true) → is_done (course_from start past) r ≡ true
      by (inl seen) = splits.swept n r there seen
      by (inr said) = says (known (id.Node root.0)) refl (ap (λ j. has_revision (known j) r) (sym root.1) ∙ said)

  -- what it writes is a copy of what the former document of its number had, be there one meanwhile
  pub splitting_copies : (number : ℕ) (f : Former) → formers p old.mod_count ≡ Some f → IsCopyOf p old.mod_count f (after_changes None (previous_write known pin old) number)
  splitting_copies number f h =
      let g = splits.former f h in
      split_copies known pin old (record { number = old.mod_count; high = Rattle.core_read.specs.Holds.the_start; low = Rattle.core_read.specs.Holds.the_start }) number number splits.order p splits.named f g.0
      (λ n r there counts. g.1 r (and_both (sees pin.base r) _ counts).0 (splitting_counts n r there counts))

-- and where the document has the number still that it read, it may list what it wrote
pub splitting_lists : (w : State) (formers : Formers) (known : Documents) (pin : Pin) (p : Path) (old d : Document) (e : PrevEntry) (first : ℕ) → IsSplitting (origin w) w.past w.table formers known pin p old → nodes_in w.table p ≡ Some d → d.mod_count ≡ old.mod_count → old.mod_count < last_number → e.number ≡ old.mod_count
    → documents_in w.table.documents (id.Prev e.number p) ≡ Some (after_changes None (previous_write known pin old) first) → MaySplit w known pin p old e
splitting_lists w formers known pin p old d e first splits is number early its copied = record {
  there = is ∙ ap (λ (x : Document). Some x) (splits.read.same early d is number);
  order = splits.order;
  number = its;
  counted = λ n r there counts. splitting_counts (origin w) w.past w.table formers known pin p old splits n r there counts;
  first = first;
  copied = copied;
}
