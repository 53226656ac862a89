-- What a reader goes by at a node tells the changes there: from its copy of the node's document on, and whatever others do.
use Rattle.std.proofs.Common.{◌≡◌, ◌⊎◌, inl, inr, ℕ, Bool, true, false, not, ◌||◌, Some, None, Option, List, [], refl, sym, ap, ◌∙◌, subst, is_some}
use Rattle.std.specs.Option.{option_and_then, option_map_or, option_or}
use Rattle.std.specs.List.{filter_map}
use mathlib.Core.Bool.{false≢true}
use Rattle.jr_path.specs.declared.name.Name.{Name}
use Rattle.jr_path.specs.declared.path.Path.{Path}
use Rattle.jr_path.specs.declared.path.DocId.TheVariants as id
use Rattle.jr_value.specs.declared.value.Property.{Property}
use Rattle.jr_rev.specs.declared.revision.Revision.{Revision}
use Rattle.jr_rev.specs.declared.vector.RevVec.{RevVec}
use Rattle.jr_rev.specs.declared.vector.Pin.{Pin}
use Rattle.jr_rev.specs.Revisions.{is_at_most, is_before}
use Rattle.jr_rev.specs.Vectors.{sees}
use Rattle.jr_tree.specs.declared.edit.Write.{Write}
use Rattle.jr_tree.specs.Items.{put_of, written}
use Rattle.oak_doc.specs.declared.document.Document.{Document}
use Rattle.oak_doc.specs.Updates.{of_revision, values_of_property}
use Rattle.oak_machine.specs.Commits.{is_in_base}
use Rattle.oak_machine.specs.History.{Past}
use Rattle.oak_read.specs.Meaning.{Documents}
use Rattle.oak_read.specs.Shown.{with_previous}
use Rattle.core_keep.proofs.AtPath.{value_from}
use Rattle.core_begun.proofs.Collecting.{held_pair, world_copy}
use Rattle.core_keep.proofs.Formers.{gone_same as gone_found, reads_found, same_too, value_more, wrote as wrote_former}
use Rattle.core_keep.proofs.Found.{among, found_append}
use Rattle.core_keep.proofs.Item.{and_both, either_true, is_none, not_true, some_of}
use Rattle.core_keep.proofs.Pruned.{before_trans}
use Rattle.core_begun.proofs.Sound.{found as edit_is}
use Rattle.core_keep.proofs.Readers.{each_look, gone_same, over_values, reads_more, reads_on, shown_on, was_in}
use Rattle.core_begun.proofs.World.{course as course_is}
use Rattle.core_keep.specs.Formers.{Former, IsCopyOf, IsFormer, IsShownIn}
use Rattle.core_keep.specs.From.{course_from}
use Rattle.core_begun.specs.Kept.{bounded_since, IsHeldSince, IsKeptSince}
use Rattle.core_keep.specs.Keeps.{edit_in, is_done, IsHeldPair}
use Rattle.core_keep.specs.Readers.{asked_too, gone_by, GoesOn, HasLater, look_on, look_too, Reads}
use Rattle.core_keep.specs.Standing.{all_at, gone_in, gone_of, values_in}
use Rattle.core_read.proofs.Latest.{at_most_itself, at_most_trans, before_at_most, before_itself, at_most_both}
use Rattle.core_begun.specs.Told.{edit_since}
use Rattle.core_read.specs.World.{Progress}
use Rattle.core_changes.proofs.Cuts.{cut, cut_between, cut_commits, cut_place}
use Rattle.core_changes.specs.Between.{is_new, IsBetween}
use Rattle.core_changes.specs.Instants.{AreHeld}
use Rattle.core_changes.specs.Observing.{ObservesOn, TellsChanges}
use Rattle.oak_machine.specs.declared.event.Start.{Start}

module _ (start : Start) where
  unseen : (b : Bool) → b ≡ true → not b ≡ true → ⊥
  unseen true h k = false≢true k
  unseen false h k = false≢true h

  -- ---- vectors between

  module _ (past : Past) (from : RevVec) (pin : Pin) (held : AreHeld start past from pin) where
    -- a vector between the two goes with the sweep vector of the pin
    pub between_held : (v : RevVec) → IsBetween past from pin.base v → IsHeldSince start past v pin.sweep
    between_held v between = record {
      base = record {
        settled = λ o f. not_true (sees v o) (λ h. false≢true (sym (held.to.base.settled o f) ∙ between.high o h));
        closed = between.closed;
        begun = λ o h. between.low o (held.used.begun o h);
      };
      quiet = held.to.quiet;
      above = λ r h. between.low r (held.above r h);
      swept = held.to.swept;
    }

    pub itself_between : IsBetween past from pin.base pin.base
    itself_between = record { low = held.below; high = λ q h. h; closed = held.to.base.closed }

    -- no bound sees a new commit
    pub new_unbound : (r : Revision) → is_new from pin.base r ≡ true → bounded_since start past r ≡ false
    new_unbound r new = not_true _ (λ h. unseen (sees from r) (held.above r h) (and_both (sees pin.base r) (not (sees from r)) new).1)

  -- ---- a copy of the node's document

  module _ (ds : Documents) (past : Past) (done : Progress) (world : IsKeptSince start ds past done) (from : RevVec) (pin : Pin) (held : AreHeld start past from pin) (p : Path) (copy : Document) (is : ds (id.Node p) ≡ Some copy) where
    all_is : all_at ds p ≡ gone_by copy (λ k. ds (id.Prev k p))
    all_is = ap (λ o. option_map_or (with_previous ds p) o []) is

    first_or : (n : Name) (q : Revision) (y : Option Property) → of_revision (values_of_property copy.props n) q ≡ Some y → of_revision (values_in n (gone_by copy (λ k. ds (id.Prev k p)))) q ≡ Some y
    first_or n q y h = found_append (values_of_property copy.props n) (values_in n (filter_map (λ e. ds (id.Prev e.number p)) copy.prev)) q ∙ ap (λ o. option_or o (of_revision (values_in n (filter_map (λ e. ds (id.Prev e.number p)) copy.prev)) q)) h

    pub tells_copy : TellsChanges start ds past from pin.base pin.sweep p copy (λ k. false) (λ k. ds (id.Prev k p))
    tells_copy = record {
      reads = λ v between. world_copy start ds past done v pin.sweep p copy world (between_held past from pin held v between) is;
      node = λ r ws e new. ap (λ all. of_revision (gone_in all) r) (sym all_is) ∙ (world.keeps p).node.exact r ws (edit_is past r ∙ e) (new_unbound past from pin held r new);
      prop = λ n r ws e new. ap (λ all. of_revision (values_in n all) r) (sym all_is) ∙ ((world.keeps p).prop n).exact r ws (edit_is past r ∙ e) (new_unbound past from pin held r new);
      genuine = λ n q us e seen h. let y = some_of (of_revision (values_of_property copy.props n) q) h in
          ap is_some (((world.keeps p).prop n).genuine q us y.0 (edit_is past q ∙ e) (ap (λ all. of_revision (values_in n all) q) all_is ∙ first_or n q y.0 y.1));
    }

  -- ---- a reader that has asked for more

  pub tells_more : (ds : Documents) (past : Past) (from to t : RevVec) (p : Path) (copy : Document) (asked more : ℕ → Bool) (look : ℕ → Option Document) → ((k : ℕ) → more k ≡ false → asked k ≡ false) → TellsChanges start ds past from to t p copy asked look → TellsChanges start ds past from to t p copy more look
  tells_more ds past from to t p copy asked more look less tells = record {
    reads = λ v between. reads_more ds (course_from start past) (sees v) (sees t) p copy asked more look less (tells.reads v between);
    node = tells.node;
    prop = tells.prop;
    genuine = tells.genuine;
  }

  -- ---- a previous document is found

  -- what there is under a number that is asked for: what it went by; or it went by nothing, and a copy of what a former document had is there, or nothing
  module _ (ds : Documents) (past : Past) (done : Progress) (world : IsKeptSince start ds past done) (from : RevVec) (pin : Pin) (held : AreHeld start past from pin) (p : Path) (copy : Document) (asked : ℕ → Bool) (look : ℕ → Option Document) (tells : TellsChanges start ds past from pin.base pin.sweep p copy asked look)
      (k : ℕ) (f : Former) (former : IsFormer ds (course_from start past) p f) (copied : (x : Document) → ds (id.Prev k p) ≡ Some x → IsCopyOf p k f x) (shown : (v : RevVec) → IsBetween past from pin.base v → IsShownIn (sees v) f (gone_by copy look))
      (way : (look k ≡ ds (id.Prev k p)) ⊎ (look k ≡ None)) where
    pair : (v : RevVec) → IsBetween past from pin.base v → IsHeldPair (course_from start past) (sees v) (sees pin.sweep)
    pair v between = held_pair start past v pin.sweep (between_held past from pin held v between)

    own : IsBetween past from pin.base pin.base
    own = itself_between past from pin held

    -- of each new commit it has just what its edit writes
    abbrev IsExact : (ℕ → Option Document) → Type 0
    IsExact l = ((r : Revision) (ws : List Write) → edit_since past r ≡ Some ws → is_new from pin.base r ≡ true → of_revision (gone_in (gone_by copy l)) r ≡ written (gone_of p) ws)
        × ((n : Name) (r : Revision) (ws : List Write) → edit_since past r ≡ Some ws → is_new from pin.base r ≡ true → of_revision (values_in n (gone_by copy l)) r ≡ written (put_of p n) ws)

    exact : IsExact (look_too look k (ds (id.Prev k p)))
    exact = by (ds (id.Prev k p)) refl way
      where
        same : (o : Option Document) → look k ≡ o → IsExact (look_too look k o)
        same o is = subst (λ (l : ℕ → Option Document). IsExact l) (sym (same_too look k o is)) (tells.node, tells.prop)

        writes : (x : Document) (none : look k ≡ None) (is : ds (id.Prev k p) ≡ Some x) (n : Name) (r : Revision) (ws : List Write) (y : Option Property) → edit_since past r ≡ Some ws → of_revision (values_of_property x.props n) r ≡ Some y → written (put_of p n) ws ≡ Some y
        writes x none is n r ws y e h =
            wrote_former ds (course_from start past) (sees pin.base) (sees pin.sweep) p copy asked look (tells.reads pin.base own) (pair pin.base own) k x none f former (copied x is) (shown pin.base own) n r ws y (edit_is past r ∙ e) h

        new : (x : Document) → look k ≡ None → ds (id.Prev k p) ≡ Some x → IsExact (look_too look k (Some x))
        new x none is = (
          λ r ws e is_it. ap (λ es. of_revision es r) (gone_found ds (course_from start past) (sees pin.base) (sees pin.sweep) p copy asked look (tells.reads pin.base own) (pair pin.base own) k x none f former (copied x is) (shown pin.base own)) ∙ tells.node r ws e is_it,
          λ n r ws e is_it. elim (value_more copy look k x none n r) [
            | inl one ↦ one ∙ tells.prop n r ws e is_it
            | inr found ↦ found.2 ∙ sym (writes x none is n r ws found.0 e found.1)
          ],
        )

        by : (o : Option Document) → ds (id.Prev k p) ≡ o → (look k ≡ o) ⊎ (look k ≡ None) → IsExact (look_too look k o)
        by o is (inl one) = same o one
        by None is (inr none) = same None none
        by (Some x) is (inr none) = new x none is

    pub tells_found : TellsChanges start ds past from pin.base pin.sweep p copy (asked_too asked k) (look_too look k (ds (id.Prev k p)))
    tells_found = record {
      reads = λ v between. reads_found ds (course_from start past) (sees v) (sees pin.sweep) p copy asked look (tells.reads v between) (pair v between) k f former copied (shown v between) way;
      node = exact.0;
      prop = exact.1;
      genuine = tells.genuine;
    }

  -- ---- others go on

  -- a vector between the two was one
  pub between_back : (from : RevVec) (pin : Pin) (ds now : Documents) (past later : Past) → ObservesOn start from pin ds now past later → (v : RevVec) → IsBetween later from pin.base v → IsBetween past from pin.base v
  between_back from pin ds now past later on v between = record {
    low = between.low;
    high = between.high;
    closed = λ o us e seen q base. between.closed o us (on.edits o (between.high o seen) ∙ e) seen q (on.bases o us e q ∙ base);
  }

  module _ (ds now : Documents) (past later : Past) (done : Progress) (world : IsKeptSince start now later done) (from : RevVec) (pin : Pin) (held : AreHeld start later from pin) (on : ObservesOn start from pin ds now past later)
      (p : Path) (copy : Document) (asked : ℕ → Bool) (look : ℕ → Option Document) (tells : TellsChanges start ds past from pin.base pin.sweep p copy asked look) where
    pub back : (v : RevVec) → IsBetween later from pin.base v → IsBetween past from pin.base v
    back = between_back from pin ds now past later on

    pub own_between : IsBetween past from pin.base pin.base
    own_between = back pin.base (itself_between later from pin held)

    -- which of the previous documents that it will ask for stay, whichever vector between is read at
    abbrev pub stays : ℕ → Bool
    stays = ((on.reads pin.base own_between).goes p copy asked).stays

    abbrev look' : ℕ → Option Document
    look' = look_on asked stays look

    -- a reader at a vector between goes on, with the previous documents that stay
    abbrev goes_at : (v : RevVec) → IsBetween later from pin.base v → GoesOn ds now (course_from start past) (course_from start later) (sees v) (sees pin.sweep) p copy asked
    goes_at v between = record {
      tree = ((on.reads v (back v between)).goes p copy asked).tree;
      node_last = ((on.reads v (back v between)).goes p copy asked).node_last;
      prop_last = ((on.reads v (back v between)).goes p copy asked).prop_last;
      done = ((on.reads v (back v between)).goes p copy asked).done;
      said = ((on.reads v (back v between)).goes p copy asked).said;
      sub = ((on.reads v (back v between)).goes p copy asked).sub;
      list = ((on.reads v (back v between)).goes p copy asked).list;
      stays = stays;
      previous = ((on.reads pin.base own_between).goes p copy asked).previous;
    }

    -- the edit of what `to` sees was the same
    was : (r : Revision) (ws : List Write) → edit_since later r ≡ Some ws → sees pin.base r ≡ true → edit_since past r ≡ Some ws
    was r ws e seen = sym (on.edits r seen) ∙ e

    new_seen : (r : Revision) → is_new from pin.base r ≡ true → sees pin.base r ≡ true
    new_seen r new = (and_both (sees pin.base r) (not (sees from r)) new).0

    node_lasts : (r : Revision) (ws : List Write) → edit_since later r ≡ Some ws → is_new from pin.base r ≡ true → of_revision (gone_in (gone_by copy look')) r ≡ written (gone_of p) ws
    node_lasts r ws e new =
        ap (λ es. of_revision es r) (gone_same ds now (course_from start past) (course_from start later) (sees pin.base) (sees pin.sweep) p copy asked look (tells.reads pin.base own_between) (goes_at pin.base (itself_between later from pin held)))
        ∙ tells.node r ws (was r ws e (new_seen r new)) new

    -- an entry of a property that a new commit writes has no later one that `from` sees
    module _ (n : Name) (r : Revision) (ws : List Write) (e : edit_since later r ≡ Some ws) (new : is_new from pin.base r ≡ true) where
      down : (q s : Revision) → is_at_most q s ≡ true → is_at_most s r ≡ true → is_at_most q r ≡ true
      down q s h k = at_most_trans q s r h k

      abbrev v : RevVec
      v = cut start later world.told from pin.base held.used held.to.base held.below (λ q. is_at_most q r) down

      between : IsBetween later from pin.base v
      between = cut_between start later world.told from pin.base held.used held.to.base held.below (λ q. is_at_most q r) down

      seen : sees v r ≡ true
      seen = cut_commits start later world.told from pin.base held.used held.to.base held.below (λ q. is_at_most q r) down r ws e (new_seen r new) (at_most_itself r r refl)

      no_later : (y : Option Property) → written (put_of p n) ws ≡ Some y → HasLater (sees v) copy n r → ⊥
      no_later y writes later_one = by (cut_place start later world.told from pin.base held.used held.to.base held.below (λ q. is_at_most q r) down (later_one.0) (later_one.2))
        where
          by : (sees from (later_one.0) ≡ true) ⊎ (is_at_most (later_one.0) r ≡ true) → ⊥
          by (inr low) =
              let one : r ≡ later_one.0 = at_most_both r (later_one.0) (before_at_most r (later_one.0) later_one.1) low in
              false≢true (sym (before_itself r) ∙ subst (λ (z : Revision). is_before r z ≡ true) (sym one) later_one.1)
          by (inl from_sees) =
              let to_sees = held.below (later_one.0) from_sees in
              let us = committed (later_one.0) later_one.1 ((tells.reads v (back v between)).done copy (inl refl) (later_one.0) later_one.2 (inr (n, later_one.3))) in
              let was_edit : edit_since past (later_one.0) ≡ Some us.0 = sym (edit_was (later_one.0)) ∙ us.1 in
              let now_edit : edit_since later (later_one.0) ≡ Some us.0 = on.edits (later_one.0) to_sees ∙ was_edit in
              let wrote = tells.genuine n (later_one.0) us.0 was_edit to_sees later_one.3 in
              at us.0 now_edit wrote (is_in_base later (later_one.0) r) refl
            where
              committed : (z : Revision) → is_before r z ≡ true → is_done (course_from start past) z ≡ true → (us : List Write) × (edit_in (course_from start past) z ≡ Some us)
              committed z late done = elim (either_true (is_some (edit_in (course_from start past) z)) (sees start.at z) done) [
                | inl k ↦ some_of (edit_in (course_from start past) z) k
                | inr old ↦
                    let d = world.told.edits r ws e in
                    absurd (false≢true (sym (before_itself r) ∙ before_trans r z r late ((world.told.draws r d.0 d.1).after z old)))
              ]

              edit_was : (z : Revision) → edit_in (course_from start past) z ≡ edit_since past z
              edit_was z = edit_is past z

              at : (us : List Write) → edit_since later (later_one.0) ≡ Some us → is_some (written (put_of p n) us) ≡ true → (b : Bool) → is_in_base later (later_one.0) r ≡ b → ⊥
              at us it wrote true base = unseen (sees from r) (held.used.closed (later_one.0) us it from_sees r base) (and_both (sees pin.base r) (not (sees from r)) new).1
              at us it wrote false base = false≢true (sym (ap is_some ((world.separate (later_one.0) us it r ws e later_one.1 base).prop p n wrote)) ∙ ap is_some writes)

      -- what goes as garbage has no entry of a new commit
      prop_lasts : of_revision (values_in n (gone_by copy look')) r ≡ written (put_of p n) ws
      prop_lasts = by (written (put_of p n) ws) refl
        where
          reads : Reads ds (course_from start past) (sees v) (sees pin.sweep) p copy asked look
          reads = tells.reads v (back v between)

          own : List (Revision × Option Property)
          own = values_of_property copy.props n

          before : of_revision (values_in n (gone_by copy look)) r ≡ written (put_of p n) ws
          before = tells.prop n r ws (was r ws e (new_seen r new)) new

          by : (o : Option (Option Property)) → written (put_of p n) ws ≡ o → of_revision (values_in n (gone_by copy look')) r ≡ o
          by None none = is_none _ (λ w h.
              let f = value_from n (gone_by copy look') r w h in
              false≢true (sym (ap is_some (before ∙ none)) ∙ among (λ d. values_of_property d.props n) (gone_by copy look) f.0 (was_in ds now (course_from start past) (course_from start later) (sees v) (sees pin.sweep) p copy asked look reads (goes_at v between) f.0 f.1) r (ap is_some f.2)))
          by (Some y) writes =
              elim (over_values ds now (course_from start past) (course_from start later) (sees v) (sees pin.sweep) p copy asked look reads (goes_at v between) n r seen copy.prev (each_look ds now (course_from start past) (course_from start later) (sees v) (sees pin.sweep) p copy asked look reads (goes_at v between))) [
                | inl same ↦ found_append (values_of_property copy.props n) _ r ∙ (ap (option_or (of_revision (values_of_property copy.props n) r)) same ∙ (sym (found_append (values_of_property copy.props n) (values_in n (filter_map (λ e. look e.number) copy.prev)) r) ∙ (before ∙ writes)))
                | inr later_one ↦ absurd (no_later y writes later_one)
              ]

    -- what shows a former document at each vector between shows it still
    pub shown_lasts : (f : Former) → ((v : RevVec) → IsBetween past from pin.base v → IsShownIn (sees v) f (gone_by copy look)) → (v : RevVec) → IsBetween later from pin.base v → IsShownIn (sees v) f (gone_by copy look')
    shown_lasts f shown v between = shown_on ds now (course_from start past) (course_from start later) (sees v) (sees pin.sweep) p copy asked look (tells.reads v (back v between)) (goes_at v between) f (shown v (back v between))

    -- it still tells the changes
    pub tells_on : TellsChanges start now later from pin.base pin.sweep p copy asked look'
    tells_on = record {
      reads = λ v between. reads_on ds now (course_from start past) (course_from start later) (sees v) (sees pin.sweep) p copy asked look (tells.reads v (back v between)) (goes_at v between);
      node = node_lasts;
      prop = prop_lasts;
      genuine = λ n q us e seen h. tells.genuine n q us (was q us e seen) seen h;
    }
