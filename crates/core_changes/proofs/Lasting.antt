-- A reader of changes still tells them where others went on.
use Rattle.std.proofs.Common.{◌≡◌, Bool, true, false, cond, not, ◌&&◌, ◌||◌, Some, None, List, [], ◌∷◌, map, refl, sym, ap, ◌∙◌}
use Rattle.std.specs.Ordering.{eq_by_cmp, is_eq}
use Rattle.std.specs.List.{filter}
use Rattle.jr_path.specs.declared.path.Path.{Path}
use Rattle.jr_rev.specs.declared.revision.Revision.{Revision}
use Rattle.jr_rev.specs.declared.vector.RevVec.{RevVec}
use Rattle.jr_rev.specs.declared.vector.Pin.{Pin}
use Rattle.jr_rev.specs.Revisions.{revision_cmp, is_before}
use Rattle.jr_rev.specs.Vectors.{sees}
use Rattle.jr_rev.proofs.Order.{revision_total}
use Rattle.jr_tree.specs.Trees.{Nodes}
use Rattle.oak_changes.specs.declared.changes.Step.{Step}
use Rattle.oak_changes.specs.declared.changes.Step.TheVariants as step
use Rattle.oak_changes.specs.declared.said.Said.{Said}
use Rattle.oak_doc.specs.Updates.{of_revision}
use Rattle.oak_machine.specs.Changed.{changes_between, item_changes, tree_below}
use Rattle.oak_machine.specs.Commits.{applied_all, committed_edits}
use Rattle.oak_machine.specs.History.{begin_tree, Past}
use Rattle.oak_read.specs.Meaning.{Documents}
use Rattle.oak_read.specs.Wanted.{Ids, Known}
use Rattle.core_keep.proofs.Item.{and_both}
use Rattle.core_keep.specs.Formers.{Formers, FormersGrow}
use Rattle.core_begun.specs.Kept.{IsKeptSince}
use Rattle.core_keep.specs.Readers.{look_on}
use Rattle.core_read.proofs.Entries.{same_lists}
use Rattle.core_read.proofs.Falling.{committed_sorted}
use Rattle.core_read.proofs.Latest.{same_revision}
use Rattle.core_begun.specs.Told.{edit_since}
use Rattle.core_begun.specs.Told.{IsToldSince}
use Rattle.core_read.specs.World.{Progress}
use Rattle.core_watch.specs.Reading.{is_asked}
use Rattle.core_changes.proofs.Grouping.{kept_at, sorted_kept}
use Rattle.core_changes.proofs.Telling.{between_back, itself_between, shown_lasts, stays, tells_on}
use Rattle.core_changes.specs.Between.{change_of, is_new, IsChange}
use Rattle.core_changes.specs.Instants.{AreHeld}
use Rattle.core_changes.specs.Observing.{AreSaid, AreSaying, IsAskingChanges, AreChangeRootsAsked, is_before_node, is_up_to_node, ObservesOn, Stands}
use Rattle.oak_machine.specs.declared.event.Start.{Start}

module _ (start : Start) where
  -- ---- the commits that are seen are the same

  module _ (past later : Past) (to : RevVec) (edits : (r : Revision) → sees to r ≡ true → edit_since later r ≡ edit_since past r) where
    committed_same : (r : Revision) → sees to r ≡ true → of_revision (committed_edits later) r ≡ of_revision (committed_edits past) r
    committed_same r seen = edits r seen

    filter_same : (test : Revision → Bool) → ((r : Revision) → test r ≡ true → sees to r ≡ true) → filter (λ e. test e.0) (committed_edits later) ≡ filter (λ e. test e.0) (committed_edits past)
    filter_same test low = same_lists revision_cmp revision_total (λ x y h. same_revision x y (ap is_eq h)) (filter (λ e. test e.0) (committed_edits later)) (filter (λ e. test e.0) (committed_edits past))
        (sorted_kept test (committed_edits later) (committed_sorted later)) (sorted_kept test (committed_edits past) (committed_sorted past))
        (λ r. kept_at test (committed_edits later) r ∙ (by r (test r) refl ∙ sym (kept_at test (committed_edits past) r)))
      where
        by : (r : Revision) (b : Bool) → test r ≡ b → cond b (of_revision (committed_edits later) r) None ≡ cond b (of_revision (committed_edits past) r) None
        by r true h = committed_same r (low r h)
        by r false h = refl

    pub below_same : (r : Revision) → tree_below (Some start) later to r ≡ tree_below (Some start) past to r
    below_same r = ap (applied_all (begin_tree (Some start))) (filter_same (λ q. sees to q && is_before q r) (λ q h. (and_both (sees to q) (is_before q r) h).0))

    map_same : {X Y : Type 0} (f g : X → Y) → ((x : X) → f x ≡ g x) → (xs : List X) → map f xs ≡ map g xs
    map_same f g same [] = refl
    map_same f g same (x ∷ xs) = λ i. same x i ∷ map_same f g same xs i

    pub changes_same : (from : RevVec) → changes_between (Some start) later from to ≡ changes_between (Some start) past from to
    changes_same from =
        map_same (λ e. record { revision = e.0; changes = item_changes (tree_below (Some start) later to e.0) e.1 }) (λ e. record { revision = e.0; changes = item_changes (tree_below (Some start) past to e.0) e.1 })
        (λ e. ap (λ (tree : Nodes). record { revision = e.0; changes = item_changes tree e.1 }) (below_same e.0)) (filter (λ e. is_new from to e.0) (committed_edits later))
        ∙ ap (map (λ e. record { revision = e.0; changes = item_changes (tree_below (Some start) past to e.0) e.1 })) (filter_same (is_new from to) (λ q h. (and_both (sees to q) (not (sees from q)) h).0))

    -- a change is one then and now
    pub change_now : (from : RevVec) (s : Said) → IsChange start past from to s → IsChange start later from to s
    change_now from s c = record {
      edit = c.edit;
      is_edit = edits s.revision (and_both (sees to s.revision) (not (sees from s.revision)) c.new).0 ∙ c.is_edit;
      new = c.new;
      change = ap (λ (tree : Nodes). change_of tree c.edit s.change.item) (below_same s.revision) ∙ c.change;
    }

    pub change_then : (from : RevVec) (s : Said) → IsChange start later from to s → IsChange start past from to s
    change_then from s c = record {
      edit = c.edit;
      is_edit = sym (edits s.revision (and_both (sees to s.revision) (not (sees from s.revision)) c.new).0) ∙ c.is_edit;
      new = c.new;
      change = ap (λ (tree : Nodes). change_of tree c.edit s.change.item) (sym (below_same s.revision)) ∙ c.change;
    }

    pub said_lasts : (from : RevVec) (passed : Path → Bool) (said : List Said) → AreSaid start past from to passed said → AreSaid start later from to passed said
    said_lasts from passed said are = record {
      each = λ s i. (change_now from s (are.each s i).0, (are.each s i).1);
      all = λ s c h. are.all s (change_then from s c) h;
    }

  module _ (formers more : Formers) (ds now : Documents) (past later : Past) (done : Progress) (world : IsKeptSince start now later done) (from : RevVec) (pin : Pin) (held : AreHeld start later from pin) (on : ObservesOn start from pin ds now past later) (grows : FormersGrow formers more) where
    abbrev to : RevVec
    to = pin.base

    abbrev t : RevVec
    t = pin.sweep

    abbrev Changed : Past → (Path → Bool) → List Said → Type 0
    Changed j passed said = AreSaid start j from to passed said

    said_on : (passed : Path → Bool) (said : List Said) → Changed past passed said → Changed later passed said
    said_on passed said are = said_lasts past later to on.edits from passed said are

    saying_lasts : (known : Known) → AreSaying ds to t known → AreSaying now to t known
    saying_lasts known saying = record { rising = saying.rising; said = λ p d h q seen unswept k. saying.said p d h q seen unswept ((on.reads to (between_back start from pin ds now past later on to (itself_between start later from pin held))).silent p q seen unswept k) }

    asking_lasts : (known : Known) (left : Ids) (p : Path) → IsAskingChanges start ds past formers from to t known left p → IsAskingChanges start now later more from to t known left p
    asking_lasts known left p asking = record {
      document = asking.document;
      there = asking.there;
      look = look_on (is_asked left p) (stays start ds now past later done world from pin held on p asking.document (is_asked left p) asking.look asking.tells) asking.look;
      tells = tells_on start ds now past later done world from pin held on p asking.document (is_asked left p) asking.look asking.tells;
      found = λ e i a. asking.found e i a ∙ ap (λ b. cond (b || stays start ds now past later done world from pin held on p asking.document (is_asked left p) asking.look asking.tells e.number) (asking.look e.number) None) (sym a);
      waiting = asking.waiting;
      previous = asking.previous;
      listed = λ e i. let l = asking.listed e i in (l.0, grows p e.number l.0 l.1, shown_lasts start ds now past later done world from pin held on p asking.document (is_asked left p) asking.look asking.tells l.0 l.2);
    }

    rooted_lasts : (known : Known) (left : Ids) (p : Path) → AreChangeRootsAsked start ds past from to t known left p → AreChangeRootsAsked start now later from to t known left p
    rooted_lasts known left p rooted = record {
      document = rooted.document;
      there = rooted.there;
      look = rooted.look;
      tells = tells_on start ds now past later done world from pin held on p rooted.document (λ k. true) rooted.look rooted.tells;
      found = rooted.found;
      roots = rooted.roots;
      waiting = rooted.waiting;
      nodes = rooted.nodes;
    }

    pub stands_last : (at : Path) (known : Known) (said : List Said) (s : Step) → Stands start ds past formers from to t at known said s → Stands start now later more from to t at known said s
    stands_last at known said step.First stands = stands
    stands_last at known said step.Next stands = said_on (is_up_to_node at) said stands
    stands_last at known said (step.Previous left) stands = (asking_lasts known ((left.first, tt) ∷ left.rest) at stands.0, saying_lasts known stands.1, said_on (is_before_node at) said stands.2)
    stands_last at known said (step.Roots left) stands = (rooted_lasts known ((left.first, tt) ∷ left.rest) at stands.0, saying_lasts known stands.1, said_on (is_before_node at) said stands.2)
    stands_last at known said (step.Done o) stands = stands ∙ sym (changes_same past later to on.edits from)
