-- A reader that reads the tree at its base still reads it where others went on.
use Rattle.std.proofs.Common.{◌||◌, Bool, true, false, cond, Some, None, Option, List, sym, ap, ◌∙◌, subst}
use Rattle.jr_path.specs.declared.path.Path.{Path}
use Rattle.jr_rev.specs.declared.vector.Pin.{Pin}
use Rattle.jr_rev.specs.Vectors.{sees}
use Rattle.jr_tree.specs.Trees.{Nodes}
use Rattle.oak_doc.specs.declared.document.Document.{Document}
use Rattle.oak_read.specs.Meaning.{Documents}
use Rattle.oak_read.specs.Wanted.{Known, Ids}
use Rattle.oak_read.specs.declared.reader.Reader.{Reader}
use Rattle.oak_read.specs.declared.reader.Step.{Step}
use Rattle.oak_read.specs.declared.reader.Step.TheVariants as step
use Rattle.oak_machine.specs.History.{Past}
use Rattle.oak_machine.specs.Commits.{tree_at}
use Rattle.core_keep.specs.Keeps.{Course}
use Rattle.core_keep.specs.Readers.{look_on}
use Rattle.core_keep.proofs.Readers.{reads_on, shown_on}
use Rattle.core_watch.specs.Standing.{Child}
use Rattle.core_keep.specs.Formers.{Formers, FormersGrow}
use Rattle.core_watch.specs.Reading.{IsCopy, AreCopies, is_asked, IsAsking, AreRootsAsked, Stands, ReadsTree, ReadsOn}
use Rattle.oak_machine.specs.declared.event.Start.{Start}
use Rattle.core_keep.specs.From.{course_from}

module _ (start : Start) where
  module _ (pin : Pin) (formers more : Formers) (ds now : Documents) (past later : Past) (on : ReadsOn start pin ds now past later) (grows : FormersGrow formers more) where
    abbrev c : Course
    c = course_from start past

    abbrev c' : Course
    c' = course_from start later

    copy_lasts : (p : Path) (d : Document) → IsCopy ds c formers pin.base pin.sweep p d → IsCopy now c' more pin.base pin.sweep p d
    copy_lasts p d copy = record {
      look = look_on (λ k. false) (on.goes p d (λ k. false)).stays copy.look;
      reads = reads_on ds now c c' (sees pin.base) (sees pin.sweep) p d (λ k. false) copy.look copy.reads (on.goes p d (λ k. false));
      said = λ q seen unswept h. copy.said q seen unswept (on.silent p q seen unswept h);
      listed = λ e i.
          let l = copy.listed e i in
          (l.0, grows p e.number l.0 l.1, shown_on ds now c c' (sees pin.base) (sees pin.sweep) p d (λ k. false) copy.look copy.reads (on.goes p d (λ k. false)) l.0 l.2);
    }

    pub copies_last : (known : Known) → AreCopies ds c formers pin.base pin.sweep known → AreCopies now c' more pin.base pin.sweep known
    copies_last known copies = record { rising = copies.rising; each = λ p d h. copy_lasts p d (copies.each p d h) }

    asking_lasts : (known : Known) → AreCopies ds c formers pin.base pin.sweep known → (left : Ids) (p : Path) → IsAsking ds c formers pin.base pin.sweep known left p → IsAsking now c' more pin.base pin.sweep known left p
    asking_lasts known copies left p asking = record {
      document = asking.document;
      there = asking.there;
      look = look_on (is_asked left p) (on.goes p asking.document (is_asked left p)).stays asking.look;
      reads = reads_on ds now c c' (sees pin.base) (sees pin.sweep) p asking.document (is_asked left p) asking.look asking.reads (on.goes p asking.document (is_asked left p));
      found = λ e i a. asking.found e i a ∙ ap (λ b. cond (b || (on.goes p asking.document (is_asked left p)).stays e.number) (asking.look e.number) None) (sym a);
      waiting = asking.waiting;
      previous = asking.previous;
      listed = λ e i.
          let l = asking.listed e i in
          (l.0, grows p e.number l.0 l.1, shown_on ds now c c' (sees pin.base) (sees pin.sweep) p asking.document (is_asked left p) asking.look asking.reads (on.goes p asking.document (is_asked left p)) l.0 l.2);
    }

    rooted_lasts : (known : Known) → AreCopies ds c formers pin.base pin.sweep known → (left : Ids) (whole : Bool) (p : Path) → AreRootsAsked ds c pin.base pin.sweep known left whole p → AreRootsAsked now c' pin.base pin.sweep known left whole p
    rooted_lasts known copies left whole p rooted = record {
      document = rooted.document;
      there = rooted.there;
      look = rooted.look;
      reads = reads_on ds now c c' (sees pin.base) (sees pin.sweep) p rooted.document (λ k. true) rooted.look rooted.reads (on.goes p rooted.document (λ k. true));
      found = rooted.found;
      roots = rooted.roots;
      waiting = rooted.waiting;
      nodes = rooted.nodes;
    }

    abbrev old_tree : Nodes
    old_tree = tree_at (Some start) past pin.base

    stands_last : (parent : Option Path) (at : Path) (known : Known) (names : List Child) (s : Step) → AreCopies ds c formers pin.base pin.sweep known → Stands ds c formers old_tree pin parent at known names s → Stands now c' more old_tree pin parent at known names s
    stands_last None at known names step.Main copies stands = stands
    stands_last (Some p) at known names step.Main copies stands = stands
    stands_last None at known names step.Next copies stands = stands
    stands_last (Some p) at known names step.Next copies stands = stands
    stands_last None at known names (step.Previous left) copies stands = (asking_lasts known copies _ at stands.0, stands.1, stands.2)
    stands_last (Some p) at known names (step.Previous left) copies stands = (asking_lasts known copies _ at stands.0, stands.1, stands.2)
    stands_last None at known names (step.Roots left) copies stands = (rooted_lasts known copies _ _ at stands.0, stands.1, stands.2)
    stands_last (Some p) at known names (step.Roots left) copies stands = (rooted_lasts known copies _ _ at stands.0, stands.1, stands.2)
    stands_last None at known names (step.Done o) copies stands = stands
    stands_last (Some p) at known names (step.Done o) copies stands = stands

  -- what others do leaves a reader reading the tree
  pub reading_lasts : (formers more : Formers) (ds now : Documents) (past later : Past) (r : Reader) → ReadsOn start r.pin ds now past later → FormersGrow formers more → ReadsTree start ds past formers r → ReadsTree start now later more r
  reading_lasts formers more ds now past later r on grows reading = record {
    copies = copies_last r.pin formers more ds now past later on grows r.known reading.copies;
    stands = subst (λ (tree : Nodes). Stands now (course_from start later) more tree r.pin r.parent r.at r.known r.names r.step) (sym on.tree) (stands_last r.pin formers more ds now past later on grows r.parent r.at r.known r.names r.step reading.copies reading.stands);
  }
