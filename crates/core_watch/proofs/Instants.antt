-- A reader that others let read on ends in the tree at its base.
use Rattle.std.proofs.Common.{◌≡◌, ℕ, zero, suc, Some, None, Option, List, [], ◌∷◌, refl, sym, ap, ◌∙◌, subst, is_some}
use Rattle.std.specs.Option.{unwrap_or}
use Rattle.std.specs.declared.alloc.Global.{Global}
use mathlib.Core.Bool.{false≢true}
use Rattle.jr_path.specs.declared.path.Path.{Path}
use Rattle.jr_path.specs.declared.path.DocId.{DocId}
use Rattle.jr_rev.specs.declared.vector.Pin.{Pin}
use Rattle.jr_tree.specs.Trees.{Nodes}
use Rattle.oak_read.specs.Meaning.{Documents}
use Rattle.oak_read.specs.Reading.{answer, due, node_reader, children_reader}
use Rattle.oak_read.specs.Wanted.{Known}
use Rattle.oak_read.specs.declared.reader.Reader.{Reader}
use Rattle.oak_read.specs.declared.reader.ReadOut.{ReadOut}
use Rattle.oak_read.specs.declared.reader.Step.{Step}
use Rattle.oak_read.specs.declared.reader.Step.TheVariants as step
use Rattle.oak_machine.specs.History.{Past}
use Rattle.oak_machine.specs.Commits.{tree_at}
use Rattle.core_keep.specs.Keeps.{Course}
use Rattle.core_watch.specs.Standing.{Child, path_read, AreChildrenOf, IsNodeOf}
use Rattle.core_watch.specs.Moments.{after_moments, answered, ReaderEndsWith, first_moments, HasIdsAmong, IsReaderFor, Moment}
use Rattle.core_keep.specs.Formers.{Formers}
use Rattle.core_watch.specs.Reading.{ReadsTree, Stands}
use Rattle.core_watch.specs.Instants.{Instant, AreReadable, documents_at, first_instants, moments_of}
use Rattle.core_watch.proofs.Fed.{reading_feeds}
use Rattle.core_watch.proofs.Finite.{ends, done_with}
use Rattle.core_watch.proofs.Lasting.{reading_lasts}
use Rattle.core_watch.proofs.Moments.{fed_keeps}
use Rattle.oak_machine.specs.declared.event.Start.{Start}
use Rattle.core_keep.specs.From.{course_from}

module _ (start : Start) where
  -- what is given: the node at a path, or the names of the children there
  abbrev IsGiven : Nodes → Option Path → Path → ReadOut → Type 0
  IsGiven t None p o = IsNodeOf t p o
  IsGiven t (Some q) p o = AreChildrenOf t q o

  node_only : (t : Nodes) (parent : Option Path) (p : Path) (o : ReadOut) → parent ≡ None → IsGiven t parent p o → IsNodeOf t p o
  node_only t None p o none h = h
  node_only t (Some q) p o none h = absurd (false≢true (sym (ap is_some none)))

  children_only : (t : Nodes) (parent : Option Path) (p q : Path) (o : ReadOut) → parent ≡ Some q → IsGiven t parent p o → AreChildrenOf t q o
  children_only t None p q o some h = absurd (false≢true (ap is_some some))
  children_only t (Some x) p q o some h = let same : x ≡ q = cc in subst (λ (y : Path). AreChildrenOf t y o) same h

  pub begins_node : (ds : Documents) (past : Past) (formers : Formers) (a : Global) (pin : Pin) (p : Path) → ReadsTree start ds past formers (node_reader a pin p)
  begins_node ds past formers a pin p = record { copies = record { rising = refl; each = λ q d h. absurd (false≢true (ap is_some h)) }; stands = refl }

  pub begins_children : (ds : Documents) (past : Past) (formers : Formers) (a : Global) (pin : Pin) (p : Path) → ReadsTree start ds past formers (children_reader a pin p)
  begins_children ds past formers a pin p = record { copies = record { rising = refl; each = λ q d h. absurd (false≢true (ap is_some h)) }; stands = (record { least = refl; none = refl }, refl) }

  given : (ds : Documents) (c : Course) (formers : Formers) (t : Nodes) (pin : Pin) (parent : Option Path) (at : Path) (known : Known) (names : List Child) (o : ReadOut) → Stands ds c formers t pin parent at known names (step.Done o) → IsGiven t parent (unwrap_or parent at) o
  given ds c formers t pin None at known names o h = h
  given ds c formers t pin (Some p) at known names o h = h

  -- where it is done it gives that of the tree at its base
  gives : (ds : Documents) (past : Past) (formers : Formers) (r : Reader) (o : ReadOut) → ReadsTree start ds past formers r → r.step ≡ step.Done o → IsGiven (tree_at (Some start) past r.pin.base) r.parent (path_read r) o
  gives ds past formers r o reading done = given ds (course_from start past) formers (tree_at (Some start) past r.pin.base) r.pin r.parent r.at r.known r.names o (subst (λ (s : Step). Stands ds (course_from start past) formers (tree_at (Some start) past r.pin.base) r.pin r.parent r.at r.known r.names s) done reading.stands)

  pub gives_node : (ds : Documents) (past : Past) (formers : Formers) (r : Reader) (o : ReadOut) → ReadsTree start ds past formers r → r.parent ≡ None → r.step ≡ step.Done o → IsNodeOf (tree_at (Some start) past r.pin.base) (path_read r) o
  gives_node ds past formers r o reading none done = node_only (tree_at (Some start) past r.pin.base) r.parent (path_read r) o none (gives ds past formers r o reading done)

  pub gives_children : (ds : Documents) (past : Past) (formers : Formers) (r : Reader) (p : Path) (o : ReadOut) → ReadsTree start ds past formers r → r.parent ≡ Some p → r.step ≡ step.Done o → AreChildrenOf (tree_at (Some start) past r.pin.base) p o
  gives_children ds past formers r p o reading some done = children_only (tree_at (Some start) past r.pin.base) r.parent (path_read r) p o some (gives ds past formers r o reading done)

  -- after all answers it gives, where it is done, what the tree of the first instant has
  run : (is : List Instant) (i : Instant) (r : Reader) → AreReadable start r.pin i is → ReadsTree start (documents_at i) i.moment.past i.formers r → (o : ReadOut) → (after_moments (moments_of is) r).step ≡ step.Done o → IsGiven (tree_at (Some start) i.moment.past r.pin.base) r.parent (path_read r) o
  run [] i r on reading o done = gives (documents_at i) i.moment.past i.formers r o reading done
  run (k ∷ is) i r on reading o done =
      let kept : IsReaderFor r.pin r.parent (path_read r) (answered r k.moment) = fed_keeps r (answer k.moment.table (due r)) in
      let now : ReadsTree start (documents_at k) k.moment.past k.formers (answered r k.moment) =
      reading_feeds start k.moment.table k.moment.past k.formers (on.2).done r (on.2).ordered (on.2).kept (on.2).held (on.2).listed
      (reading_lasts start i.formers k.formers (documents_at i) (documents_at k) i.moment.past k.moment.past r on.0 on.1 reading) in
      let rest : IsGiven (tree_at (Some start) k.moment.past (answered r k.moment).pin.base) (answered r k.moment).parent (path_read (answered r k.moment)) o =
      run is k (answered r k.moment) (subst (λ (pin : Pin). AreReadable start pin k is) (sym kept.same_pin) on.3) now o done in
      subst (λ (t : Nodes). IsGiven t r.parent (path_read r) o) (on.0).tree
      (subst (λ (p : Path). IsGiven (tree_at (Some start) k.moment.past r.pin.base) r.parent p o) kept.same_path
      (subst (λ (parent : Option Path). IsGiven (tree_at (Some start) k.moment.past r.pin.base) parent (path_read (answered r k.moment)) o) kept.same_kind
      (subst (λ (pin : Pin). IsGiven (tree_at (Some start) k.moment.past pin.base) (answered r k.moment).parent (path_read (answered r k.moment)) o) kept.same_pin rest)))

  pub reads_node : (a : Global) (pin : Pin) (p : Path) (i : Instant) (is : List Instant) (o : ReadOut) → AreReadable start pin i is → (after_moments (moments_of is) (node_reader a pin p)).step ≡ step.Done o → IsNodeOf (tree_at (Some start) i.moment.past pin.base) p o
  reads_node a pin p i is o on done = run is i (node_reader a pin p) on (begins_node (documents_at i) i.moment.past i.formers a pin p) o done

  pub reads_children : (a : Global) (pin : Pin) (p : Path) (i : Instant) (is : List Instant) (o : ReadOut) → AreReadable start pin i is → (after_moments (moments_of is) (children_reader a pin p)).step ≡ step.Done o → AreChildrenOf (tree_at (Some start) i.moment.past pin.base) p o
  reads_children a pin p i is o on done = run is i (children_reader a pin p) on (begins_children (documents_at i) i.moment.past i.formers a pin p) o done

  -- the moments of the first instants are the first of the moments
  firsts : (n : ℕ) (f : ℕ → Instant) → moments_of (first_instants n f) ≡ first_moments n (λ i. (f i).moment)
  firsts zero f = refl
  firsts (suc n) f = ap (λ (ms : List Moment). (f 0).moment ∷ ms) (firsts n (λ i. f (suc i)))

  -- it ends so, as long as the documents that come have finitely many ids
  module _ (ids : List DocId) (a : Global) (pin : Pin) (p : Path) (i : Instant) (f : ℕ → Instant) (on : (n : ℕ) → AreReadable start pin i (first_instants n f)) (among : (n : ℕ) → HasIdsAmong ids (f n).moment) where
    pub node_at_end : ReaderEndsWith (IsNodeOf (tree_at (Some start) i.moment.past pin.base) p) (λ n. (f n).moment) (node_reader a pin p)
    node_at_end =
        let e = ends ids (λ n. (f n).moment) (node_reader a pin p) among in
        let o = done_with (after_moments (first_moments e.0 (λ n. (f n).moment)) (node_reader a pin p)).step e.1 in
        (e.0, o.0, o.1, reads_node a pin p i (first_instants e.0 f) o.0 (on e.0) (ap (λ (ms : List Moment). (after_moments ms (node_reader a pin p)).step) (firsts e.0 f) ∙ o.1))

    pub children_at_end : ReaderEndsWith (AreChildrenOf (tree_at (Some start) i.moment.past pin.base) p) (λ n. (f n).moment) (children_reader a pin p)
    children_at_end =
        let e = ends ids (λ n. (f n).moment) (children_reader a pin p) among in
        let o = done_with (after_moments (first_moments e.0 (λ n. (f n).moment)) (children_reader a pin p)).step e.1 in
        (e.0, o.0, o.1, reads_children a pin p i (first_instants e.0 f) o.0 (on e.0) (ap (λ (ms : List Moment). (after_moments ms (children_reader a pin p)).step) (firsts e.0 f) ∙ o.1))
