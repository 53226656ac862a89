-- When a reader ends: a node's after its commit roots, and that of children goes forward from document to document.
use Rattle.std.proofs.Common.{◌≡◌, ◌≤◌, suc, arith, length, ◌⊎◌, inl, inr, Bool, true, false, cond, Some, None, Option, List, [], ◌∷◌, refl, sym, ap, ◌∙◌, subst}
use Rattle.std.specs.Prelude.{is_some, map, slice_get}
use Rattle.std.specs.Option.{option_map, option_map_or}
use Rattle.std.specs.declared.alloc.Global.{Global}
use Rattle.std.specs.declared.cmp.Ordering.TheVariants.{Less}
use Rattle.std.proofs.lemmas.List.Elements.{recursion_from_All}
use Rattle.jr_path.specs.Ids.{id_cmp}
use Rattle.jr_path.specs.declared.path.Path.{Path}
use Rattle.jr_path.specs.declared.path.DocId.{DocId}
use Rattle.jr_path.specs.declared.path.DocId.TheVariants as id
use Rattle.jr_rev.specs.declared.vector.Pin.{Pin}
use Rattle.jr_tree.specs.Trees.{is_child_of}
use Rattle.oak_doc.specs.declared.document.Document.{Document}
use Rattle.oak_read.specs.Meaning.{documents_in}
use Rattle.oak_read.specs.Wanted.{Known, Ids, left_of, listed, previous_wanted, roots_wanted, unknown}
use Rattle.oak_read.proofs.Walking.{own_id}
use Rattle.oak_read.specs.Reading.{IsTable, answer, due, fed_main, fed_next, child_path_in, ended, noted, settled, on_main, on_previous, on_roots, with_known, node_reader}
use Rattle.oak_read.specs.declared.wanted.Left.{Left}
use Rattle.oak_read.specs.declared.reader.Reader.{Reader}
use Rattle.oak_read.specs.declared.reader.Step.{Step}
use Rattle.oak_read.specs.declared.reader.Step.TheVariants as step
use Rattle.core_watch.specs.Standing.{Child}
use Rattle.core_watch.specs.Moments.{Moment, answered, after_moments, roots_left, IsReaderDone}
use Rattle.core_watch.proofs.Behind.{Entries, behind, each_found, IsNext, next_is}

-- ---- a reader of a node

done_ends : (ms : List Moment) (r : Reader) → IsReaderDone r.step → IsReaderDone (after_moments ms r).step
done_ends [] r done = done
done_ends (m ∷ ms) r done = done_ends ms (answered r m) (by r.alloc r.pin r.parent r.at r.known r.names r.step done)
  where
    by : (a : Global) (pin : Pin) (parent : Option Path) (at : Path) (known : Known) (names : List Child) (s : Step) → IsReaderDone s
        → IsReaderDone (answered (record { alloc = a; pin = pin; parent = parent; at = at; known = known; names = names; step = s }) m).step
    by a pin parent at known names (step.Done o) done = tt
    by a pin parent at known names step.Main done = absurd done
    by a pin parent at known names step.Next done = absurd done
    by a pin parent at known names (step.Previous left) done = absurd done
    by a pin parent at known names (step.Roots left) done = absurd done

-- no previous documents are left
abbrev IsPlain : Step → Type 0
IsPlain (step.Previous left) = ⊥
IsPlain _ = Unit {0}

module _ (a : Global) (pin : Pin) (at : Path) (names : List Child) where
  abbrev reader : Known → Step → Reader
  reader known s = record { alloc = a; pin = pin; parent = None; at = at; known = known; names = names; step = s }

  -- of commit roots that are left each answer takes one
  roots_end : (ms : List Moment) (known : Known) (left : Left) → suc (length left.rest) ≤ length ms → IsReaderDone (after_moments ms (reader known (step.Roots left))).step
  roots_end [] known left h = let none : ⊥ = omega (arith, h) in absurd none
  roots_end (m ∷ ms) known left h = by left.rest (omega (arith, h)) (λ more k. roots_end ms (with_known known left.first (documents_in m.table left.first)) more k)
    where
      now : Known
      now = with_known known left.first (documents_in m.table left.first)

      by : (ids : Ids) → length ids ≤ length ms → ((more : Left) → suc (length more.rest) ≤ length ms → IsReaderDone (after_moments ms (reader now (step.Roots more))).step)
          → IsReaderDone (after_moments ms (option_map_or (λ more. record (reader now (step.Roots left)) { step = step.Roots more }) (left_of ids) (on_roots (reader now (step.Roots left))))).step
      by [] h rest = done_ends ms (on_roots (reader now (step.Roots left))) tt
      by (e ∷ es) h rest = rest (record { first = e.0; rest = es }) h

  main_ends : (ms : List Moment) (known : Known) (s : Step) → IsPlain (on_main (reader known s)).step → roots_left (on_main (reader known s)).step ≤ length ms → IsReaderDone (after_moments ms (on_main (reader known s))).step
  main_ends ms known s = previous (left_of (previous_wanted known at))
    where
      roots : (o : Option Left) → roots_left (option_map_or (λ left. record (reader known s) { step = step.Roots left }) o (on_roots (reader known s))).step ≤ length ms
          → IsReaderDone (after_moments ms (option_map_or (λ left. record (reader known s) { step = step.Roots left }) o (on_roots (reader known s)))).step
      roots None h = done_ends ms (on_roots (reader known s)) tt
      roots (Some left) h = roots_end ms known left h

      previous : (o : Option Left) → IsPlain (option_map_or (λ left. record (reader known s) { step = step.Previous left }) o (on_previous (reader known s))).step
          → roots_left (option_map_or (λ left. record (reader known s) { step = step.Previous left }) o (on_previous (reader known s))).step ≤ length ms
          → IsReaderDone (after_moments ms (option_map_or (λ left. record (reader known s) { step = step.Previous left }) o (on_previous (reader known s)))).step
      previous None plain h = roots (left_of (roots_wanted pin.sweep pin.base known true at)) h
      previous (Some left) plain h = absurd plain

  first_ends : (ms : List Moment) (known : Known) (o : Option Document) → IsPlain (fed_main (reader known step.Main) o).step → roots_left (fed_main (reader known step.Main) o).step ≤ length ms → IsReaderDone (after_moments ms (fed_main (reader known step.Main) o)).step
  first_ends ms known None plain h = done_ends ms (fed_main (reader known step.Main) None) tt
  first_ends ms known (Some d) plain h = main_ends ms (with_known known (id.Node at) (Some d)) step.Main plain h

-- a document that lists no previous one wants none
plain_first : (a : Global) (pin : Pin) (at : Path) (o : Option Document) → ((d : Document) → o ≡ Some d → d.prev ≡ []) → IsPlain (fed_main (reader a pin at [] [] step.Main) o).step
plain_first a pin at None whole = tt
plain_first a pin at (Some d) whole = subst (λ (ids : Ids). IsPlain (option_map_or (λ left. record (reader a pin at [] (with_known [] (id.Node at) (Some d)) step.Main) { step = step.Previous left }) (left_of ids) (on_previous (reader a pin at [] (with_known [] (id.Node at) (Some d)) step.Main))).step) (sym none) (roots (left_of (roots_wanted pin.sweep pin.base (with_known [] (id.Node at) (Some d)) true at)))
  where
    none : previous_wanted (with_known [] (id.Node at) (Some d)) at ≡ []
    none =
        ap (λ b. option_map_or (λ e. unknown (with_known [] (id.Node at) (Some d)) (listed at e)) (cond b (Some d) None) []) (own_id (id.Node at))
        ∙ ap (λ es. unknown (with_known [] (id.Node at) (Some d)) (map (λ e. id.Prev e.number at) es)) (whole d refl)

    roots : (o : Option Left) → IsPlain (option_map_or (λ left. record (reader a pin at [] (with_known [] (id.Node at) (Some d)) step.Main) { step = step.Roots left }) o (on_roots (reader a pin at [] (with_known [] (id.Node at) (Some d)) step.Main))).step
    roots None = tt
    roots (Some left) = tt

-- it is done after its first answer and one for each commit root that is left then
pub node_ends : (a : Global) (pin : Pin) (p : Path) (k : Moment) (ms : List Moment) → ((d : Document) → documents_in k.table (id.Node p) ≡ Some d → d.prev ≡ []) → roots_left (answered (node_reader a pin p) k).step ≤ length ms → IsReaderDone (after_moments (k ∷ ms) (node_reader a pin p)).step
node_ends a pin p k ms whole h = first_ends a pin p [] ms [] (documents_in k.table (id.Node p)) (plain_first a pin p (documents_in k.table (id.Node p)) whole) h

-- ---- a reader of children

module _ (a : Global) (pin : Pin) (p q : Path) (names : List Child) (known : Known) where
  abbrev child_reader : Step → Reader
  child_reader s = record { alloc = a; pin = pin; parent = Some p; at = q; known = known; names = names; step = s }

  stays_at : (s : Step) → (on_main (child_reader s)).at ≡ q
  stays_at s = previous (left_of (previous_wanted known q))
    where
      roots : (o : Option Left) → (option_map_or (λ left. record (child_reader s) { step = step.Roots left }) o (on_roots (child_reader s))).at ≡ q
      roots None = refl
      roots (Some left) = refl

      previous : (o : Option Left) → (option_map_or (λ left. record (child_reader s) { step = step.Previous left }) o (on_previous (child_reader s))).at ≡ q
      previous None = roots (left_of (roots_wanted pin.sweep pin.base known false q))
      previous (Some left) = refl

-- the document behind that of the last child is that of the next one, or it is done
pub next_rises : (m : Moment) (r : Reader) → IsTable m.table → r.step ≡ step.Next → IsReaderDone (answered r m).step ⊎ ((id_cmp (id.Node r.at) (id.Node (answered r m).at) ≡ Less) × (is_some (documents_in m.table (id.Node (answered r m).at)) ≡ true))
next_rises m r is next = by r.alloc r.pin r.parent r.at r.known r.names r.step next
  where
    Rises : Path → Reader → Type 0
    Rises at r' = IsReaderDone r'.step ⊎ ((id_cmp (id.Node at) (id.Node r'.at) ≡ Less) × (is_some (documents_in m.table (id.Node r'.at)) ≡ true))

    by : (a : Global) (pin : Pin) (parent : Option Path) (at : Path) (known : Known) (names : List Child) (s : Step) → s ≡ step.Next
        → Rises at (answered (record { alloc = a; pin = pin; parent = parent; at = at; known = known; names = names; step = s }) m)
    by a pin parent at known names s is_next = subst (λ (s : Step). Rises at (answered (record { alloc = a; pin = pin; parent = parent; at = at; known = known; names = names; step = s }) m)) (sym is_next) (first (behind (id.Node at) m.table) refl)
      where
        reader_at : Path → Reader
        reader_at q = record { alloc = a; pin = pin; parent = parent; at = q; known = known; names = names; step = step.Next }

        first : (es : Entries) → behind (id.Node at) m.table ≡ es → Rises at (fed_next (reader_at at) (option_map (λ e. e.1) (slice_get es 0)))
        first [] none = inl tt
        first (e ∷ more) is_first =
            subst (λ (x : DocId). Rises at (option_map_or (λ q. settled (noted (reader_at q) x (Some e.1))) (child_path_in parent x) (ended (reader_at at)))) (sym id_is) (kind parent e.0 refl)
          where
            found : IsNext (id.Node at) m.table e
            found = next_is (id.Node at) m.table e more is.ordered is_first

            id_is : e.1.id ≡ e.0
            id_is = each_found (λ x d. d.id ≡ x) m.table (recursion_from_All (λ e. e.1.id ≡ e.0) m.table is.named) e.0 e.1 found.found

            kind : (parent : Option Path) (x : DocId) → e.0 ≡ x
                → Rises at (option_map_or (λ q. settled (noted (record { alloc = a; pin = pin; parent = parent; at = q; known = known; names = names; step = step.Next }) x (Some e.1))) (child_path_in parent x) (ended (record { alloc = a; pin = pin; parent = parent; at = at; known = known; names = names; step = step.Next })))
            kind None x same = inl tt
            kind (Some p) (id.Prev n q) same = inl tt
            kind (Some p) id.Settings same = inl tt
            kind (Some p) (id.Node q) same = at_node (is_child_of p q)
              where
                at_node : (b : Bool) → Rises at (option_map_or (λ q'. settled (noted (record { alloc = a; pin = pin; parent = Some p; at = q'; known = known; names = names; step = step.Next }) (id.Node q) (Some e.1))) (cond b (Some q) None) (ended (record { alloc = a; pin = pin; parent = Some p; at = at; known = known; names = names; step = step.Next })))
                at_node false = inl tt
                at_node true = inr (subst (λ (z : Path). (id_cmp (id.Node at) (id.Node z) ≡ Less) × (is_some (documents_in m.table (id.Node z)) ≡ true)) (sym (stays_at a pin p q names (with_known known (id.Node q) (Some e.1)) step.Next))
                    (subst (λ (x : DocId). (id_cmp (id.Node at) x ≡ Less) × (is_some (documents_in m.table x) ≡ true)) same (found.above, ap is_some found.found)))
