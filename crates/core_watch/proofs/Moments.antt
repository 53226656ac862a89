-- A reader keeps its pin, and what it was made for.
use Rattle.std.proofs.Common.{◌≡◌, Some, None, Option, List, [], ◌∷◌, refl, sym, subst}
use Rattle.std.specs.Prelude.{is_none}
use Rattle.std.specs.Option.{option_map_or, unwrap_or}
use Rattle.std.specs.declared.alloc.Global.{Global}
use Rattle.jr_path.specs.declared.path.Path.{Path}
use Rattle.jr_path.specs.declared.path.DocId.TheVariants as id
use Rattle.jr_rev.specs.declared.vector.Pin.{Pin}
use Rattle.oak_doc.specs.declared.document.Document.{Document}
use Rattle.oak_doc.specs.declared.asks.Reply.{Reply}
use Rattle.oak_doc.specs.declared.asks.Reply.TheVariants as reply
use Rattle.oak_read.specs.Wanted.{Known, left_of, previous_wanted, roots_wanted}
use Rattle.oak_read.specs.Reading.{answer, due, fed, fed_next, child_path_in, ended, noted, settled, on_main, on_previous, on_roots, with_known, node_reader, children_reader}
use Rattle.oak_read.specs.declared.wanted.Left.{Left}
use Rattle.oak_read.specs.declared.reader.Reader.{Reader}
use Rattle.oak_read.specs.declared.reader.ReadOut.{ReadOut}
use Rattle.oak_read.specs.declared.reader.Step.{Step}
use Rattle.oak_read.specs.declared.reader.Step.TheVariants as step
use Rattle.core_watch.specs.Standing.{Child, path_read}
use Rattle.core_watch.specs.Moments.{IsReaderFor}

module _ (a : Global) (pin : Pin) where
  abbrev reader : Option Path → Path → Known → List Child → Step → Reader
  reader parent at known names s = record { alloc = a; pin = pin; parent = parent; at = at; known = known; names = names; step = s }

  either_kept : (parent : Option Path) (p : Path) (f : Left → Reader) (o : Option Left) (r : Reader) → ((left : Left) → IsReaderFor pin parent p (f left)) → IsReaderFor pin parent p r → IsReaderFor pin parent p (option_map_or f o r)
  either_kept parent p f None r some none = none
  either_kept parent p f (Some left) r some none = some left

  roots_kept : (parent : Option Path) (at : Path) (known : Known) (names : List Child) (s : Step) → IsReaderFor pin parent (unwrap_or parent at) (on_roots (reader parent at known names s))
  roots_kept None at known names s = record { same_pin = refl; same_kind = refl; same_path = refl }
  roots_kept (Some p) at known names s = record { same_pin = refl; same_kind = refl; same_path = refl }

  main_kept : (parent : Option Path) (at : Path) (known : Known) (names : List Child) (s : Step) → IsReaderFor pin parent (unwrap_or parent at) (on_main (reader parent at known names s))
  main_kept parent at known names s =
      either_kept parent (unwrap_or parent at) (λ left. record (reader parent at known names s) { step = step.Previous left }) (left_of (previous_wanted known at)) (on_previous (reader parent at known names s)) (λ left. record { same_pin = refl; same_kind = refl; same_path = refl })
      (previous_kept parent at known names s)
    where
      previous_kept : (parent : Option Path) (at : Path) (known : Known) (names : List Child) (s : Step) → IsReaderFor pin parent (unwrap_or parent at) (on_previous (reader parent at known names s))
      previous_kept parent at known names s = either_kept parent (unwrap_or parent at) (λ left. record (reader parent at known names s) { step = step.Roots left }) (left_of (roots_wanted pin.sweep pin.base known (is_none parent) at)) (on_roots (reader parent at known names s)) (λ left. record { same_pin = refl; same_kind = refl; same_path = refl }) (roots_kept parent at known names s)

  settled_kept : (parent : Option Path) (at : Path) (known : Known) (names : List Child) (s : Step) → IsReaderFor pin parent (unwrap_or parent at) (settled (reader parent at known names s))
  settled_kept parent at known names step.Main = main_kept parent at known names step.Main
  settled_kept parent at known names step.Next = main_kept parent at known names step.Next
  settled_kept parent at known names (step.Previous left) =
      either_kept parent (unwrap_or parent at) (λ more. record (reader parent at known names (step.Previous left)) { step = step.Previous more }) (left_of left.rest) (on_previous (reader parent at known names (step.Previous left))) (λ more. record { same_pin = refl; same_kind = refl; same_path = refl })
      (either_kept parent (unwrap_or parent at) (λ more. record (reader parent at known names (step.Previous left)) { step = step.Roots more }) (left_of (roots_wanted pin.sweep pin.base known (is_none parent) at)) (on_roots (reader parent at known names (step.Previous left))) (λ more. record { same_pin = refl; same_kind = refl; same_path = refl }) (roots_kept parent at known names (step.Previous left)))
  settled_kept parent at known names (step.Roots left) =
      either_kept parent (unwrap_or parent at) (λ more. record (reader parent at known names (step.Roots left)) { step = step.Roots more }) (left_of left.rest) (on_roots (reader parent at known names (step.Roots left))) (λ more. record { same_pin = refl; same_kind = refl; same_path = refl }) (roots_kept parent at known names (step.Roots left))
  settled_kept parent at known names (step.Done o) = record { same_pin = refl; same_kind = refl; same_path = refl }

  next_kept : (parent : Option Path) (at : Path) (known : Known) (names : List Child) (found : Option Document) → IsReaderFor pin parent (unwrap_or parent at) (fed_next (reader parent at known names step.Next) found)
  next_kept parent at known names None = record { same_pin = refl; same_kind = refl; same_path = refl }
  next_kept None at known names (Some d) = record { same_pin = refl; same_kind = refl; same_path = refl }
  next_kept (Some p) at known names (Some d) = by (child_path_in (Some p) d.id)
    where
      by : (o : Option Path) → IsReaderFor pin (Some p) p (option_map_or (λ q. settled (noted (reader (Some p) q known names step.Next) d.id (Some d))) o (ended (reader (Some p) at known names step.Next)))
      by None = record { same_pin = refl; same_kind = refl; same_path = refl }
      by (Some q) = settled_kept (Some p) q (with_known known d.id (Some d)) names step.Next

  found_kept : (parent : Option Path) (at : Path) (known : Known) (names : List Child) (s : Step) (found : Option Document) → IsReaderFor pin parent (unwrap_or parent at) (fed (reader parent at known names s) (reply.Found found))
  found_kept parent at known names step.Main None = record { same_pin = refl; same_kind = refl; same_path = refl }
  found_kept parent at known names step.Main (Some d) = settled_kept parent at (with_known known (id.Node at) (Some d)) names step.Main
  found_kept parent at known names step.Next found = next_kept parent at known names found
  found_kept parent at known names (step.Previous left) found = settled_kept parent at (with_known known left.first found) names (step.Previous left)
  found_kept parent at known names (step.Roots left) found = settled_kept parent at (with_known known left.first found) names (step.Roots left)
  found_kept parent at known names (step.Done o) found = record { same_pin = refl; same_kind = refl; same_path = refl }

pub fed_keeps : (r : Reader) (x : Reply) → IsReaderFor r.pin r.parent (path_read r) (fed r x)
fed_keeps r (reply.Found found) = found_kept r.alloc r.pin r.parent r.at r.known r.names r.step found
fed_keeps r x = record { same_pin = refl; same_kind = refl; same_path = refl }
