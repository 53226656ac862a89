-- Documents that show a start keep it before any event.
use Rattle.std.proofs.Common.{◌≡◌, ◌||◌, Bool, true, false, Some, None, Option, List, [], refl, ap, sym, ◌∙◌, is_some}
use Rattle.std.specs.List.{filter}
use Rattle.std.specs.Option.{option_and_then}
use mathlib.Core.Bool.{false≢true}
use Rattle.jr_rev.specs.declared.revision.Revision.{Revision}
use Rattle.jr_rev.specs.Vectors.{sees}
use Rattle.jr_tree.specs.declared.edit.Write.{Write}
use Rattle.jr_tree.specs.Items.{put_of}
use Rattle.jr_tree.specs.Trees.{born_at, property_at}
use Rattle.oak_doc.specs.Updates.{of_revision}
use Rattle.oak_read.specs.Meaning.{Documents, latest}
use Rattle.oak_machine.specs.declared.event.Start.{Start}
use Rattle.core_read.specs.World.{Progress}
use Rattle.core_keep.specs.From.{course_from}
use Rattle.core_keep.specs.Keeps.{KeepsItem}
use Rattle.core_keep.specs.Standing.{gone_of, shows_node, shows_value}
use Rattle.core_begun.specs.Kept.{IsKeptSince, ShowsStart}
use Rattle.core_begun.proofs.Told.{told_start}

or_false : (b : Bool) → (b || false) ≡ b
or_false true = refl
or_false false = refl

-- an item of which the documents show what the start has
kept_item : {X Y : Type 0} (start : Start) (f : Write → Option X) (show : Revision × X → Option Y) (begun : Option Y) (es : List (Revision × X))
    → option_and_then show (latest (filter (λ e. sees start.at e.0) es)) ≡ begun → ((r : Revision) → sees start.at r ≡ false → of_revision es r ≡ None) → KeepsItem f show begun (course_from start []) es
kept_item start f show begun es shown old = record {
  exact = λ r ws e. absurd (false≢true (ap is_some e));
  genuine = λ r ws x e. absurd (false≢true (ap is_some e));
  none_else = λ r e o f. old r o;
  last = (λ i. option_and_then show (latest (filter (λ e. or_false (sees start.at e.0) i) es))) ∙ shown;
}

pub kept_start : (start : Start) (ds : Documents) (done : Progress) → ShowsStart start ds → IsKeptSince start ds [] done
kept_start start ds done shown = record {
  first = shown.first;
  keeps = λ p. record {
    node = kept_item start (gone_of p) shows_node (born_at start.tree p) _ (shown.node p) (shown.of_node p);
    prop = λ n. kept_item start (put_of p n) shows_value (property_at start.tree p n) _ (shown.prop p n) (shown.of_prop p n);
    rooted = λ d i r ws e. absurd (false≢true (ap is_some e));
    unsaid = λ r e o. shown.unsaid p r o;
    no_root = λ r e o f. shown.no_root p r o;
    named = shown.named p;
    previous = shown.previous p;
  };
  told = told_start start;
  separate = λ r ws e. absurd (false≢true (ap is_some e));
  bounded = record { settled = λ o f. absurd (false≢true f); closed = λ o us e. absurd (false≢true (ap is_some e)) };
  swept = λ o f. absurd (false≢true f);
  partly = λ r d h. absurd (false≢true (ap is_some h));
}
