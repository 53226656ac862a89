use Rattle.std.proofs.Common.{ap, sym, ◌∙◌, ◌≡◌, false}
use Rattle.std.specs.List.{find}
use Rattle.std.specs.Option.{option_copied, option_map_or, option_or}
use Rattle.std.specs.Map.{keys_of}
use Rattle.jr_tree.specs.Trees.{Nodes, property_at}
use Rattle.jr_value.specs.Values.{same_bytes}
use Rattle.jr_items.specs.Items.{one_text}
use Rattle.jcr_ref.specs.References.{is_target, uuid_text}
use Rattle.jcr_ref.specs.Targets.{node_by_text}
use Rattle.jcr_ref.proofs.FirstNodes.{first_more}
use Rattle.jcr_ref.proofs.targets.first_nodes.Goals as goal

pub loop-at-preserved : goal.loop-at-preserved
loop-at-preserved c = λ id.
    let text : option_copied c.one_text.result ≡ one_text (property_at c.args.tree.now c.in-Some.at.now c.in_ok-uuid.uuid) = c.one_text.ensures ∙ ap one_text c.property.ensures in
    first_more c.loop-at.index c.note_first.new.index (option_copied c.one_text.result) (is_target c.args.tree.now id) c.in-Some.at.now (keys_of c.next.new.self) id _ c.in_ok-note_first.ensures
    (ap (λ o. option_map_or (same_bytes (uuid_text id)) o false) (sym (text ∙ ap (λ k. one_text (property_at c.args.tree.now c.in-Some.at.now k)) c.in_ok-uuid.ensures)))
    (ap (λ (es : Nodes). option_or (node_by_text c.loop-at.index id) (find (is_target c.args.tree.now id) (keys_of es))) (sym c.in-Some.ensures.steps) ∙ c.loop-at.invariant id)
