use Rattle.std.proofs.Common.{◌&&◌, ap, map, ◌∙◌}
use Rattle.std.specs.List.{filter}
use Rattle.std.specs.Map.{keys_of}
use Rattle.std.specs.Map.Iter.{deref_pair}
use Rattle.jr_tree.specs.Trees.{Nodes}
use Rattle.oak_clash.specs.declared.mark.Mark.TheVariants.{Guard}
use Rattle.oak_machine.specs.Marks.{with_marks}
use Rattle.jcr_marks.specs.Marks.{is_covered_anew, mark_each, stays}
use Rattle.jcr_marks.proofs.marking.note_covered.Goals as goal

pub loop-at-init : goal.loop-at-init
loop-at-init c =
    ap (λ (es : Nodes). with_marks c.args.found.now (mark_each Guard (filter (λ q. stays c.args.old.now c.args.new.now q && is_covered_anew c.args.old.now c.args.new.now q) (keys_of es)))) (ap (map deref_pair) c.deref-at-items.ensures.value ∙ c.in_ok-under.ensures)
