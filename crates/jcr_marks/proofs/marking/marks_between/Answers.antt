use Rattle.std.proofs.Common.{rules, ◌≡◌, ◌++◌, ap, ◌∙◌}
use Rattle.std.specs.List.{filter_map, flat_map, fold}
use Rattle.std.specs.Map.{keys_of}
use Rattle.jcr_ref.specs.References.{target_of}
use Rattle.oak_clash.specs.declared.mark.Mark.TheVariants.{Touch}
use Rattle.oak_machine.specs.Marks.{Marked, with_marks}
use Rattle.jcr_marks.specs.Marks.{mark_each, new_references}
use Rattle.jcr_marks.specs.ByWrite.{marks_by}
use Rattle.jcr_marks.proofs.ByWrite.{marks_found}
use Rattle.jcr_marks.proofs.marking.marks_between.Goals as goal

pub loop-mark-init : goal.loop-mark-init
loop-mark-init c =
    let all : c.into_iter-mark-iterator.result ≡ c.note_targets.new.found = search rules in
    ap (λ ms. ms ++ keys_of c.into_iter-mark-iterator.result) c.new-marks.ensures
    ∙ (ap keys_of all
    ∙ marks_found c.args.old.now c.args.writes.now c.args.new.now c.note_targets.new.found c.in_order.ensures c.requires
    (c.in_ok-note_targets.ensures
    ∙ ap (λ (es : Marked). with_marks es (mark_each Touch (filter_map (target_of c.args.new.now) (flat_map (new_references c.args.old.now) c.args.writes.now))))
    (c.in_ok-note_writes.ensures ∙ ap (λ (es : Marked). fold (λ es w. with_marks es (marks_by c.args.old.now c.args.new.now w)) es c.args.writes.now) c.new-found.ensures)))
