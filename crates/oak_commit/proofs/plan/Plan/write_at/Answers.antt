use Rattle.std.proofs.Common.{◌∙◌, ap, sym, ◌++◌}
use Rattle.std.specs.List.{flat_map}
use Rattle.oak_clash.specs.Clashes.{marks_at}
use Rattle.oak_commit.specs.Places.{items_at, places_of}
use Rattle.oak_commit.specs.Writing.{entries_at, marking_of, write_op}
use Rattle.oak_commit.proofs.Indexed.{write_is}
use Rattle.oak_commit.proofs.plan.Plan.write_at.Goals as goal

pub returns : goal.returns
returns c =
    write_is c.args.r c.self.inside.edit c.self.inside.marks c.self.inside.ids c.self.inside.root c.args.path.now c.in_ok-copy.field-0 c.self.inside.writes c.self.inside.marked c.in_ok-mine.mine.items c.new-changes.result c.put_entries_at.new.changes c.put_rooting.new.changes c.put_markings_of.new.changes
    c.self.invariant c.in_ok-copy.ensures
    (c.in_ok-mine.ensures ∙ ap (λ v. marks_at c.args.path.now v.marks) (sym c.self.view_is))
    c.new-changes.ensures
    (c.in_ok-put_entries_at.ensures ∙ ap (λ ws. c.new-changes.result ++ entries_at c.args.r c.args.path.now (items_at ws (places_of c.self.inside.writes c.args.path.now))) c.as_slice.ensures)
    c.in_ok-put_rooting.ensures
    (c.in_ok-put_markings_of.ensures ∙ ap (λ ms. c.put_rooting.new.changes ++ flat_map (marking_of c.args.r) ms) c.as_slice-2.ensures.value)
    ∙ ap (λ v. write_op c.args.r v.edit.writes v.marks c.args.path.now) c.self.view_is
