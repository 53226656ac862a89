use Rattle.std.proofs.Common.{refl, subst}
use Rattle.jr_path.specs.declared.name.Name.{Name}
use Rattle.jr_tree.specs.Trees.{Nodes}
use Rattle.jr_overlay.specs.Overlays.{View, known_view}
use Rattle.jcr_trans.specs.declared.command.Command.TheVariants as command
use Rattle.jcr_read.specs.Reading.{Replies, by_id_answer, shown, versions_answer}
use Rattle.jcr_read.proofs.Replied.{read_as, seen_as}
use Rattle.jcr_view.proofs.pending.Pending.read.Goals as goal

pub returns-in-ById : goal.returns-in-ById
returns-in-ById c = read_as c.args.types.now c.args.part.now.nodes c.args.command.now
    (command.ById c.in-ById.text) c.args.part.now c.self.inside.overlay c.args.self.now c.by_identifier.result
    c.in-ById.is c.self.view_is
    (subst (λ (id : Name). Replies (by_id_answer (known_view c.args.part.now c.self.inside.overlay) id)
    c.by_identifier.result) c.as_str.ensures c.by_identifier.ensures)

pub returns-in-Refs : goal.returns-in-Refs
returns-in-Refs c = read_as c.args.types.now c.args.part.now.nodes c.args.command.now
    (command.Refs c.in-Refs.path) c.args.part.now c.self.inside.overlay c.args.self.now c.refs.result
    c.in-Refs.is c.self.view_is c.refs.ensures

pub returns-in-Versions : goal.returns-in-Versions
returns-in-Versions c = read_as c.args.types.now c.args.part.now.nodes c.args.command.now
    (command.Versions c.in-Versions.path) c.args.part.now c.self.inside.overlay c.args.self.now
    c.versions.result c.in-Versions.is c.self.view_is
    (subst (λ (t : Nodes). Replies (versions_answer t c.in-Versions.path) c.versions.result)
    c.whole.ensures.nodes c.versions.ensures)

pub returns-in_default : goal.returns-in_default
returns-in_default c = read_as c.args.types.now c.args.part.now.nodes c.args.command.now c.args.command.now
    c.args.part.now c.self.inside.overlay c.args.self.now c.read_nodes.result refl c.self.view_is
    (seen_as c.new.result c.args.part.now c.self.inside.overlay
    (λ (v : View). Replies (shown c.args.types.now v c.args.part.now.nodes c.args.command.now) c.read_nodes.result)
    c.new.ensures.known c.new.ensures.changed (c.read_nodes.ensures c.args.part.now.nodes))
