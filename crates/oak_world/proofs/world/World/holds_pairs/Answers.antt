use Rattle.oak_world.specs.Worlds.{state_of, with_formers}
use Rattle.oak_world.proofs.Pairs.{checkpoint_tree, checkpoints_are, pin_tree, reader_tree, readers_are}
use Rattle.oak_world.proofs.Seats.{world_is}
use Rattle.oak_world.proofs.world.World.holds_pairs.Goals as goal

pub returns-clause-pins : goal.returns-clause-pins
returns-clause-pins g c = λ k owner pin node has.
    pin_tree (g.L.Law.may_start c.args.self.now.law) (g.L.Law.may_say c.args.self.now.law) (g.L.Law.proper c.args.self.now.law) (with_formers (state_of c.args.self.now) (world_is g.L.Law.may_start g.L.Law.may_say _ c.args.self.now c.self.view_is c.self.invariant.0.0).formers) (world_is g.L.Law.may_start g.L.Law.may_say _ c.args.self.now c.self.view_is c.self.invariant.0.0).kept k owner pin node has

pub returns-clause-checkpoints : goal.returns-clause-checkpoints
returns-clause-checkpoints g c = λ i pin has.
    checkpoint_tree (g.L.Law.may_start c.args.self.now.law) (g.L.Law.may_say c.args.self.now.law) (g.L.Law.proper c.args.self.now.law) (with_formers (state_of c.args.self.now) (world_is g.L.Law.may_start g.L.Law.may_say _ c.args.self.now c.self.view_is c.self.invariant.0.0).formers) (world_is g.L.Law.may_start g.L.Law.may_say _ c.args.self.now c.self.view_is c.self.invariant.0.0).kept i pin has

pub returns-clause-readers : goal.returns-clause-readers
returns-clause-readers g c = λ s pin has.
    reader_tree (g.L.Law.may_start c.args.self.now.law) (g.L.Law.may_say c.args.self.now.law) (g.L.Law.proper c.args.self.now.law) (with_formers (state_of c.args.self.now) (world_is g.L.Law.may_start g.L.Law.may_say _ c.args.self.now c.self.view_is c.self.invariant.0.0).formers) (world_is g.L.Law.may_start g.L.Law.may_say _ c.args.self.now c.self.view_is c.self.invariant.0.0).kept s pin has

pub returns-clause-owners : goal.returns-clause-owners
returns-clause-owners g c = λ k owner node. ((world_is g.L.Law.may_start g.L.Law.may_say _ c.args.self.now c.self.view_is c.self.invariant.0.0).kept.sessions.memories.pins k node).bases owner

pub returns-clause-kept : goal.returns-clause-kept
returns-clause-kept g c = λ i.
    checkpoints_are (g.L.Law.may_start c.args.self.now.law) (g.L.Law.may_say c.args.self.now.law) (g.L.Law.proper c.args.self.now.law) (with_formers (state_of c.args.self.now) (world_is g.L.Law.may_start g.L.Law.may_say _ c.args.self.now c.self.view_is c.self.invariant.0.0).formers) (world_is g.L.Law.may_start g.L.Law.may_say _ c.args.self.now c.self.view_is c.self.invariant.0.0).kept i

pub returns-clause-attached : goal.returns-clause-attached
returns-clause-attached g c = λ s.
    readers_are (g.L.Law.may_start c.args.self.now.law) (g.L.Law.may_say c.args.self.now.law) (g.L.Law.proper c.args.self.now.law) (with_formers (state_of c.args.self.now) (world_is g.L.Law.may_start g.L.Law.may_say _ c.args.self.now c.self.view_is c.self.invariant.0.0).formers) (world_is g.L.Law.may_start g.L.Law.may_say _ c.args.self.now c.self.view_is c.self.invariant.0.0).kept (world_is g.L.Law.may_start g.L.Law.may_say _ c.args.self.now c.self.view_is c.self.invariant.0.0).unstopped s
