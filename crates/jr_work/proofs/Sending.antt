-- Jobs of the workers, and the passes that they give back, may go to other threads, and the world may be
-- shared: shown part by part, since a search of the whole breaks off.
use Prim.Native.Nat.{ℕ}
use mathlib.Core.List.{List, [], ◌∷◌}
use mir.Syntax.{given}
use denote.RattleType.{RattleType}
use denote.Ref.{NamedLft}
use denote.Param.Send.{IsSend, IsSync, plain_send, plain_sync, recorded_send, recorded_sync, sendable, shr_sync, struct_send, struct_sync, view_send}
use denote.Struct.Declared as Declared
use denote.Struct.Field as Field
use denote.Struct.Tuple as Tuple
use Rattle.std.proofs.Crossing.{crosses}
use Rattle.std.specs.contracts.alloc.Global as Global
use Rattle.std.specs.contracts.impls.GlobalAllocator.TheImpl.{ghosts}
use Rattle.std.specs.contracts.snapshot.Snapshot as Snapshot
use Rattle.jcr_law.specs.contracts.law.JcrLaw as JcrLaw
use Rattle.jcr_law.specs.contracts.law.JcrLawLaw.TheImpl as Lawful
use Rattle.oak_machine.specs.contracts.event.Event as Event
use Rattle.oak_machine.proofs.event.Journal.TheSendSync as J
use Rattle.oak_node.specs.contracts.memory.NodeMem as NodeMem
use Rattle.oak_node.proofs.memory.NodeMem.TheSendSync as M
use Rattle.oak_store.proofs.DocTable.TheSendSync as T
use Rattle.oak_world.specs.contracts.actor.Actor as Actor
use Rattle.oak_world.proofs.actor.Actor.TheSendSync as A
use Rattle.oak_world.specs.contracts.world.World as World
use Rattle.oak_world.specs.contracts.world.World.TheInside as Inside
use Rattle.jr_shared.specs.contracts.locked.LockedWorld as LockedWorld
use Rattle.jr_shared.specs.contracts.locked.LockedWorldCounted.TheImpl as Counted
use Rattle.jr_shared.specs.contracts.locked.SessionPart as SessionPart
use Rattle.jr_shared.specs.contracts.locked.WorldFrame as WorldFrame
use Rattle.jr_shared.specs.contracts.shared.SharedWorld as SharedWorld
use Rattle.jr_script.specs.contracts.script.Script as Script
use Rattle.seat_lock.specs.contracts.pass.Pass as Pass
use Rattle.seat_lock.proofs.lock.SeatLock.TheSendSync as L
use Rattle.seat_lock.proofs.pass.Pass.TheSendSync as P
use Rattle.jr_types.specs.contracts.registry.Registry as Registry
use Rattle.jr_types.proofs.registry.Registry.TheSendSync as Types
use Rattle.jr_work.specs.contracts.worker.Crew as Crew
use Rattle.jr_work.specs.contracts.worker.Job as Job
use Rattle.jr_work.proofs.hands.Hand.TheSendSync as Hand
use Rattle.std.proofs.vec.Vec.TheSendSync as V
use Rattle.std.proofs.alloc.Global.TheSendSync as Heap
use Rattle.std.below.std_heap.proofs.GlobalAllocator.TheSendSync as Frees

law : IsSend (Snapshot.the_row JcrLaw.the_row)
law = search (sendable, crosses)

pub world_send : IsSend (World.the_row JcrLaw.the_row Lawful.ghosts)
world_send =
    view_send (Inside.the_row JcrLaw.the_row Lawful.ghosts) _ _ _ _
    (recorded_send (Inside.the_field JcrLaw.the_row Lawful.ghosts).row _ _ (Inside.the_type JcrLaw.the_row Lawful.ghosts).to_one
    (struct_send (Declared.shape (Inside.the_type JcrLaw.the_row Lawful.ghosts)) (
      Heap.the_field_send,
      (
        law,
        (
          J.the_field_send,
          (
            T.the_send,
            (
              V.the_send NodeMem.the_row Global.the_row ghosts M.the_send Heap.the_send Frees.the_frees,
              (V.the_send Actor.the_row Global.the_row ghosts A.the_send Heap.the_send Frees.the_frees, tt),
            ),
          ),
        ),
      ),
    )))

pub locked_send : IsSend (LockedWorld.the_row JcrLaw.the_row Lawful.ghosts)
locked_send =
    recorded_send (LockedWorld.the_field JcrLaw.the_row Lawful.ghosts).row _ _ (LockedWorld.the_type JcrLaw.the_row Lawful.ghosts).to_one
    (struct_send (Declared.shape (LockedWorld.the_type JcrLaw.the_row Lawful.ghosts)) (world_send, tt))

pub shared_sync : IsSync (SharedWorld.the_row JcrLaw.the_row Lawful.ghosts)
shared_sync =
    recorded_sync (SharedWorld.the_field JcrLaw.the_row Lawful.ghosts).row _ _ (SharedWorld.the_type JcrLaw.the_row Lawful.ghosts).to_one
    (struct_sync (Declared.shape (SharedWorld.the_type JcrLaw.the_row Lawful.ghosts)) (L.the_field_sync (LockedWorld.the_row JcrLaw.the_row Lawful.ghosts) Event.the_row SessionPart.the_row (WorldFrame.the_row JcrLaw.the_row) (World.the_row JcrLaw.the_row Lawful.ghosts) (Counted.ghosts JcrLaw.the_row Lawful.ghosts (given 0) (given 0)) locked_send, tt))

-- the script that clauses read has no bytes
pub script_sync : IsSync (Snapshot.the_row Script.the_row)
script_sync = search (sendable, crosses)

pub pass_send : IsSend (Pass.the_row (LockedWorld.the_row JcrLaw.the_row Lawful.ghosts) Event.the_row SessionPart.the_row (WorldFrame.the_row JcrLaw.the_row) (World.the_row JcrLaw.the_row Lawful.ghosts) (Counted.ghosts JcrLaw.the_row Lawful.ghosts (given 0) (given 0)))
pass_send = P.the_send (LockedWorld.the_row JcrLaw.the_row Lawful.ghosts) Event.the_row SessionPart.the_row (WorldFrame.the_row JcrLaw.the_row) (World.the_row JcrLaw.the_row Lawful.ghosts) (Counted.ghosts JcrLaw.the_row Lawful.ghosts (given 0) (given 0)) locked_send

pass_field_send : IsSend (Pass.the_field (LockedWorld.the_row JcrLaw.the_row Lawful.ghosts) Event.the_row SessionPart.the_row (WorldFrame.the_row JcrLaw.the_row) (World.the_row JcrLaw.the_row Lawful.ghosts) (Counted.ghosts JcrLaw.the_row Lawful.ghosts (given 0) (given 0))).row
pass_field_send = P.the_field_send (LockedWorld.the_row JcrLaw.the_row Lawful.ghosts) Event.the_row SessionPart.the_row (WorldFrame.the_row JcrLaw.the_row) (World.the_row JcrLaw.the_row Lawful.ghosts) (Counted.ghosts JcrLaw.the_row Lawful.ghosts (given 0) (given 0)) locked_send

pub job_send : IsSend Job.the_row
job_send = recorded_send (Job.the_field).row _ _ (Job.the_type).to_one (struct_send (Declared.shape Job.the_type) (plain_send _ _ _ _ _, (pass_field_send, (Hand.the_send, tt))))

-- what the workers share
module _ (a : NamedLft) (R G : RattleType) where
  pub crew_sync : IsSync R → IsSync G → IsSync (Crew.the_row a R G)
  crew_sync r g =
      recorded_sync (Crew.the_field a R G).row _ _ (Crew.the_type a R G).to_one
      (struct_sync (Declared.shape (Crew.the_type a R G)) (
        shr_sync _ _ R r,
        (
          Heap.the_field_sync,
          (
            shr_sync _ _ (SharedWorld.the_row JcrLaw.the_row Lawful.ghosts) shared_sync,
            (
              shr_sync _ _ (Snapshot.the_row Script.the_row) script_sync,
              (
                shr_sync _ _ Registry.the_row Types.the_sync,
                (
                  plain_sync _ _ _ _ _,
                  (
                    plain_sync _ _ _ _ _,
                    (shr_sync _ _ G g, tt),
                  ),
                ),
              ),
            ),
          ),
        ),
      ))

  -- a closure that holds a reference to it: names and regions count for nothing here
  module _ (name : List ℕ) (b : NamedLft) where
    abbrev captured : List RattleType
    captured = (Field.shr_ref_field b (Crew.the_row a R G) tt).row ∷ []

    pub closure_sync : IsSync R → IsSync G → IsSync (Tuple.TupleAt name captured)
    closure_sync r g =
        recorded_sync (Tuple.field_at name captured).row _ _ (Tuple.type_at name captured).to_one
        (struct_sync (Declared.shape (Tuple.type_at name captured)) (shr_sync _ _ (Crew.the_row a R G) (crew_sync r g), tt))
