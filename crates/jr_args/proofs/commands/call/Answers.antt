use Rattle.jr_args.proofs.commands.call.Goals as goal

pub returns-in-OnPath : goal.returns-in-OnPath
returns-in-OnPath c = rw c.in-OnPath.is c.on_path.ensures

pub returns-in-OnName : goal.returns-in-OnName
returns-in-OnName c = rw c.in-OnName.is c.on_name.ensures

pub returns-in-Add : goal.returns-in-Add
returns-in-Add c = rw c.in-Add.is c.add.ensures

pub returns-in-Tree : goal.returns-in-Tree
returns-in-Tree c = rw c.in-Tree.is c.tree.ensures

pub returns-in-Set : goal.returns-in-Set
returns-in-Set c = rw c.in-Set.is c.set.ensures

pub returns-in-Move : goal.returns-in-Move
returns-in-Move c = rw c.in-Move.is c.move_to.ensures

pub returns-in-Lock : goal.returns-in-Lock
returns-in-Lock c = rw c.in-Lock.is c.lock.ensures

pub returns-in-Restore : goal.returns-in-Restore
returns-in-Restore c = rw c.in-Restore.is c.restore.ensures

pub returns-in-Label : goal.returns-in-Label
returns-in-Label c = rw c.in-Label.is c.label.ensures

pub returns-in-Observe : goal.returns-in-Observe
returns-in-Observe c = rw c.in-Observe.is c.observe.ensures

pub returns-in-Query : goal.returns-in-Query
returns-in-Query c = rw c.in-Query.is c.query.ensures

pub returns-in-OrderBefore : goal.returns-in-OrderBefore
returns-in-OrderBefore c = rw c.in-OrderBefore.is c.order_before.ensures
