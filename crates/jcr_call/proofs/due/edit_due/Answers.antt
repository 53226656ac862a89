use Rattle.std.specs.Prelude.{option_map}
use Rattle.jcr_call.specs.Dues.{writes_due}
use Rattle.jcr_call.proofs.AtOnce.{checkin_due, checkout_due, label_due, lock_due, restore_due, unlabel_due, unlock_due}
use Rattle.jcr_call.proofs.due.edit_due.Goals as goal

pub returns-in-Lock : goal.returns-in-Lock
returns-in-Lock c = λ on o. lock_due (option_map writes_due) c.lock_due.result on c.args.command.now
    c.in-Lock.path c.in-Lock.deep c.in-Lock.is (c.lock_due.ensures on o)

pub returns-in-Unlock : goal.returns-in-Unlock
returns-in-Unlock c = λ on o. unlock_due (option_map writes_due) c.unlock_due.result on c.args.command.now
    c.in-Unlock.path c.in-Unlock.is (c.unlock_due.ensures on o)

pub returns-in-Checkin : goal.returns-in-Checkin
returns-in-Checkin c = λ on o. checkin_due (option_map writes_due) c.checkin_due.result on
    c.args.command.now c.in-Checkin.path c.in-Checkin.is (c.checkin_due.ensures on o)

pub returns-in-Checkout : goal.returns-in-Checkout
returns-in-Checkout c = λ on o. checkout_due (option_map writes_due) c.checkout_due.result on
    c.args.command.now c.args.footing.now.base.now c.in-Checkout.path c.in-Checkout.is o.base
    c.checkout_due.ensures

pub returns-in-Label : goal.returns-in-Label
returns-in-Label c = λ on o. label_due (option_map writes_due) c.label_due.result on c.args.command.now
    c.args.footing.now.base.now c.in-Label.path c.in-Label.version c.as_str.result.now c.in-Label.label
    c.in-Label.take c.in-Label.is o.base c.as_str.ensures c.label_due.ensures

pub returns-in-Unlabel : goal.returns-in-Unlabel
returns-in-Unlabel c = λ on o. unlabel_due (option_map writes_due) c.unlabel_due.result on
    c.args.command.now c.args.footing.now.base.now c.in-Unlabel.path c.in-Unlabel.label
    c.in-Unlabel.is o.base c.unlabel_due.ensures

pub returns-in-Restore : goal.returns-in-Restore
returns-in-Restore c = λ on o. restore_due (option_map writes_due) c.restore_due.result on
    c.args.command.now c.in-Restore.path c.in-Restore.version c.as_str-in-Restore.result.now
    c.in-Restore.is c.as_str-in-Restore.ensures (c.restore_due.ensures on o)
