-- By what a world keeps.
use Rattle.core_world.proofs.pins_show_the_tree.Goals as goal
use Rattle.core_world.proofs.Loads.{children_given, node_given}
use Rattle.core_world.proofs.Whole.{pin_above}
use Rattle.core_world.proofs.Truths.{pin_closed, pin_settled, pin_shows, pin_there, time_known}

pub returns-clause-pinned : goal.returns-clause-pinned
returns-clause-pinned g c = λ w s kept on login stays. pin_there (g.L.Law.may_start c.args.law.now) (g.L.Law.may_say c.args.law.now) (g.L.Law.proper c.args.law.now) w kept.sessions s on login stays

pub returns-clause-settled : goal.returns-clause-settled
returns-clause-settled g c = λ w s pin kept there has. pin_settled (g.L.Law.may_start c.args.law.now) (g.L.Law.may_say c.args.law.now) (g.L.Law.proper c.args.law.now) w kept.sessions s there pin has

pub returns-clause-closed : goal.returns-clause-closed
returns-clause-closed g c = λ w s pin kept there has. pin_closed (g.L.Law.may_start c.args.law.now) (g.L.Law.may_say c.args.law.now) (g.L.Law.proper c.args.law.now) w kept.sessions s there pin has

pub returns-clause-shown : goal.returns-clause-shown
returns-clause-shown g c = λ w s pin p kept there has. pin_shows (g.L.Law.may_start c.args.law.now) (g.L.Law.may_say c.args.law.now) (g.L.Law.proper c.args.law.now) w kept.sessions s there pin has (pin_above (g.L.Law.may_start c.args.law.now) (g.L.Law.may_say c.args.law.now) (g.L.Law.proper c.args.law.now) w kept s there pin has) p

pub returns-clause-node : goal.returns-clause-node
returns-clause-node g c = λ w s r o kept here kind ends. node_given (g.L.Law.may_start c.args.law.now) (g.L.Law.may_say c.args.law.now) (g.L.Law.proper c.args.law.now) w kept.sessions s r here o kind ends

pub returns-clause-children : goal.returns-clause-children
returns-clause-children g c = λ w s r p o kept here kind ends. children_given (g.L.Law.may_start c.args.law.now) (g.L.Law.may_say c.args.law.now) (g.L.Law.proper c.args.law.now) w kept.sessions s r here p o kind ends

pub returns-clause-times : goal.returns-clause-times
returns-clause-times g c = λ w k kept node. time_known (g.L.Law.may_start c.args.law.now) (g.L.Law.may_say c.args.law.now) (g.L.Law.proper c.args.law.now) w kept.sessions k node
