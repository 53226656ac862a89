-- Each step by its lemma.
use Rattle.core_world.proofs.commits_keep_the_world.Goals as goal
use Rattle.core_world.proofs.Whole.{draw_whole, finish_whole, last_whole, mark_whole, undo_whole, want_whole, write_in_want_whole, write_whole}

pub returns-clause-draw : goal.returns-clause-draw
returns-clause-draw g c = λ w s edit marks kept on login stays detached none lawful. draw_whole (g.L.Law.may_start c.args.law.now) (g.L.Law.may_say c.args.law.now) (g.L.Law.proper c.args.law.now) w kept s edit marks on login stays detached none lawful

pub returns-clause-write : goal.returns-clause-write
returns-clause-write g c = λ w s x p rest kept here uncommitted going unmet next. write_whole (g.L.Law.may_start c.args.law.now) (g.L.Law.may_say c.args.law.now) (g.L.Law.proper c.args.law.now) w kept s x p rest here uncommitted going unmet next

pub returns-clause-write_in_want : goal.returns-clause-write_in_want
returns-clause-write_in_want g c = λ w s x p rest kept here uncommitted going unmet next. write_in_want_whole (g.L.Law.may_start c.args.law.now) (g.L.Law.may_say c.args.law.now) (g.L.Law.proper c.args.law.now) w kept s x p rest here uncommitted going unmet next

pub returns-clause-mark : goal.returns-clause-mark
returns-clause-mark g c = λ w s x f rest kept here uncommitted going next. mark_whole (g.L.Law.may_start c.args.law.now) (g.L.Law.may_say c.args.law.now) (g.L.Law.proper c.args.law.now) w kept s x f rest here uncommitted going next

pub returns-clause-last : goal.returns-clause-last
returns-clause-last g c = λ w s x kept here uncommitted going unmet none_left. last_whole (g.L.Law.may_start c.args.law.now) (g.L.Law.may_say c.args.law.now) (g.L.Law.proper c.args.law.now) w kept s x here uncommitted going unmet none_left

pub returns-clause-want : goal.returns-clause-want
returns-clause-want g c = λ w s x kept here uncommitted going. want_whole (g.L.Law.may_start c.args.law.now) (g.L.Law.may_say c.args.law.now) (g.L.Law.proper c.args.law.now) w kept s x here uncommitted going

pub returns-clause-undo : goal.returns-clause-undo
returns-clause-undo g c = λ w s x p rest kept here uncommitted undoing next. undo_whole (g.L.Law.may_start c.args.law.now) (g.L.Law.may_say c.args.law.now) (g.L.Law.proper c.args.law.now) w kept s x p rest here uncommitted undoing next

pub returns-clause-finish : goal.returns-clause-finish
returns-clause-finish g c = λ w s x kept here through. finish_whole (g.L.Law.may_start c.args.law.now) (g.L.Law.may_say c.args.law.now) (g.L.Law.proper c.args.law.now) w kept s x here through
