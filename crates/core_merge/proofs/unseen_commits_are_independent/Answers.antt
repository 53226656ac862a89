-- By the machine's rule for each commit.
use Rattle.std.proofs.Common.{◌≡◌, ◌⊎◌, inl, inr, Bool, true, false, refl, sym, ◌∙◌}
use mathlib.Core.Bool.{false≢true}
use Rattle.oak_machine.specs.Commits.{is_in_base}
use Rattle.core_merge.proofs.Commits.{independent_commits, unseen_apart}
use Rattle.core_merge.proofs.unseen_commits_are_independent.Goals as goal

one_sees : (a b c : Bool) → (a ≡ false → b ≡ false → c ≡ false) → c ≡ true → (a ≡ true) ⊎ (b ≡ true)
one_sees true b c f h = inl refl
one_sees false true c f h = inr refl
one_sees false false c f h = absurd (false≢true (sym (f refl refl) ∙ h))

pub returns-clause-seen : goal.returns-clause-seen
returns-clause-seen g c = λ h r o is k l other clash.
    one_sees (is_in_base h.past r o) (is_in_base h.past o r) _ (unseen_apart h.clusters h.sessions is.nodes h.begin (g.L.Law.may_start c.args.law.now) (g.L.Law.may_say c.args.law.now) h.past is.run r o k l other) clash

pub returns-clause-independent : goal.returns-clause-independent
returns-clause-independent g c = λ h r o d e m k l other drawn found unseen back.
    independent_commits h.clusters h.sessions m.nodes h.begin (g.L.Law.may_start c.args.law.now) (g.L.Law.may_say c.args.law.now) (g.L.Law.proper c.args.law.now) m.marking h.past m.run r o d e k l drawn found other unseen back
