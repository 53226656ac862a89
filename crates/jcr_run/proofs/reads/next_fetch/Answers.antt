use Rattle.std.proofs.Common.{◌∙◌, Option, refl, subst, sym, arith}
use Rattle.std.specs.Prelude.{IfSome}
use Rattle.jcr_run.specs.declared.run.Fetch.{Fetch}
use Rattle.jcr_run.specs.Standing.{IsFetchFor, IsOneFetch, IsWantedNext}
use Rattle.jcr_run.proofs.Fetching.{changes_one, changes_ready, changes_suit, changes_wanted}
use Rattle.jcr_run.proofs.Readying.{not_events}
use Rattle.jcr_run.proofs.reads.next_fetch.Goals as goal

pub returns-in-Events : goal.returns-in-Events
returns-in-Events c =
    let run = c.args.run.now in
    let is = sym c.in-Events.ensures in
    let found = c.next_changes.ensures in record {
      same = refl;
      ready = λ none. changes_ready run is (sym found ∙ none);
      one = subst (λ (o : Option Fetch). IfSome o IsOneFetch) (sym found) (changes_one run.held.cursor _);
      suits = subst (λ (o : Option Fetch). IsFetchFor run o) (sym found) (changes_suit run is);
      holds = λ x h. h;
      wanted = λ x h. subst (λ (o : Option Fetch). IsWantedNext x (record run { fetch = o })) (sym found) (changes_wanted x run);
      fewer = λ x h. omega arith;
    }

pub next_tree-requires-clause-tree : goal.next_tree-requires-clause-tree
next_tree-requires-clause-tree c = not_events _ _ c.due.ensures c.in_default.not-Events
