use Rattle.std.proofs.Common.{◌∙◌, Option, subst, sym}
use Rattle.std.specs.Prelude.{IfSome}
use Rattle.jcr_run.specs.declared.run.Fetch.{Fetch}
use Rattle.jcr_run.specs.Standing.{IsFetchFor, IsOneFetch, IsWantedNext}
use Rattle.jcr_run.proofs.Fetching.{one_tree, suits_tree, none_tree}
use Rattle.jcr_run.proofs.reads.next_tree.Goals as goal

pub returns : goal.returns
returns c =
    let load = c.in_ok-load.load in
    let is = c.of_tree.ensures in record {
      same = c.next_load.ensures.same;
      holds = c.next_load.ensures.holds;
      fewer = c.next_load.ensures.fewer;
      ready = λ none. c.in_ok-load.ensures.ready (none_tree load (sym is ∙ none));
      one = subst (λ (o : Option Fetch). IfSome o IsOneFetch) (sym is) (one_tree load c.in_ok-load.ensures.one);
      suits = subst (λ (o : Option Fetch). IsFetchFor c.next_load.new.run o) (sym is)
          (suits_tree c.args.run.now c.next_load.new.run load c.next_load.ensures.same c.requires.tree);
      wanted = λ x holds. subst (λ (o : Option Fetch). IsWantedNext x (record c.next_load.new.run { fetch = o })) (sym is)
          (c.in_ok-load.ensures.wanted x holds);
    }
