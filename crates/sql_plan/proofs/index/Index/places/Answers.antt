use Rattle.std.proofs.Common.{◌≡◌, true, map, refl, sym, subst}
use Rattle.std.specs.List.{list_any}
use Rattle.std.proofs.lemmas.List.{take_all}
use Rattle.sql_plan.specs.Index.{is_same_key, placed_key, sought}
use Rattle.sql_plan.proofs.Places.{more_places, only_more}
use Rattle.sql_plan.proofs.index.Index.places.Goals as goal

pub loop-key-preserved : goal.loop-key-preserved
loop-key-preserved c = record {
  all = more_places sought is_same_key _ placed_key (λ e. e.place) c.args.keys.now c.loop-key.key-index c.key-item.result _ _ c.entries_of.result.now (λ e. refl) c.loop-key-test.true c.key-item.is c.loop-key.invariant.all c.entries_of.ensures c.in_ok-add_places.ensures;
  only = only_more sought is_same_key _ placed_key (λ e. e.place) c.args.keys.now c.loop-key.key-index c.key-item.result _ _ c.entries_of.result.now (λ e. refl) c.loop-key-test.true c.key-item.is c.loop-key.invariant.only c.entries_of.ensures c.in_ok-add_places.ensures;
}

pub returns-clause-all : goal.returns-clause-all
returns-clause-all c = λ s n h any.
    c.sort_places.ensures.keeps n
    (c.loop-key.invariant.all s n h (subst (λ ks. list_any (λ k. is_same_key k s) (map sought ks) ≡ true) (sym (take_all c.loop-key.key-index c.args.keys.now c.loop-key-test.false)) any))

pub returns-clause-only : goal.returns-clause-only
returns-clause-only c = λ n h.
    let one = c.loop-key.invariant.only n (c.sort_places.ensures.only n h) in
    (one.0, one.1, subst (λ ks. list_any (λ k. is_same_key k one.0) (map sought ks) ≡ true) (take_all c.loop-key.key-index c.args.keys.now c.loop-key-test.false) one.2)
