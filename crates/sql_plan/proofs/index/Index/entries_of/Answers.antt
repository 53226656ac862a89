use Rattle.std.proofs.Common.{rules, is_le, is_lt, refl, arith}
use Rattle.std.proofs.lemmas.List.Sorted.{IsPartitionPoint-from_clause}
use Rattle.sql_plan.specs.Index.{key_cmp, sought}
use Rattle.sql_plan.proofs.Found.{between, none_between}
use Rattle.sql_plan.proofs.index.Index.entries_of.Goals as goal

pub returns-then-start-end : goal.returns-then-start-end
returns-then-start-end c =
    between c.self.inside.entries.items _ _ _ (sought c.args.key.now) _ _ _ c.deref.ensures.value c.deref-2.ensures.value c.deref-then-start-end.ensures.value c.self.view_is c.self.invariant
    (λ parted. IsPartitionPoint-from_clause (λ e. is_lt (key_cmp (sought e.key) (sought c.args.key.now))) c.deref.result.now c.partition_point-start.result c.partition_point-start.ensures.partitioned parted (λ a r f k. search rules))
    (λ parted. IsPartitionPoint-from_clause (λ e. is_le (key_cmp (sought e.key) (sought c.args.key.now))) c.deref-2.result.now c.partition_point-end.result c.partition_point-end.ensures.partitioned parted (λ a r f k. search rules))

pub returns-else-start-end : goal.returns-else-start-end
returns-else-start-end c =
    none_between c.self.inside.entries.items _ _ _ (omega (arith, c.if-start-end.false))
    (between c.self.inside.entries.items _ _ _ (sought c.args.key.now) _ _ _ c.deref.ensures.value c.deref-2.ensures.value refl c.self.view_is c.self.invariant
    (λ parted. IsPartitionPoint-from_clause (λ e. is_lt (key_cmp (sought e.key) (sought c.args.key.now))) c.deref.result.now c.partition_point-start.result c.partition_point-start.ensures.partitioned parted (λ a r f k. search rules))
    (λ parted. IsPartitionPoint-from_clause (λ e. is_le (key_cmp (sought e.key) (sought c.args.key.now))) c.deref-2.result.now c.partition_point-end.result c.partition_point-end.ensures.partitioned parted (λ a r f k. search rules)))
