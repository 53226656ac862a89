use Rattle.std.proofs.Common.{rules, is_lt, sym}
use Rattle.std.specs.Map.Iter.{deref_pair}
use Rattle.std.proofs.lemmas.List.Sorted.{IsPartitionPoint-from_clause}
use Rattle.jr_path.specs.Names.{path_cmp}
use Rattle.sql_plan.proofs.Ranges.{before_parted, between_paths, either, is_upto, none_all, ranged, upto_parted}
use Rattle.sql_plan.proofs.range.at_or_below.Goals as goal

pub returns-then-start-end : goal.returns-then-start-end
returns-then-start-end c = λ f under.
    let start = IsPartitionPoint-from_clause (λ e. is_lt (path_cmp (deref_pair e).0 c.args.path.now)) c.args.nodes.now c.partition_point-start.result c.partition_point-start.ensures.partitioned (before_parted c.args.nodes.now c.requires c.args.path.now) (λ a r f k. search rules) in
    let end = IsPartitionPoint-from_clause (is_upto c.args.nodes.now c.requires c.args.path.now) c.args.nodes.now c.partition_point-end.result c.partition_point-end.ensures.partitioned (upto_parted c.args.nodes.now c.requires c.args.path.now) (λ a r f k. search rules) in
    let out = between_paths c.args.nodes.now c.requires c.args.path.now _ _ start end f under in
    ranged deref_pair f c.args.nodes.now _ _ c.if-start-end.true out.0 out.1

pub returns-else-start-end : goal.returns-else-start-end
returns-else-start-end c = λ f under.
    let start = IsPartitionPoint-from_clause (λ e. is_lt (path_cmp (deref_pair e).0 c.args.path.now)) c.args.nodes.now c.partition_point-start.result c.partition_point-start.ensures.partitioned (before_parted c.args.nodes.now c.requires c.args.path.now) (λ a r f k. search rules) in
    let end = IsPartitionPoint-from_clause (is_upto c.args.nodes.now c.requires c.args.path.now) c.args.nodes.now c.partition_point-end.result c.partition_point-end.ensures.partitioned (upto_parted c.args.nodes.now c.requires c.args.path.now) (λ a r f k. search rules) in
    let out = between_paths c.args.nodes.now c.requires c.args.path.now _ _ start end f under in
    sym (none_all deref_pair f c.args.nodes.now (λ k d high. either _ k _ _ c.if-start-end.false (λ low. out.0 k d low high) (λ low. out.1 k d low high)))
