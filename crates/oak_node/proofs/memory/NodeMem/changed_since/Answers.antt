use Rattle.std.proofs.Common.{◌≡◌, ◌-◌, ◌≤◌, ℕ, true, false, List, Some, length, take, drop, ap, sym, subst, ◌∙◌, rules}
use Rattle.std.specs.List.Sorted.{IsPartitionPoint, IsPartitionedBy}
use Rattle.std.proofs.lemmas.List.Sorted.{IsPartitionPoint-from_clause}
use Rattle.jr_rev.specs.Vectors.{Entries, is_below, sees}
use Rattle.oak_node.specs.declared.pending.Note.{Note}
use Rattle.oak_node.specs.Changes.{changed_since, known_from}
use Rattle.oak_node.specs.Fields.{memory_state}
use Rattle.oak_node.specs.Memory.{NodeState}
use Rattle.oak_node.proofs.Changes.{seen_first, told_is}
use Rattle.oak_node.proofs.memory.NodeMem.changed_since.Goals as goal

pub returns : goal.returns
returns c =
    let s : NodeState = memory_state c.self.inside in
    let v : Entries = c.args.v.now in
    let i : ℕ = c.partition_point-seen.result in
    let value = c.deref.ensures.value in
    let known : is_below (known_from s) v ≡ true =
    ap (λ (x : NodeState). is_below (known_from x) v) c.self.view_is ∙ (ap (λ (w : Entries). is_below w v) (sym c.known_from.ensures) ∙ (sym c.is_below.ensures ∙ c.if-not-is_below.false)) in
    let parted = subst (λ (ns : List Note). IsPartitionedBy (λ (note : Note). sees v note.revision) ns) (sym value) (seen_first _ _ _ s.changed v c.self.invariant.kept) in
    let point = IsPartitionPoint-from_clause (λ (note : Note). sees v note.revision) _ i c.partition_point-seen.ensures.partitioned parted (λ a r q k. search rules) in
    let there = subst (λ (ns : List Note). IsPartitionPoint (λ (note : Note). sees v note.revision ≡ true) (λ (note : Note). sees v note.revision ≡ false) ns i) value point in
    let within = subst (λ (ns : List Note). i ≤ length ns) value c.partition_point-seen.ensures.bound in
    ap (λ (x : NodeState). changed_since x v) (sym c.self.view_is)
    ∙ (told_is s v i known within there ∙ ap (λ (ns : List Note). Some (take (length ns - i) (drop i ns))) (sym c.deref-2.ensures.value))
