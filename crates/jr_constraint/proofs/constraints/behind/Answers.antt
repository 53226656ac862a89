use Rattle.std.proofs.Common.{rules, arith, ◌≡◌, ◌<◌, ◌∷◌, ◌++◌, ◌-◌, nat_eq, false, drop, take, length, slice_index_or}
use Rattle.jr_constraint.proofs.NamesText.{behind, behind_name, no_slash, no_text}
use Rattle.jr_constraint.proofs.constraints.behind.Goals as goal
use Rattle.jr_constraint.proofs.constraints.behind.Goals.{in_default-via-then-text-lt1, in_default-via-else-text-lt1+in_default-1}

pub returns-in-47 : goal.returns-in-47
returns-in-47 c =
    let x : c.args.text.now ≡ 47 ∷ drop 1 c.args.text.now = search rules in
    behind_name (λ r. r.now) c.strip_prefix.result c.args.text.now c.args.name.now (take (length c.args.text.now - 1) (drop 1 c.args.text.now)) (behind _ _ x) (rw c.as_bytes.ensures.value at c.strip_prefix.ensures.cases)

pub returns-in_default : goal.returns-in_default
returns-in_default c = λ more.
    elim c.in_default.branch [
      | in_default-via-then-text-lt1 w ↦
          let s : length c.args.text.now < 1 = search (arith, rules) in
          no_text c.args.text.now s (c.args.name.now ++ more)
      | in_default-via-else-text-lt1+in_default-1 w ↦
          let s : nat_eq (slice_index_or c.args.text.now 0 0) 47 ≡ false = search (arith, rules) in
          no_slash c.args.text.now s (c.args.name.now ++ more)
    ]
