use Rattle.std.proofs.Common.{rules, ◌≡◌, map}
use Rattle.std.specs.Prelude.{IfOk}
use Rattle.std.specs.List.{filter, flat_map}
use Rattle.jr_types.specs.Types.{is_named, props_of}
use Rattle.jcr_write.proofs.Defs.{named_result}
use Rattle.jcr_write.proofs.properties.named_defs.Goals as goal

pub returns : goal.returns
returns c =
    let p : map (λ d. d.now) c.in_ok-defs.defs.items ≡ flat_map props_of (map (λ d. d.now) c.in_ok-among.among.items) = search rules in
    let k : IfOk c.defs_named.result (λ named. map (λ d. d.now) named.items
    ≡ filter (λ d. is_named c.args.name.now d.name) (map (λ d. d.now) c.in_ok-defs.defs.items)) = search rules in
    named_result (λ v. map (λ d. d.now) v.items) c.defs_named.result _ _ _ _ c.in_ok-among.ensures p k
