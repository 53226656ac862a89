use Rattle.std.proofs.Common.{refl}
use Rattle.jr_types.proofs.Lines.{on_ok}
use Rattle.jr_types.proofs.Further.{further_line}
use Rattle.jr_types.proofs.registry.Registry.add_line.Goals as goal

pub returns : goal.returns
returns c = on_ok c.add_at.result (λ e names h. further_line c.args.self.now _ _ _ c.args.name.now _ e refl c.line.ensures.line names h) c.add_at.ensures
