use Rattle.std.proofs.Common.{◌≡◌, None, List, IfOk, slice_get, sym, ap, subst}
use Rattle.jr_path.specs.declared.path.Path.{Path}
use Rattle.jr_known.specs.Earlier.{AreKnown, Earlier}
use Rattle.jr_known.proofs.Reading.{read_all}
use Rattle.jr_known.proofs.earlier.EarlierTree.next_unread.Goals as goal

pub returns-clause-read : goal.returns-clause-read
returns-clause-read c =
    read_all c.args.fresh.now c.args.self.now.told c.self.inside.told c.next_place-self-inside.result c.path_at.result (ap (λ (e : Earlier). e.told) (sym c.self.view_is))
    (subst (λ (ps : List Path). IfOk c.path_at.result (λ next. next ≡ slice_get ps c.next_place-self-inside.result)) c.as_slice-2.ensures c.path_at.ensures)
    (subst (λ (ps : List Path). slice_get ps c.next_place-self-inside.result ≡ None → AreKnown c.args.fresh.now ps) c.as_slice.ensures c.next_place-self-inside.ensures.read)
