-- The documents of the start are in store order, each under its id, with names by the grammar.
use Rattle.std.proofs.Common.{◌≡◌, ℕ, [], refl}
use Rattle.std.specs.Prelude.{codes}
use Rattle.std.specs.List.{All}
use Rattle.std.specs.List.Sorted.{IsStrictlySortedBy}
use Rattle.std.proofs.lemmas.List.Elements.{All-from_recursion}
use Rattle.jr_path.specs.Grammar.{IsName}
use Rattle.jr_path.proofs.OwnNames.{prefixed_name}
use Rattle.oak_read.specs.Meaning.{path_of}
use Rattle.oak_read.specs.Reading.{IsTable}
use Rattle.core_world.specs.Start.{start_table, system_path, versions_path}

system_name : IsName (codes "jcr:system")
system_name = prefixed_name (codes "jcr") (codes "system") refl

versions_name : IsName (codes "jcr:versionStorage")
versions_name = prefixed_name (codes "jcr") (codes "versionStorage") refl

none_named : All IsName []
none_named = All-from_recursion IsName [] tt

system_named : All IsName system_path
system_named = All-from_recursion IsName system_path (system_name, tt)

versions_named : All IsName versions_path
versions_named = All-from_recursion IsName versions_path (system_name, (versions_name, tt))

pub start_in_order : (clusters sessions : ℕ) → IsTable (start_table clusters sessions).documents
unfolding IsStrictlySortedBy
start_in_order clusters sessions = record {
  ordered = ((refl, (refl, (refl, tt))), ((refl, (refl, tt)), ((refl, tt), (tt, tt))));
  named = All-from_recursion (λ e. e.1.id ≡ e.0) (start_table clusters sessions).documents (refl, (refl, (refl, (refl, tt))));
  lawful = All-from_recursion (λ e. All IsName (path_of e.0)) (start_table clusters sessions).documents (none_named, (system_named, (versions_named, (none_named, tt))));
}
