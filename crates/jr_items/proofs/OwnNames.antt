-- The repository's own names are in the grammar of names.
use Rattle.std.proofs.Common.{refl}
use Rattle.std.specs.Prelude.{codes}
use Rattle.jr_path.specs.Grammar.{IsName}
use Rattle.jr_path.proofs.OwnNames.{prefixed_name}
use Rattle.jr_items.specs.declared.own.OwnName.{OwnName}
use Rattle.jr_items.specs.declared.own.OwnName.TheVariants as own
use Rattle.jr_items.specs.Own.{own_name}

pub names_in_grammar : (name : OwnName) → IsName (own_name name)
names_in_grammar own.PrimaryType = prefixed_name (codes "jcr") (codes "primaryType") refl
names_in_grammar own.MixinTypes = prefixed_name (codes "jcr") (codes "mixinTypes") refl
names_in_grammar own.ChildOrder = prefixed_name (codes "rep") (codes "childOrder") refl
names_in_grammar own.Uuid = prefixed_name (codes "jcr") (codes "uuid") refl
names_in_grammar own.LockOwner = prefixed_name (codes "jcr") (codes "lockOwner") refl
names_in_grammar own.LockIsDeep = prefixed_name (codes "jcr") (codes "lockIsDeep") refl
names_in_grammar own.IsCheckedOut = prefixed_name (codes "jcr") (codes "isCheckedOut") refl
names_in_grammar own.VersionHistory = prefixed_name (codes "jcr") (codes "versionHistory") refl
names_in_grammar own.BaseVersion = prefixed_name (codes "jcr") (codes "baseVersion") refl
names_in_grammar own.Predecessors = prefixed_name (codes "jcr") (codes "predecessors") refl
names_in_grammar own.Successors = prefixed_name (codes "jcr") (codes "successors") refl
names_in_grammar own.VersionableUuid = prefixed_name (codes "jcr") (codes "versionableUuid") refl
names_in_grammar own.Created = prefixed_name (codes "jcr") (codes "created") refl
names_in_grammar own.CreatedBy = prefixed_name (codes "jcr") (codes "createdBy") refl
names_in_grammar own.LastModified = prefixed_name (codes "jcr") (codes "lastModified") refl
names_in_grammar own.LastModifiedBy = prefixed_name (codes "jcr") (codes "lastModifiedBy") refl
names_in_grammar own.FrozenNode = prefixed_name (codes "jcr") (codes "frozenNode") refl
names_in_grammar own.FrozenPrimaryType = prefixed_name (codes "jcr") (codes "frozenPrimaryType") refl
names_in_grammar own.FrozenMixinTypes = prefixed_name (codes "jcr") (codes "frozenMixinTypes") refl
names_in_grammar own.FrozenUuid = prefixed_name (codes "jcr") (codes "frozenUuid") refl
names_in_grammar own.RootVersion = prefixed_name (codes "jcr") (codes "rootVersion") refl
names_in_grammar own.VersionLabels = prefixed_name (codes "jcr") (codes "versionLabels") refl
names_in_grammar own.System = prefixed_name (codes "jcr") (codes "system") refl
names_in_grammar own.VersionStorage = prefixed_name (codes "jcr") (codes "versionStorage") refl
names_in_grammar own.Lockable = prefixed_name (codes "mix") (codes "lockable") refl
names_in_grammar own.Versionable = prefixed_name (codes "mix") (codes "versionable") refl
names_in_grammar own.Referenceable = prefixed_name (codes "mix") (codes "referenceable") refl
names_in_grammar own.BaseType = prefixed_name (codes "nt") (codes "base") refl
names_in_grammar own.Unstructured = prefixed_name (codes "nt") (codes "unstructured") refl
names_in_grammar own.FrozenType = prefixed_name (codes "nt") (codes "frozenNode") refl
names_in_grammar own.VersionType = prefixed_name (codes "nt") (codes "version") refl
names_in_grammar own.HistoryType = prefixed_name (codes "nt") (codes "versionHistory") refl
names_in_grammar own.LabelsType = prefixed_name (codes "nt") (codes "versionLabels") refl
