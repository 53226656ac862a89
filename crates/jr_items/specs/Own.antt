-- The repository's own names as one type, each with its text.
use Rattle.jr_path.specs.declared.name.Name.{Name}
use Rattle.jr_items.specs.declared.own.OwnName.{OwnName}
use Rattle.jr_items.specs.declared.own.OwnName.TheVariants as own
use Rattle.jr_items.specs.Names.{primary_type, mixin_types, child_order, uuid, lock_owner, lock_is_deep, is_checked_out, version_history, base_version, predecessors, successors, versionable_uuid, created, created_by, last_modified, last_modified_by, frozen_node, frozen_primary_type, frozen_mixin_types, frozen_uuid, root_version, version_labels, system_name, version_storage_name, lockable, versionable, referenceable, base_type, unstructured, frozen_type, version_type, history_type, labels_type}

-- the name's text
abbrev pub own_name : OwnName → Name
own_name own.PrimaryType = primary_type
own_name own.MixinTypes = mixin_types
own_name own.ChildOrder = child_order
own_name own.Uuid = uuid
own_name own.LockOwner = lock_owner
own_name own.LockIsDeep = lock_is_deep
own_name own.IsCheckedOut = is_checked_out
own_name own.VersionHistory = version_history
own_name own.BaseVersion = base_version
own_name own.Predecessors = predecessors
own_name own.Successors = successors
own_name own.VersionableUuid = versionable_uuid
own_name own.Created = created
own_name own.CreatedBy = created_by
own_name own.LastModified = last_modified
own_name own.LastModifiedBy = last_modified_by
own_name own.FrozenNode = frozen_node
own_name own.FrozenPrimaryType = frozen_primary_type
own_name own.FrozenMixinTypes = frozen_mixin_types
own_name own.FrozenUuid = frozen_uuid
own_name own.RootVersion = root_version
own_name own.VersionLabels = version_labels
own_name own.System = system_name
own_name own.VersionStorage = version_storage_name
own_name own.Lockable = lockable
own_name own.Versionable = versionable
own_name own.Referenceable = referenceable
own_name own.BaseType = base_type
own_name own.Unstructured = unstructured
own_name own.FrozenType = frozen_type
own_name own.VersionType = version_type
own_name own.HistoryType = history_type
own_name own.LabelsType = labels_type
