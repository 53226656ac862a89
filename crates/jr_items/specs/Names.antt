-- The names that the repository itself gives a meaning.
use Rattle.std.specs.Prelude.{codes, [], ◌∷◌}
use Rattle.jr_path.specs.declared.name.Name.{Name}
use Rattle.jr_path.specs.declared.path.Path.{Path}

-- the property with the name of a node's primary type
abbrev pub primary_type : Name
primary_type = codes "jcr:primaryType"

-- the property with the names of a node's mixin types
abbrev pub mixin_types : Name
mixin_types = codes "jcr:mixinTypes"

-- the order that a node's children were put in
abbrev pub child_order : Name
child_order = codes "rep:childOrder"

-- the property with a referenceable node's identifier
abbrev pub uuid : Name
uuid = codes "jcr:uuid"

-- the property with a lock's token: a node that has one holds a lock
abbrev pub lock_owner : Name
lock_owner = codes "jcr:lockOwner"

-- the property that says whether a node's lock covers all nodes below it too
abbrev pub lock_is_deep : Name
lock_is_deep = codes "jcr:lockIsDeep"

-- the property that says whether a versionable node is checked out
abbrev pub is_checked_out : Name
is_checked_out = codes "jcr:isCheckedOut"

-- the property that refers to a versionable node's version history
abbrev pub version_history : Name
version_history = codes "jcr:versionHistory"

-- the property that refers to a versionable node's base version, from which its state stems
abbrev pub base_version : Name
base_version = codes "jcr:baseVersion"

-- the property that refers to the versions which a version directly follows, or a node's next one
abbrev pub predecessors : Name
predecessors = codes "jcr:predecessors"

-- the property that refers to the versions which directly follow a version
abbrev pub successors : Name
successors = codes "jcr:successors"

-- the property of a version history for the identifier of its versionable node
abbrev pub versionable_uuid : Name
versionable_uuid = codes "jcr:versionableUuid"

-- the property for the time at which a node was made
abbrev pub created : Name
created = codes "jcr:created"

-- the property for who made a node
abbrev pub created_by : Name
created_by = codes "jcr:createdBy"

-- the property for the time of a node's last change
abbrev pub last_modified : Name
last_modified = codes "jcr:lastModified"

-- the property for who last changed a node
abbrev pub last_modified_by : Name
last_modified_by = codes "jcr:lastModifiedBy"

-- the child of a version that is the frozen copy of its versionable node
abbrev pub frozen_node : Name
frozen_node = codes "jcr:frozenNode"

-- the property of a frozen node with the primary type of the node that was copied
abbrev pub frozen_primary_type : Name
frozen_primary_type = codes "jcr:frozenPrimaryType"

-- the property of a frozen node with the mixin types of the node that was copied
abbrev pub frozen_mixin_types : Name
frozen_mixin_types = codes "jcr:frozenMixinTypes"

-- the property of a frozen node with the identifier of the node that was copied
abbrev pub frozen_uuid : Name
frozen_uuid = codes "jcr:frozenUuid"

-- the child of a version history that is its root version, with which it begins
abbrev pub root_version : Name
root_version = codes "jcr:rootVersion"

-- the child of a version history that holds the labels of its versions
abbrev pub version_labels : Name
version_labels = codes "jcr:versionLabels"

-- the names of the repository's own nodes
abbrev pub system_name : Name
system_name = codes "jcr:system"

-- the name of the node above all version histories, in the node `jcr:system`
abbrev pub version_storage_name : Name
version_storage_name = codes "jcr:versionStorage"

-- the repository's own nodes
abbrev pub system : Path
system = codes "jcr:system" ∷ []

-- the node above all version histories
abbrev pub version_storage : Path
version_storage = codes "jcr:system" ∷ codes "jcr:versionStorage" ∷ []

-- the mixin type of nodes that can be locked
abbrev pub lockable : Name
lockable = codes "mix:lockable"

-- the mixin type of nodes that have versions
abbrev pub versionable : Name
versionable = codes "mix:versionable"

-- the mixin type of nodes that have an identifier to which references lead
abbrev pub referenceable : Name
referenceable = codes "mix:referenceable"

-- the primary type that all others extend
abbrev pub base_type : Name
base_type = codes "nt:base"

-- the primary type of nodes with properties and children of any name and type
abbrev pub unstructured : Name
unstructured = codes "nt:unstructured"

-- the primary type of frozen nodes, the copies that versions keep
abbrev pub frozen_type : Name
frozen_type = codes "nt:frozenNode"

-- the primary type of versions
abbrev pub version_type : Name
version_type = codes "nt:version"

-- the primary type of version histories
abbrev pub history_type : Name
history_type = codes "nt:versionHistory"

-- the primary type of the node that holds a version history's labels
abbrev pub labels_type : Name
labels_type = codes "nt:versionLabels"
