-- What the fields of a memory mean.
use Rattle.oak_node.specs.declared.memory.NodeMem.TheInside.{Inside}
use Rattle.oak_node.specs.Memory.{NodeState}

-- the state of a cluster node, from the fields of its memory
abbrev pub memory_state : Inside → NodeState
memory_state m = record {
  cluster = m.cluster;
  head = m.head;
  sweep = m.sweep;
  last_time = m.last_time;
  above = m.above.items;
  pins = m.pins.items;
  notes = m.notes.items;
  since = m.since;
  changed = m.changed.items;
  stopped = m.stopped;
  recovered = m.recovered;
}
