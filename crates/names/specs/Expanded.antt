-- The name that its two parts spell.
use Rattle.names.specs.Table.{Name, name}
use Rattle.names.specs.declared.ExpandedName.{ExpandedName}

abbrev pub expanded : ExpandedName → Name
expanded n = name n.namespace.now n.local.now
