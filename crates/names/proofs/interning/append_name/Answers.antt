-- `names::interning::append_name` meets its contract: four writes, one after the other.
-- Assumes nothing.
use Rattle.names.proofs.Append.{written-name, counted-name}
use Rattle.names.proofs.interning.append_name.Goals as goal

pub returns : goal.returns
returns c =
    let a = c.args in (
      counted-name a.counts a.name.namespace.now a.name.local.now,
      written-name a.limits a.counts a.words.now _ _ a.name.namespace.now a.name.local.now c.write_bytes.ensures c.write_bytes-2.ensures,
    )
