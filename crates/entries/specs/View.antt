-- What the checks read of a view: its document without texts and names.
use Rattle.model.specs.Doc.{Doc}
use Rattle.memory.specs.declared.view.View.{View}
use Rattle.entries.specs.Nodes.{decode_nodes}

abbrev pub decoded_nodes : View → Doc
decoded_nodes v = decode_nodes v.document v.words.now
