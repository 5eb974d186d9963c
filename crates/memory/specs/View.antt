-- The document that a view shows.
use Rattle.model.specs.Doc.{Doc}
use Rattle.memory.specs.declared.view.View.{View}
use Rattle.memory.specs.Decode.{decode}

abbrev pub decoded : View → Doc
decoded v = decode v.document v.words.now
