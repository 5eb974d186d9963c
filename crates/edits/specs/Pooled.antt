-- The change of the document that other words of the texts or of the names are.
use Rattle.std.specs.Prelude.{List, Option}
use Rattle.texts.specs.Pool.{Pool}
use Rattle.names.specs.Table.{Name}
use Rattle.model.specs.Doc.{Doc, change_pool, change_names}

-- another pool, all else equal
unfoldable pub set_pool : Doc → Pool → Doc
set_pool d p = change_pool d p

unfoldable pub set_names : Doc → List (Option Name) → Doc
set_names d n = change_names d n
