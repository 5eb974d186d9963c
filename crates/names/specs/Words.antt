-- The words of a name table: two ends a name (of its namespace, of its local part), as many as the name limit has names, then the bytes, one a word. Each part begins
-- where the one before ends.
use Rattle.std.specs.Prelude.{◌≡◌, Bool, true, ◌&&◌, cond, List, [], ◌∷◌, map, ℕ, ◌+◌, ◌≤◌, min, length, set, take, leb, Option, None, Some}
use Rattle.words.specs.Parts.{put}
use Rattle.words.specs.Pieces.{pieces}
use Rattle.words.specs.Ends.{lengths_of, ends_reach, piece_there, piece_shown}
use Rattle.names.specs.Table.{Name, name, name_bytes, number_of, interned}
use Rattle.names.specs.declared.interning.Interned.{Interned}
use Rattle.names.specs.declared.NameLimits.{NameLimits}
use Rattle.names.specs.declared.NameCounts.{NameCounts}
use Rattle.names.specs.declared.NamePart.{NamePart}
use Rattle.names.specs.declared.NamePart.TheVariants.{Namespace, Local}

-- two pieces after one another are a name
abbrev pub pairs : List (List ℕ) → List Name
pairs [] = []
pairs (n ∷ []) = []
pairs (n ∷ l ∷ r) = name n l ∷ pairs r

-- where the bytes begin
abbrev pub bytes_at : NameLimits → ℕ
bytes_at limits = limits.names + limits.names

-- the table that the words hold
unfoldable pub table_of : NameLimits → NameCounts → List ℕ → List (Option Name)
table_of limits counts words = map Some (pairs (pieces (bytes_at limits) (lengths_of (take (counts.names + counts.names) words)) words))

-- Structure rules 1 and 8, what they say of the table: "Counts are within limits", "name lengths add to the bytes used"
pub record TableHeld (limits : NameLimits) (counts : NameCounts) (words : List ℕ) : Type 0 where
  pub size : length words ≡ bytes_at limits + limits.bytes
  pub names : counts.names ≤ limits.names
  pub bytes : counts.bytes ≤ limits.bytes
  pub ends : ends_reach 0 (take (counts.names + counts.names) words) counts.bytes ≡ true

-- the same as a test, of words as long as the limits say
unfoldable pub table_ok : NameLimits → NameCounts → List ℕ → Bool
table_ok limits counts words =
    leb counts.names limits.names && (leb counts.bytes limits.bytes && ends_reach 0 (take (counts.names + counts.names) words) counts.bytes)

-- ---- reading, also in damaged memory: "a count above its limit reads as the limit"

abbrev pub shown_names : NameLimits → NameCounts → ℕ
shown_names limits counts = min counts.names limits.names

abbrev pub shown_bytes : NameLimits → NameCounts → ℕ
shown_bytes limits counts = min counts.bytes limits.bytes

-- piece 0 of a name is its namespace, piece 1 its local part
abbrev pub part_number : NamePart → ℕ
part_number Namespace = 0
part_number Local = 1

abbrev pub part_of : NamePart → Name → List ℕ
part_of Namespace n = n.namespace
part_of Local n = n.local

unfoldable pub part_shown : NameLimits → NameCounts → ℕ → ℕ → List ℕ → List ℕ
part_shown limits counts i k words =
    piece_shown (bytes_at limits) (shown_names limits counts + shown_names limits counts) (shown_bytes limits counts) (i + i + k) words

-- whether there is a name: its number is in the table, and the bytes of both parts are in their pool
unfoldable pub name_there : NameLimits → NameCounts → ℕ → List ℕ → Bool
name_there limits counts i words =
    piece_there (shown_names limits counts + shown_names limits counts) (shown_bytes limits counts) (i + i) words
    && piece_there (shown_names limits counts + shown_names limits counts) (shown_bytes limits counts) (i + i + 1) words

-- "no name for a number outside its table or bytes outside their pool"
unfoldable pub name_shown : NameLimits → NameCounts → ℕ → List ℕ → Option Name
name_shown limits counts i words =
    cond (name_there limits counts i words) (Some (name (part_shown limits counts i 0 words) (part_shown limits counts i 1 words))) None

-- ---- interning

-- the counts with one name more
abbrev pub one_more : NameCounts → Name → NameCounts
one_more counts n = record { names = counts.names + 1; bytes = counts.bytes + length (name_bytes n) }

-- the words with one name more: its ends behind those there are, its bytes behind those used
unfoldable pub appended : NameLimits → NameCounts → List ℕ → Name → List ℕ
appended limits counts words n =
    put (bytes_at limits + counts.bytes + length n.namespace) n.local
    (put (bytes_at limits + counts.bytes) n.namespace
    (set (set words (counts.names + counts.names) (counts.bytes + length n.namespace))
    (counts.names + counts.names + 1) (counts.bytes + length n.namespace + length n.local)))

-- what `intern` promises: the number of the pair, and the words of the table after. Bytes beyond those used are left open.
pub record InternedTo (limits : NameLimits) (counts : NameCounts) (words after : List ℕ) (n : Name) (r : Interned) : Type 0 where
  pub number : r.number.0 ≡ number_of (table_of limits counts words) n
  pub table : table_of limits r.counts after ≡ interned (table_of limits counts words) n
  pub held : TableHeld limits r.counts after
