-- The text pool (01, "Slots"; `expanded` and `free_expanded` of the source): a text for each text slot, and the stack of released slots.
use Rattle.std.specs.Prelude.{Bool, ◌&&◌, List, [], ◌∷◌, ◌++◌, ℕ, ◌+◌, length, get_or, set, leb, Option, None, Some}
use Rattle.words.specs.Lists.{joined}

pub record Pool : Type 0 where
  -- the bytes of each text slot made
  pub texts : List (List ℕ)
  -- the released slots, the last released first
  pub free : List ℕ

-- "`expanded` becomes texts joined without gaps in slot order": the bytes in use
abbrev pub bytes_of : List (List ℕ) → List ℕ
bytes_of ts = joined (λ t. t) ts

-- a text field holds a text slot, or none: "A text stored empty takes no text slot"
abbrev pub text_at : Pool → Option ℕ → List ℕ
text_at p None = []
text_at p (Some s) = get_or p.texts s []

-- the slot that the next non-empty text takes: the last released, else a new one
abbrev pub next_slot_from : List ℕ → Pool → ℕ
next_slot_from [] p = length p.texts
next_slot_from (s ∷ l) p = s

abbrev pub stored_from : List ℕ → Pool → List ℕ → Pool
stored_from [] p t = record { texts = p.texts ++ (t ∷ []); free = [] }
stored_from (s ∷ l) p t = record { texts = set p.texts s t; free = l }

-- `store_text`: the field, and the pool after
abbrev pub stored_slot : Pool → List ℕ → Option ℕ
stored_slot p [] = None
stored_slot p (b ∷ t) = Some (next_slot_from p.free p)

unfoldable pub stored : Pool → List ℕ → Pool
stored p [] = p
stored p (b ∷ t) = stored_from p.free p (b ∷ t)

-- `replace_text`: "one emptied later keeps its slot"
abbrev pub replaced_slot : Pool → Option ℕ → List ℕ → Option ℕ
replaced_slot p None t = stored_slot p t
replaced_slot p (Some s) t = Some s

unfoldable pub replaced : Pool → Option ℕ → List ℕ → Pool
replaced p None t = stored p t
replaced p (Some s) t = record { texts = set p.texts s t; free = p.free }

-- `release_chars`: length 0, onto the stack
unfoldable pub released : Pool → Option ℕ → Pool
released p None = p
released p (Some s) = record { texts = set p.texts s []; free = s ∷ p.free }

-- The same in two parts, so that many texts are released in one pass over the bytes. A slot goes on the stack, and its text stays;
unfoldable pub pushed : Pool → Option ℕ → Pool
pushed p None = p
pushed p (Some s) = record { texts = p.texts; free = s ∷ p.free }

abbrev pub emptied : List ℕ → List (List ℕ) → List (List ℕ)
emptied [] ts = ts
emptied (s ∷ l) ts = set (emptied l ts) s []

-- then every text on the stack gets length 0.
unfoldable pub reclaimed : Pool → Pool
reclaimed p = record { texts = emptied p.free p.texts; free = p.free }

-- ---- what a call takes, asked before any write

abbrev pub slots_for : List ℕ → ℕ
slots_for [] = 0
slots_for (b ∷ t) = 1

-- whether k more text slots, and the bytes once `off` are given back and `on` added, are within the limits
unfoldable pub texts_fit : ℕ → ℕ → Pool → ℕ → ℕ → ℕ → Bool
texts_fit slotLimit byteLimit p k off on =
    leb (length p.texts + k) (slotLimit + length p.free) && leb (length (bytes_of p.texts) + on) (byteLimit + off)
