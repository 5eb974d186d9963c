-- Rule 8 as the check decides it: the name numbers and text slots of each live node's fields are tested and the text slots counted, then those of the free
-- text list; each is to have been counted once.
use Rattle.std.specs.Prelude.{Bool, ◌&&◌, List, ℕ, ◌+◌, get_or, eqb, ltb, Option}
use Rattle.words.specs.Parts.{part}
use Rattle.words.specs.Lists.{count_of, all, all_below}
use Rattle.texts.specs.Words.{pool_ok}
use Rattle.names.specs.Words.{table_ok}
use Rattle.model.specs.Kinds.{Kind, names_of, texts_of}
use Rattle.model.specs.Doc.{Doc, live_slot, kind_in}
use Rattle.model.specs.Rules.{held_in, slots_held}
use Rattle.model.specs.RulesTest.{implies}
use Rattle.layout.specs.declared.Document.{Document}
use Rattle.memory.specs.Decode.{slots_made, text_limits, text_counts, name_limits, name_counts, texts_part, names_part}
use Rattle.entries.specs.Nodes.{decode_nodes}
use Rattle.entries.specs.Marks.{gathered}

-- the text slots are below the number made
unfoldable pub slots_inside : ℕ → List ℕ → Bool
slots_inside texts l = all (λ s. ltb s texts) l

-- "name numbers are below the name count"
unfoldable pub names_inside : ℕ → Kind ℕ (Option ℕ) → Bool
names_inside names k = all (λ n. ltb n names) (names_of k)

-- the fields of a slot, where it is live
unfoldable pub fields_hold : ℕ → ℕ → Doc → ℕ → Bool
fields_hold texts names D i = implies (live_slot D i) (names_inside names (kind_in D i) && slots_inside texts (slots_held (texts_of (kind_in D i))))

-- a text slot's mark is 1
unfoldable pub marked_one : List ℕ → ℕ → Bool
marked_one marks s = eqb (get_or marks s 0) 1

-- each text slot below texts is held by one field of the slots below n, or stands in the free list once
unfoldable pub slots_once : ℕ → Doc → ℕ → List ℕ → Bool
slots_once texts D n free = all_below (λ s. eqb (count_of (eqb s) (gathered (held_in D) n) + count_of (eqb s) free) 1) texts

-- what rule 8 asks besides the fields: the pool and the name table hold by themselves, and each text slot is held once
unfoldable pub pool_holds : Document → List ℕ → Bool
pool_holds d mem =
    pool_ok (text_limits d) (text_counts d) (texts_part d mem) && table_ok (name_limits d) (name_counts d) (names_part d mem)
    && slots_once d.counts.texts (decode_nodes d mem) (slots_made d) (part d.limits.texts d.counts.freetexts (texts_part d mem))
