-- What is asked before texts are released and nodes are freed.
use Rattle.std.specs.Prelude.{◌≡◌, true, false, List, ℕ, ◌+◌, ◌≤◌, ◌<◌, length, get_or, eqb, Option, None}
use Rattle.words.specs.Lists.{count_of}
use Rattle.blocks.specs.Rule.{Inside}
use Rattle.model.specs.Kinds.{Which, texts_of}
use Rattle.model.specs.Doc.{Doc, live_slot, resolves, kind_in, parent_at, range_in}
use Rattle.model.specs.Rules.{FreeList, Entries, Texts, slots_held}

-- the free text list has room for the texts
pub record Releasable (D : Doc) (l : List (Option ℕ)) : Type 0 where
  pub counts : D.counts_fit ≡ true
  pub lengths : D.lengths_fit ≡ true
  pub room : length D.pool.free + length (slots_held l) ≤ D.limits.texts

-- each entry of the free text list is a text slot that was made
pub record Reclaimable (D : Doc) : Type 0 where
  pub counts : D.counts_fit ≡ true
  pub lengths : D.lengths_fit ≡ true
  pub made : (s : ℕ) → 0 < count_of (eqb s) D.pool.free → s < length D.pool.texts

-- the slot was made, and the free list has room for it
pub record SlotFreeable (D : Doc) (s : ℕ) : Type 0 where
  pub counts : D.counts_fit ≡ true
  pub made : s < length D.gens
  pub generation : get_or D.gens s 0 < 4294967296
  pub room : length D.free < D.limits.nodes

pub record NodeFreeable (D : Doc) (s : ℕ) : Type 0 where
  pub slot : SlotFreeable D s
  pub texts : Releasable D (texts_of (kind_in D s))

-- of rules 1, 2 and 8, what freeing uses
pub record Freeable (D : Doc) : Type 0 where
  pub counts : D.counts_fit ≡ true
  pub slots : length D.gens ≤ D.limits.nodes
  pub text_slots : length D.pool.texts ≤ D.limits.texts
  pub generations : (i : ℕ) → i < length D.gens → get_or D.gens i 0 < 4294967296
  pub free_list : FreeList D
  pub texts : Texts D

-- h has no parent, and it can be freed with all below it: rule 4, and of rule 5 that each block lies in its arena
pub record SubtreeFreeable (D : Doc) (h : ℕ) : Type 0 where
  pub freeable : Freeable D
  pub entries : Entries D
  pub inside : (w : Which) (i : ℕ) → live_slot D i ≡ true → Inside (D.arenas w) (range_in D w i)
  pub live : resolves D h ≡ true
  pub top : parent_at D h ≡ None
  pub outdated : D.current ≡ false
