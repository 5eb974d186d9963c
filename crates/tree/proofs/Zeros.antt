-- Zero words are a fresh document, whatever its limits.
-- Assumes nothing.
use Rattle.std.specs.Prelude.{None, Some}
use mathlib.Core.Path.{◌≡◌, refl, sym, ap, ◌∙◌}
use mathlib.Core.Bool.{true}
use mathlib.Core.List.{List, [], ◌∷◌, ◌++◌, reverse}
use Prim.Native.Nat.{ℕ, zero, suc, ◌+◌, ◌*◌, ◌≤◌, ◌<◌, min}
use native.Mathlib.Numerals.{add-one}
use native.Mathlib.Omega.{arith}
use lib.ListN.{take, drop, replicate, length-replicate, replicate-append-replicate}
use lib.Seq.{take_at, drop_at}
use lib.Dec.{leb}
use borrow.Author.Tests.{le-leb}
use Rattle.words.specs.Parts.{part}
use Rattle.words.specs.Lists.{tabulate}
use Rattle.words.proofs.Parts.{part_none, replicate-snoc}
use Rattle.blocks.specs.Arena.{block, arena_of, fresh_arena}
use Rattle.slots.specs.Regions.{slots_words, generation_at, free_at, node_at, order_at}
use Rattle.records.specs.Records.{zero_root}
use Rattle.words.proofs.Lists.{part-replicate}
use Rattle.slots.proofs.Regions.{generation_at-zero, order_at-zero, node_at-zero}
use Rattle.texts.specs.Words.{text_shown}
use Rattle.names.specs.Words.{name_shown}
use Rattle.model.specs.Kinds.{root, Which, children, attributes, namespaces}
use Rattle.model.specs.Doc.{limits_ok, fresh, columns}
use Rattle.layout.specs.declared.Document.{Document}
use Rattle.layout.specs.declared.Limits as given
use Rattle.layout.specs.Layout.{limits_of, arena_words, arena_at, document_words}
use Rattle.memory.specs.Decode.{kind_loaded, parent_loaded, range_loaded, loaded_at, counts_within, slots_part, arena_part, slots_made, text_limits, text_counts, texts_part, name_limits, name_counts, names_part, lengths_add, decode}
use Rattle.layout.specs.Record.{fresh_record}
use Rattle.layout.proofs.Sizes.{limits-fit, arena-inside, names-next, words-next}
use Rattle.memory.proofs.Shaped.{part-take}

-- ---- lists

tabulate-replicate : {A : Type 0} (f : ℕ → A) (v : A) (n : ℕ) → ((i : ℕ) → i < n → f i ≡ v) → tabulate f n ≡ replicate n v
tabulate-replicate f v zero h = refl
tabulate-replicate f v (suc n) h =
    rw (tabulate-replicate f v n (λ i b. h i (omega arith)), h n (omega arith)) (replicate-snoc n v ∙ ap (λ (k : ℕ). replicate k v) (add-one n))

no-count : (k : ℕ) → min 0 k ≡ 0
no-count k = omega arith

-- an arena whose words are all zero
zero-arena : (e : ℕ) (w : List ℕ) → w ≡ replicate (2 * e) 0 → arena_of e (min 0 e) w ≡ fresh_arena e
zero-arena e w q =
    let d : 2 * e ≡ e + e = omega arith in
    let z : w ≡ replicate e 0 ++ replicate e 0 = q ∙ ap (λ (k : ℕ). replicate k 0) d ∙ sym (replicate-append-replicate e e 0) in
    let ids : take e w ≡ replicate e 0 = ap (take e) z ∙ take_at (replicate e 0) (replicate e 0) e (length-replicate e 0) in
    let caps : drop e w ≡ replicate e 0 = ap (drop e) z ∙ drop_at (replicate e 0) (replicate e 0) e (length-replicate e 0) in
    λ i. record { ids = ids i; caps = caps i; used = no-count e i }

-- ---- the document

module _ (l : given.Limits) (ok : limits_ok (limits_of l) ≡ true) (mem : List ℕ) (zeros : take (document_words (limits_of l)) mem ≡ replicate (document_words (limits_of l)) 0) where
  abbrev d : Document
  d = fresh_record l

  abbrev n : ℕ
  n = l.nodes

  abbrev w : List ℕ
  w = slots_part d mem

  some-node : 0 < l.nodes
  some-node = (limits-fit (limits_of l) ok).some-node

  -- each region is zero
  region : (p k : ℕ) → p + k ≤ document_words (limits_of l) → part p k mem ≡ replicate k 0
  region p k h =
      sym (part-take mem p k (document_words (limits_of l)) h)
      ∙ ap (part p k) zeros
      ∙ part-replicate p k (document_words (limits_of l)) 0 h

  slots-inside : slots_words l.nodes ≤ document_words (limits_of l)
  unfolding document_words
  slots-inside = omega arith

  arenas-inside : (a : Which) → arena_at (limits_of l) a + arena_words (limits_of l) a ≤ document_words (limits_of l)
  arenas-inside a = omega (arith, arena-inside (limits_of l) a, names-next (limits_of l), words-next (limits_of l))

  slots-zero : slots_part d mem ≡ replicate (slots_words l.nodes) 0
  slots-zero = region 0 (slots_words l.nodes) (omega (arith, slots-inside))

  one : slots_made d ≡ 1
  one = let z = some-node in omega arith

  generation : generation_at n w 0 ≡ 0
  generation = ap (λ (x : List ℕ). generation_at n x 0) slots-zero ∙ generation_at-zero n (slots_words n) (omega arith) 0 some-node

  loaded : loaded_at n w 0 ≡ Some zero_root
  loaded =
      rw generation (ap (λ (x : List ℕ). node_at n x 0) slots-zero ∙ node_at-zero n (slots_words n) (omega arith) 0 some-node)

  -- a column of the one slot
  column : {A : Type 0} (f : ℕ → A) (v : A) → f 0 ≡ v → tabulate f (slots_made d) ≡ v ∷ []
  column f v e = ap (tabulate f) one ∙ ap (λ (x : _). x ∷ []) e

  orders : tabulate (order_at n w) n ≡ replicate n 0
  orders =
      tabulate-replicate (order_at n w) 0 n
      (λ i b. ap (λ (x : List ℕ). order_at n x i) slots-zero ∙ order_at-zero n (slots_words n) (omega arith) i b)

  counts-fit : counts_within (limits_of l) d.counts ≡ true
  unfolding counts_within
  counts-fit =
      rw (
        le-leb 1 n some-node,
        none-fit n,
        none-fit l.children,
        none-fit l.attributes,
        none-fit l.namespaces,
        none-fit l.texts,
        none-fit l.textbytes,
        none-fit l.names,
        none-fit l.namebytes,
      )
    where
      none-fit : (k : ℕ) → leb 0 k ≡ true
      none-fit k = le-leb 0 k (omega arith)

  lengths-add : lengths_add d mem ≡ true
  unfolding lengths_add
  lengths-add = refl

  zero-at : (a : Which) → arena_of ((limits_of l).entries a) (min 0 ((limits_of l).entries a)) (arena_part d a mem) ≡ fresh_arena ((limits_of l).entries a)
  zero-at a = zero-arena ((limits_of l).entries a) (arena_part d a mem) (region (arena_at (limits_of l) a) (arena_words (limits_of l) a) (arenas-inside a))

  arenas-zero : (a : Which) → (decode d mem).arenas a ≡ (fresh (limits_of l)).arenas a
  arenas-zero children = zero-at children
  arenas-zero attributes = zero-at attributes
  arenas-zero namespaces = zero-at namespaces

  pub decode-zeros : decode (fresh_record l) mem ≡ fresh (limits_of l)
  decode-zeros = λ i.
      columns
      (limits_of l)
      (column (generation_at n w) 0 generation i)
      (ap (λ (k : ℕ). reverse (tabulate (free_at n w) k)) (no-count n) i)
      (column (λ s. kind_loaded (loaded_at n w s)) (Some root) (ap kind_loaded loaded) i)
      (column (λ s. parent_loaded (loaded_at n w s)) None (ap parent_loaded loaded) i)
      (λ a. column (λ s. range_loaded a (loaded_at n w s)) (block 0 0) (range a) i)
      (λ a. arenas-zero a i)
      (orders i)
      true
      (record {
        texts = ap (tabulate (λ s. text_shown (text_limits d) (text_counts d) s (texts_part d mem))) (no-count l.texts) i;
        free = (ap (λ (k : ℕ). reverse (part l.texts k (texts_part d mem))) (no-count l.texts) ∙ ap reverse (part_none (texts_part d mem) l.texts)) i;
      })
      (ap (tabulate (λ s. name_shown (name_limits d) (name_counts d) s (names_part d mem))) (no-count l.names) i)
      (counts-fit i)
      (lengths-add i)
    where
      range : (a : Which) → range_loaded a (loaded_at n w 0) ≡ block 0 0
      range children = ap (range_loaded children) loaded
      range attributes = ap (range_loaded attributes) loaded
      range namespaces = ap (range_loaded namespaces) loaded
