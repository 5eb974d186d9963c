-- The order words replaced: what the document is then, and keys written one list after another.
-- Assumes nothing.
use Rattle.records.specs.declared.Node.{Node}
use Rattle.std.specs.Prelude.{Option}
use mathlib.Core.Path.{◌≡◌, refl, sym, ap, ◌∙◌}
use mathlib.Core.Bool.{Bool, true}
use mathlib.Core.List.{List, [], ◌∷◌, ◌++◌, reverse}
use Prim.Native.Nat.{ℕ, zero, suc, ◌+◌, ◌*◌, ◌≤◌, ◌<◌}
use native.Mathlib.Omega.{arith}
use lib.ListN.{length, get_or, set, length-set}
use borrow.Rule.Slice.PartMut.{set_mid_at}
use Rattle.words.specs.Parts.{part, put}
use Rattle.words.specs.Lists.{tabulate}
use Rattle.words.proofs.Parts.{length_part, part_none, part-snoc, get_or-part, part-part, length-put, put_back, part-put-same, part-put-before, part-put-after, get_or-put-before, put-put, put_same}
use Rattle.words.proofs.Lists.{tabulate-same}
use Rattle.records.specs.Handles.{handle_index}
use Rattle.records.specs.Records.{read_record}
use Rattle.slots.specs.Regions.{order_start, record_start, generation_at, free_at, record_at, order_at, put_order}
use Rattle.slots.proofs.Regions.{node_at-record_at}
use Rattle.model.specs.Kinds.{Which, children}
use Rattle.model.specs.Doc.{Doc, change_slots, change_nodes, change_arenas, change_order}
use Rattle.model.specs.Edits.{keyed}
use Rattle.layout.specs.declared.Document.{Document}
use Rattle.layout.specs.Layout.{limits_of, entries_of, arena_at, texts_at, texts_words, names_at, names_words, memory_ok}
use Rattle.memory.specs.Decode.{kind_loaded, parent_loaded, range_loaded, loaded_at, slots_part, slots_made, slots_free, decode, lengths_add}
use Rattle.memory.specs.Writing.{put_slots}
use Rattle.layout.specs.Record.{record_with}
use Rattle.layout.proofs.Sizes.{sizes, arena-behind-slots, arena-inside, names-next}
use Rattle.memory.proofs.Kept.{decode-kept}
use Rattle.walks.specs.Order.{put_orders, put_keys}

-- ---- lists

-- a write into a part that is put back
put-set-part : (l : List ℕ) (a m j v : ℕ) → j < m → a + m ≤ length l → put a (set (part a m l) j v) l ≡ set l (a + j) v
unfolding part
put-set-part l a m j v h b =
    sym (put_back l a (set (part a m l) j v) m (length-set (part a m l) j v ∙ length_part l a m b))
    ∙ set_mid_at a m j l v (omega (arith, length_part l a m b))

tabulate-part : (l : List ℕ) (a k : ℕ) → a + k ≤ length l → tabulate (λ s. get_or l (a + s) 0) k ≡ part a k l
tabulate-part l a zero h = sym (part_none l a)
tabulate-part l a (suc k) h = ap (λ (x : List ℕ). x ++ (get_or l (a + k) 0 ∷ [])) (tabulate-part l a k (omega arith)) ∙ sym (part-snoc l a k 0 (omega arith))

pub length-keyed : (words : List ℕ) (n : ℕ) (l : List ℕ) → length (keyed words n l) ≡ length words
length-keyed words n [] = refl
length-keyed words n (h ∷ l) = length-keyed (set words (handle_index h) n) (suc n) l ∙ length-set words (handle_index h) n

keyed-append : (words : List ℕ) (n : ℕ) (l m : List ℕ) → keyed words n (l ++ m) ≡ keyed (keyed words n l) (n + length l) m
keyed-append words n [] m =
    let e : n + 0 ≡ n = omega arith in
    rw e
keyed-append words n (h ∷ l) m =
    let e : suc n + length l ≡ n + suc (length l) = omega arith in
    keyed-append (set words (handle_index h) n) (suc n) l m ∙ ap (λ (k : ℕ). keyed (keyed words n (h ∷ l)) k m) e

-- ---- the document

module _ (d : Document) (mem : List ℕ) (ok : memory_ok d (length mem) ≡ true) where
  abbrev n : ℕ
  n = d.limits.nodes

  long : 15 * n ≤ length mem
  long = (sizes d (length mem) ok).slots

  pub order-words : (decode d mem).order ≡ part (order_start d.limits.nodes) d.limits.nodes mem
  unfolding order_at
  order-words =
      tabulate-same (order_at n (slots_part d mem)) (λ s. get_or mem (n * 14 + s) 0) n
      (λ s h. let e : 0 + (n * 14 + s) ≡ n * 14 + s = omega arith in
      get_or-part mem 0 (15 * n) (n * 14 + s) 0 (omega arith) ∙ ap (λ (k : ℕ). get_or mem k 0) e)
      ∙ tabulate-part mem (n * 14) n (let z = long in omega arith)

  pub length-order : length (decode d mem).order ≡ d.limits.nodes
  length-order = ap length order-words ∙ length_part mem (n * 14) n (let z = long in omega arith)

  module _ (o : List ℕ) (size : length o ≡ d.limits.nodes) where
    abbrev M : List ℕ
    M = put_orders d o mem

    pub length-put_orders : length (put_orders d o mem) ≡ length mem
    unfolding put_orders
    length-put_orders = length-put mem (n * 14) o (let z = long in omega arith)

    pub orders-there : part (order_start d.limits.nodes) d.limits.nodes (put_orders d o mem) ≡ o
    unfolding put_orders
    orders-there = ap (λ (k : ℕ). part (n * 14) k (put (n * 14) o mem)) (sym size) ∙ part-put-same mem (n * 14) o (let z = long in omega arith)

    word_kept : (i : ℕ) → i < n * 14 → get_or (slots_part d (put_orders d o mem)) i 0 ≡ get_or (slots_part d mem) i 0
    unfolding put_orders
    word_kept i h =
        get_or-part (put (n * 14) o mem) 0 (15 * n) i 0 (omega arith)
        ∙ get_or-put-before mem (n * 14) o (0 + i) 0 (omega arith) (let z = long in omega arith)
        ∙ sym (get_or-part mem 0 (15 * n) i 0 (omega arith))

    record-kept : (s : ℕ) → s < n → record_at n (slots_part d (put_orders d o mem)) s ≡ record_at n (slots_part d mem) s
    unfolding put_orders record_at
    record-kept s h =
        ap read_record
        (part-part (put (n * 14) o mem) 0 (15 * n) (record_start n s) 12 (omega arith)
        ∙ part-put-before mem (n * 14) o (0 + record_start n s) 12 (omega arith) (let z = long in omega arith)
        ∙ sym (part-part mem 0 (15 * n) (record_start n s) 12 (omega arith)))

    generation-kept : (s : ℕ) → s < n → generation_at n (slots_part d (put_orders d o mem)) s ≡ generation_at n (slots_part d mem) s
    unfolding generation_at
    generation-kept s h = word_kept s (omega arith)

    free-kept : (i : ℕ) → i < n → free_at n (slots_part d (put_orders d o mem)) i ≡ free_at n (slots_part d mem) i
    unfolding free_at
    free-kept i h = word_kept (n + i) (omega arith)

    loaded-kept : (s : ℕ) → s < n → loaded_at n (slots_part d (put_orders d o mem)) s ≡ loaded_at n (slots_part d mem) s
    loaded-kept s h = rw (generation-kept s h, node_at-record_at n (slots_part d (put_orders d o mem)) (slots_part d mem) s s (record-kept s h))

    column-kept : {A : Type 0} (f : Option Node → A) → tabulate (λ s. f (loaded_at n (slots_part d (put_orders d o mem)) s)) (slots_made d) ≡ tabulate (λ s. f (loaded_at n (slots_part d mem) s)) (slots_made d)
    column-kept f = tabulate-same (λ s. f (loaded_at n (slots_part d (put_orders d o mem)) s)) (λ s. f (loaded_at n (slots_part d mem) s)) (slots_made d) (λ s h. ap f (loaded-kept s (omega arith)))

    behind-kept : (at k : ℕ) → 15 * n ≤ at → part at k (put_orders d o mem) ≡ part at k mem
    unfolding put_orders
    behind-kept at k h = part-put-after mem (n * 14) o at k (omega arith) (let z = long in omega arith)

    order-there : tabulate (order_at n (slots_part d (put_orders d o mem))) n ≡ o
    unfolding order_at
    order-there =
        tabulate-same (order_at n (slots_part d (put_orders d o mem))) (λ s. get_or (put_orders d o mem) (n * 14 + s) 0) n
        (λ s h. let e : 0 + (n * 14 + s) ≡ n * 14 + s = omega arith in
        get_or-part (put_orders d o mem) 0 (15 * n) (n * 14 + s) 0 (omega arith) ∙ ap (λ (k : ℕ). get_or (put_orders d o mem) k 0) e)
        ∙ tabulate-part (put_orders d o mem) (n * 14) n (omega (arith, long, length-put_orders))
        ∙ orders-there

    -- the document has the words as its order, and all else equal
    pub decode-put_orders : (current : Bool) → decode (record_with d d.counts current) (put_orders d o mem) ≡ change_order (decode d mem) o current
    unfolding lengths_add
    decode-put_orders current =
        let l = limits_of d.limits in
        let e = record_with d d.counts current in
        decode-kept e mem (put_orders d o mem)
        (record {
          texts = behind-kept (texts_at l) (texts_words l) (omega (arith, arena-behind-slots l children, arena-inside l children));
          names = behind-kept (names_at l) (names_words l) (omega (arith, arena-behind-slots l children, arena-inside l children, names-next l));
        })
        ∙ (λ i.
        let slots =
        change_slots (decode d mem)
        (tabulate-same (generation_at n (slots_part d (put_orders d o mem))) (generation_at n (slots_part d mem)) (slots_made d) (λ s h. generation-kept s (omega arith)) i)
        (reverse (tabulate-same (free_at n (slots_part d (put_orders d o mem))) (free_at n (slots_part d mem)) (slots_free d) (λ s h. free-kept s (omega arith)) i)) in
        let nodes = change_nodes slots (column-kept kind_loaded i) (column-kept parent_loaded i) (λ a. column-kept (range_loaded a) i) in
        change_order (change_arenas nodes (λ a. arena-kept a i)) (order-there i) current)
      where
        arena-kept : (a : Which) → (decode d (put_orders d o mem)).arenas a ≡ (decode d mem).arenas a
        arena-kept a = rw (behind-kept (arena_at (limits_of d.limits) a) (2 * entries_of d.limits a) (arena-behind-slots (limits_of d.limits) a))

    pub put_orders-again : (o' : List ℕ) → length o' ≡ d.limits.nodes → put_orders d o' (put_orders d o mem) ≡ put_orders d o' mem
    unfolding put_orders
    put_orders-again o' e = put-put mem (n * 14) o' o (let z = long in omega arith) (omega arith)

  pub put_orders-same : put_orders d (decode d mem).order mem ≡ mem
  unfolding put_orders
  put_orders-same = ap (λ (x : List ℕ). put (n * 14) x mem) order-words ∙ put_same mem (n * 14) n (let z = long in omega arith)

  -- ---- keys

  keyed-size : (key : ℕ) (l : List ℕ) → length (keyed (decode d mem).order key l) ≡ n
  keyed-size key l = length-keyed (decode d mem).order key l ∙ length-order

  pub length-put_keys : (key : ℕ) (l : List ℕ) → length (put_keys d mem key l) ≡ length mem
  unfolding put_keys
  length-put_keys key l = length-put_orders (keyed (decode d mem).order key l) (keyed-size key l)

  pub decode-put_keys : (key : ℕ) (l : List ℕ) → decode d (put_keys d mem key l) ≡ change_order (decode d mem) (keyed (decode d mem).order key l) d.current
  unfolding put_keys
  decode-put_keys key l = decode-put_orders (keyed (decode d mem).order key l) (keyed-size key l) d.current

  pub keys_none : (key : ℕ) → put_keys d mem key [] ≡ mem
  unfolding put_keys
  keys_none key = put_orders-same

  pub keys-more : (key : ℕ) (l m : List ℕ) → put_keys d (put_keys d mem key l) (key + length l) m ≡ put_keys d mem key (l ++ m)
  unfolding put_keys
  keys-more key l m =
      let o = keyed (decode d mem).order key l in
      ap (λ (x : Doc). put_orders d (keyed x.order (key + length l) m) (put_orders d o mem)) (decode-put_orders o (keyed-size key l) d.current)
      ∙ ap (λ (x : List ℕ). put_orders d x (put_orders d o mem)) (sym (keyed-append (decode d mem).order key l m))
      ∙ put_orders-again o (keyed-size key l) (keyed (decode d mem).order key (l ++ m)) (keyed-size key (l ++ m))

  -- an order word written in the part of the slots
  pub key-stored : (s key : ℕ) → s < d.limits.nodes → put_slots (put_order d.limits.nodes (slots_part d mem) s key) mem ≡ put_orders d (set (decode d mem).order s key) mem
  unfolding put_slots put_order put_orders
  key-stored s key h =
      let e : 0 + (n * 14 + s) ≡ n * 14 + s = omega arith in
      put-set-part mem 0 (15 * n) (n * 14 + s) key (omega arith) (let z = long in omega arith)
      ∙ ap (λ (k : ℕ). set mem k key) e
      ∙ sym (put-set-part mem (n * 14) n s key h (let z = long in omega arith))
      ∙ ap (λ (x : List ℕ). put (n * 14) (set x s key) mem) (sym order-words)

  key_one : (word key : ℕ) (s : ℕ) → s ≡ handle_index word → handle_index word < d.limits.nodes
      → put_slots (put_order d.limits.nodes (slots_part d mem) s key) mem ≡ put_keys d mem key (word ∷ [])
  unfolding put_keys
  key_one word key s e h = ap (λ (k : ℕ). put_slots (put_order n (slots_part d mem) k key) mem) e ∙ key-stored (handle_index word) key h

  pub key-put : (word key : ℕ) (s : ℕ) → s ≡ handle_index word → handle_index word < d.limits.nodes → (mem' : List ℕ)
      → mem' ≡ put_slots (put_order d.limits.nodes (slots_part d mem) s key) mem → mem' ≡ put_keys d mem key (word ∷ [])
  key-put word key s e h mem' q = q ∙ key_one word key s e h
