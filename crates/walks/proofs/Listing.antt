-- A node's list: the part of the memory that it is, its entries one by one, and what stays of it while keys are written.
-- Assumes nothing.
use mathlib.Core.Path.{◌≡◌, refl, sym, ap, ◌∙◌, subst}
use mathlib.Core.Bool.{true}
use mathlib.Core.List.{List, [], ◌∷◌, ◌++◌, Memᴰ}
use Prim.Native.Nat.{ℕ, zero, suc, ◌+◌, ◌≤◌, ◌<◌}
use native.Mathlib.Omega.{arith}
use native.Mathlib.Numerals.{add-one}
use lib.ListN.{length, get_or}
use Rattle.words.specs.Parts.{part}
use Rattle.words.proofs.Parts.{length_part, get_or-part, part_none, part-snoc}
use Rattle.blocks.specs.Arena.{Block, list_of}
use Rattle.records.specs.Handles.{handle_index}
use Rattle.records.specs.declared.Range.{Range}
use Rattle.model.specs.Kinds.{Which}
use Rattle.model.specs.Doc.{Doc, live_slot, range_in, list_in}
use Rattle.layout.specs.declared.Document.{Document}
use Rattle.layout.specs.Layout.{limits_of, arena_at, memory_ok}
use Rattle.memory.specs.Decode.{block_of, arena_in, decode}
use Rattle.layout.proofs.Sizes.{sizes}
use Rattle.memory.proofs.Reading.{entry_read, entries-read}
use Rattle.memory.proofs.Shaped.{length_ids}
use Rattle.walks.specs.Order.{put_keys, ListHeld, Listed}
use Rattle.walks.proofs.Orders.{length-put_keys, decode-put_keys, keys_none, keys-more}

-- ---- lists

pub mem-get_or : (l : List ℕ) (i a : ℕ) → i < length l → Memᴰ (get_or l i a) l
mem-get_or [] i a h = absurd (omega arith)
mem-get_or (x ∷ l) zero a h = Memᴰ.head refl
mem-get_or (x ∷ l) (suc i) a h = Memᴰ.tail (mem-get_or l i a (omega arith))

-- ---- the block of a slot

module _ (d : Document) (mem : List ℕ) (w : Which) (s : ℕ) where
  -- a range that was read is where the list lies
  pub record BlockRead (r : Range) : Type 0 where
    pub inside : r.start + r.len ≤ (limits_of d.limits).entries w
    pub list : list_in (decode d mem) w s ≡ part r.start r.len (arena_in d w mem).ids

  pub block_read : ListHeld d mem w s → (r : Range) → block_of r ≡ range_in (decode d mem) w s → BlockRead r
  block_read h r q =
      let a : r.start ≡ (range_in (decode d mem) w s).start = ap (λ (b : Block). b.start) q in
      let b : r.len ≡ (range_in (decode d mem) w s).len = ap (λ (b : Block). b.len) q in
      let i = h.inside in
      record { inside = omega arith; list = sym (ap (list_of (arena_in d w mem)) q) }

  -- the list is short, and its words lie in the memory behind one another
  pub record Within (start len : ℕ) : Type 0 where
    pub inside : start + len ≤ length mem
    pub narrow : start + len < 4294967296
    pub short : len ≤ 262144

  pub list-within : ListHeld d mem w s → (r : Range) → block_of r ≡ range_in (decode d mem) w s → (first : ℕ) → first ≡ arena_at (limits_of d.limits) w → Within (first + r.start) r.len
  list-within h r q first f =
      let z = sizes d (length mem) h.memory in
      let i = (block_read h r q).inside in
      record {
        inside = omega (arith, z.arena w);
        narrow = omega (arith, z.narrow w);
        short = omega (arith, z.entries w);
      }

-- ---- keys for the entries

module _ (d : Document) (mem : List ℕ) (ok : memory_ok d (length mem) ≡ true) (w : Which) where
  pub keys-first : (start key : ℕ) → mem ≡ put_keys d mem key (part start 0 mem)
  keys-first start key = sym (ap (put_keys d mem key) (part_none mem start) ∙ keys_none d mem ok key)

  pub keys-sized : (key : ℕ) (l mem' : List ℕ) → mem' ≡ put_keys d mem key l → length mem' ≡ length mem
  keys-sized key l mem' e = ap length e ∙ length-put_keys d mem ok key l

  module _ (first : ℕ) (f : first ≡ arena_at (limits_of d.limits) w) where
    -- the whole list numbered
    pub list-numbered : (s : ℕ) (r : Range) → BlockRead d mem w s r → (key k : ℕ) (mem' : List ℕ) → k ≤ r.len → r.len ≤ k → mem' ≡ put_keys d mem key (part (first + r.start) k mem)
        → (key + r.len ≡ key + length (list_in (decode d mem) w s)) × (mem' ≡ put_keys d mem key (list_in (decode d mem) w s))
    list-numbered s r b key k mem' h g e =
        let q : k ≡ r.len = omega arith in
        let i = b.inside in (
          ap (λ (x : ℕ). key + x) (sym (ap length b.list ∙ length_part (arena_in d w mem).ids r.start r.len (omega (arith, length_ids d mem ok w)))),
          e
              ∙ ap (λ (x : ℕ). put_keys d mem key (part (first + r.start) x mem)) q
              ∙ ap (put_keys d mem key) (sym (b.list ∙ entries-read d w mem first r.start r.len f i)),
        )

    module _ (start len k key word : ℕ) (mem' : List ℕ) (fits : start + len ≤ (limits_of d.limits).entries w) (h : k < len)
        (e : mem' ≡ put_keys d mem key (part (first + start) k mem)) (q : word ≡ get_or mem' (first + start + k) 0) where
      word_at : (m : List ℕ) → get_or m (first + start + k) 0 ≡ get_or (arena_in d w m).ids (start + k) 0
      word_at m =
          let z : first + start + k ≡ first + (start + k) = omega arith in
          ap (λ (i : ℕ). get_or m i 0) z ∙ entry_read d w m first (start + k) f (omega arith)

      listed : word ≡ get_or (arena_in d w mem).ids (start + k) 0
      listed =
          q ∙ word_at mem'
          ∙ ap (λ (x : List ℕ). get_or (arena_in d w x).ids (start + k) 0) e
          ∙ ap (λ (x : List ℕ). get_or x (start + k) 0) (ap (λ (x : Doc). (x.arenas w).ids) (decode-put_keys d mem ok key (part (first + start) k mem)))

      pub entry_listed : (s : ℕ) → Listed d mem w s → list_in (decode d mem) w s ≡ part start len (arena_in d w mem).ids → handle_index word < d.limits.nodes
      entry_listed s l g =
          l.slots word
          (subst (λ (x : List ℕ). Memᴰ word x) (sym g)
          (subst (λ (x : ℕ). Memᴰ x (part start len (arena_in d w mem).ids)) (sym (listed ∙ sym (get_or-part (arena_in d w mem).ids start len k 0 h)))
          (mem-get_or (part start len (arena_in d w mem).ids) k 0 (omega (arith, length_part (arena_in d w mem).ids start len (omega (arith, length_ids d mem ok w)))))))

      pub keys-next : (mem'' : List ℕ) → mem'' ≡ put_keys d mem' (key + k) (word ∷ []) → mem'' ≡ put_keys d mem key (part (first + start) (k + 1) mem)
      keys-next mem'' g =
          let p = part (first + start) k mem in
          let z = (sizes d (length mem) ok).arena w in
          let size : length p ≡ k = length_part mem (first + start) k (omega arith) in
          g ∙ ap (λ (x : List ℕ). put_keys d x (key + k) (word ∷ [])) e
          ∙ ap (λ (x : ℕ). put_keys d (put_keys d mem key p) (key + x) (word ∷ [])) (sym size)
          ∙ keys-more d mem ok key p (word ∷ [])
          ∙ ap (put_keys d mem key)
          (ap (λ (x : ℕ). p ++ (x ∷ [])) (listed ∙ sym (word_at mem))
          ∙ sym (part-snoc mem (first + start) k 0 (omega arith))
          ∙ ap (λ (x : ℕ). part (first + start) x mem) (sym (add-one k)))

  -- lists are as they were
  pub listed_kept : (key : ℕ) (l : List ℕ) (s : ℕ) → Listed d mem w s → Listed d (put_keys d mem key l) w s
  listed_kept key l s h =
      let e = decode-put_keys d mem ok key l in
      record {
        held = record {
          memory = ap (memory_ok d) (length-put_keys d mem ok key l) ∙ ok;
          live = subst (λ (x : Doc). live_slot x s ≡ true) (sym e) h.held.live;
          inside = subst (λ (x : Doc). (range_in x w s).start + (range_in x w s).len ≤ (limits_of d.limits).entries w) (sym e) h.held.inside;
        };
        slots = subst (λ (x : Doc). (y : ℕ) → Memᴰ y (list_in x w s) → handle_index y < d.limits.nodes) (sym e) h.slots;
      }
