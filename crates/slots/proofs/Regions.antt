-- What each reader of the lent part finds after each writer: the new value at its own place, and what was there everywhere else.
-- Assumes nothing.
use Rattle.std.specs.Prelude.{Some}
use Rattle.std.proofs.Common.{◌≡◌, ℕ, ◌+◌, ◌<◌, ◌≤◌, ◌⊎◌, List, [], ◌∷◌, length, get_or, set, replicate, sym, ap, ◌∙◌, inl, inr, ⊎_elim, arith, length-set, get_or-set_other, get_or-set_same}
use native.Mathlib.Decide.{dec_lt}
use lib.ListN.{length-replicate, get_or-replicate}
use Rattle.words.specs.Parts.{part, put}
use Rattle.words.proofs.Parts.{set-put, length-put, get_or-part, part-put-same, part-put-before, part-put-after, get_or-put-before, get_or-put-after}
use Rattle.records.specs.declared.NodeRecord.{NodeRecord}
use Rattle.records.specs.declared.Node.{Node}
use Rattle.records.specs.Records.{read_record, record_words, record_of, node_of, zero_root}
use Rattle.records.specs.Fields.{NodeFits}
use Rattle.slots.specs.Regions.{slots_words, record_start, order_start, generation_at, free_at, record_at, node_at, order_at, put_generation, put_free, put_record, put_order, clear_order}
use Rattle.words.proofs.Lists.{part-replicate}
use Rattle.records.proofs.Records.{record-back, node-back, found-fits}

-- a part that a store does not meet
part-set : {A : Type 0} (l : List A) (a k j : ℕ) (v : A) → j < length l → (j < a) ⊎ (a + k ≤ j) → part a k (set l j v) ≡ part a k l
part-set l a k j v h side =
    ap (part a k) (set-put l j v h)
    ∙ ⊎_elim (λ b. part-put-after l j (v ∷ []) a k (omega arith) (omega arith)) (λ b. part-put-before l j (v ∷ []) a k b (omega arith)) side

-- the node in a slot is a matter of its record alone
pub node_at-record_at : (n : ℕ) (v w : List ℕ) (s t : ℕ) → record_at n v s ≡ record_at n w t → node_at n v s ≡ node_at n w t
unfolding node_at
node_at-record_at n v w s t e = ap node_of e

module _ (n : ℕ) (w : List ℕ) where
  -- ---- lengths
  pub length-put_generation : (s g : ℕ) → length (put_generation n w s g) ≡ length w
  unfolding put_generation
  length-put_generation s g = length-set w s g

  pub length-put_free : (i s : ℕ) → length (put_free n w i s) ≡ length w
  unfolding put_free
  length-put_free i s = length-set w (n + i) s

  pub length-put_order : (s key : ℕ) → length (put_order n w s key) ≡ length w
  unfolding put_order
  length-put_order s key = length-set w (order_start n + s) key

module _ (n : ℕ) (w : List ℕ) (long : slots_words n ≤ length w) where
  pub length-put_record : (s : ℕ) (r : NodeRecord) → s < n → length (put_record n w s r) ≡ length w
  unfolding put_record
  length-put_record s r b = length-put w (record_start n s) (record_words r) (omega arith)

  -- ---- after a generation was written
  module _ (s g : ℕ) (b : s < n) where
    pub generation_at-put_generation : generation_at n (put_generation n w s g) s ≡ g
    unfolding generation_at put_generation
    generation_at-put_generation = get_or-set_same w s g 0 (omega arith)

    pub generation_at-put_generation-other : (t : ℕ) → (t ≡ s → ⊥) → generation_at n (put_generation n w s g) t ≡ generation_at n w t
    unfolding generation_at put_generation
    generation_at-put_generation-other t ne = get_or-set_other w s t g 0 ne

    pub free_at-put_generation : (i : ℕ) → free_at n (put_generation n w s g) i ≡ free_at n w i
    unfolding free_at put_generation
    free_at-put_generation i = get_or-set_other w s (n + i) g 0 (λ e. omega arith)

    pub record_at-put_generation : (t : ℕ) → record_at n (put_generation n w s g) t ≡ record_at n w t
    unfolding record_at put_generation
    record_at-put_generation t = ap read_record (part-set w (record_start n t) 12 s g (omega arith) (inl (omega arith)))

    pub order_at-put_generation : (t : ℕ) → order_at n (put_generation n w s g) t ≡ order_at n w t
    unfolding order_at put_generation
    order_at-put_generation t = get_or-set_other w s (order_start n + t) g 0 (λ e. omega arith)

  -- ---- after an entry of the free stack was written
  module _ (i s : ℕ) (b : i < n) where
    pub free_at-put_free : free_at n (put_free n w i s) i ≡ s
    unfolding free_at put_free
    free_at-put_free = get_or-set_same w (n + i) s 0 (omega arith)

    pub free_at-put_free-other : (j : ℕ) → (j ≡ i → ⊥) → free_at n (put_free n w i s) j ≡ free_at n w j
    unfolding free_at put_free
    free_at-put_free-other j ne = get_or-set_other w (n + i) (n + j) s 0 (λ e. ne (omega arith))

    pub generation_at-put_free : (t : ℕ) → t < n → generation_at n (put_free n w i s) t ≡ generation_at n w t
    unfolding generation_at put_free
    generation_at-put_free t h = get_or-set_other w (n + i) t s 0 (λ e. omega arith)

    pub record_at-put_free : (t : ℕ) → record_at n (put_free n w i s) t ≡ record_at n w t
    unfolding record_at put_free
    record_at-put_free t = ap read_record (part-set w (record_start n t) 12 (n + i) s (omega arith) (inl (omega arith)))

    pub order_at-put_free : (t : ℕ) → order_at n (put_free n w i s) t ≡ order_at n w t
    unfolding order_at put_free
    order_at-put_free t = get_or-set_other w (n + i) (order_start n + t) s 0 (λ e. omega arith)

  -- ---- after a record was written
  module _ (s : ℕ) (r : NodeRecord) (b : s < n) where
    pub record_at-put_record : record_at n (put_record n w s r) s ≡ r
    unfolding record_at put_record
    record_at-put_record = ap read_record (part-put-same w (record_start n s) (record_words r) (omega arith))

    pub record_at-put_record-other : (t : ℕ) → (t ≡ s → ⊥) → record_at n (put_record n w s r) t ≡ record_at n w t
    unfolding record_at put_record
    record_at-put_record-other t ne = ap read_record (go (dec_lt t s))
      where
        go : Dec (t < s) → part (record_start n t) 12 (put (record_start n s) (record_words r) w) ≡ part (record_start n t) 12 w
        go (yes h) = part-put-before w (record_start n s) (record_words r) (record_start n t) 12 (omega arith) (omega arith)
        go (no h) = part-put-after w (record_start n s) (record_words r) (record_start n t) 12 (omega arith) (omega arith)

    pub generation_at-put_record : (t : ℕ) → t < n → generation_at n (put_record n w s r) t ≡ generation_at n w t
    unfolding generation_at put_record
    generation_at-put_record t h = get_or-put-before w (record_start n s) (record_words r) t 0 (omega arith) (omega arith)

    pub free_at-put_record : (i : ℕ) → i < n → free_at n (put_record n w s r) i ≡ free_at n w i
    unfolding free_at put_record
    free_at-put_record i h = get_or-put-before w (record_start n s) (record_words r) (n + i) 0 (omega arith) (omega arith)

    pub order_at-put_record : (t : ℕ) → order_at n (put_record n w s r) t ≡ order_at n w t
    unfolding order_at put_record
    order_at-put_record t = get_or-put-after w (record_start n s) (record_words r) (order_start n + t) 0 (omega arith) (omega arith)

  -- ---- after an order word was written
  module _ (s key : ℕ) (b : s < n) where
    pub order_at-put_order : order_at n (put_order n w s key) s ≡ key
    unfolding order_at put_order
    order_at-put_order = get_or-set_same w (order_start n + s) key 0 (omega arith)

    pub order_at-put_order-other : (t : ℕ) → (t ≡ s → ⊥) → order_at n (put_order n w s key) t ≡ order_at n w t
    unfolding order_at put_order
    order_at-put_order-other t ne = get_or-set_other w (order_start n + s) (order_start n + t) key 0 (λ e. ne (omega arith))

    pub generation_at-put_order : (t : ℕ) → t < n → generation_at n (put_order n w s key) t ≡ generation_at n w t
    unfolding generation_at put_order
    generation_at-put_order t h = get_or-set_other w (order_start n + s) t key 0 (λ e. omega arith)

    pub free_at-put_order : (i : ℕ) → i < n → free_at n (put_order n w s key) i ≡ free_at n w i
    unfolding free_at put_order
    free_at-put_order i h = get_or-set_other w (order_start n + s) (n + i) key 0 (λ e. omega arith)

    pub record_at-put_order : (t : ℕ) → t < n → record_at n (put_order n w s key) t ≡ record_at n w t
    unfolding record_at put_order
    record_at-put_order t h = ap read_record (part-set w (record_start n t) 12 (order_start n + s) key (omega arith) (inr (omega arith)))

  -- ---- after the order words of the slots made were cleared
  module _ (made : ℕ) (b : made ≤ n) where
    cleared : length {A = ℕ} (replicate made 4294967295) ≡ made
    cleared = length-replicate made 4294967295

    pub length-clear_order : length (clear_order n w made) ≡ length w
    unfolding clear_order
    length-clear_order = length-put w (order_start n) (replicate made 4294967295) (omega (arith, cleared))

    pub order_at-clear_order : (s : ℕ) → s < made → order_at n (clear_order n w made) s ≡ 4294967295
    unfolding order_at clear_order
    order_at-clear_order s h =
        sym (get_or-part (put (order_start n) (replicate made 4294967295) w) (order_start n) made s 0 h)
        ∙ ap (λ (k : ℕ). get_or (part (order_start n) k (put (order_start n) (replicate made 4294967295) w)) s 0) (sym cleared)
        ∙ ap (λ (l : List ℕ). get_or l s 0) (part-put-same w (order_start n) (replicate made 4294967295) (omega arith))
        ∙ get_or-replicate made s 4294967295 0 h

    pub order_at-clear_order-other : (s : ℕ) → made ≤ s → order_at n (clear_order n w made) s ≡ order_at n w s
    unfolding order_at clear_order
    order_at-clear_order-other s h = get_or-put-after w (order_start n) (replicate made 4294967295) (order_start n + s) 0 (omega (arith, cleared)) (omega arith)

    pub generation_at-clear_order : (t : ℕ) → t < n → generation_at n (clear_order n w made) t ≡ generation_at n w t
    unfolding generation_at clear_order
    generation_at-clear_order t h = get_or-put-before w (order_start n) (replicate made 4294967295) t 0 (omega arith) (omega arith)

    pub free_at-clear_order : (i : ℕ) → i < n → free_at n (clear_order n w made) i ≡ free_at n w i
    unfolding free_at clear_order
    free_at-clear_order i h = get_or-put-before w (order_start n) (replicate made 4294967295) (n + i) 0 (omega arith) (omega arith)

    pub record_at-clear_order : (t : ℕ) → t < n → record_at n (clear_order n w made) t ≡ record_at n w t
    unfolding record_at clear_order
    record_at-clear_order t h = ap read_record (part-put-before w (order_start n) (replicate made 4294967295) (record_start n t) 12 (omega arith) (omega arith))

  -- ---- a node that was stored is loaded again, and in every other slot what was there
  module _ (s : ℕ) (m : Node) (b : s < n) where
    pub node_at-put_record : NodeFits m → node_at n (put_record n w s (record_of m)) s ≡ Some m
    unfolding node_at
    node_at-put_record f = ap node_of (record_at-put_record s (record_of m) b) ∙ node-back m f

    pub node_at-put_record-other : (t : ℕ) → (t ≡ s → ⊥) → node_at n (put_record n w s (record_of m)) t ≡ node_at n w t
    node_at-put_record-other t ne = node_at-record_at n (put_record n w s (record_of m)) w t t (record_at-put_record-other s (record_of m) b t ne)

-- what was loaded fits, and its words are those of the slot
pub node_at-fits : (n : ℕ) (w : List ℕ) (s : ℕ) (m : Node) → node_at n w s ≡ Some m → NodeFits m
unfolding node_at
node_at-fits n w s m e = found-fits (record_at n w s) m e

pub record_at-node_at : (n : ℕ) (w : List ℕ) (s : ℕ) (m : Node) → node_at n w s ≡ Some m → record_at n w s ≡ record_of m
unfolding node_at
record_at-node_at n w s m e = sym (record-back (record_at n w s) m e)

-- ---- all words zero

module _ (n k : ℕ) (long : slots_words n ≤ k) (s : ℕ) (b : s < n) where
  pub generation_at-zero : generation_at n (replicate k 0) s ≡ 0
  unfolding generation_at
  generation_at-zero = get_or-replicate k s 0 0 (omega arith)

  pub order_at-zero : order_at n (replicate k 0) s ≡ 0
  unfolding order_at
  order_at-zero = get_or-replicate k (order_start n + s) 0 0 (omega arith)

  -- zero words are a Root with no parent and no children
  pub node_at-zero : node_at n (replicate k 0) s ≡ Some zero_root
  unfolding node_at record_at record_of
  node_at-zero = ap (λ (l : List ℕ). node_of (read_record l)) (part-replicate (record_start n s) 12 k 0 (omega arith)) ∙ zero-found
    where
      zero-found : node_of (read_record (replicate 12 0)) ≡ Some zero_root
      zero-found = node-back zero_root (record { fits-data = tt; fits-parent = tt; fits-children = (omega arith, omega arith) })
