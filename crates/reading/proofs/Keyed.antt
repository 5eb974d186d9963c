-- The key that a live node shows.
-- Assumes nothing.
use Rattle.std.specs.Prelude.{Option}
use mathlib.Core.Path.{◌≡◌, refl, sym, ap, ◌∙◌}
use mathlib.Core.Bool.{Bool, true, cond}
use mathlib.Core.List.{List}
use Prim.Native.Nat.{ℕ, ◌<◌}
use native.Mathlib.Omega.{arith}
use lib.ListN.{get_or}
use Rattle.words.proofs.Lists.{get_or-tabulate}
use Rattle.records.specs.Handles.{word_of, handle_index}
use Rattle.slots.specs.Regions as regions
use Rattle.slots.specs.Regions.{order_at}
use Rattle.records.specs.declared.NodeId.{NodeId}
use Rattle.records.proofs.Handles.{handle_index-word_of}
use Rattle.model.specs.Doc.{no_key, resolves}
use Rattle.model.specs.Calls.{Answered, key, key_of, refused, step, order-key}
use Rattle.layout.specs.declared.Document.{Document}
use Rattle.memory.specs.Decode.{slots_part, pool_in, names_in, lengths_add, decode}
use Rattle.memory.proofs.Columns.{live_made}
use Rattle.showing.proofs.Found.{live-shown}

key-same : (word : ℕ) → regions.key_of word ≡ key_of word
unfolding regions.key_of
key-same word = refl

pub current-key : (current : Bool) (word : ℕ) (k : Option ℕ) → current ≡ true → k ≡ regions.key_of word → ◌≡◌ {A = Answered} (key k) (cond current (key (key_of word)) (refused 15))
current-key current word k e q = ap key (q ∙ key-same word) ∙ sym (rw e)

module _ (d : Document) (mem : List ℕ) (h : NodeId) (hi : h.index < 4294967296) (hg : h.generation < 4294967296) (t : Bool) (e : t ≡ resolves (decode d mem) (word_of h)) where
  pub slot-inside : t ≡ true → h.index < d.limits.nodes
  slot-inside q =
      let b = live_made (pool_in d mem) (names_in d mem) (lengths_add d mem) d mem h.index (live-shown d mem h hi hg t e q) in
      omega arith

  pub key-shown : t ≡ true → (a : Answered) → a ≡ cond d.current (key (key_of (order_at d.limits.nodes (slots_part d mem) h.index))) (refused 15)
      → a ≡ (step (order-key (word_of h)) (decode d mem)).answer
  key-shown q a k =
      let D = decode d mem in
      let n = d.limits.nodes in
      let word : get_or (decode d mem).order (handle_index (word_of h)) no_key ≡ order_at d.limits.nodes (slots_part d mem) h.index =
      ap (λ (i : ℕ). get_or D.order i no_key) (handle_index-word_of h hi)
      ∙ get_or-tabulate (order_at n (slots_part d mem)) n h.index no_key (slot-inside q) in
      k ∙ sym (rw (sym e ∙ q, word))
