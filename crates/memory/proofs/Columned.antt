-- The columns of a document after the words of one slot were replaced.
-- Assumes nothing.
use Rattle.records.specs.declared.Node.{Node}
use Rattle.std.specs.Prelude.{Option}
use mathlib.Core.Path.{◌≡◌, sym, ap, ◌∙◌}
use mathlib.Core.List.{List}
use Prim.Native.Nat.{ℕ, ◌≤◌, ◌<◌}
use native.Mathlib.Omega.{arith}
use native.Mathlib.Decide.{ℕ_discrete}
use lib.ListN.{length, set}
use borrow.Author.Tests.{lt-ltb}
use Rattle.words.specs.Lists.{tabulate}
use Rattle.words.proofs.Lists.{tabulate-same, tabulate-set}
use Rattle.records.specs.Records.{node_of}
use Rattle.slots.specs.Regions.{slots_words, generation_at, free_at, node_at, order_at, put_record}
use Rattle.records.specs.declared.NodeRecord.{NodeRecord}
use Rattle.slots.proofs.Regions.{record_at-put_record, record_at-put_record-other, node_at-record_at, generation_at-put_record, free_at-put_record, order_at-put_record}
use Rattle.memory.specs.Decode.{loaded_at}

module _ (n : ℕ) (w : List ℕ) (long : slots_words n ≤ length w) (s : ℕ) (r : NodeRecord) (b : s < n) where
  abbrev v : List ℕ
  v = put_record n w s r

  loaded-other : (t : ℕ) → t < n → (t ≡ s → ⊥) → loaded_at n (put_record n w s r) t ≡ loaded_at n w t
  loaded-other t h ne =
      rw (generation_at-put_record n w long s r b t h, node_at-record_at n v w t t (record_at-put_record-other n w long s r b t ne))

  pub loaded-here : (l : Option Node) → generation_at n w s < 4294967296 → node_of r ≡ l → loaded_at n (put_record n w s r) s ≡ l
  unfolding node_at
  loaded-here l g e =
      rw (generation_at-put_record n w long s r b s b, lt-ltb (generation_at n w s) 4294967296 g, record_at-put_record n w long s r b) e

  -- ---- the columns that a record has no part in
  module _ (made : ℕ) (mb : made ≤ n) where
    pub gens-kept : tabulate (generation_at n (put_record n w s r)) made ≡ tabulate (generation_at n w) made
    gens-kept = tabulate-same (generation_at n v) (generation_at n w) made (λ t h. generation_at-put_record n w long s r b t (omega arith))

    pub free-kept : tabulate (free_at n (put_record n w s r)) made ≡ tabulate (free_at n w) made
    free-kept = tabulate-same (free_at n v) (free_at n w) made (λ t h. free_at-put_record n w long s r b t (omega arith))

    pub order-kept : tabulate (order_at n (put_record n w s r)) made ≡ tabulate (order_at n w) made
    order-kept = tabulate-same (order_at n v) (order_at n w) made (λ t h. order_at-put_record n w long s r b t)

    -- ---- a column of what is loaded
    module _ {A : Type 0} (f : Option Node → A) where
      pub column-set : (e : A) → s < made → f (loaded_at n (put_record n w s r) s) ≡ e
          → tabulate (λ t. f (loaded_at n (put_record n w s r) t)) made ≡ set (tabulate (λ t. f (loaded_at n w t)) made) s e
      column-set e h q =
          tabulate-set (λ t. f (loaded_at n v t)) (λ t. f (loaded_at n w t)) made s e h (λ t k ne. ap f (loaded-other t (omega arith) ne)) q

      pub column-kept : f (loaded_at n (put_record n w s r) s) ≡ f (loaded_at n w s)
          → tabulate (λ t. f (loaded_at n (put_record n w s r) t)) made ≡ tabulate (λ t. f (loaded_at n w t)) made
      column-kept q = tabulate-same (λ t. f (loaded_at n v t)) (λ t. f (loaded_at n w t)) made (λ t k. go t (omega arith) (ℕ_discrete t s))
        where
          go : (t : ℕ) → t < n → Dec (t ≡ s) → f (loaded_at n v t) ≡ f (loaded_at n w t)
          go t k (yes e) = ap (λ (u : ℕ). f (loaded_at n v u)) e ∙ q ∙ ap (λ (u : ℕ). f (loaded_at n w u)) (sym e)
          go t k (no ne) = ap f (loaded-other t k ne)
