-- The list of all live nodes, slot by slot.
-- Assumes nothing.
use mathlib.Core.Path.{◌≡◌, refl, sym, ap, ◌∙◌}
use mathlib.Core.Bool.{Bool, true, false, cond, true≢false}
use mathlib.Core.List.{List, [], ◌∷◌, ◌++◌, append-nil}
use Prim.Native.Nat.{ℕ, zero, suc, ◌+◌, ◌*◌, ◌≤◌, ◌<◌}
use native.Mathlib.Nat.{add-zero}
use native.Mathlib.Numerals.{add-one}
use native.Mathlib.Decide.{dec_lt}
use native.Mathlib.Omega.{arith}
use lib.ListN.{length, take, set, length-append}
use lib.Dec.{leb}
use borrow.Author.Tests.{leb-true}
use Rattle.words.specs.Parts.{part, put}
use Rattle.words.specs.Lists.{joined, tabulate}
use Rattle.words.proofs.Parts.{put-nil, set-put, part-put-same}
use Rattle.words.proofs.Tests.{and_right}
use Rattle.words.proofs.Joined.{joined-append}
use Rattle.slots.specs.Regions.{generation_at}
use Rattle.model.specs.Doc.{Doc, live_slot, handle_at, live_nodes}
use Rattle.model.specs.Calls.{every_node}
use Rattle.layout.specs.declared.Document.{Document}
use Rattle.layout.specs.Layout.{memory_ok}
use Rattle.memory.specs.Decode.{slots_part, slots_made, pool_in, names_in, lengths_add, decode}
use Rattle.memory.proofs.Columns.{length-gens, handle-in}
use Rattle.memory.proofs.Living.{live-wide}
use Rattle.std.specs.Prelude.{Ok}
use Rattle.reading.specs.Nodes.{live_entry}
use Rattle.reading.specs.Contract.{nodes_ok, NodesRead}
use Rattle.reading.proofs.Lists.{put-append}

-- ---- a slot

module _ (d : Document) (mem : List ℕ) (s : ℕ) (b : s < slots_made d) where
  -- a live slot's generation is of 32 bits
  pub generation-narrow : (g : ℕ) → g ≡ generation_at d.limits.nodes (slots_part d mem) s → live_slot (decode d mem) s ≡ true → g < 4294967296
  generation-narrow g k l = go (dec_lt g 4294967296)
    where
      go : Dec (g < 4294967296) → g < 4294967296
      go (yes h) = h
      go (no h) = absurd (true≢false (sym l ∙ sym (live-wide d mem s b g k (omega arith))))

  entry-live : live_slot (decode d mem) s ≡ true → live_entry (decode d mem) s ≡ handle_at (decode d mem) s ∷ []
  unfolding live_entry
  entry-live e = rw e

  entry-none : live_slot (decode d mem) s ≡ false → live_entry (decode d mem) s ≡ []
  unfolding live_entry
  entry-none e = rw e

  module _ (o : List ℕ) (count : ℕ) where
    put-none : live_entry (decode d mem) s ≡ [] → (count ≡ count + length (live_entry (decode d mem) s)) × (o ≡ put count (live_entry (decode d mem) s) o)
    put-none e = (rw e (sym (add-zero count)), rw e (sym (put-nil o count [])))

    module _ (t : Bool) (q : t ≡ live_slot (decode d mem) s) where
      pub slot-none : t ≡ false → (count ≡ count + length (live_entry (decode d mem) s)) × (o ≡ put count (live_entry (decode d mem) s) o)
      slot-none e = put-none (entry-none (sym q ∙ e))

      pub slot-live : t ≡ true → (g : ℕ) → g ≡ generation_at d.limits.nodes (slots_part d mem) s → count < length o
          → (count + 1 ≡ count + length (live_entry (decode d mem) s)) × (set o count (s + g * 4294967296) ≡ put count (live_entry (decode d mem) s) o)
      slot-live e g k f =
          let w : live_entry (decode d mem) s ≡ (s + g * 4294967296) ∷ [] =
          entry-live (sym q ∙ e)
          ∙ ap (λ (x : ℕ). x ∷ []) (handle-in (pool_in d mem) (names_in d mem) (lengths_add d mem) d mem s b ∙ ap (λ (x : ℕ). s + x * 4294967296) (sym k)) in
          (rw w refl, set-put o count (s + g * 4294967296) f ∙ ap (λ (r : List ℕ). put count r o) (sym w))

-- ---- the slots below a number

abbrev pub live_below : Doc → ℕ → List ℕ
live_below d n = joined (live_entry d) (tabulate (λ i. i) n)

module _ (d : Doc) where
  below_next : (k : ℕ) → live_below d (k + 1) ≡ live_below d k ++ live_entry d k
  below_next k =
      ap (live_below d) (add-one k)
      ∙ joined-append (live_entry d) (tabulate (λ i. i) k) (k ∷ [])
      ∙ ap (λ (r : List ℕ). live_below d k ++ r) (append-nil (live_entry d k))

  entry-short : (i : ℕ) → length (live_entry d i) ≤ 1
  unfolding live_entry
  entry-short i = go (live_slot d i)
    where
      go : (t : Bool) → length (cond t (handle_at d i ∷ []) []) ≤ 1
      go true = omega arith
      go false = omega arith

  pub below-short : (k : ℕ) → length (live_below d k) ≤ k
  below-short zero = omega arith
  below-short (suc k) =
      let e = ap length (joined-append (live_entry d) (tabulate (λ i. i) k) (k ∷ [])) in
      omega (arith, e, below-short k, entry-short k, length-append (live_below d k) (live_entry d k ++ []), length-append (live_entry d k) [])

  module _ (l : List ℕ) where
    -- the invariant of the loop, at its start and a turn on
    pub below-start : (0 ≡ length (live_below d 0)) × (l ≡ put 0 (live_below d 0) l)
    below-start = (refl, sym (put-nil l 0 []))

    pub below-turn : (k count count' : ℕ) (m m' : List ℕ) → k < length l → count ≡ length (live_below d k) → m ≡ put 0 (live_below d k) l
        → count' ≡ count + length (live_entry d k) → m' ≡ put count (live_entry d k) m
        → (count' ≡ length (live_below d (k + 1))) × (m' ≡ put 0 (live_below d (k + 1)) l)
    below-turn k count count' m m' h c e q r =
        let vs = live_below d k in
        let ws = live_entry d k in
        let n = below_next k in (
          q ∙ ap (λ (i : ℕ). i + length ws) c ∙ sym (length-append vs ws) ∙ ap length (sym n),
          r
              ∙ ap (λ (i : ℕ). put i ws m) c
              ∙ ap (put (length vs) ws) e
              ∙ put-append l vs ws (omega (arith, below-short k, entry-short k))
              ∙ ap (λ (x : List ℕ). put 0 x l) (sym n),
        )

module _ (d : Document) (mem : List ℕ) where
  all-below : live_nodes (decode d mem) ≡ live_below (decode d mem) (slots_made d)
  unfolding live_entry
  all-below = ap (live_below (decode d mem)) (length-gens (pool_in d mem) (names_in d mem) (lengths_add d mem) d mem)

  pub below_all : (k made count : ℕ) (l m : List ℕ) → made ≡ slots_made d → made ≤ k → k ≤ made → count ≡ length (live_below (decode d mem) k) → m ≡ put 0 (live_below (decode d mem) k) l
      → (count ≡ length (live_nodes (decode d mem))) × (m ≡ put 0 (live_nodes (decode d mem)) l)
  below_all k made count l m u h f c e =
      let q : k ≡ slots_made d = omega arith in
      let n = ap (live_below (decode d mem)) q ∙ sym all-below in
      (c ∙ ap length n, e ∙ ap (λ (x : List ℕ). put 0 x l) n)

  nodes-short : length (live_nodes (decode d mem)) ≤ d.limits.nodes
  nodes-short = omega (arith, ap length all-below, below-short (decode d mem) (slots_made d))

  -- ---- the call
  module _ (out : List ℕ) where
    nodes-room : nodes_ok d mem out ≡ true → d.limits.nodes ≤ length out
    nodes-room y = leb-true _ _ (and_right (memory_ok d (length mem)) (leb d.limits.nodes (length out)) y)

    pub nodes-written : (after : List ℕ) → nodes_ok d mem out ≡ true → (n : ℕ) → (n ≡ length (live_nodes (decode d mem))) × (after ≡ put 0 (live_nodes (decode d mem)) out) → NodesRead d mem out after (Ok n)
    unfolding part
    nodes-written after y n q =
        let L = live_nodes (decode d mem) in
        let room = nodes-room y in
        let front : take n after ≡ L = rw (q.0, q.1) (part-put-same out 0 L (omega arith)) in
        record {
          answer = ap every_node front ∙ sym (rw y);
          buffer = q.1 ∙ sym (rw y);
        }
