-- The words of a slot where rule 1 holds of them, and what the document without its texts and names has there.
-- Assumes nothing.
use Rattle.std.specs.Prelude.{Some}
use mathlib.Core.Path.{◌≡◌, sym, ap, ◌∙◌}
use mathlib.Core.Bool.{Bool, true}
use mathlib.Core.List.{List, []}
use Prim.Native.Nat.{ℕ, ◌%◌, ◌<◌}
use native.Mathlib.Omega.{arith}
use native.Mathlib.Decide.{ℕ_discrete}
use lib.ListN.{length, get_or}
use lib.Dec.{eqb}
use borrow.Author.Tests.{lt-ltb, ne_eqb}
use Rattle.words.proofs.Tests.{and_left}
use Rattle.records.specs.Records.{found_node}
use Rattle.slots.specs.Regions.{generation_at, record_at, node_at}
use Rattle.records.specs.Handles.{handle_index, handle_generation}
use Rattle.records.proofs.Records.{is-node-found}
use Rattle.slots.proofs.WordsRule.{words-rule-of}
use Rattle.model.specs.Doc as doc
use Rattle.model.specs.Doc.{Doc, handle_word, handle_at, live_slot, resolves}
use Rattle.layout.specs.declared.Document.{Document}
use Rattle.layout.specs.Layout.{memory_ok}
use Rattle.memory.specs.Decode.{loaded_at, slots_part, slots_made}
use Rattle.layout.proofs.Sizes.{sizes}
use Rattle.memory.proofs.Columns as columns
pub use Rattle.memory.proofs.Words.{generation-word, record-word, live-below, kind-word, name-word, first-narrow, first_word, second-narrow, second_word, parent-narrow, parent-word, block-word, block_read, block-at-below}
use Rattle.entries.specs.Nodes.{no_texts, decode_nodes, words_hold}

module _ (d : Document) (mem : List ℕ) where
  abbrev n : ℕ
  n = d.limits.nodes

  abbrev w : List ℕ
  w = slots_part d mem

  abbrev D : Doc
  D = decode_nodes d mem

  -- ---- live slots

  pub live-word : (s g : ℕ) → words_hold d mem ≡ true → s < slots_made d → g ≡ get_or mem s 0 → eqb (g % 2) 0 ≡ live_slot (decode_nodes d mem) s
  unfolding node_at
  live-word s g h b e = go (ℕ_discrete (generation_at n w s % 2) 0)
    where
      same : g ≡ generation_at n w s
      same = e ∙ generation-word d mem s (omega arith)

      go : Dec (generation_at n w s % 2 ≡ 0) → eqb (g % 2) 0 ≡ live_slot D s
      go (yes v) =
          let r = words-rule-of n w (slots_made d) h in
          let f : loaded_at n w s ≡ Some (found_node (record_at n w s)) =
          rw (lt-ltb (generation_at n w s) 4294967296 (r.generation s b)) (is-node-found (record_at n w s) (r.node s b v)) in
          rw same (sym (columns.live-found no_texts [] true d mem s b (found_node (record_at n w s)) f))
      go (no v) =
          rw same (ne_eqb (generation_at n w s % 2) 0 v ∙ sym (columns.live-in no_texts [] true d mem s b ∙ rw (ne_eqb (generation_at n w s % 2) 0 v)))

-- the number of a live slot is of 32 bits
pub live-narrow : (d : Document) (mem : List ℕ) → memory_ok d (length mem) ≡ true → (s : ℕ) → live_slot (decode_nodes d mem) s ≡ true → s < 4294967296
live-narrow d mem ok s l = omega (arith, live-below d mem s l, (sizes d (length mem) ok).nodes)

-- the node of a handle that resolves is live
-- where a live slot lies
pub ruleset live_slots = (live-below, live-narrow)

pub current-live : (D : Doc) (handle : ℕ) (t : Bool) → t ≡ resolves D handle → t ≡ true → live_slot D (handle % 4294967296) ≡ true
current-live D handle t e y = and_left (live_slot D (handle_index handle)) (eqb (doc.generation_at D (handle_index handle)) (handle_generation handle)) (sym e ∙ y)

-- the handle of a slot
pub record HandleRead (d : Document) (mem : List ℕ) (s : ℕ) : Type 0 where
  pub narrow-generation : get_or mem s 0 < 4294967296
  pub is-handle : handle_word s (get_or mem s 0) ≡ handle_at (decode_nodes d mem) s

pub handle-read : (d : Document) (mem : List ℕ) (s : ℕ) → words_hold d mem ≡ true → s < slots_made d → HandleRead d mem s
handle-read d mem s h b =
    let e = generation-word d mem s (omega arith) in
    record {
      narrow-generation = omega (arith, e, (words-rule-of d.limits.nodes (slots_part d mem) (slots_made d) h).generation s b);
      is-handle = ap (handle_word s) (e ∙ sym (columns.generation-in no_texts [] true d mem s b));
    }
