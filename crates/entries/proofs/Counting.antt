-- What the functions that test and count the entries cite, over plain values.
-- Assumes nothing.
use mathlib.Core.Path.{◌≡◌, refl, sym, ap, ◌∙◌, subst}
use mathlib.Core.Bool.{Bool, true, false, cond, false≢true}
use mathlib.Core.List.{List, [], ◌∷◌, ◌++◌, map}
use Prim.Native.Nat.{ℕ, ◌+◌, ◌*◌, ◌%◌, ◌≤◌, ◌<◌, max}
use native.Mathlib.Decide.{ℕ_discrete}
use native.Mathlib.Omega.{arith}
use lib.ListN.{length, get_or, set, replicate}
use lib.Dec.{eqb}
use borrow.Author.Tests.{ne_eqb}
use Rattle.words.specs.Parts.{part}
use Rattle.words.specs.Lists.{all, all_below}
use Rattle.blocks.specs.Arena.{block, cap_of}
use Rattle.records.specs.Handles.{handle_index}
use Rattle.model.specs.Kinds.{Which, children, attributes, namespaces}
use Rattle.model.specs.Doc.{Doc, live_slot, handle_at, parent_in, range_in}
use Rattle.model.specs.Rules.{block_in, Blocks}
use Rattle.model.specs.RulesTest.{implies, all_option, all_which, parents_hold, entries_hold, blocks_hold}
use Rattle.laws.proofs.RulesTestEntries.{parents-of-test}
use Rattle.laws.proofs.RulesTestBlocks.{blocks-of-test}
use Rattle.layout.specs.declared.Document.{Document}
use Rattle.layout.specs.Layout.{entries_of, limits_of, arena_at, memory_ok}
use Rattle.memory.specs.Decode.{slots_made}
use Rattle.memory.proofs.Columns as columns
use Rattle.layout.proofs.Sizes.{sizes}
use Rattle.memory.proofs.Reading.{entries-read}
use Rattle.memory.proofs.Shaped.{length_ids, shape}
use Rattle.entries.specs.Nodes.{no_texts, decode_nodes, words_hold, record_word, block_at}
use Rattle.entries.specs.Marks.{raised, Counted, Pass, Adds, gathered}
use Rattle.entries.specs.Entering.{list_number, enters, entries_in, entries_enter, slots_entered, lists_enter, slots_named, words_enter, marked_once}
use Rattle.entries.proofs.Lists.{gathered-map, all_below-all, all_same}
use Rattle.entries.proofs.Marks.{counted_none, adds_none, adds_then, adds_one, Passing}
use Rattle.entries.proofs.Entering.{entries-no, entries-yes}
use Rattle.entries.proofs.Words.{live-below, record-word, block-word, block-at-below}
use Rattle.entries.proofs.EntryWords.{entry-below, words-enter}

-- ---- an entry is counted

module _ (nodes made : ℕ) (mem : List ℕ) (list owner entry : ℕ) (t : Bool) (marks : List ℕ) (q : t ≡ words_enter nodes made mem list owner entry) where
  pub entry-marked : made ≤ length marks → t ≡ true → entry % 4294967296 < length marks
  entry-marked h y =
      let b = entry-below nodes made mem list owner entry (sym q ∙ y) in
      omega arith

  pub entry-counted : made ≤ length marks → t ≡ true → (after : List ℕ) → after ≡ set marks (entry % 4294967296) (raised (get_or marks (entry % 4294967296) 0))
      → Pass made (words_enter nodes made mem list owner entry) (handle_index entry ∷ []) marks after true
  entry-counted h y after a = record {
    answer = sym y ∙ q;
    counts = λ _. subst (λ (l : List ℕ). Adds made (handle_index entry ∷ []) marks l) (sym a) (adds_one made marks (handle_index entry) (entry-marked h y));
  }

-- ---- the entries of a block, one by one

module _ (made : ℕ) (q : ℕ → Bool) (entries before : List ℕ) where
  abbrev pub Blocking : List ℕ → ℕ → Type 0
  Blocking marks k =
      Passing made (length entries) (λ i. q (get_or entries i 0)) (λ i. handle_index (get_or entries i 0) ∷ []) before marks k

  pub block-of : (m : List ℕ) (r : Bool) → Pass made (all_below (λ i. q (get_or entries i 0)) (length entries)) (gathered (λ i. handle_index (get_or entries i 0) ∷ []) (length entries)) before m r
      → Pass made (all q entries) (map handle_index entries) before m r
  block-of m r p = rw (← all_below-all q entries 0, ← gathered-map handle_index entries 0) p

-- ---- the list of a slot

-- rule 5: the block lies inside its arena
block-inside : (D : Doc) → Blocks D → (w : Which) (s : ℕ) → live_slot D s ≡ true → (range_in D w s).start + (range_in D w s).len ≤ length (D.arenas w).ids
block-inside D B w s l =
    let i = ((B w).inside s).below in
    let e : block_in D w s ≡ range_in D w s = rw l in
    let f : (range_in D w s).start + cap_of (D.arenas w) (range_in D w s) ≤ (D.arenas w).used = rw e at i in
    omega (arith, within (range_in D w s).len (get_or (D.arenas w).caps (range_in D w s).start 0), (B w).shaped.fits)
  where
    within : (n c : ℕ) → n ≤ cond (eqb n 0) 0 (max n c)
    within n c = go (ℕ_discrete n 0)
      where
        go : Dec (n ≡ 0) → n ≤ cond (eqb n 0) 0 (max n c)
        go (yes e) = omega arith
        go (no e) = rw (ne_eqb n 0 e) (omega arith)

module _ (d : Document) (mem : List ℕ) (s : ℕ) (ok : memory_ok d (length mem) ≡ true) (l : live_slot (decode_nodes d mem) s ≡ true) (a : Which) where
  abbrev n : ℕ
  n = d.limits.nodes

  abbrev D : Doc
  D = decode_nodes d mem

  -- where its block stands in the memory
  abbrev at : ℕ
  at = n * 2 + s * 12 + block_at a

  block_read : block (get_or mem at 0) (get_or mem (at + 1) 0) ≡ range_in D a s
  block_read =
      let b = block-at-below a in
      let e : n * 2 + s * 12 + (block_at a + 1) ≡ at + 1 = omega arith in
      let p = record-word d mem s (block_at a) (live-below d mem s l) (omega arith) in
      let q : get_or mem (at + 1) 0 ≡ record_word d mem s (block_at a + 1) =
      ap (λ (i : ℕ). get_or mem i 0) (sym e) ∙ record-word d mem s (block_at a + 1) (live-below d mem s l) b in
      rw (p, q) (block-word d mem s l a)

  module _ (h : blocks_hold (decode_nodes d mem) ≡ true) (first : ℕ) (f : first ≡ arena_at (limits_of d.limits) a) where
    inside-arena : get_or mem at 0 + get_or mem (at + 1) 0 ≤ entries_of d.limits a
    inside-arena =
        let i = block-inside D (blocks-of-test D (shape no_texts [] true d mem ok) h) a s l in
        omega (arith, rw (sym block_read) at i, length_ids d mem ok a)

    -- what the function that reads it asks
    pub list_inside : (at + 1 < length mem) × (first + get_or mem at 0 + get_or mem (at + 1) 0 ≤ length mem)
    list_inside =
        let z = sizes d (length mem) ok in
        let b = block-at-below a in
        let m = live-below d mem s l in
        (omega (arith, z.slots), omega (arith, inside-arena, z.arena a))

    entries-here : part (first + get_or mem at 0) (get_or mem (at + 1) 0) mem ≡ entries_in D a s
    unfolding entries_in
    entries-here =
        rw (l, ← block_read) (sym (entries-read d a mem first (get_or mem at 0) (get_or mem (at + 1) 0) f inside-arena))

    pub list-passed : words_hold d mem ≡ true → (m owner : ℕ) → m ≡ slots_made d → owner ≡ handle_at (decode_nodes d mem) s → (before after : List ℕ) (u : Bool)
        → Pass m (all (words_enter d.limits.nodes m mem (list_number a) owner) (part (first + get_or mem at 0) (get_or mem (at + 1) 0) mem)) (map handle_index (part (first + get_or mem at 0) (get_or mem (at + 1) 0) mem)) before after u
        → Pass (slots_made d) (entries_enter (decode_nodes d mem) a s) (slots_entered (decode_nodes d mem) a s) before after u
    unfolding entries_enter slots_entered
    list-passed words m owner em eo before after u p =
        let q : all (words_enter n (slots_made d) mem (list_number a) (handle_at D s)) (entries_in D a s) ≡ all (enters D a (handle_at D s)) (entries_in D a s) =
        all_same (words_enter n (slots_made d) mem (list_number a) (handle_at D s)) (enters D a (handle_at D s)) (entries_in D a s) (λ x. words-enter d mem words a (handle_at D s) x) in
        subst (λ (t : Bool). Pass (slots_made d) t (map handle_index (entries_in D a s)) before after u) q (rw (em, eo, entries-here) at p)

-- ---- the three lists of a slot, one after another

module _ (D : Doc) (made i : ℕ) (before a : List ℕ) (t : Bool) where
  pub first-refused : Pass made (entries_enter D children i) (slots_entered D children i) before a t → t ≡ false → Pass made (lists_enter D i) (slots_named D i) before a false
  unfolding lists_enter all_which
  first-refused p e = record { answer = rw (← p.answer, e); counts = λ z. absurd (false≢true z) }

  module _ (p : Pass made (entries_enter D children i) (slots_entered D children i) before a t) (y : t ≡ true) (b : List ℕ) (u : Bool)
      (q : Pass made (entries_enter D attributes i) (slots_entered D attributes i) a b u) where
    pub second-refused : u ≡ false → Pass made (lists_enter D i) (slots_named D i) before b false
    unfolding lists_enter all_which
    second-refused e = record { answer = rw (← p.answer, y, ← q.answer, e); counts = λ z. absurd (false≢true z) }

    pub third : u ≡ true → (c : List ℕ) (v : Bool) → Pass made (entries_enter D namespaces i) (slots_entered D namespaces i) b c v
        → Pass made (lists_enter D i) (slots_named D i) before c v
    unfolding lists_enter all_which slots_named
    third z c v r = record {
      answer = rw (← p.answer, y, ← q.answer, z) r.answer;
      counts = λ g. adds_then made (slots_entered D children i) (slots_entered D attributes i ++ slots_entered D namespaces i) before a c (p.counts y)
          (adds_then made (slots_entered D attributes i) (slots_entered D namespaces i) a b c (q.counts z) (r.counts g));
    }

-- a free slot has no lists
pub lists-none : (D : Doc) (made i : ℕ) (before : List ℕ) (t : Bool) → t ≡ live_slot D i → t ≡ false → Pass made (lists_enter D i) (slots_named D i) before before true
unfolding entries_in entries_enter slots_entered lists_enter all_which slots_named
lists-none D made i before t f n = rw (sym f ∙ n) (record { answer = refl; counts = λ _. adds_none made before })

-- ---- each live node with a parent once

pub marked-is : (D : Doc) (marks : List ℕ) (i : ℕ) (r : Bool) → r ≡ implies (live_slot D i) (all_option (λ _. eqb (get_or marks i 0) 1) (parent_in D i)) → r ≡ marked_once D marks i
unfolding marked_once
marked-is D marks i r e = e

-- ---- rule 4

module _ (d : Document) (mem marks after : List ℕ) (t : Bool)
    (p : Pass (slots_made d) (all_below (lists_enter (decode_nodes d mem)) (slots_made d)) (gathered (slots_named (decode_nodes d mem)) (slots_made d)) marks after t) where
  slots-made : slots_made d ≡ length (decode_nodes d mem).gens
  slots-made = sym (columns.length-gens no_texts [] true d mem)

  pub rule-refused : t ≡ false → false ≡ entries_hold (decode_nodes d mem)
  rule-refused e = entries-no (decode_nodes d mem) t (subst (λ (k : ℕ). t ≡ all_below (lists_enter (decode_nodes d mem)) k) slots-made p.answer) e

  pub rule-decided : t ≡ true → memory_ok d (length mem) ≡ true → parents_hold (decode_nodes d mem) ≡ true → slots_made d ≤ length marks → marks ≡ replicate (length marks) 0
      → (r : Bool) → r ≡ all_below (marked_once (decode_nodes d mem) after) (slots_made d) → r ≡ entries_hold (decode_nodes d mem)
  rule-decided e ok h l z r q =
      entries-yes (decode_nodes d mem) small (parents-of-test (decode_nodes d mem) h) after t r
      (subst (λ (k : ℕ). t ≡ all_below (lists_enter (decode_nodes d mem)) k) slots-made p.answer)
      e
      (subst (λ (k : ℕ). Counted k (gathered (slots_named (decode_nodes d mem)) k) after) slots-made ((p.counts e).adds [] (counted_none (slots_made d) marks l z)))
      (subst (λ (k : ℕ). r ≡ all_below (marked_once (decode_nodes d mem) after) k) slots-made q)
    where
      small : length (decode_nodes d mem).gens ≤ 4294967296
      small = omega (arith, slots-made, (sizes d (length mem) ok).nodes)
