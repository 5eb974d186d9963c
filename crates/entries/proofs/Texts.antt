-- Rule 8: where the counts are within the limits, what the layers of texts and names say of themselves and the marks decide it.
-- Assumes nothing.
use mathlib.Core.Path.{◌≡◌, refl, sym, ap, ◌∙◌}
use mathlib.Core.Bool.{Bool, true, false, ◌&&◌, cond, and-false}
use mathlib.Core.List.{List, [], reverse}
use Prim.Native.Nat.{ℕ, ◌+◌, ◌≤◌, ◌<◌, min}
use native.Mathlib.Decide.{ℕ_discrete, dec_lt}
use native.Mathlib.Omega.{arith}
use lib.ListN.{length, get_or, take, get_or-eq_default}
use lib.Seq.{length-take-le}
use Rattle.std.proofs.lemmas.List.{get_or-take}
use lib.Dec.{eqb, ltb}
use borrow.Author.Tests.{eq-eqb, ne_eqb, ltb-true, le-ltb, le-leb}
use Rattle.words.specs.Parts.{part}
use Rattle.words.specs.Lists.{count_of, all, all_below}
use Rattle.words.specs.Ends.{start_of, length_of}
use Rattle.words.proofs.Parts.{length_part}
use Rattle.words.proofs.Lists.{length-tabulate, get_or-tabulate, all_below-same}
use Rattle.words.proofs.Tests.{and_left, and_right, eqb_same}
use Rattle.texts.specs.Words as pool
use Rattle.texts.specs.Words.{text_shown, free_ok, pool_ok, Markable, marked}
use Rattle.texts.proofs.Lists.{count_of-reverse, marked-at, get_or-count, all-count}
use Rattle.texts.proofs.Words.{shown-text, text-end, text-length}
use Rattle.names.specs.Words.{table_ok}
use Rattle.names.proofs.Words.{within-ends}
use Rattle.model.specs.Kinds.{names_of, texts_of}
use Rattle.model.specs.Doc.{Doc, live_slot, kind_in}
use Rattle.model.specs.Rules.{held, held_in, slots_held}
use Rattle.model.specs.RulesTest.{implies, all_live, texts_hold}
use Rattle.layout.specs.declared.Document.{Document}
use Rattle.layout.specs.Layout.{limits_of, memory_ok}
use Rattle.memory.specs.Decode.{slots_made, counts_within, text_limits, text_counts, name_limits, name_counts, texts_part, names_part, pool_in, names_in, texts_add, names_add, lengths_add, decode}
use Rattle.layout.proofs.Sizes.{limits-fit, memory-limits}
use Rattle.memory.proofs.Counted.{CountsFit, counts-fit}
use Rattle.memory.proofs.Columns as columns
use Rattle.memory.proofs.Shown.{names-shown}
use Rattle.memory.proofs.PoolAndTable.{texts-length}
use Rattle.entries.specs.Nodes.{no_texts, decode_nodes}
use Rattle.entries.specs.Marks.{Counted, gathered}
use Rattle.entries.specs.Fields.{slots_inside, names_inside, fields_hold, marked_one, slots_once, pool_holds}
use Rattle.std.specs.List.{list_all}
use Rattle.entries.proofs.Lists.{all-listed, all_below-all, and_comm, all_below-and, all_same, all-gathered, all-reverse}

pub length-texts : (d : Document) (mem : List ℕ) → memory_ok d (length mem) ≡ true → length (texts_part d mem) ≡ d.limits.texts + d.limits.texts + d.limits.textbytes
length-texts d mem ok = texts-length d mem (text_limits d) (texts_part d mem) refl refl ok

-- ---- the marks

pub marked-all : (marks : List ℕ) (texts : ℕ) → texts ≤ length marks → list_all (λ m. eqb m 1) (take texts marks) ≡ all_below (marked_one marks) texts
unfolding marked_one
marked-all marks texts h =
    let size : length (take texts marks) ≡ texts = length-take-le texts marks h in
    all-listed (λ m. eqb m 1) (take texts marks)
    ∙ sym (all_below-all (λ m. eqb m 1) (take texts marks) 0)
    ∙ ap (all_below (λ s. eqb (get_or (take texts marks) s 0) 1)) size
    ∙ all_below-same (λ s. eqb (get_or (take texts marks) s 0) 1) (λ s. eqb (get_or marks s 0) 1) texts (λ s b. ap (λ (m : ℕ). eqb m 1) (get_or-take texts marks s 0 b))

both_told : (h f : ℕ) → eqb (min 2 h + f) 1 ≡ eqb (h + f) 1
both_told h f = go (ℕ_discrete (h + f) 1)
  where
    go : Dec (h + f ≡ 1) → eqb (min 2 h + f) 1 ≡ eqb (h + f) 1
    go (yes e) = eq-eqb (min 2 h + f) 1 (omega arith) ∙ sym (eq-eqb (h + f) 1 e)
    go (no n) = ne_eqb (min 2 h + f) 1 (λ q. n (omega arith)) ∙ sym (ne_eqb (h + f) 1 n)

-- ---- counting the free list behind the fields

module _ (D : Doc) (texts n : ℕ) (m : List ℕ) (size : length m ≡ texts) (counted : Counted texts (gathered (held_in D) n) m) where
  small-mark : (s : ℕ) → get_or m s 0 ≤ 2
  small-mark s = go (dec_lt s texts)
    where
      go : Dec (s < texts) → get_or m s 0 ≤ 2
      go (yes b) = omega (arith, counted.mark s b)
      go (no b) = omega (arith, get_or-eq_default m 0 {n = s} (omega arith))

  markable : (words free : List ℕ) → all (free_ok texts words) free ≡ true → length free ≤ 131072 → Markable free m
  markable words free h k = record {
    inside = λ i q.
        let y = all-count (free_ok texts words) free (get_or free i 0) h (get_or-count free i q) in
        let w = ltb-true (get_or free i 0) texts (and_left (ltb (get_or free i 0) texts) (eqb (get_or words (get_or free i 0) 0) (start_of words (get_or free i 0))) y) in
        omega arith;
    small = λ s. omega (arith, small-mark s);
  }

  pub slots-decided : (after free : List ℕ) (r : Bool) → after ≡ marked free m → r ≡ all_below (marked_one after) texts → r ≡ slots_once texts D n free
  unfolding marked_one slots_once
  slots-decided after free r q g =
      g
      ∙ all_below-same (λ s. eqb (get_or after s 0) 1) (λ s. eqb (count_of (eqb s) (gathered (held_in D) n) + count_of (eqb s) free) 1) texts
      (λ s i.
      ap (λ (a : List ℕ). eqb (get_or a s 0) 1) q
      ∙ ap (λ (k : ℕ). eqb k 1) (marked-at free m s (omega arith))
      ∙ ap (λ (k : ℕ). eqb (k + count_of (eqb s) free) 1) (counted.mark s i)
      ∙ both_told (count_of (eqb s) (gathered (held_in D) n)) (count_of (eqb s) free))

-- ---- what the layers say, in the document's words

module _ (d : Document) (mem : List ℕ) (ok : memory_ok d (length mem) ≡ true) (within : counts_within (limits_of d.limits) d.counts ≡ true) where
  fit : CountsFit (limits_of d.limits) d.counts
  fit = counts-fit (limits_of d.limits) d.counts within

  abbrev stack : List ℕ
  stack = part d.limits.texts d.counts.freetexts (texts_part d mem)

  pool-is : pool_ok (text_limits d) (text_counts d) (texts_part d mem) ≡ (texts_add d mem && all (free_ok d.counts.texts (texts_part d mem)) stack)
  unfolding pool_ok
  pool-is =
      rw (
        le-leb d.counts.texts d.limits.texts fit.texts,
        le-leb d.counts.freetexts d.limits.texts fit.free-texts,
        le-leb d.counts.textbytes d.limits.textbytes fit.text-bytes,
      )

  table_is : table_ok (name_limits d) (name_counts d) (names_part d mem) ≡ names_add d mem
  table_is = within-ends (name_limits d) (name_counts d) (names_part d mem) fit.names fit.name-bytes

  texts-made : length (pool_in d mem).texts ≡ d.counts.texts
  texts-made =
      length-tabulate (λ s. text_shown (text_limits d) (text_counts d) s (texts_part d mem)) (min d.counts.texts d.limits.texts)
      ∙ omega (arith, fit.texts)

  free-made : (pool_in d mem).free ≡ reverse stack
  free-made =
      let e : min d.counts.freetexts d.limits.texts ≡ d.counts.freetexts = omega (arith, fit.free-texts) in
      ap (λ (k : ℕ). reverse (part d.limits.texts k (texts_part d mem))) e

  module _ (h : texts_add d mem ≡ true) where
    counts-held : pool.Counted (text_limits d) (text_counts d) (texts_part d mem)
    counts-held = record { size = length-texts d mem ok; slots = fit.texts; free = fit.free-texts; bytes = fit.text-bytes; ends = h }

    shown-length : (s : ℕ) → s < d.counts.texts → length (get_or (pool_in d mem).texts s []) ≡ length_of (texts_part d mem) s
    shown-length s b =
        ap length
        (get_or-tabulate (λ s. text_shown (text_limits d) (text_counts d) s (texts_part d mem)) (min d.counts.texts d.limits.texts) s [] (omega (arith, fit.texts))
        ∙ shown-text (text_limits d) (text_counts d) (texts_part d mem) counts-held s)
        ∙ text-length (text_limits d) (text_counts d) (texts_part d mem) counts-held s b

    free-is : all (λ s. ltb s (length (pool_in d mem).texts) && eqb (length (get_or (pool_in d mem).texts s [])) 0) (pool_in d mem).free
        ≡ all (free_ok d.counts.texts (texts_part d mem)) stack
    free-is =
        ap (all (λ s. ltb s (length (pool_in d mem).texts) && eqb (length (get_or (pool_in d mem).texts s [])) 0)) free-made
        ∙ all-reverse (λ s. ltb s (length (pool_in d mem).texts) && eqb (length (get_or (pool_in d mem).texts s [])) 0) stack
        ∙ all_same (λ s. ltb s (length (pool_in d mem).texts) && eqb (length (get_or (pool_in d mem).texts s [])) 0) (free_ok d.counts.texts (texts_part d mem)) stack
        (λ s. ap (λ (n : ℕ). ltb s n && eqb (length (get_or (pool_in d mem).texts s [])) 0) texts-made ∙ go s (dec_lt s d.counts.texts))
      where
        go : (s : ℕ) → Dec (s < d.counts.texts)
            → (ltb s d.counts.texts && eqb (length (get_or (pool_in d mem).texts s [])) 0) ≡ (ltb s d.counts.texts && eqb (get_or (texts_part d mem) s 0) (start_of (texts_part d mem) s))
        go s (yes b) =
            let e = text-end (text_limits d) (text_counts d) (texts_part d mem) counts-held s b in
            ap (λ (t : Bool). ltb s d.counts.texts && t)
            (eqb_same (length (get_or (pool_in d mem).texts s [])) 0 (get_or (texts_part d mem) s 0) (start_of (texts_part d mem) s)
            (λ q. omega (arith, shown-length s b))
            (λ q. omega (arith, shown-length s b)))
        go s (no b) = rw (le-ltb s d.counts.texts (omega arith))

  names-made : length (names_in d mem) ≡ d.counts.names
  names-made = names-shown d mem ∙ omega (arith, fit.names)

  -- ---- the parts of the test

  slots-made : length (decode_nodes d mem).gens ≡ slots_made d
  slots-made = columns.length-gens no_texts [] true d mem

  -- each text slot once
  once_is : all_below (λ s. eqb (count_of (eqb s) (held (decode d mem)) + count_of (eqb s) (pool_in d mem).free) 1) (length (pool_in d mem).texts)
      ≡ slots_once d.counts.texts (decode_nodes d mem) (slots_made d) stack
  unfolding slots_once
  once_is =
      ap (all_below (λ s. eqb (count_of (eqb s) (held (decode d mem)) + count_of (eqb s) (pool_in d mem).free) 1)) texts-made
      ∙ all_below-same (λ s. eqb (count_of (eqb s) (held (decode d mem)) + count_of (eqb s) (pool_in d mem).free) 1)
      (λ s. eqb (count_of (eqb s) (gathered (held_in (decode_nodes d mem)) (slots_made d)) + count_of (eqb s) stack) 1)
      d.counts.texts
      (λ s b.
      ap (λ (n : ℕ). eqb (count_of (eqb s) (gathered (held_in (decode_nodes d mem)) n) + count_of (eqb s) (pool_in d mem).free) 1) slots-made
      ∙ ap (λ (k : ℕ). eqb (count_of (eqb s) (gathered (held_in (decode_nodes d mem)) (slots_made d)) + k) 1) (ap (count_of (eqb s)) free-made ∙ count_of-reverse (eqb s) stack))

  -- the text slots of the fields
  inside_is : all (λ s. ltb s (length (pool_in d mem).texts)) (held (decode d mem)) ≡ all_below (λ i. slots_inside d.counts.texts (held_in (decode_nodes d mem) i)) (slots_made d)
  unfolding slots_inside
  inside_is =
      ap (λ (n : ℕ). all (λ s. ltb s n) (held (decode d mem))) texts-made
      ∙ ap (λ (n : ℕ). all (λ s. ltb s d.counts.texts) (gathered (held_in (decode_nodes d mem)) n)) slots-made
      ∙ all-gathered (λ s. ltb s d.counts.texts) (held_in (decode_nodes d mem)) (slots_made d)

  -- their name numbers
  names-is : all_live (decode d mem) (λ i. all (λ n. ltb n (length (names_in d mem))) (names_of (kind_in (decode d mem) i)))
      ≡ all_below (λ i. implies (live_slot (decode_nodes d mem) i) (names_inside d.counts.names (kind_in (decode_nodes d mem) i))) (slots_made d)
  unfolding all_live names_inside
  names-is =
      ap (all_below (λ i. implies (live_slot (decode d mem) i) (all (λ n. ltb n (length (names_in d mem))) (names_of (kind_in (decode d mem) i))))) slots-made
      ∙ ap (λ (k : ℕ). all_below (λ i. implies (live_slot (decode_nodes d mem) i) (all (λ n. ltb n k) (names_of (kind_in (decode_nodes d mem) i)))) (slots_made d)) names-made

  fields-are : all_below (fields_hold d.counts.texts d.counts.names (decode_nodes d mem)) (slots_made d)
      ≡ (all_below (λ i. slots_inside d.counts.texts (held_in (decode_nodes d mem) i)) (slots_made d)
      && all_below (λ i. implies (live_slot (decode_nodes d mem) i) (names_inside d.counts.names (kind_in (decode_nodes d mem) i))) (slots_made d))
  unfolding fields_hold slots_inside
  fields-are =
      all_below-same (fields_hold d.counts.texts d.counts.names (decode_nodes d mem))
      (λ i. slots_inside d.counts.texts (held_in (decode_nodes d mem) i) && implies (live_slot (decode_nodes d mem) i) (names_inside d.counts.names (kind_in (decode_nodes d mem) i)))
      (slots_made d) (λ i b. go i (live_slot (decode_nodes d mem) i))
      ∙ all_below-and (λ i. slots_inside d.counts.texts (held_in (decode_nodes d mem) i)) (λ i. implies (live_slot (decode_nodes d mem) i) (names_inside d.counts.names (kind_in (decode_nodes d mem) i))) (slots_made d)
    where
      go : (i : ℕ) (l : Bool)
          → implies l (names_inside d.counts.names (kind_in (decode_nodes d mem) i) && slots_inside d.counts.texts (slots_held (texts_of (kind_in (decode_nodes d mem) i))))
          ≡ (slots_inside d.counts.texts (cond l (slots_held (texts_of (kind_in (decode_nodes d mem) i))) []) && implies l (names_inside d.counts.names (kind_in (decode_nodes d mem) i)))
      go i true = and_comm (names_inside d.counts.names (kind_in (decode_nodes d mem) i)) (slots_inside d.counts.texts (slots_held (texts_of (kind_in (decode_nodes d mem) i))))
      go i false = refl

  -- ---- the test

  lengths-are : (a b : Bool) → texts_add d mem ≡ a → names_add d mem ≡ b → lengths_add d mem ≡ (a && b)
  unfolding lengths_add
  lengths-are a b e q = rw (e, q)

  first-false : (a b c e f : Bool) → a ≡ false → false ≡ ((((a && b) && c) && e) && f)
  first-false a b c e f h = rw h

  fourth-false : (a b c e f : Bool) → e ≡ false → false ≡ ((((a && b) && c) && e) && f)
  fourth-false a b c e f h = sym (rw (h, and-false ((a && b) && c)))

  others-left : (a b c e f i n o : Bool) → a ≡ true → b ≡ o → c ≡ i → e ≡ true → f ≡ n → ((i && n) && o) ≡ ((((a && b) && c) && e) && f)
  others-left a b c e f i n o ha hb hc he hf = rw (ha, hb, hc, he, hf) (go i n o)
    where
      go : (i n o : Bool) → ((i && n) && o) ≡ ((((true && o) && i) && true) && n)
      go true true true = refl
      go true true false = refl
      go true false true = refl
      go true false false = refl
      go false n true = refl
      go false n false = refl

  ends-differ : texts_add d mem ≡ false → false ≡ texts_hold (decode d mem)
  unfolding texts_hold
  ends-differ e = first-false (lengths_add d mem) _ _ _ _ (lengths-are false (names_add d mem) e refl)

  free-differs : texts_add d mem ≡ true → all (free_ok d.counts.texts (texts_part d mem)) stack ≡ false → false ≡ texts_hold (decode d mem)
  unfolding texts_hold
  free-differs e n = fourth-false (lengths_add d mem) _ _ _ _ (free-is e ∙ n)

  texts-refused : (t : Bool) → t ≡ pool_ok (text_limits d) (text_counts d) (texts_part d mem) → t ≡ false → false ≡ texts_hold (decode d mem)
  texts-refused t e h = go (texts_add d mem) refl
    where
      no-pool : (texts_add d mem && all (free_ok d.counts.texts (texts_part d mem)) stack) ≡ false
      no-pool = sym pool-is ∙ sym e ∙ h

      go : (a : Bool) → texts_add d mem ≡ a → false ≡ texts_hold (decode d mem)
      go true q = free-differs q (sym (ap (λ (a : Bool). a && all (free_ok d.counts.texts (texts_part d mem)) stack) q) ∙ no-pool)
      go false q = ends-differ q

  names-refused : (t : Bool) → t ≡ table_ok (name_limits d) (name_counts d) (names_part d mem) → t ≡ false → false ≡ texts_hold (decode d mem)
  unfolding texts_hold
  names-refused t e h =
      first-false (lengths_add d mem) _ _ _ _
      (lengths-are (texts_add d mem) false refl (sym table_is ∙ sym e ∙ h) ∙ and-false (texts_add d mem))

  module _ (t u : Bool) (et : t ≡ pool_ok (text_limits d) (text_counts d) (texts_part d mem)) (ht : t ≡ true) (eu : u ≡ table_ok (name_limits d) (name_counts d) (names_part d mem)) (hu : u ≡ true) where
    pool-holds : (texts_add d mem && all (free_ok d.counts.texts (texts_part d mem)) stack) ≡ true
    pool-holds = sym pool-is ∙ sym et ∙ ht

    texts-add : texts_add d mem ≡ true
    texts-add = and_left (texts_add d mem) (all (free_ok d.counts.texts (texts_part d mem)) stack) pool-holds

    names-add : names_add d mem ≡ true
    names-add = sym table_is ∙ sym eu ∙ hu

    texts-decided : (r : Bool)
        → r ≡ (all_below (fields_hold d.counts.texts d.counts.names (decode_nodes d mem)) (slots_made d) && slots_once d.counts.texts (decode_nodes d mem) (slots_made d) (part d.limits.texts d.counts.freetexts (texts_part d mem)))
        → r ≡ texts_hold (decode d mem)
    unfolding texts_hold
    texts-decided r q =
        q
        ∙ ap (λ (b : Bool). b && slots_once d.counts.texts (decode_nodes d mem) (slots_made d) stack) fields-are
        ∙ others-left (lengths_add d mem) _ _ _ _ _ _ _ (lengths-are true true texts-add names-add) once_is inside_is
        (free-is texts-add
        ∙ and_right (texts_add d mem) (all (free_ok d.counts.texts (texts_part d mem)) stack) pool-holds)
        names-is

  abbrev fields : Bool
  fields = all_below (fields_hold d.counts.texts d.counts.names (decode_nodes d mem)) (slots_made d)

  abbrev once : Bool
  once = slots_once d.counts.texts (decode_nodes d mem) (slots_made d) stack

  -- the fields, and what is asked besides them, are the rule
  pub texts-are : (all_below (fields_hold d.counts.texts d.counts.names (decode_nodes d mem)) (slots_made d) && pool_holds d mem) ≡ texts_hold (decode d mem)
  unfolding pool_holds
  texts-are = go (pool_ok (text_limits d) (text_counts d) (texts_part d mem)) (table_ok (name_limits d) (name_counts d) (names_part d mem)) refl refl
    where
      go : (p t : Bool) → pool_ok (text_limits d) (text_counts d) (texts_part d mem) ≡ p → table_ok (name_limits d) (name_counts d) (names_part d mem) ≡ t
          → (fields && (p && t && once)) ≡ texts_hold (decode d mem)
      go true true ep et = texts-decided true true (sym ep) refl (sym et) refl (fields && once) refl
      go true false ep et = and-false fields ∙ names-refused false (sym et) refl
      go false t ep et = and-false fields ∙ texts-refused false (sym ep) refl

  -- ---- the tests in their order

  pub pool-broken : (t : Bool) → t ≡ pool_ok (text_limits d) (text_counts d) (texts_part d mem) → t ≡ false → false ≡ pool_holds d mem
  unfolding pool_holds
  pool-broken t e h = sym (rw (sym e ∙ h))

  module _ (t : Bool) (et : t ≡ pool_ok (text_limits d) (text_counts d) (texts_part d mem)) (ht : t ≡ true) (u : Bool) (eu : u ≡ table_ok (name_limits d) (name_counts d) (names_part d mem)) where
    pub table-broken : u ≡ false → false ≡ pool_holds d mem
    unfolding pool_holds
    table-broken h = sym (rw (sym et ∙ ht, sym eu ∙ h))

    pub pool-decided : u ≡ true → (r : Bool)
        → r ≡ slots_once d.counts.texts (decode_nodes d mem) (slots_made d) (part d.limits.texts d.counts.freetexts (texts_part d mem)) → r ≡ pool_holds d mem
    unfolding pool_holds
    pool-decided h r e = e ∙ sym (rw (sym et ∙ ht, sym eu ∙ h))

  -- ---- what counting the free list asks

  pub free-inside : d.counts.freetexts ≤ d.limits.texts
  free-inside = fit.free-texts

  pub free-markable : pool_ok (text_limits d) (text_counts d) (texts_part d mem) ≡ true → (m : List ℕ) → length m ≡ d.counts.texts
      → Counted d.counts.texts (gathered (held_in (decode_nodes d mem)) (slots_made d)) m
      → Markable (part d.limits.texts d.counts.freetexts (texts_part d mem)) m
  free-markable h m size counted =
      markable (decode_nodes d mem) d.counts.texts (slots_made d) m size counted (texts_part d mem) stack
      (and_right (texts_add d mem) (all (free_ok d.counts.texts (texts_part d mem)) stack) (sym pool-is ∙ h))
      (omega (
        arith,
        length_part (texts_part d mem) d.limits.texts d.counts.freetexts (omega (arith, length-texts d mem ok, fit.free-texts)),
        fit.free-texts,
        (limits-fit (limits_of d.limits) (memory-limits d (length mem) ok)).texts,
      ))
