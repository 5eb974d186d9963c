-- The test of an entry by the words of the memory says what the test over the document says, where rule 1 holds of the words.
-- Assumes nothing.
use Rattle.std.specs.Prelude.{Option}
use mathlib.Core.Path.{◌≡◌, refl, sym, ap, ◌∙◌}
use mathlib.Core.Bool.{Bool, true, false, ◌&&◌}
use mathlib.Core.List.{List, []}
use Prim.Native.Nat.{ℕ, ◌+◌, ◌-◌, ◌*◌, ◌%◌, ◌≤◌, ◌<◌}
use native.Mathlib.Decide.{ℕ_discrete, dec_lt}
use native.Mathlib.Omega.{arith}
use lib.ListN.{get_or}
use lib.Dec.{eqb, ltb}
use borrow.Author.Tests.{eq-eqb, ne_eqb, lt-ltb, le-ltb, ltb-true}
use Rattle.words.proofs.Tests.{and_left}
use Rattle.records.specs.Handles.{handle_index, handle_generation}
use Rattle.records.specs.Records.{parent_of}
use Rattle.model.specs.Kinds.{Kind, root, element, attribute, text, comment, namespace, instruction, Which, children, attributes, namespaces, same_which, which_of}
use Rattle.model.specs.Doc as doc
use Rattle.model.specs.Doc.{Doc, handle_word, live_slot, resolves, kind_in, parent_in, any_option}
use Rattle.laws.proofs.Handles.{index-handle_word, generation-handle_word, handle_word-halves}
use Rattle.layout.specs.declared.Document.{Document}
use Rattle.memory.specs.Decode.{handle_of, slots_made}
use Rattle.memory.proofs.Columns as columns
use Rattle.entries.specs.Nodes.{no_texts, decode_nodes, words_hold, record_word, kind_number}
use Rattle.entries.specs.Entering.{list_number, kind_list, enters, current_word, parent_words, words_enter}
use Rattle.entries.proofs.Words.{generation-word, record-word, live-word, live-below, kind-word, parent-word, parent-narrow, current-live}

-- ---- what the functions answer

module _ (made : ℕ) (mem : List ℕ) (handle : ℕ) where
  pub past-current : made ≤ handle % 4294967296 → false ≡ current_word made mem handle
  unfolding current_word
  past-current h = sym (rw (le-ltb (handle_index handle) made h))

  pub made-current : handle % 4294967296 < made → (r : Bool) → r ≡ (eqb (get_or mem (handle % 4294967296) 0 % 2) 0 && eqb (get_or mem (handle % 4294967296) 0) (handle_generation handle))
      → r ≡ current_word made mem handle
  unfolding current_word
  made-current h r e = e ∙ sym (rw (lt-ltb (handle_index handle) made h))

  pub current-made : current_word made mem handle ≡ true → handle % 4294967296 < made
  unfolding current_word
  current-made e =
      ltb-true (handle_index handle) made
      (and_left (ltb (handle_index handle) made) (eqb (get_or mem (handle_index handle) 0 % 2) 0 && eqb (get_or mem (handle_index handle) 0) (handle_generation handle)) e)

module _ (nodes made : ℕ) (mem : List ℕ) (list owner entry : ℕ) where
  module _ (t : Bool) (e : t ≡ current_word made mem entry) where
    pub entry-current : t ≡ true → (a : Bool) (number : ℕ) → a ≡ parent_words mem (nodes * 2 + entry % 4294967296 * 12) owner → number ≡ kind_list (get_or mem (nodes * 2 + entry % 4294967296 * 12) 0)
        → (r : Bool) → r ≡ (a && eqb number list) → r ≡ words_enter nodes made mem list owner entry
    unfolding words_enter
    entry-current y a number ea en r er = er ∙ rw (ea, en) (sym (rw (sym e ∙ y)))

    pub entry-stale : t ≡ false → false ≡ words_enter nodes made mem list owner entry
    unfolding words_enter
    entry-stale n = sym (rw (sym e ∙ n))

  -- the slot that it names was made
  pub entry-below : words_enter nodes made mem list owner entry ≡ true → entry % 4294967296 < made
  unfolding words_enter
  entry-below e =
      current-made made mem entry
      (and_left (current_word made mem entry) (parent_words mem (nodes * 2 + handle_index entry * 12) owner && eqb (kind_list (get_or mem (nodes * 2 + handle_index entry * 12) 0)) list) e)

-- ---- the list of a kind, by their numbers

list-is : (v w : Which) → eqb (list_number v) (list_number w) ≡ same_which v w
list-is children children = refl
list-is children attributes = refl
list-is children namespaces = refl
list-is attributes children = refl
list-is attributes attributes = refl
list-is attributes namespaces = refl
list-is namespaces children = refl
list-is namespaces attributes = refl
list-is namespaces namespaces = refl

list-kind : (k : Kind ℕ (Option ℕ)) → kind_list (kind_number k) ≡ list_number (which_of k)
unfolding kind_list
list-kind root = refl
list-kind (element n) = refl
list-kind (attribute n v) = refl
list-kind (text t) = refl
list-kind (comment t) = refl
list-kind (namespace p u) = refl
list-kind (instruction t d) = refl

pub list-of-child : (kind : ℕ) → (kind ≡ 2 → ⊥) → (kind ≡ 5 → ⊥) → 0 ≡ kind_list kind
unfolding kind_list
list-of-child kind a n = sym (rw (ne_eqb kind 2 a, ne_eqb kind 5 n))

-- ---- a parent, by its two words

parent_is : (w g owner : ℕ) → w ≤ 4294967296 → (eqb w (handle_index owner + 1) && eqb g (handle_generation owner)) ≡ any_option (eqb owner) (handle_of (parent_of w g))
parent_is w g owner b = go (ℕ_discrete w 0)
  where
    same : (w ≡ 0 → ⊥) → Dec (w ≡ handle_index owner + 1) → Dec (g ≡ handle_generation owner) → (eqb w (handle_index owner + 1) && eqb g (handle_generation owner)) ≡ eqb owner (handle_word (w - 1) g)
    same n (yes e) (yes f) =
        let i : w - 1 ≡ handle_index owner = omega arith in
        rw (eq-eqb w (handle_index owner + 1) e, eq-eqb g (handle_generation owner) f) (sym (eq-eqb owner (handle_word (w - 1) g) (rw (i, f) (sym (handle_word-halves owner)))))
    same n (yes e) (no f) =
        rw (eq-eqb w (handle_index owner + 1) e, ne_eqb g (handle_generation owner) f)
        (sym (ne_eqb owner (handle_word (w - 1) g) (λ q. f (sym (ap handle_generation q ∙ generation-handle_word (w - 1) g (omega arith))))))
    same n (no e) f =
        rw (ne_eqb w (handle_index owner + 1) e)
        (sym (ne_eqb owner (handle_word (w - 1) g) (λ q. e (let z : handle_index owner ≡ w - 1 = ap handle_index q ∙ index-handle_word (w - 1) g (omega arith) in omega arith))))

    go : Dec (w ≡ 0) → (eqb w (handle_index owner + 1) && eqb g (handle_generation owner)) ≡ any_option (eqb owner) (handle_of (parent_of w g))
    go (yes e) = rw (ne_eqb w (handle_index owner + 1) (omega arith), eq-eqb w 0 e)
    go (no n) = rw (ne_eqb w 0 n) (same n (ℕ_discrete w (handle_index owner + 1)) (ℕ_discrete g (handle_generation owner)))

-- ---- the words and the document

module _ (d : Document) (mem : List ℕ) where
  abbrev D : Doc
  D = decode_nodes d mem

  abbrev at : ℕ → ℕ
  at s = d.limits.nodes * 2 + s * 12

  current-words : words_hold d mem ≡ true → (h : ℕ) → current_word (slots_made d) mem h ≡ resolves D h
  unfolding current_word
  current-words ok h = go (dec_lt (handle_index h) (slots_made d))
    where
      go : Dec (handle_index h < slots_made d)
          → (ltb (handle_index h) (slots_made d) && (eqb (get_or mem (handle_index h) 0 % 2) 0 && eqb (get_or mem (handle_index h) 0) (handle_generation h))) ≡ resolves D h
      go (yes b) =
          let g : get_or mem (handle_index h) 0 ≡ doc.generation_at D (handle_index h) =
          generation-word d mem (handle_index h) (omega arith) ∙ sym (columns.generation-in no_texts [] true d mem (handle_index h) b) in
          ap (λ (t : Bool). t && (eqb (get_or mem (handle_index h) 0 % 2) 0 && eqb (get_or mem (handle_index h) 0) (handle_generation h))) (lt-ltb (handle_index h) (slots_made d) b)
          ∙ ap (λ (t : Bool). t && eqb (get_or mem (handle_index h) 0) (handle_generation h)) (live-word d mem (handle_index h) (get_or mem (handle_index h) 0) ok b refl)
          ∙ ap (λ (x : ℕ). live_slot D (handle_index h) && eqb x (handle_generation h)) g
      go (no n) =
          ap (λ (t : Bool). t && (eqb (get_or mem (handle_index h) 0 % 2) 0 && eqb (get_or mem (handle_index h) 0) (handle_generation h))) (le-ltb (handle_index h) (slots_made d) (omega arith))
          ∙ sym (ap (λ (t : Bool). t && eqb (doc.generation_at D (handle_index h)) (handle_generation h)) (columns.live-past no_texts [] true d mem (handle_index h) (omega arith)))

  pub resolves-word : words_hold d mem ≡ true → (h made : ℕ) → made ≡ slots_made d → (r : Bool) → r ≡ current_word made mem h → r ≡ resolves (decode_nodes d mem) h
  resolves-word ok h made e r q = q ∙ ap (λ (n : ℕ). current_word n mem h) e ∙ current-words ok h

  module _ (s : ℕ) (l : live_slot (decode_nodes d mem) s ≡ true) where
    word_read : (k : ℕ) → k < 12 → get_or mem (at s + k) 0 ≡ record_word d mem s k
    word_read k b = record-word d mem s k (live-below d mem s l) b

    parent-read : (owner : ℕ) → parent_words mem (at s) owner ≡ any_option (eqb owner) (parent_in D s)
    unfolding parent_words
    parent-read owner =
        rw (word_read 4 (omega arith), word_read 5 (omega arith))
        (parent_is (record_word d mem s 4) (record_word d mem s 5) owner (parent-narrow d mem s l).0 ∙ ap (any_option (eqb owner)) (parent-word d mem s l))

    list_read : (w : Which) → eqb (kind_list (get_or mem (at s) 0)) (list_number w) ≡ same_which (which_of (kind_in D s)) w
    list_read w =
        let z : at s + 0 ≡ at s = omega arith in
        let e : kind_list (get_or mem (at s) 0) ≡ list_number (which_of (kind_in D s)) =
        ap (λ (i : ℕ). kind_list (get_or mem i 0)) (sym z) ∙ ap kind_list (word_read 0 (omega arith) ∙ kind-word d mem s l) ∙ list-kind (kind_in D s) in
        ap (λ (i : ℕ). eqb i (list_number w)) e ∙ list-is (which_of (kind_in D s)) w

  pub words-enter : words_hold d mem ≡ true → (w : Which) (owner h : ℕ) → words_enter d.limits.nodes (slots_made d) mem (list_number w) owner h ≡ enters (decode_nodes d mem) w owner h
  unfolding words_enter enters
  words-enter ok w owner h =
      ap (λ (t : Bool). t && (parent_words mem (at (handle_index h)) owner && eqb (kind_list (get_or mem (at (handle_index h)) 0)) (list_number w))) (current-words ok h)
      ∙ go (resolves D h) refl
    where
      go : (t : Bool) → resolves D h ≡ t
          → (t && (parent_words mem (at (handle_index h)) owner && eqb (kind_list (get_or mem (at (handle_index h)) 0)) (list_number w)))
          ≡ (t && any_option (eqb owner) (parent_in D (handle_index h)) && same_which (which_of (kind_in D (handle_index h))) w)
      go true e =
          let l = current-live D h (resolves D h) refl e in
          rw (parent-read (handle_index h) l owner, list_read (handle_index h) l w)
      go false e = refl
