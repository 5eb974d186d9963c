-- A turn of the renewal: the top of the stack is numbered, and its children go on the stack.
-- Assumes nothing.
use mathlib.Core.Path.{◌≡◌, refl, sym, ap, ◌∙◌, subst}
use mathlib.Core.Logic.{inr}
use mathlib.Core.Bool.{true}
use mathlib.Core.List.Memᴰ
use mathlib.Core.List.{List, [], ◌∷◌, ◌++◌, append_assoc, append-nil}
use Prim.Native.Nat.{ℕ, zero, suc, ◌+◌, ◌-◌, ◌*◌, ◌≤◌, ◌<◌}
use native.Mathlib.Omega.{arith}
use lib.ListN.{length, set, length-append}
use Rattle.words.specs.Lists.{joined}
use Rattle.records.specs.Handles.{handle_index}
use Rattle.model.specs.Kinds.{Which, children, attributes, namespaces}
use Rattle.model.specs.Doc.{Doc, root_handle, resolves, parent_at, list_in, list_at}
use Rattle.model.specs.Edits.{walk, ordered}
use Rattle.layout.specs.declared.Document.{Document}
use Rattle.layout.specs.Layout.{memory_ok}
use Rattle.memory.specs.Decode.{slots_made, pool_in, names_in, lengths_add, decode}
use Rattle.layout.proofs.Sizes.{sizes}
use Rattle.memory.proofs.Columns.{length-gens}
use Rattle.std.specs.List.{slice_get}
use Rattle.std.specs.Prelude.{None, Some}
use Rattle.walks.specs.Stack.{Stacked, stacked, pushed, popped}
use Rattle.walks.specs.Order.{put_keys, keyed_at, Listed, Walkable}
use Rattle.walks.proofs.Stacks.{room_of, room-first, entries-first, room-popped, room-pushed, word_popped, none_popped}
use Rattle.walks.proofs.Orders.{keys_none, keys-more}
use Rattle.walks.proofs.Visits.{Visiting, visiting-first, visiting-next, visiting-fits}
use Rattle.walks.proofs.Walkable.{same_index, nest, index-made, walkable-listed}
use Rattle.walks.proofs.Numbering.{Numbered, numbered-listed, list_same, listed-short}

module _ (d : Document) (mem₀ : List ℕ) where
  abbrev D : Doc
  D = decode d mem₀

  abbrev next : ℕ → List ℕ
  next h = list_at (decode d mem₀) children h

  -- so many turns are done: what they numbered, and what the walk of the rest of the stack will
  pub record Renewing (room : ℕ) (mem : List ℕ) (stack : Stacked) (key : ℕ) : Type 0 where
    pub same-room : room_of stack ≡ room
    pub done : List ℕ
    pub numbered : Numbered d mem₀ 0 done mem key
    pub left : ℕ
    pub whole : done ++ joined (keyed_at (decode d mem₀)) (walk (λ h. list_at (decode d mem₀) children h) left stack.entries) ≡ ordered (decode d mem₀)
    pub count : ℕ
    pub turns : count + left ≡ slots_made d
    pub visiting : Visiting (λ h. list_at (decode d mem₀) children h) (λ h. resolves (decode d mem₀) h ≡ true) (parent_at (decode d mem₀)) root_handle count stack.entries
    pub short : key ≤ count * 524289

  module _ (ok : memory_ok d (length mem₀) ≡ true) (W : Walkable (decode d mem₀)) where
    fits : (count : ℕ) (s : List ℕ) → Visiting next (λ h. resolves D h ≡ true) (parent_at D) root_handle count s → count + length s ≤ slots_made d
    fits = visiting-fits next (λ h. resolves D h ≡ true) (parent_at D) root_handle handle_index (slots_made d) (index-made d mem₀ ok) (same_index D)

    pub renewing-first : (words : List ℕ) → 0 < length words → (stack : Stacked) → stack ≡ stacked 1 (set words 0 0) → Renewing (length words) mem₀ stack 0
    renewing-first words h stack e =
        let one : stack.entries ≡ root_handle ∷ [] = ap (λ (s : Stacked). s.entries) e ∙ entries-first words 0 h in
        record {
          same-room = ap (λ (s : Stacked). room_of s) e ∙ room-first words 0 h;
          done = [];
          numbered = record { memory = sym (keys_none d mem₀ ok 0); after = refl };
          left = slots_made d;
          whole =
              ap (λ (l : List ℕ). joined (keyed_at D) (walk next (slots_made d) l)) one
              ∙ ap (λ (k : ℕ). joined (keyed_at D) (walk next k (root_handle ∷ []))) (sym (length-gens (pool_in d mem₀) (names_in d mem₀) (lengths_add d mem₀) d mem₀));
          count = 0;
          turns = omega arith;
          visiting =
              subst (Visiting next (λ h. resolves D h ≡ true) (parent_at D) root_handle 0) (sym one)
              (visiting-first next (λ h. resolves D h ≡ true) (parent_at D) root_handle (nest D W));
          short = omega arith;
        }

    module _ (room : ℕ) (mem : List ℕ) (stack : Stacked) (key : ℕ) (R : Renewing room mem stack key) (word : ℕ) (top : Some word ≡ slice_get stack.entries 0) where
      taken : stack.entries ≡ word ∷ (popped stack).entries
      taken = word_popped stack word top

      v : Visiting next (λ h. resolves D h ≡ true) (parent_at D) root_handle R.count (word ∷ (popped stack).entries)
      v = subst (Visiting next (λ h. resolves D h ≡ true) (parent_at D) root_handle R.count) taken R.visiting

      pub word_live : resolves (decode d mem₀) word ≡ true
      word_live = v.live word (inr (Memᴰ.head refl))

      pub word-listed : (s : ℕ) → s ≡ handle_index word → (w : Which) → Listed d mem w s
      word-listed s e w = numbered-listed d mem₀ ok 0 R.done mem key s word R.numbered e w (walkable-listed d mem₀ ok W word word_live w)

      turn-left : 1 ≤ R.left
      turn-left =
          let f = fits R.count (word ∷ (popped stack).entries) v in
          let t = R.turns in
          omega arith

      pub key-short : key ≤ 900000000000
      key-short =
          let t = R.turns in
          let k = R.short in
          omega (arith, (sizes d (length mem₀) ok).nodes)

      -- each turn gives a key at least
      pub turn-smaller : (key' : ℕ) → key' ≡ key + length (keyed_at (decode d mem) word) → slots_made d * 524289 - key' < slots_made d * 524289 - key
      turn-smaller key' q =
          let t = R.turns in
          let k = R.short in
          omega (arith, turn-left)

      keyed-same : keyed_at (decode d mem) word ≡ keyed_at D word
      keyed-same =
          let n = list_same d mem₀ ok 0 R.done mem key (handle_index word) word R.numbered refl in
          ap (λ (x : List ℕ). word ∷ (x ++ list_at (decode d mem) attributes word)) (n namespaces)
          ∙ ap (λ (x : List ℕ). word ∷ (list_at D namespaces word ++ x)) (n attributes)

      module _ (mem' : List ℕ) (key' : ℕ) (q : key' ≡ key + length (keyed_at (decode d mem) word))
          (e : mem' ≡ put_keys d mem key (keyed_at (decode d mem) word)) where
        pub node-numbered : Numbered d mem₀ 0 (R.done ++ keyed_at (decode d mem₀) word) mem' key'
        node-numbered =
            let n = R.numbered in
            let m = keyed_at D word in
            record {
              memory =
                  e ∙ ap (put_keys d mem key) keyed-same
                  ∙ ap (λ (k : ℕ). put_keys d mem k m) n.after
                  ∙ ap (λ (x : List ℕ). put_keys d x (0 + length R.done) m) n.memory
                  ∙ keys-more d mem₀ ok 0 R.done m;
              after =
                  let f = n.after in
                  let g : key' ≡ key + length m = q ∙ ap (λ (x : List ℕ). key + length x) keyed-same in
                  omega (arith, length-append R.done m);
            }

        pub children-listed : (s : ℕ) → s ≡ handle_index word → Listed d mem' children s
        children-listed s f = numbered-listed d mem₀ ok 0 (R.done ++ keyed_at D word) mem' key' s word node-numbered f children (walkable-listed d mem₀ ok W word word_live children)

        module _ (s : ℕ) (f : s ≡ handle_index word) (entries : List ℕ) (g : entries ≡ list_in (decode d mem') children s) where
          children-same : entries ≡ next word
          children-same = g ∙ list_same d mem₀ ok 0 (R.done ++ keyed_at D word) mem' key' s word node-numbered f children

          v' : Visiting next (λ h. resolves D h ≡ true) (parent_at D) root_handle (1 + R.count) (entries ++ (popped stack).entries)
          v' =
              subst (λ (x : List ℕ). Visiting next (λ h. resolves D h ≡ true) (parent_at D) root_handle (1 + R.count) (x ++ (popped stack).entries)) (sym children-same)
              (visiting-next next (λ h. resolves D h ≡ true) (parent_at D) root_handle (nest D W) R.count word (popped stack).entries v)

          pub stack-room : d.limits.nodes ≤ room → length entries ≤ length (popped stack).free
          stack-room b =
              let r = R.same-room in
              omega (arith, fits (1 + R.count) (entries ++ (popped stack).entries) v', length-append entries (popped stack).entries, room-popped stack)

          keyed-short : length (keyed_at (decode d mem) word) ≤ 524289
          keyed-short =
              let a = listed-short d mem namespaces (handle_index word) (word-listed (handle_index word) refl namespaces) in
              let b = listed-short d mem attributes (handle_index word) (word-listed (handle_index word) refl attributes) in
              omega (arith, length-append (list_at (decode d mem) namespaces word) (list_at (decode d mem) attributes word))

          pub renewing-next : d.limits.nodes ≤ room → (stack' : Stacked) → stack' ≡ pushed entries (popped stack) → Renewing room mem' stack' key'
          renewing-next b stack' p =
              let top' : stack'.entries ≡ entries ++ (popped stack).entries = ap (λ (s : Stacked). s.entries) p in
              record {
                same-room = ap (λ (s : Stacked). room_of s) p ∙ room-pushed entries (popped stack) (stack-room b) ∙ room-popped stack ∙ R.same-room;
                done = R.done ++ keyed_at D word;
                numbered = node-numbered;
                left = R.left - 1;
                whole = append_assoc R.done (keyed_at D word) _ ∙ ap (λ (x : List ℕ). R.done ++ x) (walked R.left turn-left top') ∙ R.whole;
                count = 1 + R.count;
                turns = let t = R.turns in omega (arith, turn-left);
                visiting = subst (Visiting next (λ h. resolves D h ≡ true) (parent_at D) root_handle (1 + R.count)) (sym top') v';
                short = let k = R.short in omega (arith, keyed-short);
              }
            where
              walked : (n : ℕ) → 1 ≤ n → stack'.entries ≡ entries ++ (popped stack).entries
                  → keyed_at D word ++ joined (keyed_at D) (walk next (n - 1) (stack'.entries)) ≡ joined (keyed_at D) (walk next n (stack.entries))
              walked zero h t = absurd (omega arith)
              walked (suc n) h t =
                  let z : suc n - 1 ≡ n = omega arith in
                  ap (λ (k : ℕ). keyed_at D word ++ joined (keyed_at D) (walk next k (stack'.entries))) z
                  ∙ ap (λ (x : List ℕ). keyed_at D word ++ joined (keyed_at D) (walk next n x)) (t ∙ ap (λ (x : List ℕ). x ++ (popped stack).entries) children-same)
                  ∙ sym (ap (λ (x : List ℕ). joined (keyed_at D) (walk next (suc n) x)) taken)

    pub renewing-last : (room : ℕ) (mem : List ℕ) (stack : Stacked) (key : ℕ) → Renewing room mem stack key → None ≡ slice_get stack.entries 0 → mem ≡ put_keys d mem₀ 0 (ordered (decode d mem₀))
    renewing-last room mem stack key R h =
        R.numbered.memory ∙ ap (put_keys d mem₀ 0)
        (sym (append-nil R.done)
        ∙ ap (λ (x : List ℕ). R.done ++ joined (keyed_at D) x) (sym (walk_none R.left) ∙ ap (walk next R.left) (sym (none_popped stack h)))
        ∙ R.whole)
      where
        walk_none : (n : ℕ) → walk next n [] ≡ []
        walk_none zero = refl
        walk_none (suc n) = refl
