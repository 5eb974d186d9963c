-- The ways of the step's functions, over plain values.
-- Assumes nothing.
use Rattle.std.specs.Prelude.{Some, None, position, Option}
use Rattle.std.specs.List.{position_or_len}
use Rattle.std.specs.Option.{unwrap_or}
use Rattle.std.proofs.Common.{ltb-false}
use Rattle.std.proofs.lemmas.Bool.Decides.{nat_tests}
use Rattle.std.proofs.lemmas.List.Recursion.{is_position_or_len}
use Rattle.std.specs.declared.ops.ControlFlow.TheVariants.{Continue, Break}
use mathlib.Core.Path.{◌≡◌, refl, sym, ap, ◌∙◌}
use mathlib.Core.Logic.{◌≢◌}
use mathlib.Core.Bool.{Bool, true, false, cond, ◌&&◌}
use mathlib.Core.List.{List}
use Prim.Native.Nat.{ℕ, suc, ◌+◌, ◌-◌, ◌≤◌, ◌<◌, min}
use native.Mathlib.Omega.{arith}
use native.Mathlib.Decide.{dec_lt}
use native.Mathlib.Numerals.{add-one}
use borrow.Author.Tests.{eq-eqb, ne_eqb, lt-ltb, le-ltb, le-leb, lt-leb, ltb-true}
use lib.Dec.{eqb, leb, ltb}
use lib.ListN.{length, get_or}
use Rattle.words.specs.Lists.{index_of}
use Rattle.words.proofs.Tests.{and_left}
use Rattle.words.proofs.Lists.{length-tabulate, index_of-le}
use Rattle.words.proofs.Parts.{length_part, get_or-part}
use Rattle.showing.proofs.Bounded.{shown-inside}
use Rattle.blocks.specs.Arena.{Block, list_of}
use Rattle.records.specs.Handles.{word_of, id_of}
use Rattle.records.specs.declared.NodeId.{NodeId}
use Rattle.records.proofs.Handles.{word_of-id_of}
use Rattle.model.specs.Kinds.{children}
use Rattle.model.specs.Doc.{Doc, resolves, shown_block, shown_list, shown_parent}
use Rattle.layout.specs.declared.Document.{Document}
use Rattle.layout.specs.Layout.{memory_ok, entries_of}
use Rattle.memory.specs.Decode.{arena_in, slots_made, decode}
use Rattle.memory.proofs.Shaped.{length_ids}
use Rattle.steps.specs.declared.position.Hints.{Hints}
use Rattle.steps.specs.declared.position.Position.{Position}
use Rattle.steps.specs.declared.step.Above.{Above}
use Rattle.steps.specs.Next.{hint_for, with_hint, hinted_index, names_parent, visit_entry, Sought, seek_under, parent_below, seek, resumed, following, successor}

-- ---- where a word stands in a list

eqb-flip : (x y : ℕ) → eqb x y ≡ eqb y x
eqb-flip x y = grind (arith, nat_tests)

module _ (l : List ℕ) (x : ℕ) where
  found-first : (o : Option ℕ) → o ≡ position (λ y. eqb y x) l → unwrap_or o (length l) ≡ index_of (eqb x) l
  found-first o e =
      let first : index_of (eqb x) l ≡ position_or_len (λ y. eqb y x) l =
      is_position_or_len (index_of (eqb x)) (λ y. eqb y x) refl (λ y ys. ap (λ (t : Bool). cond t 0 (suc (index_of (eqb x) ys))) (eqb-flip x y) ∙ ap (λ (n : ℕ). cond (eqb y x) 0 n) (omega arith)) l in
      rw (e, ← first) (go (ltb (index_of (eqb x) l) (length l)) refl)
    where
      go : (t : Bool) → ltb (index_of (eqb x) l) (length l) ≡ t → unwrap_or (cond t (Some (index_of (eqb x) l)) None) (length l) ≡ index_of (eqb x) l
      go true q = refl
      go false q = omega (arith, index_of-le (eqb x) l, ltb-false (index_of (eqb x) l) (length l) q)

  module _ (k : ℕ) where
    pub hint-right : k < length l → get_or l k 0 ≡ x → k ≡ hinted_index l x k
    unfolding hinted_index
    hint-right h e = rw (lt-ltb k (length l) h, eq-eqb x (get_or l k 0) (sym e))

    pub hint-wrong : (k < length l → get_or l k 0 ≢ x) → (o : Option ℕ) → o ≡ position (λ y. eqb y x) l → unwrap_or o (length l) ≡ hinted_index l x k
    unfolding hinted_index
    hint-wrong n o e = found-first o e ∙ go (dec_lt k (length l))
      where
        go : Dec (k < length l) → index_of (eqb x) l ≡ cond (ltb k (length l) && eqb x (get_or l k 0)) k (index_of (eqb x) l)
        go (yes h) = sym (rw (lt-ltb k (length l) h, ne_eqb x (get_or l k 0) (λ q. n h (sym q))))
        go (no h) = sym (rw (le-ltb k (length l) (omega arith)))

-- ---- entries of a block

module _ (d : Document) (mem : List ℕ) (b : Block) (ok : memory_ok d (length mem) ≡ true) (f : b.start + b.len ≤ entries_of d.limits children) where
  abbrev shown : List ℕ
  shown = list_of (arena_in d children mem) b

  inside : b.start + b.len ≤ length (arena_in d children mem).ids
  inside = let z = length_ids d mem ok children in omega arith

  pub shown-length : length shown ≡ b.len
  shown-length = length_part (arena_in d children mem).ids b.start b.len inside

  pub shown-entry : (k : ℕ) → k < b.len → get_or shown k 0 ≡ get_or (arena_in d children mem).ids (b.start + k) 0
  shown-entry k h = get_or-part (arena_in d children mem).ids b.start b.len k 0 h

  module _ (p : Position) (q k w : ℕ) (h : k < b.len) (e : w ≡ get_or (arena_in d children mem).ids (b.start + k) 0) (t : Bool) (r : t ≡ names_parent (decode d mem) q w) where
    here : get_or shown k 0 ≡ w
    here = shown-entry k h ∙ sym e

    tested : names_parent (decode d mem) q (get_or shown k 0) ≡ t
    tested = ap (names_parent (decode d mem) q) here ∙ sym r

    abbrev to : Position
    to = record { zone = p.zone; node = get_or shown k 0; hints = with_hint p.hints (length shown) k; left = min p.left d.limits.nodes - 1 }

    pub entry-visited : (v : Hints) (n left : ℕ) → t ≡ true → n ≡ min p.left d.limits.nodes → left ≡ n - 1 → v ≡ with_hint p.hints b.len k
        → Some (record { zone = p.zone; node = w; hints = v; left = left }) ≡ visit_entry (decode d mem) p q shown k
    entry-visited v n left u m l f =
        ap (λ (x : ℕ). Some (record { zone = p.zone; node = w; hints = v; left = x })) (l ∙ ap (λ (x : ℕ). x - 1) m)
        ∙ ap (λ (x : Hints). Some (record { zone = p.zone; node = w; hints = x; left = to.left })) (f ∙ ap (λ (x : ℕ). with_hint p.hints x k) (sym shown-length))
        ∙ ap (λ (x : ℕ). Some (record { zone = p.zone; node = x; hints = to.hints; left = to.left })) (sym here)
        ∙ sym (ap (λ (c : Bool). cond c (Some to) None) (tested ∙ u))

    pub entry-refused : t ≡ false → None ≡ visit_entry (decode d mem) p q shown k
    entry-refused u = sym (ap (λ (c : Bool). cond c (Some to) None) (tested ∙ u))

-- ---- the turns of the search for the node that follows

abbrev above : ℕ → ℕ → Above
above q r = record { node = q; room = r }

module _ (d : Doc) (p : Position) (from n turns room x : ℕ) (inv : following n n d p from ≡ following turns room d p x) where
  module _ (left : ℕ) (h : turns ≡ suc left) (w : Sought) (e : w ≡ seek room d p x) where
    told : following n n d p from ≡ resumed (λ q rest. following left rest d p q) w
    told = inv ∙ ap (λ (k : ℕ). following k room d p x) h ∙ ap (resumed (λ q rest. following left rest d p q)) (sym e)

    pub following-above : (v : Above) → w ≡ Continue v → following n n d p from ≡ following left v.room d p v.node
    following-above v f = told ∙ ap (resumed (λ q rest. following left rest d p q)) f

    pub following-ends : (o : Option Position) → w ≡ Break o → o ≡ following n n d p from
    following-ends o f = sym (told ∙ ap (resumed (λ q rest. following left rest d p q)) f)

-- a handle that went through its two halves
same_word : (id : NodeId) (word : ℕ) → id ≡ id_of word → word_of id ≡ word
same_word id word i = ap word_of i ∙ word_of-id_of word

-- ---- one turn

module _ (D : Doc) (p : Position) (x room : ℕ) where
  pub seek-zone : x ≡ p.zone → Break None ≡ seek room D p x
  unfolding seek
  seek-zone e = rw (eq-eqb x p.zone e)

  module _ (n : x ≢ p.zone) (id : NodeId) (i : id ≡ id_of x) where
    pub seek-top : None ≡ shown_parent D (word_of id) → Break None ≡ seek room D p x
    unfolding seek
    seek-top e = rw (ne_eqb x p.zone n) (ap (seek_under room D p x) (e ∙ ap (shown_parent D) (same_word id x i)))

    pub seek-up : (q : ℕ) → Some q ≡ shown_parent D (word_of id) → (r : Sought) → r ≡ seek_under room D p x (Some q) → r ≡ seek room D p x
    unfolding seek
    seek-up q e r f = rw (ne_eqb x p.zone n) (f ∙ ap (seek_under room D p x) (e ∙ ap (shown_parent D) (same_word id x i)))

  -- a turn that goes further up goes to a node that resolves
  pub above-resolves : (w : Sought) → w ≡ seek room D p x → (v : Above) → w ≡ Continue v → resolves D v.node ≡ true
  unfolding seek
  above-resolves w e v f = go (parent_below D p x) (sym e ∙ f)
    where
      end : Sought
      end = Break None

      no_break : (u : Option Position) → ◌≡◌ {A = Sought} (Break u) (Continue v) → resolves D v.node ≡ true
      no_break u e = absurd (let z : ◌≡◌ {A = ℕ} 0 1 = cc in omega arith)

      same : (k r : ℕ) → ◌≡◌ {A = Sought} (Continue (above k r)) (Continue v) → above k r ≡ v
      same k r e = cc

      under : (k r : ℕ) (u : Option Position) (s b c : Bool) → resolves D k ≡ s → cond (s && b) (cond c (Break u) (Continue (above k r))) end ≡ Continue v → resolves D v.node ≡ true
      under k r u true true true s e = no_break u e
      under k r u true true false s e = ap (λ (m : Above). resolves D m.node) (sym (same k r e)) ∙ s
      under k r u true false c s e = no_break None e
      under k r u false b c s e = no_break None e

      go : (o : Option ℕ) → seek_under room D p x o ≡ Continue v → resolves D v.node ≡ true
      go None e = no_break None e
      go (Some k) e =
          let l : List ℕ = shown_list D children k in
          let j : ℕ = hinted_index l x (hint_for p.hints (length l)) in
          under k (room - length l) (visit_entry D p k l (suc j)) (resolves D k) (leb (length l) room) (ltb (suc j) (length l)) refl e

-- ---- under a parent

module _ (d : Document) (mem : List ℕ) (p : Position) (x room : ℕ) (id : NodeId) (t : Bool) (r : t ≡ resolves (decode d mem) (word_of id)) where
  abbrev D : Doc
  D = decode d mem

  abbrev q : ℕ
  q = word_of id

  -- one turn by the list shown, and by where the node stands in it
  abbrev looked : List ℕ → Sought
  looked v = cond (ltb (suc (hinted_index v x (hint_for p.hints (length v)))) (length v)) (Break (visit_entry D p q v (suc (hinted_index v x (hint_for p.hints (length v)))))) (Continue (above q (room - length v)))

  by-test : seek_under room D p x (Some q) ≡ cond (t && leb (length (shown_list D children q)) room) (looked (shown_list D children q)) (Break None)
  by-test = ap (λ (c : Bool). cond (c && leb (length (shown_list D children q)) room) (looked (shown_list D children q)) (Break None)) (sym r)

  module _ (y : t ≡ true) (ok : memory_ok d (length mem) ≡ true) (b : Block) (e : b ≡ shown_block D children (word_of id)) where
    abbrev l : List ℕ
    l = list_of (arena_in d children mem) b

    block-inside : b.start + b.len ≤ entries_of d.limits children
    block-inside = shown-inside d mem children (word_of id) b e

    turned : seek_under room D p x (Some q) ≡ cond (leb (length l) room) (looked l) (Break None)
    turned =
        by-test ∙ ap (λ (c : Bool). cond (c && leb (length (shown_list D children q)) room) (looked (shown_list D children q)) (Break None)) y
        ∙ ap (λ (c : Block). cond (leb (length (list_of (arena_in d children mem) c)) room) (looked (list_of (arena_in d children mem) c)) (Break None)) (sym e)

    pub under-full : room < b.len → Break None ≡ seek_under room D p x (Some q)
    under-full h =
        let z = shown-length d mem b ok block-inside in
        sym (turned ∙ ap (λ (c : Bool). cond c (looked l) (Break None)) (lt-leb (length l) room (omega arith)))

    module _ (g k : ℕ) (m : g ≡ hint_for p.hints b.len) (n : k ≡ hinted_index l x g) (roomy : b.len ≤ room) (a : ℕ) (i : a ≡ q) where
      index : k ≡ hinted_index l x (hint_for p.hints (length l))
      index = n ∙ ap (hinted_index l x) (m ∙ ap (hint_for p.hints) (sym (shown-length d mem b ok block-inside)))

      looks : seek_under room D p x (Some q) ≡ cond (ltb (suc k) (length l)) (Break (visit_entry D p a l (suc k))) (Continue (above a (room - length l)))
      looks =
          let z = shown-length d mem b ok block-inside in
          turned ∙ ap (λ (c : Bool). cond c (looked l) (Break None)) (le-leb (length l) room (omega arith))
          ∙ ap (λ (j : ℕ). cond (ltb (suc j) (length l)) (Break (visit_entry D p q l (suc j))) (Continue (above q (room - length l)))) (sym index)
          ∙ ap (λ (j : ℕ). cond (ltb (suc k) (length l)) (Break (visit_entry D p j l (suc k))) (Continue (above j (room - length l)))) (sym i)

      pub under_at : suc k < b.len → (w : Option Position) → w ≡ visit_entry D p a l (k + 1) → Break w ≡ seek_under room D p x (Some q)
      under_at h w f =
          let z = shown-length d mem b ok block-inside in
          ap Break (f ∙ ap (visit_entry D p a l) (add-one k)) ∙ sym (looks
          ∙ ap (λ (c : Bool). cond c (Break (visit_entry D p a l (suc k))) (Continue (above a (room - length l)))) (lt-ltb (suc k) (length l) (omega arith)))

      pub under-above : b.len ≤ suc k → Continue (above a (room - b.len)) ≡ seek_under room D p x (Some q)
      under-above h =
          let z = shown-length d mem b ok block-inside in
          sym (looks
          ∙ ap (λ (c : Bool). cond c (Break (visit_entry D p a l (suc k))) (Continue (above a (room - length l)))) (le-ltb (suc k) (length l) (omega arith))
          ∙ ap (λ (n : ℕ). Continue (above a (room - n))) z)

pub hinted-within : (v : List ℕ) (x k : ℕ) → hinted_index v x k ≤ length v
unfolding hinted_index
hinted-within v x k = go (ltb k (length v) && eqb x (get_or v k 0)) refl
  where
    go : (c : Bool) → (ltb k (length v) && eqb x (get_or v k 0)) ≡ c → cond c k (index_of (eqb x) v) ≤ length v
    go true e = let h = ltb-true k (length v) (and_left (ltb k (length v)) (eqb x (get_or v k 0)) e) in omega arith
    go false e = index_of-le (eqb x) v

-- ---- the step

module _ (d : Document) (mem : List ℕ) (ok : memory_ok d (length mem) ≡ true) (p : Position) (id : NodeId) (i : id ≡ id_of p.node) where
  node-same : word_of id ≡ p.node
  node-same = same_word id p.node i

  module _ (b : Block) (e : b ≡ shown_block (decode d mem) children (word_of id)) where
    node-shown : shown_list (decode d mem) children p.node ≡ list_of (arena_in d children mem) b
    node-shown = ap (λ (h : ℕ). shown_list (decode d mem) children h) (sym node-same) ∙ ap (λ (c : Block). list_of (arena_in d children mem) c) (sym e)

    abbrev from : List ℕ → Option Position
    from v = cond (ltb 0 (length v)) (visit_entry (decode d mem) p p.node v 0) (following (length (decode d mem).gens) (length (decode d mem).gens) (decode d mem) p p.node)

    pub successor-child : 0 < b.len → (w : Option Position) → w ≡ visit_entry (decode d mem) p p.node (list_of (arena_in d children mem) b) 0 → w ≡ successor (decode d mem) p
    successor-child h w f =
        let z = shown-length d mem b ok (shown-inside d mem children (word_of id) b e) in
        f ∙ sym (ap from node-shown ∙ ap (λ (c : Bool). cond c (visit_entry (decode d mem) p p.node (list_of (arena_in d children mem) b) 0) (following (length (decode d mem).gens) (length (decode d mem).gens) (decode d mem) p p.node)) (lt-ltb 0 (length (list_of (arena_in d children mem) b)) (omega arith)))

    pub successor-following : b.len ≤ 0 → (w : Option Position) → w ≡ following (slots_made d) (slots_made d) (decode d mem) p p.node → w ≡ successor (decode d mem) p
    successor-following h w f =
        let z = shown-length d mem b ok (shown-inside d mem children (word_of id) b e) in
        f ∙ ap (λ (n : ℕ). following n n (decode d mem) p p.node) (sym (length-tabulate _ (slots_made d)))
        ∙ sym (ap from node-shown ∙ ap (λ (c : Bool). cond c (visit_entry (decode d mem) p p.node (list_of (arena_in d children mem) b) 0) (following (length (decode d mem).gens) (length (decode d mem).gens) (decode d mem) p p.node)) (le-ltb 0 (length (list_of (arena_in d children mem) b)) (omega arith)))
