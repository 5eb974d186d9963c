-- A document that stands for a plain tree with its rules keeps the eight structure rules.
-- Assumes nothing.
use Rattle.std.proofs.lemmas.Option.{none-some, same_Some}
use Rattle.std.specs.Prelude.{Option, None, Some}
use mathlib.Core.Path.{◌≡◌, refl, sym, ap, ap₂, ◌∙◌, subst}
use mathlib.Core.Logic.{◌≢◌, ◌⊎◌, inl, inr}
use mathlib.Core.Bool.{Bool, true, false, cond, false≢true, true≢false}
use mathlib.Core.List.Memᴰ
use mathlib.Core.List.{List, [], map, Memᴰ}
use Prim.Native.Nat.{ℕ, ◌+◌, ◌%◌, ◌<◌}
use native.Mathlib.Omega.{arith}
use borrow.Author.Tests.{eqb-true, eqb-false}
use lib.Dec.{eqb}
use lib.ListN.{length, get_or}
use Rattle.words.specs.Lists.{count_of}
use Rattle.records.specs.Handles.{handle_index, handle_generation}
use Rattle.model.specs.Kinds.{Kind, root, element, attribute, text, comment, namespace, instruction, Which, children, is_element, is_root, owns, which_of, names_of, texts_of}
use Rattle.model.specs.Doc.{Doc, generation_at, live_slot, handle_at, resolves, kind_in, kind_at, parent_in, parent_at, pair_at, bytes_at, list_in, list_at, even, map_option}
use Rattle.model.specs.Tree.{Tree}
use Rattle.model.specs.Rules.{CountsAndFields, FreeList, Parents, Entries, Ends, ParentsEnd, OneRootElement, slots_held, held_in, held, Texts, Rules}
use Rattle.laws.proofs.Wf.{Distinct, WF}
use Rattle.laws.proofs.Wf as wf
use Rattle.laws.proofs.Sim.{Sim, fields}
use Rattle.laws.proofs.Basics.{live-node, live-below, resolves-live, handle-of-live, hs-injective, count-mem}
use Rattle.laws.proofs.Shown.{which_of-map, is_element-map, is_root-map, owns-map}
use Rattle.laws.proofs.Membership.{mem-map, mem-map-cases, mem-joined, mem-joined-cases, distinct-map, distinct-joined}
use Rattle.laws.proofs.Counting.{mem-get_or, get_or-below, count-absent, count-once, count-unique, below, below-mem, below-distinct}

pub is_root-root : {N T : Type 0} (k : Kind N T) → is_root k ≡ true → k ≡ root
is_root-root root e = refl
is_root-root (element n) e = absurd (false≢true e)
is_root-root (attribute n v) e = absurd (false≢true e)
is_root-root (text t) e = absurd (false≢true e)
is_root-root (comment t) e = absurd (false≢true e)
is_root-root (namespace p u) e = absurd (false≢true e)
is_root-root (instruction t d) e = absurd (false≢true e)

some-birth : (hs : ℕ → ℕ) (o : Option ℕ) (p : ℕ) → map_option hs o ≡ Some p → (q : ℕ) × (o ≡ Some q) × (hs q ≡ p)
some-birth hs None p e = absurd (none-some p e)
some-birth hs (Some q) p e = (q, refl, same_Some (hs q) p e)

module _ (d : Doc) (t : Tree) (hs : ℕ → ℕ) (S : Sim d t hs) (W : WF t) where
  -- a live slot holds a live birth
  by-slot : (P : ℕ → Type 0) → ((b : ℕ) → t.live b ≡ true → P (handle_index (hs b))) → (i : ℕ) → live_slot d i ≡ true → P i
  by-slot P f i l = let o = S.owner i l in subst P o.2 (f o.0 o.1)

  -- what the tests of a kind see is the plain tree's
  which-same : (b : ℕ) → t.live b ≡ true → which_of (kind_at d (hs b)) ≡ which_of (t.kind b)
  which-same b lb = sym (which_of-map (pair_at d) (bytes_at d) (kind_at d (hs b))) ∙ ap which_of (S.kind b lb)

  element-same : (b : ℕ) → t.live b ≡ true → is_element (kind_at d (hs b)) ≡ is_element (t.kind b)
  element-same b lb = sym (is_element-map (pair_at d) (bytes_at d) (kind_at d (hs b))) ∙ ap is_element (S.kind b lb)

  root-same : (b : ℕ) → t.live b ≡ true → is_root (kind_at d (hs b)) ≡ is_root (t.kind b)
  root-same b lb = sym (is_root-map (pair_at d) (bytes_at d) (kind_at d (hs b))) ∙ ap is_root (S.kind b lb)

  owns-same : (w : Which) (b : ℕ) → t.live b ≡ true → owns w (kind_at d (hs b)) ≡ owns w (t.kind b)
  owns-same w b lb = sym (owns-map (pair_at d) (bytes_at d) w (kind_at d (hs b))) ∙ ap (owns w) (S.kind b lb)

  root-slot : handle_index (hs 0) ≡ 0
  root-slot = ap handle_index S.root_is

  -- ---- 1 and 2

  root-live : live_slot d 0 ≡ true
  root-live = subst (λ (i : ℕ). live_slot d i ≡ true) root-slot (S.lives 0 S.root_live)

  root-kind : get_or d.kinds 0 None ≡ Some root
  root-kind =
      let e : is_root (kind_in d 0) ≡ true = ap (λ (i : ℕ). is_root (kind_in d i)) (sym root-slot) ∙ root-same 0 S.root_live ∙ ap is_root W.root_kind in
      live-node d 0 root-live ∙ ap Some (is_root-root (kind_in d 0) e)

  fields-of-sim : CountsAndFields d
  fields-of-sim = record {
    counts = S.counts;
    slots = S.within.slots;
    texts = S.within.texts;
    text_bytes = S.within.text_bytes;
    names = S.within.names;
    name_bytes = S.within.name_bytes;
    generations = S.generations;
    nodes = S.nodes;
    order_words = λ i h. S.order_fits i;
    capacities = λ w i h. S.caps_fit w i;
    root_generation = subst (λ (h : ℕ). generation_at d (handle_index h) ≡ handle_generation h) S.root_is (S.gen 0 S.root_live);
    root_kind = root-kind;
    root_parent = ap (parent_in d) (sym root-slot) ∙ S.parent 0 S.root_live ∙ ap (map_option hs) W.root_parent;
    root_only = λ i l. by-slot (λ i. is_root (kind_in d i) ≡ true → i ≡ 0) only i l;
  }
    where
      only : (b : ℕ) → t.live b ≡ true → is_root (kind_at d (hs b)) ≡ true → handle_index (hs b) ≡ 0
      only b lb e = ap (λ (c : ℕ). handle_index (hs c)) (W.root_only b lb (sym (root-same b lb) ∙ e)) ∙ root-slot

  free-list-of-sim : FreeList d
  free-list-of-sim = record {
    inside = λ i h. (S.free.odd (get_or d.free i 0) (mem-get_or d.free i 0 h)).0;
    once = λ s h. go s h (even (generation_at d s)) refl;
  }
    where
      go : (s : ℕ) → s < length d.gens → (q : Bool) → even (generation_at d s) ≡ q → count_of (eqb s) d.free ≡ get_or d.gens s 0 % 2
      go s h true e =
          let c = count-absent s d.free (λ m. true≢false (sym e ∙ (S.free.odd s m).1)) in
          let g = get_or-below d.gens s 0 1 h in
          let z : get_or d.gens s 1 % 2 ≡ 0 = eqb-true _ _ e in
          omega arith
      go s h false e =
          let c = count-once s d.free S.free.once (S.free.all s h e) in
          let g = get_or-below d.gens s 0 1 h in
          let z : get_or d.gens s 1 % 2 ≢ 0 = eqb-false _ _ e in
          omega arith

  -- ---- 3 and 4

  parents-of-sim : Parents d
  parents-of-sim = record {
    owner = λ i p l. by-slot (λ i. parent_in d i ≡ Some p → (resolves d p ≡ true) × (owns (which_of (kind_in d i)) (kind_at d p) ≡ true)) (owned p) i l;
    detached = λ i l. by-slot (λ i. parent_in d i ≡ None → which_of (kind_in d i) ≡ children) loose i l;
  }
    where
      owned : (p b : ℕ) → t.live b ≡ true → parent_at d (hs b) ≡ Some p → (resolves d p ≡ true) × (owns (which_of (kind_at d (hs b))) (kind_at d p) ≡ true)
      owned p b lb e =
          let o = some-birth hs (t.parent b) p (sym (S.parent b lb) ∙ e) in
          let u = W.upward b o.0 lb o.1 in
          rw (← o.2, which-same b lb) (resolves-live d t hs S o.0 u.0, owns-same (which_of (t.kind b)) o.0 u.0 ∙ u.1)

      no-birth : (o : Option ℕ) → map_option hs o ≡ None → o ≡ None
      no-birth None e = refl
      no-birth (Some b) e = absurd (none-some (hs b) (sym e))

      loose : (b : ℕ) → t.live b ≡ true → parent_at d (hs b) ≡ None → which_of (kind_at d (hs b)) ≡ children
      loose b lb e = which-same b lb ∙ W.detached b lb (no-birth (t.parent b) (sym (S.parent b lb) ∙ e))

  list-distinct : (w : Which) (p : ℕ) → t.live p ≡ true → Distinct (map hs (t.lists w p))
  list-distinct w p lp =
      distinct-map hs (t.lists w p)
      (λ a b ma mb e. hs-injective d t hs S a b (W.downward w p a lp ma).0 (W.downward w p b lp mb).0 e)
      (W.once w p lp)

  entries-of-sim : Entries d
  entries-of-sim = record {
    one = λ i p l. by-slot (λ i. parent_in d i ≡ Some p → count_of (eqb (handle_at d i)) (list_at d (which_of (kind_in d i)) p) ≡ 1) (once p) i l;
    no_other = λ w i h l.
        by-slot (λ i. Memᴰ h (list_in d w i) → (resolves d h ≡ true) × (parent_at d h ≡ Some (handle_at d i)) × (which_of (kind_at d h) ≡ w)) (below-it w h) i l;
  }
    where
      once : (p b : ℕ) → t.live b ≡ true → parent_at d (hs b) ≡ Some p
          → count_of (eqb (handle_at d (handle_index (hs b)))) (list_at d (which_of (kind_at d (hs b))) p) ≡ 1
      once p b lb e =
          let o = some-birth hs (t.parent b) p (sym (S.parent b lb) ∙ e) in
          let u = W.upward b o.0 lb o.1 in
          let w = which_of (t.kind b) in
          let l = map hs (t.lists w o.0) in
          let c = count-once (hs b) l (list-distinct w o.0 u.0) (mem-map hs (t.lists w o.0) u.2) in
          let e : list_at d (which_of (kind_at d (hs b))) p ≡ l = ap₂ (list_at d) (which-same b lb) (sym o.2) ∙ S.lists w o.0 u.0 in
          ap₂ (λ (h : ℕ) (m : List ℕ). count_of (eqb h) m) (handle-of-live d t hs S b lb) e ∙ c

      below-it : (w : Which) (h b : ℕ) → t.live b ≡ true → Memᴰ h (list_at d w (hs b))
          → (resolves d h ≡ true) × (parent_at d h ≡ Some (handle_at d (handle_index (hs b)))) × (which_of (kind_at d h) ≡ w)
      below-it w h b lb m =
          let o = mem-map-cases hs (t.lists w b) (subst (λ (l : List ℕ). Memᴰ h l) (S.lists w b lb) m) in
          let u = W.downward w b o.0 lb o.1 in
          rw (o.2, handle-of-live d t hs S b lb)
          (resolves-live d t hs S o.0 u.0, S.parent o.0 u.0 ∙ ap (map_option hs) u.1, which-same o.0 u.0 ∙ u.2)

  -- ---- 6 and 7

  ends-of-sim : ParentsEnd d
  ends-of-sim i l = by-slot (Ends d) (λ b lb. climb lb (W.ends b lb)) i l
    where
      climb : {b : ℕ} → t.live b ≡ true → wf.Ends t.parent b → Ends d (handle_index (hs b))
      climb {b} lb (wf.Ends.top e) = Ends.top (S.parent b lb ∙ ap (map_option hs) e)
      climb {b} lb (wf.Ends.up p e r) = Ends.up (hs p) (S.parent b lb ∙ ap (map_option hs) e) (climb (W.upward b p lb e).0 r)

  one-element-of-sim : OneRootElement d
  one-element-of-sim = rw (kids) (count-unique (λ c. is_element (kind_at d c)) (map hs (t.lists children 0)) (list-distinct children 0 S.root_live) same)
    where
      kids : list_in d children 0 ≡ map hs (t.lists children 0)
      kids = ap (list_in d children) (sym root-slot) ∙ S.lists children 0 S.root_live

      same : (a b : ℕ) → Memᴰ a (map hs (t.lists children 0)) → Memᴰ b (map hs (t.lists children 0))
          → is_element (kind_at d a) ≡ true → is_element (kind_at d b) ≡ true → a ≡ b
      same a b ma mb ea eb =
          let o = mem-map-cases hs (t.lists children 0) ma in
          let q = mem-map-cases hs (t.lists children 0) mb in
          let la = (W.downward children 0 o.0 S.root_live o.1).0 in
          let lb = (W.downward children 0 q.0 S.root_live q.1).0 in
          let fa = sym (element-same o.0 la) ∙ ap (λ (h : ℕ). is_element (kind_at d h)) (sym o.2) ∙ ea in
          let fb = sym (element-same q.0 lb) ∙ ap (λ (h : ℕ). is_element (kind_at d h)) (sym q.2) ∙ eb in
          o.2 ∙ ap hs (W.one_element o.0 q.0 o.1 q.1 fa fb) ∙ sym q.2

  -- ---- 8

  held_of : (b : ℕ) → t.live b ≡ true → held_in d (handle_index (hs b)) ≡ fields d (hs b)
  held_of b lb = rw (S.lives b lb)

  -- a held slot stands in a field of a live birth, and the other way round
  held-field : (s i : ℕ) → Memᴰ s (held_in d i) → (b : ℕ) × (t.live b ≡ true) × Memᴰ s (fields d (hs b)) × (handle_index (hs b) ≡ i)
  held-field s i m = go (live_slot d i) refl m
    where
      go : (q : Bool) → live_slot d i ≡ q → Memᴰ s (cond q (slots_held (texts_of (kind_in d i))) [])
          → (b : ℕ) × (t.live b ≡ true) × Memᴰ s (fields d (hs b)) × (handle_index (hs b) ≡ i)
      go true l n =
          let o = S.owner i l in
          (o.0, o.1, subst (λ (j : ℕ). Memᴰ s (slots_held (texts_of (kind_in d j)))) (sym o.2) n, o.2)
      go false l n = absurd (Memᴰ.not-nil n)

  held-mem : (s : ℕ) → Memᴰ s (held d) → (b : ℕ) × (t.live b ≡ true) × Memᴰ s (fields d (hs b))
  held-mem s m =
      let o = mem-joined-cases (held_in d) (below (length d.gens)) m in
      let q = held-field s o.0 o.2 in
      (q.0, q.1, q.2)

  mem-held : (s b : ℕ) → t.live b ≡ true → Memᴰ s (fields d (hs b)) → Memᴰ s (held d)
  mem-held s b lb m =
      mem-joined (held_in d) (below (length d.gens))
      (below-mem (length d.gens) (handle_index (hs b)) (live-below d (handle_index (hs b)) (S.lives b lb)))
      (subst (λ (l : List ℕ). Memᴰ s l) (sym (held_of b lb)) m)

  held-distinct : Distinct (held d)
  held-distinct = distinct-joined (held_in d) (below (length d.gens)) (below-distinct (length d.gens)) (λ i m. own i (live_slot d i) refl) single
    where
      own : (i : ℕ) (q : Bool) → live_slot d i ≡ q → Distinct (held_in d i)
      own i true l = by-slot (λ i. Distinct (held_in d i)) (λ b lb. subst Distinct (sym (held_of b lb)) (S.pool.distinct b lb)) i l
      own i false l = rw l tt

      single : (i j s : ℕ) → Memᴰ i (below (length d.gens)) → Memᴰ j (below (length d.gens))
          → Memᴰ s (held_in d i) → Memᴰ s (held_in d j) → i ≡ j
      single i j s mi mj hi hj =
          let o = held-field s i hi in
          let q = held-field s j hj in
          sym o.3 ∙ ap (λ (b : ℕ). handle_index (hs b)) (S.pool.single o.0 q.0 s o.1 q.1 o.2 q.2) ∙ q.3

  texts-of-sim : Texts d
  texts-of-sim = record {
    lengths = S.lengths;
    once = λ s h. one s (S.pool.covered s h);
    inside = λ s h.
        let c = count-absent s (held d) (λ m. let o = held-mem s m in let k = S.pool.inside o.0 s o.1 o.2 in omega arith) in
        let f = count-absent s d.pool.free (λ m. let k = (S.pool.free_inside s m).0 in omega arith) in
        omega arith;
    emptied = λ s h. (S.pool.free_inside s (count-mem s d.pool.free h)).1;
    names = λ i n l. by-slot (λ i. Memᴰ n (names_of (kind_in d i)) → n < length d.names) (λ b lb m. S.named b n lb m) i l;
  }
    where
      one : (s : ℕ) → Memᴰ s d.pool.free ⊎ ((b : ℕ) × (t.live b ≡ true) × Memᴰ s (fields d (hs b)))
          → count_of (eqb s) (held d) + count_of (eqb s) d.pool.free ≡ 1
      one s (inl m) =
          let c = count-absent s (held d) (λ n. let o = held-mem s n in S.pool.free_apart o.0 s o.1 o.2 m) in
          let f = count-once s d.pool.free S.pool.free_once m in
          omega arith
      one s (inr o) =
          let c = count-once s (held d) held-distinct (mem-held s o.0 o.1 o.2) in
          let f = count-absent s d.pool.free (λ m. S.pool.free_apart o.0 s o.1 o.2 m) in
          omega arith

  pub rules-of-sim : Rules d
  rules-of-sim = record {
    fields = fields-of-sim;
    free_list = free-list-of-sim;
    parents = parents-of-sim;
    entries = entries-of-sim;
    blocks = S.blocks;
    parents_end = ends-of-sim;
    one_root_element = one-element-of-sim;
    texts = texts-of-sim;
  }
