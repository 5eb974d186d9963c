-- The slot of a new node: a free one reused or a new one made, and what that does to the columns and to the free list.
-- Assumes nothing.
use Rattle.std.specs.Prelude.{Option, None, Some}
use mathlib.Core.Path.{◌≡◌, refl, sym, ap, ◌∙◌, subst}
use mathlib.Core.Logic.{◌≢◌, ◌⊎◌, inl, inr}
use mathlib.Core.Bool.{true, false, true≢false}
use mathlib.Core.List.Memᴰ
use mathlib.Core.List.{List, [], ◌∷◌, ◌++◌, Memᴰ}
use Prim.Native.Nat.{ℕ, ◌+◌, ◌≤◌, ◌<◌}
use native.Mathlib.Omega.{arith}
use native.Mathlib.Decide.{ℕ_discrete}
use lib.ListN.{length, get_or, set, length-append, length-set, get_or-eq_default}
use lib.Seq.{get_or-set_same, get_or-set_other}
use Rattle.blocks.specs.Arena.{Block, block}
use Rattle.texts.specs.Pool.{Pool}
use Rattle.names.specs.Table.{Name}
use Rattle.model.specs.Kinds.{Kind, Which}
use Rattle.model.specs.Doc.{Doc, change_slots, change_nodes, change_order, change_pool, change_names, generation_at, even, range_in}
use Rattle.model.specs.Edits.{up}
use Rattle.model.specs.Tree.{Tree}
use Rattle.laws.proofs.Wf.{Distinct}
use Rattle.laws.proofs.Sim.{FreeSlots, Sim}
use Rattle.laws.proofs.Basics.{get_or-snoc-same, get_or-snoc-other}
use Rattle.laws.proofs.Fresh.{up-even}

abbrev pub Kinds : Type 0
Kinds = List (Option (Kind ℕ (Option ℕ)))

-- the columns with a node k in slot x, of generation g
pub record Allocated (d : Doc) (x g : ℕ) (k : Kind ℕ (Option ℕ)) (gens : List ℕ) (kinds : Kinds) (parents : List (Option ℕ)) (ranges : Which → List Block) : Type 0 where
  pub was : even (generation_at d x) ≡ false
  pub gen_here : get_or gens x 1 ≡ g
  pub gen_even : even g ≡ true
  pub gen_other : (i : ℕ) → i ≢ x → get_or gens i 1 ≡ generation_at d i
  pub gen_fits : (i : ℕ) → i < length gens → get_or gens i 0 < 4294967296
  pub kind_here : get_or kinds x None ≡ Some k
  pub kind_other : (i : ℕ) → i ≢ x → get_or kinds i None ≡ get_or d.kinds i None
  pub parent_here : get_or parents x None ≡ None
  pub parent_other : (i : ℕ) → i ≢ x → get_or parents i None ≡ get_or d.parents i None
  pub range_here : (w : Which) → get_or (ranges w) x (block 0 0) ≡ block 0 0
  pub range_other : (w : Which) (i : ℕ) → i ≢ x → get_or (ranges w) i (block 0 0) ≡ range_in d w i
  pub kinds_length : length kinds ≡ length gens
  pub parents_length : length parents ≡ length gens
  pub ranges_length : (w : Which) → length (ranges w) ≡ length gens
  pub slot_in : x < length gens
  pub back : (i : ℕ) → i < length gens → i ≢ x → i < length d.gens
  pub grow : length d.gens ≤ length gens
  pub how : ((length d.gens ≤ x) × (g ≡ 0)) ⊎ ((x < length d.gens) × (g ≡ up (generation_at d x)))
  pub within : length gens ≤ d.limits.nodes

-- the document with these columns
abbrev pub with-columns : Doc → List ℕ → List ℕ → Kinds → List (Option ℕ) → (Which → List Block) → List ℕ → Pool → List (Option Name) → Doc
with-columns d gens free kinds parents ranges order p n =
    let slots = change_slots (change_nodes d kinds parents ranges) gens free in
    change_names (change_pool (change_order slots order false) p) n

-- ---- the two ways

module _ (d : Doc) (t : Tree) (hs : ℕ → ℕ) (S : Sim d t hs) (k : Kind ℕ (Option ℕ)) where
  -- a new slot
  module _ (room : length d.gens < d.limits.nodes) where
    pub appended : Allocated d (length d.gens) 0 k (d.gens ++ (0 ∷ [])) (d.kinds ++ (Some k ∷ [])) (d.parents ++ (None ∷ [])) (λ w. d.ranges w ++ (block 0 0 ∷ []))
    appended =
        record {
          was = ap even (get_or-eq_default d.gens 1 (omega arith));
          gen_here = get_or-snoc-same d.gens 0 1;
          gen_even = refl;
          gen_other = λ i n. get_or-snoc-other d.gens 0 1 i n;
          gen_fits = λ i lt. gen_fits i (simp length-append at lt) (ℕ_discrete i (length d.gens));
          kind_here = rw (← S.shape.kinds) (get_or-snoc-same d.kinds (Some k) None);
          kind_other = λ i n. get_or-snoc-other d.kinds (Some k) None i (λ q. n (q ∙ S.shape.kinds));
          parent_here = rw (← S.shape.parents) (get_or-snoc-same d.parents None None);
          parent_other = λ i n. get_or-snoc-other d.parents None None i (λ q. n (q ∙ S.shape.parents));
          range_here = λ w. rw (← S.shape.ranges w) (get_or-snoc-same (d.ranges w) (block 0 0) (block 0 0));
          range_other = λ w i n. get_or-snoc-other (d.ranges w) (block 0 0) (block 0 0) i (λ q. n (q ∙ S.shape.ranges w));
          kinds_length = simp length-append (ap (λ (n : ℕ). n + 1) S.shape.kinds);
          parents_length = simp length-append (ap (λ (n : ℕ). n + 1) S.shape.parents);
          ranges_length = λ w. simp length-append (ap (λ (n : ℕ). n + 1) (S.shape.ranges w));
          slot_in = simp length-append (omega arith);
          back = λ i lt n. (let q : i < length d.gens + 1 = simp length-append at lt in omega arith);
          grow = simp length-append (omega arith);
          how = inl (omega arith, refl);
          within = simp length-append (omega arith);
        }
      where
        gen_fits : (i : ℕ) → i < length d.gens + 1 → Dec (i ≡ length d.gens) → get_or (d.gens ++ (0 ∷ [])) i 0 < 4294967296
        gen_fits i lt (yes e) = rw (e, get_or-snoc-same d.gens 0 0) (omega arith)
        gen_fits i lt (no n) = rw (get_or-snoc-other d.gens 0 0 i n) (S.generations i (omega arith))

    pub appended-free : d.free ≡ [] → (kinds : Kinds) (parents : List (Option ℕ)) (ranges : Which → List Block) (order : List ℕ) (p : Pool) (n : List (Option Name))
        → FreeSlots (with-columns d (d.gens ++ (0 ∷ [])) [] kinds parents ranges order p n)
    appended-free e kinds parents ranges order p n = record { odd = λ i m. absurd (Memᴰ.not-nil m); all = all; once = tt }
      where
        all : (i : ℕ) → i < length (d.gens ++ (0 ∷ [])) → even (get_or (d.gens ++ (0 ∷ [])) i 1) ≡ false → Memᴰ i []
        all i lt o = go (ℕ_discrete i (length d.gens))
          where
            go : Dec (i ≡ length d.gens) → Memᴰ i []
            go (yes q) = absurd (true≢false (sym (ap even (ap (λ (j : ℕ). get_or (d.gens ++ (0 ∷ [])) j 1) q ∙ appended.gen_here)) ∙ o))
            go (no m) =
                subst (λ (l : List ℕ). Memᴰ i l) e (S.free.all i (appended.back i lt m) (sym (ap even (appended.gen_other i m)) ∙ o))

  -- a free slot
  module _ (j : ℕ) (l : List ℕ) (e : d.free ≡ j ∷ l) where
    here : Memᴰ j d.free
    here = subst (λ (f : List ℕ). Memᴰ j f) (sym e) (Memᴰ.head refl)

    pub inside : j < length d.gens
    inside = (S.free.odd j here).0

    odd-here : even (generation_at d j) ≡ false
    odd-here = (S.free.odd j here).1

    pub reused : Allocated d j (up (generation_at d j)) k (set d.gens j (up (generation_at d j))) (set d.kinds j (Some k)) (set d.parents j None) (λ w. set (d.ranges w) j (block 0 0))
    reused =
        record {
          was = odd-here;
          gen_here = get_or-set_same d.gens j (up (generation_at d j)) 1 inside;
          gen_even = up-even (generation_at d j) odd-here;
          gen_other = λ i n. get_or-set_other d.gens j i (up (generation_at d j)) 1 n;
          gen_fits = λ i lt. gen_fits i (simp length-set at lt) (ℕ_discrete i j);
          kind_here = get_or-set_same d.kinds j (Some k) None (omega (arith, inside, S.shape.kinds));
          kind_other = λ i n. get_or-set_other d.kinds j i (Some k) None n;
          parent_here = get_or-set_same d.parents j None None (omega (arith, inside, S.shape.parents));
          parent_other = λ i n. get_or-set_other d.parents j i None None n;
          range_here = λ w. get_or-set_same (d.ranges w) j (block 0 0) (block 0 0) (omega (arith, inside, S.shape.ranges w));
          range_other = λ w i n. get_or-set_other (d.ranges w) j i (block 0 0) (block 0 0) n;
          kinds_length = simp length-set S.shape.kinds;
          parents_length = simp length-set S.shape.parents;
          ranges_length = λ w. simp length-set (S.shape.ranges w);
          slot_in = simp length-set inside;
          back = λ i q n. simp length-set at q;
          grow = simp length-set (omega arith);
          how = inr (inside, refl);
          within = simp length-set S.within.slots;
        }
      where
        gen_fits : (i : ℕ) → i < length d.gens → Dec (i ≡ j) → get_or (set d.gens j (up (generation_at d j))) i 0 < 4294967296
        gen_fits i lt (yes q) = rw (q, get_or-set_same d.gens j (up (generation_at d j)) 0 inside) (omega arith)
        gen_fits i lt (no n) = rw (get_or-set_other d.gens j i (up (generation_at d j)) 0 n) (S.generations i lt)

    pub reused-free : (kinds : Kinds) (parents : List (Option ℕ)) (ranges : Which → List Block) (order : List ℕ) (p : Pool) (n : List (Option Name))
        → FreeSlots (with-columns d (set d.gens j (up (generation_at d j))) l kinds parents ranges order p n)
    reused-free kinds parents ranges order p n = record { odd = odd; all = all; once = once.1 }
      where
        once : Distinct (j ∷ l)
        once = subst Distinct e S.free.once

        odd : (i : ℕ) → Memᴰ i l
            → (i < length (set d.gens j (up (generation_at d j)))) × (even (get_or (set d.gens j (up (generation_at d j))) i 1) ≡ false)
        odd i m =
            let n : i ≢ j = λ q. once.0 (subst (λ (i : ℕ). Memᴰ i l) q m) in
            let o = S.free.odd i (subst (λ (f : List ℕ). Memᴰ i f) (sym e) (Memᴰ.tail m)) in
            (simp length-set o.0, ap even (reused.gen_other i n) ∙ o.1)

        all : (i : ℕ) → i < length (set d.gens j (up (generation_at d j))) → even (get_or (set d.gens j (up (generation_at d j))) i 1) ≡ false → Memᴰ i l
        all i lt o = go (ℕ_discrete i j)
          where
            drop_head : i ≢ j → (i ≡ j) ⊎ Memᴰ i l → Memᴰ i l
            drop_head n (inl q) = absurd (n q)
            drop_head n (inr m) = m

            go : Dec (i ≡ j) → Memᴰ i l
            go (yes q) = absurd (true≢false (sym (ap even (ap (λ (y : ℕ). get_or (set d.gens j (up (generation_at d j))) y 1) q ∙ reused.gen_here) ∙ reused.gen_even) ∙ o))
            go (no n) =
                drop_head n
                (Memᴰ.cases_cons (subst (λ (f : List ℕ). Memᴰ i f) e (S.free.all i (simp length-set at lt) (sym (ap even (reused.gen_other i n)) ∙ o))))
