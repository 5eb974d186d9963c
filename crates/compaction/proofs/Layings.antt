-- The lists of nodes laid in turn: which slots get new ranges, and that there is room for the next.
-- Assumes nothing.
use mathlib.Core.Path.{◌≡◌, refl, sym, ap, ◌∙◌, subst}
use mathlib.Core.Bool.{Bool, true, false, cond}
use mathlib.Core.List.{List, [], ◌∷◌, ◌++◌, map, Memᴰ}
use Prim.Native.Nat.{ℕ, ◌+◌, ◌≤◌}
use native.Mathlib.Omega.{arith}
use lib.ListN.{length, get_or, length-append}
use Rattle.words.specs.Lists.{joined, keep}
use Rattle.words.proofs.Lists.{map-append}
use Rattle.words.proofs.Joined.{joined-append}
use Rattle.blocks.specs.Arena.{Block, block, list_of}
use Rattle.blocks.proofs.Capacities.{capacity-least}
use Rattle.blocks.proofs.Edits.{list_length}
use Rattle.records.specs.Handles.{handle_index}
use Rattle.model.specs.Kinds.{Kind, Which, children, attributes, namespaces, same_which, which_of, is_element}
use Rattle.model.specs.Doc.{Doc, live_slot, kind_at, range_in, list_in, list_at, has_list}
use Rattle.model.specs.Rules.{Rules, has_range, block_in}
use Rattle.model.specs.Edits.{Laying, lay_list, lay_all, laying_from}
use Rattle.laws.proofs.Wf.{Distinct}
use Rattle.laws.proofs.Membership.{mem-map-cases, distinct-map}
use Rattle.laws.proofs.Laid.{total-within, range_of, laid_all, laid_all-other}
use Rattle.laws.proofs.Rebuilt.{mem-keep-old, distinct-keep}
use Rattle.walks.proofs.Walkable.{live_of, same_index}
use Rattle.compaction.proofs.MetNodes.{keep_append, Live, Met, met-in, met-live, met-once, next-live, met_next}

-- ---- in turn

module _ (D : Doc) where
  -- a node's list laid, where it has one
  lay-kind : (w : Which) (h : ℕ) (a : Laying) (q : Bool) → is_element (kind_at D h) ≡ q → lay_all D w (h ∷ []) a ≡ cond (has_list w q) (lay_list a (handle_index h) (list_at D w h)) a
  lay-kind children h a q e = refl
  lay-kind attributes h a true e = rw e
  lay-kind attributes h a false e = rw e
  lay-kind namespaces h a true e = rw e
  lay-kind namespaces h a false e = rw e

  pub lay-one : (w : Which) (h : ℕ) (a : Laying) → lay_all D w (h ∷ []) a ≡ cond (has_list w (is_element (kind_at D h))) (lay_list a (handle_index h) (list_at D w h)) a
  lay-one w h a = lay-kind w h a (is_element (kind_at D h)) refl

  pub lay-append : (w : Which) (l m : List ℕ) (a : Laying) → lay_all D w (l ++ m) a ≡ lay_all D w m (lay_all D w l a)
  lay-append w [] m a = refl
  lay-append w (h ∷ l) m a = lay-append w l m (lay_all D w (h ∷ []) a)

  -- the slots whose ranges are renewed
  abbrev pub slots_for : Which → List ℕ → List ℕ
  slots_for w l = map handle_index (keep (λ h. has_list w (is_element (kind_at D h))) l)

  pub lay-slots : (w : Which) (l : List ℕ) (a : Laying) → lay_all D w l a ≡ laid_all (list_in D w) (slots_for w l) a
  lay-slots w [] a = refl
  lay-slots w (h ∷ l) a = lay-slots w l (lay_all D w (h ∷ []) a) ∙ ap (laid_all (list_in D w) (slots_for w l)) (lay-one w h a) ∙ go (has_list w (is_element (kind_at D h)))
    where
      go : (q : Bool) → laid_all (list_in D w) (slots_for w l) (cond q (lay_list a (handle_index h) (list_at D w h)) a) ≡ laid_all (list_in D w) (map handle_index (cond q (h ∷ keep (λ h. has_list w (is_element (kind_at D h))) l) (keep (λ h. has_list w (is_element (kind_at D h))) l))) a
      go true = refl
      go false = refl

  slots-snoc : (w : Which) (l : List ℕ) (x : ℕ) → has_list w (is_element (kind_at D x)) ≡ true → slots_for w (l ++ (x ∷ [])) ≡ slots_for w l ++ (handle_index x ∷ [])
  slots-snoc w l x e =
      ap (map handle_index) (keep_append (λ h. has_list w (is_element (kind_at D h))) l (x ∷ []) ∙ ap (λ (t : Bool). keep (λ h. has_list w (is_element (kind_at D h))) l ++ cond t (x ∷ []) []) e)
      ∙ map-append handle_index (keep (λ h. has_list w (is_element (kind_at D h))) l) (x ∷ [])

pub laid-used : (lst : ℕ → List ℕ) (l : List ℕ) (a : Laying) → (laid_all lst l a).arena.used ≡ a.arena.used + length (joined lst l)
laid-used lst [] a = omega arith
laid-used lst (i ∷ l) a = laid-used lst l (lay_list a i (lst i)) ∙ omega (arith, length-append (lst i) (joined lst l))

-- a kind that stands among children has a range for each list that it has
pub has-range : {N T : Type 0} (w : Which) (k : Kind N T) → which_of k ≡ children → has_list w (is_element k) ≡ true → has_range w k ≡ true
has-range children k c e = ap (λ (v : Which). same_which v children) c
has-range attributes k c e = e
has-range namespaces k c e = e

-- ---- slots of nodes that are met

module _ (D : Doc) (l : List ℕ) (once : Distinct l) (live : (y : ℕ) → Memᴰ y l → Live D y) (w : Which) where
  pub slot-of : (i : ℕ) → Memᴰ i (slots_for D w l) → (h : ℕ) × Memᴰ h l × (has_list w (is_element (kind_at D h)) ≡ true) × (i ≡ handle_index h)
  slot-of i m =
      let o = mem-map-cases handle_index (keep (λ h. has_list w (is_element (kind_at D h))) l) m in
      let k = mem-keep-old (λ h. has_list w (is_element (kind_at D h))) l o.1 in
      (o.0, k.0, k.1, o.2)

  pub slot-live : (i : ℕ) → Memᴰ i (slots_for D w l) → live_slot D i ≡ true
  slot-live i m = let o = slot-of i m in ap (live_slot D) o.3 ∙ live_of D o.0 (live o.0 o.1).0

  pub slots-once : Distinct (slots_for D w l)
  slots-once =
      distinct-map handle_index (keep (λ h. has_list w (is_element (kind_at D h))) l)
      (λ a b ma mb e. same_index D a b (live a (mem-keep-old (λ h. has_list w (is_element (kind_at D h))) l ma).0).0 (live b (mem-keep-old (λ h. has_list w (is_element (kind_at D h))) l mb).0).0 e)
      (distinct-keep (λ h. has_list w (is_element (kind_at D h))) l once)

  -- their lists take no more than the arena had in use
  pub slots-fit : Rules D → length (joined (list_in D w) (slots_for D w l)) ≤ (D.arenas w).used
  slots-fit R = total-within (D.arenas w) (block_in D w) (R.blocks w) (list_in D w) (slots_for D w l) slots-once len
    where
      len : (i : ℕ) → Memᴰ i (slots_for D w l) → length (list_in D w i) ≡ (block_in D w i).len
      len i m =
          let e : block_in D w i ≡ range_in D w i = ap (λ (t : Bool). cond t (range_in D w i) (block 0 0)) (slot-live i m) in
          ap (λ (b : Block). length (list_of (D.arenas w) b)) (sym e) ∙ list_length (D.arenas w) (block_in D w i) (R.blocks w).shaped ((R.blocks w).inside i)

-- ---- the next node

abbrev pub layings : Doc → List ℕ → Which → Laying
layings D met w = lay_all D w met (laying_from D w)

module _ (D : Doc) (R : Rules D) (few : length D.gens ≤ 65536) (i : ℕ) (met : List ℕ) (x : ℕ) (s : List ℕ) (M : Met D i met (x ∷ s)) (w : Which) (has : has_list w (is_element (kind_at D x)) ≡ true) where
  -- its range is as it was
  pub next-fresh : get_or (lay_all D w met (laying_from D w)).ranges (handle_index x) (block 0 0) ≡ range_in D w (handle_index x)
  next-fresh =
      ap (λ (a : Laying). range_of a (handle_index x)) (lay-slots D w met (laying_from D w))
      ∙ laid_all-other (list_in D w) (slots_for D w met) (laying_from D w) (handle_index x) new
    where
      new : Memᴰ (handle_index x) (slots_for D w met) → ⊥
      new m =
          let o = slot-of D met (met-once D i met (x ∷ s) M) (met-live D i met (x ∷ s) M) w (handle_index x) m in
          let e : x ≡ o.0 = same_index D x o.0 (next-live D i met x s M).0 (met-live D i met (x ∷ s) M o.0 o.1).0 o.3 in
          M.visiting.apart x (met-in D i met (x ∷ s) M x (subst (λ (h : ℕ). Memᴰ h met) (sym e) o.1)) (Memᴰ.head refl)

  next-live-slot : live_slot D (handle_index x) ≡ true
  next-live-slot = live_of D x (next-live D i met x s M).0

  pub next-block : block_in D w (handle_index x) ≡ range_in D w (handle_index x)
  next-block = ap (λ (t : Bool). cond t (range_in D w (handle_index x)) (block 0 0)) next-live-slot

  pub next-inside : (range_in D w (handle_index x)).start + (range_in D w (handle_index x)).len ≤ (D.arenas w).used
  next-inside =
      subst (λ (b : Block). b.start + b.len ≤ (D.arenas w).used) next-block
      (omega (arith, ((R.blocks w).inside (handle_index x)).below, capacity-least (D.arenas w).caps (block_in D w (handle_index x))))

  pub next-length : length (list_at D w x) ≡ (range_in D w (handle_index x)).len
  next-length =
      ap (λ (b : Block). length (list_of (D.arenas w) b)) (sym next-block)
      ∙ list_length (D.arenas w) (block_in D w (handle_index x)) (R.blocks w).shaped ((R.blocks w).inside (handle_index x))
      ∙ ap (λ (b : Block). b.len) next-block

  -- behind the lists laid there is room for its list
  pub next-room : (lay_all D w met (laying_from D w)).arena.used + (range_in D w (handle_index x)).len ≤ (D.arenas w).used
  next-room =
      let N = met_next D R few i met x s M in
      let l = met ++ (x ∷ []) in
      let lst = joined (list_in D w) (slots_for D w met) in
      let u : (lay_all D w met (laying_from D w)).arena.used ≡ 0 + length lst = ap (λ (a : Laying). a.arena.used) (lay-slots D w met (laying_from D w)) ∙ laid-used (list_in D w) (slots_for D w met) (laying_from D w) in
      let f = slots-fit D l (met-once D i l (list_at D children x ++ s) N) (met-live D i l (list_at D children x ++ s) N) w R in
      let g : length (joined (list_in D w) (slots_for D w l)) ≡ length lst + length (list_at D w x) =
      ap (λ (k : List ℕ). length (joined (list_in D w) k)) (slots-snoc D w met x has)
      ∙ ap length (joined-append (list_in D w) (slots_for D w met) (handle_index x ∷ []))
      ∙ length-append lst (list_at D w x ++ [])
      ∙ omega (arith, length-append (list_at D w x) []) in
      omega (arith, u, f, g, next-length)
