-- What rules 4 and 5 tell a walk: what follows a node, and that its lists can be read.
-- Assumes nothing.
use Rattle.std.proofs.lemmas.Option.{none-some}
use Rattle.std.specs.Prelude.{None, Some}
use mathlib.Core.Path.{◌≡◌, refl, sym, ap, ◌∙◌, subst}
use mathlib.Core.Bool.{Bool, true, false, cond}
use mathlib.Core.Logic.{◌⊎◌, inl, inr}
use mathlib.Core.List.Memᴰ
use mathlib.Core.List.{List, ◌++◌, Memᴰ}
use Prim.Native.Nat.{ℕ, ◌+◌, ◌≤◌, ◌<◌, max}
use native.Mathlib.Omega.{arith}
use lib.ListN.{length, get_or}
use lib.Dec.{eqb}
use borrow.Author.Tests.{eqb-true}
use Rattle.words.specs.Lists.{count_of}
use Rattle.words.proofs.Tests.{and_left, and_right}
use Rattle.blocks.specs.Arena.{Arena, Block, block, cap_of}
use Rattle.records.specs.Handles.{handle_index, handle_generation}
use Rattle.records.proofs.Handles.{word_of-id_of}
use Rattle.model.specs.Kinds.{Which, children, attributes, namespaces, which_of}
use Rattle.model.specs.Doc.{Doc, root_handle, generation_at, live_slot, handle_word, handle_at, resolves, kind_in, parent_at, range_in, list_at}
use Rattle.model.specs.Rules.{Entries, block_in, Rules}
use Rattle.model.specs.Edits.{pushed_by}
use Rattle.laws.proofs.Wf.{Distinct}
use Rattle.layout.specs.declared.Document.{Document}
use Rattle.layout.specs.Layout.{memory_ok}
use Rattle.memory.specs.Decode.{slots_made, pool_in, names_in, lengths_add, decode}
use Rattle.memory.proofs.Columns.{live_made}
use Rattle.walks.specs.Order.{Listed, Walkable}
use Rattle.laws.proofs.Membership.{distinct_append, distinct-reverse, mem-reverse-old}
use Rattle.walks.proofs.Distinct.{count-distinct}
use Rattle.walks.proofs.Visits.{Nest}

-- a block is no longer than its capacity
len-cap : (a : Arena) (b : Block) → b.len ≤ cap_of a b
len-cap a b = go (eqb b.len 0) refl
  where
    go : (t : Bool) → eqb b.len 0 ≡ t → b.len ≤ cond t 0 (max b.len (get_or a.caps b.start 0))
    go true e = let z = eqb-true b.len 0 e in omega arith
    go false e = omega arith

module _ (D : Doc) (h : ℕ) (r : resolves D h ≡ true) where
  pub live_of : live_slot D (handle_index h) ≡ true
  live_of = and_left (live_slot D (handle_index h)) (eqb (generation_at D (handle_index h)) (handle_generation h)) r

  pub handle-of : handle_at D (handle_index h) ≡ h
  handle-of =
      ap (handle_word (handle_index h)) (eqb-true (generation_at D (handle_index h)) (handle_generation h) (and_right (live_slot D (handle_index h)) (eqb (generation_at D (handle_index h)) (handle_generation h)) r))
      ∙ word_of-id_of h

pub same_index : (D : Doc) (y z : ℕ) → resolves D y ≡ true → resolves D z ≡ true → handle_index y ≡ handle_index z → y ≡ z
same_index D y z a b e = sym (handle-of D y a) ∙ ap (handle_at D) e ∙ handle-of D z b

-- the lists of a node have it as parent, each entry once, and two of them share nothing
module _ (D : Doc) (E : Entries D) where
  pub parent_is : (w : Which) (x c : ℕ) → resolves D x ≡ true → Memᴰ c (list_at D w x) → parent_at D c ≡ Some x
  parent_is w x c lx m = (E.no_other w (handle_index x) c (live_of D x lx) m).1 ∙ ap Some (handle-of D x lx)

  pub entry-live : (w : Which) (x c : ℕ) → resolves D x ≡ true → Memᴰ c (list_at D w x) → resolves D c ≡ true
  entry-live w x c lx m = (E.no_other w (handle_index x) c (live_of D x lx) m).0

  pub list-once : (w : Which) (x : ℕ) → resolves D x ≡ true → Distinct (list_at D w x)
  list-once w x lx = count-distinct (list_at D w x) single
    where
      single : (c : ℕ) → Memᴰ c (list_at D w x) → count_of (eqb c) (list_at D w x) ≤ 1
      single c m =
          let o = E.no_other w (handle_index x) c (live_of D x lx) m in
          let q = E.one (handle_index c) x (live_of D c o.0) (parent_is w x c lx m) in
          let k : count_of (eqb c) (list_at D w x) ≡ 1 =
          ap (λ (v : Which). count_of (eqb c) (list_at D v x)) (sym o.2)
          ∙ ap (λ (h : ℕ). count_of (eqb h) (list_at D (which_of (kind_in D (handle_index c))) x)) (sym (handle-of D c o.0))
          ∙ q in
          omega arith

  lists-apart : (w v : Which) → (w ≡ v → ⊥) → (x c : ℕ) → resolves D x ≡ true → Memᴰ c (list_at D w x) → Memᴰ c (list_at D v x) → ⊥
  lists-apart w v ne x c lx m q =
      ne (sym (E.no_other w (handle_index x) c (live_of D x lx) m).2 ∙ (E.no_other v (handle_index x) c (live_of D x lx) q).2)

  -- what `free_subtree` pushes after a node
  module _ (x : ℕ) (lx : resolves D x ≡ true) where
    pushed-which : (c : ℕ) → Memᴰ c (pushed_by D x) → (w : Which) × Memᴰ c (list_at D w x)
    pushed-which c m = one (Memᴰ.append_cases (list_at D children x) (mem-reverse-old (list_at D children x ++ (list_at D attributes x ++ list_at D namespaces x)) m))
      where
        two : Memᴰ c (list_at D attributes x) ⊎ Memᴰ c (list_at D namespaces x) → (w : Which) × Memᴰ c (list_at D w x)
        two (inl q) = (attributes, q)
        two (inr q) = (namespaces, q)

        one : Memᴰ c (list_at D children x) ⊎ Memᴰ c (list_at D attributes x ++ list_at D namespaces x) → (w : Which) × Memᴰ c (list_at D w x)
        one (inl q) = (children, q)
        one (inr q) = two (Memᴰ.append_cases (list_at D attributes x) q)

    pushed-once : Distinct (pushed_by D x)
    pushed-once =
        distinct-reverse (list_at D children x ++ (list_at D attributes x ++ list_at D namespaces x))
        (distinct_append (list_at D children x) (list_at D attributes x ++ list_at D namespaces x) (list-once children x lx)
        (distinct_append (list_at D attributes x) (list_at D namespaces x) (list-once attributes x lx) (list-once namespaces x lx)
        (λ y m q. lists-apart attributes namespaces (λ e. let z : ◌≡◌ {A = ℕ} 0 1 = cc in omega arith) x y lx m q))
        (λ y m q. go y m (Memᴰ.append_cases (list_at D attributes x) q)))
      where
        go : (y : ℕ) → Memᴰ y (list_at D children x) → Memᴰ y (list_at D attributes x) ⊎ Memᴰ y (list_at D namespaces x) → ⊥
        go y m (inl q) = lists-apart children attributes (λ e. let z : ◌≡◌ {A = ℕ} 0 1 = cc in omega arith) x y lx m q
        go y m (inr q) = lists-apart children namespaces (λ e. let z : ◌≡◌ {A = ℕ} 0 1 = cc in omega arith) x y lx m q

  -- a walk from a node without a parent visits each node once
  pub nest-pushed : (top : ℕ) → resolves D top ≡ true → parent_at D top ≡ None → Nest (pushed_by D) (λ h. resolves D h ≡ true) (parent_at D) top
  nest-pushed top lt e = record { first = lt; child = kid; once = λ x lx. pushed-once x lx }
    where
      kid : (x c : ℕ) → resolves D x ≡ true → Memᴰ c (pushed_by D x) → (resolves D c ≡ true) × (parent_at D c ≡ Some x) × (c ≡ top → ⊥)
      kid x c lx m =
          let o = pushed-which x lx c m in (
            entry-live o.0 x c lx o.1,
            parent_is o.0 x c lx o.1,
            λ q. none-some x (sym e ∙ ap (parent_at D) (sym q) ∙ parent_is o.0 x c lx o.1),
          )

-- the children of a node have it as parent, each once, and the Root is none of them
pub nest : (D : Doc) → Walkable D → Nest (λ h. list_at D children h) (λ h. resolves D h ≡ true) (parent_at D) root_handle
nest D W = record {
  first = W.root;
  child = λ x c lx m. (
    entry-live D W.entries children x c lx m,
    parent_is D W.entries children x c lx m,
    λ e. none-some x (sym W.top ∙ ap (parent_at D) (sym e) ∙ parent_is D W.entries children x c lx m),
  );
  once = list-once D W.entries children;
}

-- the rules have what a walk uses
pub rules-walkable : (D : Doc) → Rules D → Walkable D
rules-walkable D r = record {
  entries = r.entries;
  blocks = r.blocks;
  root = rw (r.fields.root_generation, r.fields.root_kind);
  top = r.fields.root_parent;
}

module _ (d : Document) (mem : List ℕ) (ok : memory_ok d (length mem) ≡ true) where
  pub index-made : (h : ℕ) → resolves (decode d mem) h ≡ true → handle_index h < slots_made d
  index-made h r = live_made (pool_in d mem) (names_in d mem) (lengths_add d mem) d mem (handle_index h) (live_of (decode d mem) h r)

  pub walkable-listed : Walkable (decode d mem) → (h : ℕ) → resolves (decode d mem) h ≡ true → (w : Which) → Listed d mem w (handle_index h)
  walkable-listed W h r w =
      let D = decode d mem in
      let i = handle_index h in
      let same : block_in D w i ≡ range_in D w i = ap (λ (t : Bool). cond t (range_in D w i) (block 0 0)) (live_of D h r) in
      let b = subst (λ (x : Block). x.start + cap_of (D.arenas w) x ≤ (D.arenas w).used) same ((W.blocks w).inside i).below in
      record {
        held = record { memory = ok; live = live_of D h r; inside = omega (arith, len-cap (D.arenas w) (range_in D w i)) };
        slots = λ c m. let z = index-made c (W.entries.no_other w i c (live_of D h r) m).0 in omega arith;
      }
